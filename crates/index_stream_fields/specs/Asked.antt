-- What a reader has to believe of the fields of a descriptor or a stream asked for: each stands at its place, whether or not the whole body is good.
use Rattle.std.specs.Prelude.{ℕ, ◌+◌, List, length, Result}
use Rattle.ground_refusal.specs.declared.Refusal.{Refusal}
use Rattle.body_formats.specs.Reading.{Reading, found, and_then}
use Rattle.body_formats.specs.Format.{number, reserved, many, opaque, rest, counted, length12}
use Rattle.body_formats.specs.Answers.{number_of, part_of}
use Rattle.body_asking.specs.Asking.{in_body, in_part}
use Rattle.index.specs.Index.{descriptor, stream}
use Rattle.index.specs.Places.{stream_pid_place, stream_descriptors_place}

-- ---- a descriptor or a stream, told by where it begins and how many bytes its part has from there on: the next one begins where it ends

-- both begin with a byte
unfoldable pub first_byte : List ℕ → ℕ → ℕ → Result (ℕ × ℕ) Refusal
first_byte s at n = number_of (in_part s at n (λ l. (number 1).parse s l at))

unfoldable pub descriptor_tag : List ℕ → ℕ → ℕ → Result (ℕ × ℕ) Refusal
descriptor_tag s at n = first_byte s at n

unfoldable pub descriptor_part : List ℕ → ℕ → ℕ → Result (ℕ × ℕ) Refusal
descriptor_part s at n = part_of (in_part s at n (λ l. (opaque 1).parse s l (at + 1)))

unfoldable pub stream_type : List ℕ → ℕ → ℕ → Result (ℕ × ℕ) Refusal
stream_type s at n = first_byte s at n

unfoldable pub stream_pid : List ℕ → ℕ → ℕ → Result (ℕ × ℕ) Refusal
stream_pid s at n = number_of (in_part s at n (λ l. (reserved 3 1).parse s l (at + stream_pid_place)))

unfoldable pub stream_descriptors : List ℕ → ℕ → ℕ → Result (ℕ × ℕ) Refusal
stream_descriptors s at n = part_of (in_part s at n (λ l. (counted length12 rest).parse s l (at + stream_descriptors_place)))

-- ---- how many descriptors or streams fill a part: "descriptors and streams repeat to the end of their part", and the first bad one is refused

abbrev pub count_of : {A : Type 0} → Reading (List A) → Reading ℕ
count_of x = and_then x (λ xs q. found (length xs) q)

unfoldable pub descriptor_count : List ℕ → ℕ → ℕ → Result (ℕ × ℕ) Refusal
descriptor_count s at n = number_of (count_of (in_body s at n (λ l. (many descriptor).parse s l at)))

unfoldable pub stream_count : List ℕ → ℕ → ℕ → Result (ℕ × ℕ) Refusal
stream_count s at n = number_of (count_of (in_body s at n (λ l. (many stream).parse s l at)))
