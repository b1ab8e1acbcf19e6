-- What a reader has to believe of the fields of commands asked for: each stands at its place in its command, whether or not the whole body is good.
use Rattle.std.specs.Prelude.{ℕ, ◌+◌, ◌*◌, List, ◌&&◌, length, ltb, leb, eqb, if◌then◌else◌, Result, Ok, Err}
use Rattle.ground_refusal.specs.declared.Refusal.{Refusal}
use Rattle.ground_refusal.specs.declared.Refusal.TheVariants.{OutsideSet}
use Rattle.body_formats.specs.Reading.{Reading, found, refused, and_then, need}
use Rattle.body_formats.specs.Format.{Format, count, number, among, list_of, opaque, rest, counted, least_of}
use Rattle.body_formats.specs.Answers.{number_of, part_of, field_part, number_read, digit_read}
use Rattle.body_formats.specs.Resource.{resource_bytes, resource}
use Rattle.configuration.specs.Configuration.{date, clock, address, least}
use Rattle.body_asking.specs.Asking.{headed_part, nth_of}

-- ---- the table

unfoldable pub command_count : List ℕ → Result (ℕ × ℕ) Refusal
command_count s = number_read 1 s (length s) 0

-- a part asked for at the position found
abbrev pub part_at : {A : Type 0} → Reading A → (ℕ → Result (ℕ × ℕ) Refusal) → Result (ℕ × ℕ) Refusal
part_at (found a p) k = k p
part_at (refused r) k = Err r

-- "commands of tag 8, length 16, content": the part that the i-th one fills, from its tag to the end of its content
unfoldable pub command_part : List ℕ → ℕ → Result (ℕ × ℕ) Refusal
command_part s i =
    part_at (and_then ((count 1).parse s (length s) 0) (λ n q. nth_of (headed_part 1 2) n i s (length s) q)) (λ p.
    field_part p ((headed_part 1 2).parse s (length s) p))

-- it follows the commands: each has its tag, and its content after a length of 16 bits
unfoldable pub signature_part : List ℕ → Result (ℕ × ℕ) Refusal
signature_part s = part_of (and_then ((list_of (count 1) (headed_part 1 2)).parse s (length s) 0) (λ xs q. (opaque 2).parse s (length s) q))

-- ---- a command, told by p, where its tag stands: the first at 1, each next one where the content of the one before ends

-- "one that isn't there is 19, place 0": no command begins past the body
unfoldable pub tag_at : List ℕ → ℕ → Reading ℕ
tag_at s p = need (ltb p (length s)) (OutsideSet 0) ((number 1).parse s (length s) p)

-- "tag 8, length 16, content": "A shorter content is refused (15) at its length field"
unfoldable pub bytes_at : List ℕ → ℕ → Reading (List ℕ)
bytes_at s p = and_then (tag_at s p) (λ tag q. (counted (least_of 2 (least tag)) rest).parse s (length s) q)

unfoldable pub command_tag : List ℕ → ℕ → Result (ℕ × ℕ) Refusal
command_tag s p = number_of (tag_at s p)

unfoldable pub command_content : List ℕ → ℕ → Result (ℕ × ℕ) Refusal
command_content s p = part_of (bytes_at s p)

-- where the content ends, and where it begins: the content of a command with another tag isn't there
unfoldable pub content_at : ℕ → List ℕ → ℕ → Reading ℕ
content_at tag s p = and_then (tag_at s p) (λ t q. need (eqb t tag) (OutsideSet 0) (and_then (bytes_at s p) (λ cs l. found l (p + 3))))

-- the field k bytes into the content of a command with this tag
abbrev pub in_command : {A : Type 0} → Format A → ℕ → ℕ → List ℕ → ℕ → Reading A
in_command F tag k s p = and_then (content_at tag s p) (λ l q. F.parse s l (q + k))

-- a position found in a content that ends at l
abbrev pub place_read : Reading ℕ → Result (ℕ × ℕ) Refusal
place_read (found l q) = Ok (q, l)
place_read (refused r) = Err r

-- ---- 1: "year 16, month, day, hour, minute, second"

abbrev pub three_of : Reading (ℕ × (ℕ × ℕ)) → Result (ℕ × ℕ × ℕ × ℕ) Refusal
three_of (found x q) = Ok (x.0, x.1.0, x.1.1, q)
three_of (refused r) = Err r

abbrev pub first_of : Result (ℕ × ℕ × ℕ × ℕ) Refusal → Result (ℕ × ℕ) Refusal
first_of (Ok (a, b, c, q)) = Ok (a, q)
first_of (Err r) = Err r

abbrev pub middle_of : Result (ℕ × ℕ × ℕ × ℕ) Refusal → Result (ℕ × ℕ) Refusal
middle_of (Ok (a, b, c, q)) = Ok (b, q)
middle_of (Err r) = Err r

abbrev pub last_of : Result (ℕ × ℕ × ℕ × ℕ) Refusal → Result (ℕ × ℕ) Refusal
last_of (Ok (a, b, c, q)) = Ok (c, q)
last_of (Err r) = Err r

-- "an impossible or out-of-range day is 20 at the year", whichever of the three is asked for
unfoldable pub clock_date : List ℕ → ℕ → Result (ℕ × ℕ × ℕ × ℕ) Refusal
clock_date s p = three_of (in_command date 1 0 s p)

-- "an impossible time 20 at the hour"
unfoldable pub clock_time : List ℕ → ℕ → Result (ℕ × ℕ × ℕ × ℕ) Refusal
clock_time s p = three_of (in_command clock 1 4 s p)

unfoldable pub clock_year : List ℕ → ℕ → Result (ℕ × ℕ) Refusal
clock_year s p = first_of (clock_date s p)

unfoldable pub clock_month : List ℕ → ℕ → Result (ℕ × ℕ) Refusal
clock_month s p = middle_of (clock_date s p)

unfoldable pub clock_day : List ℕ → ℕ → Result (ℕ × ℕ) Refusal
clock_day s p = last_of (clock_date s p)

unfoldable pub clock_hour : List ℕ → ℕ → Result (ℕ × ℕ) Refusal
clock_hour s p = first_of (clock_time s p)

unfoldable pub clock_minute : List ℕ → ℕ → Result (ℕ × ℕ) Refusal
clock_minute s p = middle_of (clock_time s p)

unfoldable pub clock_second : List ℕ → ℕ → Result (ℕ × ℕ) Refusal
clock_second s p = last_of (clock_time s p)

-- ---- resources

-- the resource at a place, and its j-th digit
abbrev pub resource_of : List ℕ → Result (ℕ × ℕ) Refusal → Result (ℕ × ℕ) Refusal
resource_of s (Ok (q, l)) = field_part q (resource.parse s l q)
resource_of s (Err r) = Err r

abbrev pub digit_at : ℕ → List ℕ → Result (ℕ × ℕ) Refusal → Result (ℕ × ℕ) Refusal
digit_at j s (Ok (q, l)) = digit_read resource j s l q
digit_at j s (Err r) = Err r

-- ---- 2: "address length, address, resource"

unfoldable pub code_address : List ℕ → ℕ → Result (ℕ × ℕ) Refusal
code_address s p = part_of (in_command (opaque 1) 2 0 s p)

-- where the resource begins
unfoldable pub code_at : List ℕ → ℕ → Reading ℕ
code_at s p = and_then (content_at 2 s p) (λ l q. and_then ((opaque 1).parse s l q) (λ cs r. found l r))

unfoldable pub code_resource : List ℕ → ℕ → Result (ℕ × ℕ) Refusal
code_resource s p = resource_of s (place_read (code_at s p))

unfoldable pub code_digit : List ℕ → ℕ → ℕ → Result (ℕ × ℕ) Refusal
code_digit s p j = digit_at j s (place_read (code_at s p))

-- ---- 3: "frequency 32, symbol rate 32, mapping 0 to 5, terminals"

unfoldable pub frequency : List ℕ → ℕ → Result (ℕ × ℕ) Refusal
frequency s p = number_of (in_command (number 4) 3 0 s p)

unfoldable pub symbol_rate : List ℕ → ℕ → Result (ℕ × ℕ) Refusal
symbol_rate s p = number_of (in_command (number 4) 3 4 s p)

unfoldable pub mapping : List ℕ → ℕ → Result (ℕ × ℕ) Refusal
mapping s p = number_of (in_command (among 0 5 (number 1)) 3 8 s p)

-- ---- 4: "kind 1 to 3, address length, address, terminals"

unfoldable pub return_kind : List ℕ → ℕ → Result (ℕ × ℕ) Refusal
return_kind s p = number_of (in_command (among 1 3 (number 1)) 4 0 s p)

-- the address is judged by its kind
unfoldable pub address_in : List ℕ → ℕ → ℕ → Reading (List ℕ)
address_in s l q = and_then ((among 1 3 (number 1)).parse s l q) (λ kind r. (address kind).parse s l r)

unfoldable pub return_address : List ℕ → ℕ → Result (ℕ × ℕ) Refusal
return_address s p = part_of (and_then (content_at 4 s p) (λ l q. address_in s l q))

-- ---- 5: "period 32, terminals"; 6: "volume 0 to 100, terminals"

unfoldable pub period : List ℕ → ℕ → Result (ℕ × ℕ) Refusal
period s p = number_of (in_command (number 4) 5 0 s p)

unfoldable pub volume : List ℕ → ℕ → Result (ℕ × ℕ) Refusal
volume s p = number_of (in_command (among 0 100 (number 1)) 6 0 s p)

-- ---- 7: "parameter count, parameters, terminals"

unfoldable pub parameter_count : List ℕ → ℕ → Result (ℕ × ℕ) Refusal
parameter_count s p = number_of (in_command (count 1) 7 0 s p)

-- where the i-th thing begins of a list whose count stands at q: each has w bytes
unfoldable pub list_at : ℕ → ℕ → List ℕ → ℕ → ℕ → Reading ℕ
list_at w i s l q = and_then ((count 1).parse s l q) (λ n r. need (ltb i n) (OutsideSet 0) (found l (r + w * i)))

unfoldable pub parameter_at : List ℕ → ℕ → ℕ → Reading ℕ
parameter_at s p i = and_then (content_at 7 s p) (λ l q. list_at 1 i s l q)

unfoldable pub parameter : List ℕ → ℕ → ℕ → Result (ℕ × ℕ) Refusal
parameter s p i = number_of (and_then (parameter_at s p i) (λ l q. (number 1).parse s l q))

-- ---- terminals, of commands 3 to 7: "an 8-bit count and 12-byte resources"

-- where the list begins in a content from q to l
unfoldable pub terminals_in : ℕ → List ℕ → ℕ → ℕ → Reading ℕ
terminals_in tag s l q =
    if eqb tag 3 then found l (q + 9) else
    if eqb tag 4 then and_then (address_in s l q) (λ cs r. found l r) else
    if eqb tag 5 then found l (q + 4) else
    if eqb tag 6 then found l (q + 1) else
    and_then ((count 1).parse s l q) (λ n r. found l (r + n))

-- other commands have none
unfoldable pub terminals_at : List ℕ → ℕ → Reading ℕ
terminals_at s p = and_then (tag_at s p) (λ tag q. need (leb 3 tag && leb tag 7) (OutsideSet 0) (and_then (content_at tag s p) (λ l r. terminals_in tag s l r)))

unfoldable pub terminal_count : List ℕ → ℕ → Result (ℕ × ℕ) Refusal
terminal_count s p = number_of (and_then (terminals_at s p) (λ l q. (count 1).parse s l q))

unfoldable pub terminal_at : List ℕ → ℕ → ℕ → Reading ℕ
terminal_at s p i = and_then (terminals_at s p) (λ l q. list_at resource_bytes i s l q)

unfoldable pub terminal : List ℕ → ℕ → ℕ → Result (ℕ × ℕ) Refusal
terminal s p i = resource_of s (place_read (terminal_at s p i))

unfoldable pub terminal_digit : List ℕ → ℕ → ℕ → ℕ → Result (ℕ × ℕ) Refusal
terminal_digit s p i j = digit_at j s (place_read (terminal_at s p i))
