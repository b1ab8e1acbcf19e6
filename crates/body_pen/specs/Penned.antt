-- What a reader has to believe of a pen that goes through a form: it judges the fields, and measures their bytes.
use Rattle.std.specs.Prelude.{ℕ, ◌+◌, ◌-◌, min, ◌≡◌, List, [], ◌∷◌, Bool, true, false, not, length, ltb, leb, if◌then◌else◌, Result, Ok, Err}
use Rattle.ground_numbers.specs.Sizes.{body_most}
use Rattle.ground_refusal.specs.Numbers.{placeless}
use Rattle.ground_refusal.specs.declared.Refusal.{Refusal}
use Rattle.ground_refusal.specs.declared.Refusal.TheVariants.{OutsideSet, OutputTooSmall, TooLarge}
use Rattle.body_formats.specs.Reading.{Reading, found, refused}
use Rattle.body_formats.specs.Format.{Format, tape_entry}

-- One more than a body may have stands for all that are too many, and for a count or a length that is too large for its field. Both are 22.
abbrev pub above_body : ℕ
above_body = body_most + 1

-- the bytes so far and n more
unfoldable pub more : ℕ → ℕ → Bool → ℕ
more size n over = if over then above_body else min (size + n) above_body

abbrev pub pen_onward : {A : Type 0} → Format A → ℕ → Reading A → Result (ℕ × ℕ) Refusal
pen_onward F size (found a k) = Ok (more size (length (F.print a)) (F.too_large a), k)
pen_onward F size (refused r) = Err r

-- the first refusal stands
unfoldable pub penned : {A : Type 0} → Format A → List ℕ → List ℕ → Result (ℕ × ℕ) Refusal → Result (ℕ × ℕ) Refusal
penned F pool tape (Ok (size, k)) = pen_onward F size (F.form pool tape k)
penned F pool tape (Err r) = Err r

-- a pen through a number, which is told too: a count, or a flag
abbrev pub count_onward : Format ℕ → ℕ → Reading ℕ → Result ((ℕ × ℕ) × ℕ) Refusal
count_onward C size (found n k) = Ok ((more size (length (C.print n)) (C.too_large n), k), n)
count_onward C size (refused r) = Err r

unfoldable pub counted : Format ℕ → List ℕ → List ℕ → Result (ℕ × ℕ) Refusal → Result ((ℕ × ℕ) × ℕ) Refusal
counted C pool tape (Ok (size, k)) = count_onward C size (C.form pool tape k)
counted C pool tape (Err r) = Err r

-- ---- counted parts: a length stands before its part, and is known after it

-- a pen past the w bytes of a length
unfoldable pub gapped : ℕ → Result (ℕ × ℕ) Refusal → Result (ℕ × ℕ) Refusal
gapped w (Ok (size, k)) = Ok (more size w false, k)
gapped w (Err r) = Err r

-- a pen past a part: x is before the w bytes of its length, b after its own; a part that is not shorter than the limit is too large
unfoldable pub closed : ℕ → ℕ → Result (ℕ × ℕ) Refusal → Result (ℕ × ℕ) Refusal → Result (ℕ × ℕ) Refusal
closed w limit (Ok (size, k)) (Ok (end, j)) = Ok (more end 0 (not (ltb (end - size - w) limit)), j)
closed w limit (Ok (size, k)) (Err r) = Err r
closed w limit (Err r) b = Err r

-- ---- the count of a list that the body does not have

unfoldable pub unprinted : Format ℕ
unprinted =
    record {
      parse = λ s l p. found 0 p;
      print = λ n. [];
      writable = λ n. true;
      too_large = λ n. false;
      form = λ pool tape k. tape_entry tape k;
      tape = λ n p. n ∷ [];
    }

-- ---- whole forms

-- what a pen past a form of so many entries says of it: entries left over are 19 at the first of them, a body that is too long is 22
unfoldable pub form_measured : ℕ → Result (ℕ × ℕ) Refusal → Result ℕ Refusal
form_measured entries (Ok (size, k)) =
    if ltb k entries then Err (OutsideSet k) else
    if ltb body_most size then Err TooLarge else Ok size
form_measured entries (Err r) = Err r

-- what a writer with so much room answers of a form that was measured
unfoldable pub step_fitting : ℕ → Result ℕ Refusal → Result ℕ Refusal
step_fitting room (Ok n) = if leb n room then Ok n else Err OutputTooSmall
step_fitting room (Err r) = Err (placeless r)
