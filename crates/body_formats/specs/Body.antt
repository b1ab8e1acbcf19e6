-- What a reader has to believe of whole bodies: what their reader answers, and what their writer writes.
use Rattle.std.specs.Prelude.{ℕ, List, not, length, leb, eqb, Result}
use Rattle.ground_refusal.specs.declared.Refusal.{Refusal}
use Rattle.ground_placing.specs.Placed.{placed}
use Rattle.ground_numbers.specs.Sizes.{body_most}
use Rattle.ground_refusal.specs.Numbers.{placeless}
use Rattle.ground_refusal.specs.declared.Refusal.TheVariants.{OtherKind, OutsideSet, OutputTooSmall, TooLarge}
use Rattle.body_formats.specs.Reading.{Reading, found, refused, and_then, need}
use Rattle.body_formats.specs.Format.{Format, nothing}
use Rattle.body_formats.specs.Answers.{step_of}

-- "2 for a wrong kind, then 22" ("a body above 1,045,504 bytes"), "come first", and then the fields
unfoldable pub reading : {A : Type 0} → Format A → ℕ → ℕ → List ℕ → Reading A
reading F own kind s =
    need (eqb kind own) OtherKind
    (need (leb (length s) body_most) TooLarge (F.parse s (length s) 0))

-- "Writers: fields in order, then 22": the value that a form lays out, and the length of its body. A field is refused at the entry of
-- the tape where it begins; entries left over are 19 at the first of them.
unfoldable pub measuring : {A : Type 0} → Format A → List ℕ → List ℕ → Reading A
measuring F pool tape =
    and_then (F.form pool tape 0) (λ a k.
    need (leb (length tape) k) (OutsideSet k)
    (need (not (F.too_large a)) TooLarge
    (need (leb (length (F.print a)) body_most) TooLarge (found a (length (F.print a))))))

-- how long the body of a form is, whatever room there is, or why and at which entry it is refused
unfoldable pub measured : {A : Type 0} → Format A → List ℕ → List ℕ → Result ℕ Refusal
measured F pool tape = step_of (measuring F pool tape)

-- "and always 0 from writers", "then 21": the same, where a writer has room for so many bytes
abbrev pub fitting : {A : Type 0} → ℕ → Reading A → Reading A
fitting room (found a n) = need (leb n room) OutputTooSmall (found a n)
fitting room (refused r) = refused (placeless r)

unfoldable pub writing : {A : Type 0} → Format A → List ℕ → List ℕ → ℕ → Reading A
writing F pool tape room = fitting room (measuring F pool tape)

-- "Cutter and writers leave the output's bytes after theirs", and a refusal writes no byte
abbrev pub written_over : {A : Type 0} → Format A → List ℕ → Reading A → List ℕ
written_over F out (found a m) = placed out 0 (F.print a)
written_over F out (refused r) = out

unfoldable pub output_written : {A : Type 0} → Format A → List ℕ → List ℕ → List ℕ → List ℕ
output_written F pool tape out = written_over F out (writing F pool tape (length out))

-- where a body's table ends, or why it is refused
unfoldable pub body_read : {A : Type 0} → Format A → ℕ → ℕ → List ℕ → Result ℕ Refusal
body_read F own kind s = step_of (reading F own kind s)

-- what is asked of a body before its fields
unfoldable pub opened : ℕ → ℕ → List ℕ → Result ℕ Refusal
opened own kind s = body_read nothing own kind s

-- how long the written body is, or why it is refused
unfoldable pub body_written : {A : Type 0} → Format A → List ℕ → List ℕ → ℕ → Result ℕ Refusal
body_written F pool tape room = step_of (writing F pool tape room)

-- an accepted body laid out for a writer, with itself as the pool: the table and the number of its entries; a tape too small is 21
unfoldable pub laying : {A : Type 0} → Format A → ℕ → ℕ → List ℕ → ℕ → Reading A
laying F own kind s room =
    and_then (reading F own kind s) (λ a q.
    need (leb (length (F.tape a 0)) room) OutputTooSmall (found a (length (F.tape a 0))))

unfoldable pub body_laid : {A : Type 0} → Format A → ℕ → ℕ → List ℕ → ℕ → Result ℕ Refusal
body_laid F own kind s room = step_of (laying F own kind s room)

abbrev pub laid_over : {A : Type 0} → Format A → List ℕ → Reading A → List ℕ
laid_over F tape (found a n) = placed tape 0 (F.tape a 0)
laid_over F tape (refused r) = tape

unfoldable pub laid_tape : {A : Type 0} → Format A → ℕ → ℕ → List ℕ → List ℕ → List ℕ
laid_tape F own kind s tape = laid_over F tape (laying F own kind s (length tape))
