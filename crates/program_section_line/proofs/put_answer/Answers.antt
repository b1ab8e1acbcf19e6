-- `program_section_line::put_answer` meets its contract: the judgement says which of the two texts is put, part after part.
use Prim.Native.Nat.{ℕ, ◌+◌, ◌≤◌}
use mathlib.Core.List.{List, ◌++◌}
use mathlib.Core.Path.{◌≡◌, sym, ap, ◌∙◌}
use native.Mathlib.Nat.{zero-add}
use borrow.Author.Rules.{rules}
use lib.ListN.{length}
use Rattle.std.specs.Prelude.{Ok, Err}
use Rattle.ground_refusal.specs.declared.Refusal.{Refusal}
use Rattle.section_reader.specs.declared.Heading.{Heading}
use Rattle.program_printing.specs.Characters.{ascii, decimal_of, refused_text}
use Rattle.ground_placing.proofs.Putting.{room_first, put_room, put_then}
use Rattle.program_section_line.specs.Line.{judged_of, heading_text, section_answered}
use Rattle.program_section_line.proofs.put_answer.Goals as goal

good_text : (s : List ℕ) (h : Heading) (n : ℕ) → judged_of s ≡ Ok (h, n) → section_answered s ≡ decimal_of h.number ++ (ascii " " ++ decimal_of n)
unfolding section_answered
good_text s h n e = ap heading_text e

bad_text : (s : List ℕ) (r : Refusal) → judged_of s ≡ Err r → section_answered s ≡ refused_text r
unfolding section_answered
bad_text s r e = ap heading_text e

good_room : (s : List ℕ) (h : Heading) (n room : ℕ) → judged_of s ≡ Ok (h, n) → length (section_answered s) ≤ room
    → 0 + length (decimal_of h.number ++ (ascii " " ++ decimal_of n)) ≤ room
good_room s h n room e fits = simp zero-add (rw (good_text s h n e) at fits)

pub put_decimal-number-requires : goal.put_decimal-number-requires
put_decimal-number-requires c = let h = c.in-Ok.heading in
    let n = c.in-Ok.length in
    room_first 0 (decimal_of h.number) (ascii " " ++ decimal_of n) (good_room _ h n _ (sym c.judged.ensures ∙ c.in-Ok.is) c.requires)

pub put_bytes-space-requires : goal.put_bytes-space-requires
put_bytes-space-requires c = let h = c.in-Ok.heading in
    let n = c.in-Ok.length in
    room_first c.put_decimal-number.result (ascii " ") (decimal_of n)
    (put_room (ascii " " ++ decimal_of n) c.put_decimal-number.ensures (good_room _ h n _ (sym c.judged.ensures ∙ c.in-Ok.is) c.requires))

pub put_decimal-requires : goal.put_decimal-requires
put_decimal-requires c = let h = c.in-Ok.heading in
    let n = c.in-Ok.length in
    put_room (decimal_of n) c.put_bytes-space.ensures
    (put_room (ascii " " ++ decimal_of n) c.put_decimal-number.ensures (good_room _ h n _ (sym c.judged.ensures ∙ c.in-Ok.is) c.requires))

pub put_refused-requires : goal.put_refused-requires
put_refused-requires c = simp zero-add (rw (bad_text _ _ (sym c.judged.ensures ∙ c.in-Err.is)) at c.requires)

pub returns-in-Ok : goal.returns-in-Ok
returns-in-Ok c = rw (good_text _ _ _ (sym c.judged.ensures ∙ c.in-Ok.is))
    (put_then c.put_decimal-number.ensures (put_then c.put_bytes-space.ensures c.put_decimal.ensures))

pub returns-in-Err : goal.returns-in-Err
returns-in-Err c = rw (bad_text _ _ (sym c.judged.ensures ∙ c.in-Err.is)) c.put_refused.ensures
