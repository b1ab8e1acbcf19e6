-- `content_reader::walking::walk_language_fields` meets its contract: its fields one after the other.
use Prim.Native.Nat.{ℕ}
use native.Mathlib.Omega.{arith}
use Rattle.body_formats.specs.Format.{◌▷◌, among, reserved, opaque}
use Rattle.body_formats.proofs.Classes.{Lawful}
use Rattle.body_formats.proofs.Leaves.{reserved_lawful}
use Rattle.body_formats.proofs.Bits.{among_lawful, bytes_among_lawful}
use Rattle.body_formats.proofs.Parts.{followed_lawful, opaque_lawful}
use Rattle.body_walk.proofs.Pairs.{pair}
use Rattle.body_walk.proofs.Counts.{past_told}
use Rattle.content.specs.Content.{auxiliaries, language_fields}
use Rattle.content.proofs.Lawful.{auxiliaries_lawful}
use Rattle.content_reader.proofs.walking.walk_language_fields.Goals as goal

set_lawful : Lawful (among 0 4 (reserved 5 0))
set_lawful = among_lawful 0 4 (reserved 5 0) (reserved_lawful 5 0 (omega arith))

module _ (w : ℕ) where
  from_agency : Lawful (opaque 1 ▷ auxiliaries w)
  from_agency = followed_lawful _ _ (opaque_lawful 1) (λ a. auxiliaries_lawful w)

  from_text : Lawful (opaque 2 ▷ (opaque 1 ▷ auxiliaries w))
  from_text = followed_lawful _ _ (opaque_lawful 2) (λ a. from_agency)

  from_set : Lawful (among 0 4 (reserved 5 0) ▷ (opaque 2 ▷ (opaque 1 ▷ auxiliaries w)))
  from_set = followed_lawful _ _ set_lawful (λ a. from_text)

pub returns : goal.returns
unfolding language_fields
returns c = pair (bytes_among_lawful 0x61 0x7A 3) (from_set _).formal c.walk_bytes-a.ensures
    (pair set_lawful (from_text _).formal (past_told c.walk_reserved_among.ensures c.onward-b.ensures)
    (pair (opaque_lawful 2) (from_agency _).formal c.walk_part-c.ensures
    (pair (opaque_lawful 1) (auxiliaries_lawful _).formal c.walk_part-d.ensures c.walk_auxiliaries.ensures)))
