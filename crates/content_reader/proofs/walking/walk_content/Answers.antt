-- `content_reader::walking::walk_content` meets its contract: the identifier, the languages after their count, the signature, and no byte left.
use Prim.Native.Nat.{ℕ}
use mathlib.Core.Path.{refl}
use native.Mathlib.Omega.{arith}
use Rattle.ground_refusal.specs.declared.Refusal.TheVariants.{LeftOver}
use Rattle.body_formats.specs.Format.{◌▷◌, among, reserved, list_of, opaque}
use Rattle.body_formats.proofs.Classes.{Lawful}
use Rattle.body_formats.proofs.Leaves.{reserved_lawful}
use Rattle.body_formats.proofs.Identifiers.{identifier_lawful}
use Rattle.body_formats.proofs.Bits.{among_lawful}
use Rattle.body_formats.proofs.Parts.{followed_lawful, opaque_lawful}
use Rattle.body_formats.proofs.Lists.{list_lawful}
use Rattle.body_walk.proofs.Pairs.{pair, view_walk, exact_walk}
use Rattle.content.specs.Content.{language, fields, content}
use Rattle.content.proofs.Lawful.{language_lawful}
use Rattle.content_reader.proofs.walking.walk_content.Goals as goal

count_lawful : Lawful (among 1 5 (reserved 4 0))
count_lawful = among_lawful 1 5 (reserved 4 0) (reserved_lawful 4 0 (omega arith))

languages_lawful : (w : ℕ) → Lawful (list_of (among 1 5 (reserved 4 0)) (language w))
languages_lawful w = list_lawful (language w) (language_lawful w) _ count_lawful

-- the fields from the languages on keep the laws of formats
from_languages : (w : ℕ) → Lawful (list_of (among 1 5 (reserved 4 0)) (language w) ▷ opaque 2)
from_languages w = followed_lawful _ _ (languages_lawful w) (λ a. opaque_lawful 2)

pub returns : goal.returns
unfolding content fields
returns c = exact_walk LeftOver
    (view_walk _ _ (λ a. refl)
    (pair identifier_lawful (from_languages _).formal c.walk_identifier-a.ensures
    (pair (languages_lawful _) (opaque_lawful 2).formal
    c.walk_languages-b.ensures c.walk_part-c.ensures)))
    c.finish.ensures
