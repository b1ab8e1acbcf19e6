-- `certificate_reader::walk_certificate` meets its contract: the three fields walked one after the other, under their names, and no byte left.
use mathlib.Core.Path.{refl}
use Rattle.ground_refusal.specs.declared.Refusal.TheVariants.{LeftOver}
use Rattle.body_formats.proofs.Parts.{followed_lawful, opaque_lawful}
use Rattle.body_walk.proofs.Pairs.{pair, view_walk, exact_walk}
use Rattle.certificate.specs.Certificate.{named, unnamed, fields, certificate}
use Rattle.certificate.proofs.Lawful.{parts_lawful}
use Rattle.certificate_reader.proofs.walk_certificate.Goals as goal

pub returns : goal.returns
returns c = unfold certificate fields in exact_walk LeftOver
    (view_walk named unnamed (λ a. refl) (pair (parts_lawful 2) (followed_lawful _ _ (parts_lawful 1) (λ a. opaque_lawful 2)).formal
    c.walk_list-a.ensures (pair (parts_lawful 1) (opaque_lawful 2).formal c.walk_list-b.ensures
    c.walk_part-c.ensures))) c.finish.ensures
