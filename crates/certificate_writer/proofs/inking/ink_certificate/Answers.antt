-- `certificate_writer::inking::ink_certificate` meets its contract: the three fields one after the other, under their names.
use mathlib.Core.Path.{refl}
use borrow.Author.Rules.{rules}
use Rattle.ground_refusal.specs.declared.Refusal.TheVariants.{LeftOver}
use Rattle.body_ink.proofs.Pairs.{first, second, pair_inked, view_ready, view_inked, exact_ready, exact_inked}
use Rattle.body_ink.proofs.Writers.{whole}
use Rattle.certificate.specs.Certificate.{named, unnamed, fields, certificate}
use Rattle.certificate_writer.proofs.inking.ink_certificate.Goals as goal

pub ink_list-a-requires : goal.ink_list-a-requires
unfolding certificate fields
ink_list-a-requires c = first _ _ (view_ready named unnamed (exact_ready LeftOver c.requires) (λ a. refl))

pub ink_list-b-requires : goal.ink_list-b-requires
unfolding certificate fields
ink_list-b-requires c = first _ _ (second c.ink_list-a.ensures (view_ready named unnamed (exact_ready LeftOver c.requires) (λ a. refl)))

pub part-requires : goal.part-requires
unfolding certificate fields
part-requires c = second c.ink_list-b.ensures (second c.ink_list-a.ensures (view_ready named unnamed (exact_ready LeftOver c.requires) (λ a. refl)))

pub shape_of-out : goal.shape_of-out
unfolding certificate fields
shape_of-out c = search rules

pub returns : goal.returns
unfolding certificate fields
returns c = whole (exact_inked (view_inked
    (pair_inked c.ink_list-a.ensures (pair_inked c.ink_list-b.ensures c.part.ensures)) named unnamed (λ a. refl)) LeftOver)
