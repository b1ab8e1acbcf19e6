-- `body_form_glance::last_part` meets its contract: the last two entries say a part of at most 65,535 bytes.
use mathlib.Core.Path.{refl}
use native.Mathlib.Omega.{arith}
use borrow.Author.Rules.{rules}
use Rattle.ground_choices.proofs.Tests.{met}
use Rattle.body_form_glance.proofs.Forms.{untold, lays_to, part_laid}
use Rattle.body_form_glance.proofs.last_part.Statement.{statement}
use Rattle.body_form_glance.proofs.last_part.Tie as tie

pub last_part_spec : {M : Type 1} → statement M
last_part_spec =
    tie.close
    (tie.spec
    (λ c. search rules)
    (λ c. (omega arith, untold))
    (λ c. search rules)
    (λ c. search rules)
    (λ c. search rules)
    (λ c. (omega arith, untold))
    (λ c κs. search rules)
    (λ c. (omega arith, untold))
    (λ c. search rules)
    (λ c. search rules)
    (λ c. search rules)
    (λ c. search rules)
    (λ c. let asked : tie.After-good_span = search in
    let within : tie.Else-not-good_span = search in
    let one = part_laid _ _ _ 2 refl (omega arith) (omega arith) (met _ asked.good_span.ensures within.if-not-good_span.false-raw) in
    (omega arith, λ some. (one.0, lays_to (omega arith) refl one.1))))
