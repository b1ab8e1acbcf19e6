-- `configuration_fields::terminals_in` meets its contract: it goes by the tag as the definition does.
use Prim.Native.Nat.{ℕ}
use mathlib.Core.Path.{◌≡◌, sym, ap, ◌∙◌}
use Rattle.configuration_fields.specs.Asked.{place_read, terminals_in}
use Rattle.configuration_fields.proofs.Answers.{after_mapping, after_period, after_volume}
use native.Mathlib.Omega.{arith}
use Rattle.configuration_fields.proofs.terminals_in.Goals as goal

pub returns-then-tag-eq3 : goal.returns-then-tag-eq3
returns-then-tag-eq3 c = after_mapping _ _ _ _ c.if-tag-eq3.true

pub returns-then-tag-eq4 : goal.returns-then-tag-eq4
returns-then-tag-eq4 c = let a = c.args in
    c.after_address.ensures ∙ ap (λ (t : ℕ). place_read (terminals_in t a.s.now a.l a.q)) (sym c.if-tag-eq4.true)

pub returns-then-tag-eq5 : goal.returns-then-tag-eq5
returns-then-tag-eq5 c = after_period _ _ _ _ c.if-tag-eq5.true

pub returns-then-tag-eq6 : goal.returns-then-tag-eq6
returns-then-tag-eq6 c = after_volume _ _ _ _ c.if-tag-eq6.true

pub returns : goal.returns
returns c = let a = c.args in
    c.after_parameters.ensures ∙ ap (λ (t : ℕ). place_read (terminals_in t a.s.now a.l a.q)) (let z : 7 ≡ a.tag = omega arith in z)
