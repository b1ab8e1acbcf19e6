-- `time_local::of_form` meets its contract: at each turn, the text is formed exactly if what is left of it is.
use mathlib.Core.Path.{◌≡◌, sym, ap, ◌∙◌}
use mathlib.Core.Bool.{Bool, ◌&&◌}
use mathlib.Core.List.{List}
use Prim.Native.Nat.{ℕ, ◌+◌, ◌<◌}
use native.Mathlib.Omega.{arith}
use lib.ListN.{length, get_or, drop}
use Rattle.time_local.specs.Text.{fits, formed}
use Rattle.time_local.proofs.Forms.{other_length, turn, at_end}
use Rattle.time_local.proofs.of_form.Goals as goal

turned : (form text : List ℕ) (i : ℕ) → i < length form → i < length text → formed form text ≡ formed (drop i form) (drop i text)
    → {t : Bool} → fits (get_or form i 0) (get_or text i 0) ≡ t → formed form text ≡ (t && formed (drop (i + 1) form) (drop (i + 1) text))
turned form text i h k v e = v ∙ turn form text i h k ∙ ap (λ (u : Bool). u && formed (drop (i + 1) form) (drop (i + 1) text)) e

pub returns-then-form-text : goal.returns-then-form-text
returns-then-form-text c = sym (other_length _ _ c.if-form-text.true)

pub returns-then-not-fitting : goal.returns-then-not-fitting
returns-then-not-fitting c = let v = c.loop-i.invariant in
    sym (turned _ _ _ (omega arith) (omega arith) v.2 (sym c.fitting.ensures ∙ c.if-not-fitting.true))

pub loop-i-preserved : goal.loop-i-preserved
loop-i-preserved c = let v = c.loop-i.invariant in
    (omega arith, v.1, turned _ _ _ (omega arith) (omega arith) v.2 (sym c.fitting.ensures ∙ c.if-not-fitting.false))

pub returns : goal.returns
returns c = sym (c.loop-i.invariant.2 ∙ at_end _ _ c.loop-i.i (omega arith) (omega arith))
