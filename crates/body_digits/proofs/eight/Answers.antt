-- `body_digits::eight` meets its contract: a part is its two halves.
use mathlib.Core.Path.{◌∙◌, sym, ap₂}
use mathlib.Core.Bool.{◌&&◌}
use Rattle.body_digits.proofs.Digits.{digits_join}
use Rattle.body_digits.proofs.eight.Goals as goal

pub returns : goal.returns
returns c = let given = c.args in
    ap₂ ◌&&◌ c.four.ensures c.four-2.ensures ∙ sym (digits_join given.s.now given.p 4 4)
