-- `program_printing::put_digits` meets its contract: what stands, with the digits that are left placed on it, stays the same.
use Prim.Native.Nat.{suc, ◌+◌, ◌-◌}
use mathlib.Core.Path.{◌≡◌, sym, ap, ◌∙◌}
use native.Mathlib.Nat.{mod-lt}
use native.Mathlib.Omega.{arith}
use borrow.Author.Rules.{rules}
use Rattle.program_printing.proofs.Digits.{digits_length, digits_turn, digits_done}
use Rattle.program_printing.proofs.put_digits.Goals as goal

pub digit-requires : goal.digit-requires
digit-requires c = omega (arith, mod-lt c.loop-i.rest c.requires.0)

pub loop-i-preserved : goal.loop-i-preserved
loop-i-preserved c = let l = c.loop-i in
    let a = c.args in
    let k = a.width - (l.i + 1) in
    let left : a.width - l.i ≡ suc k = omega arith in (
      search rules,
      rw c.digit.ensures
          (sym (digits_turn l.out a.at a.base k _ l.rest (omega arith) (omega arith)) ∙ (rw left at l.invariant.1)),
    )

pub returns : goal.returns
returns c = let l = c.loop-i in
    let a = c.args in
    let n = digits_length a.base a.width a.number in
    record {
      fits = omega (arith, n);
      written = sym (digits_done l.out _ _ _ l.rest (omega arith)) ∙ l.invariant.1;
      after = sym (ap (λ n. a.at + n) n);
    }
