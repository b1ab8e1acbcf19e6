-- `screen_code::pack` meets its contract. The loop's invariant: the bytes before the i-th are the code's.
use mathlib.Core.Path.{refl, sym, ◌∙◌}
use native.Mathlib.Omega.{arith}
use lib.ListN.{length-set}
use Rattle.screen_code.proofs.Same.{code_long}
use Rattle.screen_code.proofs.Printed.{put_first, first_byte, next_byte, put_next, put_all}
use Rattle.screen_code.proofs.pack.Goals as goal

pub bounds-code-0 : goal.bounds-code-0
bounds-code-0 c = omega (arith, code_long _ c.requires)

pub loop-i-init : goal.loop-i-init
loop-i-init c = let pre = c.requires in
    (refl, put_first _ pre _ (c.pair.ensures ∙ sym (first_byte _ pre)))

pub bounds-code-i : goal.bounds-code-i
bounds-code-i c = omega (arith, code_long _ c.requires)

pub bounds-code-i-in-loop-i : goal.bounds-code-i-in-loop-i
bounds-code-i-in-loop-i c = omega (arith, code_long _ c.requires)

pub loop-i-preserved : goal.loop-i-preserved
loop-i-preserved c = let pre = c.requires in
    let l = c.loop-i in (
      simp length-set l.invariant.0,
      put_next _ pre _ l.i l.invariant.0 l.invariant.1 _ (omega arith) (c.pair-in-loop-i.ensures ∙ sym (next_byte _ pre l.i (omega arith) (omega arith))),
    )

pub returns : goal.returns
returns c = let l = c.loop-i in
    put_all _ c.requires _ l.i l.invariant.0 l.invariant.1 (omega arith)
