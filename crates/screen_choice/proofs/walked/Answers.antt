-- `screen_choice::walked` meets its contract. The loop's invariant: the messages that are left stand from p on, and what is kept leads those before.
use Prim.Native.Nat.{◌+◌, ◌-◌, ◌≤◌}
use Prim.Native.Nat.{ℕ}
use native.Mathlib.Omega.{arith}
use Rattle.screen_choice.proofs.Messages.{room, length_is, stands, underway, walked, here, on}
use Rattle.screen_choice.proofs.walked.Goals as goal

pub loop-i-init : goal.loop-i-init
loop-i-init c = (c.requires, λ code ms t. underway _ _ _ code _ ms t)

pub length_at-n-requires : goal.length_at-n-requires
length_at-n-requires c = let l = c.loop-i in
    let t = l.invariant.0.2 in
    let h = here _ _ _ _ _ _ _ _ _ t (l.invariant.1 _ _ t) (omega arith) in
    omega (arith, room _ _ _ _ h)

pub overflow_add-p : goal.overflow_add-p
overflow_add-p c = let l = c.loop-i in
    let t = l.invariant.0.2 in
    let h = here _ _ _ _ _ _ _ _ _ t (l.invariant.1 _ _ t) (omega arith) in
    omega (arith, room _ _ _ _ h)

pub considered-best-requires : goal.considered-best-requires
considered-best-requires c = let l = c.loop-i in
    let t = l.invariant.0.2 in
    let h = here _ _ _ _ _ _ _ _ _ t (l.invariant.1 _ _ t) (omega arith) in
    (l.invariant.0.0, h.first, stands _ _ _ _ h _ c.length_at-n.ensures _ _ t.own_is t.is_code_lem)

pub overflow_add-p-in-loop-i : goal.overflow_add-p-in-loop-i
overflow_add-p-in-loop-i c = let l = c.loop-i in
    let t = l.invariant.0.2 in
    let h = here _ _ _ _ _ _ _ _ _ t (l.invariant.1 _ _ t) (omega arith) in
    omega (arith, room _ _ _ _ h)

pub overflow_add-p-in-loop-i-2 : goal.overflow_add-p-in-loop-i-2
overflow_add-p-in-loop-i-2 c = let l = c.loop-i in
    let t = l.invariant.0.2 in
    let h = here _ _ _ _ _ _ _ _ _ t (l.invariant.1 _ _ t) (omega arith) in
    omega (arith, room _ _ _ _ h, length_is _ _ _ _ h _ c.length_at-n.ensures)

pub loop-i-preserved : goal.loop-i-preserved
loop-i-preserved c = let l = c.loop-i in (
  l.invariant.0,
  λ code ms t.
      on _ _ _ code _ ms _ _ _ t (l.invariant.1 code ms t) (omega arith) _ c.length_at-n.ensures _ c.considered-best.ensures,
)

pub returns : goal.returns
returns c = let l = c.loop-i in λ code ms t. walked _ _ _ code _ ms _ _ _ t (l.invariant.1 code ms t) (omega arith)
