-- `index_writer::inking::ink_flagged` meets its contract: the channel is written where its flag, which is written first, is not 0.
use Prim.Native.Nat.{ℕ, ◌+◌, ◌≤◌, ◌<◌}
use mathlib.Core.List.{List}
use Rattle.ground_numbers.specs.Sizes.{body_most}
use Rattle.body_ink.specs.Inked.{Ready}
use mathlib.Core.Path.{refl}
use lib.ListN.{get_or, length}
use native.Mathlib.Omega.{arith}
use borrow.Author.Rules.{rules}
use Rattle.body_formats.specs.Format.{under}
use Rattle.body_ink.proofs.Pairs.{moved, first, under_ready, under_none, under_some}
use Rattle.body_ink.proofs.Numbers.{after_bits, reserved_below, numeral_ready, numeral_inked, after_number, number_then}
use Rattle.index.specs.Index.{channel, flagged}
use Rattle.index_writer.proofs.inking.ink_flagged.Goals as goal

-- the flag: its entry, its byte, and that it is 0 or 1
flag_ready : {pool tape : List ℕ} {at k room : ℕ} → Ready flagged pool tape at k room
    → (k < length tape) × (at + 1 ≤ room) × (at + 1 ≤ body_most) × (get_or tape k 0 < 2)
unfolding flagged
flag_ready g =
    let flag = first _ _ g in
    let r = numeral_ready (after_bits 7 0) flag in
    (r.0, r.1, r.2, reserved_below 7 0 flag)

pub offset_bounds-tape-k : goal.offset_bounds-tape-k
unfolding flagged
offset_bounds-tape-k c = omega (arith, flag_ready c.requires)

pub bounds-tape-k : goal.bounds-tape-k
unfolding flagged
bounds-tape-k c = omega (arith, flag_ready c.requires)

pub overflow_add-flag : goal.overflow_add-flag
unfolding flagged
overflow_add-flag c = omega (arith, flag_ready c.requires)

pub number-requires : goal.number-requires
unfolding flagged
number-requires c = omega (arith, flag_ready c.requires)

pub overflow_add-result : goal.overflow_add-result
unfolding flagged
overflow_add-result c = omega (arith, flag_ready c.requires)

pub overflow_add-result-then-flag-eq0 : goal.overflow_add-result-then-flag-eq0
unfolding flagged
overflow_add-result-then-flag-eq0 c = omega (arith, flag_ready c.requires)

pub shape_of-out-then-flag-eq0 : goal.shape_of-out-then-flag-eq0
unfolding flagged
shape_of-out-then-flag-eq0 c = search rules

pub returns-then-flag-eq0 : goal.returns-then-flag-eq0
unfolding flagged
returns-then-flag-eq0 c = number_then (after_bits 7 0) (λ flag. under channel flag) (numeral_inked (after_bits 7 0) c.number.ensures refl refl)
    (under_none channel _ c.if-flag-eq0.true _ _ _)

pub overflow_add-k : goal.overflow_add-k
unfolding flagged
overflow_add-k c = omega (arith, flag_ready c.requires)

pub overflow_add-at : goal.overflow_add-at
unfolding flagged
overflow_add-at c = omega (arith, flag_ready c.requires)

pub ink_channel-requires : goal.ink_channel-requires
unfolding flagged
ink_channel-requires c = under_ready (get_or c.args.tape.now c.args.k 0) (omega arith)
    (moved (after_number (after_bits 7 0) (λ flag. under channel flag) c.requires) refl refl (search rules))

pub shape_of-out : goal.shape_of-out
unfolding flagged
shape_of-out c = search rules

pub returns : goal.returns
unfolding flagged
returns c = number_then (after_bits 7 0) (λ flag. under channel flag) (numeral_inked (after_bits 7 0) c.number.ensures refl refl)
    (under_some c.ink_channel.ensures (get_or c.args.tape.now c.args.k 0) (omega arith))
