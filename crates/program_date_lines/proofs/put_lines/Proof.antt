-- `program_date_lines::put_lines` meets its contract: what stands already and what is left to put are the whole, line after line.
use Prim.Native.Nat.{ℕ, ◌+◌, ◌-◌, ◌≤◌}
use mathlib.Core.List.{List, [], ◌++◌, append_assoc, append-nil}
use mathlib.Core.Path.{◌≡◌, refl, sym, ap, ◌∙◌}
use native.Mathlib.Omega.{arith}
use borrow.Author.Rules.{rules}
use lib.ListN.{length, take, drop}
use Rattle.program_date_lines.specs.Report.{lines_of, line_of, numbered}
use Rattle.ground_placing.specs.Put.{Put}
use Rattle.ground_placing.proofs.Putting.{room_first, put_length, put_room, put_none, put_then}
use Rattle.program_date_lines.proofs.Lines.{numbered_none, numbered_turn}
use Rattle.program_date_lines.proofs.put_lines.Statement.{statement}
use Rattle.program_date_lines.proofs.put_lines.Tie as tie

abbrev invariant-loop-from : tie.invariant-loop-from
invariant-loop-from out₀ at input next₀ number₀ from₀ out next number from =
    (number ≤ from + 1)
    × (from ≤ length input + 1)
    × ((done : List ℕ) × Put out₀ at done out next × (done ++ numbered number (lines_of (drop from input)) ≡ numbered 1 (lines_of input)))

abbrev decreases-loop-from : tie.decreases-loop-from
decreases-loop-from out₀ at input next₀ number₀ from₀ out next number from = length input + 1 - from

-- where the function began
begun : tie.After-line_end-end invariant-loop-from decreases-loop-from → tie.Start invariant-loop-from decreases-loop-from
begun c = search

-- the line that a turn puts, and those after it
turn : (c : tie.After-line_end-end invariant-loop-from decreases-loop-from)
    → let start = begun c in numbered c.before.before.loop-from.number (lines_of (drop c.before.before.loop-from.from start.args.input.now))
    ≡ line_of c.before.before.loop-from.number
    (take (c.line_end-end.result - c.before.before.loop-from.from) (drop c.before.before.loop-from.from start.args.input.now))
    ++ numbered (c.before.before.loop-from.number + 1) (lines_of (drop (c.line_end-end.result + 1) start.args.input.now))
unfolding begun
turn c = numbered_turn _ _ _ _ c.before.loop-from-test.true c.line_end-end.ensures.0

pub put_lines_spec : {M : Type 1} → statement M
unfolding begun
put_lines_spec =
    tie.close
    (tie.spec
    invariant-loop-from
    decreases-loop-from
    (λ c. (omega arith, omega arith, ([], put_none _ _ (omega arith), refl)))
    (λ c κs. search rules)
    (λ c. search rules)
    (λ c. search rules)
    (λ c. search rules)
    (λ c κs. let line : tie.After-line_end-end invariant-loop-from decreases-loop-from = search in
    let l = line.before.before.loop-from in
    let start : tie.Start invariant-loop-from decreases-loop-from = search in let s = start.args.input.now in
    let room = rw (sym l.invariant.2.2, turn line) at start.requires.1 in
    room_first l.next (line_of l.number (take (line.line_end-end.result - l.from) (drop l.from s)))
    (numbered (l.number + 1) (lines_of (drop (line.line_end-end.result + 1) s)))
    (put_room _ l.invariant.2.1 room))
    (λ c. search rules)
    (λ c. search rules)
    (λ c. search rules)
    (λ c. let put : tie.After-put_line-next invariant-loop-from decreases-loop-from = search in let line : tie.After-line_end-end invariant-loop-from decreases-loop-from = search in
    let inv = line.before.before.loop-from.invariant in (
      omega arith,
      omega arith,
      (
        _,
        put_then inv.2.1 put.put_line-next.ensures,
        append_assoc inv.2.0 _ _ ∙ ap (λ rest. inv.2.0 ++ rest) (sym (turn line)) ∙ inv.2.2,
      ),
    ))
    (λ c. put_length c.before.loop-from.invariant.2.1)
    (λ c. let start : tie.Start invariant-loop-from decreases-loop-from = search in
    let l = c.before.loop-from in
    let s = start.args.input.now in
    let rest = numbered_none l.number s l.from c.loop-from-test.false in
    rw (sym (append-nil l.invariant.2.0) ∙ sym (ap (λ r. l.invariant.2.0 ++ r) rest) ∙ l.invariant.2.2) at l.invariant.2.1))
