-- `program_salvage_lines::put_lines` meets its contract: what stands already and what is left to put are the whole, turn after turn.
use Prim.Native.Nat.{ℕ, ◌+◌, ◌-◌, ◌≤◌}
use mathlib.Core.Bool.{true, false}
use mathlib.Core.List.{◌++◌}
use mathlib.Core.Path.{◌≡◌, refl}
use native.Mathlib.Omega.{arith}
use borrow.Author.Rules.{rules}
use lib.ListN.{length}
use Rattle.ground_placing.proofs.Putting.{put_length}
use Rattle.salvage.specs.Runs.{run_at, runs_of}
use Rattle.salvage.proofs.Pieces.{next_goes}
use Rattle.salvage.proofs.Turns.{runs_left}
use Rattle.salvage.proofs.Writing.{Writing, writing_starts, writing_room, writing_goes, writing_ends}
use Rattle.program_salvage_lines.specs.Report.{lines_of}
use Rattle.program_salvage_lines.proofs.Lines.{lines_turn, lines_end, lines_whole}
use Rattle.program_salvage_lines.proofs.put_lines.Statement.{statement}
use Rattle.program_salvage_lines.proofs.put_lines.Tie as tie

abbrev invariant-loop-from : tie.invariant-loop-from
invariant-loop-from out₀ at s next₀ from₀ out next from = (from ≤ length s) × Writing out₀ at out next (lines_of (runs_left s from)) (lines_of (runs_of s))

abbrev decreases-loop-from : tie.decreases-loop-from
decreases-loop-from out₀ at s next₀ from₀ out next from = length s - from

-- where the function began
begun : tie.After-put_line-next invariant-loop-from decreases-loop-from → tie.Start invariant-loop-from decreases-loop-from
begun c = search

-- the lines after that of the skipped run of a turn
after_skipped : (c : tie.After-put_line-next invariant-loop-from decreases-loop-from) → let turn = c.before.before.before in
    let start = begun c in
    let found = turn.next_good-found.result in
    Writing start.args.out.now start.args.at c.put_line-next.new.out c.put_line-next.result
    (lines_of (run_at true found.at found.length) ++ lines_of (runs_left start.args.s.now (found.at + found.length)))
    (lines_of (runs_of start.args.s.now))
unfolding begun
after_skipped c =
    let turn : tie.After-next_good-found invariant-loop-from decreases-loop-from = search in
    let s = (begun c).args.s.now in
    let from = turn.before.before.loop-from.from in
    let found = turn.next_good-found.result in
    writing_goes (lines_of (run_at false from (found.at - from)))
    (lines_of (run_at true found.at found.length) ++ lines_of (runs_left s (found.at + found.length)))
    turn.before.before.loop-from.invariant.1 (lines_turn _ _ _ _ turn.next_good-found.ensures) c.put_line-next.ensures

pub put_lines_spec : {M : Type 1} → statement M
unfolding begun
put_lines_spec =
    tie.close
    (tie.spec
    invariant-loop-from
    decreases-loop-from
    (λ c. (omega arith, rw (lines_whole _) (writing_starts _ _ _ (omega arith))))
    (λ c κs. search rules)
    (λ c. omega (arith, c.before.before.next_good-found.ensures.after))
    (λ c κs. let turn : tie.After-next_good-found invariant-loop-from decreases-loop-from = search in let start : tie.Start invariant-loop-from decreases-loop-from = search in
    let s = start.args.s.now in
    let from = turn.before.before.loop-from.from in
    let found = turn.next_good-found.result in
    writing_room (lines_of (run_at false from (found.at - from)))
    (lines_of (run_at true found.at found.length) ++ lines_of (runs_left s (found.at + found.length)))
    turn.before.before.loop-from.invariant.1 (lines_turn _ _ _ _ turn.next_good-found.ensures) start.requires.1)
    (λ c κs. let put : tie.After-put_line-next invariant-loop-from decreases-loop-from = search in let turn : tie.After-next_good-found invariant-loop-from decreases-loop-from = search in
    let start : tie.Start invariant-loop-from decreases-loop-from = search in
    let found = turn.next_good-found.result in
    writing_room (lines_of (run_at true found.at found.length)) (lines_of (runs_left start.args.s.now (found.at + found.length)))
    (after_skipped put) refl start.requires.1)
    (λ c. search rules)
    (λ c. let turn : tie.After-next_good-found invariant-loop-from decreases-loop-from = search in
    let on = next_goes _ _ _ _ turn.next_good-found.ensures turn.before.loop-from-test.true in
    omega (arith, turn.next_good-found.ensures.within))
    (λ c. let put : tie.After-put_line-next-in-loop-from invariant-loop-from decreases-loop-from = search in let turn : tie.After-next_good-found invariant-loop-from decreases-loop-from = search in
    let start : tie.Start invariant-loop-from decreases-loop-from = search in
    let found = turn.next_good-found.result in (
      turn.next_good-found.ensures.within,
      writing_goes (lines_of (run_at true found.at found.length)) (lines_of (runs_left start.args.s.now (found.at + found.length)))
          (after_skipped (search)) refl put.put_line-next-in-loop-from.ensures,
    ))
    (λ c. put_length c.before.loop-from.invariant.1.1)
    (λ c. writing_ends c.before.loop-from.invariant.1 (lines_end _ _ c.loop-from-test.false)))
