-- `salvage::write_runs` meets its contract: what stands already and what is left to write are the whole, turn after turn.
use Prim.Native.Nat.{ℕ, ◌+◌, ◌-◌, ◌≤◌}
use mathlib.Core.Bool.{true, false}
use mathlib.Core.List.{◌++◌}
use mathlib.Core.Path.{◌≡◌, refl, sym, ap, ◌∙◌}
use native.Mathlib.Omega.{arith}
use borrow.Author.Rules.{rules}
use lib.ListN.{length, take, drop}
use Rattle.ground_placing.specs.Put.{Put}
use Rattle.ground_placing.proofs.Putting.{put_length}
use Rattle.salvage.specs.Runs.{run_at, numbers_of}
use Rattle.salvage.specs.Salvage.{sections, numbers}
use Rattle.salvage.proofs.Pieces.{next_goes}
use Rattle.salvage.proofs.Turns.{sections_left, sections_whole, sections_turn, sections_length, sections_end, put_section}
use Rattle.salvage.proofs.Turns.{numbers_left, numbers_whole, numbers_turn, numbers_end, runs_told}
use Rattle.salvage.proofs.Writing.{Writing, writing_starts, writing_room, writing_count, writing_goes, writing_ends}
use Rattle.salvage.proofs.Standing.{sections_most}
use Rattle.salvage.proofs.write_runs.Statement.{statement}
use Rattle.salvage.proofs.write_runs.Tie as tie

abbrev invariant-loop-from : tie.invariant-loop-from
invariant-loop-from s out₀ list₀ from₀ bytes₀ entries₀ out list from bytes entries =
    (from ≤ length s) × Writing out₀ 0 out bytes (sections_left s from) (sections s) × Writing list₀ 0 list entries (numbers_left s from) (numbers s)

abbrev decreases-loop-from : tie.decreases-loop-from
decreases-loop-from s out₀ list₀ from₀ bytes₀ entries₀ out list from bytes entries = length s - from

-- the turn in which a section is copied, and where the function began
turn_of : tie.After-copy_long invariant-loop-from decreases-loop-from → tie.After-next_good-next invariant-loop-from decreases-loop-from
turn_of c = search

begun : tie.After-next_good-next invariant-loop-from decreases-loop-from → tie.Start invariant-loop-from decreases-loop-from
begun turn = search

-- the numbers after the skipped run of a turn
after_skipped : (c : tie.After-put_run-entries invariant-loop-from decreases-loop-from) → let turn = c.before.before.before in let start = begun turn in
    let s = start.args.s.now in
    let next = turn.next_good-next.result in
    Writing start.args.list.now 0 c.put_run-entries.new.list c.put_run-entries.result
    (numbers_of (run_at true next.at next.length) ++ numbers_left s (next.at + next.length)) (numbers s)
unfolding begun
after_skipped c =
    let turn : tie.After-next_good-next invariant-loop-from decreases-loop-from = search in
    let s = (begun turn).args.s.now in
    let from = turn.before.before.loop-from.from in
    let next = turn.next_good-next.result in
    writing_goes (numbers_of (run_at false from (next.at - from))) (numbers_of (run_at true next.at next.length) ++ numbers_left s (next.at + next.length))
    turn.before.before.loop-from.invariant.2 (numbers_turn _ _ _ _ turn.next_good-next.ensures) c.put_run-entries.ensures

-- there is room for the section of a turn
section_room : (turn : tie.After-next_good-next invariant-loop-from decreases-loop-from) → let start = begun turn in let next = turn.next_good-next.result in
    turn.before.before.loop-from.bytes + length (take next.length (drop next.at start.args.s.now))
    ≤ length turn.before.before.loop-from.out
unfolding begun
section_room turn =
    let start = begun turn in
    let s = start.args.s.now in
    let next = turn.next_good-next.result in
    writing_room (take next.length (drop next.at s)) (sections_left s (next.at + next.length)) turn.before.before.loop-from.invariant.1
    (sections_turn _ _ _ _ turn.next_good-next.ensures) (omega (arith, start.requires.1))

-- the section of a turn stands behind those before it
copied : (c : tie.After-copy_long invariant-loop-from decreases-loop-from) → let turn = turn_of c in
    let next = turn.next_good-next.result in
    let loop = turn.before.before.loop-from in
    Put loop.out loop.bytes (take next.length (drop next.at (begun turn).args.s.now))
    c.copy_long.new.dst (loop.bytes + next.length)
unfolding begun turn_of
copied c =
    let turn = turn_of c in
    put_section _ _ _ _ _ _ turn.next_good-next.ensures.within (section_room turn) c.copy_long.ensures

pub write_runs_spec : {M : Type 1} → statement M
unfolding begun turn_of
write_runs_spec =
    tie.close
    (tie.spec
    invariant-loop-from
    decreases-loop-from
    (λ c. (omega arith, rw (sections_whole _) (writing_starts _ 0 _ (omega arith)), rw (numbers_whole _) (writing_starts _ 0 _ (omega arith))))
    (λ c κs. search rules)
    (λ c. search rules)
    (λ c. omega (arith, c.before.before.next_good-next.ensures.after))
    (λ c κs. let turn : tie.After-next_good-next invariant-loop-from decreases-loop-from = search in let start : tie.Start invariant-loop-from decreases-loop-from = search in
    let s = start.args.s.now in
    let from = turn.before.before.loop-from.from in
    let next = turn.next_good-next.result in
    let found = turn.next_good-next.ensures in (
      omega (arith, found.after, found.within, start.requires.0),
      writing_room (numbers_of (run_at false from (next.at - from)))
          (numbers_of (run_at true next.at next.length) ++ numbers_left s (next.at + next.length))
          turn.before.before.loop-from.invariant.2 (numbers_turn _ _ _ _ found) (omega (arith, start.requires.2)),
    ))
    (λ c κs. let put : tie.After-put_run-entries invariant-loop-from decreases-loop-from = search in let turn : tie.After-next_good-next invariant-loop-from decreases-loop-from = search in
    let start : tie.Start invariant-loop-from decreases-loop-from = search in
    let next = turn.next_good-next.result in (
      omega (arith, turn.next_good-next.ensures.within, start.requires.0),
      writing_room (numbers_of (run_at true next.at next.length)) (numbers_left start.args.s.now (next.at + next.length))
          (after_skipped put) refl (omega (arith, start.requires.2)),
    ))
    (λ c. search rules)
    (λ c. search rules)
    (λ c. let next_good : tie.After-next_good-next invariant-loop-from decreases-loop-from = search in let within = next_good.next_good-next.ensures.within in search rules)
    (λ c κs. let turn : tie.After-next_good-next invariant-loop-from decreases-loop-from = search in
    let next = turn.next_good-next.result in
    let size : next.at + next.length - next.at ≡ next.length = omega arith in
    rw size (section_room turn))
    (λ c. let turn : tie.After-next_good-next invariant-loop-from decreases-loop-from = search in let start : tie.Start invariant-loop-from decreases-loop-from = search in
    let s = start.args.s.now in
    let count = writing_count (sections_left s turn.before.before.loop-from.from) turn.before.before.loop-from.invariant.1 in
    omega (arith, start.requires.0, sections_most s, sections_length _ _ _ _ turn.next_good-next.ensures))
    (λ c. let turn : tie.After-next_good-next invariant-loop-from decreases-loop-from = search in
    let on = next_goes _ _ _ _ turn.next_good-next.ensures turn.before.loop-from-test.true in
    omega (arith, turn.next_good-next.ensures.within))
    (λ c. let start : tie.Start invariant-loop-from decreases-loop-from = search in let copy : tie.After-copy_long invariant-loop-from decreases-loop-from = search in
    let put : tie.After-put_run-entries-in-loop-from invariant-loop-from decreases-loop-from = search in let turn : tie.After-next_good-next invariant-loop-from decreases-loop-from = search in
    let s = start.args.s.now in
    let next = turn.next_good-next.result in
    let found = turn.next_good-next.ensures in (
      found.within,
      writing_goes (take next.length (drop next.at s)) (sections_left s (next.at + next.length)) turn.before.before.loop-from.invariant.1
          (sections_turn _ _ _ _ found) (copied copy),
      writing_goes (numbers_of (run_at true next.at next.length)) (numbers_left s (next.at + next.length))
          (after_skipped (search)) refl put.put_run-entries-in-loop-from.ensures,
    ))
    (λ c. put_length c.before.loop-from.invariant.1.1)
    (λ c. put_length c.before.loop-from.invariant.2.1)
    (λ c. let start : tie.Start invariant-loop-from decreases-loop-from = search in
    let inv = c.before.loop-from.invariant in
    let s = start.args.s.now in
    let end = c.loop-from-test.false in
    let bytes = writing_ends inv.1 (sections_end s _ end) in
    let told = writing_ends inv.2 (numbers_end s _ end) in
    ((omega (arith, bytes.after), runs_told s _ (omega (arith, told.after))), (bytes.written, told.written))))
