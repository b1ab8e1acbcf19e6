-- `screen_choice::walked` meets its contract. The loop's invariant: the messages that are left stand from p on, and what is kept leads those before.
use Prim.Native.Nat.{◌+◌, ◌-◌, ◌≤◌}
use mathlib.Core.List.{List}
use Prim.Native.Nat.{ℕ}
use Rattle.index.specs.Index.{Message}
use Rattle.screen_choice.specs.Walk.{Tabled, Table}
use Rattle.screen_choice.proofs.Messages.{Underway}
use Rattle.screen_choice.proofs.walked.Given as goal

abbrev pub invariant-loop-i : goal.invariant-loop-i
invariant-loop-i l =
    Tabled l.s l.count l.own
    × ((code : List ℕ) (ms : List Message) → Table l.s l.count l.own code ms → Underway l.s l.count code l.present ms l.best l.p l.i)
