-- `rooms_marks::free_room` meets its contract: the first unmarked room is the first that neither holds.
use mathlib.Core.Path.{◌≡◌, ◌∙◌}
use native.Mathlib.Omega.{arith}
use Rattle.rooms_marks.specs.Marks.{marks_of, free_mark}
use Rattle.rooms_marks.proofs.Free.{free_most}
use Rattle.rooms_marks.proofs.Meaning.{free_means}
use Rattle.rooms_marks.proofs.free_room.Goals as goal

pub returns : goal.returns
returns c = let start = c.args in
    let found : c.first_unmarked.result ≡ free_mark (marks_of start.one.now start.two.now) 1 start.n = cc in
    let is = found ∙ free_means start.one.now start.two.now start.n c.requires in
    let most = free_most start.n start.one.now start.two.now in
    (is, omega arith)
