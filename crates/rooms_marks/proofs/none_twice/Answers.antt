-- `rooms_marks::none_twice` meets its contract: a room is marked twice if it is held twice.
use mathlib.Core.Path.{◌≡◌, ◌∙◌}
use Rattle.rooms_marks.specs.Marks.{marks_of, all_once}
use Rattle.rooms_marks.proofs.Meaning.{once_means}
use Rattle.rooms_marks.proofs.none_twice.Goals as goal

pub returns : goal.returns
returns c = let start = c.args in
    let found : c.marked_once.result ≡ all_once (marks_of start.one.now start.two.now) 1 start.n = cc in
    found ∙ once_means start.one.now start.two.now start.n c.requires
