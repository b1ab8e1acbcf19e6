-- `content_reader::glancing::good_languages` meets its contract: the count, each turn finds one language, those to come make the whole, and the signature ends the body.
use Prim.Native.Nat.{◌+◌, ◌-◌, ◌≤◌}
use lib.ListN.{get_or, length}
use Rattle.body_glance.proofs.Runs.{Coming}
use Rattle.content.specs.Content.{language}
use Rattle.content_reader.proofs.glancing.good_languages.Given as goal

abbrev pub invariant-loop-i : goal.invariant-loop-i
invariant-loop-i l = (l.at ≤ length l.s) × Coming (language l.w) l.s (get_or l.s l.p 0 - 240) (l.p + 1) (get_or l.s l.p 0 - 240 - l.i) l.at
