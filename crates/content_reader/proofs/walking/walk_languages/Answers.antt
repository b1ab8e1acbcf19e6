-- `content_reader::walking::walk_languages` meets its contract: a count, and so many languages; those still to come make the whole.
use native.Mathlib.Omega.{arith}
use borrow.Author.Rules.{rules}
use Rattle.body_formats.specs.Format.{among, reserved}
use Rattle.body_formats.proofs.Classes.{Lawful}
use Rattle.body_formats.proofs.Leaves.{reserved_lawful}
use Rattle.body_formats.proofs.Bits.{among_lawful}
use Rattle.content.specs.Content.{language}
use Rattle.content.proofs.Lawful.{language_lawful}
use Rattle.body_walk.proofs.Counts.{times_start, times_turn, times_done, list_walk, list_stop}
use Rattle.content_reader.proofs.walking.walk_languages.Goals as goal

count_lawful : Lawful (among 1 5 (reserved 4 0))
count_lawful = among_lawful 1 5 (reserved 4 0) (reserved_lawful 4 0 (omega arith))

pub returns-in_err-first : goal.returns-in_err-first
returns-in_err-first c = list_stop count_lawful (language_lawful _) c.in_err-first.was c.from_residual.ensures c.walk_reserved_among.ensures

pub loop-i-init : goal.loop-i-init
loop-i-init c = times_start (language _) _

pub loop-i-preserved : goal.loop-i-preserved
loop-i-preserved c = times_turn (language _) _ _ (language_lawful _) (omega arith) c.loop-i.invariant c.walk_language-at.ensures (search rules)

pub returns : goal.returns
returns c = list_walk count_lawful (language_lawful _) c.in_ok-first.was c.walk_reserved_among.ensures (times_done (language _) _ _ (omega arith) c.loop-i.invariant)
