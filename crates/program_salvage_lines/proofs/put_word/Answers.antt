-- `program_salvage_lines::put_word` meets its contract: the word is that of the bool.
use mathlib.Core.Bool.{true, false}
use mathlib.Core.Path.{◌≡◌, sym}
use borrow.Author.Rules.{rules}
use Rattle.program_salvage_lines.specs.Report.{word_of}
use Rattle.program_salvage_lines.proofs.put_word.Goals as goal

pub put_bytes-requires : goal.put_bytes-requires
put_bytes-requires c = rw c.if-kept.true at c.requires

pub returns-then-kept : goal.returns-then-kept
returns-then-kept c = rw c.if-kept.true c.put_bytes.ensures

pub put_bytes-requires-2 : goal.put_bytes-requires-2
put_bytes-requires-2 c = rw c.if-kept.false at c.requires

pub returns : goal.returns
returns c = rw c.if-kept.false c.put_bytes-2.ensures
