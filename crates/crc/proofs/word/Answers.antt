-- `word` meets its contract: the four bytes are the string.
use mathlib.Core.Path.{◌∙◌, sym, ap}
use borrow.Author.Rules.{rules}
use Rattle.crc_register.specs.Register.{bytes_bits}
use Rattle.crc.proofs.Walk.{four_bytes}
use Rattle.crc.proofs.word.Goals as goal

pub returns : goal.returns
returns c = c.joined.ensures ∙ ap bytes_bits (sym (four_bytes _ (search rules)))
