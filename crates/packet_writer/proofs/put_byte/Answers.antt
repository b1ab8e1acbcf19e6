-- `packet_writer::put_byte` meets its contract: one store.
use Rattle.packet_writer.proofs.Laying.{byte_stored}
use borrow.Author.Rules.{rules}
use Rattle.packet_writer.proofs.put_byte.Goals as goal

pub returns : goal.returns
returns c = byte_stored _ _ _ (search rules)
