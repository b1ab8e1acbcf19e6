-- `configuration_writer::measuring::pen_address` meets its contract: its length, its bytes, and then what the length may be.
use mathlib.Core.Path.{refl}
use borrow.Author.Rules.{rules}
use Rattle.body_pen.proofs.Lengths.{number_pen}
use Rattle.configuration.specs.Configuration.{address_length, address}
use Rattle.configuration_writer.proofs.measuring.pen_address.Goals as goal

pub gap-a-requires : goal.gap-a-requires
unfolding address address_length
gap-a-requires c = search rules

pub pen_address_bytes-b-requires : goal.pen_address_bytes-b-requires
unfolding address address_length
pen_address_bytes-b-requires c = search rules

pub close-requires : goal.close-requires
unfolding address address_length
close-requires c = search rules

pub returns : goal.returns
unfolding address address_length
returns c = rw (number_pen (address_length _) 1 refl) (cc)
