-- M-113's promise, by the theorems about the road.
use Rattle.time_printing.proofs.Laws.{prints_as_typed}
use Rattle.promises_road.proofs.FromFormToScreen.{from_form_to_screen}
use Rattle.promises_road.proofs.Travelled.{travelled}
use Rattle.promises.specs.Road.{Road}

pub road : Road
road = record { printed_as_typed = prints_as_typed; from_form_to_screen = from_form_to_screen; travelled = travelled }
