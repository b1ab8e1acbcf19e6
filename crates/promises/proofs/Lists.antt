-- Each answer is given as its list says, by the theorem that crate orders has of it.
use Rattle.promises_orders.proofs.Sections.{sections_as_listed}
use Rattle.promises_orders.proofs.Gathering.{feeding_as_listed, complete_as_listed, handing_as_listed, packing_as_listed as packing_store_as_listed}
use Rattle.promises_orders.proofs.Rooms.{networks_feeding_as_listed, networks_handing_as_listed, networks_ending_as_listed, held_as_listed, free_as_listed}
use Rattle.promises_orders.proofs.Cutter.{count_as_listed, cutter_as_listed}
use Rattle.promises_orders.proofs.Salvage.{salvage_as_listed}
use Rattle.promises_orders.proofs.Packets.{packer_as_listed, unpacker_as_listed}
use Rattle.promises_orders.proofs.Teaching.{teaching_as_listed, teaching_handing_as_listed}
use Rattle.promises_orders.proofs.Times.{packing_as_listed, unpacking_as_listed, text_as_listed}
use Rattle.promises.specs.Lists.{GivenExactly}

pub given_exactly : GivenExactly
given_exactly =
    record {
      section = sections_as_listed;
      feeding = feeding_as_listed;
      complete = complete_as_listed;
      handing_out_lem = handing_as_listed;
      packing_store = packing_store_as_listed;
      networks_feeding = λ o x store s. networks_feeding_as_listed x store s o;
      networks_handing_out = λ o x store out. networks_handing_as_listed x store out o;
      networks_ending = λ o x bytes. networks_ending_as_listed x bytes o;
      rooms_held = held_as_listed;
      rooms_free = free_as_listed;
      count = count_as_listed;
      cutter = cutter_as_listed;
      salvage = salvage_as_listed;
      packer = packer_as_listed;
      unpacker = unpacker_as_listed;
      teaching_feeding = teaching_as_listed;
      teaching_handing_out = teaching_handing_as_listed;
      packing = packing_as_listed;
      unpacking = unpacking_as_listed;
      text = text_as_listed;
    }
