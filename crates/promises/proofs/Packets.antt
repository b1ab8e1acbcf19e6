-- M-106's promise, by the theorems about packer and unpacker.
use Rattle.packet_reader.proofs.States.{state_means}
use Rattle.packet_arrival.proofs.Arrival.{arrives, resumes}
use Rattle.packet_arrival.proofs.Drops.{gap_drops, error_drops, length_drops, pointer_drops, own_pointer}
use Rattle.packet_arrival.proofs.Unmixed.{unmixed}
use Rattle.packet_arrival.proofs.Served.{served, zeros_fresh}
use Rattle.packet_arrival.proofs.Most.{packs_most, gives_most}
use Rattle.promises.specs.Packets.{Packets}

pub packets : Packets
packets =
    record {
      arrives = arrives;
      served = served;
      zeros_fresh = zeros_fresh;
      resumes = resumes;
      gap_drops = gap_drops;
      error_drops = error_drops;
      length_drops = length_drops;
      pointer_drops = pointer_drops;
      own_pointer = own_pointer;
      unmixed = unmixed;
      state_means = state_means;
      packed_bytes = packs_most;
      completed_most = gives_most;
    }
