-- M-112's promise, by the theorem of the two gatherings side by side.
use Rattle.teaching_account.proofs.Lockstep.{lockstep, keeps_fed}
use Rattle.teaching_account.proofs.Bounds.{taught_most}
use Rattle.promises.specs.Teaching.{Teaching}

pub teaching : Teaching
teaching = record { lockstep = lockstep; keeps = keeps_fed; body_most_lem = taught_most }
