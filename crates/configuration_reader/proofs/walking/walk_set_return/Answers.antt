-- `configuration_reader::walking::walk_set_return` meets its contract: the kind says which address follows it, and the terminals after that fill the content.
use Prim.Native.Nat.{ℕ}
use Rattle.ground_refusal.specs.declared.Refusal.TheVariants.{PastPart}
use Rattle.body_formats.specs.Format.{◌▷◌, number, among}
use Rattle.body_formats.proofs.Classes.{Lawful}
use Rattle.body_formats.proofs.Bits.{among_lawful}
use Rattle.body_formats.proofs.Parts.{number_lawful, followed_lawful, exact_filling}
use Rattle.body_walk.proofs.Pairs.{exact_last, exact_pair}
use Rattle.body_walk.proofs.Counts.{told_walk, told_stop}
use Rattle.configuration.specs.Configuration.{terminals, address, said}
use Rattle.configuration.proofs.Lawful.{terminals_lawful, address_lawful}
use Rattle.configuration_reader.proofs.walking.walk_set_return.Goals as goal

from_address : (kind : ℕ) → Lawful (address kind ▷ terminals)
from_address kind = followed_lawful _ _ (address_lawful kind) (λ a. terminals_lawful)

pub returns-in_err-at : goal.returns-in_err-at
unfolding said
returns-in_err-at c = exact_last PastPart (among 1 3 (number 1)) (λ kind. address kind ▷ terminals)
    (told_stop (among_lawful 1 3 (number 1) (number_lawful 1)) (λ kind. (exact_filling PastPart _ (from_address kind)).formal)
    c.in_err-at.was c.from_residual.ensures c.walk_told_among.ensures)

pub returns : goal.returns
unfolding said
returns c = let kind = rw c.in_ok-at.was at c.walk_told_among.ensures in
    exact_last PastPart (among 1 3 (number 1)) (λ kind. address kind ▷ terminals)
    (told_walk (among_lawful 1 3 (number 1) (number_lawful 1)) (λ kind. (exact_filling PastPart _ (from_address kind)).formal) kind
    (exact_pair PastPart (address_lawful _) terminals_lawful c.walk_address-a.ensures c.walk_terminals.ensures))
