-- What a reader has to believe of two networks exchanged: each has the other's number, and the other's part.
use Rattle.std.specs.Prelude.{ℕ, List, [], ◌∷◌, eqb, if◌then◌else◌}
use Rattle.rooms_state.specs.State.{Network, network1, network2}
use Rattle.rooms_state.specs.declared.Networks.{Networks}
use Rattle.rooms_account.specs.Runs.{Box, Asked}

unfoldable pub other : Network → Network
other network1 = network2
other network2 = network1

unfoldable pub exchanged : Networks → Networks
exchanged x = record { bytes = x.bytes; one = x.two; two = x.one }

unfoldable pub exchanged_box : Box → Box
exchanged_box x = record { state = exchanged x.state; store = x.store }

-- 1 for 2 and 2 for 1; other numbers name no network
unfoldable pub exchanged_number : ℕ → ℕ
exchanged_number n = if eqb n 1 then 2 else if eqb n 2 then 1 else n

unfoldable pub exchanged_asked : Asked → Asked
exchanged_asked c = record { network = exchanged_number c.network; call = c.call }

unfoldable pub exchanged_all : List Asked → List Asked
exchanged_all [] = []
exchanged_all (c ∷ asked) = exchanged_asked c ∷ exchanged_all asked
