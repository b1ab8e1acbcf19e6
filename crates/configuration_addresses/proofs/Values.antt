-- Values of return addresses, computed: the standard's address with several ports, and the lengths of the three kinds.
use mathlib.Core.Path.{◌≡◌, refl}
use mathlib.Core.List.{List, [], ◌∷◌}
use mathlib.Core.Bool.{Bool, true, false}
use Prim.Native.Nat.{ℕ}
use Rattle.body_formats.specs.Format.{every}
use Rattle.ground_numbers.specs.Characters.{colon}
use Rattle.configuration_addresses.specs.Address.{port_worth, is_port, name_goes_on, host_and_port, length_fits}

-- the standard's www.chinaeb-lab.org with a port
abbrev with_port : List ℕ → Bool
with_port port = host_and_port (0x77 ∷ 0x77 ∷ 0x77 ∷ 0x2E ∷ 0x63 ∷ 0x68 ∷ 0x69 ∷ 0x6E ∷ 0x61 ∷ 0x65 ∷ 0x62 ∷ 0x2D ∷ 0x6C ∷ 0x61 ∷ 0x62 ∷ 0x2E ∷ 0x6F ∷ 0x72 ∷ 0x67 ∷ colon ∷ port)

pub addresses :
    -- 8080, and with a space: "no space, though the standard's example has one"
    (with_port (0x38 ∷ 0x30 ∷ 0x38 ∷ 0x30 ∷ []) ≡ true)
    × (with_port (0x20 ∷ 0x38 ∷ 0x30 ∷ 0x38 ∷ 0x30 ∷ []) ≡ false)
    -- 65535, 65536
    × (with_port (0x36 ∷ 0x35 ∷ 0x35 ∷ 0x33 ∷ 0x35 ∷ []) ≡ true)
    × (with_port (0x36 ∷ 0x35 ∷ 0x35 ∷ 0x33 ∷ 0x36 ∷ []) ≡ false)
    -- 0, 00080, 008080
    × (with_port (0x30 ∷ []) ≡ true)
    × (with_port (0x30 ∷ 0x30 ∷ 0x30 ∷ 0x38 ∷ 0x30 ∷ []) ≡ true)
    × (with_port (0x30 ∷ 0x30 ∷ 0x38 ∷ 0x30 ∷ 0x38 ∷ 0x30 ∷ []) ≡ false)
    -- a second colon: 80:80
    × (with_port (0x38 ∷ 0x30 ∷ colon ∷ 0x38 ∷ 0x30 ∷ []) ≡ false)
    -- no name, a colon and 8080
    × (host_and_port (colon ∷ 0x38 ∷ 0x30 ∷ 0x38 ∷ 0x30 ∷ []) ≡ false)
unfolding host_and_port name_goes_on is_port every port_worth
addresses = (refl, refl, refl, refl, refl, refl, refl, refl, refl)

-- "a wrong length for kinds 1 and 2": 11 digits and 6 bytes fit, and no others
pub lengths :
    (length_fits 1 11 ≡ true)
    × (length_fits 1 10 ≡ false)
    × (length_fits 2 6 ≡ true)
    × (length_fits 2 7 ≡ false)
    × (length_fits 3 0 ≡ true)
unfolding length_fits
lengths = (refl, refl, refl, refl, refl)
