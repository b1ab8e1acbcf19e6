-- What a reader has to believe of return addresses: which bytes each of the three kinds takes.
use Rattle.std.specs.Prelude.{ℕ, ◌+◌, ◌-◌, ◌*◌, List, [], ◌∷◌, Bool, true, false, not, ◌&&◌, length, leb, eqb, if◌then◌else◌}
use Rattle.ground_numbers.specs.Characters.{is_digit, colon}
use Rattle.body_formats.specs.Format.{every}

-- what a string of digits is worth, after those before it
unfoldable pub port_worth : ℕ → List ℕ → ℕ
port_worth n [] = n
port_worth n (c ∷ r) = port_worth (n * 10 + (c - 0x30)) r

-- "1 to 5 digits worth at most 65,535"
unfoldable pub is_port : List ℕ → Bool
is_port cs = leb 1 (length cs) && (leb (length cs) 5 && (every is_digit cs && leb (port_worth 0 cs) 65535))

-- "bytes 0x21 to 0x7E other than a colon"
abbrev pub in_name : ℕ → Bool
in_name c = leb 0x21 c && (leb c 0x7E && not (eqb c colon))

-- after a name's first byte: more of it, or "one colon" and the port
unfoldable pub name_goes_on : List ℕ → Bool
name_goes_on [] = false
name_goes_on (c ∷ r) = if eqb c colon then is_port r else (in_name c && name_goes_on r)

-- "a name of 1 or more bytes 0x21 to 0x7E other than a colon, one colon, 1 to 5 digits worth at most 65,535"
unfoldable pub host_and_port : List ℕ → Bool
host_and_port [] = false
host_and_port (c ∷ r) = in_name c && name_goes_on r

-- "a wrong length for kinds 1 and 2": 11 digits, 6 bytes; any length may be kind 3's
unfoldable pub length_fits : ℕ → ℕ → Bool
length_fits kind n = if eqb kind 1 then eqb n 11 else if eqb kind 2 then eqb n 6 else true

-- "kind 1 is 11 ASCII digits, kind 2 is 6 bytes, kind 3 is a name", a colon and a port
unfoldable pub is_address : ℕ → List ℕ → Bool
is_address kind cs = if eqb kind 1 then every is_digit cs else if eqb kind 2 then true else host_and_port cs
