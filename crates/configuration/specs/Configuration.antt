-- What a reader has to believe of the configuration table: its commands' fields in wire order.
use Rattle.std.specs.Prelude.{ℕ, List, [], ◌∷◌, ◌&&◌, length, get_or, leb, eqb, if◌then◌else◌, Result, Ok, Err}
use Rattle.ground_refusal.specs.declared.Refusal.{Refusal}
use Rattle.ground_refusal.specs.declared.Refusal.TheVariants.{LeftOver, PastPart, ImpossibleDay}
use Rattle.time_days.specs.Calendar.{day_of}
use Rattle.body_formats.specs.Reading.{Fault, fine, faulty, unless}
use Rattle.body_formats.specs.Format.{Format, Length, ◌▷◌, followed, only, outside, count, number, among, list_of, opaque, rest, exact, view, counted, least_of}
use Rattle.body_formats.specs.Resource.{resource, resources}
use Rattle.configuration_addresses.specs.Address.{length_fits, is_address}
-- "FB configuration"
pub use Rattle.ground_numbers.specs.Sizes.{configuration_kind}

-- "Terminal lists are an 8-bit count and 12-byte resources"
unfoldable pub terminals : Format (List (List ℕ))
terminals = resources

-- ---- 1: the clock

-- "plain binary": a number of w bytes and two of one byte. A clock's number that is too large for its field (year above 65,535, another
-- above 255) is an impossible day or time for the writer: 20, not 19.
abbrev pub plain : ℕ → Format (ℕ × (ℕ × ℕ))
plain w = count w ▷ (count 1 ▷ count 1)

abbrev pub day_fault : Result ℕ Refusal → ℕ → Fault
day_fault (Ok n) at = fine
day_fault (Err r) at = faulty (ImpossibleDay at)

-- "year 16, month, day": "an impossible or out-of-range day is 20 at the year"
unfoldable pub date : Format (ℕ × (ℕ × ℕ))
date = only (λ x at. day_fault (day_of x.0 x.1.0 x.1.1) at) (plain 2)

-- "hour, minute, second": "an impossible time 20 at the hour"
unfoldable pub clock : Format (ℕ × (ℕ × ℕ))
clock = only (λ x at. unless (leb x.0 23 && (leb x.1.0 59 && leb x.1.1 59)) (ImpossibleDay at)) (plain 1)

-- ---- 4: the return address

-- in a body the length is judged where it stands, before the address; in a form with the address
abbrev pub address_fault : ℕ → List ℕ → ℕ → Fault
address_fault kind cs at = if length_fits kind (length cs) then outside (is_address kind) cs at else faulty (PastPart at)

unfoldable pub address_length : ℕ → Length
address_length kind = record { field = count 1; limit = 256; fault = λ n at. unless (length_fits kind n) (PastPart at) }

-- "kind 1 to 3, address length, address"
unfoldable pub address : ℕ → Format (List ℕ)
address kind = counted (address_length kind) (only (address_fault kind) rest)

-- ---- commands

-- the standard's commands, by their tags (its 8.2.2 to 8.2.8)
pub data Order : Type 0 where
  set_clock : Order
  set_code : Order
  tune : Order
  set_return : Order
  set_period : Order
  set_volume : Order
  query : Order
  other : Order

unfoldable pub order_of : ℕ → Order
order_of tag =
    if eqb tag 1 then set_clock else
    if eqb tag 2 then set_code else
    if eqb tag 3 then tune else
    if eqb tag 4 then set_return else
    if eqb tag 5 then set_period else
    if eqb tag 6 then set_volume else
    if eqb tag 7 then query else other

-- what a command says
abbrev pub Said : Order → Type 0
Said set_clock = (ℕ × (ℕ × ℕ)) × (ℕ × (ℕ × ℕ))
Said set_code = List ℕ × List ℕ
Said tune = ℕ × (ℕ × (ℕ × List (List ℕ)))
Said set_return = (kind : ℕ) × (List ℕ × List (List ℕ))
Said set_period = ℕ × List (List ℕ)
Said set_volume = ℕ × List (List ℕ)
Said query = List ℕ × List (List ℕ)
Said other = List ℕ

unfoldable pub said : (order : Order) → Format (Said order)
-- "1: year 16, month, day, hour, minute, second, plain binary"
said set_clock = exact PastPart (date ▷ clock)
-- "2: address length, address, resource"
said set_code = exact PastPart (opaque 1 ▷ resource)
-- "3: frequency 32, symbol rate 32, mapping 0 to 5, terminals"
said tune = exact PastPart (number 4 ▷ (number 4 ▷ (among 0 5 (number 1) ▷ terminals)))
-- "4: kind 1 to 3, address length, address, terminals"
said set_return = exact PastPart (followed (among 1 3 (number 1)) (λ kind. address kind ▷ terminals))
-- "5: period 32, terminals"
said set_period = exact PastPart (number 4 ▷ terminals)
-- "6: volume 0 to 100, terminals"
said set_volume = exact PastPart (among 0 100 (number 1) ▷ terminals)
-- "7: parameter count, parameters, terminals"
said query = exact PastPart (list_of (count 1) (number 1) ▷ terminals)
-- "Other tags are kept as opaque bytes"
said other = rest

-- "The least content length of each tag": "7, 13, 10, 3, 5, 2, 2 for tags 1 to 7"
unfoldable pub least : ℕ → ℕ
least tag = get_or (0 ∷ 7 ∷ 13 ∷ 10 ∷ 3 ∷ 5 ∷ 2 ∷ 2 ∷ []) tag 0

-- "commands of tag 8, length 16, content"
abbrev pub Command : Type 0
Command = (tag : ℕ) × Said (order_of tag)

unfoldable pub command : Format Command
command = followed (number 1) (λ tag. counted (least_of 2 (least tag)) (said (order_of tag)))

-- ---- the table

pub record Configuration : Type 0 where
  pub commands : List Command
  pub signature : List ℕ

-- "8-bit count; commands of tag 8, length 16, content; signature"
unfoldable pub fields : Format (List Command × List ℕ)
fields = list_of (count 1) command ▷ opaque 2

unfoldable pub configuration : Format Configuration
configuration = exact LeftOver (view (λ x. record { commands = x.0; signature = x.1 }) (λ c. (c.commands, c.signature)) fields)
