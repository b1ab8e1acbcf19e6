-- Where the configuration table's refusals stand: the laws of formats, from the faults of days and addresses up to the table.
use Prim.Native.Nat.{ℕ}
use Rattle.ground_refusal.specs.declared.Refusal.{Refusal}
use mathlib.Core.List.{List}
use mathlib.Core.Bool.{Bool, true, false, ◌&&◌}
use native.Mathlib.Nat.{le_refl}
use lib.ListN.{length}
use lib.Dec.{leb}
use Rattle.std.specs.Prelude.{if◌then◌else◌, Result, Ok, Err}
use Rattle.ground_refusal.specs.declared.Refusal.TheVariants.{LeftOver, PastPart, ImpossibleDay}
use Rattle.time_days.specs.Calendar.{day_of}
use Rattle.body_formats.specs.Reading.{faulty}
use Rattle.body_formats.specs.Format.{outside, count, number, rest}
use Rattle.body_formats.specs.Resource.{resource_pairs}
use Rattle.body_formats.proofs.Places.{FaultUntil, none, stands, unless_until, outside_until, Placed, count_placed, only_placed, number_placed, among_placed, digits_placed, followed_placed, view_placed, list_placed, rest_placed, exact_placed, counted_placed, least_placed, opaque_placed, resources_placed}
use Rattle.configuration_addresses.specs.Address.{length_fits, is_address}
use Rattle.configuration.specs.Configuration.{terminals, day_fault, plain, date, clock, address_fault, address_length, address, Order, set_clock, set_code, tune, set_return, set_period, set_volume, query, other, order_of, said, least, command, fields, configuration}

terminals_placed : Placed terminals
unfolding terminals
terminals_placed = resources_placed

-- ---- the clock

plain_placed : (w : ℕ) → Placed (plain w)
plain_placed w = followed_placed _ _ (count_placed w) (λ a. followed_placed _ _ (count_placed 1) (λ b. count_placed 1))

day_until : (d : Result ℕ Refusal) (at : ℕ) → FaultUntil at (day_fault d at)
day_until (Ok n) at = none
day_until (Err r) at = stands (le_refl at)

date_placed : Placed date
unfolding date
date_placed = only_placed _ _ (λ x. day_until (day_of x.0 x.1.0 x.1.1)) (plain_placed 2)

clock_placed : Placed clock
unfolding clock
clock_placed =
    only_placed _ _ (λ x at. unless_until (leb x.0 23 && (leb x.1.0 59 && leb x.1.1 59)) (ImpossibleDay at) (le_refl at)) (plain_placed 1)

-- ---- the return address

module _ (kind : ℕ) where
  address_until : (cs : List ℕ) (at : ℕ) → FaultUntil at (address_fault kind cs at)
  address_until cs at = go (length_fits kind (length cs))
    where
      go : (t : Bool) → FaultUntil at (if t then outside (is_address kind) cs at else faulty (PastPart at))
      go true = outside_until (is_address kind) cs at
      go false = stands (le_refl at)

  address_placed : Placed (address kind)
  unfolding address address_length
  address_placed =
      counted_placed (address_length kind) _ (count_placed 1) (λ n at. unless_until (length_fits kind n) (PastPart at) (le_refl at))
      (only_placed (address_fault kind) rest address_until rest_placed)

-- ---- commands

said_placed : (order : Order) → Placed (said order)
unfolding said
said_placed set_clock = exact_placed PastPart _ le_refl (followed_placed _ _ date_placed (λ a. clock_placed))
said_placed set_code = exact_placed PastPart _ le_refl (followed_placed _ _ (opaque_placed 1) (λ a. digits_placed resource_pairs))
said_placed tune =
    exact_placed PastPart _ le_refl (followed_placed _ _ (number_placed 4) (λ a. followed_placed _ _ (number_placed 4) (λ b.
    followed_placed _ _ (among_placed 0 5 (number 1) (number_placed 1)) (λ c. terminals_placed))))
said_placed set_return =
    exact_placed PastPart _ le_refl (followed_placed _ _ (among_placed 1 3 (number 1) (number_placed 1)) (λ kind.
    followed_placed _ _ (address_placed kind) (λ a. terminals_placed)))
said_placed set_period = exact_placed PastPart _ le_refl (followed_placed _ _ (number_placed 4) (λ a. terminals_placed))
said_placed set_volume = exact_placed PastPart _ le_refl (followed_placed _ _ (among_placed 0 100 (number 1) (number_placed 1)) (λ a. terminals_placed))
said_placed query =
    exact_placed PastPart _ le_refl (followed_placed _ _ (list_placed (number 1) (number_placed 1) (count 1) (count_placed 1)) (λ a. terminals_placed))
said_placed other = rest_placed

command_placed : Placed command
unfolding command
command_placed = followed_placed _ _ (number_placed 1) (λ tag. least_placed 2 (least tag) (said (order_of tag)) (said_placed (order_of tag)))

-- ---- the table

pub configuration_placed : Placed configuration
unfolding configuration fields
configuration_placed =
    exact_placed LeftOver _ le_refl
    (view_placed _ _ fields (followed_placed _ _ (list_placed command command_placed (count 1) (count_placed 1)) (λ a. opaque_placed 2)))
