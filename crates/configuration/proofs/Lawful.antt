-- The configuration table's formats keep the laws of formats, from the terminal list up to the table.
use Prim.Native.Nat.{ℕ}
use mathlib.Core.Path.{◌≡◌, refl, ap}
use mathlib.Core.List.{List}
use mathlib.Core.Bool.{Bool, true, false, ◌&&◌, false≢true}
use lib.ListN.{length}
use lib.Dec.{leb}
use Rattle.std.specs.Prelude.{if◌then◌else◌, Result, Ok, Err}
use Rattle.ground_refusal.specs.declared.Refusal.{Refusal}
use Rattle.ground_refusal.specs.declared.Refusal.TheVariants.{LeftOver, PastPart, ImpossibleDay}
use Rattle.time_days.specs.Calendar.{day_of}
use Rattle.body_formats.specs.Reading.{Fault, fine, faulty, is_fine}
use Rattle.body_formats.specs.Format.{only, outside, count, number, rest, least_of, counted}
use Rattle.body_formats.specs.Resource.{resource_pairs}
use Rattle.body_formats.proofs.Classes.{Lawful, Filling}
use Rattle.body_formats.proofs.Leaves.{count_lawful, count_small, small_count, digits_lawful}
use Rattle.body_formats.proofs.Bits.{among_lawful}
use Rattle.body_formats.proofs.Parts.{only_ok, only_lawful, only_filling, unless_even, outside_even, number_lawful, followed_lawful, view_lawful, rest_filling, exact_filling, Counts, counted_lawful, least_counts, opaque_lawful}
use Rattle.body_formats.proofs.Lists.{list_lawful}
use Rattle.body_formats.proofs.Resources.{resources_lawful}
use Rattle.configuration_addresses.specs.Address.{length_fits, is_address}
use Rattle.configuration.specs.Configuration.{terminals, day_fault, plain, date, clock, address_fault, address_length, address, Order, set_clock, set_code, tune, set_return, set_period, set_volume, query, other, order_of, said, least, command, fields, configuration}
use Rattle.configuration.proofs.Least.{enough}

pub terminals_lawful : Lawful terminals
unfolding terminals
terminals_lawful = resources_lawful

-- ---- the clock: whether a day or a time is possible does not depend on its place

pub plain_lawful : (w : ℕ) → Lawful (plain w)
plain_lawful w = followed_lawful _ _ (count_lawful w) (λ a. followed_lawful _ _ (count_lawful 1) (λ b. count_lawful 1))

day_even : (d : Result ℕ Refusal) (p : ℕ) → is_fine (day_fault d p) ≡ is_fine (day_fault d 0)
day_even (Ok n) p = refl
day_even (Err r) p = refl

pub date_lawful : Lawful date
unfolding date
date_lawful = only_lawful _ _ (λ x. day_even (day_of x.0 x.1.0 x.1.1)) (plain_lawful 2)

pub clock_lawful : Lawful clock
unfolding clock
clock_lawful = only_lawful _ _ (λ x. unless_even (leb x.0 23 && (leb x.1.0 59 && leb x.1.1 59)) ImpossibleDay) (plain_lawful 1)

-- ---- the return address

module _ (kind : ℕ) where
  address_even : (cs : List ℕ) (p : ℕ) → is_fine (address_fault kind cs p) ≡ is_fine (address_fault kind cs 0)
  address_even cs p = go (length_fits kind (length cs))
    where
      go : (t : Bool) → is_fine (if t then outside (is_address kind) cs p else faulty (PastPart p)) ≡ is_fine (if t then outside (is_address kind) cs 0 else faulty (PastPart 0))
      go true = outside_even (is_address kind) cs p
      go false = refl

  -- a well-formed address has a length that fits its kind
  fitting_counts : Counts (address_length kind) (only (address_fault kind) rest)
  unfolding address_length only rest
  fitting_counts =
      record {
        lawful = count_lawful 1;
        holds = count_small 1;
        accepts = λ cs p o h.
            let fits = fits_where_fine (length_fits kind (length cs)) _ _ (only_ok (address_fault kind) rest address_even cs record { writable = o.writable; small = o.small }).1 in
            rw fits;
        limits = λ n p o h. small_count 1 n o;
      }
    where
      fits_where_fine : (t : Bool) (f : Fault) (r : Refusal) → (if t then f else faulty r) ≡ fine → t ≡ true
      fits_where_fine true f r e = refl
      fits_where_fine false f r e = absurd (false≢true (ap is_fine e))

  pub address_lawful : Lawful (address kind)
  unfolding address
  address_lawful = counted_lawful (address_length kind) _ fitting_counts (only_filling (address_fault kind) rest address_even rest_filling)

-- ---- commands

pub said_filling : (order : Order) → Filling (said order)
unfolding said
said_filling set_clock = exact_filling PastPart _ (followed_lawful _ _ date_lawful (λ a. clock_lawful))
said_filling set_code = exact_filling PastPart _ (followed_lawful _ _ (opaque_lawful 1) (λ a. digits_lawful resource_pairs))
said_filling tune =
    exact_filling PastPart _ (followed_lawful _ _ (number_lawful 4) (λ a. followed_lawful _ _ (number_lawful 4) (λ b.
    followed_lawful _ _ (among_lawful 0 5 (number 1) (number_lawful 1)) (λ c. terminals_lawful))))
said_filling set_return =
    exact_filling PastPart _ (followed_lawful _ _ (among_lawful 1 3 (number 1) (number_lawful 1)) (λ kind.
    followed_lawful _ _ (address_lawful kind) (λ a. terminals_lawful)))
said_filling set_period = exact_filling PastPart _ (followed_lawful _ _ (number_lawful 4) (λ a. terminals_lawful))
said_filling set_volume = exact_filling PastPart _ (followed_lawful _ _ (among_lawful 0 100 (number 1) (number_lawful 1)) (λ a. terminals_lawful))
said_filling query = exact_filling PastPart _ (followed_lawful _ _ (list_lawful (number 1) (number_lawful 1) (count 1) (count_lawful 1)) (λ a. terminals_lawful))
said_filling other = rest_filling

module _ (tag : ℕ) where
  pub content_counts : Counts (least_of 2 (least tag)) (said (order_of tag))
  content_counts = least_counts 2 (least tag) (said (order_of tag)) (enough tag)

  pub content_lawful : Lawful (counted (least_of 2 (least tag)) (said (order_of tag)))
  content_lawful = counted_lawful (least_of 2 (least tag)) (said (order_of tag)) content_counts (said_filling (order_of tag))

pub command_lawful : Lawful command
unfolding command
command_lawful = followed_lawful _ _ (number_lawful 1) content_lawful

-- ---- the table

pub fields_lawful : Lawful fields
unfolding fields
fields_lawful = followed_lawful _ _ (list_lawful command command_lawful (count 1) (count_lawful 1)) (λ a. opaque_lawful 2)

pub configuration_filling : Filling configuration
unfolding configuration
configuration_filling = exact_filling LeftOver _ (view_lawful _ _ _ (λ a. refl) (λ b. refl) fields_lawful)
