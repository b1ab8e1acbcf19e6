-- What is ready of each thing in a configuration table: its entries, its bytes, and what comes after its fixed fields.
use Prim.Native.Nat.{ℕ, ◌+◌, ◌-◌, ◌≤◌, ◌<◌}
use mathlib.Core.Path.{◌≡◌, refl, sym, subst, ap, ◌∙◌}
use mathlib.Core.List.{List}
use native.Mathlib.Omega.{arith}
use lib.ListN.{length, get_or}
use Rattle.ground_numbers.specs.Sizes.{body_most}
use Rattle.ground_placing.specs.Placed.{placed}
use Rattle.ground_refusal.specs.declared.Refusal.TheVariants.{PastPart}
use Rattle.body_formats.specs.Format.{◌▷◌, only, count, number, among, rest, opaque, bytes_of, length_of, least_of, counted}
use Rattle.body_formats.specs.Resource.{resources}
use Rattle.body_ink.specs.Inked.{Ready, Inked}
use Rattle.body_ink.proofs.Pairs.{moved, Like, like_ready, like_inked, only_form, first, exact_ready, Fixed, only_fixed, both_fixed, fixed_ready}
use Rattle.body_ink.proofs.Numbers.{Numeral, a_count, a_number, of_a_set, numeral_fixed, numeral_ready, numeral_inked, after_number, number_then}
use Rattle.body_ink.proofs.Lengths.{counted_ready, counted_inked}
use Rattle.configuration.specs.Configuration.{terminals, plain, date, clock, address_fault, address_length, address, Order, set_clock, tune, set_return, order_of, said, least, command}

-- ---- 1: the clock

plain_fixed : (w : ℕ) → Fixed (w + 2) 3 (plain w)
plain_fixed w = both_fixed (numeral_fixed (a_count w)) (both_fixed (numeral_fixed (a_count 1)) (numeral_fixed (a_count 1)))

date_fixed : Fixed 4 3 date
unfolding date
date_fixed = only_fixed (plain_fixed 2) _

clock_fixed : Fixed 3 3 clock
unfolding clock
clock_fixed = only_fixed (plain_fixed 1) _

pub clock_ready : {pool tape : List ℕ} {at k room : ℕ} → Ready (said set_clock) pool tape at k room
    → (k + 6 ≤ length tape) × (at + 7 ≤ room) × (at + 7 ≤ body_most)
unfolding said
clock_ready g = fixed_ready (both_fixed date_fixed clock_fixed) (exact_ready PastPart g)

-- ---- 3: the channel

-- "mapping 0 to 5"
pub mapping : Numeral 1 (λ v. v) (among 0 5 (number 1))
mapping = of_a_set (a_number 1) _

pub tune_ready : {pool tape : List ℕ} {at k room : ℕ} → Ready (said tune) pool tape at k room
    → (k + 3 ≤ length tape) × (at + 9 ≤ room) × (at + 9 ≤ body_most) × Ready resources pool tape (at + 9) (k + 3) room
unfolding said terminals
tune_ready g =
    let p = after_number (a_number 4) _ (after_number (a_number 4) _ (exact_ready PastPart g)) in
    let r = numeral_ready mapping (first _ _ p) in
    (omega arith, omega arith, omega arith, moved (after_number mapping _ p) (omega arith) (omega arith) refl)

-- ---- 4: the return address, whose bytes are those of an opaque part

address_like : (kind : ℕ) (pool tape : List ℕ) → Like (opaque 1) (address kind) pool tape
unfolding address address_length counted length_of only
address_like kind pool tape k a j h = (a, only_form rest pool tape (address_fault kind) k a j h, refl)

pub address_ready : (kind : ℕ) {pool tape : List ℕ} {at k room : ℕ} → Ready (address kind) pool tape at k room → Ready (opaque 1) pool tape at k room
address_ready kind {pool} {tape} g = like_ready (address_like kind pool tape) g

pub address_inked : (kind : ℕ) {pool tape : List ℕ} {at k : ℕ} {out : List ℕ} {at' k' : ℕ} {out' : List ℕ} → Inked (opaque 1) pool tape at k out at' k' out'
    → Inked (address kind) pool tape at k out at' k' out'
address_inked kind {pool} {tape} i = like_inked (address_like kind pool tape) i

-- "kind 1 to 3"
pub a_kind : Numeral 1 (λ v. v) (among 1 3 (number 1))
a_kind = of_a_set (a_number 1) _

pub return_ready : {pool tape : List ℕ} {at k room : ℕ} → Ready (said set_return) pool tape at k room
    → (k < length tape) × (at + 1 ≤ room) × (at + 1 ≤ body_most) × Ready (address (get_or tape k 0) ▷ resources) pool tape (at + 1) (k + 1) room
unfolding said terminals
return_ready g =
    let e = exact_ready PastPart g in
    let r = numeral_ready a_kind (first _ _ e) in
    (r.0, r.1, r.2, after_number a_kind (λ kind. address kind ▷ terminals) e)

-- "volume 0 to 100"
pub a_volume : Numeral 1 (λ v. v) (among 0 100 (number 1))
a_volume = of_a_set (a_number 1) _

-- ---- commands

module _ (tag : ℕ) (o : Order) (e : order_of tag ≡ o) {pool tape : List ℕ} {at k : ℕ} where
  pub ordered_ready : {room : ℕ} → Ready (said (order_of tag)) pool tape at k room → Ready (said o) pool tape at k room
  ordered_ready {room} g = subst (λ q. Ready (said q) pool tape at k room) e g

  pub ordered_inked : {out : List ℕ} {at' k' : ℕ} {out' : List ℕ} → Inked (said o) pool tape at k out at' k' out'
      → Inked (said (order_of tag)) pool tape at k out at' k' out'
  ordered_inked {out} {at'} {k'} {out'} i = subst (λ q. Inked (said q) pool tape at k out at' k' out') (sym e) i

least_prints : (n m : ℕ) → (least_of 2 n).field.print m ≡ bytes_of 2 m
unfolding least_of count
least_prints n m = refl

pub command_ready : {pool tape : List ℕ} {at k room : ℕ} → Ready command pool tape at k room
    → (k < length tape) × (at + 3 ≤ room) × (at + 3 ≤ body_most) × Ready (said (order_of (get_or tape k 0))) pool tape (at + 3) (k + 1) room
unfolding command
command_ready {pool} {tape} {at} {k} g =
    let r = numeral_ready (a_number 1) (first _ _ g) in
    let n = least (get_or tape k 0) in
    let s =
    counted_ready (least_of 2 n) 2 (λ m. m) (least_prints n) (after_number (a_number 1) (λ tag. counted (least_of 2 (least tag)) (said (order_of tag))) g) in
    (r.0, omega (arith, s.fits), omega (arith, s.short), moved s (omega arith) refl refl)

pub command_inked : {pool tape : List ℕ} {at k : ℕ} {out mid : List ℕ} {at' k' : ℕ} {part out' : List ℕ} → mid ≡ placed out at (bytes_of 1 (get_or tape k 0))
    → Inked (said (order_of (get_or tape k 0))) pool tape (at + 3) (k + 1) mid at' k' part → out' ≡ placed part (at + 1) (bytes_of 2 (at' - at - 3))
    → Inked command pool tape at k out at' k' out'
unfolding command
command_inked {pool} {tape} {at} {k} {out} {mid} {at'} {k'} {part} d i e =
    let n = least (get_or tape k 0) in
    let three : at + 3 ≡ at + 1 + 2 = omega arith in
    let less : at' - at - 3 ≡ at' - (at + 1) - 2 = omega arith in
    number_then (a_number 1) (λ tag. counted (least_of 2 (least tag)) (said (order_of tag))) (numeral_inked (a_number 1) d refl refl)
    (counted_inked (least_of 2 n) 2 (λ m. m) (least_prints n) (subst (λ m. Inked (said (order_of (get_or tape k 0))) pool tape m (k + 1) mid at' k' part) three i)
    (e ∙ ap (λ m. placed part (at + 1) (bytes_of 2 m)) less))
