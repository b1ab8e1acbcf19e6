-- No well-formed content of a command is shorter than the least content of its tag.
use Prim.Native.Nat.{ℕ, zero, suc, ◌+◌, ◌≤◌, zero-le}
use mathlib.Core.Path.{◌≡◌, refl}
use mathlib.Core.List.{List}
use mathlib.Core.Bool.{true}
use native.Mathlib.Omega.{arith}
use lib.ListN.{length, length-append}
use Rattle.ground_choices.proofs.Tests.{both}
use Rattle.body_formats.specs.Format.{Format, Length, ◌▷◌, followed, only, count, number, digits, list_of, opaque, length_of, rest, exact, counted}
use Rattle.body_formats.proofs.Classes.{Proper}
use Rattle.body_formats.proofs.Leaves.{length_bytes_lem}
use Rattle.body_formats.proofs.Strings.{digits_take}
use Rattle.body_formats.specs.Resource.{resource_pairs, resource}
use Rattle.configuration.specs.Configuration.{terminals, plain, date, clock, address_length, address, Said, said, order_of, least}

-- each value takes n bytes at least
abbrev Takes : {A : Type 0} → ℕ → Format A → Type 0
Takes {A} n F = (a : A) → n ≤ length (F.print a)

count_takes : (w : ℕ) → Takes w (count w)
unfolding count
count_takes w x = omega (arith, length_bytes_lem w x)

number_takes : (w : ℕ) → Takes w (number w)
unfolding number only
number_takes = count_takes

followed_takes : {A : Type 0} {B : A → Type 0} (m n : ℕ) (F : Format A) (G : (a : A) → Format (B a)) → Takes m F → ((a : A) → Takes n (G a)) → Takes (m + n) (followed F G)
unfolding followed
followed_takes m n F G f g x = simp length-append (omega (arith, f x.0, g x.0 x.1))

list_takes : {A : Type 0} (n : ℕ) (C : Format ℕ) (F : Format A) → Takes n C → Takes n (list_of C F)
unfolding list_of
list_takes n C F c xs = simp length-append (omega (arith, c (length xs)))

counted_takes : {A : Type 0} (n : ℕ) (L : Length) (F : Format A) → Takes n L.field → Takes n (counted L F)
unfolding counted
counted_takes n L F f a = simp length-append (omega (arith, f (length (F.print a))))

plain_takes : (w : ℕ) → Takes (w + 2) (plain w)
plain_takes w = followed_takes w 2 _ _ (count_takes w) (λ a. followed_takes 1 1 _ _ (count_takes 1) (λ b. count_takes 1))

terminals_take : Takes 1 terminals
unfolding terminals
terminals_take = list_takes 1 (count 1) resource (count_takes 1)

opaque_takes : (w : ℕ) → Takes w (opaque w)
unfolding length_of
opaque_takes w = counted_takes w (length_of w) rest (count_takes w)

address_takes : (kind : ℕ) → Takes 1 (address kind)
unfolding address address_length
address_takes kind = counted_takes 1 (address_length kind) _ (count_takes 1)

code_takes : (x : List ℕ × List ℕ) → (opaque 1 ▷ resource).writable x ≡ true → 13 ≤ length ((opaque 1 ▷ resource).print x)
unfolding followed digits
code_takes x r =
    let o : Proper resource x.1 = record { writable = (both ((opaque 1).writable x.0) (resource.writable x.1) r).1; small = refl } in
    simp length-append (omega (arith, opaque_takes 1 x.0, digits_take resource_pairs x.1 o))

-- tag by tag: 0, the standard's 1 to 7 in order, and all others
pub enough : (tag : ℕ) (x : Said (order_of tag)) → Proper (said (order_of tag)) x → least tag ≤ length ((said (order_of tag)).print x)
unfolding least order_of said exact date clock only
enough zero x o = zero-le
enough (suc zero) x o = followed_takes 4 3 date (λ a. clock) (plain_takes 2) (λ a. plain_takes 1) x
enough (suc (suc zero)) x o = code_takes x o.writable
enough (suc (suc (suc zero))) x o =
    followed_takes 4 6 _ _ (number_takes 4) (λ a. followed_takes 4 2 _ _ (number_takes 4) (λ b. followed_takes 1 1 _ _ (number_takes 1) (λ c. terminals_take))) x
enough (suc (suc (suc (suc zero)))) x o =
    followed_takes 1 2 _ _ (number_takes 1) (λ kind. followed_takes 1 1 _ _ (address_takes kind) (λ a. terminals_take)) x
enough (suc (suc (suc (suc (suc zero))))) x o = followed_takes 4 1 _ _ (number_takes 4) (λ a. terminals_take) x
enough (suc (suc (suc (suc (suc (suc zero)))))) x o = followed_takes 1 1 _ _ (number_takes 1) (λ a. terminals_take) x
enough (suc (suc (suc (suc (suc (suc (suc zero))))))) x o =
    followed_takes 1 1 _ _ (list_takes 1 (count 1) (number 1) (count_takes 1)) (λ a. terminals_take) x
enough (suc (suc (suc (suc (suc (suc (suc (suc tag)))))))) x o = zero-le
