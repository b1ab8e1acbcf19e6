-- Laws of the counts of rooms: held and free ones are the rooms of the store, and what leads to each answer.
use Prim.Native.Nat.{ℕ, ◌+◌, ◌-◌, ◌≤◌}
use Rattle.std.specs.Prelude.{Ok, Err}
use mathlib.Core.Path.{◌≡◌, refl, sym, ap}
use mathlib.Core.Bool.{Bool, true, false}
use native.Mathlib.Omega.{arith}
use Rattle.ground_refusal.specs.declared.Refusal.{Refusal}
use Rattle.ground_refusal.proofs.Exits.{ok_inj}
use Rattle.ground_refusal.specs.declared.Refusal.TheVariants.{ImpossibleState}
use Rattle.rooms_marks.specs.Rooms.{held_rooms}
use Rattle.rooms_marks.proofs.Counting.{held_and_free}
use Rattle.rooms_state.specs.State.{rooms_in, possible_of}
use Rattle.rooms_state.specs.declared.Networks.{Networks}
use Rattle.rooms_state.proofs.Facts.{networks_are, rooms_most}
use Rattle.rooms_count.specs.Counting.{held, free, held_of, free_of}

-- "held plus free rooms is the smaller of 512 and the whole rooms in the store's length"
pub held_plus_free : (x : Networks) (bytes : ℕ) → possible_of x bytes ≡ true → held x + free x bytes ≡ rooms_in bytes
unfolding held free
held_plus_free x bytes ok =
    let s = (networks_are x bytes ok).sound in
    held_and_free (rooms_in bytes) x.one.rooms x.two.rooms (rooms_most _ x.one s.own) (rooms_most _ x.two s.others) s.once

module _ (x : Networks) (bytes : ℕ) where
  pub held_impossible : possible_of x bytes ≡ false → Err ImpossibleState ≡ held_of x bytes
  unfolding held_of
  held_impossible f = rw f

  module _ (ok : possible_of x bytes ≡ true) (a b : ℕ) (e : a ≡ held_rooms x.one.rooms) (f : b ≡ held_rooms x.two.rooms) where
    sum_is : a + b ≡ held x
    unfolding held
    sum_is = omega arith

    pub held_counted : Ok (a + b) ≡ held_of x bytes
    unfolding held_of
    held_counted = rw ok (ap Ok sum_is)

    held_most : (n : ℕ) → n ≡ rooms_in bytes → a + b ≤ n
    held_most n g = let s = sum_is in let h = held_plus_free x bytes ok in omega arith

    pub held_few : a + b ≤ 512
    unfolding rooms_in
    held_few = let m = held_most (rooms_in bytes) refl in omega arith

  -- what is held was counted, or the state is not possible, and so nothing is free
  held_is : (n : ℕ) → held_of x bytes ≡ Ok n → (possible_of x bytes ≡ true) × (n ≡ held x)
  unfolding held_of
  held_is n e = go (possible_of x bytes) refl
    where
      go : (b : Bool) → possible_of x bytes ≡ b → (possible_of x bytes ≡ true) × (n ≡ held x)
      go true p = (p, sym (ok_inj (rw p at e)))
      go false p = let z = rw p at e in cc

  pub free_refused : (r : Refusal) → held_of x bytes ≡ Err r → Err r ≡ free_of x bytes
  unfolding held_of free_of
  free_refused r e = go (possible_of x bytes) refl
    where
      go : (b : Bool) → possible_of x bytes ≡ b → Err r ≡ free_of x bytes
      go true p = let z = rw p at e in cc
      go false p = rw p (sym (rw p at e))

  module _ (m : ℕ) (e : held_of x bytes ≡ Ok m) (n : ℕ) (g : n ≡ rooms_in bytes) where
    pub free_most : m ≤ n
    free_most = let i = held_is m e in let h = held_plus_free x bytes i.0 in let s = i.1 in omega arith

    pub free_counted : Ok (n - m) ≡ free_of x bytes
    unfolding free_of
    free_counted = let i = held_is m e in rw i.0 (ap Ok (let s = i.1 in let h = held_plus_free x bytes i.0 in omega arith))
