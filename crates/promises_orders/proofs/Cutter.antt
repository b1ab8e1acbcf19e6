-- The cutter and the count of sections go through their lines as they are listed.
use Prim.Native.Nat.{ℕ}
use Rattle.std.specs.Prelude.{Result, Ok, Err}
use Rattle.ground_refusal.specs.declared.Refusal.{Refusal}
use mathlib.Core.Path.{◌≡◌, refl}
use mathlib.Core.List.{List}
use native.Mathlib.Omega.{arith}
use lib.ListN.{length}
use Rattle.section_cutter.specs.Cutting.{section_count, counted_of, section_of, refuses, writes, cut_if_room, cutting, cut_by, cut_answer}
use Rattle.promises_orders.specs.Order.{AsListed}
use Rattle.promises_orders.specs.Cutter.{count_lines, cutter_lines}
use Rattle.promises_orders.proofs.Order.{Told, outcome, outcome_told, by_lines}

count_told : (n : ℕ) → Told Err (λ (a : Result ℕ Refusal). a ≡ Ok n)
count_told n = record { same = λ r r' e. cc; apart = λ r e. let z : ◌≡◌ {A = ℕ} 0 1 = cc in omega arith }

pub count_as_listed : (n : ℕ) → AsListed Err (λ a. a ≡ Ok (section_count n)) (count_lines n) (counted_of n)
unfolding counted_of count_lines outcome
count_as_listed n = by_lines Err _ (count_told (section_count n)) (count_lines n) (Ok (section_count n)) refl

cut_told : (n : ℕ) → Told Err (λ (a : Result ℕ Refusal). a ≡ Ok n)
cut_told n = record { same = λ r r' e. cc; apart = λ r e. let z : ◌≡◌ {A = ℕ} 0 1 = cc in omega arith }

module _ (body : List ℕ) (kind extension version number : ℕ) (out : List ℕ) where
  cuts : cut_answer body kind extension version number out
      ≡ outcome Err (cutter_lines body kind extension version number out) (Ok (length (section_of body kind extension version number)))
  unfolding cutting cut_if_room cut_by cutter_lines count_lines outcome
  cuts =
      outcome_told cut_by refuses Err (λ r. refl) (cutter_lines body kind extension version number out)
      (writes (section_of body kind extension version number))

  pub cutter_as_listed : AsListed Err (λ a. a ≡ Ok (length (section_of body kind extension version number)))
      (cutter_lines body kind extension version number out) (cut_answer body kind extension version number out)
  cutter_as_listed = rw cuts (by_lines Err _ (cut_told _) (cutter_lines body kind extension version number out) _ refl)
