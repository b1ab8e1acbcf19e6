-- Salvaging goes through its lines as they are listed.
use Prim.Native.Nat.{ℕ}
use Rattle.std.specs.Prelude.{Result, Ok, Err}
use Rattle.ground_refusal.specs.declared.Refusal.{Refusal}
use mathlib.Core.Path.{◌≡◌, refl}
use mathlib.Core.List.{List}
use native.Mathlib.Omega.{arith}
use lib.ListN.{length}
use Rattle.salvage.specs.Runs.{runs_of}
use Rattle.salvage.specs.Salvage.{sections, refuses, writes, salvaging, answer_by, salvage_of}
use Rattle.promises_orders.specs.Order.{AsListed}
use Rattle.promises_orders.specs.Salvage.{salvage_lines}
use Rattle.promises_orders.proofs.Order.{Told, outcome, outcome_told, by_lines}

salvaged_told : (bytes runs : ℕ) → Told Err (λ (a : Result (ℕ × ℕ) Refusal). a ≡ Ok (bytes, runs))
salvaged_told bytes runs = record { same = λ r r' e. cc; apart = λ r e. let z : ◌≡◌ {A = ℕ} 0 1 = cc in omega arith }

module _ (capture : List ℕ) (room entries : ℕ) where
  salvages : salvage_of capture room entries
      ≡ outcome Err (salvage_lines capture room entries) (Ok (length (sections capture), length (runs_of capture)))
  unfolding salvage_of salvaging salvage_lines outcome
  salvages = outcome_told (λ v. answer_by v capture) refuses Err (λ r. refl) (salvage_lines capture room entries) writes

  pub salvage_as_listed : AsListed Err (λ a. a ≡ Ok (length (sections capture), length (runs_of capture)))
      (salvage_lines capture room entries) (salvage_of capture room entries)
  salvage_as_listed = rw salvages (by_lines Err _ (salvaged_told _ _) (salvage_lines capture room entries) _ refl)
