-- Laws of the loop over a part's numbers and rooms: one turn, a stop, the end.
use Prim.Native.Nat.{ℕ, suc, ◌+◌, ◌≤◌, ◌<◌}
use mathlib.Core.Path.{◌≡◌, ◌∙◌, ap}
use mathlib.Core.Bool.{Bool, true, false, ◌&&◌}
use mathlib.Core.List.{List}
use native.Mathlib.Numerals.{add-one}
use lib.ListN.{length, get_or, drop, drop_of_length-le}
use lib.Seq.{drop-cons}
use Rattle.rooms_state.specs.State.{pair_test, matched}

module _ (n : ℕ) (s t : List ℕ) (i : ℕ) (l : length s ≡ length t) where
  matched_turn : i < length s → matched n (drop i s) (drop i t) ≡ pair_test n (get_or s i 0) (get_or t i 0) && matched n (drop (suc i) s) (drop (suc i) t)
  unfolding matched
  matched_turn h = rw (drop-cons s i 0 h, drop-cons t i 0 (rw l at h))

  pub pair_stop : i < length s → pair_test n (get_or s i 0) (get_or t i 0) ≡ false → matched n (drop i s) (drop i t) ≡ false
  pair_stop h e = matched_turn h ∙ ap (λ (b : Bool). b && matched n (drop (suc i) s) (drop (suc i) t)) e

  pub pair_step : i < length s → pair_test n (get_or s i 0) (get_or t i 0) ≡ true → matched n (drop i s) (drop i t) ≡ matched n (drop (i + 1) s) (drop (i + 1) t)
  pair_step h e = matched_turn h ∙ ap (λ (b : Bool). b && matched n (drop (suc i) s) (drop (suc i) t)) e ∙ rw (add-one i)

  pub pair_end : length s ≤ i → matched n (drop i s) (drop i t) ≡ true
  unfolding matched
  pair_end h = rw (drop_of_length-le s h)
