-- Laws of the joined body, one payload at a time, for payloads that stand anywhere in a store.
use Prim.Native.Nat.{ℕ, suc, ◌+◌, ◌-◌, ◌≤◌, ◌<◌}
use mathlib.Core.Path.{◌≡◌, refl, sym, ◌∙◌, ap}
use mathlib.Core.List.{List, [], ◌∷◌, ◌++◌, append_assoc, append-nil}
use native.Mathlib.Numerals.{add-one}
use native.Mathlib.Nat.{add-zero}
use native.Mathlib.Omega.{arith}
use lib.ListN.{length, get_or, take, drop, length-take, length-append, drop_of_length-le}
use lib.Seq.{drop-cons}
use Rattle.ground_placing.specs.Placed.{placed}
use Rattle.ground_placing.proofs.Placing.{placed_length, placed_next}
use Rattle.gathering_state.specs.Lists.{total, part}
use Rattle.gathering_state.proofs.Lists.{total_step, length_part, part_between}
use Rattle.gathering_hand_out.specs.Handing.{joined}

module _ (at : ℕ → ℕ) (store : List ℕ) where
  -- one payload, and the rest
  pub joined_step : (k : ℕ) (held : List ℕ) (i : ℕ) → i < length held → joined at k (drop i held) store ≡ part store (at k) (get_or held i 0 - 1) ++ joined at (k + 1) (drop (i + 1) held) store
  unfolding joined
  joined_step k held i h = rw (add-one k, add-one i, drop-cons held i 0 h)

  pub joined_end : (k : ℕ) (held : List ℕ) (i : ℕ) → length held ≤ i → joined at k (drop i held) store ≡ []
  unfolding joined
  joined_end k held i h = rw (drop_of_length-le held h)

  -- the body is as long as its payloads together
  pub joined_length : (k : ℕ) (held : List ℕ) → ((i : ℕ) → i < length held → at (k + i) + (get_or held i 0 - 1) ≤ length store) → length (joined at k held store) ≡ total held
  unfolding joined total
  joined_length k [] f = refl
  joined_length k (n ∷ ns) f =
      let a : at k + (n - 1) ≤ length store = rw (add-zero k) at (f 0 (omega arith)) in
      let b = joined_length (suc k) ns (λ i h. let e : k + suc i ≡ suc k + i = omega arith in rw e at (f (suc i) (omega arith))) in
      rw (length-append, length_part store (at k) (n - 1) a, b)

  -- and never longer, whatever the store holds
  pub joined_most : (k : ℕ) (held : List ℕ) → length (joined at k held store) ≤ total held
  unfolding joined total part
  joined_most k [] = omega arith
  joined_most k (n ∷ ns) =
      let a = length-take (n - 1) (drop (at k) store) in
      let b = joined_most (suc k) ns in
      simp length-append (omega arith)

  -- the payloads of the first k numbers are laid at the start of the output, o bytes of them
  pub record Joining (held out₀ : List ℕ) (k o : ℕ) (out : List ℕ) : Type 0 where
    pub within : k ≤ length held
    pub left : total held ≡ o + total (drop k held)
    pub sent : List ℕ
    pub sent_long : length sent ≡ o
    pub sent_is : sent ++ joined at k (drop k held) store ≡ joined at 0 held store
    pub laid : out ≡ placed out₀ 0 sent
    pub long : length out ≡ length out₀

  pub join_start : (held out : List ℕ) → Joining held out 0 0 out
  unfolding placed
  join_start held out = record { within = omega arith; left = omega arith; sent = []; sent_long = refl; sent_is = refl; laid = refl; long = refl }

  module _ (held out₀ : List ℕ) (k o : ℕ) (out : List ℕ) (j : Joining held out₀ k o out) where
    pub join_room : k < length held → total held ≤ length out₀ → o + (get_or held k 0 - 1) ≤ length out
    join_room h t = let a = total_step held k h in let b = j.left in let d = j.long in omega arith

    pub join_step : k < length held → total held ≤ length out₀
        → (n : ℕ) → n ≡ get_or held k 0 - 1 → (a : ℕ) → a ≡ at k → a + n ≤ length store
        → (out' : List ℕ) → out' ≡ placed out o (take (a + n - a) (drop a store)) → Joining held out₀ (k + 1) (o + n) out'
    join_step h t n e a p f out' q =
        record {
          within = omega arith;
          left = let s = total_step held k h in let l = j.left in omega arith;
          sent = j.sent ++ payload;
          sent_long = length-append j.sent payload ∙ rw (j.sent_long, payload_long);
          sent_is = rw (append_assoc, e, ← joined_step k held k h) j.sent_is;
          laid = out_is ∙ rw j.laid (placed_next out₀ 0 j.sent sent_room payload o sent_end);
          long = ap length out_is ∙ placed_length out o payload payload_room ∙ j.long;
        }
      where
        payload : List ℕ
        payload = part store (at k) n

        payload_long : length payload ≡ n
        payload_long = length_part store (at k) n (rw p at f)

        payload_room : o + length payload ≤ length out
        payload_room = rw (payload_long, e) (join_room h t)

        sent_room : 0 + length j.sent ≤ length out₀
        sent_room = let l = j.left in let m = j.sent_long in omega arith

        sent_end : o ≡ 0 + length j.sent
        sent_end = let m = j.sent_long in omega arith

        out_is : out' ≡ placed out o payload
        out_is = q ∙ rw (part_between store a n, p)

    pub join_end : length held ≤ k → out ≡ placed out₀ 0 (joined at 0 held store)
    join_end h = j.laid ∙ ap (placed out₀ 0) (sym (append-nil j.sent) ∙ rw (joined_end k held k h) at j.sent_is)
