-- What the slow gathering keeps over a run of feeds that fits: the rows of what was fed, and nothing else.
use Prim.Native.Nat.{ℕ, ◌+◌, ◌^◌, ◌≤◌, ◌<◌}
use Rattle.std.specs.Prelude.{Err}
use mathlib.Core.Path.{◌≡◌, refl, sym, ap, ap₂, ◌∙◌}
use mathlib.Core.Bool.{Bool, true, false}
use mathlib.Core.List.Memᴰ
use mathlib.Core.List.{List, [], ◌∷◌, ◌++◌, append-nil, append_assoc, Memᴰ as In}
use mathlib.Core.Logic.{◌⊎◌, inl, inr}
use native.Mathlib.Omega.{arith}
use borrow.Author.Tests.{le-leb, lt-leb}
use lib.ListN.{length, take, length-append}
use Rattle.ground_placing.specs.Placed.{placed}
use Rattle.ground_placing.proofs.Placing.{placed_front, placed_length}
use Rattle.ground_refusal.specs.declared.Refusal.TheVariants.{TeachingBufferFull}
use Rattle.gathering_state.specs.State.{has_room}
use Rattle.gathering_account.specs.Account.{heard, Account, idle, account_after, account}
use Rattle.gathering_account.specs.Answering.{answer_to, answers_to}
use Rattle.gathering_account.proofs.Growing.{account_append}
use Rattle.teaching_rows.specs.Rows.{length_bytes, row, rows, strings_in, whole_rows, whole_in_use, Short}
use Rattle.teaching_rows.proofs.Rows.{row_length, in_use_rows}
use Rattle.teaching_rows.proofs.Whole.{rows_more, strings_rows, rows_whole}
use Rattle.teaching_table.specs.Table.{account_in}
use Rattle.teaching_feed.specs.Feeding.{row_fits, answer_of, keeps, used_after, buffer_after}
use Rattle.teaching_account.specs.Lockstep.{Slow, fresh_slow, slow_answer, slow_feed, slow_after, slow_answers}

-- ---- strings whose rows fit a buffer have lengths of eight bytes

row_in : (kept : List (List ℕ)) (s : List ℕ) → In s kept → length s ≤ length (rows kept)
unfolding rows
row_in [] s i = absurd (Memᴰ.not-nil i)
row_in (x ∷ kept) s i = go (Memᴰ.cases_cons i) (λ j. row_in kept s j)
  where
    go : (s ≡ x) ⊎ In s kept → (In s kept → length s ≤ length (rows kept)) → length s ≤ length (rows (x ∷ kept))
    go (inl e) next = omega (arith, ap length e, length-append (row x) (rows kept), row_length x)
    go (inr j) next = omega (arith, next j, length-append (row x) (rows kept))

short : (kept : List (List ℕ)) (n : ℕ) → length (rows kept) ≤ n → n < 256 ^ length_bytes → Short kept
unfolding Short
short kept n h l s i = omega (arith, row_in kept s i)

pub rows_longer : (kept : List (List ℕ)) (s : List ℕ) → length (rows (kept ++ s ∷ [])) ≡ length (rows kept) + (length_bytes + length s)
rows_longer kept s = ap length (rows_more kept s) ∙ length-append (rows kept) (row s) ∙ ap (λ n. length (rows kept) + n) (row_length s)

-- ---- what stands in the buffer

-- a buffer of n bytes keeps these strings
pub record Keeps (n : ℕ) (slow : Slow) (kept : List (List ℕ)) : Type 0 where
  pub used : slow.used ≡ length (rows kept)
  pub rows_are : take slow.used slow.buffer ≡ rows kept
  pub long : length slow.buffer ≡ n

module _ (n : ℕ) (few : n < 256 ^ length_bytes) (slow : Slow) (kept : List (List ℕ)) (k : Keeps n slow kept) (fits : length (rows kept) ≤ n) where
  pub kept_whole : whole_in_use slow.buffer slow.used ≡ true
  kept_whole =
      sym (in_use_rows slow.buffer slow.used (omega (arith, k.used, k.long))) ∙ ap whole_rows k.rows_are ∙ rows_whole kept (short kept n fits few)

  -- the account of what stands in the buffer is that of what was fed
  pub kept_account : (store : ℕ) → account_in store (take slow.used slow.buffer) ≡ account (has_room store) idle kept
  unfolding account_in
  kept_account store =
      ap (λ b. account (has_room store) idle (strings_in b)) k.rows_are ∙ ap (account (has_room store) idle) (strings_rows kept (short kept n fits few))

  module _ (s : List ℕ) where
    fitting : length (rows (kept ++ s ∷ [])) ≤ n → row_fits (length slow.buffer) slow.used (length s) ≡ true
    unfolding row_fits
    fitting h = le-leb (slow.used + (length_bytes + length s)) (length slow.buffer) (omega (arith, rows_longer kept s, k.used, k.long))

    overfull : n < length (rows (kept ++ s ∷ [])) → row_fits (length slow.buffer) slow.used (length s) ≡ false
    unfolding row_fits
    overfull h = lt-leb (slow.used + (length_bytes + length s)) (length slow.buffer) (omega (arith, rows_longer kept s, k.used, k.long))

    pub full_answer : (store : ℕ) → n < length (rows (kept ++ s ∷ [])) → slow_answer store slow s ≡ Err TeachingBufferFull
    unfolding answer_of
    full_answer store h = rw (overfull h)

    pub full_feed : n < length (rows (kept ++ s ∷ [])) → slow_feed slow s ≡ slow
    unfolding slow_feed buffer_after used_after keeps
    full_feed h = rw (overfull h)

    module _ (h : length (rows (kept ++ s ∷ [])) ≤ n) where
      pub kept_answer : (store : ℕ) → slow_answer store slow s ≡ answer_to (has_room store) (account (has_room store) idle kept) s
      unfolding answer_of
      kept_answer store = rw (fitting h, kept_whole) (ap (λ a. answer_to (has_room store) a s) (kept_account store))

      room : slow.used + length (row s) ≤ length slow.buffer
      room = omega (arith, rows_longer kept s, k.used, k.long, row_length s)

      fed_buffer : buffer_after slow.buffer slow.used s ≡ placed slow.buffer slow.used (row s)
      unfolding buffer_after keeps
      fed_buffer = rw (fitting h, kept_whole)

      fed_used : used_after slow.buffer slow.used s ≡ slow.used + length (row s)
      unfolding used_after keeps
      fed_used = rw (fitting h, kept_whole) (ap (λ m. slow.used + m) (sym (row_length s)))

      pub kept_more : Keeps n (slow_feed slow s) (kept ++ s ∷ [])
      unfolding slow_feed
      kept_more =
          record {
            used = fed_used ∙ omega (arith, rows_longer kept s, k.used, row_length s);
            rows_are =
                ap₂ (λ m b. take m b) fed_used fed_buffer ∙ placed_front slow.buffer slow.used (row s) room
                ∙ ap (λ b. b ++ row s) k.rows_are ∙ sym (rows_more kept s);
            long = ap length fed_buffer ∙ placed_length slow.buffer slow.used (row s) room ∙ k.long;
          }

-- ---- a run of feeds

rows_front : (kept fed : List (List ℕ)) → length (rows kept) ≤ length (rows (kept ++ fed))
unfolding rows
rows_front [] fed = omega arith
rows_front (x ∷ kept) fed = omega (arith, rows_front kept fed, length-append (row x) (rows kept), length-append (row x) (rows (kept ++ fed)))

module _ (n : ℕ) (few : n < 256 ^ length_bytes) where
  one_more : (kept : List (List ℕ)) (s : List ℕ) (fed : List (List ℕ)) → length (rows (kept ++ s ∷ fed)) ≤ n → length (rows ((kept ++ s ∷ []) ++ fed)) ≤ n
  one_more kept s fed h = rw (append_assoc kept (s ∷ []) fed) h

  pub run_keeps : (fed kept : List (List ℕ)) (slow : Slow) → Keeps n slow kept → length (rows (kept ++ fed)) ≤ n → Keeps n (slow_after slow fed) (kept ++ fed)
  unfolding slow_after
  run_keeps [] kept slow k h = rw (append-nil kept) k
  run_keeps (s ∷ fed) kept slow k h =
      let more = one_more kept s fed h in
      let front = rows_front (kept ++ s ∷ []) fed in
      let first = rows_front kept (s ∷ fed) in
      rw (append_assoc kept (s ∷ []) fed) at
      (run_keeps fed (kept ++ s ∷ []) (slow_feed slow s) (kept_more n few slow kept k (omega arith) s (omega arith)) more)

  pub run_answers : (store : ℕ) (fed kept : List (List ℕ)) (slow : Slow) → Keeps n slow kept → length (rows (kept ++ fed)) ≤ n
      → slow_answers store slow fed ≡ answers_to (has_room store) (account (has_room store) idle kept) fed
  unfolding slow_answers answers_to account
  run_answers store [] kept slow k h = refl
  run_answers store (s ∷ fed) kept slow k h =
      let more = one_more kept s fed h in
      let front = rows_front (kept ++ s ∷ []) fed in
      let first = rows_front kept (s ∷ fed) in
      ap₂ ◌∷◌ (kept_answer n few slow kept k (omega arith) s (omega arith) store)
      (run_answers store fed (kept ++ s ∷ []) (slow_feed slow s) (kept_more n few slow kept k (omega arith) s (omega arith)) more
      ∙ ap (λ a. answers_to (has_room store) a fed) (account_append (has_room store) idle kept (s ∷ [])))
