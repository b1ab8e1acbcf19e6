-- Laws of a list inked: its things one after the other, after a count or with none in the body.
use Prim.Native.Nat.{ℕ, suc, ◌+◌, ◌-◌, ◌≤◌, ◌<◌}
use mathlib.Core.Path.{◌≡◌, refl, sym, subst, ap, ◌∙◌}
use mathlib.Core.List.{List, ◌++◌}
use native.Mathlib.Omega.{arith}
use native.Mathlib.Nat.{add-zero}
use lib.ListN.{length, get_or}
use Rattle.ground_placing.proofs.Placing.{placed_none}
use Rattle.body_formats.specs.Reading.{found}
use Rattle.body_formats.specs.Format.{Format, bytes_of, repeat, print_all, followed, ◌▷◌, times, list_of, many}
use Rattle.body_formats.proofs.Outcomes.{found_inj, and_then_found}
use Rattle.body_formats.proofs.Elements.{repeat_length}
use Rattle.body_pen.specs.Penned.{unprinted}
use Rattle.body_ink.specs.Inked.{Ready, Inked}
use Rattle.body_ink.proofs.Pairs.{Like, like_ready, like_inked, moved, form_both, first, second, pair_inked}
use Rattle.body_ink.proofs.Numbers.{Numeral, unseen, numeral_ready, numeral_inked, after_number, number_then}

-- ---- n things

module _ {A : Type 0} (F : Format A) (pool tape : List ℕ) where
  more_like : (n : ℕ) → Like (F ▷ times n F) (times (suc n) F) pool tape
  unfolding times repeat followed print_all
  more_like n k xs j h =
      let f = and_then_found (F.form pool tape k) _ xs j h in
      let r = and_then_found (repeat (F.form pool tape) n f.1) _ xs j f.3 in
      let z = found_inj r.3 in (
        (f.0, r.0),
        form_both F (λ a. times n F) pool tape k f.0 f.1 f.2 r.0 j (r.2 ∙ ap (found r.0) z.1),
        ap (print_all F.print) (sym z.0),
      )

  none_inked : (at k : ℕ) (out : List ℕ) → Inked (times 0 F) pool tape at k out at k out
  unfolding times repeat print_all
  none_inked at k out =
      record {
        written = λ xs j h room.
            let z = found_inj h in
            rw (← z.0) (sym (add-zero at), z.1, sym (placed_none out at));
      }

-- ---- things under way: those after the first i are ready, and whatever inks them, from here on, inks them all

pub record Underway {A : Type 0} (F : Format A) (pool tape : List ℕ) (n at₀ k₀ : ℕ) (out₀ : List ℕ) (i at k : ℕ) (out : List ℕ) : Type 0 where
  pub ready : Ready (times (n - i) F) pool tape at k (length out)
  pub whole : (at' k' : ℕ) (out' : List ℕ) → Inked (times (n - i) F) pool tape at k out at' k' out' → Inked (times n F) pool tape at₀ k₀ out₀ at' k' out'

pub times_start : {A : Type 0} {F : Format A} {pool tape : List ℕ} {n at k : ℕ} {out : List ℕ} → Ready (times n F) pool tape at k (length out)
    → Underway F pool tape n at k out 0 at k out
times_start {A} {F} {pool} {tape} {n} {at} {k} {out} g =
    let z : n - 0 ≡ n = omega arith in
    record {
      ready = subst (λ m. Ready (times m F) pool tape at k (length out)) (sym z) g;
      whole = λ at' k' out' i. subst (λ m. Inked (times m F) pool tape at k out at' k' out') z i;
    }

module _ {A : Type 0} {F : Format A} {pool tape : List ℕ} {n at₀ k₀ : ℕ} {out₀ : List ℕ} {i at k : ℕ} {out : List ℕ}
    (u : Underway F pool tape n at₀ k₀ out₀ i at k out) where
  pub times_done : n ≤ i → Inked (times n F) pool tape at₀ k₀ out₀ at k out
  times_done h =
      let z : n - i ≡ 0 = omega arith in
      u.whole at k out (subst (λ m. Inked (times m F) pool tape at k out at k out) (sym z) (none_inked F pool tape at k out))

  module _ (h : i < n) where
    one_less : suc (n - (i + 1)) ≡ n - i
    one_less = omega arith

    one_more : Ready (F ▷ times (n - (i + 1)) F) pool tape at k (length out)
    one_more = like_ready (more_like F pool tape (n - (i + 1))) (subst (λ m. Ready (times m F) pool tape at k (length out)) (sym one_less) u.ready)

    pub times_next : Ready F pool tape at k (length out)
    times_next = first F (λ a. times (n - (i + 1)) F) one_more

    pub times_turn : {at' k' : ℕ} {mid : List ℕ} → Inked F pool tape at k out at' k' mid → Underway F pool tape n at₀ k₀ out₀ (i + 1) at' k' mid
    times_turn {at'} {k'} {mid} t =
        record {
          ready = second t one_more;
          whole = λ a b o r.
              u.whole a b o (subst (λ m. Inked (times m F) pool tape at k out a b o) one_less
              (like_inked (more_like F pool tape (n - (i + 1))) (pair_inked t r)));
        }

-- ---- after a count, and with none in the body

module _ {A : Type 0} (C : Format ℕ) (F : Format A) (pool tape : List ℕ) where
  list_like : Like (followed C (λ n. times n F)) (list_of C F) pool tape
  unfolding list_of followed times
  list_like k xs j h =
      let f = and_then_found (C.form pool tape k) _ xs j h in
      let l = repeat_length (F.form pool tape) f.0 f.1 xs j f.3 in
      ((f.0, xs), form_both C (λ n. times n F) pool tape k f.0 f.1 f.2 xs j f.3, ap (λ m. C.print m ++ print_all F.print xs) l)

module _ {w : ℕ} {face : ℕ → ℕ} {C : Format ℕ} (c : Numeral w face C) {A : Type 0} (F : Format A) {pool tape : List ℕ} {at k : ℕ} where
  pub list_ready : {room : ℕ} → Ready (list_of C F) pool tape at k room → Ready (times (get_or tape k 0) F) pool tape (at + w) (k + 1) room
  list_ready g = after_number c (λ n. times n F) (like_ready (list_like C F pool tape) g)

  pub list_count : {room : ℕ} → Ready (list_of C F) pool tape at k room → Ready C pool tape at k room
  list_count g = first C (λ n. times n F) (like_ready (list_like C F pool tape) g)

  pub list_inked : {out : List ℕ} {at' k' : ℕ} {mid : List ℕ} {at'' k'' : ℕ} {out' : List ℕ} → Inked C pool tape at k out at' k' mid
      → Inked (times (get_or tape k 0) F) pool tape at' k' mid at'' k'' out' → Inked (list_of C F) pool tape at k out at'' k'' out'
  list_inked p q = like_inked (list_like C F pool tape) (number_then c (λ n. times n F) p q)

module _ {A : Type 0} (F : Format A) (pool tape : List ℕ) where
  many_like : Like (list_of unprinted F) (many F) pool tape
  unfolding many list_of unprinted
  many_like k xs j h = (xs, h, refl)

module _ {A : Type 0} (F : Format A) {pool tape : List ℕ} {at k : ℕ} where
  pub many_count : {room : ℕ} → Ready (many F) pool tape at k room → k < length tape
  many_count g = (numeral_ready unseen (list_count unseen F (like_ready (many_like F pool tape) g))).0

  pub many_ready : {room : ℕ} → Ready (many F) pool tape at k room → Ready (times (get_or tape k 0) F) pool tape at (k + 1) room
  many_ready g = moved (list_ready unseen F (like_ready (many_like F pool tape) g)) (add-zero at) refl refl

  pub many_inked : {out : List ℕ} {at' k' : ℕ} {out' : List ℕ} → Inked (times (get_or tape k 0) F) pool tape at (k + 1) out at' k' out'
      → Inked (many F) pool tape at k out at' k' out'
  unfolding bytes_of
  many_inked {out} i = like_inked (many_like F pool tape) (list_inked unseen F (numeral_inked unseen (sym (placed_none out at)) (sym (add-zero at)) refl) i)
