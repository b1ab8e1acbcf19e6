-- Laws of a section's bytes: its frame is read from its first three, and what is read in a part of it with stuffing behind.
use Prim.Native.Nat.{ℕ, zero, suc, ◌+◌, ◌-◌, ◌≤◌, ◌<◌}
use mathlib.Core.Bool.{true, false, and-false}
use mathlib.Core.List.{List, [], ◌∷◌, ◌++◌, append_assoc, append-nil}
use mathlib.Core.Path.{◌≡◌, refl, ap, ◌∙◌, subst}
use native.Mathlib.Omega.{arith}
use borrow.Author.Tests.{le-leb, lt-leb, le-ltb}
use lib.ListN.{length, take, drop, replicate, length-append}
use lib.Seq.{take_at, drop_at}
use Rattle.ground_numbers.specs.Sizes.{section_length_most}
use Rattle.section_reader.specs.Section.{section_length}
use Rattle.packet.specs.Sizes.{stuffing}
use Rattle.packet_frames.specs.Framing.{at_stuffing, framed, too_long, is_whole, nothing, longer, gone_on, before, begun_in, begun}
use Rattle.packet_frames.proofs.Frames.{length_front, framed_front}

-- ---- the frame

pub stuffing_front : (u x : List ℕ) → 3 ≤ length u → at_stuffing (u ++ x) ≡ at_stuffing u
unfolding at_stuffing
stuffing_front [] x h = absurd (omega arith)
stuffing_front (a ∷ u) x h = refl

-- ---- a whole section with bytes behind it, and a section with more to come

module _ (s x : List ℕ) (least : 3 ≤ length s) (most : section_length s ≤ section_length_most) where
  long : length (s ++ x) ≡ length s + length x
  long = length-append s x

  pub not_too_long : too_long (s ++ x) ≡ false
  unfolding too_long
  not_too_long = simp (length_front s x least, le-ltb section_length_most (section_length s) most, and-false)

  pub whole : framed s ≤ length s + length x → is_whole (s ++ x) ≡ true
  unfolding is_whole
  whole h =
      simp (framed_front s x least, le-leb 3 (length (s ++ x)) (omega (arith, long)), le-leb (framed s) (length (s ++ x)) (omega (arith, long)))

  pub not_whole : length s + length x < framed s → is_whole (s ++ x) ≡ false
  unfolding is_whole
  not_whole h = simp (framed_front s x least, lt-leb (framed s) (length (s ++ x)) (omega (arith, long)), and-false)

-- ---- going on

longer_whole : (d : List ℕ) → too_long d ≡ false → is_whole d ≡ true → longer d ≡ record { sections = take (framed d) d ∷ []; unfinished = [] }
unfolding longer
longer_whole d t w = rw (t, w)

longer_open : (d : List ℕ) → too_long d ≡ false → is_whole d ≡ false → longer d ≡ record { sections = []; unfinished = d }
unfolding longer
longer_open d t w = rw (t, w)

goes_on : (u more : List ℕ) → 3 ≤ length u → gone_on u more ≡ longer (u ++ more)
unfolding gone_on
goes_on [] more h = absurd (omega arith)
goes_on (b ∷ bs) more h = refl

module _ (u r : List ℕ) (least : 3 ≤ length u) (most : section_length u ≤ section_length_most) where
  -- the unfinished section's last bytes
  pub goes_on_whole : (x : List ℕ) → framed u ≡ length u + length r
      → gone_on u (r ++ x) ≡ record { sections = (u ++ r) ∷ []; unfinished = [] }
  goes_on_whole x e =
      goes_on u (r ++ x) least
      ∙ longer_whole (u ++ (r ++ x)) (not_too_long u (r ++ x) least most) (whole u (r ++ x) least most (omega (arith, length-append r x)))
      ∙ ap (λ s. record { sections = s ∷ []; unfinished = [] })
      (rw (framed_front u (r ++ x) least, e, ← (append_assoc u r x)) (take_at (u ++ r) x (length u + length r) (length-append u r)))

  -- some of its bytes, and more to come
  pub goes_on_open : length u + length r < framed u → gone_on u r ≡ record { sections = []; unfinished = u ++ r }
  goes_on_open h =
      goes_on u r least
      ∙ longer_open (u ++ r) (not_too_long u r least most) (not_whole u r least most h)

-- ---- beginning

begun_stuffing : (n k : ℕ) → begun_in n (replicate k stuffing) ≡ nothing
unfolding begun_in at_stuffing
begun_stuffing zero k = refl
begun_stuffing (suc n) zero = refl
begun_stuffing (suc n) (suc k) = refl

begun_whole : (n : ℕ) (d : List ℕ) → at_stuffing d ≡ false → too_long d ≡ false → is_whole d ≡ true
    → begun_in (suc n) d ≡ before (take (framed d) d) (begun_in n (drop (framed d) d))
unfolding begun_in
begun_whole n d a t w = rw (a, t, w)

begun_open : (n : ℕ) (d : List ℕ) → at_stuffing d ≡ false → too_long d ≡ false → is_whole d ≡ false
    → begun_in (suc n) d ≡ record { sections = []; unfinished = d }
unfolding begun_in
begun_open n d a t w = rw (a, t, w)

begun_turns : (d : List ℕ) → 3 ≤ length d → begun d ≡ begun_in (suc (length d - 1)) d
unfolding begun
begun_turns d h = ap (λ (n : ℕ). begun_in n d) (omega arith)

module _ (s : List ℕ) (least : 3 ≤ length s) (most : section_length s ≤ section_length_most) (begins : at_stuffing s ≡ false) where
  whole_behind : (x : List ℕ) (n : ℕ) → framed s ≡ length s
      → before (take (framed (s ++ x)) (s ++ x)) (begun_in n (drop (framed (s ++ x)) (s ++ x))) ≡ before s (begun_in n x)
  whole_behind x n e = rw (framed_front s x least, e, take_at s x (length s) refl, drop_at s x (length s) refl)

  -- a section whole, and stuffing behind it
  pub begins_whole : (k : ℕ) → framed s ≡ length s → begun (s ++ replicate k stuffing) ≡ record { sections = s ∷ []; unfinished = [] }
  unfolding before nothing
  begins_whole k e =
      begun_turns (s ++ x) (omega (arith, length-append s x))
      ∙ begun_whole n (s ++ x) (stuffing_front s x least ∙ begins) (not_too_long s x least most) (whole s x least most (omega arith))
      ∙ whole_behind x n e
      ∙ ap (before s) (begun_stuffing n k)
    where
      x : List ℕ
      x = replicate k stuffing

      n : ℕ
      n = length (s ++ x) - 1

  -- a section's first bytes
  pub begins_open : length s < framed s → begun s ≡ record { sections = []; unfinished = s }
  begins_open l =
      begun_turns s least
      ∙ begun_open (length s - 1) s begins
      (subst (λ v. too_long v ≡ false) (append-nil s) (not_too_long s [] least most))
      (subst (λ v. is_whole v ≡ false) (append-nil s) (not_whole s [] least most (omega arith)))
