-- Both round trips, and both again through the writer, once for every format of a whole body.
use Prim.Native.Nat.{ℕ, ◌+◌, ◌≤◌, zero-le}
use mathlib.Core.Path.{◌≡◌, refl, sym, ap, ◌∙◌}
use mathlib.Core.List.{List}
use mathlib.Core.Bool.{false, not}
use native.Mathlib.Omega.{arith}
use native.Mathlib.Nat.{le_refl}
use lib.ListN.{length, take}
use lib.Dec.{leb, eqb}
use borrow.Author.Tests.{leb-true, eqb-true, le-leb, eq-eqb, not-true}
use Rattle.ground_placing.specs.Placed.{placed}
use Rattle.ground_placing.proofs.Placing.{placed_start}
use Rattle.ground_refusal.specs.declared.Refusal.TheVariants.{OtherKind, OutsideSet, OutputTooSmall, TooLarge}
use Rattle.body_formats.specs.Reading.{Reading, found, refused}
use Rattle.body_formats.specs.Format.{Format}
use Rattle.ground_numbers.specs.Sizes.{body_most}
use Rattle.body_formats.specs.Body.{reading, measuring, fitting, writing, output_written, laying, laid_tape}
use Rattle.body_formats.proofs.Stand.{stands_all, stands_whole}
use Rattle.body_formats.proofs.Outcomes.{found_inj, not_found, and_then_found, need_found}
use Rattle.body_formats.proofs.Classes.{Bytes, Proper, Filling}

-- what is measured is the length of the value that the form lays out, none of whose counts and lengths is too large
pub measured_value : {A : Type 0} (F : Format A) (pool tape : List ℕ) (a : A) (m : ℕ) → measuring F pool tape ≡ found a m
    → (k : ℕ) × (F.form pool tape 0 ≡ found a k) × (F.too_large a ≡ false) × (m ≡ length (F.print a)) × (m ≤ body_most)
unfolding measuring
measured_value {A} F pool tape a m e =
    let i = and_then_found (F.form pool tape 0) _ a m e in
    let v = i.0 in
    let n = length (F.print v) in
    let c1 = need_found (leb (length tape) i.1) (OutsideSet i.1) _ a m i.3 in
    let c2 = need_found (not (F.too_large v)) TooLarge _ a m c1.1 in
    let c3 = need_found (leb n body_most) TooLarge _ a m c2.1 in
    let z = found_inj c3.1 in
    let all : (y : A) → v ≡ y → (k : ℕ) × (F.form pool tape 0 ≡ found y k) × (F.too_large y ≡ false) × (n ≡ length (F.print y)) × (n ≤ body_most) =
    (λ y w. rw (← w) (i.1, i.2, not-true (F.too_large v) c2.0, refl, leb-true n body_most c3.0)) in
    rw (← z.1) (all a z.0)

-- what is written is what was measured, and fits
pub written_measured : {A : Type 0} (F : Format A) (pool tape : List ℕ) (room : ℕ) (a : A) (m : ℕ) → writing F pool tape room ≡ found a m
    → (measuring F pool tape ≡ found a m) × (m ≤ room)
unfolding writing
written_measured {A} F pool tape room a m e = go (measuring F pool tape) e
  where
    go : (x : Reading A) → fitting room x ≡ found a m → (x ≡ found a m) × (m ≤ room)
    go (found b n) g =
        let t = need_found (leb n room) OutputTooSmall (found b n) a m g in
        (t.1, rw (found_inj t.1).1 at (leb-true n room t.0))
    go (refused r) g = absurd (not_found g)

module _ {A : Type 0} (F : Format A) (f : Filling F) (own : ℕ) where
  -- each well-formed table, printed, reads back as itself
  pub reads_back : (a : A) → Proper F a → length (F.print a) ≤ body_most → reading F own own (F.print a) ≡ found a (length (F.print a))
  unfolding reading
  reads_back a o h =
      let whole = f.back (F.print a) (length (F.print a)) 0 a o (stands_whole (F.print a)) (omega arith) (le_refl (length (F.print a))) in
      rw (eq-eqb own own refl, le-leb (length (F.print a)) body_most h, whole)

  -- what an accepted body says of itself
  module _ (kind : ℕ) (s : List ℕ) (b : Bytes s) (a : A) (q : ℕ) (e : reading F own kind s ≡ found a q) where
    pub accepted : (kind ≡ own) × (length s ≤ body_most) × (F.parse s (length s) 0 ≡ found a q)
    unfolding reading
    accepted =
        let t = need_found (eqb kind own) OtherKind _ a q e in
        let u = need_found (leb (length s) body_most) TooLarge _ a q t.1 in
        (eqb-true kind own t.0, leb-true (length s) body_most u.0, u.1)

    -- each accepted body prints back to its bytes
    pub prints_back : (F.print a ≡ s) × Proper F a
    prints_back =
        let p = accepted.2 in
        let u = f.forth s (length s) 0 a q b (le_refl (length s)) zero-le p in
        let z = f.ends s (length s) 0 a q b (le_refl (length s)) zero-le p in
        (sym (stands_all s (F.print a) u.stands (omega (arith, z, u.next))), u.ok)

    -- and, laid out with the body itself as the pool, is written to its bytes
    pub writes_back : (out : List ℕ) → length s ≤ length out
        → (writing F s (F.tape a 0) (length out) ≡ found a (length s)) × (output_written F s (F.tape a 0) out ≡ placed out 0 s)
    unfolding measuring writing output_written
    writes_back out h =
        let w = prints_back in
        let n : length (F.print a) ≡ length s = ap length w.0 in
        let t = F.tape a 0 in
        let form = f.formal.laid s 0 t 0 a w.1.writable (rw w.0 (stands_whole s)) (omega (arith, n)) (stands_whole t) (omega arith) in
        let g : writing F s t (length out) ≡ found a (length s) =
        rw (form, le-leb (length t) (0 + length t) (omega arith), w.1.small, n, le-leb (length s) body_most accepted.1, le-leb (length s) (length out) h) in
        (g, rw g (ap (placed out 0) w.0))

    -- read onto a tape and written from what was laid there, it is its bytes again
    pub laid_writes_back : (tape out : List ℕ) → length (F.tape a 0) ≤ length tape → length s ≤ length out
        → output_written F s (take (length (F.tape a 0)) (laid_tape F own kind s tape)) out ≡ placed out 0 s
    unfolding laid_tape laying
    laid_writes_back tape out h k =
        let laid : laid_tape F own kind s tape ≡ placed tape 0 (F.tape a 0) = rw (e, le-leb (length (F.tape a 0)) (length tape) h) in
        let same : take (length (F.tape a 0)) (laid_tape F own kind s tape) ≡ F.tape a 0 =
        ap (take (length (F.tape a 0))) laid ∙ placed_start tape (F.tape a 0) (length (F.tape a 0)) refl in
        ap (λ t. output_written F s t out) same ∙ (writes_back out k).1

  -- what was written is the value's bytes, which read back as it
  pub written_reads_back : (pool tape : List ℕ) (room : ℕ) (a : A) (m : ℕ) → writing F pool tape room ≡ found a m
      → (m ≡ length (F.print a)) × (m ≤ room) × Proper F a × (reading F own own (F.print a) ≡ found a m)
  written_reads_back pool tape room a m e =
      let w = written_measured F pool tape room a m e in
      let v = measured_value F pool tape a m w.0 in
      let ok : Proper F a = record { writable = f.formal.sound pool tape 0 a v.0 v.1; small = v.2 } in
      (v.3, w.1, ok, reads_back a ok (omega (arith, v.3, v.4)) ∙ ap (found a) (sym v.3))

  -- exactly the printed tables are accepted
  pub accepted_exactly : (s : List ℕ) → Bytes s → (a : A) (q : ℕ)
      → (reading F own own s ≡ found a q → (s ≡ F.print a) × Proper F a × (length s ≤ body_most) × (q ≡ length s))
  accepted_exactly s b a q e =
      let w = prints_back own s b a q e in
      let t = accepted own s b a q e in
      let z = f.ends s (length s) 0 a q b (le_refl (length s)) zero-le t.2 in
      (sym w.0, w.1, t.1, z)

-- all of it, for one table
pub record RoundTrips {A : Type 0} (F : Format A) (own : ℕ) : Type 0 where
  -- each well-formed table, printed, reads back as itself
  pub reads_back : (a : A) → Proper F a → length (F.print a) ≤ body_most → reading F own own (F.print a) ≡ found a (length (F.print a))
  -- exactly the printed tables are accepted
  pub accepted_exactly : (s : List ℕ) → Bytes s → (a : A) (q : ℕ) → reading F own own s ≡ found a q
      → (s ≡ F.print a) × Proper F a × (length s ≤ body_most) × (q ≡ length s)
  -- whatever is written reads back as the table that its form lays out
  pub written_reads_back : (pool tape : List ℕ) (room : ℕ) (a : A) (m : ℕ) → writing F pool tape room ≡ found a m
      → (m ≡ length (F.print a)) × (m ≤ room) × Proper F a × (reading F own own (F.print a) ≡ found a m)
  -- each accepted body, laid out with itself as the pool, is written to its bytes
  pub writes_back : (kind : ℕ) (s : List ℕ) → Bytes s → (a : A) (q : ℕ) → reading F own kind s ≡ found a q → (out : List ℕ) → length s ≤ length out
      → (writing F s (F.tape a 0) (length out) ≡ found a (length s)) × (output_written F s (F.tape a 0) out ≡ placed out 0 s)
  -- and so it is from the tape that it was laid onto
  pub laid_writes_back : (kind : ℕ) (s : List ℕ) → Bytes s → (a : A) (q : ℕ) → reading F own kind s ≡ found a q
      → (tape out : List ℕ) → length (F.tape a 0) ≤ length tape → length s ≤ length out
      → output_written F s (take (length (F.tape a 0)) (laid_tape F own kind s tape)) out ≡ placed out 0 s

pub round_trips : {A : Type 0} (F : Format A) (own : ℕ) → Filling F → RoundTrips F own
round_trips F own f =
    record {
      reads_back = reads_back F f own;
      accepted_exactly = accepted_exactly F f own;
      written_reads_back = written_reads_back F f own;
      writes_back = writes_back F f own;
      laid_writes_back = laid_writes_back F f own;
    }
