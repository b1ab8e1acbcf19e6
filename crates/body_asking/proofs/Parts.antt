-- What a counted part holds, and the fields of an accepted body as they are asked for: the part answered is the one that holds them.
use Prim.Native.Nat.{ℕ, ◌+◌, ◌/◌, ◌%◌, ◌≤◌, ◌<◌}
use Rattle.std.specs.Prelude.{Ok, Err}
use mathlib.Core.Path.{◌≡◌, sym, ap, subst, ◌∙◌}
use mathlib.Core.List.{List}
use native.Mathlib.Omega.{arith}
use native.Mathlib.Nat.{add-sub_cancel, add-sub_cancel_left, le-add_right}
use lib.ListN.{length, get_or, take, drop, length-drop}
use lib.Seq.{length-take-le}
use borrow.Author.Tests.{le-leb, lt-ltb, le-ltb}
use Rattle.ground_refusal.specs.declared.Refusal.TheVariants.{OutsideSet}
use Rattle.body_formats.specs.Reading.{found, fine}
use Rattle.body_formats.specs.Format.{Format, followed, rest, Length, length_of, length12, counted}
use Rattle.body_formats.specs.Answers.{part_of, nth_digit, digit_read}
use Rattle.body_formats.specs.Held.{PartHolds}
use Rattle.body_formats.proofs.Outcomes.{found_inj, and_then_found, judged_found, within_found}
use Rattle.body_formats.proofs.Classes.{Bytes, Filling}
use Rattle.body_asking.proofs.Sizes.{Sized, count_sized, reserved_sized}

-- ---- counted parts

-- what a part holds is found in it, from where its bytes begin to where they end
pub record Holds {A : Type 0} (L : Length) (F : Format A) (s : List ℕ) (l p : ℕ) (x : A) (q : ℕ) : Type 0 where
  pub counts : ℕ
  pub at : ℕ
  pub told : L.field.parse s l p ≡ found counts at
  pub size : ℕ
  pub in_body_lem : at + size ≤ length s
  pub within_part : at + size ≤ l
  pub inner : F.parse s (at + size) at ≡ found x q
  pub bytes : (counted L rest).parse s l p ≡ found (take size (drop at s)) (at + size)
  pub part : part_of ((counted L rest).parse s l p) ≡ Ok (at, size)

bytes_there : (L : Length) (s : List ℕ) (l p n r : ℕ) → L.field.parse s l p ≡ found n r → r + n % L.limit ≤ length s → r + n % L.limit ≤ l → L.fault n p ≡ fine
    → (counted L rest).parse s l p ≡ found (take (n % L.limit) (drop r s)) (r + n % L.limit)
unfolding counted rest
bytes_there L s l p n r e h k f =
    rw (e, le-leb (r + n % L.limit) (length s) h, le-leb (r + n % L.limit) l k, f, add-sub_cancel_left r (n % L.limit))

pub counted_holds : {A : Type 0} (L : Length) (F : Format A) (s : List ℕ) (l p : ℕ) (x : A) (q : ℕ) → (counted L F).parse s l p ≡ found x q → Holds L F s l p x q
unfolding counted
counted_holds L F s l p x q e =
    let i = and_then_found (L.field.parse s l p) _ x q e in
    let m = i.0 % L.limit in
    let g = within_found s l p (i.1 + m) _ x q i.3 in
    let j = judged_found (L.fault i.0 p) _ x q g.2 in
    let bytes = bytes_there L s l p i.0 i.1 i.2 g.0 g.1 j.0 in
    let many = length-take-le m (drop i.1 s) (simp length-drop (omega (arith, g.0))) in
    record {
      counts = i.0;
      at = i.1;
      told = i.2;
      size = m;
      in_body_lem = g.0;
      within_part = g.1;
      inner = j.1;
      bytes = bytes;
      part = ap part_of bytes ∙ rw (many, add-sub_cancel i.1 m);
    }

module _ {A : Type 0} (L : Length) (F : Format A) (f : Filling F) (s : List ℕ) (b : Bytes s) (l p : ℕ) (x : A) (q : ℕ) (e : (counted L F).parse s l p ≡ found x q) where
  ends_there : (counted_holds L F s l p x q e).at + (counted_holds L F s l p x q e).size ≡ q
  ends_there =
      let h = counted_holds L F s l p x q e in
      sym (f.ends s (h.at + h.size) h.at x q b h.in_body_lem (le-add_right h.at h.size) h.inner)

  pub part_holds : PartHolds F s (part_of ((counted L rest).parse s l p)) x q
  part_holds =
      let h = counted_holds L F s l p x q e in
      record {
        at = h.at;
        size = h.size;
        is = h.part;
        ends = ends_there;
        in_body_lem = rw (← ends_there) h.in_body_lem;
        inner = subst (λ (t : ℕ). F.parse s t h.at ≡ found x q) ends_there h.inner;
      }

  -- its bytes end where it ends
  pub bytes_hold : (xs : List ℕ) × ((counted L rest).parse s l p ≡ found xs q)
  bytes_hold =
      let h = counted_holds L F s l p x q e in
      (take h.size (drop h.at s), h.bytes ∙ ap (found (take h.size (drop h.at s))) ends_there)

pub length_sized : (w : ℕ) → Sized (length_of w).field w
unfolding length_of
length_sized w = count_sized w

pub length12_sized : Sized length12.field 2
unfolding length12
length12_sized = reserved_sized 4 1

-- a part begins after its length, of k bytes
pub part_after_lem : {A : Type 0} (L : Length) (k : ℕ) → Sized L.field k → (F : Format A) (f : Filling F) (s : List ℕ) (b : Bytes s) (l p : ℕ) (x : A) (q : ℕ)
    (e : (counted L F).parse s l p ≡ found x q) → (part_holds L F f s b l p x q e).at ≡ p + k
unfolding part_holds
part_after_lem L k z F f s b l p x q e =
    let h = counted_holds L F s l p x q e in
    z s l p h.counts h.at h.told

pub part_begins : {A : Type 0} (w : ℕ) (F : Format A) (f : Filling F) (s : List ℕ) (b : Bytes s) (l p : ℕ) (x : A) (q : ℕ)
    (e : (counted (length_of w) F).parse s l p ≡ found x q) → (part_holds (length_of w) F f s b l p x q e).at ≡ p + w
part_begins w F f s b l p x q e = part_after_lem (length_of w) w (length_sized w) F f s b l p x q e

-- ---- digits

-- digits asked for one by one: so many as were read are there, and no other
module _ (D : Format (List ℕ)) (s : List ℕ) (l p : ℕ) (ds : List ℕ) (q : ℕ) (e : D.parse s l p ≡ found ds q) (i : ℕ) where
  pub digit_there : i < length ds → digit_read D i s l p ≡ Ok (get_or ds i 0, p + (i + 1) / 2)
  unfolding digit_read nth_digit
  digit_there k = rw (e, lt-ltb i (length ds) k)

  pub digit_past : length ds ≤ i → digit_read D i s l p ≡ Err (OutsideSet 0)
  unfolding digit_read nth_digit
  digit_past k = rw (e, le-ltb i (length ds) k)

-- ---- one after the other

-- the second field may depend on the first
pub depending_found : {A : Type 0} {B : A → Type 0} (F : Format A) (G : (a : A) → Format (B a)) (s : List ℕ) (l p : ℕ) (x : (a : A) × B a) (q : ℕ) → (followed F G).parse s l p ≡ found x q
    → (r : ℕ) × (F.parse s l p ≡ found x.0 r) × ((G x.0).parse s l r ≡ found x.1 q)
unfolding followed
depending_found {A} {B} F G s l p x q e =
    let i = and_then_found (F.parse s l p) _ x q e in
    let j = and_then_found ((G i.0).parse s l i.1) _ x q i.3 in
    let g = found_inj j.3 in
    subst (λ (y : (a : A) × B a). (r : ℕ) × (F.parse s l p ≡ found y.0 r) × ((G y.0).parse s l r ≡ found y.1 q)) g.0
    (i.1, i.2, j.2 ∙ ap (found j.0) g.1)
