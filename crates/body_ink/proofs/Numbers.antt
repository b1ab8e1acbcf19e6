-- Laws of a number inked: a count, one of a stated set, one after reserved bits, and two in one byte.
use Prim.Native.Nat.{ℕ, zero, suc, ◌+◌, ◌-◌, ◌*◌, ◌/◌, ◌%◌, ◌^◌, ◌≤◌, ◌<◌}
use mathlib.Core.Path.{◌≡◌, refl, sym, subst, ap, ap₂, ◌∙◌}
use mathlib.Core.List.{List, [], ◌∷◌}
use mathlib.Core.Bool.{◌&&◌}
use native.Mathlib.Omega.{arith}
use native.Mathlib.Nat.{mod-eq_of_lt}
use lib.ListN.{length, get_or, set}
use lib.Dec.{leb, ltb}
use borrow.Author.Tests.{leb-true, ltb-true}
use Rattle.ground_choices.proofs.Tests.{both as each}
use Rattle.ground_numbers.specs.Sizes.{body_most}
use Rattle.ground_placing.specs.Placed.{placed}
use Rattle.ground_placing.proofs.Placing.{placed_none, placed_last}
use Rattle.ground_refusal.specs.declared.Refusal.TheVariants.{OutsideSet}
use Rattle.body_formats.specs.Reading.{found, Fault}
use Rattle.body_formats.specs.Format.{Format, tape_entry, bytes_of, followed, count, only, number, below, reserved, nibbles, nibble_among, nibbles_among}
use Rattle.body_formats.proofs.Outcomes.{found_inj, and_then_found, need_found}
use Rattle.body_formats.proofs.Leaves.{length_bytes_lem}
use Rattle.body_pen.specs.Penned.{unprinted}
use Rattle.body_ink.specs.Inked.{Ready, Inked}
use Rattle.body_ink.proofs.Pairs.{moved, only_form, apart, both, Fixed}

-- ---- bytes laid from the last to the first

pub number_turn : (d : List ℕ) (at k v : ℕ) → 0 < k → at + k ≤ length d
    → placed (set d (at + (k - 1)) (v % 256)) at (bytes_of (k - 1) (v / 256)) ≡ placed d at (bytes_of k v)
unfolding bytes_of
number_turn d at zero v h r = absurd (omega arith)
number_turn d at (suc k) v h r =
    let d1 : suc k - 1 ≡ k = omega arith in
    rw d1
    (sym (placed_last d at (bytes_of k (v / 256)) (v % 256) (omega (arith, length_bytes_lem k (v / 256)))
    ∙ ap (λ n. placed (set d (at + n) (v % 256)) at (bytes_of k (v / 256))) (length_bytes_lem k (v / 256))))

pub number_done : (d : List ℕ) (at k v : ℕ) → k ≡ 0 → d ≡ placed d at (bytes_of k v)
unfolding bytes_of
number_done d at k v z = rw z (sym (placed_none d at))

pub one_byte : (v : ℕ) → v < 256 → bytes_of 1 v ≡ v ∷ []
unfolding bytes_of
one_byte v h = ap (λ b. b ∷ []) (mod-eq_of_lt h)

-- ---- one entry of the tape, as a number of w bytes

-- a format of one entry, whose number v it prints as the number `face v` of w bytes
pub record Numeral (w : ℕ) (face : ℕ → ℕ) (C : Format ℕ) : Type 0 where
  pub entry : (pool tape : List ℕ) (k v j : ℕ) → C.form pool tape k ≡ found v j → (k < length tape) × (v ≡ get_or tape k 0) × (j ≡ k + 1)
  pub prints : (v : ℕ) → C.print v ≡ bytes_of w (face v)

entry_is : (tape : List ℕ) (k v j : ℕ) → tape_entry tape k ≡ found v j → (k < length tape) × (v ≡ get_or tape k 0) × (j ≡ k + 1)
unfolding tape_entry
entry_is tape k v j h =
    let n = need_found (leb (k + 1) (length tape)) (OutsideSet k) _ v j h in
    let z = found_inj n.1 in
    (omega (arith, leb-true (k + 1) (length tape) n.0), sym z.0, sym z.1)

pub a_count : (w : ℕ) → Numeral w (λ v. v) (count w)
unfolding count
a_count w = record { entry = λ pool tape k v j h. entry_is tape k v j h; prints = λ v. refl }

-- the count of a list that the body does not have
pub unseen : Numeral 0 (λ v. v) unprinted
unfolding unprinted bytes_of
unseen = record { entry = λ pool tape k v j h. entry_is tape k v j h; prints = λ v. refl }

pub of_a_set : {w : ℕ} {face : ℕ → ℕ} {C : Format ℕ} → Numeral w face C → (fault : ℕ → ℕ → Fault) → Numeral w face (only fault C)
unfolding only
of_a_set {w} {face} {C} n fault =
    record { entry = λ pool tape k v j h. n.entry pool tape k v j (only_form C pool tape fault k v j h); prints = n.prints }

pub a_number : (w : ℕ) → Numeral w (λ v. v) (number w)
unfolding number
a_number w = of_a_set (a_count w) _

-- after k reserved bits
pub after_bits : (k w : ℕ) → Numeral (suc w) (λ v. (2 ^ k - 1) * below k w + v) (reserved k w)
unfolding reserved
after_bits k w =
    record {
      entry = λ pool tape i v j h.
          let f = and_then_found (tape_entry tape i) _ v j h in
          let n = need_found (ltb f.0 (below k w)) (OutsideSet i) _ v j f.3 in
          let z = found_inj n.1 in
          let e = entry_is tape i f.0 f.1 f.2 in
          (e.0, sym z.0 ∙ e.1, sym z.1 ∙ e.2);
      prints = λ v. refl;
    }

module _ {w : ℕ} {face : ℕ → ℕ} {C : Format ℕ} (n : Numeral w face C) where
  numeral_length : (v : ℕ) → length (C.print v) ≡ w
  numeral_length v = ap length (n.prints v) ∙ length_bytes_lem w (face v)

pub numeral_fixed : {w : ℕ} {face : ℕ → ℕ} {C : Format ℕ} → Numeral w face C → Fixed w 1 C
numeral_fixed n = record { ends = λ pool tape k v j h. let e = n.entry pool tape k v j h in (numeral_length n v, e.2, omega (arith, e.0)) }

module _ {w : ℕ} {face : ℕ → ℕ} {C : Format ℕ} (n : Numeral w face C) {pool tape : List ℕ} {at k : ℕ} where
  pub numeral_ready : {room : ℕ} → Ready C pool tape at k room → (k < length tape) × (at + w ≤ room) × (at + w ≤ body_most)
  numeral_ready g =
      let l = numeral_length n g.value in
      ((n.entry pool tape k g.value g.next g.laid).0, omega (arith, l, g.fits), omega (arith, l, g.short))

  pub numeral_inked : {out : List ℕ} {at' k' : ℕ} {out' : List ℕ} → out' ≡ placed out at (bytes_of w (face (get_or tape k 0))) → at' ≡ at + w → k' ≡ k + 1
      → Inked C pool tape at k out at' k' out'
  numeral_inked {out} {at'} {k'} {out'} e a b =
      record {
        written = λ v j h room.
            let f = n.entry pool tape k v j h in (
              a ∙ ap (λ m. at + m) (sym (numeral_length n v)),
              b ∙ sym f.2,
              e ∙ ap (placed out at) (ap (λ x. bytes_of w (face x)) (sym f.1) ∙ sym (n.prints v)),
            );
      }

  module _ {B : ℕ → Type 0} (G : (v : ℕ) → Format (B v)) where
    -- what follows a number, by the number that the tape has
    pub after_number : {room : ℕ} → Ready (followed C G) pool tape at k room → Ready (G (get_or tape k 0)) pool tape (at + w) (k + 1) room
    after_number {room} g =
        let p = apart C G g in
        let e = n.entry pool tape k p.0 p.1 p.2 in
        subst (λ v. Ready (G v) pool tape (at + w) (k + 1) room) e.1 (moved p.4 (ap (λ m. at + m) (numeral_length n p.0)) e.2 refl)

    pub number_then : {out : List ℕ} {at' k' : ℕ} {mid : List ℕ} {at'' k'' : ℕ} {out' : List ℕ} → Inked C pool tape at k out at' k' mid
        → Inked (G (get_or tape k 0)) pool tape at' k' mid at'' k'' out' → Inked (followed C G) pool tape at k out at'' k'' out'
    number_then {out} {at'} {k'} {mid} {at''} {k''} {out'} p q =
        both G p (λ v j h. subst (λ x. Inked (G x) pool tape at' k' mid at'' k'' out') (sym (n.entry pool tape k v j h).1) q)

-- a number beside its reserved bits leaves them as they are
pub reserved_below : (k w : ℕ) {pool tape : List ℕ} {at i room : ℕ} → Ready (reserved k w) pool tape at i room → get_or tape i 0 < below k w
unfolding reserved
reserved_below k w {pool} {tape} {at} {i} g =
    let f = and_then_found (tape_entry tape i) _ g.value g.next g.laid in
    let n = need_found (ltb f.0 (below k w)) (OutsideSet i) _ g.value g.next f.3 in
    rw (entry_is tape i f.0 f.1 f.2).1 at (ltb-true f.0 (below k w) n.0)

-- ---- two numbers of four bits

module _ (lo hi : ℕ) where
  nibble_is : (tape : List ℕ) (k v j : ℕ) → nibble_among lo hi tape k ≡ found v j → (k < length tape) × (v ≡ get_or tape k 0) × (j ≡ k + 1) × (v < 16)
  nibble_is tape k v j h =
      let f = and_then_found (tape_entry tape k) _ v j h in
      let n = need_found (ltb f.0 16 && (leb lo f.0 && leb f.0 hi)) (OutsideSet k) _ v j f.3 in
      let z = found_inj n.1 in
      let e = entry_is tape k f.0 f.1 f.2 in
      (e.0, sym z.0 ∙ e.1, sym z.1 ∙ e.2, omega (arith, z.0, ltb-true f.0 16 (each _ _ n.0).0))

  nibbles_are : (pool tape : List ℕ) (k : ℕ) (x : ℕ × ℕ) (j : ℕ) → (nibbles_among lo hi).form pool tape k ≡ found x j
      → (k + 2 ≤ length tape) × (x.0 ≡ get_or tape k 0) × (x.1 ≡ get_or tape (k + 1) 0) × (j ≡ k + 2) × (x.0 < 16) × (x.1 < 16)
  nibbles_are pool tape k x j h =
      let f = and_then_found (nibble_among lo hi tape k) _ x j h in
      let g = and_then_found (nibble_among lo hi tape f.1) _ x j f.3 in
      let z = found_inj g.3 in
      let e = nibble_is tape k f.0 f.1 f.2 in
      let d = nibble_is tape f.1 g.0 g.1 g.2 in
      let high : f.0 ≡ x.0 = ap (λ (y : ℕ × ℕ). y.0) z.0 in
      let low : g.0 ≡ x.1 = ap (λ (y : ℕ × ℕ). y.1) z.0 in (
        omega (arith, d.0, e.2),
        sym high ∙ e.1,
        sym low ∙ d.1 ∙ ap (λ m. get_or tape m 0) e.2,
        omega (arith, z.1, d.2, e.2),
        omega (arith, high, e.3),
        omega (arith, low, d.3),
      )

  module _ {pool tape : List ℕ} {at k : ℕ} where
    pub nibbles_ready : {room : ℕ} → Ready (nibbles_among lo hi) pool tape at k room
        → (k + 2 ≤ length tape) × (at + 1 ≤ room) × (at + 1 ≤ body_most) × (get_or tape k 0 < 16) × (get_or tape (k + 1) 0 < 16)
    unfolding only nibbles
    nibbles_ready g =
        let e = nibbles_are pool tape k g.value g.next g.laid in
        (e.0, g.fits, g.short, omega (arith, e.1, e.4), omega (arith, e.2, e.5))

    pub nibbles_inked : {out : List ℕ} {l at' k' : ℕ} {out' : List ℕ} → l ≡ k + 1 → out' ≡ placed out at (bytes_of 1 (get_or tape k 0 * 16 + get_or tape l 0))
        → at' ≡ at + 1 → k' ≡ k + 2 → Inked (nibbles_among lo hi) pool tape at k out at' k' out'
    unfolding only nibbles
    nibbles_inked {out} next e a b =
        record {
          written = λ x j h room.
              let f = nibbles_are pool tape k x j h in
              let v = x.0 * 16 + x.1 in (
                a,
                b ∙ sym f.3,
                e ∙ ap (placed out at)
                    (ap₂ (λ m n. bytes_of 1 (m * 16 + n)) (sym f.1) (ap (λ m. get_or tape m 0) next ∙ sym f.2) ∙ one_byte v (omega (arith, f.4, f.5))),
              );
        }
