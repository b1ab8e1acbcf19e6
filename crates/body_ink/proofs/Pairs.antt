-- Laws of fields inked one after the other, and of the same bytes as values of another kind.
use Prim.Native.Nat.{ℕ, zero, suc, ◌+◌, ◌≤◌, ◌<◌}
use mathlib.Core.Path.{◌≡◌, refl, sym, ap, ◌∙◌}
use mathlib.Core.List.{List}
use native.Mathlib.Omega.{arith}
use native.Mathlib.Nat.{add-zero}
use lib.ListN.{length, length-append}
use Rattle.ground_numbers.specs.Sizes.{body_most}
use Rattle.ground_placing.specs.Placed.{placed}
use Rattle.ground_placing.proofs.Placing.{placed_next, placed_length, placed_none}
use Rattle.ground_refusal.specs.declared.Refusal.{Refusal}
use Rattle.body_formats.specs.Reading.{found, Fault}
use Rattle.body_formats.specs.Format.{Format, followed, ◌▷◌, nothing, under, view, exact, only}
use Rattle.body_formats.proofs.Outcomes.{found_inj, and_then_found, judged_found}
use Rattle.body_pen.proofs.Pairs.{form_parts}
use Rattle.body_ink.specs.Inked.{Ready, Inked}

-- ---- the same places, said in other words

pub moved : {A : Type 0} {F : Format A} {pool tape : List ℕ} {at k room at' k' room' : ℕ} → Ready F pool tape at k room → at ≡ at' → k ≡ k' → room ≡ room'
    → Ready F pool tape at' k' room'
moved g e f h = rw (e, f, h) at g

pub ended : {A : Type 0} {F : Format A} {pool tape : List ℕ} {at k : ℕ} {out : List ℕ} {at' k' : ℕ} {out' : List ℕ} {at'' k'' : ℕ}
    → Inked F pool tape at k out at' k' out' → at' ≡ at'' → k' ≡ k'' → Inked F pool tape at k out at'' k'' out'
ended i e f = rw (e, f) at i

-- what is ready begins within its room
pub inside : {A : Type 0} {F : Format A} {pool tape : List ℕ} {at k room : ℕ} → Ready F pool tape at k room → (at ≤ room) × (at ≤ body_most)
inside g = (omega (arith, g.fits), omega (arith, g.short))

-- what is inked ends within its room
pub reaches : {A : Type 0} {F : Format A} {pool tape : List ℕ} {at k : ℕ} {out : List ℕ} {at' k' : ℕ} {out' : List ℕ} → Ready F pool tape at k (length out)
    → Inked F pool tape at k out at' k' out' → (at ≤ at') × (at' ≤ length out) × (at' ≤ body_most)
reaches g i =
    let w = i.written g.value g.next g.laid g.fits in
    (omega (arith, w.0), omega (arith, w.0, g.fits), omega (arith, w.0, g.short))

-- ---- the same bytes as values of another kind

-- each value that a form lays out for G it lays out for F too, with the same bytes and the same next entry
abbrev pub Like : {A B : Type 0} → Format A → Format B → List ℕ → List ℕ → Type 0
Like {A} {B} F G pool tape =
    (k : ℕ) (b : B) (j : ℕ) → G.form pool tape k ≡ found b j → (a : A) × (F.form pool tape k ≡ found a j) × (G.print b ≡ F.print a)

module _ {A B : Type 0} {F : Format A} {G : Format B} {pool tape : List ℕ} (like : Like F G pool tape) where
  pub like_ready : {at k room : ℕ} → Ready G pool tape at k room → Ready F pool tape at k room
  like_ready {at} {k} {room} g =
      let l = like k g.value g.next g.laid in
      let n = ap length l.2 in
      record { value = l.0; next = g.next; laid = l.1; fits = omega (arith, n, g.fits); short = omega (arith, n, g.short) }

  pub like_inked : {at k : ℕ} {out : List ℕ} {at' k' : ℕ} {out' : List ℕ} → Inked F pool tape at k out at' k' out' → Inked G pool tape at k out at' k' out'
  like_inked {at} {k} {out} i =
      record {
        written = λ b j h room.
            let l = like k b j h in
            let n = ap length l.2 in
            let w = i.written l.0 j l.1 (omega (arith, n)) in
            (w.0 ∙ ap (λ m. at + m) (sym n), w.1, w.2 ∙ ap (placed out at) (sym l.2));
      }

module _ {A : Type 0} (F : Format A) (pool tape : List ℕ) where
  pub view_like : {B : Type 0} (f : A → B) (g : B → A) → ((a : A) → g (f a) ≡ a) → Like F (view f g F) pool tape
  unfolding view
  view_like f g gf k b j h =
      let p = and_then_found (F.form pool tape k) _ b j h in
      let z = found_inj p.3 in
      (p.0, p.2 ∙ ap (found p.0) z.1, ap F.print (ap g (sym z.0) ∙ gf p.0))

  pub exact_like : (left_over : ℕ → Refusal) → Like F (exact left_over F) pool tape
  unfolding exact
  exact_like left_over k a j h = (a, h, refl)

  pub only_form : (fault : A → ℕ → Fault) (k : ℕ) (a : A) (j : ℕ) → (only fault F).form pool tape k ≡ found a j → F.form pool tape k ≡ found a j
  unfolding only
  only_form fault k a j h =
      let p = and_then_found (F.form pool tape k) _ a j h in
      p.2 ∙ (judged_found (fault p.0 k) _ a j p.3).1

  pub only_like : (fault : A → ℕ → Fault) → Like F (only fault F) pool tape
  unfolding only
  only_like fault k a j h = (a, only_form fault k a j h, refl)

  -- a part under its flag
  pub under_like : (flag : ℕ) → 0 < flag → Like F (under F flag) pool tape
  unfolding under
  under_like zero h k a j e = absurd (omega arith)
  under_like (suc n) h k a j e = (a, e, refl)

pub nothing_inked : {pool tape : List ℕ} (at k : ℕ) (out : List ℕ) → Inked nothing pool tape at k out at k out
unfolding nothing
nothing_inked at k out = record { written = λ a j h room. (sym (add-zero at), (found_inj h).1, sym (placed_none out at)) }

pub under_none : {A : Type 0} (F : Format A) (flag : ℕ) → flag ≡ 0 → {pool tape : List ℕ} (at k : ℕ) (out : List ℕ)
    → Inked (under F flag) pool tape at k out at k out
unfolding under
under_none F zero z at k out = nothing_inked at k out
under_none F (suc n) z at k out = absurd (omega arith)

-- the same, for each
module _ {A : Type 0} {F : Format A} {pool tape : List ℕ} {at k : ℕ} where
  pub view_ready : {B : Type 0} (f : A → B) (g : B → A) {room : ℕ} → Ready (view f g F) pool tape at k room → ((a : A) → g (f a) ≡ a)
      → Ready F pool tape at k room
  view_ready f g r gf = like_ready (view_like F pool tape f g gf) r

  pub exact_ready : (left_over : ℕ → Refusal) {room : ℕ} → Ready (exact left_over F) pool tape at k room → Ready F pool tape at k room
  exact_ready left_over r = like_ready (exact_like F pool tape left_over) r

  pub under_ready : (flag : ℕ) → 0 < flag → {room : ℕ} → Ready (under F flag) pool tape at k room → Ready F pool tape at k room
  under_ready flag h r = like_ready (under_like F pool tape flag h) r

  pub only_ready : (fault : A → ℕ → Fault) {room : ℕ} → Ready (only fault F) pool tape at k room → Ready F pool tape at k room
  only_ready fault r = like_ready (only_like F pool tape fault) r

  module _ {out : List ℕ} {at' k' : ℕ} {out' : List ℕ} (i : Inked F pool tape at k out at' k' out') where
    pub view_inked : {B : Type 0} (f : A → B) (g : B → A) → ((a : A) → g (f a) ≡ a) → Inked (view f g F) pool tape at k out at' k' out'
    view_inked f g gf = like_inked (view_like F pool tape f g gf) i

    pub exact_inked : (left_over : ℕ → Refusal) → Inked (exact left_over F) pool tape at k out at' k' out'
    exact_inked left_over = like_inked (exact_like F pool tape left_over) i

    pub under_some : (flag : ℕ) → 0 < flag → Inked (under F flag) pool tape at k out at' k' out'
    under_some flag h = like_inked (under_like F pool tape flag h) i

    pub only_inked : (fault : A → ℕ → Fault) → Inked (only fault F) pool tape at k out at' k' out'
    only_inked fault = like_inked (only_like F pool tape fault) i

-- ---- one after the other, where the second may depend on what the first found

module _ {A : Type 0} {B : A → Type 0} (F : Format A) (G : (a : A) → Format (B a)) where
  bytes_both : (x : (a : A) × B a) → length ((followed F G).print x) ≡ length (F.print x.0) + length ((G x.0).print x.1)
  unfolding followed
  bytes_both x = length-append (F.print x.0) ((G x.0).print x.1)

  pub form_both : (pool tape : List ℕ) (k : ℕ) (a : A) (j : ℕ) → F.form pool tape k ≡ found a j → (b : B a) (i : ℕ) → (G a).form pool tape j ≡ found b i
      → (followed F G).form pool tape k ≡ (let z : (a : A) × B a = (a, b) in found z i)
  unfolding followed
  form_both pool tape k a j e b i f = rw (e, f)

  pub first : {pool tape : List ℕ} {at k room : ℕ} → Ready (followed F G) pool tape at k room → Ready F pool tape at k room
  first {pool} {tape} {at} {k} g =
      let p = form_parts F G pool tape k g.value g.next g.laid in
      let n = bytes_both g.value in
      record { value = g.value.0; next = p.0; laid = p.1; fits = omega (arith, n, g.fits); short = omega (arith, n, g.short) }

  -- what the first found, and the second from there on
  pub apart : {pool tape : List ℕ} {at k room : ℕ} → Ready (followed F G) pool tape at k room
      → (a : A) × (j : ℕ) × (F.form pool tape k ≡ found a j) × (at + length (F.print a) ≤ room) × Ready (G a) pool tape (at + length (F.print a)) j room
  apart {pool} {tape} {at} {k} {room} g =
      let p = form_parts F G pool tape k g.value g.next g.laid in
      let n = bytes_both g.value in
      let onward : Ready (G g.value.0) pool tape (at + length (F.print g.value.0)) p.0 room =
      record { value = g.value.1; next = g.next; laid = p.2; fits = omega (arith, n, g.fits); short = omega (arith, n, g.short) } in
      (g.value.0, p.0, p.1, omega (arith, n, g.fits), onward)

module _ {A : Type 0} {B : A → Type 0} {F : Format A} (G : (a : A) → Format (B a)) {pool tape : List ℕ} {at k : ℕ} {out : List ℕ} {at' k' : ℕ} {mid : List ℕ}
    (i : Inked F pool tape at k out at' k' mid) where
  pub both : {at'' k'' : ℕ} {out' : List ℕ}
      → ((a : A) (j : ℕ) → F.form pool tape k ≡ found a j → Inked (G a) pool tape at' k' mid at'' k'' out') → Inked (followed F G) pool tape at k out at'' k'' out'
  unfolding followed
  both {at''} {k''} {out'} q =
      record {
        written = λ x j h room.
            let p = form_parts F G pool tape k x j h in
            let xs = F.print x.0 in
            let ys = (G x.0).print x.1 in
            let n = length-append xs ys in
            let fits : at + length xs ≤ length out = omega (arith, n) in
            let one = i.written x.0 p.0 p.1 fits in
            let same = ap length one.2 ∙ placed_length out at xs fits in
            let two = (q x.0 p.0 p.1).written x.1 j (ap ((G x.0).form pool tape) one.1 ∙ p.2) (omega (arith, n, same, one.0)) in
            (omega (arith, n, one.0, two.0), two.1, two.2 ∙ ap (λ d. placed d at' ys) one.2 ∙ placed_next out at xs fits ys at' one.0);
      }

-- one after the other
module _ {A B : Type 0} {F : Format A} {G : Format B} {pool tape : List ℕ} {at k : ℕ} {out : List ℕ} {at' k' : ℕ} {mid : List ℕ}
    (i : Inked F pool tape at k out at' k' mid) where
  pub second : Ready (F ▷ G) pool tape at k (length out) → Ready G pool tape at' k' (length mid)
  second g =
      let p = apart F (λ a. G) g in
      let w = i.written p.0 p.1 p.2 p.3 in
      moved p.4 (sym w.0) (sym w.1) (sym (ap length w.2 ∙ placed_length out at (F.print p.0) p.3))

  pub pair_inked : {at'' k'' : ℕ} {out' : List ℕ} → Inked G pool tape at' k' mid at'' k'' out' → Inked (F ▷ G) pool tape at k out at'' k'' out'
  pair_inked q = both (λ a. G) i (λ a j h. q)

-- ---- fields of a fixed number of bytes and of entries

pub record Fixed {A : Type 0} (bytes entries : ℕ) (F : Format A) : Type 0 where
  pub ends : (pool tape : List ℕ) (k : ℕ) (a : A) (j : ℕ) → F.form pool tape k ≡ found a j
      → (length (F.print a) ≡ bytes) × (j ≡ k + entries) × (k + entries ≤ length tape)

pub only_fixed : {A : Type 0} {bytes entries : ℕ} {F : Format A} → Fixed bytes entries F → (fault : A → ℕ → Fault) → Fixed bytes entries (only fault F)
unfolding only
only_fixed {A} {bytes} {entries} {F} f fault = record { ends = λ pool tape k a j h. f.ends pool tape k a j (only_form F pool tape fault k a j h) }

-- what follows one, whatever it is
pub after_fixed : {A B : Type 0} {bytes entries : ℕ} {F : Format A} → Fixed bytes entries F → {G : Format B} {pool tape : List ℕ} {at k room : ℕ}
    → Ready (F ▷ G) pool tape at k room → Ready G pool tape (at + bytes) (k + entries) room
after_fixed {A} {B} {bytes} {entries} {F} f {G} {pool} {tape} {at} {k} g =
    let p = apart F (λ a. G) g in
    let e = f.ends pool tape k p.0 p.1 p.2 in
    moved p.4 (ap (λ n. at + n) e.0) e.1 refl

pub fixed_ready : {A : Type 0} {bytes entries : ℕ} {F : Format A} → Fixed bytes entries F → {pool tape : List ℕ} {at k room : ℕ} → Ready F pool tape at k room
    → (k + entries ≤ length tape) × (at + bytes ≤ room) × (at + bytes ≤ body_most)
fixed_ready f {pool} {tape} {at} {k} g =
    let e = f.ends pool tape k g.value g.next g.laid in
    (e.2, omega (arith, e.0, g.fits), omega (arith, e.0, g.short))

pub both_fixed : {A B : Type 0} {b₁ e₁ b₂ e₂ : ℕ} {F : Format A} {G : Format B} → Fixed b₁ e₁ F → Fixed b₂ e₂ G → Fixed (b₁ + b₂) (e₁ + e₂) (F ▷ G)
both_fixed {A} {B} {b₁} {e₁} {b₂} {e₂} {F} {G} f g =
    record {
      ends = λ pool tape k x i h.
          let p = form_parts F (λ a. G) pool tape k x i h in
          let one = f.ends pool tape k x.0 p.0 p.1 in
          let two = g.ends pool tape p.0 x.1 i p.2 in
          (omega (arith, bytes_both F (λ a. G) x, one.0, two.0), omega (arith, one.1, two.1), omega (arith, one.1, two.2));
    }
