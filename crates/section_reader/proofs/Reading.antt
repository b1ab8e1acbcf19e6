-- Laws of reading: what the fields' tests show, and what a section has to meet to be taken.
use Prim.Native.Nat.{ℕ, ◌+◌, ◌-◌, ◌*◌, ◌/◌, ◌%◌, ◌≤◌}
use Rattle.std.specs.Prelude.{Ok, Err}
use mathlib.Core.Bool.{Bool, true, false, ◌&&◌}
use mathlib.Core.List.{List}
use mathlib.Core.Path.{◌≡◌, refl, ap}
use borrow.Author.Tests.{le-ltb, eq-eqb, eqb-true}
use lib.Dec.{eqb, leb}
use lib.ListN.{length, get_or}
use Rattle.crc.specs.Crc.{crc32_of}
use Rattle.ground_choices.proofs.Tests.{both}
use Rattle.ground_numbers.specs.Sizes.{configuration_kind, content_kind, section_length_most}
use Rattle.ground_numbers.proofs.Ranges.{within_known}
use Rattle.ground_refusal.specs.declared.Refusal.TheVariants.{FixedBitZero}
use Rattle.section_reader.specs.Section.{is_kind, word, fixed_bits, section_length, length_in_range, heading_of, read_section, stated_length}
use Rattle.section_reader.specs.declared.Heading.{Heading}

-- ---- the kind

pub kind_within : (k : ℕ) → is_kind k ≡ true → (configuration_kind ≤ k) × (k ≤ content_kind)
unfolding is_kind
kind_within k e = within_known configuration_kind k content_kind e

pub fixed_known : (s : List ℕ) → fixed_bits s ≡ true → (get_or s 1 0 / 16 ≡ 15) × (get_or s 5 0 / 64 ≡ 3)
unfolding fixed_bits
fixed_known s e =
    let t = both (eqb (get_or s 1 0 / 16) 15) (eqb (get_or s 5 0 / 64) 3) e in
    (eqb-true (get_or s 1 0 / 16) 15 t.0, eqb-true (get_or s 5 0 / 64) 3 t.1)

pub fixed_not : (s : List ℕ) → ((get_or s 1 0 / 16 ≡ 15) × (get_or s 5 0 / 64 ≡ 3) → ⊥) → fixed_bits s ≡ false
fixed_not s h = go (fixed_bits s) refl
  where
    go : (t : Bool) → fixed_bits s ≡ t → t ≡ false
    go true e = absurd (h (fixed_known s e))
    go false e = refl

pub section_length_is : (s : List ℕ) (n : ℕ) → n ≡ get_or s 1 0 * 256 + get_or s 2 0 → n % 4096 ≡ section_length s
unfolding section_length word
section_length_is s n e = ap (λ (m : ℕ). m % 4096) e

-- ---- a refusal, and the good answer, each from what leads to it

pub fixed_bit_zero : (s : List ℕ) → 12 ≤ length s → is_kind (get_or s 0 0) ≡ true → fixed_bits s ≡ false → read_section s ≡ Err FixedBitZero
unfolding read_section
fixed_bit_zero s long kind h = simp (le-ltb (length s) 12 long, kind, h)

-- refusals 1 to 5 do not apply
pub record Framed (s : List ℕ) : Type 0 where
  pub long : 12 ≤ length s
  pub kind : is_kind (get_or s 0 0) ≡ true
  pub fixed : fixed_bits s ≡ true
  pub counted : leb 9 (section_length s) && leb (section_length s) section_length_most ≡ true
  pub whole : length s ≡ section_length s + 3

pub good : (s : List ℕ) → Framed s → get_or s 6 0 ≤ get_or s 7 0 → (h : Heading) → h ≡ heading_of s → crc32_of s ≡ 0 → read_section s ≡ Ok (h, length s - 12)
unfolding read_section
good s f ordered h is e =
    rw is
    (simp (
      le-ltb (length s) 12 f.long,
      f.kind,
      f.fixed,
      f.counted,
      eq-eqb (length s) (section_length s + 3) f.whole,
      le-ltb (get_or s 7 0) (get_or s 6 0) ordered,
      eq-eqb (crc32_of s) 0 e,
    ))

-- ---- the stated length

pub states : (s : List ℕ) → 3 ≤ length s → length_in_range (section_length s) ≡ true → stated_length s ≡ Ok (section_length s + 3)
unfolding stated_length
states s there h = simp (le-ltb (length s) 3 there, h)
