-- What is known of a section that the judgement takes.
use Prim.Native.Nat.{ℕ, ◌+◌, ◌-◌, ◌≤◌, ◌<◌}
use mathlib.Core.Bool.{Bool, true, false, not, ◌&&◌}
use mathlib.Core.List.{List, ◌++◌}
use mathlib.Core.Path.{◌≡◌, refl, sym, ap, ◌∙◌}
use native.Mathlib.Omega.{arith}
use borrow.Author.Tests.{not-false, ltb-false, eqb-true}
use lib.Dec.{eqb, leb, ltb}
use lib.ListN.{length, get_or, drop, length-drop, length-append, get_or-append}
use lib.Seq.{length-take-le}
use Rattle.crc.specs.Crc.{crc32_of}
use Rattle.ground_refusal.specs.declared.Refusal.{Refusal}
use Rattle.std.specs.Prelude.{if◌then◌else◌, Result, Ok, Err}
use Rattle.section_reader.specs.Section.{is_kind, word, fixed_bits, section_length, length_in_range, heading_of, payload_of, read_section, stated_length}
use Rattle.section_reader.specs.declared.Heading.{Heading}
use Rattle.ground_numbers.specs.Sizes.{section_length_most, payload_most}
use Rattle.ground_numbers.proofs.Ranges.{within_known}
use Rattle.ground_refusal.proofs.Exits.{ok_pair_inj}
use Rattle.section_reader.proofs.Reading.{Framed, good, states}

-- none of refusals 1 to 7 applies
pub record Accepted (s : List ℕ) (h : Heading) (n : ℕ) : Type 0 where
  pub framed : Framed s
  pub ordered : get_or s 6 0 ≤ get_or s 7 0
  pub check : crc32_of s ≡ 0
  pub heading : h ≡ heading_of s
  pub size : n ≡ length s - 12

-- where a refusal comes first, a good answer came past it
past : (b : Bool) (r : Refusal) (x : Result (Heading × ℕ) Refusal) (h : Heading) (n : ℕ) → (if b then Err r else x) ≡ Ok (h, n) → (b ≡ false) × (x ≡ Ok (h, n))
past true r x h n e = absurd (let z : ◌≡◌ {A = ℕ} 0 1 = cc in omega arith)
past false r x h n e = (refl, e)

pub accepted : (s : List ℕ) (h : Heading) (n : ℕ) → read_section s ≡ Ok (h, n) → Accepted s h n
unfolding read_section
accepted s h n e =
    let a = past (ltb (length s) 12) _ _ h n e in
    let b = past (not (is_kind (get_or s 0 0))) _ _ h n a.1 in
    let c = past (not (fixed_bits s)) _ _ h n b.1 in
    let d = past (not (leb 9 (section_length s) && leb (section_length s) section_length_most)) _ _ h n c.1 in
    let f = past (not (eqb (length s) (section_length s + 3))) _ _ h n d.1 in
    let g = past (ltb (get_or s 7 0) (get_or s 6 0)) _ _ h n f.1 in
    let i = past (not (eqb (crc32_of s) 0)) _ _ h n g.1 in
    let j = ok_pair_inj i.1 in
    record {
      framed =
          record {
            long = ltb-false (length s) 12 a.0;
            kind = not-false _ b.0;
            fixed = not-false _ c.0;
            counted = not-false _ d.0;
            whole = eqb-true (length s) (section_length s + 3) (not-false _ f.0);
          };
      ordered = ltb-false (get_or s 7 0) (get_or s 6 0) g.0;
      check = eqb-true (crc32_of s) 0 (not-false _ i.0);
      heading = sym j.0;
      size = sym j.1;
    }

pub accepts : (s : List ℕ) (h : Heading) (n : ℕ) → Accepted s h n → read_section s ≡ Ok (h, n)
accepts s h n a = rw a.size (good s a.framed a.ordered h a.heading a.check)

-- ---- lengths

pub framed_long : (s : List ℕ) → Framed s → (12 ≤ length s) × (length s ≤ 4096)
framed_long s f = let w = within_known 9 (section_length s) section_length_most f.counted in let l = f.whole in (omega arith, omega arith)

module _ (s : List ℕ) (h : Heading) (n : ℕ) (a : Accepted s h n) where
  pub accepted_length : length s ≡ n + 12
  accepted_length = let l = framed_long s a.framed in let e = a.size in omega arith

  pub accepted_short : n ≤ payload_most
  accepted_short = let l = framed_long s a.framed in let e = a.size in omega arith

  pub payload_length : length (payload_of s) ≡ n
  unfolding payload_of
  payload_length =
      let l = accepted_length in
      length-take-le (length s - 12) (drop 8 s) (rw length-drop (omega arith)) ∙ sym a.size

-- ---- the stated length

-- a good section states its length, whatever stands after it
pub good_states : (s t : List ℕ) (h : Heading) (n : ℕ) → read_section s ≡ Ok (h, n) → stated_length (s ++ t) ≡ Ok (length s)
unfolding section_length word
good_states s t h n e =
    let f = (accepted s h n e).framed in
    let byte : (i : ℕ) → i < 12 → get_or (s ++ t) i 0 ≡ get_or s i 0 = λ i k. get_or-append s t 0 i (omega (arith, f.long)) in
    let same : section_length (s ++ t) ≡ section_length s = rw (byte 1 (omega arith), byte 2 (omega arith)) in
    states (s ++ t) (rw (length-append s t) (omega (arith, f.long))) (ap length_in_range same ∙ f.counted)
    ∙ ap Ok (ap (λ (k : ℕ). k + 3) same ∙ sym f.whole)
