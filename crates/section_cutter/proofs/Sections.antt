-- What the cutter writes: good sections that read back to the heading asked for, whose payloads joined are the body.
use Prim.Native.Nat.{ℕ, zero, suc, ◌+◌, ◌≤◌, ◌<◌}
use mathlib.Core.Bool.{Bool, true, false, not, ◌&&◌}
use mathlib.Core.List.{List, ◌++◌}
use mathlib.Core.Path.{◌≡◌, refl, sym, ap, ap₂, ◌∙◌}
use native.Mathlib.Omega.{arith}
use borrow.Author.Tests.{le-ltb, not-false, ltb-false, eqb-false, leb-false, leb-true}
use lib.Dec.{eqb, leb, ltb}
use lib.ListN.{length, take}
use lib.Seq.{take-add, take_all}
use Rattle.ground_numbers.specs.Sizes.{payload_most, body_most}
use Rattle.ground_refusal.specs.declared.Refusal.{Refusal}
use Rattle.section_cutter.specs.Cutting.{part_start, section_count, part_carried, parts_joined, cut_heading, section_of, Verdict, refuses, writes, cut_if_room, cutting, cut_answer, cut_output, Allowed, Askable}
use Rattle.std.specs.Prelude.{if◌then◌else◌, Ok}
use Rattle.section_reader.specs.Section.{is_kind, payload_of, printed, WellFormed, IsGood}
use Rattle.section_cutter.proofs.Counting.{place_zero, place_suc, ends_within, count_most, counted_is, part_length}
use Rattle.section_cutter.proofs.Cuts.{cut_fitting, written_is}
use Rattle.section_reader.proofs.Printing.{printed_length}
use Rattle.ground_choices.proofs.Tests.{both}
use Rattle.section_reader.proofs.Reading.{kind_within}
use Rattle.section_reader.proofs.RoundTrip.{reads_back}

-- ---- one section

module _ (body : List ℕ) (kind extension version number : ℕ) where
  module _ (a : Askable (length body) kind extension version number) where
    cut_formed : WellFormed (cut_heading (length body) kind extension version number)
    unfolding cut_heading
    cut_formed =
        let k = kind_within kind a.allowed.kind_of in
        let m = count_most (length body) a.most in
        let w = a.within in
        record {
          kind_low = k.0;
          kind_high = k.1;
          extension_high = a.allowed.extension_high;
          version_high = a.allowed.version_high;
          number_high = omega arith;
          last_high = omega arith;
        }

    -- the section is good, reads back to the heading asked for, and carries its part of the body
    pub cut_good : IsGood (section_of body kind extension version number) (cut_heading (length body) kind extension version number) (part_carried body number)
    unfolding section_of
    cut_good = reads_back (cut_heading (length body) kind extension version number) (part_carried body number) cut_formed (part_length body number)

  -- the cutter writes nothing but such a section
  pub cut_written : (room : ℕ) (s : List ℕ) → cutting body kind extension version number room ≡ writes s
      → Askable (length body) kind extension version number × (s ≡ section_of body kind extension version number)
  unfolding cutting cut_if_room
  cut_written room s e =
      let a = past (not (is_kind kind)) _ _ s e in
      let b = past (not (leb version 31 && leb extension 0xFFFF)) _ _ s a.1 in
      let c = past (eqb (length body) 0) _ _ s b.1 in
      let d = past (ltb body_most (length body)) _ _ s c.1 in
      let f = past (leb (section_count (length body)) number) _ _ s d.1 in
      let g = past (ltb room (length (section_of body kind extension version number))) _ _ s f.1 in
      let t = both (leb version 31) (leb extension 0xFFFF) (not-false _ b.0) in
      let n = eqb-false (length body) 0 c.0 in
      let v : Allowed kind extension version = record { kind_of = not-false _ a.0; version_high = leb-true version 31 t.0; extension_high = leb-true extension 0xFFFF t.1 } in (
        record {
          allowed = v;
          some = omega arith;
          most = ltb-false body_most (length body) d.0;
          within = leb-false (section_count (length body)) number f.0;
        },
        sym (written g.1),
      )
    where
      past : (b : Bool) (r : Refusal) (v : Verdict) (s : List ℕ) → (if b then refuses r else v) ≡ writes s → (b ≡ false) × (v ≡ writes s)
      past true r v s e = absurd (let z : ◌≡◌ {A = ℕ} 0 1 = cc in omega arith)
      past false r v s e = (refl, e)

      written : {s t : List ℕ} → writes s ≡ writes t → s ≡ t
      written e = cc

  -- and it does, where the output has room
  pub cut_writes : (room : ℕ) → Askable (length body) kind extension version number → length (part_carried body number) + 12 ≤ room
      → cutting body kind extension version number room ≡ writes (section_of body kind extension version number)
  unfolding cut_if_room section_of
  cut_writes room a h =
      cut_fitting body kind extension version number room
      a.allowed
      (section_count (length body)) (counted_is (length body) a.some a.most) a.within
      ∙ rw (le-ltb room (length (printed (cut_heading (length body) kind extension version number) (part_carried body number))) (rw printed_length h))

  -- what the cutter's promise leaves at the start of the output is good, reads back to the heading asked for, and carries its part of the body
  pub cut_reads : (out left : List ℕ) (n : ℕ) → Ok n ≡ cut_answer body kind extension version number out → left ≡ cut_output body kind extension version number out
      → IsGood (take n left) (cut_heading (length body) kind extension version number) (part_carried body number)
  cut_reads out left n a o =
      let w = cut_written (length out) (take n left) (written_is _ out left n (a, o)) in
      rw w.1 (cut_good w.0)

-- ---- all sections

joined_take : (body : List ℕ) (sections : ℕ → List ℕ) (n : ℕ) → ((k : ℕ) → k < n → payload_of (sections k) ≡ part_carried body k) → parts_joined sections n ≡ take (part_start n) body
unfolding parts_joined part_carried
joined_take body sections zero h = rw place_zero
joined_take body sections (suc n) h =
    ap₂ ◌++◌ (joined_take body sections n (λ k l. h k (omega arith))) (h n (omega arith))
    ∙ sym (ap (λ (m : ℕ). take m body) (place_suc n) ∙ take-add (part_start n) payload_most body)

-- the payloads of the cutter's sections, joined, are the body
pub cut_joined : (body : List ℕ) (kind extension version : ℕ) → Allowed kind extension version → 0 < length body → length body ≤ body_most
    → parts_joined (section_of body kind extension version) (section_count (length body)) ≡ body
cut_joined body kind extension version a some most =
    joined_take body (section_of body kind extension version) (section_count (length body))
    (λ number within.
    (cut_good body kind extension version number (record { allowed = a; some = some; most = most; within = within })).carries)
    ∙ take_all (part_start (section_count (length body))) body (ends_within (length body))
