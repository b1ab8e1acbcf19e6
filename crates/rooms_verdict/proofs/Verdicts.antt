-- Laws of the verdict: what leads to each.
use Prim.Native.Nat.{ℕ}
use Rattle.std.specs.Prelude.{Ok, Err}
use mathlib.Core.Path.{◌≡◌}
use mathlib.Core.Bool.{true, false, not, ◌||◌}
use mathlib.Core.List.{List}
use borrow.Author.Tests.{eq-eqb, ne_eqb}
use lib.ListN.{get_or}
use Rattle.ground_refusal.specs.declared.Refusal.{Refusal}
use Rattle.ground_refusal.specs.declared.Refusal.TheVariants.{NotCurrent, OtherHeading, Contradiction}
use Rattle.ground_equal.specs.Same.{same_bytes}
use Rattle.section_reader.specs.Section.{payload_of, read_section}
use Rattle.section_reader.specs.declared.Heading.{Heading}
use Rattle.gathering_verdict.specs.Deciding.{agrees, begins}
use Rattle.gathering_verdict.specs.declared.Verdict.TheVariants.{Repeat, Contradict, Begin, Take}
use Rattle.rooms_state.specs.State.{room_payload}
use Rattle.rooms_state.specs.declared.Part.{Part}
use Rattle.rooms_verdict.specs.Deciding.{number_verdict, good_verdict, section_verdict, verdict_of}

-- ---- what leads to each verdict

module _ (p : Part) (store : List ℕ) (h : Heading) (payload : List ℕ) where
  pub number_new : get_or p.gathering.held h.number 0 ≡ 0 → number_verdict p store h payload ≡ Ok (Take h)
  unfolding number_verdict
  number_new e = rw (eq-eqb _ _ e)

  module _ (e : get_or p.gathering.held h.number 0 ≡ 0 → ⊥) where
    pub number_same : same_bytes (room_payload p store h.number) payload ≡ true → number_verdict p store h payload ≡ Ok Repeat
    unfolding number_verdict
    number_same t = rw (ne_eqb _ _ e, t)

    pub number_other : same_bytes (room_payload p store h.number) payload ≡ false → number_verdict p store h payload ≡ Ok Contradict
    unfolding number_verdict
    number_other t = rw (ne_eqb _ _ e, t)

  -- by the tests, in their order
  pub good_old : not h.current ≡ true → good_verdict p store h payload ≡ Err NotCurrent
  unfolding good_verdict
  good_old c = rw c

  module _ (c : not h.current ≡ false) where
    pub good_other : not (begins p.gathering h || agrees p.gathering h) ≡ true → good_verdict p store h payload ≡ Err OtherHeading
    unfolding good_verdict
    good_other a = rw (c, a)

    module _ (k : not (begins p.gathering h || agrees p.gathering h) ≡ false) where
      pub good_begins : begins p.gathering h ≡ true → good_verdict p store h payload ≡ Ok (Begin h)
      unfolding good_verdict
      good_begins b = rw (c, k, b)

      module _ (b : begins p.gathering h ≡ false) where
        pub good_spoiled : (p.gathering.spoiled ≡ 0 → ⊥) → good_verdict p store h payload ≡ Err Contradiction
        unfolding good_verdict
        good_spoiled s = rw (c, k, b, ne_eqb _ _ s)

        pub good_further : p.gathering.spoiled ≡ 0 → good_verdict p store h payload ≡ number_verdict p store h payload
        unfolding good_verdict
        good_further s = rw (c, k, b, eq-eqb _ _ s)

module _ (p : Part) (store s : List ℕ) where
  pub verdict_bad : (r : Refusal) → read_section s ≡ Err r → verdict_of p store s ≡ Err r
  unfolding verdict_of section_verdict
  verdict_bad r e = rw e

  pub verdict_good : (h : Heading) (n : ℕ) → read_section s ≡ Ok (h, n) → verdict_of p store s ≡ good_verdict p store h (payload_of s)
  unfolding verdict_of section_verdict
  verdict_good h n e = rw e
