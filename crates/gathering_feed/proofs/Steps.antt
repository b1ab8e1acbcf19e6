-- Laws of feeding: a section that is taken fits its place, and what each verdict makes of answer, state and store.
use Prim.Native.Nat.{ℕ, ◌≤◌}
use Rattle.std.specs.Prelude.{Result, Ok}
use Rattle.ground_refusal.specs.declared.Refusal.{Refusal}
use mathlib.Core.Path.{◌≡◌}
use mathlib.Core.List.{List}
use native.Mathlib.Omega.{arith}
use lib.ListN.{length}
use Rattle.section_reader.specs.Section.{payload_of}
use Rattle.section_reader.specs.declared.Heading.{Heading}
use Rattle.gathering_state.specs.State.{opened}
use Rattle.gathering_state.specs.declared.Gathering.{Gathering}
use Rattle.gathering_state.proofs.State.{place_within, unheld_counts}
use Rattle.gathering_verdict.specs.Deciding.{verdict_of}
use Rattle.gathering_verdict.specs.declared.Verdict.{Verdict}
use Rattle.gathering_verdict.specs.declared.Verdict.TheVariants.{Begin, Take}
use Rattle.gathering_verdict.proofs.Verdicts.{sized, TakenBy, as_first, as_further, take_is}
use Rattle.gathering_feed.specs.Feeding.{answer_by, state_by, store_by, fed_of, store_after, Fits}

-- ---- a section that is taken

module _ (g : Gathering) (store s : List ℕ) (h : Heading) where
  -- the payload lies in the byte string, is at most 4,084 bytes long, and has its place in the store
  taken_fits : TakenBy h (verdict_of g store s) → Fits h.number store s
  taken_fits t =
      let i = take_is g store s h t in
      let q = sized s h i.length_of i.reads in
      record { long = omega arith; short = omega arith; within = place_within (length store) h.last h.number i.roomy q.numbered }

  -- it begins its table;
  pub first_versioned : verdict_of g store s ≡ Ok (Begin h) → h.version ≤ 31
  first_versioned e = let i = take_is g store s h (as_first e) in (sized s h i.length_of i.reads).versioned

  pub first_fits : verdict_of g store s ≡ Ok (Begin h) → Fits h.number store s
  first_fits e = taken_fits (as_first e)

  -- or it is one of those that the gathering's table misses, and there is room to count its bytes
  pub further_fits : verdict_of g store s ≡ Ok (Take h) → Fits h.number store s
  further_fits e = taken_fits (as_further e)

  pub further_counts : verdict_of g store s ≡ Ok (Take h) → length g.held ≡ 256 → g.last ≤ 255 → (1 ≤ g.missing) × (g.bytes ≤ 1045504)
  further_counts e long low =
      let f = (take_is g store s h (as_further e)).further e in
      let within = f.within in
      unheld_counts g h.number f.begun.of_table long (omega arith) within f.new

-- a table that is opened has counted nothing
pub first_counts : (h : Heading) (b : Gathering) → b ≡ opened h → (b.bytes ≡ 0) × (1 ≤ b.missing)
unfolding opened
first_counts h b o = rw o (omega arith, omega arith)

-- ---- answer, state and store

module _ (g : Gathering) (store s : List ℕ) where
  pub feeds : (v : Result Verdict Refusal) → verdict_of g store s ≡ v
      → (record { answer = answer_by v; state = state_by g (payload_of s) v } ≡ fed_of g store s) × (store_by store (payload_of s) v ≡ store_after g store s)
  unfolding fed_of store_after
  feeds v e = (rw e, rw e)
