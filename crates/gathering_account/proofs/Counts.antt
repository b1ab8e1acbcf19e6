-- The numbers that a state keeps: a possible state stays possible, whatever is fed, so they stay right; only "taken" changes them; and what they say of a body.
use Prim.Native.Nat.{ℕ, ◌+◌, ◌≤◌}
use Rattle.std.specs.Prelude.{Result, Ok, Err}
use Rattle.ground_refusal.specs.declared.Refusal.{Refusal}
use mathlib.Core.Path.{◌≡◌, refl, sym, ◌∙◌}
use mathlib.Core.Bool.{true}
use mathlib.Core.List.Memᴰ
use mathlib.Core.List.{List, [], ◌∷◌}
use native.Mathlib.Omega.{arith}
use lib.ListN.{length, length-take, length-set}
use Rattle.crc.specs.Crc.{AreBytes}
use Rattle.section_reader.specs.Section.{payload_of, read_section, WellFormed}
use Rattle.section_reader.specs.declared.Heading.{Heading}
use Rattle.section_reader.proofs.RoundTrip.{good_printed}
use Rattle.gathering_state.specs.State.{lengths, possible_of, CountsRight, opened, with_section, spoiled_state}
use Rattle.gathering_state.specs.declared.Gathering.{Gathering}
use Rattle.gathering_state.proofs.Lists.{held_all}
use Rattle.gathering_state.proofs.State.{Begun, possible_begun, begun_possible, opened_table, section_begun, spoiled_begun, counts_right}
use Rattle.gathering_verdict.specs.Deciding.{verdict_of}
use Rattle.gathering_feed.specs.Feeding.{answer_by, state_by, fed_of}
use Rattle.gathering_verdict.specs.declared.Verdict.{Verdict}
use Rattle.gathering_verdict.specs.declared.Verdict.TheVariants.{Repeat, Contradict, Begin, Take}
use Rattle.gathering_feed.specs.declared.Answer.TheVariants.{Taken}
use Rattle.gathering_verdict.proofs.Verdicts.{Heard, agrees_is, further_begun, verdict_bad, verdict_good, Decided, old, other, short, begun, spoiled, new, again, clash, decided}
use Rattle.gathering_hand_out.specs.Handing.{body_held, handed_of}
use Rattle.gathering_hand_out.proofs.Handing.{in_store_length, whole_in_store, handed_whole}
use Rattle.gathering_account.specs.Gathers.{Box, ByteStrings, feed, box_after}
use Rattle.gathering_account.proofs.Hearing.{as_good, as_bad, ReadAs, read_as, feed_by}
use Rattle.gathering_account.proofs.Standing.{opened_long, opened_held, formed_kind}

-- ---- a possible state stays possible

-- a possible state of 256 numbers, as its array has
pub record Sound (g : Gathering) : Type 0 where
  pub possible : possible_of g ≡ true
  pub long : length g.held ≡ 256

spoiled_sound : (g : Gathering) → Begun g → length g.held ≡ 256 → Sound (spoiled_state g)
unfolding spoiled_state
spoiled_sound g b l = record { possible = begun_possible (spoiled_state g) (spoiled_begun g b); long = l }

section_sound : (g : Gathering) (k n : ℕ) → Begun (with_section g k n) → length g.held ≡ 256 → Sound (with_section g k n)
unfolding with_section
section_sound g k n b l = record { possible = begun_possible (with_section g k n) b; long = length-set g.held k (n + 1) ∙ l }

module _ (g : Gathering) (store s : List ℕ) (are_bytes : AreBytes s) (sound : Sound g) (h : Heading) (n : ℕ) (e : read_section s ≡ Ok (h, n)) where
  formed : WellFormed h
  formed = (good_printed s h n are_bytes e).formed

  p_short : length (payload_of s) ≤ 4084
  p_short = let i = good_printed s h n are_bytes e in omega arith

  heard_begun : Heard g store h → Begun g
  heard_begun d = possible_begun g sound.possible (further_begun g h d.further)

  -- by the ways out for a good section
  good_sound : {v : Result Verdict Refusal} → Decided g store h (payload_of s) v → Sound (state_by g (payload_of s) v)
  unfolding state_by opened
  good_sound (old c) = sound
  good_sound (other c b a) = sound
  good_sound (short c b r) = sound
  good_sound (spoiled c b a r x) = sound
  good_sound (again d u q) = sound
  good_sound (clash d u q) = spoiled_sound g (heard_begun d) sound.long
  good_sound (begun c b r) =
      let w = formed in
      let first = opened_table h (formed_kind h w) w.version_high in
      let most = section_begun (opened h) h.number first (opened_long h) (omega arith) w.number_high (opened_held h h.number) (length (payload_of s)) p_short in
      section_sound (opened h) h.number (length (payload_of s)) most (opened_long h)
  good_sound (new d u) =
      let w = formed in
      let last = (agrees_is g h d.agreed).last in
      let most = section_begun g h.number (heard_begun d).of_table sound.long (omega arith) (omega arith) u (length (payload_of s)) p_short in
      section_sound g h.number (length (payload_of s)) most sound.long

feed_sound : (box : Box) (s : List ℕ) → AreBytes s → Sound box.state → Sound (feed box s).state
unfolding state_by
feed_sound box s are_bytes sound = go (read_as s)
  where
    go : ReadAs s → Sound (feed box s).state
    go (as_good h n e) =
        rw (feed_by box s _ (verdict_good box.state box.store s sound.possible h n e))
        (good_sound box.state box.store s are_bytes sound h n e (decided box.state box.store h (payload_of s)))
    go (as_bad r e) = rw (feed_by box s (Err r) (verdict_bad box.state box.store s sound.possible r e)) sound

run_sound : (box : Box) (fed : List (List ℕ)) → ByteStrings fed → Sound box.state → Sound (box_after box fed).state
unfolding box_after ByteStrings
run_sound box [] are_bytes sound = sound
run_sound box (s ∷ fed) are_bytes sound =
    run_sound (feed box s) fed (λ r i. are_bytes r (Memᴰ.tail i)) (feed_sound box s (are_bytes s (Memᴰ.head refl)) sound)

-- ---- the theorems

module _ (box : Box) (long : length box.state.held ≡ 256) (p : possible_of box.state ≡ true) (fed : List (List ℕ)) (are_bytes : ByteStrings fed) where
  pub stays_possible : possible_of (box_after box fed).state ≡ true
  stays_possible = (run_sound box fed are_bytes (record { possible = p; long = long })).possible

  pub counts_stay_right : CountsRight (box_after box fed).state
  counts_stay_right = counts_right (box_after box fed).state stays_possible

-- a repeat, a contradiction and every other refusal leave them
by_verdict : (g : Gathering) (payload : List ℕ) (v : Result Verdict Refusal) → (answer_by v ≡ (Ok Taken) → ⊥)
    → ((state_by g payload v).missing ≡ g.missing) × ((state_by g payload v).bytes ≡ g.bytes)
unfolding answer_by state_by spoiled_state
by_verdict g payload (Err r) f = (refl, refl)
by_verdict g payload (Ok Repeat) f = (refl, refl)
by_verdict g payload (Ok Contradict) f = (refl, refl)
by_verdict g payload (Ok (Begin h)) f = absurd (f refl)
by_verdict g payload (Ok (Take h)) f = absurd (f refl)

pub untaken_counts : (g : Gathering) (store s : List ℕ) → ((fed_of g store s).answer ≡ (Ok Taken) → ⊥)
    → ((fed_of g store s).state.missing ≡ g.missing) × ((fed_of g store s).state.bytes ≡ g.bytes)
unfolding fed_of
untaken_counts g store s = by_verdict g (payload_of s) (verdict_of g store s)

-- of a table that is handed out no section is missing, and its bytes are the body's
pub whole_counts : (g : Gathering) (store out : List ℕ) (n : ℕ) → length g.held ≡ 256 → g.last ≤ 255 → handed_of g store out ≡ Ok n
    → (g.missing ≡ 0) × (g.bytes ≡ n)
unfolding body_held lengths
whole_counts g store out n long low e =
    let handed = handed_whole g store out n e in
    let whole = handed.0 in
    let o = (possible_begun g whole.possible whole.begun).of_table in
    let few = length-take (g.last + 1) g.held in
    let all = held_all (lengths g) whole.full in
    let sum = in_store_length (lengths g) store (whole_in_store g store (omega arith) whole) in
    let m = o.missing in
    (omega arith, o.bytes ∙ sym sum ∙ sym handed.1)
