-- What a reader has to believe of a gathering's refusals: 01's orders for feeding, for handing out and for packing, each number with its condition.
use Rattle.std.specs.Prelude.{ℕ, ◌≡◌, Bool, true, false, not, ◌&&◌, ◌||◌, List, [], ◌∷◌, ◌++◌, ◌↔◌, eqb, ltb, length, get_or, Ok, Err}
use Rattle.ground_refusal.specs.declared.Refusal.{Refusal}
use Rattle.ground_refusal.specs.declared.Refusal.TheVariants.{NotCurrent, OtherHeading, StoreTooShort, Contradiction, ImpossibleState, Missing, OutputTooSmall}
use Rattle.ground_equal.specs.Same.{same_bytes}
use Rattle.section_reader.specs.Section.{heading_of, payload_of}
use Rattle.gathering_state.specs.Lists.{smallest_missing}
use Rattle.gathering_state.specs.State.{possible_of, nothing_begun, has_room, lengths, held_payload}
use Rattle.gathering_state.specs.declared.Gathering.{Gathering}
use Rattle.gathering_tables.specs.Tables.{is_other}
use Rattle.gathering_verdict.specs.Deciding.{fixed_heading, agrees, begins}
use Rattle.gathering_feed.specs.Feeding.{fed_of}
use Rattle.gathering_feed.specs.declared.Answer.TheVariants.{Taken, HeldAlready}
use Rattle.gathering_hand_out.specs.Handing.{body_held}
use Rattle.promises_orders.specs.Order.{Line, ◌when◌, Given, None}
use Rattle.promises_orders.specs.Sections.{section_lines}

-- ---- feeding

-- the section s is no beginning, and its number is held
unfoldable pub is_held : Gathering → List ℕ → Bool
is_held g s = not (begins g (heading_of s)) && not (eqb (get_or g.held (heading_of s).number 0) 0)

-- "same heading and number, other payload"
unfoldable pub contradicts_held : Gathering → List ℕ → List ℕ → Bool
contradicts_held g store s =
    agrees g (heading_of s) && is_held g s && not (same_bytes (held_payload g store (heading_of s).number) (payload_of s))

-- "Feeding: 12, 1 to 7, 8, 9, 10, 11"
unfoldable pub feeding_lines : Gathering → List ℕ → List ℕ → List Line
feeding_lines g store s =
    -- 12: "not a possible gathering state"
    ImpossibleState when not (possible_of g)
    ∷ section_lines s
    -- 8: "current is 0"
    ++ NotCurrent when not (heading_of s).current
    -- 9: "for another kind or extension, for 0 steps with another last number, and for 16 to 31 steps"; "Nothing begun: no 9 or 11"
    ∷ OtherHeading when (not (nothing_begun g) && is_other (fixed_heading g) (heading_of s))
    -- 10: "store shorter than (last + 1) × 4,084 bytes"
    ∷ StoreTooShort when not (has_room (length store) (heading_of s).last)
    -- 11: "same heading and number, other payload; or the gathering is spoiled already"; a newer table's section starts over "spoiled or not"
    ∷ Contradiction when (contradicts_held g store s || not (begins g (heading_of s)) && not (eqb g.spoiled 0))
    ∷ []

-- feeding has two values: "A repeat with the same payload is answered "held already"", any other section is taken
pub record FedAsListed (g : Gathering) (store s : List ℕ) : Type 0 where
  pub refused_exactly : (r : Refusal) → ((fed_of g store s).answer ≡ Err r) ↔ Given r (feeding_lines g store s)
  pub taken_exactly : ((fed_of g store s).answer ≡ Ok Taken) ↔ (None (feeding_lines g store s) × (is_held g s ≡ false))
  pub held_exactly : ((fed_of g store s).answer ≡ Ok HeldAlready) ↔ (None (feeding_lines g store s) × (is_held g s ≡ true))

-- ---- handing out, and packing, which has no 21

-- "12; 13 if nothing begun; 10; 11; 13", with a store of so many bytes: these are also all of packing's, "in handing-out order, with no 21"
unfoldable pub complete_lines : Gathering → ℕ → List Line
complete_lines g bytes =
    -- 12: "not a possible gathering state"
    ImpossibleState when not (possible_of g)
    -- "13 if nothing begun": section 0 is missing
    ∷ Missing 0 when nothing_begun g
    -- 10: "store shorter than (last + 1) × 4,084 bytes"
    ∷ StoreTooShort when not (has_room bytes g.last)
    -- 11: "the gathering is spoiled already"
    ∷ Contradiction when not (eqb g.spoiled 0)
    -- 13: "a section is missing; the smallest missing number is shown"
    ∷ Missing (smallest_missing (lengths g)) when ltb (smallest_missing (lengths g)) (length (lengths g))
    ∷ []

-- "Handing out: 12; 13 if nothing begun; 10; 11; 13; [..] 21"
unfoldable pub handing_lines : Gathering → List ℕ → List ℕ → List Line
handing_lines g store out =
    complete_lines g (length store)
    -- 21: "output buffer [..] too small"
    ++ OutputTooSmall when ltb (length out) (length (body_held g store))
    ∷ []
