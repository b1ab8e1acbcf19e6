-- What a reader has to believe of the two gatherings side by side: a run of feeds to the slow one, and what it has in common with the quick one's.
use Rattle.std.specs.Prelude.{ℕ, ◌≤◌, ◌<◌, ◌≡◌, List, [], ◌∷◌, ◌++◌, length, Result, Ok, Err}
use Rattle.section_reader.specs.declared.Heading.{Heading}
use Rattle.ground_refusal.specs.declared.Refusal.{Refusal}
use Rattle.ground_refusal.specs.declared.Refusal.TheVariants.{Missing, TeachingBufferFull}
use Rattle.gathering_state.specs.State.{fresh_state}
use Rattle.gathering_state.specs.declared.Gathering.{Gathering}
use Rattle.gathering_feed.specs.declared.Answer.{Answer}
use Rattle.gathering_account.specs.Gathers.{Box, fresh_box, box_after, fed_answer, answers_of, handing, handed_output}
use Rattle.teaching_rows.specs.Rows.{rows}
use Rattle.teaching_feed.specs.Feeding.{answer_of, used_after, buffer_after}
use Rattle.teaching_hand_out.specs.Asking.{heading_of, lacking_of, handed_of, out_after}

-- ---- a run of feeds to the slow gathering

-- the lent buffer, and how many of its bytes are in use
pub record Slow : Type 0 where
  pub buffer : List ℕ
  pub used : ℕ

-- nothing is kept yet; the buffer may hold anything
unfoldable pub fresh_slow : List ℕ → Slow
fresh_slow buffer = record { buffer = buffer; used = 0 }

abbrev pub slow_answer : ℕ → Slow → List ℕ → Result Answer Refusal
slow_answer store slow s = answer_of slow.buffer slow.used store s

unfoldable pub slow_feed : Slow → List ℕ → Slow
slow_feed slow s = record { buffer = buffer_after slow.buffer slow.used s; used = used_after slow.buffer slow.used s }

unfoldable pub slow_after : Slow → List (List ℕ) → Slow
slow_after slow [] = slow
slow_after slow (s ∷ fed) = slow_after (slow_feed slow s) fed

unfoldable pub slow_answers : ℕ → Slow → List (List ℕ) → List (Result Answer Refusal)
slow_answers store slow [] = []
slow_answers store slow (s ∷ fed) = slow_answer store slow s ∷ slow_answers store (slow_feed slow s) fed

abbrev pub slow_handed : ℕ → Slow → List ℕ → Result ℕ Refusal
slow_handed store slow out = handed_of slow.buffer slow.used store out

abbrev pub slow_output : ℕ → Slow → List ℕ → List ℕ
slow_output store slow out = out_after slow.buffer slow.used store out

-- ---- what the two have in common

-- the heading that is told is the state's
unfoldable pub SameHeading : Result Heading Refusal → Gathering → Type 0
SameHeading (Ok t) g = (g.kind ≡ t.kind) × (g.extension ≡ t.extension) × (g.version ≡ t.version) × (g.last ≡ t.last)
SameHeading (Err r) g = (r ≡ Missing 0) × (g ≡ fresh_state)

-- as many sections are missing as the state says, of a spoiled table too
unfoldable pub SameMissing : Result (ℕ × ℕ) Refusal → Gathering → Type 0
SameMissing (Ok (n, k)) g = g.missing ≡ n
SameMissing (Err r) g = (r ≡ Missing 0) × (g ≡ fresh_state)

-- "Over every feed that its buffer has room for": what is fed fits the buffer, so that none of it was answered 37
pub record Lockstep (buffer store : List ℕ) (fed : List (List ℕ)) : Type 0 where
  -- "it gives the same answers"
  pub answers : slow_answers (length store) (fresh_slow buffer) fed ≡ answers_of (fresh_box store) fed
  -- the next feed: the same answer, if it fits too; else 37, "before all others", and nothing changes: "the comparison ends at the first such feed"
  pub next : (s : List ℕ) → length (rows (fed ++ s ∷ [])) ≤ length buffer
      → slow_answer (length store) (slow_after (fresh_slow buffer) fed) s ≡ fed_answer (box_after (fresh_box store) fed) s
  pub full : (s : List ℕ) → length buffer < length (rows (fed ++ s ∷ []))
      → (slow_answer (length store) (slow_after (fresh_slow buffer) fed) s ≡ Err TeachingBufferFull)
      × (slow_feed (slow_after (fresh_slow buffer) fed) s ≡ slow_after (fresh_slow buffer) fed)
  -- "and the same body", or the same refusal, with the same number where a section is missing
  pub hands_out : (out : List ℕ) → slow_handed (length store) (slow_after (fresh_slow buffer) fed) out ≡ handing (box_after (fresh_box store) fed) out
  pub writes : (out : List ℕ) → slow_output (length store) (slow_after (fresh_slow buffer) fed) out ≡ handed_output (box_after (fresh_box store) fed) out
  -- the heading, of the latest takeover
  pub heading : SameHeading (heading_of (slow_after (fresh_slow buffer) fed).buffer (slow_after (fresh_slow buffer) fed).used (length store))
      (box_after (fresh_box store) fed).state
  -- how many are missing; which is the smallest is told by handing out, above
  pub missing : SameMissing (lacking_of (slow_after (fresh_slow buffer) fed).buffer (slow_after (fresh_slow buffer) fed).used (length store))
      (box_after (fresh_box store) fed).state
