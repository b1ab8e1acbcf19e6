-- What a reader has to believe of feeding: what each verdict makes of answer, state and store.
use Rattle.std.specs.Prelude.{ℕ, ◌+◌, ◌≤◌, List, length, Result, Ok, Err}
use Rattle.ground_refusal.specs.declared.Refusal.{Refusal}
use Rattle.ground_refusal.specs.declared.Refusal.TheVariants.{Contradiction}
use Rattle.section_reader.specs.Section.{payload_of}
use Rattle.ground_placing.specs.Placed.{placed}
use Rattle.ground_numbers.specs.Sizes.{payload_most}
use Rattle.gathering_state.specs.State.{place, opened, with_section, spoiled_state}
use Rattle.gathering_state.specs.declared.Gathering.{Gathering}
use Rattle.gathering_verdict.specs.Deciding.{verdict_of}
use Rattle.gathering_verdict.specs.declared.Verdict.{Verdict}
use Rattle.gathering_verdict.specs.declared.Verdict.TheVariants.{Repeat, Contradict, Begin, Take}
use Rattle.gathering_feed.specs.declared.Answer.{Answer}
use Rattle.gathering_feed.specs.declared.Answer.TheVariants.{Taken, HeldAlready}
use Rattle.gathering_feed.specs.declared.Fed.{Fed}

unfoldable pub answer_by : Result Verdict Refusal → Result Answer Refusal
answer_by (Err r) = Err r
answer_by (Ok Repeat) = Ok HeldAlready
answer_by (Ok Contradict) = Err Contradiction
answer_by (Ok (Begin h)) = Ok Taken
answer_by (Ok (Take h)) = Ok Taken

-- "Only 11 for a contradiction changes state: the gathering is spoiled"; "A repeat [..] changes nothing". What begins does so in a table of its own:
-- nothing of an older one is held or counted, nor is its spoil kept.
unfoldable pub state_by : Gathering → List ℕ → Result Verdict Refusal → Gathering
state_by g payload (Err r) = g
state_by g payload (Ok Repeat) = g
state_by g payload (Ok Contradict) = spoiled_state g
state_by g payload (Ok (Begin h)) = with_section (opened h) h.number (length payload)
state_by g payload (Ok (Take h)) = with_section g h.number (length payload)

-- "A taken payload of number k goes to byte k × 4,084 of the store; all other store bytes stay"
unfoldable pub store_by : List ℕ → List ℕ → Result Verdict Refusal → List ℕ
store_by store payload (Err r) = store
store_by store payload (Ok Repeat) = store
store_by store payload (Ok Contradict) = store
store_by store payload (Ok (Begin h)) = placed store (place h.number) payload
store_by store payload (Ok (Take h)) = placed store (place h.number) payload

-- the answer and the state after the byte string s is fed
unfoldable pub fed_of : Gathering → List ℕ → List ℕ → Fed
fed_of g store s = record { answer = answer_by (verdict_of g store s); state = state_by g (payload_of s) (verdict_of g store s) }

-- the store after it
unfoldable pub store_after : Gathering → List ℕ → List ℕ → List ℕ
store_after g store s = store_by store (payload_of s) (verdict_of g store s)

-- ---- what taking a section asks for: its payload lies in the byte string and has a place in the store

pub record Fits (k : ℕ) (store s : List ℕ) : Type 0 where
  pub long : 12 ≤ length s
  pub short : length s ≤ payload_most + 12
  pub within : place k + payload_most ≤ length store
