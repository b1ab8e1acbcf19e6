-- What a reader has to believe of the verdict on a byte string that is fed for one network, but for its room: the order of refusals, what begins, what is a
-- repeat and what contradicts. Which table a section belongs to is the same rule as over a store of one's own.
use Rattle.std.specs.Prelude.{ℕ, not, ◌||◌, List, eqb, get_or, if◌then◌else◌, Result, Ok, Err}
use Rattle.ground_refusal.specs.declared.Refusal.{Refusal}
use Rattle.ground_refusal.specs.declared.Refusal.TheVariants.{NotCurrent, OtherHeading, Contradiction}
use Rattle.ground_equal.specs.Same.{same_bytes}
use Rattle.section_reader.specs.Section.{payload_of, read_section}
use Rattle.section_reader.specs.declared.Heading.{Heading}
use Rattle.gathering_verdict.specs.Deciding.{agrees, begins}
use Rattle.gathering_verdict.specs.declared.Verdict.{Verdict}
use Rattle.gathering_verdict.specs.declared.Verdict.TheVariants.{Repeat, Contradict, Begin, Take}
use Rattle.rooms_state.specs.State.{room_payload}
use Rattle.rooms_state.specs.declared.Part.{Part}

-- a section of the gathering's table: its number is not held, or held with the same payload, or "same heading and number, other payload"
unfoldable pub number_verdict : Part → List ℕ → Heading → List ℕ → Result Verdict Refusal
number_verdict p store h payload =
    if eqb (get_or p.gathering.held h.number 0) 0 then Ok (Take h) else
    if same_bytes (room_payload p store h.number) payload then (Ok Repeat) else
    Ok Contradict

-- a good section: 8, 9, 11; "10 is not given". What begins gets no 9 or 11.
unfoldable pub good_verdict : Part → List ℕ → Heading → List ℕ → Result Verdict Refusal
good_verdict p store h payload =
    if not h.current then Err NotCurrent else
    if not (begins p.gathering h || agrees p.gathering h) then Err OtherHeading else
    if begins p.gathering h then Ok (Begin h) else
    if not (eqb p.gathering.spoiled 0) then Err Contradiction else
    number_verdict p store h payload

-- 1 to 7, then the rest
unfoldable pub section_verdict : Part → List ℕ → List ℕ → Result (Heading × ℕ) Refusal → Result Verdict Refusal
section_verdict p store s (Err r) = Err r
section_verdict p store s (Ok (h, n)) = good_verdict p store h (payload_of s)

-- "1 to 7, 8, 9, 11": the byte string s is fed
unfoldable pub verdict_of : Part → List ℕ → List ℕ → Result Verdict Refusal
verdict_of p store s = section_verdict p store s (read_section s)
