-- What a reader has to believe of the verdict on a byte string that is fed: the order of its refusals, what begins, what is a repeat and what contradicts.
use Rattle.std.specs.Prelude.{ℕ, Bool, true, not, ◌||◌, List, eqb, length, get_or, if◌then◌else◌, Result, Ok, Err}
use Rattle.ground_refusal.specs.declared.Refusal.{Refusal}
use Rattle.ground_refusal.specs.declared.Refusal.TheVariants.{NotCurrent, OtherHeading, StoreTooShort, Contradiction, ImpossibleState}
use Rattle.ground_equal.specs.Same.{same_bytes}
use Rattle.section_reader.specs.Section.{payload_of, read_section}
use Rattle.section_reader.specs.declared.Heading.{Heading}
use Rattle.gathering_state.specs.State.{possible_of, nothing_begun, has_room, held_payload}
use Rattle.gathering_state.specs.declared.Gathering.{Gathering}
use Rattle.gathering_tables.specs.Tables.{same_table, is_newer}
use Rattle.gathering_verdict.specs.declared.Verdict.{Verdict}
use Rattle.gathering_verdict.specs.declared.Verdict.TheVariants.{Repeat, Contradict, Begin, Take}

-- the gathering's heading, with no section's number
abbrev pub fixed_heading : Gathering → Heading
fixed_heading g = record { kind = g.kind; extension = g.extension; version = g.version; current = true; number = 0; last = g.last }

-- the section has the gathering's heading "(kind, extension, version, last number)"
unfoldable pub agrees : Gathering → Heading → Bool
agrees g h = same_table (fixed_heading g) h

-- the section begins a gathering: "Nothing begun", or its table is newer, and "the gathering shall start over with that section, spoiled or not"
unfoldable pub begins : Gathering → Heading → Bool
begins g h = nothing_begun g || is_newer (fixed_heading g) h

-- a section of the gathering's table: its number is not held, or held with the same payload, or "same heading and number, other payload"
unfoldable pub number_verdict : Gathering → List ℕ → Heading → List ℕ → Result Verdict Refusal
number_verdict g store h payload =
    if eqb (get_or g.held h.number 0) 0 then Ok (Take h) else
    if same_bytes (held_payload g store h.number) payload then (Ok Repeat) else
    Ok Contradict

-- a good section: 8, 9, 10, 11. What begins gets "no 9 or 11"; "The store check is made for the new table first".
unfoldable pub good_verdict : Gathering → List ℕ → Heading → List ℕ → Result Verdict Refusal
good_verdict g store h payload =
    if not h.current then Err NotCurrent else
    if not (begins g h || agrees g h) then Err OtherHeading else
    if not (has_room (length store) h.last) then Err StoreTooShort else
    if begins g h then Ok (Begin h) else
    if not (eqb g.spoiled 0) then Err Contradiction else
    number_verdict g store h payload

-- 1 to 7, then the rest
unfoldable pub section_verdict : Gathering → List ℕ → List ℕ → Result (Heading × ℕ) Refusal → Result Verdict Refusal
section_verdict g store s (Err r) = Err r
section_verdict g store s (Ok (h, n)) = good_verdict g store h (payload_of s)

-- "Feeding: 12, 1 to 7, 8, 9, 10, 11": the byte string s is fed
unfoldable pub verdict_of : Gathering → List ℕ → List ℕ → Result Verdict Refusal
verdict_of g store s =
    if not (possible_of g) then Err ImpossibleState else
    section_verdict g store s (read_section s)
