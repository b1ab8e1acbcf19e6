-- What a reader has to believe of handing out: the order of its refusals, the joined body, and the output after it.
use Rattle.std.specs.Prelude.{ℕ, suc, ◌+◌, ◌-◌, ◌≤◌, ◌<◌, not, List, [], ◌∷◌, ◌++◌, eqb, ltb, length, if◌then◌else◌, Result, Ok, Err}
use Rattle.ground_refusal.specs.declared.Refusal.{Refusal}
use Rattle.ground_refusal.specs.declared.Refusal.TheVariants.{StoreTooShort, Contradiction, ImpossibleState, Missing, OutputTooSmall}
use Rattle.ground_placing.specs.Placed.{placed}
use Rattle.ground_numbers.specs.Sizes.{payload_most}
use Rattle.gathering_state.specs.Lists.{greatest, smallest_missing, part}
use Rattle.gathering_state.specs.State.{possible_of, nothing_begun, place, has_room, lengths}
use Rattle.gathering_state.specs.declared.Gathering.{Gathering}

-- ---- the joined body

-- the payloads of the numbers k, k + 1, .. in this order, where number k stands at `at k` of the store and the held lengths are given
unfoldable pub joined : (ℕ → ℕ) → ℕ → List ℕ → List ℕ → List ℕ
joined at k [] store = []
joined at k (n ∷ ns) store = part store (at k) (n - 1) ++ joined at (suc k) ns store

-- the body that a gathering has in its store
unfoldable pub body_held : Gathering → List ℕ → List ℕ
body_held g store = joined place 0 (lengths g) store

-- ---- the answer

-- "13: a section is missing; the smallest missing number is shown"
unfoldable pub missing_of : List ℕ → Result Unit Refusal
missing_of ls = if ltb (smallest_missing ls) (length ls) then Err (Missing (smallest_missing ls)) else (Ok tt)

-- "12; 13 if nothing begun; 10; 11; 13": is all of a table there, in a store of `bytes` bytes?
unfoldable pub complete_of : Gathering → ℕ → Result Unit Refusal
complete_of g bytes =
    if not (possible_of g) then Err ImpossibleState else
    if nothing_begun g then Err (Missing 0) else
    if not (has_room bytes g.last) then Err StoreTooShort else
    if not (eqb g.spoiled 0) then Err Contradiction else
    missing_of (lengths g)

-- 21: a body of n bytes, and an output of `room` bytes
unfoldable pub handed_if_room : ℕ → ℕ → Result ℕ Refusal
handed_if_room n room = if ltb room n then Err OutputTooSmall else Ok n

unfoldable pub handed_by : Result Unit Refusal → ℕ → ℕ → Result ℕ Refusal
handed_by (Err r) n room = Err r
handed_by (Ok tt) n room = handed_if_room n room

-- "Handing out: 12; 13 if nothing begun; 10; 11; 13; [..] 21"
unfoldable pub handed_of : Gathering → List ℕ → List ℕ → Result ℕ Refusal
handed_of g store out = handed_by (complete_of g (length store)) (length (body_held g store)) (length out)

-- ---- the output

-- "Handing out writes the joined body at the start of the output; bytes after it stay"; a refusal "writes no byte"
unfoldable pub out_by : List ℕ → List ℕ → Result ℕ Refusal → List ℕ
out_by body out (Err r) = out
out_by body out (Ok n) = placed out 0 body

unfoldable pub out_after : Gathering → List ℕ → List ℕ → List ℕ
out_after g store out = out_by (body_held g store) out (handed_of g store out)

-- ---- what the inner functions ask for: the payloads of the held lengths lie in the store

pub record InStore (held store : List ℕ) : Type 0 where
  pub few : length held ≤ 256
  pub short : greatest held ≤ payload_most + 1
  pub within : (k : ℕ) → k < length held → place k + payload_most ≤ length store
