-- What a reader has to believe of a call that salvages a capture: its refusals in their order, its answer, its output and its list.
use Rattle.std.specs.Prelude.{ℕ, ◌||◌, List, ltb, length, if◌then◌else◌, Result, Ok, Err}
use Rattle.ground_placing.specs.Placed.{placed}
use Rattle.ground_refusal.specs.declared.Refusal.{Refusal}
use Rattle.ground_refusal.specs.declared.Refusal.TheVariants.{OutputTooSmall, CaptureTooLong}
use Rattle.salvage.specs.Reading.{pieces, sections_of}
use Rattle.salvage.specs.Runs.{runs_of, numbers_of}

-- "a capture of at most 64 KiB"
abbrev pub capture_most : ℕ
capture_most = 65536

-- what is written: the good sections, and the numbers of the runs
unfoldable pub sections : List ℕ → List ℕ
sections capture = sections_of (pieces capture)

unfoldable pub numbers : List ℕ → List ℕ
numbers capture = numbers_of (runs_of capture)

-- what the call decides; its answer, its output and its list follow from it
pub data Verdict : Type 0 where
  refuses : Refusal → Verdict
  writes : Verdict

-- "Refusals: 36 capture too long, then 21": an output of `room` bytes or a list of `entries` numbers is too small
unfoldable pub salvaging : List ℕ → ℕ → ℕ → Verdict
salvaging capture room entries =
    if ltb capture_most (length capture) then refuses CaptureTooLong else
    if ltb room (length (sections capture)) || ltb entries (length (numbers capture)) then refuses OutputTooSmall else
    writes

-- the answer: how many bytes and how many runs are written, or the refusal
abbrev pub answer_by : Verdict → List ℕ → Result (ℕ × ℕ) Refusal
answer_by (refuses r) capture = Err r
answer_by writes capture = Ok (length (sections capture), length (runs_of capture))

-- a refused call writes nothing; what stands after the bytes or numbers written stays
abbrev pub laid_by : Verdict → List ℕ → List ℕ → List ℕ
laid_by (refuses r) written old = old
laid_by writes written old = placed old 0 written

unfoldable pub salvage_of : List ℕ → ℕ → ℕ → Result (ℕ × ℕ) Refusal
salvage_of capture room entries = answer_by (salvaging capture room entries) capture

unfoldable pub output_after : List ℕ → List ℕ → List ℕ → List ℕ
output_after capture out list = laid_by (salvaging capture (length out) (length list)) (sections capture) out

unfoldable pub list_after : List ℕ → List ℕ → List ℕ → List ℕ
list_after capture out list = laid_by (salvaging capture (length out) (length list)) (numbers capture) list
