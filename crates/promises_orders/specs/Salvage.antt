-- What a reader has to believe of the refusals of salvaging: M-110's order, each number with its condition.
use Rattle.std.specs.Prelude.{ℕ, ◌||◌, List, [], ◌∷◌, ltb, length}
use Rattle.ground_refusal.specs.declared.Refusal.TheVariants.{OutputTooSmall, CaptureTooLong}
use Rattle.salvage.specs.Salvage.{capture_most, sections, numbers}
use Rattle.promises_orders.specs.Order.{Line, ◌when◌}

-- "Refusals: 36 capture too long, then 21"
unfoldable pub salvage_lines : List ℕ → ℕ → ℕ → List Line
salvage_lines capture room entries =
    -- 36: "a capture of at most 64 KiB"
    CaptureTooLong when ltb capture_most (length capture)
    -- 21: "output buffer or record list too small", here the list of runs
    ∷ OutputTooSmall when (ltb room (length (sections capture)) || ltb entries (length (numbers capture)))
    ∷ []
