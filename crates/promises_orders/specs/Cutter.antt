-- What a reader has to believe of the cutter's refusals, and of those of the count of sections: 01's order, each number with its condition.
use Rattle.std.specs.Prelude.{ℕ, not, ◌&&◌, List, [], ◌∷◌, ◌++◌, eqb, leb, ltb, length}
use Rattle.ground_numbers.specs.Sizes.{body_most}
use Rattle.ground_refusal.specs.declared.Refusal.TheVariants.{OtherKind, NumberAboveLast, PastBody, OutsideSet, OutputTooSmall, TooLarge}
use Rattle.section_reader.specs.Section.{is_kind}
use Rattle.section_cutter.specs.Cutting.{section_count, section_of}
use Rattle.promises_orders.specs.Order.{Line, ◌when◌}

-- a body of so many bytes: "14 (L = 0), 22"
unfoldable pub count_lines : ℕ → List Line
count_lines bytes =
    -- 14: "the cutter's body is empty"
    PastBody 0 when eqb bytes 0
    -- 22: "a body above 1,045,504 bytes"
    ∷ TooLarge when ltb body_most bytes
    ∷ []

-- "Cutter: 2, 19 (version above 31), 14 (L = 0), 22, 6, 21"
unfoldable pub cutter_lines : List ℕ → ℕ → ℕ → ℕ → ℕ → List ℕ → List Line
cutter_lines body kind extension version number out =
    -- 2: "table_id not FB to FE"
    OtherKind when not (is_kind kind)
    -- 19: "version above 31"; an extension of more than 16 bits is the project's own choice
    ∷ OutsideSet 0 when not (leb version 31 && leb extension 0xFFFF)
    ∷ count_lines (length body)
    -- 6: "the cutter is asked for a section past the last"
    ++ NumberAboveLast when leb (section_count (length body)) number
    -- 21: "output buffer [..] too small"
    ∷ OutputTooSmall when ltb (length out) (length (section_of body kind extension version number))
    ∷ []
