-- What a reader has to believe of the content table's variants: how many bytes an auxiliary file's length has, and what comes before the fields.
use Rattle.std.specs.Prelude.{ℕ, leb, eqb, if◌then◌else◌, Result, Ok, Err}
use Rattle.ground_numbers.specs.Sizes.{content_kind, body_most}
use Rattle.ground_refusal.specs.declared.Refusal.{Refusal}
use Rattle.ground_refusal.specs.declared.Refusal.TheVariants.{OtherKind, OutsideSet, TooLarge}

-- "a named variant, 24 or 32 bits", "Refusals: 19 for any other variant"
unfoldable pub width_of : ℕ → Result ℕ Refusal
width_of v = if eqb v 24 then Ok 3 else if eqb v 32 then Ok 4 else Err (OutsideSet 0)

-- what is answered with the width, and what with the refusal
abbrev pub by_width : {A : Type 0} → Result ℕ Refusal → (ℕ → A) → (Refusal → A) → A
by_width (Ok w) wide refuse = wide w
by_width (Err r) wide refuse = refuse r

-- "Refusals: 19 for any other variant, after 2", and before 22 ("a body above 1,045,504 bytes"): of a body of n bytes
unfoldable pub opened : ℕ → ℕ → ℕ → Result ℕ Refusal
opened kind v n =
    if eqb kind content_kind
    then by_width (width_of v) (λ w. if leb n body_most then Ok w else Err TooLarge) Err
    else Err OtherKind
