-- What is promised of typed and printed times: what is typed prints as it was typed, and the word live is a live end's alone.
use Rattle.std.specs.Prelude.{ℕ, true, List, ◌↔◌, ◌≡◌, ℤ, Ok, Err}
use Rattle.ground_refusal.specs.declared.Refusal.TheVariants.{NotOfTheForm}
use Rattle.time_fields.specs.Field.{live_mark}
use Rattle.time_offset.specs.Offset.{is_offset}
use Rattle.time_local.specs.Text.{read_text}
use Rattle.time_printing.specs.Printing.{live_text, prints, start_text, end_text}

pub record PrintsAsTyped : Type 0 where
  -- "The printed day-first local times are the characters typed": a start prints as these characters exactly if they are read as it,
  pub start_exactly : (s : List ℕ) (offset : ℤ) (field : ℕ) → (start_text field offset ≡ prints s) ↔ (read_text s offset ≡ Ok field)
  -- and an end that was typed prints as it was typed
  pub end_typed_lem : (s : List ℕ) (offset : ℤ) (field : ℕ) → read_text s offset ≡ Ok field → end_text field offset ≡ prints s
  -- "A live end prints as the word live", at every offset of the range, and nothing else does:
  pub live_exactly : (offset : ℤ) (field : ℕ) → (end_text field offset ≡ prints live_text) ↔ ((is_offset offset ≡ true) × (field ≡ live_mark))
  pub start_not_live : (offset : ℤ) (field : ℕ) → start_text field offset ≡ prints live_text → ⊥
  -- "Typed 'live' is 24"
  pub live_not_typed : (offset : ℤ) → is_offset offset ≡ true → read_text live_text offset ≡ Err NotOfTheForm
