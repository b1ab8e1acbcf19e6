-- What C takes from a choice is what went in, by what include/neapwillow-screen.h takes from it.
use Rattle.std.specs.Prelude.{ℕ, ◌≡◌, List, Ok, Err, Some, None}
use Rattle.ground_refusal.specs.declared.Refusal.{Refusal}
use Rattle.crc.specs.Crc.{AreBytes}
use Rattle.time_fields.specs.declared.Moment.{Moment}
use Rattle.c_answers.specs.Taking.{refusal_told, field_told, TellsRefusal}
use Rattle.screen_choice.specs.Choice.{choice_of}
use Rattle.neapwillow_screen.specs.Answer.{choice_answer}

-- nw_choice_shown to nw_choice_length
pub record TellsChoice (a number at length : ℕ) : Type 0 where
  pub no_refusal : refusal_told a ≡ 0
  pub shown : field_told 48 8 a ≡ 1
  pub number_is : field_told 40 8 a ≡ number
  pub start_is : field_told 16 24 a ≡ at
  pub length_is : field_told 0 16 a ≡ length

-- that there is none to show
pub record TellsNone (a : ℕ) : Type 0 where
  pub no_refusal : refusal_told a ≡ 0
  pub shown : field_told 48 8 a ≡ 0

pub record Told : Type 0 where
  pub shows : (kind : ℕ) (s code : List ℕ) (present : Moment) → AreBytes s → (i at n : ℕ) → choice_of kind s code present ≡ Ok (Some (i, at, n))
      → TellsChoice (choice_answer (Ok (Some (i, at, n)))) i at n
  pub nothing : TellsNone (choice_answer (Ok None))
  pub refused : (r : Refusal) → TellsRefusal (choice_answer (Err r)) r
