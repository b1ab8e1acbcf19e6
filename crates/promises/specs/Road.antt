-- M-113, the promise that the library exists for: from the paper form to the screen, and that its premises can be met.
use Rattle.promises_road.specs.FromFormToScreen.{FromFormToScreen}
use Rattle.promises_road.specs.Travelled.{Travelled}
use Rattle.time_printing.specs.Promised.{PrintsAsTyped}

pub record Road : Type 0 where
  -- "The printed day-first local times are the characters typed": of one field,
  pub printed_as_typed : PrintsAsTyped
  -- and over the whole road, "and every other field is the one filled in"
  pub from_form_to_screen : FromFormToScreen
  -- each of its premises can be met, by every table that can be sent and every time in range
  pub travelled : Travelled
