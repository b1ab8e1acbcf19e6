-- `teaching_hand_out::hand_out` meets its contract: nothing is handed out where no table is fixed, or the table's body is.
use Rattle.ground_refusal.proofs.Exits.{passed_on}
use Rattle.teaching_hand_out.proofs.Telling.{handed_unbegun, handed_begun}
use Rattle.teaching_hand_out.proofs.hand_out.Goals as goal

pub returns-in_err-t : goal.returns-in_err-t
returns-in_err-t c = handed_unbegun _ _ _ _ _ _ c.in_err-t.ensures (passed_on c.from_residual.ensures)

pub returns : goal.returns
returns c = handed_begun _ _ _ _ _ c.in_ok-t.ensures _ _ _ c.hand_table.ensures
