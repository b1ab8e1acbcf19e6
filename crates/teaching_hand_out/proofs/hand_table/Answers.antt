-- `teaching_hand_out::hand_table` meets its contract: each way out is one of the table's answers.
use mathlib.Core.Path.{sym, ◌∙◌}
use native.Mathlib.Omega.{arith}
use Rattle.teaching_hand_out.proofs.Telling.{table_11, table_13, table_21, table_body}
use Rattle.teaching_hand_out.proofs.hand_table.Goals as goal

pub returns-then-not-agree : goal.returns-then-not-agree
returns-then-not-agree c = table_11 _ _ _ (sym c.agree.ensures ∙ c.if-not-agree.true)

pub returns-then-k-t : goal.returns-then-k-t
returns-then-k-t c = table_13 _ _ _ (sym c.agree.ensures ∙ c.if-not-agree.false) _
    c.smallest_missing-k.ensures (omega arith)

pub returns-then-out-n : goal.returns-then-out-n
returns-then-out-n c = table_21 _ _ _ (sym c.agree.ensures ∙ c.if-not-agree.false) _
    c.smallest_missing-k.ensures (omega arith)
    _ c.body_length-n.ensures c.if-out-n.true

pub returns : goal.returns
returns c = table_body _ _ _ (sym c.agree.ensures ∙ c.if-not-agree.false) _
    c.smallest_missing-k.ensures (omega arith)
    _ c.body_length-n.ensures (omega arith) _ c.join.ensures
