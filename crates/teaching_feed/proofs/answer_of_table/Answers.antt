-- `teaching_feed::answer_of_table` meets its contract: each way out is one of the account's answers to a section of its table.
use mathlib.Core.Path.{sym, ◌∙◌}
use Rattle.teaching_questions.proofs.Saying.{payload_part}
use Rattle.teaching_feed.proofs.Answering.{table_clash, table_spoiled, table_again, table_new}
use Rattle.teaching_feed.proofs.answer_of_table.Goals as goal

pub returns-then-differs_from_one : goal.returns-then-differs_from_one
returns-then-differs_from_one c = table_clash _ _ _ _ (payload_part _) _ c.differs_from_one.ensures c.if-differs_from_one.true

pub returns-then-not-agree : goal.returns-then-not-agree
returns-then-not-agree c = table_spoiled _ _ _ _ (payload_part _) _ c.differs_from_one.ensures c.if-differs_from_one.false
    (sym c.agree.ensures ∙ c.if-not-agree.true)

pub returns-then-has_come : goal.returns-then-has_come
returns-then-has_come c = table_again _ _ _ _ (payload_part _) _ c.differs_from_one.ensures c.if-differs_from_one.false
    (sym c.agree.ensures ∙ c.if-not-agree.false) (sym c.has_come.ensures ∙ c.if-has_come.true)

pub returns : goal.returns
returns c = table_new _ _ _ _ (payload_part _) _ c.differs_from_one.ensures c.if-differs_from_one.false
    (sym c.agree.ensures ∙ c.if-not-agree.false) (sym c.has_come.ensures ∙ c.if-has_come.false)
