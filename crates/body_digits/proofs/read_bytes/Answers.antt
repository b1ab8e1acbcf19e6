-- `body_digits::read_bytes` meets its contract: once the whole field is there, the test of its bytes decides.
use mathlib.Core.Path.{sym, ◌∙◌}
use Rattle.ground_refusal.proofs.Exits.{passed_on}
use Rattle.body_formats.proofs.Strings.{end_in, bytes_no, bytes_19, bytes_of}
use Rattle.body_digits.proofs.read_bytes.Goals as goal

pub all_among-requires : goal.all_among-requires
all_among-requires c = (end_in _ _ _ _ _ (sym c.in_ok-q.was ∙ c.field_end.ensures)).1

pub returns-then-all_among : goal.returns-then-all_among
returns-then-all_among c = bytes_of _ _ _ _ _ _ _ (sym c.in_ok-q.was ∙ c.field_end.ensures) (sym c.all_among.ensures ∙ c.if-all_among.true)

pub returns-in_err-q : goal.returns-in_err-q
returns-in_err-q c = passed_on c.from_residual.ensures ∙ bytes_no _ _ _ _ _ _ _ (sym c.in_err-q.was ∙ c.field_end.ensures)

pub returns : goal.returns
returns c = bytes_19 _ _ _ _ _ _ _ (sym c.in_ok-q.was ∙ c.field_end.ensures) (sym c.all_among.ensures ∙ c.if-all_among.false)
