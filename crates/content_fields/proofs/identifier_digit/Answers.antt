-- `content_fields::identifier_digit` meets its contract: the identifier begins the body.
use Rattle.content_fields.specs.Asked.{identifier_digit}
use Rattle.content_fields.proofs.identifier_digit.Goals as goal

pub returns : goal.returns
returns c = unfold identifier_digit in c.identifier_digit_at.ensures
