-- `content_fields::language_count` meets its contract: it follows the 18 bytes of the identifier.
use Rattle.content_fields.specs.Asked.{language_count}
use Rattle.content_fields.proofs.language_count.Goals as goal

pub returns : goal.returns
returns c = unfold language_count in c.number_among.ensures
