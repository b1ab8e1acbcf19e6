-- `content_fields::extension` meets its contract: the identifier begins the body.
use Rattle.content_fields.specs.Asked.{extension}
use Rattle.content_fields.proofs.extension.Goals as goal

pub returns : goal.returns
returns c = unfold extension in c.extension_at.ensures
