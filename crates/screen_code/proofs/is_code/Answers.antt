-- `screen_code::is_code` meets its contract: so many bytes, and each is a digit.
use mathlib.Core.Path.{◌∙◌}
use lib.Dec.{ltb}
use Rattle.std.proofs.Common.{rules, tests}
use Rattle.std.proofs.lemmas.Iterator.{YieldsList-from_slice}
use Rattle.std.proofs.lemmas.Iterator.Search.{all_from_yields_List}
use Rattle.screen_code.proofs.Same.{code_short, code_digits}
use Rattle.screen_code.proofs.is_code.Goals as goal

pub returns-then-code-ne-DIGITS : goal.returns-then-code-ne-DIGITS
returns-then-code-ne-DIGITS c = code_short _ c.if-code-ne-DIGITS.true

pub returns : goal.returns
returns c =
    all_from_yields_List (λ d. ltb d 10) _ _ c.all.result c.all.ensures.ran (YieldsList-from_slice c.args.code.now cc) (λ x b q k. search (rules, tests))
    ∙ code_digits _ c.if-code-ne-DIGITS.false
