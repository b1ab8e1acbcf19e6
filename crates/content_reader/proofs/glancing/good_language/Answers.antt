-- `content_reader::glancing::good_language` meets its contract: its fields one after the other, each from where the lengths before it end.
use mathlib.Core.Path.{sym, ◌∙◌}
use native.Mathlib.Omega.{arith}
use Rattle.body_glance.proofs.Leaves.{not_good}
use Rattle.content_reader.proofs.Glances.{reads_fields}
use Rattle.content_reader.proofs.glancing.good_language.Goals as goal

pub returns-then-l-p-lt8 : goal.returns-then-l-p-lt8
returns-then-l-p-lt8 c = not_good

pub returns-then-not-all_among : goal.returns-then-not-all_among
returns-then-not-all_among c = not_good

pub returns-then-set-lt248 : goal.returns-then-set-lt248
returns-then-set-lt248 c = not_good

pub returns-then-set-gt252 : goal.returns-then-set-gt252
returns-then-set-gt252 c = not_good

pub returns-then-l-p : goal.returns-then-l-p
returns-then-l-p c = not_good

pub returns-then-l-at : goal.returns-then-l-at
returns-then-l-at c = not_good

pub returns : goal.returns
returns c e = reads_fields _ _ _ (λ i. (c.type_inv.s i).fits) _ _ _
    (sym c.all_among.ensures ∙ c.if-not-all_among.false) (omega arith) (omega arith)
    c.two_bytes-text.ensures.0 c.wide-agency.ensures.0 (c.good_auxiliaries.ensures e)
