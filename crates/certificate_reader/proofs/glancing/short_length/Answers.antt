-- `certificate_reader::glancing::short_length` meets its contract: a length of one byte is the byte, and one of two is read as such.
use mathlib.Core.Path.{◌≡◌, sym, ap, ◌∙◌}
use native.Mathlib.Omega.{arith}
use Rattle.body_formats.specs.Format.{number_at}
use Rattle.certificate_reader.proofs.Glances.{length_one}
use Rattle.certificate_reader.proofs.glancing.short_length.Goals as goal

pub returns-then-w-eq1 : goal.returns-then-w-eq1
returns-then-w-eq1 c = length_one _ _ c.wide.ensures.0 (omega arith)

pub returns : goal.returns
returns c = let two : c.args.w ≡ 2 = omega arith in
    c.two_bytes.ensures.0 ∙ ap (number_at _ _) (sym two)
