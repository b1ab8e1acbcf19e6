-- `content_writer::write_wide` meets its contract: what was measured decides all refusals, only then the bytes are written, and the extension is
-- worked out of the first of them.
use mathlib.Core.Path.{◌∙◌}
use native.Mathlib.Omega.{arith}
use Rattle.ground_refusal.proofs.Exits.{passed_on}
use Rattle.body_ink.proofs.Writers.{as_fitted, ready_to_write, all_written}
use Rattle.content.specs.Content.{content}
use Rattle.content_writer.proofs.Extension.{refused_kept, identifier_fits, first_there, with_extension}
use Rattle.content_writer.proofs.write_wide.Goals as goal

pub returns-in_err-size : goal.returns-in_err-size
returns-in_err-size c =
    let w = refused_kept c.args.w _ _ _ _ (as_fitted (content c.args.w) _ _ _ c.measure_wide.ensures c.fitted.ensures ∙ c.in_err-size.was) in
    record { said = passed_on c.from_residual.ensures ∙ w.0; left = w.1 }

pub ink_content-requires : goal.ink_content-requires
ink_content-requires c = ready_to_write (content c.args.w) _ _ _ c.measure_wide.ensures c.fitted.ensures c.in_ok-size.was

pub slice_bounds-crc16_after_four-end : goal.slice_bounds-crc16_after_four-end
slice_bounds-crc16_after_four-end c =
    let w = all_written (content c.args.w) _ _ _ c.measure_wide.ensures c.fitted.ensures c.in_ok-size.was c.ink_content.ensures in
    omega (arith, identifier_fits c.args.w _ _ _ _ w.0 _ w.1)

pub slice_bounds-crc16_after_four-end-2 : goal.slice_bounds-crc16_after_four-end-2
slice_bounds-crc16_after_four-end-2 c =
    let w = all_written (content c.args.w) _ _ _ c.measure_wide.ensures c.fitted.ensures c.in_ok-size.was c.ink_content.ensures in
    first_there c.args.w _ _ _ _ w.0 _ w.1 _ (omega arith)

pub returns : goal.returns
returns c =
    let w = all_written (content c.args.w) _ _ _ c.measure_wide.ensures c.fitted.ensures c.in_ok-size.was c.ink_content.ensures in
    record { said = with_extension c.args.w _ _ _ _ w.0 _ w.1 _ c.crc16_after_four.ensures; left = w.1 }
