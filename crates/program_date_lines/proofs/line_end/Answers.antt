-- `program_date_lines::line_end` meets its contract: what is left of the line ends at its first LF, or at its end.
use Prim.Native.Nat.{◌+◌, ◌-◌, ◌≤◌}
use mathlib.Core.Path.{◌≡◌, ap, ◌∙◌}
use native.Mathlib.Omega.{arith}
use borrow.Author.Rules.{rules}
use lib.ListN.{length, take, drop, length-drop}
use lib.Seq.{take_all}
use Rattle.std.specs.Option.{unwrap_or}
use Rattle.program_date_lines.specs.Lines.{line_length}
use Rattle.program_date_lines.proofs.Lines.{end_found, length_within}
use Rattle.program_date_lines.proofs.line_end.Goals as goal

pub returns : goal.returns
returns c =
    let s = c.args.input.now in
    let rest = drop c.args.from s in
    let n = length-drop c.args.from s in
    let part = take (length s - c.args.from) rest in
    let whole : part ≡ rest = take_all _ rest (omega (arith, n)) in
    let e : c.unwrap_or.result ≡ line_length rest =
    c.unwrap_or.ensures ∙ ap (λ r. unwrap_or r (length part)) c.first_feed.ensures ∙ end_found part ∙ ap line_length whole in
    (ap (λ n. c.args.from + n) e, omega (arith, e, length_within rest, n))
