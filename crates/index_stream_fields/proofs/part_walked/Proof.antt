-- `index_stream_fields::part_walked` meets its contract: it is asked for where the part lies in the body and has a byte.
use Prim.Native.Nat.{◌+◌, ◌≤◌, ◌<◌}
use mathlib.Core.Path.{sym, ap, ◌∙◌}
use Rattle.body_formats.specs.Answers.{part_of, part_read}
use Rattle.body_asking.proofs.Answers.{needed, not_needed, in_part_lem}
use Rattle.index_stream_fields.specs.Asked.{descriptor_part}
use native.Mathlib.Omega.{arith}
use lib.ListN.{length}
use borrow.Author.Rules.{rules}
use Rattle.index_stream_fields.proofs.part_walked.Statement.{statement}
use Rattle.index_stream_fields.proofs.part_walked.Tie as tie

-- the part lies in the body
there : (c : tie.Then-in_part) → let a = c.before.before.before.args in (0 < a.n) × (a.at + a.n ≤ length a.s.now)
there c = let a = c.before.before.before.args in in_part_lem a.s.now a.at a.n (sym c.before.in_part.ensures ∙ c.if-in_part.true)

pub part_walked_spec : {M : Type 1} → statement M
part_walked_spec =
    tie.close
    (tie.spec
    (λ c κs. search rules)
    (λ c. omega (arith, there c))
    (λ c. omega (arith, there c))
    (λ c κs. search rules)
    (λ c. unfold descriptor_part part_read in
    c.read_part.ensures ∙ ap part_of (needed _ _ _ (sym c.before.before.in_part.ensures ∙ c.before.if-in_part.true)))
    (λ c. unfold descriptor_part in ap part_of (not_needed _ _ _ (sym c.before.in_part.ensures ∙ c.if-in_part.false))))
