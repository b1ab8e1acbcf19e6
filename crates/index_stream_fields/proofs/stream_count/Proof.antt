-- `index_stream_fields::stream_count` meets its contract: they are counted where the part lies in the body.
use Prim.Native.Nat.{◌+◌, ◌≤◌}
use mathlib.Core.Path.{sym, ap, ◌∙◌}
use mathlib.Core.List.{List}
use lib.ListN.{length}
use native.Mathlib.Omega.{arith}
use borrow.Author.Tests.{leb-true}
use borrow.Author.Rules.{rules}
use Rattle.body_formats.specs.Reading.{Reading}
use Rattle.body_formats.specs.Answers.{number_of}
use Rattle.body_asking.proofs.Answers.{needed, not_needed}
use Rattle.index.specs.Index.{Stream}
use Rattle.index_stream_fields.specs.Asked.{count_of, stream_count}
use Rattle.index_stream_fields.proofs.stream_count.Statement.{statement}
use Rattle.index_stream_fields.proofs.stream_count.Tie as tie

-- the part lies in the body
there : (c : tie.Then-in_body) → let a = c.before.before.before.args in a.at + a.n ≤ length a.s.now
there c = let a = c.before.before.before.args in leb-true (a.at + a.n) (length a.s.now) (sym c.before.in_body.ensures ∙ c.if-in_body.true)

pub stream_count_spec : {M : Type 1} → statement M
stream_count_spec =
    tie.close
    (tie.spec
    (λ c κs. search rules)
    (λ c. omega (arith, there c))
    (λ c κs. there c)
    (λ c. unfold stream_count in
    c.streams_in.ensures ∙ ap (λ (x : Reading (List Stream)). number_of (count_of x))
    (needed _ _ _ (sym c.before.before.in_body.ensures ∙ c.before.if-in_body.true)))
    (λ c. unfold stream_count in ap (λ (x : Reading (List Stream)). number_of (count_of x))
    (not_needed _ _ _ (sym c.before.in_body.ensures ∙ c.if-in_body.false))))
