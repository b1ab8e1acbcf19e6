-- `index_stream_fields::stream_descriptors` meets its contract: descriptors found at a glance are those asked for, and all else is looked at.
use native.Mathlib.Omega.{arith}
use borrow.Author.Rules.{rules}
use Rattle.index_stream_fields.proofs.Glance.{descriptors_glanced}
use Rattle.index_stream_fields.proofs.stream_descriptors.Statement.{statement}
use Rattle.index_stream_fields.proofs.stream_descriptors.Tie as tie

pub stream_descriptors_spec : {M : Type 1} → statement M
stream_descriptors_spec =
    tie.close
    (tie.spec
    (λ c κs. search rules)
    (λ c. omega (arith, c.holds.ensures c.if-holds.true))
    (λ c κs. omega (arith, c.holds.ensures c.if-holds.true))
    (λ c. omega (arith, c.holds.ensures c.if-holds.true))
    (λ c. omega (arith, c.holds.ensures c.if-holds.true))
    (λ c. let part = c.holds.ensures c.if-holds.true in
    let read = c.two_bytes-field.ensures in
    descriptors_glanced _ (λ i. (c.shared_slice_known-1.given i).fits) _ _ part.1 _ read.1 part.0 read.0 (omega arith) (omega arith) (omega arith))
    (λ c κs. search rules)
    (λ c. search rules))
