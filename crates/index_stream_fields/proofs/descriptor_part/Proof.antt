-- `index_stream_fields::descriptor_part` meets its contract: data found at a glance are those asked for, and all else is looked at.
use Prim.Native.Nat.{◌+◌, ◌≤◌}
use Rattle.index_stream_fields.proofs.Glance.{part_glanced}
use native.Mathlib.Omega.{arith}
use lib.ListN.{length}
use borrow.Author.Rules.{rules}
use Rattle.index_stream_fields.proofs.descriptor_part.Statement.{statement}
use Rattle.index_stream_fields.proofs.descriptor_part.Tie as tie

-- the part lies in the body, and has the bytes that are looked at
there : (c : tie.Then-holds) → let a = c.before.before.before.args in (2 ≤ a.n) × (a.at + a.n ≤ length a.s.now)
there c = c.before.holds.ensures c.if-holds.true

abbrev looked : (c : tie.After-wide-m) → tie.Then-holds
looked c = c.before.before

pub descriptor_part_spec : {M : Type 1} → statement M
descriptor_part_spec =
    tie.close
    (tie.spec
    (λ c κs. search rules)
    (λ c. omega (arith, there c))
    (λ c. omega (arith, there c.before))
    (λ c κs. search rules)
    (λ c. omega (arith, there (looked c)))
    (λ c. omega (arith, there (looked c.before)))
    (λ c. let first = looked c.before in
    let start = first.before.before in
    part_glanced _ (λ i. (start.shared_slice_known-1.given i).fits) _ _ (there first).1 _ (there first).0 c.before.wide-m.ensures.0 c.if-m-n.true)
    (λ c κs. search rules)
    (λ c. search rules))
