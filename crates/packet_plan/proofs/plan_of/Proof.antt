-- `packet_plan::plan_of` meets its contract: the start indicator says which of the two it is.
use mathlib.Core.Path.{ap}
use mathlib.Core.List.{List}
use native.Mathlib.Omega.{arith}
use Prim.Native.Nat.{ℕ, ◌+◌, ◌<◌}
use Rattle.ground_choices.proofs.Tests.{unmet, met}
use Rattle.packet.specs.Sizes.{packet_bytes}
use Rattle.packet.specs.Fields.{payload_at, pointed_at}
use Rattle.packet.proofs.Fields.{pointed_is}
use Rattle.packet.proofs.Judging.{Carried, carried}
use Rattle.packet_frames.proofs.Growing.{begun_short}
use borrow.Author.Rules.{rules}
use Rattle.packet_plan.proofs.plan_of.Statement.{statement}
use Rattle.packet_plan.proofs.plan_of.Tie as tie

-- the packet, and that its fields are in place
abbrev packet : tie.Else-not-has_start → List ℕ
packet c =
    let start : tie.Start = search in
    start.args.p.now

in_place : (c : tie.Else-not-has_start) → Carried (packet c)
in_place c = let start : tie.Start = search in carried (packet c) start.requires.1

-- with a start indicator the pointer and its target are in the packet
pointed_at_lem : (c : tie.Else-not-has_start) → (payload_at (packet c) < packet_bytes) × (pointed_at (packet c) < packet_bytes)
pointed_at_lem c = (in_place c).pointed (met _ c.before.has_start.ensures c.if-not-has_start.false-raw)

pub plan_of_spec : {M : Type 1} → statement M
plan_of_spec =
    tie.close
    (tie.spec
    (λ c κs. let q = (carried _ c.before.before.requires.1).size in omega arith)
    (λ c κs. let q = (carried _ c.before.before.before.requires.1).size in omega arith)
    (λ c κs. let here = c.before in
    let start : tie.Start = search in
    let f = carried start.args.p.now start.requires.1 in
    let at = f.at in
    let e = here.before.payload_at-at.ensures.0 in
    record {
      begun = start.requires.0;
      short = begun_short start.args.u.now start.requires.0;
      size = f.size;
      plain = unmet _ here.has_start.ensures c.if-not-has_start.true-raw;
      is = e;
      within = omega arith;
    })
    (λ c. search rules)
    (λ c. search rules)
    (λ c κs. let t = (pointed_at_lem c).0 in let s = (in_place c).size in let e = c.before.before.payload_at-at.ensures.0 in omega arith)
    (λ c. search rules)
    (λ c. search rules)
    (λ c κs. let test = c.before in
    let here = test.before in
    let start : tie.Start = search in
    let t = (pointed_at_lem test).1 in
    let e = here.before.payload_at-at.ensures.0 in
    let g = pointed_is start.args.p.now _ _ e c.byte_at.ensures.0 in
    record {
      begun = start.requires.0;
      short = begun_short start.args.u.now start.requires.0;
      size = (in_place test).size;
      begins = met _ here.has_start.ensures test.if-not-has_start.false-raw;
      is = ap (λ (n : ℕ). n + 1) e;
      points = g;
      follows = omega arith;
      within = omega arith;
    })
    (λ c. search rules))
