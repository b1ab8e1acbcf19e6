-- `packet_memory::may_leave` meets its contract: what the pointer leaves is compared, or the payload.
use Prim.Native.Nat.{ℕ, ◌+◌, ◌-◌, ◌≤◌, ◌<◌}
use mathlib.Core.List.{List}
use mathlib.Core.Path.{◌≡◌, ◌∙◌}
use native.Mathlib.Omega.{arith}
use lib.ListN.{length, drop, length-take}
use Rattle.ground_choices.proofs.Tests.{unmet, met}
use Rattle.packet.specs.Sizes.{packet_bytes}
use Rattle.packet.specs.Fields.{pointed_at}
use Rattle.packet.proofs.Fields.{pointed_is}
use Rattle.packet.proofs.Judging.{Carried, carried}
use Rattle.packet_memory.proofs.Leaving.{may_plain, may_pointed}
use borrow.Author.Rules.{rules}
use Rattle.packet_memory.proofs.may_leave.Statement.{statement}
use Rattle.packet_memory.proofs.may_leave.Tie as tie

-- the packet, and that its fields are in place
abbrev packet : tie.After-has_start → List ℕ
packet c =
    let start : tie.Start = search in
    start.args.p.now

in_place : (c : tie.After-has_start) → Carried (packet c)
in_place c = let start : tie.Start = search in carried (packet c) start.requires

-- the payload begins in the packet
plain_at : (c : tie.Then-not-has_start) → c.before.before.payload_at-at.result ≤ length (packet c.before)
plain_at c =
    let a = (in_place c.before).at in
    let b = (in_place c.before).size in
    let e = c.before.before.payload_at-at.ensures.0 in
    omega arith

-- so does the pointer's byte
pointed_at_lem : (c : tie.Else-not-has_start) → c.before.before.payload_at-at.result < length (packet c.before)
pointed_at_lem c =
    let a = ((in_place c.before).pointed (met _ c.before.has_start.ensures c.if-not-has_start.false-raw)).0 in
    let b = (in_place c.before).size in
    let e = c.before.before.payload_at-at.ensures.0 in
    omega arith

-- and what it points at
abbrev first : tie.After-byte_at → ℕ
first c = c.before.before.before.payload_at-at.result + 1 + c.byte_at.result

target_at : (c : tie.After-byte_at)
    → (first c ≡ pointed_at (packet c.before.before)) × (first c < length (packet c.before.before)) × (length (packet c.before.before) ≡ packet_bytes)
target_at c =
    let f = in_place (search) in
    let a = (f.pointed (met _ c.before.before.has_start.ensures c.before.if-not-has_start.false-raw)).1 in
    let b = f.size in
    let e = pointed_is (packet (search)) _ _ c.before.before.before.payload_at-at.ensures.0 c.byte_at.ensures.0 in
    (e, omega arith, b)

-- what it leaves begins in the packet
left_at : (c : tie.After-struct_known-1) → let here = c.before.before.before in
    first here + c.before.find_sections-found.result.left ≤ length (packet here.before.before)
left_at c =
    let here : tie.After-byte_at = search in
    let t = target_at here in
    let p = packet (search) in
    let v = c.before.find_sections-found.ensures.left_within in
    omega (arith, length-take (length p - first here) (drop (first here) p))

pub may_leave_spec : {M : Type 1} → statement M
may_leave_spec =
    tie.close
    (tie.spec
    (λ c κs. let q = (carried c.before.before.args.p.now c.before.before.requires).size in omega arith)
    (λ c κs. let q = (carried c.before.before.before.args.p.now c.before.before.before.requires).size in omega arith)
    (λ c. let t = plain_at c in omega arith)
    (λ c. let t = plain_at c in omega arith)
    (λ c. search rules)
    (λ c κs. search rules)
    (λ c. let test : tie.Then-not-has_start = search in
    let here = test.before in
    c.ends_with.ensures ∙ may_plain (packet here) _ (unmet _ here.has_start.ensures test.if-not-has_start.true-raw) _ here.before.payload_at-at.ensures.0)
    (λ c. search rules)
    (λ c κs. let t = pointed_at_lem c in omega arith)
    (λ c. search rules)
    (λ c. let t = target_at c in omega arith)
    (λ c. let t = target_at c in omega arith)
    (λ c. search rules)
    (λ c κs. let here = c.before in
    let t = target_at here in
    let p = packet (search) in
    omega (arith, length-take (length p - first here) (drop (first here) p)))
    (λ c. search rules)
    (λ c. left_at c)
    (λ c. let l = left_at c in search rules)
    (λ c. search rules)
    (λ c κs. search rules)
    (λ c. let found : tie.After-find_sections-found = search in let here : tie.After-byte_at = search in
    let test = here.before in
    c.same_bytes.ensures
    ∙ may_pointed (packet test.before) _ (met _ test.before.has_start.ensures test.if-not-has_start.false-raw) _ (target_at here).0 _
    found.find_sections-found.ensures))
