-- `packet_frames::frame_of` meets its contract: the section_length decides, where it is there.
use Prim.Native.Nat.{ℕ, ◌+◌, ◌*◌, ◌%◌}
use mathlib.Core.List.{List, ◌++◌}
use mathlib.Core.Path.{◌≡◌}
use native.Mathlib.Omega.{arith}
use Rattle.section_reader.specs.Section.{section_length}
use Rattle.packet_frames.proofs.Frames.{frame_short, frame_long, frame_whole, frame_open, length_read}
use borrow.Author.Rules.{rules}
use Rattle.packet_frames.proofs.frame_of.Statement.{statement}
use Rattle.packet_frames.proofs.frame_of.Tie as tie

-- the bytes lent
abbrev u : tie.After-joint-2 → List ℕ
u c =
    let start : tie.Start = search in
    start.args.u.now

abbrev more : tie.After-joint-2 → List ℕ
more c =
    let start : tie.Start = search in
    start.args.more.now

-- what the two bytes read say
read : (c : tie.After-joint-2) → (c.before.joint.result * 256 + c.joint-2.result) % 4096 ≡ section_length (u c ++ more c)
read c = length_read (u c ++ more c) _ _ c.before.joint.ensures.0 c.joint-2.ensures.0

pub frame_of_spec : {M : Type 1} → statement M
frame_of_spec =
    tie.close
    (tie.spec
    (λ c. search rules)
    (λ c. let start : tie.Start = search in frame_short start.args.u.now start.args.more.now (omega arith))
    (λ c κs. search rules)
    (λ c. search rules)
    (λ c κs. search rules)
    (λ c. search rules)
    (λ c. let here = c.before in frame_long (u here) (more here) (omega arith) _ (read here) (omega arith))
    (λ c. search rules)
    (λ c. search rules)
    (λ c. let here : tie.After-joint-2 = search in frame_whole (u here) (more here) (omega arith) _ (read here) (omega arith) (omega arith))
    (λ c. let here : tie.After-joint-2 = search in frame_open (u here) (more here) (omega arith) _ (read here) (omega arith) (omega arith)))
