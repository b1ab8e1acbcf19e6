-- `packet_frames::find_sections` meets its contract: what is found up to a place and what is found from it on are what is found in all.
use Prim.Native.Nat.{◌+◌, ◌-◌, ◌≤◌}
use lib.ListN.{length, drop, length-drop}
use mathlib.Core.Path.{◌≡◌, sym, ap, ◌∙◌}
use native.Mathlib.Omega.{arith}
use Rattle.packet_frames.specs.declared.Frame.{Frame}
use Rattle.packet_frames.specs.declared.Frame.TheVariants.{Nothing, Open}
use Rattle.packet_frames.specs.Found.{front_of}
use Rattle.packet_frames.proofs.Frames.{tail}
use Rattle.packet_frames.proofs.Scans.{Finding, finding_start, finding_nothing, finding_open, finding_whole}
use borrow.Author.Rules.{rules}
use Rattle.packet_frames.proofs.find_sections.Statement.{statement}
use Rattle.packet_frames.proofs.find_sections.Tie as tie

abbrev invariant-loop-n : tie.invariant-loop-n
invariant-loop-n d at₀ at = Finding d at

abbrev decreases-loop-n : tie.decreases-loop-n
decreases-loop-n d at₀ at = length d - at

-- what stands at the place where the search is, by its answer
front : (c : tie.After-front_of invariant-loop-n decreases-loop-n) (f : Frame) → c.front_of.result ≡ f → let head = c.before.before in
    f ≡ front_of (drop head.loop-n.at head.before.before.args.d.now)
front c f e = let head = c.before.before in sym e ∙ c.front_of.ensures ∙ ap front_of (tail head.before.before.args.d.now head.loop-n.at)

found_at : (c : tie.In-Whole invariant-loop-n decreases-loop-n) → let here = c.before in let head = here.before.before in
    Finding head.before.before.args.d.now (head.loop-n.at + c.in-Whole.n) × (3 ≤ c.in-Whole.n)
found_at c = let here = c.before in finding_whole _ _ here.before.before.loop-n.invariant _ (front here _ c.in-Whole.is)

pub find_sections_spec : {M : Type 1} → statement M
find_sections_spec =
    tie.close
    (tie.spec
    invariant-loop-n
    decreases-loop-n
    (λ c. finding_start _)
    (λ c. c.loop-n.invariant.within)
    (λ c. search rules)
    (λ c. search rules)
    (λ c κs. let d = c.before.before.before.args.d.now in
    let at = c.before.loop-n.at in
    rw (tail d at, length-drop at d) (omega arith))
    (λ c. search rules)
    (λ c. let here : tie.After-front_of invariant-loop-n decreases-loop-n = search in
    finding_nothing _ _ here.before.before.loop-n.invariant (front here Nothing c.in-Nothing.is))
    (λ c. search rules)
    (λ c. let here : tie.After-front_of invariant-loop-n decreases-loop-n = search in
    finding_open _ _ here.before.before.loop-n.invariant (front here Open c.in-Open.is))
    (λ c. search rules)
    (λ c. let w = (found_at c).0.within in omega arith)
    (λ c. let w = (found_at c).0.within in let l = (found_at c).1 in omega arith)
    (λ c. (found_at c).0))
