-- `index_writer::inking::ink_descriptors` meets its contract: they are written after room for their length, which is then written into it.
use Prim.Native.Nat.{◌+◌, ◌≤◌}
use lib.ListN.{length}
use Rattle.ground_numbers.specs.Sizes.{body_most}
use native.Mathlib.Omega.{arith}
use borrow.Author.Rules.{rules}
use Rattle.body_ink.proofs.Pairs.{inside, reaches}
use Rattle.body_ink.proofs.Lengths.{counted_ready, counted_inked, length12_prints}
use Rattle.body_formats.specs.Format.{length12}
use Rattle.index.specs.Index.{descriptors}
use Rattle.index_writer.proofs.inking.ink_descriptors.Statement.{statement}
use Rattle.index_writer.proofs.inking.ink_descriptors.Tie as tie

-- where the function began
begun : tie.After-ink_all_descriptors-past → tie.Start
begun c = search

-- the descriptors end within their room and the body
reached : (c : tie.After-ink_all_descriptors-past) → let a = (begun c).args in let end = c.ink_all_descriptors-past.result.at in
    (a.at + 2 ≤ end) × (end ≤ length a.out.now) × (end ≤ body_most)
unfolding descriptors begun
reached c = reaches (counted_ready length12 2 (λ n. 0xF000 + n) length12_prints (begun c).requires) c.ink_all_descriptors-past.ensures

pub ink_descriptors_spec : {M : Type 1} → statement M
unfolding descriptors begun
ink_descriptors_spec =
    tie.close
    (tie.spec
    (λ c. let start : tie.Start = search in omega (arith, inside (counted_ready length12 2 (λ n. 0xF000 + n) length12_prints start.requires)))
    (λ c κs. let start : tie.Start = search in counted_ready length12 2 (λ n. 0xF000 + n) length12_prints start.requires)
    (λ c. omega (arith, reached (search)))
    (λ c. omega (arith, reached (search)))
    (λ c. omega (arith, reached (search)))
    (λ c κs. omega (arith, reached (search)))
    (λ c. search rules)
    (λ c. let number : tie.After-number = search in
    let ink_all_descriptors : tie.After-ink_all_descriptors-past = search in
    counted_inked length12 2 (λ n. 0xF000 + n) length12_prints ink_all_descriptors.ink_all_descriptors-past.ensures number.number.ensures))
