-- `index_writer::inking::ink_streams` meets its contract: they are written after room for their length, which is then written into it.
use Prim.Native.Nat.{◌+◌, ◌≤◌}
use lib.ListN.{length}
use Rattle.ground_numbers.specs.Sizes.{body_most}
use native.Mathlib.Omega.{arith}
use borrow.Author.Rules.{rules}
use Rattle.body_ink.proofs.Pairs.{inside, reaches}
use Rattle.body_ink.proofs.Lengths.{counted_ready, counted_inked, length_of_prints}
use Rattle.body_formats.specs.Format.{length_of}
use Rattle.index.specs.Index.{streams}
use Rattle.index_writer.proofs.inking.ink_streams.Statement.{statement}
use Rattle.index_writer.proofs.inking.ink_streams.Tie as tie

-- where the function began
begun : tie.After-ink_all_streams-past → tie.Start
begun c = search

-- the streams end within their room and the body
reached : (c : tie.After-ink_all_streams-past) → let a = (begun c).args in let end = c.ink_all_streams-past.result.at in
    (a.at + 2 ≤ end) × (end ≤ length a.out.now) × (end ≤ body_most)
unfolding streams begun
reached c = reaches (counted_ready (length_of 2) 2 (λ n. n) (length_of_prints 2) (begun c).requires) c.ink_all_streams-past.ensures

pub ink_streams_spec : {M : Type 1} → statement M
unfolding streams begun
ink_streams_spec =
    tie.close
    (tie.spec
    (λ c. let start : tie.Start = search in omega (arith, inside (counted_ready (length_of 2) 2 (λ n. n) (length_of_prints 2) start.requires)))
    (λ c κs. let start : tie.Start = search in counted_ready (length_of 2) 2 (λ n. n) (length_of_prints 2) start.requires)
    (λ c. omega (arith, reached (search)))
    (λ c. omega (arith, reached (search)))
    (λ c κs. omega (arith, reached (search)))
    (λ c. search rules)
    (λ c. let number : tie.After-number = search in
    let ink_all_streams : tie.After-ink_all_streams-past = search in
    counted_inked (length_of 2) 2 (λ n. n) (length_of_prints 2) ink_all_streams.ink_all_streams-past.ensures number.number.ensures))
