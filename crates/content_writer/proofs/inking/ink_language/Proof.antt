-- `content_writer::inking::ink_language` meets its contract: its fields are written after room for their length, which is then written into it.
use Prim.Native.Nat.{◌+◌, ◌≤◌}
use lib.ListN.{length}
use Rattle.ground_numbers.specs.Sizes.{body_most}
use native.Mathlib.Omega.{arith}
use borrow.Author.Rules.{rules}
use Rattle.body_ink.proofs.Pairs.{inside, reaches}
use Rattle.content_writer.proofs.Inkings.{language_ready, language_inked}
use Rattle.content_writer.proofs.inking.ink_language.Statement.{statement}
use Rattle.content_writer.proofs.inking.ink_language.Tie as tie

-- where the function began
begun : tie.After-ink_language_fields-past → tie.Start
begun c = search

-- the fields end within their room and the body
reached : (c : tie.After-ink_language_fields-past) → let a = (begun c).args in let end = c.ink_language_fields-past.result.at in
    (a.at + 4 ≤ end) × (end ≤ length a.out.now) × (end ≤ body_most)
unfolding begun
reached c = reaches (language_ready _ (begun c).requires) c.ink_language_fields-past.ensures

pub ink_language_spec : {M : Type 1} → statement M
unfolding begun
ink_language_spec =
    tie.close
    (tie.spec
    (λ c. let start : tie.Start = search in omega (arith, inside (language_ready _ start.requires)))
    (λ c κs. let start : tie.Start = search in language_ready _ start.requires)
    (λ c. omega (arith, reached (search)))
    (λ c. omega (arith, reached (search)))
    (λ c κs. omega (arith, reached (search)))
    (λ c. search rules)
    (λ c. let number : tie.After-number = search in
    let ink_language_fields : tie.After-ink_language_fields-past = search in
    language_inked _ ink_language_fields.ink_language_fields-past.ensures number.number.ensures))
