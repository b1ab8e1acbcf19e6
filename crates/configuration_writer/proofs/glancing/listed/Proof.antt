-- `configuration_writer::glancing::listed` meets its contract: none is none, and one more than so many are so many.
use Prim.Native.Nat.{◌-◌}
use native.Mathlib.Omega.{arith}
use borrow.Author.Rules.{rules}
use Rattle.configuration_writer.proofs.glancing.listed.Statement.{statement}
use Rattle.configuration_writer.proofs.glancing.listed.Tie as tie

pub listed_spec : {M : Type 1} → statement M
listed_spec =
    tie.close
    (tie.spec
    (λ c κs. search rules)
    (λ c. (λ e. c.unseen.ensures, λ n e. absurd (omega arith)))
    (λ c. search rules)
    (λ c. search rules)
    (λ c. search rules)
    (λ c. search rules)
    (λ c. let start : tie.Start = search in omega (arith, start.requires.2 (start.args.terminals - 1) (omega arith)))
    (λ c. search rules)
    (λ c. let start : tie.Start = search in omega (arith, start.requires.2 (start.args.terminals - 1) (omega arith)))
    (λ c. (λ e. absurd (omega arith), λ n e. (omega arith, omega arith))))
