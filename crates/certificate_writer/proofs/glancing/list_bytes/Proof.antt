-- `certificate_writer::glancing::list_bytes` meets its contract: the count is one byte, its entries stand on the tape, and each two of them are a part.
use native.Mathlib.Omega.{arith}
use borrow.Author.Rules.{rules}
use Rattle.body_form_glance.proofs.Forms.{untold}
use Rattle.certificate_writer.proofs.Glances.{list_laid}
use Rattle.certificate_writer.proofs.glancing.list_bytes.Statement.{statement}
use Rattle.certificate_writer.proofs.glancing.list_bytes.Tie as tie

pub list_bytes_spec : {M : Type 1} → statement M
list_bytes_spec =
    tie.close
    (tie.spec
    (λ c. (omega arith, (λ some. absurd (omega arith), untold)))
    (λ c. search rules)
    (λ c. search rules)
    (λ c. (omega arith, (λ some. absurd (omega arith), untold)))
    (λ c. search rules)
    (λ c. search rules)
    (λ c. search rules)
    (λ c. search rules)
    (λ c. search rules)
    (λ c. (omega arith, (λ some. absurd (omega arith), untold)))
    (λ c. search rules)
    (λ c κs. search rules)
    (λ c. let told : tie.After-parts_bytes = search in (
      omega (arith, told.parts_bytes.ensures.0),
      (λ some. (omega arith, omega arith), list_laid _ _ _ _ (omega arith) (omega arith) told.parts_bytes.ensures.1),
    )))
