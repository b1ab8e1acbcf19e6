-- `certificate_writer::glancing::certificate_bytes` meets its contract: three fields are told one after the other, and their bytes are not too many.
use Prim.Native.Nat.{◌+◌, ◌*◌}
use lib.ListN.{get_or}
use native.Mathlib.Omega.{arith}
use borrow.Author.Rules.{rules}
use Rattle.body_form_glance.proofs.Forms.{untold}
use Rattle.certificate_writer.proofs.Glances.{Stands, certificate_laid}
use Rattle.certificate_writer.proofs.glancing.certificate_bytes.Statement.{statement}
use Rattle.certificate_writer.proofs.glancing.certificate_bytes.Tie as tie

begun : tie.Else-a-eq0 → tie.Start
begun c = search

-- the first list stands on the tape
first : (c : tie.Else-a-eq0) → Stands (begun c).args.tape.now 0
unfolding begun
first c = c.before.list_bytes-a.ensures.1.0 (omega arith)

earlier : tie.Else-b-eq0 → tie.Else-a-eq0
earlier c = search

-- and the second after it
second : (c : tie.Else-b-eq0) → let tape = (begun (earlier c)).args.tape.now in Stands tape (1 + get_or tape 0 0 * 2)
unfolding begun earlier
second c = c.before.list_bytes-b.ensures.1.0 (omega arith)

pub certificate_bytes_spec : {M : Type 1} → statement M
unfolding begun earlier
certificate_bytes_spec =
    tie.close
    (tie.spec
    (λ c κs. search rules)
    (λ c. (omega arith, untold))
    (λ c. let a : tie.Else-a-eq0 = search in omega (arith, (first a).1))
    (λ c. let a : tie.Else-a-eq0 = search in omega (arith, (first a).0))
    (λ c. let a : tie.Else-a-eq0 = search in omega (arith, (first a).0))
    (λ c κs. search rules)
    (λ c. (omega arith, untold))
    (λ c. omega (arith, (first (earlier c)).0))
    (λ c. omega (arith, (first (earlier c)).0))
    (λ c. let b : tie.Else-b-eq0 = search in omega (arith, (second b).1))
    (λ c. let b : tie.Else-b-eq0 = search in omega (arith, (second b).0))
    (λ c. let b : tie.Else-b-eq0 = search in omega (arith, (first (earlier b)).0, (second b).0))
    (λ c κs. let b : tie.Else-b-eq0 = search in (second b).1)
    (λ c. (omega arith, untold))
    (λ c. search rules)
    (λ c. search rules)
    (λ c. (omega arith, untold))
    (λ c. let a : tie.After-list_bytes-a = search in
    let b : tie.After-list_bytes-b = search in
    let end : tie.After-last_part-c = search in (
      omega arith,
      certificate_laid (omega arith) (omega arith) (omega arith) a.list_bytes-a.ensures.1.1 b.list_bytes-b.ensures.1.1
          end.last_part-c.ensures.1,
    )))
