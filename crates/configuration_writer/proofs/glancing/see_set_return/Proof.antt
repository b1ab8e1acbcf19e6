-- `configuration_writer::glancing::see_set_return` meets its contract: the kind says which address follows it, and terminals follow that.
use Prim.Native.Nat.{◌+◌, ◌≤◌}
use mathlib.Core.Path.{refl}
use lib.ListN.{length, get_or}
use native.Mathlib.Omega.{arith}
use borrow.Author.Rules.{rules}
use borrow.Author.Tests.{leb-true}
use Rattle.body_form_glance.proofs.Forms.{none_seen}
use Rattle.configuration_writer.proofs.Glances.{seen_list, set_return_laid}
use Rattle.ground_choices.proofs.Tests.{met}
use Rattle.configuration_writer.proofs.glancing.see_set_return.Statement.{statement}
use Rattle.configuration_writer.proofs.glancing.see_set_return.Tie as tie

begun : tie.Else-not-good_span → tie.Start
begun c = search

-- the address lies in the pool
inside : (c : tie.Else-not-good_span) → let given = (begun c).args in
    get_or given.tape.now (given.k + 1) 0 + get_or given.tape.now (given.k + 1 + 1) 0 ≤ length given.pool.now
unfolding begun
inside c = leb-true _ _ (met _ c.before.good_span.ensures c.if-not-good_span.false-raw)

pub see_set_return_spec : {M : Type 1} → statement M
unfolding begun
see_set_return_spec =
    tie.close
    (tie.spec
    (λ c. search rules)
    (λ c κs. search rules)
    (λ c. none_seen c.unseen.ensures)
    (λ c. search rules)
    (λ c. search rules)
    (λ c κs. search rules)
    (λ c. none_seen c.unseen-then-kind-lt1.ensures)
    (λ c κs. search rules)
    (λ c. none_seen c.unseen-then-kind-gt3.ensures)
    (λ c. search rules)
    (λ c. search rules)
    (λ c. search rules)
    (λ c. search rules)
    (λ c κs. search rules)
    (λ c. none_seen c.unseen-then-long-gt255.ensures)
    (λ c κs. search rules)
    (λ c κs. search rules)
    (λ c. none_seen c.unseen-then-not-good_span.ensures)
    (λ c κs. search rules)
    (λ c κs. search rules)
    (λ c. none_seen c.unseen-then-not-length_fits.ensures)
    (λ c. search rules)
    (λ c. search rules)
    (λ c κs. let placed : tie.Else-not-good_span = search in omega (arith, inside placed))
    (λ c κs. search rules)
    (λ c. none_seen c.unseen-then-not-is_address.ensures)
    (λ c. search rules)
    (λ c κs. search rules)
    (λ c. search rules)
    (λ c. search rules)
    (λ c κs. let terminals : tie.After-resource_list-terminals = search in
    (terminals.resource_list-terminals.ensures.few, omega arith, terminals.resource_list-terminals.ensures.inside))
    (λ c. let terminals : tie.After-resource_list-terminals = search in
    let from : tie.Else-kind-lt1 = search in
    let until : tie.Else-kind-gt3 = search in
    let placed : tie.Else-not-good_span = search in
    let long : tie.After-length_fits = search in
    let fits : tie.Else-not-length_fits = search in
    let address : tie.After-is_address = search in
    let is : tie.Else-not-is_address = search in
    seen_list _ _ terminals.resource_list-terminals.ensures (omega arith) c.listed.ensures.0 c.listed.ensures.1
    (λ j m g. set_return_laid refl from.if-kind-lt1.false until.if-kind-gt3.false refl (omega arith) (omega arith) (inside placed)
    (met _ long.length_fits.ensures fits.if-not-length_fits.false-raw) (met _ address.is_address.ensures is.if-not-is_address.false-raw) g)))
