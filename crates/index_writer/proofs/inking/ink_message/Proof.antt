-- `index_writer::inking::ink_message` meets its contract: its fields are written after room for their length, which is then written into it.
use Prim.Native.Nat.{◌+◌}
use Rattle.body_ink.specs.Inked.{Inked}
use mathlib.Core.Path.{refl}
use native.Mathlib.Omega.{arith}
use borrow.Author.Rules.{rules}
use Rattle.body_ink.proofs.Pairs.{moved, ended, inside, reaches, first, second, pair_inked}
use Rattle.index.specs.Index.{message_fields}
use Rattle.index_writer.proofs.Inkings.{head_ready, message_ready, message_inked}
use Rattle.index_writer.proofs.inking.ink_message.Statement.{statement}
use Rattle.index_writer.proofs.inking.ink_message.Tie as tie

-- where the function began
begun : tie.After-ink_flagged-past → tie.Start
begun c = search

-- the fields, as they stand before their length is written
fields : (c : tie.After-ink_flagged-past) → let a = (begun c).args in let r = c.ink_flagged-past.result in
    Inked message_fields a.pool.now a.tape.now (a.at + 2) a.k a.out.now r.at r.entry c.ink_flagged-past.new.out
unfolding message_fields begun
fields c =
    let resources : tie.After-resources-resources = search in
    let ink-head : tie.After-ink_head = search in
    pair_inked (ended ink-head.ink_head.ensures (omega arith) refl) (pair_inked resources.resources-resources.ensures c.ink_flagged-past.ensures)

pub ink_message_spec : {M : Type 1} → statement M
unfolding message_fields begun
ink_message_spec =
    tie.close
    (tie.spec
    (λ c. let start : tie.Start = search in omega (arith, inside (message_ready start.requires)))
    (λ c κs. let start : tie.Start = search in first _ _ (message_ready start.requires))
    (λ c. let start : tie.Start = search in omega (arith, head_ready (first _ _ (message_ready start.requires))))
    (λ c. let start : tie.Start = search in omega (arith, head_ready (first _ _ (message_ready start.requires))))
    (λ c κs. let ink-head : tie.After-ink_head = search in
    let start : tie.Start = search in
    first _ _ (moved (second ink-head.ink_head.ensures (message_ready start.requires)) (omega arith) refl refl))
    (λ c κs. let resources : tie.After-resources-resources = search in
    let ink-head : tie.After-ink_head = search in
    let start : tie.Start = search in
    second resources.resources-resources.ensures
    (moved (second ink-head.ink_head.ensures (message_ready start.requires)) (omega arith) refl refl))
    (λ c. let start : tie.Start = search in omega (arith, reaches (message_ready start.requires) (fields (search))))
    (λ c. let start : tie.Start = search in omega (arith, reaches (message_ready start.requires) (fields (search))))
    (λ c κs. let start : tie.Start = search in omega (arith, reaches (message_ready start.requires) (fields (search))))
    (λ c. search rules)
    (λ c. let number : tie.After-number = search in message_inked (fields (search)) number.number.ensures))
