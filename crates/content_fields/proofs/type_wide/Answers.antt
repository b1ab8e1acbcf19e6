-- `content_fields::type_wide` meets its contract: it begins the file that the glance finds, or is looked for.
use Rattle.content_fields.proofs.Glance.{file_seen, type_at}
use native.Mathlib.Omega.{arith}
use Rattle.content_fields.proofs.type_wide.Goals as goal

pub bounds-s-p : goal.bounds-s-p
bounds-s-p c = let f = file_seen c.args.w c.args.s.now c.args.at c.args.n c.args.i _ c.file_place.ensures c.in-Some.is in omega (arith, f.inside, f.lies)

pub overflow_add-result : goal.overflow_add-result
overflow_add-result c = let f = file_seen c.args.w c.args.s.now c.args.at c.args.n c.args.i _ c.file_place.ensures c.in-Some.is in omega (arith, f.inside, f.lies)

pub returns-in-Some : goal.returns-in-Some
returns-in-Some c = let f = file_seen c.args.w c.args.s.now c.args.at c.args.n c.args.i _ c.file_place.ensures c.in-Some.is in
    type_at _ _ (λ i. (c.type_inv.s i).fits) _ _ _ _ _ f c.wide.ensures.0
