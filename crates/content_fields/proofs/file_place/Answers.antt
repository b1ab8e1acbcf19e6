-- `content_fields::file_place` meets its contract: the files are as many as the byte after the agency counts.
use Rattle.content_fields.proofs.Glance.{count_seen, file_told}
use native.Mathlib.Omega.{arith}
use Rattle.content_fields.proofs.file_place.Goals as goal

pub bounds-s-q : goal.bounds-s-q
bounds-s-q c = let q = count_seen c.args.s.now c.args.at c.args.n _ c.count_place.ensures c.in_ok-q.was in omega (arith, q.inside, q.lies)

pub overflow_add-at : goal.overflow_add-at
overflow_add-at c = let q = count_seen c.args.s.now c.args.at c.args.n _ c.count_place.ensures c.in_ok-q.was in omega (arith, q.inside, q.lies)

pub overflow_add-q : goal.overflow_add-q
overflow_add-q c = let q = count_seen c.args.s.now c.args.at c.args.n _ c.count_place.ensures c.in_ok-q.was in omega (arith, q.inside, q.lies)

pub nth_file-requires : goal.nth_file-requires
nth_file-requires c = let q = count_seen c.args.s.now c.args.at c.args.n _ c.count_place.ensures c.in_ok-q.was in (q.inside, omega arith, omega arith)

pub returns : goal.returns
returns c = let q = count_seen c.args.s.now c.args.at c.args.n _ c.count_place.ensures c.in_ok-q.was in
    file_told _ _ (λ i. (c.type_inv.s i).fits) _ _ _ _ _ q c.wide-count.ensures.0 (omega arith) (omega arith) _ c.nth_file.ensures
