-- `certificate_writer::pen_certificate` meets its contract: the three fields one after the other, under their names.
use borrow.Author.Rules.{rules}
use Rattle.body_pen.proofs.Pairs.{pair_pen, view_pen, exact_pen}
use Rattle.certificate.specs.Certificate.{fields, certificate}
use Rattle.certificate_writer.proofs.pen_certificate.Goals as goal

pub pen_list-a-requires : goal.pen_list-a-requires
unfolding certificate fields
pen_list-a-requires c = search rules

pub pen_list-b-requires : goal.pen_list-b-requires
unfolding certificate fields
pen_list-b-requires c = search rules

pub pen_part-requires : goal.pen_part-requires
unfolding certificate fields
pen_part-requires c = search rules

pub returns : goal.returns
unfolding certificate fields
returns c = simp (exact_pen, view_pen, pair_pen) (cc)
