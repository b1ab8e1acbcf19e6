-- `content_writer::measuring::pen_content` meets its contract: its identifier, its languages and then its signature, under their names.
use borrow.Author.Rules.{rules}
use Rattle.body_pen.proofs.Pairs.{pair_pen, view_pen, exact_pen}
use Rattle.content.specs.Content.{fields, content}
use Rattle.content_writer.proofs.measuring.pen_content.Goals as goal

pub pen_identifier-a-requires : goal.pen_identifier-a-requires
unfolding content fields
pen_identifier-a-requires c = search rules

pub pen_languages-b-requires : goal.pen_languages-b-requires
unfolding content fields
pen_languages-b-requires c = search rules

pub pen_part-requires : goal.pen_part-requires
unfolding content fields
pen_part-requires c = search rules

pub returns : goal.returns
unfolding content fields
returns c = simp (exact_pen, view_pen, pair_pen) (cc)
