-- `packet_memory::repeats` meets its contract: a state that holds nothing and one whose repeat was ignored have none, nor has one whose last packet
use mathlib.Core.Path.{◌∙◌}
use native.Mathlib.Omega.{arith}
use borrow.Author.Tests.{ne_eqb}
use Rattle.ground_choices.proofs.Tests.{unmet, met}
use Rattle.ground_equal.proofs.Same.{same_differs}
use Rattle.packet_memory.specs.State.{last_of}
use Rattle.packet_memory.proofs.States.{repeat_fresh, repeat_second, repeat_then}
use Rattle.packet_memory.proofs.repeats.Goals as goal

pub returns-then-not-known : goal.returns-then-not-known
unfolding last_of
returns-then-not-known c = repeat_fresh _ _ (unmet _ c.requires.1 c.if-not-known.true-raw) c.requires.2

pub returns-then-s-eq2 : goal.returns-then-s-eq2
unfolding last_of
returns-then-s-eq2 c = repeat_second _ _ (met _ c.requires.1 c.if-not-known.false-raw) (omega arith)

pub returns-then-last-p : goal.returns-then-last-p
unfolding last_of
returns-then-last-p c = c.same_bytes.ensures ∙ repeat_then _ _ (met _ c.requires.1 c.if-not-known.false-raw) (λ e. omega arith)

pub returns-else-last-p : goal.returns-else-last-p
unfolding last_of
returns-else-last-p c = ne_eqb _ _ c.if-last-p.false ∙ same_differs _ _ 3 c.if-last-p.false ∙ repeat_then _ _ (met _ c.requires.1 c.if-not-known.false-raw) (λ e. omega arith)
