-- `configuration_reader::walking::walk_address` meets its contract: its length is judged before its bytes, and then it is walked as opaque bytes.
use mathlib.Core.Path.{sym, ◌∙◌}
use Rattle.body_formats.proofs.Readers.{part_facts}
use Rattle.body_walk.proofs.Pairs.{from, left, exits}
use Rattle.body_walk.proofs.Leaves.{leaf_refused}
use Rattle.configuration_reader.proofs.AddressWalks.{address_no, length_wrong, address_wrong, address_walk}
use Rattle.configuration_reader.proofs.walking.walk_address.Goals as goal

pub returns-in_err-p : goal.returns-in_err-p
returns-in_err-p c = left c.from_residual.ensures c.in_err-p.was

pub returns-in_err-a : goal.returns-in_err-a
returns-in_err-a c = exits c.from_residual-in_err-a.ensures
    (leaf_refused _ _ _ _ _ _ _ _ c.in_ok-p.was _ (address_no _ _ _ _ _ (sym c.in_err-a.was ∙ c.read_part.ensures)))

pub returns-then-not-length_fits : goal.returns-then-not-length_fits
returns-then-not-length_fits c = leaf_refused _ _ _ _ _ _ _ _ c.in_ok-p.was _
    (length_wrong _ _ _ _ (λ i. (c.type_inv.s i).fits) _ _ (sym c.in_ok-a.was ∙ c.read_part.ensures)
    (sym c.length_fits.ensures ∙ c.if-not-length_fits.true))

pub is_address-requires : goal.is_address-requires
is_address-requires c = (part_facts _ _ _ 1 _ _ (sym c.in_ok-a.was ∙ c.read_part.ensures)).0

pub returns-then-not-is_address : goal.returns-then-not-is_address
returns-then-not-is_address c = leaf_refused _ _ _ _ _ _ _ _ c.in_ok-p.was _
    (address_wrong _ _ _ _ (λ i. (c.type_inv.s i).fits) _ _ (sym c.in_ok-a.was ∙ c.read_part.ensures)
    (sym c.length_fits.ensures ∙ c.if-not-length_fits.false) (sym c.is_address.ensures ∙ c.if-not-is_address.true))

pub returns : goal.returns
returns c = from c.in_ok-p.was
    (address_walk _ _ _ _ (λ i. (c.type_inv.s i).fits) _ _ (sym c.in_ok-a.was ∙ c.read_part.ensures)
    (sym c.length_fits.ensures ∙ c.if-not-length_fits.false) (sym c.is_address.ensures ∙ c.if-not-is_address.false)
    (from (sym c.in_ok-p.was) c.walk_part.ensures))
