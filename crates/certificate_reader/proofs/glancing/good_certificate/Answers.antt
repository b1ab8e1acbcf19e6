-- `certificate_reader::glancing::good_certificate` meets its contract: two lists are found one after the other, and the signature is all that is left.
use Prim.Native.Nat.{◌-◌}
use mathlib.Core.Path.{◌≡◌}
use lib.ListN.{length}
use native.Mathlib.Omega.{arith}
use borrow.Author.Tests.{eqb-true}
use Rattle.body_glance.proofs.Leaves.{not_good}
use Rattle.certificate_reader.proofs.Glances.{last_good, certificate_good}
use Rattle.certificate_reader.proofs.glancing.good_certificate.Goals as goal

pub returns-in_default : goal.returns-in_default
returns-in_default c = not_good

pub returns-then-s-b-lt2 : goal.returns-then-s-b-lt2
returns-then-s-b-lt2 c = not_good

pub returns : goal.returns
returns c e = let rest : length c.args.s.now - c.in-Some-past_list.b - 2 ≡ c.two_bytes.result = eqb-true _ _ e in
    certificate_good (c.past_list.ensures _ c.in-Some.is).1 (c.past_list-2.ensures _ c.in-Some-past_list.is).1
    (last_good _ _ c.two_bytes.ensures.0 c.two_bytes.ensures.1 (omega (arith, rest)))
