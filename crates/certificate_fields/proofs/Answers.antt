-- What the fields asked for answer, a law for each way through.
use Prim.Native.Nat.{ℕ}
use Rattle.std.specs.Prelude.{Ok, Err}
use mathlib.Core.Path.{◌≡◌}
use mathlib.Core.List.{List}
use lib.ListN.{length}
use Rattle.ground_refusal.specs.declared.Refusal.{Refusal}
use Rattle.body_formats.specs.Answers.{ended, number_read, part_read, part_listed}
use Rattle.body_formats.proofs.Readers.{step_found, step_refused}
use Rattle.certificate.specs.Certificate.{parts}
use Rattle.certificate_fields.specs.Asked.{certificate_count, certificate_part, signature_part}

module _ (s : List ℕ) where
  module _ (r : Refusal) (e : Err r ≡ ended (parts 2) s (length s) 0) where
    pub count_no : Err r ≡ certificate_count s
    unfolding certificate_count
    count_no = rw (step_refused (parts 2) s (length s) 0 r e)

    pub part_no : (i : ℕ) → Err r ≡ certificate_part s i
    unfolding certificate_part
    part_no i = rw (step_refused (parts 2) s (length s) 0 r e)

    pub signature_no : Err r ≡ signature_part s
    unfolding signature_part
    signature_no = rw (step_refused (parts 2) s (length s) 0 r e)

  module _ (a : ℕ) (e : Ok a ≡ ended (parts 2) s (length s) 0) where
    pub count_is : number_read 1 s (length s) a ≡ certificate_count s
    unfolding certificate_count number_read
    count_is = rw (step_found (parts 2) s (length s) 0 a e).1

    pub part_is : (i : ℕ) → part_listed 1 1 i s (length s) a ≡ certificate_part s i
    unfolding certificate_part part_listed
    part_is i = rw (step_found (parts 2) s (length s) 0 a e).1

    pub signature_none : (r : Refusal) → Err r ≡ ended (parts 1) s (length s) a → Err r ≡ signature_part s
    unfolding signature_part
    signature_none r f = rw ((step_found (parts 2) s (length s) 0 a e).1, step_refused (parts 1) s (length s) a r f)

    pub signature_is : (b : ℕ) → Ok b ≡ ended (parts 1) s (length s) a → part_read 2 s (length s) b ≡ signature_part s
    unfolding signature_part part_read
    signature_is b f = rw ((step_found (parts 2) s (length s) 0 a e).1, (step_found (parts 1) s (length s) a b f).1)
