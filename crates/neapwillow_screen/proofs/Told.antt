-- A message that is shown fits its fields, so each of them comes back from the answer.
use Prim.Native.Nat.{ℕ, ◌+◌, ◌*◌, ◌%◌, ◌^◌, ◌<◌}
use mathlib.Core.Path.{◌≡◌}
use native.Mathlib.Nat.{mod-eq_of_lt}
use native.Mathlib.Omega.{arith}
use Rattle.c_answers.specs.Answers.{answer_of}
use Rattle.c_answers.specs.Packing.{widths, packed}
use Rattle.promises.proofs.Told as library
use Rattle.screen_promises.proofs.Promise.{promise}
use Rattle.neapwillow_screen.specs.Answer.{choice_fields}
use Rattle.neapwillow_screen.specs.Told.{TellsChoice, Told}

-- the fields one above the other
packed_is : (number at length : ℕ) → number < 256 → at < 2 ^ 24 → length < 65536
    → packed (choice_fields number at length) ≡ 2 ^ 48 + number * 2 ^ 40 + at * 2 ^ 16 + length
unfolding packed widths choice_fields
packed_is number at length a b c =
    let x : number % 2 ^ 8 ≡ number = mod-eq_of_lt (omega (arith, a)) in
    let y : at % 2 ^ 24 ≡ at = mod-eq_of_lt b in
    let z : length % 2 ^ 16 ≡ length = mod-eq_of_lt (omega (arith, c)) in
    omega (arith, x, y, z)

choice_told_lem : (number at length : ℕ) → number < 256 → at < 2 ^ 24 → length < 65536
    → TellsChoice (answer_of 0 (packed (choice_fields number at length))) number at length
choice_told_lem number at length a b c =
    let e = packed_is number at length a b c in
    record {
      no_refusal = omega arith;
      shown = omega (arith, e);
      number_is = omega (arith, e);
      start_is = omega (arith, e);
      length_is = omega (arith, e);
    }

pub told : Told
told =
    record {
      shows = λ kind s code present b i at n e.
          let w = promise.within kind s code present b i at n e in
          choice_told_lem i at n w.number (let h = w.in_body_lem in let m = w.body in omega (arith, h, m)) w.part;
      nothing = record { no_refusal = omega arith; shown = omega arith };
      refused = (library.told).refusals.day;
    }
