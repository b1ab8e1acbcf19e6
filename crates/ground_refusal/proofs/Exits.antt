-- What the exit of a `?` returns, and what two equal answers hold.
use Rattle.std.specs.Prelude.{◌≡◌, Result, Ok, Err, IsErr, IsErrAnd}
use Rattle.std.proofs.lemmas.Result.{err_from_is_err_and}
use mathlib.Core.Path.{ap, ◌∙◌}
use Rattle.ground_refusal.specs.declared.Refusal.{Refusal}

-- a `?` passes the callee's refusal on
pub passed_on : {T : Type 0} {r : Result T Refusal} {e : Refusal} → IsErr r × IsErrAnd r (λ x. x ≡ e) → r ≡ Err e
passed_on {r = r} p = let q = err_from_is_err_and r p.1 in q.1 ∙ ap Err q.2

-- what stands in one answer stands in its equal
abbrev given_or : {T : Type 0} → T → Result T Refusal → T
given_or x (Ok y) = y
given_or x (Err r) = x

pub ok_inj : {T : Type 0} {x y : T} → ◌≡◌ {A = Result T Refusal} (Ok x) (Ok y) → x ≡ y
ok_inj {x = x} e = ap (given_or x) e

pub ok_pair_inj : {A B : Type 0} {a c : A} {b d : B} → ◌≡◌ {A = Result (A × B) Refusal} (Ok (a, b)) (Ok (c, d)) → (a ≡ c) × (b ≡ d)
ok_pair_inj e = let p = ok_inj e in (ap (λ x. x.0) p, ap (λ x. x.1) p)

abbrev refusal_or : {T : Type 0} → Refusal → Result T Refusal → Refusal
refusal_or s (Ok y) = s
refusal_or s (Err r) = r

pub err_inj : {T : Type 0} {r s : Refusal} → ◌≡◌ {A = Result T Refusal} (Err r) (Err s) → r ≡ s
err_inj {r = r} e = ap (refusal_or r) e
