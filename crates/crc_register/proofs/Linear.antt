-- The register is linear: laws of `plus`, `step` and `run` over any polynomial, and what follows for several bits at once.
use mathlib.Core.Path.{◌≡◌, refl, sym, ap, ap₂, ◌∙◌}
use mathlib.Core.Bool.{Bool, true, false, xor, ◌&&◌}
use mathlib.Core.List.{List, [], ◌∷◌, ◌++◌, append_assoc, append-nil}
use Prim.Native.Nat.{ℕ, zero, suc, ◌+◌}
use native.Mathlib.Nat.{suc_inj}
use native.Mathlib.Omega.{arith}
use lib.ListN.{length, replicate, length-append, length-replicate}
use Rattle.crc_register.specs.Register.{plus, fed, step, run}

-- ---- bits

pub xor_assoc : (a b c : Bool) → xor (xor a b) c ≡ xor a (xor b c)
unfolding xor
xor_assoc true true true = refl
xor_assoc true true false = refl
xor_assoc true false true = refl
xor_assoc true false false = refl
xor_assoc false true true = refl
xor_assoc false true false = refl
xor_assoc false false true = refl
xor_assoc false false false = refl

pub xor_comm : (a b : Bool) → xor a b ≡ xor b a
unfolding xor
xor_comm true true = refl
xor_comm true false = refl
xor_comm false true = refl
xor_comm false false = refl

pub xor_false : (b : Bool) → xor false b ≡ b
unfolding xor
xor_false true = refl
xor_false false = refl

pub xor_self : (b : Bool) → xor b b ≡ false
unfolding xor
xor_self true = refl
xor_self false = refl

xor_and : (a b p : Bool) → (xor a b && p) ≡ xor (a && p) (b && p)
unfolding xor
xor_and true true true = refl
xor_and true true false = refl
xor_and true false true = refl
xor_and true false false = refl
xor_and false true true = refl
xor_and false true false = refl
xor_and false false true = refl
xor_and false false false = refl

xor4 : (a b c d : Bool) → xor (xor a b) (xor c d) ≡ xor (xor a c) (xor b d)
xor4 a b c d = cc (xor_assoc a b (xor c d), xor_assoc b c d, xor_comm b c, xor_assoc c b d, xor_assoc a c (xor b d))

-- ---- strings of bits

pub plus_comm : (xs ys : List Bool) → plus xs ys ≡ plus ys xs
unfolding plus
plus_comm [] [] = refl
plus_comm [] (y ∷ ys) = refl
plus_comm (x ∷ xs) [] = refl
plus_comm (x ∷ xs) (y ∷ ys) = ap₂ ◌∷◌ (xor_comm x y) (plus_comm xs ys)

pub plus_assoc : (xs ys zs : List Bool) → plus (plus xs ys) zs ≡ plus xs (plus ys zs)
unfolding plus
plus_assoc [] ys zs = refl
plus_assoc (x ∷ xs) [] zs = refl
plus_assoc (x ∷ xs) (y ∷ ys) [] = refl
plus_assoc (x ∷ xs) (y ∷ ys) (z ∷ zs) = ap₂ ◌∷◌ (xor_assoc x y z) (plus_assoc xs ys zs)

pub plus4 : (a b c d : List Bool) → plus (plus a b) (plus c d) ≡ plus (plus a c) (plus b d)
plus4 a b c d = cc (plus_assoc a b (plus c d), plus_assoc b c d, plus_comm b c, plus_assoc c b d, plus_assoc a c (plus b d))

pub length_plus : (xs ys : List Bool) → length xs ≡ length ys → length (plus xs ys) ≡ length ys
unfolding plus
length_plus [] ys e = e
length_plus (x ∷ xs) [] e = sym (omega arith)
length_plus (x ∷ xs) (y ∷ ys) e = ap suc (length_plus xs ys (suc_inj e))

pub plus_zeros : (n : ℕ) (xs : List Bool) → length xs ≡ n → plus (replicate n false) xs ≡ xs
unfolding plus
plus_zeros zero [] e = refl
plus_zeros zero (x ∷ xs) e = absurd (omega arith)
plus_zeros (suc n) [] e = absurd (omega arith)
plus_zeros (suc n) (x ∷ xs) e = ap₂ ◌∷◌ (xor_false x) (plus_zeros n xs (suc_inj e))

pub plus_self : (xs : List Bool) → plus xs xs ≡ replicate (length xs) false
unfolding plus
plus_self [] = refl
plus_self (x ∷ xs) = ap₂ ◌∷◌ (xor_self x) (plus_self xs)

pub plus_append : (xs xs' ys ys' : List Bool) → length xs ≡ length xs' → plus (xs ++ ys) (xs' ++ ys') ≡ plus xs xs' ++ plus ys ys'
unfolding plus
plus_append [] [] ys ys' e = refl
plus_append [] (x' ∷ xs') ys ys' e = absurd (omega arith)
plus_append (x ∷ xs) [] ys ys' e = absurd (omega arith)
plus_append (x ∷ xs) (x' ∷ xs') ys ys' e = ap (λ (l : List Bool). xor x x' ∷ l) (plus_append xs xs' ys ys' (suc_inj e))

pub length_fed : (b : Bool) (p : List Bool) → length (fed b p) ≡ length p
unfolding fed
length_fed b [] = refl
length_fed b (x ∷ p) = ap suc (length_fed b p)

fed_xor : (a b : Bool) (p : List Bool) → fed (xor a b) p ≡ plus (fed a p) (fed b p)
unfolding fed plus
fed_xor a b [] = refl
fed_xor a b (x ∷ p) = ap₂ ◌∷◌ (xor_and a b x) (fed_xor a b p)

pub fed_false : (p : List Bool) → fed false p ≡ replicate (length p) false
unfolding fed
fed_false [] = refl
fed_false (x ∷ p) = ap (λ (l : List Bool). false ∷ l) (fed_false p)

pub zeros_snoc : (n : ℕ) → replicate n false ++ false ∷ [] ≡ replicate (suc n) false
zeros_snoc zero = refl
zeros_snoc (suc n) = ap (λ (l : List Bool). false ∷ l) (zeros_snoc n)

length_snoc : (xs : List Bool) (b : Bool) → length (xs ++ b ∷ []) ≡ suc (length xs)
length_snoc [] b = refl
length_snoc (x ∷ xs) b = ap suc (length_snoc xs b)

-- ---- the register

pub length_step : (p r : List Bool) (b : Bool) → length r ≡ length p → length (step p r b) ≡ length r
unfolding step
length_step p [] b e = refl
length_step p (z ∷ zs) b e = length_plus (fed (xor z b) p) (zs ++ false ∷ []) (length_fed (xor z b) p ∙ sym e ∙ sym (length_snoc zs false)) ∙ length_snoc zs false

pub length_run : (p r bs : List Bool) → length r ≡ length p → length (run p r bs) ≡ length r
unfolding run
length_run p r [] e = refl
length_run p r (b ∷ bs) e = length_run p (step p r b) bs (length_step p r b e ∙ e) ∙ length_step p r b e

pub run_append : (p r xs ys : List Bool) → run p r (xs ++ ys) ≡ run p (run p r xs) ys
unfolding run
run_append p r [] ys = refl
run_append p r (x ∷ xs) ys = run_append p (step p r x) xs ys

pub step_plus : (p r r' : List Bool) (b b' : Bool) → length r ≡ length r' → step p (plus r r') (xor b b') ≡ plus (step p r b) (step p r' b')
unfolding step plus xor
step_plus p [] [] b b' e = refl
step_plus p [] (z' ∷ zs') b b' e = absurd (omega arith)
step_plus p (z ∷ zs) [] b b' e = absurd (omega arith)
step_plus p (z ∷ zs) (z' ∷ zs') b b' e =
    ap₂ plus (ap (λ (x : Bool). fed x p) (xor4 z z' b b') ∙ fed_xor (xor z b) (xor z' b') p)
    (sym (plus_append zs zs' (false ∷ []) (false ∷ []) (suc_inj e)))
    ∙ plus4 (fed (xor z b) p) (fed (xor z' b') p) (zs ++ false ∷ []) (zs' ++ false ∷ [])

pub run_plus : (p r r' bs bs' : List Bool) → length r ≡ length p → length r' ≡ length p → length bs ≡ length bs'
    → run p (plus r r') (plus bs bs') ≡ plus (run p r bs) (run p r' bs')
unfolding run plus
run_plus p r r' [] [] e e' h = refl
run_plus p r r' [] (b' ∷ bs') e e' h = absurd (omega arith)
run_plus p r r' (b ∷ bs) [] e e' h = absurd (omega arith)
run_plus p r r' (b ∷ bs) (b' ∷ bs') e e' h =
    ap (λ (x : List Bool). run p x (plus bs bs')) (step_plus p r r' b b' (e ∙ sym e'))
    ∙ run_plus p (step p r b) (step p r' b') bs bs' (length_step p r b e ∙ e) (length_step p r' b' e' ∙ e') (suc_inj h)

-- ---- several bits at once

step_zeros : (p : List Bool) (b : Bool) (n : ℕ) → length p ≡ suc n → step p (replicate (suc n) false) b ≡ fed b p
unfolding step
step_zeros p b n e =
    ap₂ plus (ap (λ (x : Bool). fed x p) (xor_false b)) (zeros_snoc n)
    ∙ plus_comm (fed b p) (replicate (suc n) false)
    ∙ plus_zeros (suc n) (fed b p) (length_fed b p ∙ e)

-- the register's part with zeros in, and the bits' part from zero
pub run_split : (p r bs : List Bool) → length r ≡ length p
    → run p r bs ≡ plus (run p r (replicate (length bs) false)) (run p (replicate (length p) false) bs)
run_split p r bs e =
    ap₂ (run p) (sym (plus_comm r (replicate (length p) false) ∙ plus_zeros (length p) r e)) (sym (plus_zeros (length bs) bs refl))
    ∙ run_plus p r (replicate (length p) false) (replicate (length bs) false) bs e (length-replicate (length p) false) (length-replicate (length bs) false)

step_high : (h b : Bool) (hs : List Bool) (k : ℕ) (p : List Bool) → step p (h ∷ hs ++ replicate k false) b ≡ plus (fed (xor h b) p) (hs ++ replicate (suc k) false)
unfolding step
step_high h b hs k p =
    ap (plus (fed (xor h b) p)) (append_assoc hs (replicate k false) (false ∷ []) ∙ ap (λ (x : List Bool). hs ++ x) (zeros_snoc k))

-- what stands in the high units may as well be added to the bits that come in
pub enter : (p hs bs : List Bool) (k : ℕ) → length hs ≡ length bs → length p ≡ length bs + k
    → run p (hs ++ replicate k false) bs ≡ run p (replicate (length p) false) (plus hs bs)
unfolding run plus
enter p [] [] k e h = let g : length p ≡ k = omega arith in ap (λ (n : ℕ). replicate n false) (sym g)
enter p [] (b ∷ bs) k e h = absurd (omega arith)
enter p (x ∷ hs) [] k e h = absurd (omega arith)
enter p (x ∷ hs) (b ∷ bs) k e h =
    let f : List Bool = fed (xor x b) p in
    let high : List Bool = hs ++ replicate (suc k) false in
    let g : length p ≡ suc (length bs + k) = omega arith in
    let l : length high ≡ length p = simp (length-append, length-replicate) (omega arith) in
    let m : length (plus hs bs) ≡ length bs = length_plus hs bs (suc_inj e) in
    ap (λ (r : List Bool). run p r bs) (step_high x b hs k p)
    ∙ ap (run p (plus f high)) (sym (plus_zeros (length bs) bs refl))
    ∙ run_plus p f high (replicate (length bs) false) bs (length_fed (xor x b) p) l (length-replicate (length bs) false)
    ∙ ap₂ (λ (n : ℕ) (r : List Bool). plus (run p f (replicate n false)) r) (sym m) (enter p hs bs (suc k) (suc_inj e) (omega arith))
    ∙ sym (run_split p f (plus hs bs) (length_fed (xor x b) p))
    ∙ ap (λ (r : List Bool). run p r (plus hs bs)) (sym (ap (λ (n : ℕ). step p (replicate n false) (xor x b)) g ∙ step_zeros p (xor x b) (length bs + k) g))

step_low : (p r : List Bool) → length p ≡ suc (length r) → step p (false ∷ r) false ≡ r ++ false ∷ []
unfolding step xor
step_low p r e =
    ap (λ (x : List Bool). plus x (r ++ false ∷ [])) (fed_false p)
    ∙ plus_zeros (length p) (r ++ false ∷ []) (length_snoc r false ∙ sym e)

-- high units that are zero only move the low ones up
pub run_low : (p lo : List Bool) (n : ℕ) → length p ≡ n + length lo → run p (replicate n false ++ lo) (replicate n false) ≡ lo ++ replicate n false
unfolding run
run_low p lo zero e = sym (append-nil lo)
run_low p lo (suc n) e =
    ap (λ (x : List Bool). run p x (replicate n false))
    (step_low p (replicate n false ++ lo) (simp (length-append, length-replicate) (omega arith)) ∙ append_assoc (replicate n false) lo (false ∷ []))
    ∙ run_low p (lo ++ false ∷ []) n (simp length-append (omega arith))
    ∙ append_assoc lo (false ∷ []) (replicate n false)

-- the high units go in with the bits, from zero, and the low ones move up
pub run_block : (p hi lo bs : List Bool) → length hi ≡ length bs → length p ≡ length bs + length lo
    → run p (hi ++ lo) bs ≡ plus (run p (replicate (length p) false) (plus hi bs)) (lo ++ replicate (length bs) false)
run_block p hi lo bs e h =
    let n : ℕ = length bs in
    let k : ℕ = length lo in
    ap₂ (run p) apart (sym (plus_comm bs (replicate n false) ∙ plus_zeros n bs refl))
    ∙ run_plus p (hi ++ replicate k false) (replicate n false ++ lo) bs (replicate n false)
    (simp (length-append, length-replicate) (omega arith)) (simp (length-append, length-replicate) (omega arith)) (sym (length-replicate n false))
    ∙ ap₂ plus (enter p hi bs k e h) (run_low p lo n h)
  where
    apart : hi ++ lo ≡ plus (hi ++ replicate (length lo) false) (replicate (length bs) false ++ lo)
    apart = sym (plus_append hi (replicate (length bs) false) (replicate (length lo) false) lo (e ∙ sym (length-replicate (length bs) false))
        ∙ ap₂ ◌++◌ (plus_comm hi (replicate (length bs) false) ∙ plus_zeros (length bs) hi e) (plus_zeros (length lo) lo refl))

-- zeros leave the register zero
pub run_zeros : (p : List Bool) → run p (replicate (length p) false) (replicate (length p) false) ≡ replicate (length p) false
run_zeros p = ap (λ (r : List Bool). run p r (replicate (length p) false)) (sym (append-nil (replicate (length p) false))) ∙ run_low p [] (length p) (omega arith)
