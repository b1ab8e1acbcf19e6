-- Laws of runs: what two runs of packets give one after the other.
use Prim.Native.Nat.{ℕ}
use mathlib.Core.List.{List, [], ◌∷◌, ◌++◌, append_assoc}
use mathlib.Core.Path.{◌≡◌, refl, sym, ap, ◌∙◌}
use Rattle.packet_memory.specs.Memory.{Memory}
use Rattle.packet_reader.specs.Unpacking.{Verdict, refuses, gives, unpacking, more, and_then, unpacking_all}

more_more : (ss ts : List (List ℕ)) (v : Verdict) → more ss (more ts v) ≡ more (ss ++ ts) v
unfolding more
more_more ss ts (refuses r) = refl
more_more ss ts (gives us m) = ap (λ l. gives l m) (sym (append_assoc ss ts us))

more_then : (ss : List (List ℕ)) (v : Verdict) (f : Memory → Verdict) → more ss (and_then v f) ≡ and_then (more ss v) f
unfolding more and_then
more_then ss (refuses r) f = refl
more_then ss (gives ts m) f = more_more ss ts (f m)

pub run_append : (room : ℕ) (m : Memory) (ps qs : List (List ℕ))
    → unpacking_all room m (ps ++ qs) ≡ and_then (unpacking_all room m ps) (λ m'. unpacking_all room m' qs)
unfolding unpacking_all and_then more
run_append room m [] qs = more_none (unpacking_all room m qs)
  where
    more_none : (v : Verdict) → v ≡ more [] v
    more_none (refuses r) = refl
    more_none (gives ss m) = refl
run_append room m (p ∷ ps) qs = go (λ n. run_append room n ps qs) (unpacking room m p)
  where
    go : ((n : Memory) → unpacking_all room n (ps ++ qs) ≡ and_then (unpacking_all room n ps) (λ m'. unpacking_all room m' qs))
        → (v : Verdict)
        → and_then v (λ n. unpacking_all room n (ps ++ qs)) ≡ and_then (and_then v (λ n. unpacking_all room n ps)) (λ m'. unpacking_all room m' qs)
    go f (refuses r) = refl
    go f (gives ss n) = ap (more ss) (f n) ∙ more_then ss (unpacking_all room n ps) (λ m'. unpacking_all room m' qs)

-- one packet that gives, then the rest
pub run_cons : (room : ℕ) (m n o : Memory) (p : List ℕ) (ps ss ts : List (List ℕ))
    → unpacking room m p ≡ gives ss n → unpacking_all room n ps ≡ gives ts o → unpacking_all room m (p ∷ ps) ≡ gives (ss ++ ts) o
unfolding unpacking_all and_then more
run_cons room m n o p ps ss ts e f = rw (e, f)

-- a run that gives, then another
pub run_then : (room : ℕ) (m n o : Memory) (ps qs ss ts : List (List ℕ))
    → unpacking_all room m ps ≡ gives ss n → unpacking_all room n qs ≡ gives ts o → unpacking_all room m (ps ++ qs) ≡ gives (ss ++ ts) o
unfolding and_then more
run_then room m n o ps qs ss ts e f = run_append room m ps qs ∙ rw (e, f)
