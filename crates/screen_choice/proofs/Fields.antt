-- Laws of one message: its resource codes compared where they stand, its times, and what is kept of it.
use Prim.Native.Nat.{ℕ, zero, suc, ◌+◌, ◌*◌, ◌^◌, ◌≤◌, ◌<◌}
use Rattle.std.specs.Prelude.{Result, Ok, Err}
use mathlib.Core.Path.{◌≡◌, refl, sym, ap, ap₂, ◌∙◌}
use mathlib.Core.Bool.{Bool, true, false, not, cond, false≢true}
use mathlib.Core.List.{List, [], ◌∷◌}
use native.Mathlib.Omega.{arith}
use lib.Dec.{leb}
use lib.ListN.{length, get_or, take, drop, length-take, length-drop}
use Rattle.ground_refusal.specs.declared.Refusal.{Refusal}
use Rattle.promises.proofs.Exits.{ok_pair_inj}
use Rattle.ground_refusal.specs.declared.Refusal.TheVariants.{OutsideSet, DigitAboveNine, ImpossibleDay}
use Rattle.time_fields.specs.Field.{read_time, is_instant, moment_of, is_decimal, possible}
use Rattle.time_fields.specs.Showing.{showing, shown_from}
use Rattle.time_fields.specs.declared.Moment.{Moment}
use Rattle.time_fields.specs.declared.Showing.{Showing}
use Rattle.body_formats.specs.Format.{every}
use Rattle.body_formats.specs.Resource.{resource_bytes, resource}
use Rattle.index.specs.Index.{Message}
use Rattle.index.specs.Places.{resources_place}
use Rattle.index_fields.specs.Asked.{resource_count, message_part, start, end, level}
use Rattle.index_fields.specs.Agreement.{FieldsAsked}
use Rattle.screen_code.specs.Code.{InBody, listed}
use Rattle.screen_code.proofs.Same.{both}
use Rattle.screen_code.proofs.Printed.{print_long}
use Rattle.screen_code.proofs.Listed.{writable_code, listed_has}
use Rattle.screen_choice.specs.Choice.{concerns, is_on}
use Rattle.screen_choice.specs.Walk.{worth_of, moment_said, Stands, candidate_of, Keeps}

-- ---- resource codes

every_at : (f : List ℕ → Bool) (xs : List (List ℕ)) (k : ℕ) → every f xs ≡ true → k < length xs → f (get_or xs k []) ≡ true
unfolding every
every_at f [] k e h = absurd (omega arith)
every_at f (x ∷ xs) zero e h = (both (f x) (every f xs) e).0
every_at f (x ∷ xs) (suc k) e h = every_at f xs k (both (f x) (every f xs) e).1 (omega arith)

-- so many bytes from q on, in the body
taken_within : (s : List ℕ) (q k : ℕ) → 0 < k → length (take k (drop q s)) ≡ k → q + k ≤ length s
taken_within s q k h e = omega (arith, simp (length-take, length-drop) at e)

module _ (s : List ℕ) (at n : ℕ) (own code : List ℕ) (m : Message) (st : Stands s at n own code m) where
  pub own_long : length own ≡ resource_bytes
  own_long = ap length st.own_is ∙ print_long code st.is_code_lem

  module _ (count p : ℕ) (e : ◌≡◌ {A = Result (ℕ × ℕ) Refusal} (Ok (count, p)) (resource_count s at n)) where
    answer : ◌≡◌ {A = Result (ℕ × ℕ) Refusal} (Ok (count, p)) (Ok (length m.resources, at + resources_place))
    answer = e ∙ st.asked.resources_counted

    many : count ≡ length m.resources
    many = (ok_pair_inj answer).0

    place : p ≡ at + resources_place
    place = (ok_pair_inj answer).1

    pub codes_in_body : InBody s p count
    codes_in_body k h =
        let l : k < length m.resources = omega (arith, many) in
        let c = sym (writable_code (get_or m.resources k [])) ∙ every_at resource.writable m.resources k st.codes l in
        let t = ap length (st.asked.resource_bytes_lem k l) ∙ print_long (get_or m.resources k []) c in
        let w = taken_within s (at + resources_place + resource_bytes * k) resource_bytes (omega arith) t in
        omega (arith, place, w)

    pub concerned : (r : Bool) → r ≡ listed s p count own → r ≡ concerns code m
    unfolding concerns
    concerned r f =
        f ∙ ap (λ (k : ℕ). listed s p k own) many ∙ ap (listed s p (length m.resources)) st.own_is
        ∙ ap (λ (k : ℕ). listed s k (length m.resources) (resource.print code)) place
        ∙ listed_has s code st.is_code_lem m.resources (at + resources_place) st.codes st.asked.resource_bytes_lem

-- ---- times

-- "on" at an instant, by the fields asked for
pub timely : (s : List ℕ) (at n : ℕ) (present : Moment) (a b : ℕ) (x : Result Showing Refusal) (r : Bool) → a ≡ worth_of (start s at n) → b ≡ worth_of (end s at n)
    → x ≡ showing a b present → r ≡ is_on x → (m : Message) → FieldsAsked s at n m → r ≡ is_on (showing m.start m.end present)
timely s at n present a b x r e f g h m asked =
    h ∙ ap is_on g
    ∙ ap₂ (λ (a b : ℕ). is_on (showing a b present)) (e ∙ ap worth_of asked.start_is) (f ∙ ap worth_of asked.end_is)

-- a start that is read is the moment of its field
read_is : (f : ℕ) → ((r : Refusal) → read_time f 0 ≡ Err r → ⊥) → read_time f 0 ≡ Ok (moment_of f)
unfolding read_time
read_is f h = go (OutsideSet 0) (DigitAboveNine 0) (ImpossibleDay 0) (leb (2 ^ 40) f) (not (is_decimal f)) (not (possible f)) h
  where
    go : (r₀ r₁ r₂ : Refusal) (a b c : Bool)
        → ((r : Refusal) → cond a (Err r₀) (cond b (Err r₁) (cond c (Err r₂) (Ok (moment_of f)))) ≡ Err r → ⊥)
        → cond a (Err r₀) (cond b (Err r₁) (cond c (Err r₂) (Ok (moment_of f)))) ≡ Ok (moment_of f)
    go r₀ r₁ r₂ true b c h = absurd (h r₀ refl)
    go r₀ r₁ r₂ false true c h = absurd (h r₁ refl)
    go r₀ r₁ r₂ false false true h = absurd (h r₂ refl)
    go r₀ r₁ r₂ false false false h = refl

-- what is on has a start that is a time
pub on_read : (f g : ℕ) (present : Moment) → is_on (showing f g present) ≡ true → read_time f 0 ≡ Ok (moment_of f)
unfolding showing shown_from
on_read f g present e = read_is f (λ r h. go (is_instant present) r (rw h at e))
  where
    go : (b : Bool) (r : Refusal) → is_on (cond b (Err r) (Err (ImpossibleDay 0))) ≡ true → ⊥
    go true r e = false≢true e
    go false r e = false≢true e

-- ---- what is kept

pub candidate_is : (s : List ℕ) (at n i l f : ℕ) (x : Moment) → l ≡ worth_of (level s at n) → f ≡ worth_of (start s at n) → x ≡ moment_said (read_time f 0)
    → record { number = i; at = at; length = n; level = l; day = x.day; second = x.second } ≡ candidate_of s at n i
unfolding candidate_of
candidate_is s at n i l f x e g h = rw (h, g, e)

pub keeps : (s : List ℕ) (at n i : ℕ) (m : Message) (present : Moment) → FieldsAsked s at n m → is_on (showing m.start m.end present) ≡ true
    → message_part s i ≡ Ok (at, n) → Keeps s (candidate_of s at n i) i m
unfolding candidate_of
keeps s at n i m present asked on part =
    let f = ap worth_of asked.start_is in
    let t = ap (λ (k : ℕ). moment_said (read_time k 0)) f ∙ ap moment_said (on_read m.start m.end present on) in
    record {
      number_is = refl;
      part_is = part;
      level_is = ap worth_of asked.level_is;
      day_is = ap (λ (x : Moment). x.day) t;
      second_is = ap (λ (x : Moment). x.second) t;
    }
