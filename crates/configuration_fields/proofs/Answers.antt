-- What the fields asked for answer, a law for each way through.
use Prim.Native.Nat.{ℕ, ◌+◌, ◌-◌, ◌*◌, ◌%◌, ◌^◌, ◌≤◌, ◌<◌}
use Rattle.std.specs.Prelude.{Result, Ok, Err}
use mathlib.Core.Path.{◌≡◌, refl, sym, ap, ap₂, subst, ◌∙◌}
use mathlib.Core.List.{List, [], ◌∷◌}
use mathlib.Core.Bool.{Bool, true, false, ◌&&◌}
use native.Mathlib.Omega.{arith}
use native.Mathlib.Nat.{add-zero, add-sub_cancel, add-sub_cancel_left, mod-eq_of_lt, mul-le-mul}
use lib.ListN.{length, take, drop, length-drop}
use lib.Seq.{length-take-le}
use lib.Dec.{ltb, leb, eqb}
use borrow.Author.Tests.{ltb-true, le-leb, lt-leb, lt-ltb, le-ltb, eq-eqb, ne_eqb}
use Rattle.ground_refusal.specs.declared.Refusal.{Refusal}
use Rattle.ground_refusal.specs.declared.Refusal.TheVariants.{PastBody, PastPart, OutsideSet, ImpossibleDay}
use Rattle.ground_refusal.proofs.Exits.{ok_inj, ok_pair_inj}
use Rattle.time_days.specs.Calendar.{has_day}
use Rattle.body_formats.specs.Reading.{Reading, found, refused, and_then, need, unless, judged, within}
use Rattle.body_formats.specs.Format.{Format, count, number, among, only, bytes, followed, repeat, list_of, opaque, rest, length_of, least_of, counted}
use Rattle.body_formats.specs.Answers.{step_of, number_of, part_of, field_part, number_among, number_read, part_read, ended_all}
use Rattle.body_formats.proofs.Outcomes.{found_inj, and_then_found, need_found, within_found}
use Rattle.body_formats.proofs.Classes.{Bytes}
use Rattle.body_formats.proofs.Elements.{followed_found}
use Rattle.body_formats.proofs.Bits.{number_is_count, number_among_lem}
use Rattle.body_formats.proofs.Readers.{number_found, number_refused, number_facts, list_no, list_all, step_found, step_refused}
use Rattle.body_formats.proofs.Readers as readers
use Rattle.configuration_addresses.specs.Address.{length_fits, is_address}
use Rattle.configuration.specs.Configuration.{plain, date, clock, address_fault, address_length, address, least}
use Rattle.configuration.proofs.Clocks.{day_fault_lem}
use Rattle.body_asking.specs.Asking.{headed_part, nth_of}
use Rattle.body_asking.proofs.Answers.{part_found, part_refused}
use Rattle.body_asking.proofs.Answers as asking
use Rattle.body_asking.proofs.Sizes.{count_sized, number_sized, only_found}
use Rattle.body_formats.specs.Held.{PartHolds}
use Rattle.body_formats.specs.Resource.{resource_bytes}
use Rattle.body_asking.proofs.Parts.{counted_holds}
use Rattle.configuration_fields.specs.Asked.{command_count, command_part, signature_part, tag_at, bytes_at, command_tag, command_content, content_at, in_command, place_read, three_of, clock_date, clock_time, code_address, code_at, address_in, return_address, list_at, parameter_at, parameter, terminals_in, terminals_at, terminal_count, terminal_at}

-- ---- one thing of several bytes

module _ {A : Type 0} (F : Format A) (s : List ℕ) (l p : ℕ) where
  ended_one : ended_all F 1 s l p ≡ step_of (F.parse s l p)
  unfolding ended_all repeat
  ended_one = go (F.parse s l p)
    where
      go : (x : Reading A) → step_of (and_then x (λ a q. and_then (found [] q) (λ (xs : List A) r. found (a ∷ xs) r))) ≡ step_of x
      go (found a q) = refl
      go (refused r) = refl

  pub whole_no : (r : Refusal) → Err r ≡ ended_all F 1 s l p → Err r ≡ field_part p (F.parse s l p)
  whole_no r e = rw (asking.step_refused (F.parse s l p) r (e ∙ ended_one))

  pub whole_is : (end : ℕ) → Ok end ≡ ended_all F 1 s l p → Ok (p, end - p) ≡ field_part p (F.parse s l p)
  whole_is end e = rw (asking.step_found (F.parse s l p) end (e ∙ ended_one)).1

rest_ends : (s : List ℕ) (l p : ℕ) (xs : List ℕ) (q : ℕ) → rest.parse s l p ≡ found xs q → l ≡ q
unfolding rest
rest_ends s l p xs q e = (found_inj e).1

-- an entry does not end before it begins
pub entry_onward : (h w : ℕ) (s : List ℕ) (l p end : ℕ) → Ok end ≡ ended_all (headed_part h w) 1 s l p → p ≤ end
unfolding bytes length_of
entry_onward h w s l p end e =
    let x = asking.step_found ((headed_part h w).parse s l p) end (e ∙ ended_one (headed_part h w) s l p) in
    let f = followed_found (bytes h) (opaque w) s l p x.0 end x.1 in
    let head = (found_inj (within_found s l p (p + h) _ x.0.0 f.0 f.1).2).1 in
    let part = counted_holds (length_of w) rest s l f.0 x.0.1 end f.2 in
    omega (arith, head, count_sized w s l f.0 part.counts part.at part.told, rest_ends s (part.at + part.size) part.at x.0.1 end part.inner)

-- ---- the table

module _ (s : List ℕ) (i : ℕ) where
  pub command_no : (r : Refusal) → Err r ≡ command_count s → Err r ≡ command_part s i
  unfolding command_part command_count number_read
  command_no r e = rw (number_refused ((count 1).parse s (length s) 0) r e)

  module _ (n q : ℕ) (e : Ok (n, q) ≡ command_count s) where
    pub command_none : {x : Result ℕ Refusal} → x ≡ step_of (nth_of (headed_part 1 2) n i s (length s) q) → (r : Refusal) → x ≡ Err r → Err r ≡ command_part s i
    unfolding command_part command_count number_read
    command_none f r g = rw (number_found ((count 1).parse s (length s) 0) n q e, asking.step_refused (nth_of (headed_part 1 2) n i s (length s) q) r (sym g ∙ f))

    pub command_at : {x : Result ℕ Refusal} → x ≡ step_of (nth_of (headed_part 1 2) n i s (length s) q) → (p : ℕ) → x ≡ Ok p → field_part p ((headed_part 1 2).parse s (length s) p) ≡ command_part s i
    unfolding command_part command_count number_read
    command_at f p g = rw (number_found ((count 1).parse s (length s) 0) n q e, (asking.step_found (nth_of (headed_part 1 2) n i s (length s) q) p (sym g ∙ f)).1)

module _ (s : List ℕ) where
  pub signature_no : (r : Refusal) → Err r ≡ command_count s → Err r ≡ signature_part s
  unfolding signature_part command_count
  signature_no r e = rw (step_refused (list_of (count 1) (headed_part 1 2)) s (length s) 0 r (list_no s (length s) 0 1 (headed_part 1 2) r e))

  module _ (n q : ℕ) (e : Ok (n, q) ≡ command_count s) where
    pub signature_past : (r : Refusal) → Err r ≡ ended_all (headed_part 1 2) n s (length s) q → Err r ≡ signature_part s
    unfolding signature_part command_count
    signature_past r f = rw (step_refused (list_of (count 1) (headed_part 1 2)) s (length s) 0 r (f ∙ list_all s (length s) 0 1 (headed_part 1 2) n q e))

    pub signature_is : (end : ℕ) → Ok end ≡ ended_all (headed_part 1 2) n s (length s) q → part_read 2 s (length s) end ≡ signature_part s
    unfolding signature_part command_count part_read
    signature_is end f = rw (step_found (list_of (count 1) (headed_part 1 2)) s (length s) 0 end (f ∙ list_all s (length s) 0 1 (headed_part 1 2) n q e)).1

-- ---- places

place_found : (x : Reading ℕ) (q l : ℕ) → Ok (q, l) ≡ place_read x → x ≡ found l q
place_found (found m t) q l e = let i = ok_pair_inj e in ap₂ found (sym i.1) (sym i.0)
place_found (refused r) q l e = absurd (let z : ◌≡◌ {A = ℕ} 0 1 = cc in omega arith)

place_refused : (x : Reading ℕ) (r : Refusal) → Err r ≡ place_read x → x ≡ refused r
place_refused (refused t) r e = let a : t ≡ r = cc in ap refused a
place_refused (found m q) r e = absurd (let z : ◌≡◌ {A = ℕ} 0 1 = cc in omega arith)

-- what is read in a content, if there is one
module _ {A : Type 0} (F : Format A) (tag k : ℕ) (s : List ℕ) (p : ℕ) where
  pub in_command_no : (r : Refusal) → Err r ≡ place_read (content_at tag s p) → refused r ≡ in_command F tag k s p
  in_command_no r e = rw (place_refused (content_at tag s p) r e)

  pub in_command_lem : (q l : ℕ) → Ok (q, l) ≡ place_read (content_at tag s p) → F.parse s l (q + k) ≡ in_command F tag k s p
  in_command_lem q l e = rw (place_found (content_at tag s p) q l e)

-- ---- numbers

module _ (s : List ℕ) (b : Bytes s) where
  pub among_read : (lo hi l p : ℕ) → number_among lo hi p (number_read 1 s l p) ≡ number_of ((among lo hi (number 1)).parse s l p)
  among_read lo hi l p = ap (number_among lo hi p) (number_is_count 1 s l p b) ∙ number_among_lem lo hi (number 1) s l p

  -- a number of bytes is not refused for its value
  pub number_in : (w tag k p : ℕ) → number_of (in_command (count w) tag k s p) ≡ number_of (in_command (number w) tag k s p)
  unfolding number_read
  number_in w tag k p = go (content_at tag s p)
    where
      go : (x : Reading ℕ) → number_of (and_then x (λ l q. (count w).parse s l (q + k))) ≡ number_of (and_then x (λ l q. (number w).parse s l (q + k)))
      go (found l q) = number_is_count w s l (q + k) b
      go (refused r) = refl

-- ---- a command

module _ (s : List ℕ) (p : ℕ) where
  pub tag_is : Bytes s → p < length s → number_read 1 s (length s) p ≡ command_tag s p
  unfolding command_tag tag_at
  tag_is b h = number_is_count 1 s (length s) p b ∙ rw (lt-ltb p (length s) h)

  pub tag_none : length s ≤ p → Err (OutsideSet 0) ≡ command_tag s p
  unfolding command_tag tag_at
  tag_none h = rw (le-ltb p (length s) h)

  -- where a tag found ends
  pub tag_found : (t q : ℕ) → tag_at s p ≡ found t q → ((number 1).parse s (length s) p ≡ found t q) × (q ≡ p + 1) × (p < length s)
  unfolding tag_at
  tag_found t q e =
      let f = need_found (ltb p (length s)) (OutsideSet 0) _ t q e in
      (f.1, number_sized 1 s (length s) p t q f.1, ltb-true p (length s) f.0)

  -- the content's bytes lie three bytes after the tag's place
  bytes_found : (cs : List ℕ) (l : ℕ) → bytes_at s p ≡ found cs l → (p + 3 ≤ l) × (l ≤ length s) × (length cs ≤ l) × (part_of (bytes_at s p) ≡ Ok (p + 3, l - (p + 3)))
  unfolding bytes_at least_of rest
  bytes_found cs l e =
      let i = and_then_found (tag_at s p) _ cs l e in
      let h = counted_holds (least_of 2 (least i.0)) rest s (length s) i.1 cs l i.3 in
      let at : h.at ≡ p + 3 = omega (arith, count_sized 2 s (length s) i.1 h.counts h.at h.told, (tag_found i.0 i.1 i.2).1) in
      let f = found_inj h.inner in
      let m = length-take-le (h.at + h.size - h.at) (drop h.at s) (simp length-drop (omega (arith, h.in_body_lem))) in (
        omega (arith, at, f.1),
        omega (arith, f.1, h.in_body_lem),
        omega (arith, ap length f.0, f.1, m),
        rw i.2 (h.part ∙ rw at (ap (λ b. Ok (p + 3, b)) (let z : h.size ≡ l - (p + 3) = omega (arith, at, f.1) in z))),
      )

  pub content_no : (r : Refusal) → Err r ≡ command_tag s p → Err r ≡ command_content s p
  unfolding command_tag command_content bytes_at
  content_no r e = rw (number_refused (tag_at s p) r e)

  pub content_is : (t q m : ℕ) → Ok (t, q) ≡ command_tag s p → m ≡ least t → part_of ((counted (least_of 2 m) rest).parse s (length s) q) ≡ command_content s p
  unfolding command_tag command_content bytes_at
  content_is t q m e z = rw (number_found (tag_at s p) t q e, z)

  pub content_there : (a n : ℕ) → Ok (a, n) ≡ command_content s p → (cs : List ℕ) × (bytes_at s p ≡ found cs (a + n)) × (a ≡ p + 3)
  unfolding command_content
  content_there a n e =
      let f = part_found (bytes_at s p) a n e (λ xs q g. (bytes_found xs q g).2) in
      let z : ◌≡◌ {A = Result (ℕ × ℕ) Refusal} (Ok (a, n)) (Ok (p + 3, a + n - (p + 3))) = e ∙ (bytes_found f.0 (a + n) f.1).3 in
      (f.0, f.1, (ok_pair_inj z).0)

  pub content_in : (a n : ℕ) → Ok (a, n) ≡ command_content s p → a + n ≤ length s
  content_in a n e =
      let f = content_there a n e in
      (bytes_found f.0 (a + n) f.1).1

  module _ (tag : ℕ) where
    pub place_no : (r : Refusal) → Err r ≡ command_tag s p → Err r ≡ place_read (content_at tag s p)
    unfolding command_tag content_at
    place_no r e = rw (number_refused (tag_at s p) r e)

    module _ (t q : ℕ) (e : Ok (t, q) ≡ command_tag s p) where
      pub place_other : (t ≡ tag → ⊥) → Err (OutsideSet 0) ≡ place_read (content_at tag s p)
      unfolding command_tag content_at
      place_other h = rw (number_found (tag_at s p) t q e, ne_eqb t tag h)

      module _ (same : t ≡ tag) where
        pub place_bad : (r : Refusal) → Err r ≡ command_content s p → Err r ≡ place_read (content_at tag s p)
        unfolding command_tag command_content content_at
        place_bad r f = rw (number_found (tag_at s p) t q e, eq-eqb t tag same, part_refused (bytes_at s p) r f)

        pub place_is : (a n : ℕ) → Ok (a, n) ≡ command_content s p → Ok (a, a + n) ≡ place_read (content_at tag s p)
        unfolding command_tag content_at
        place_is a n f =
            let g = content_there a n f in
            rw (number_found (tag_at s p) t q e, eq-eqb t tag same, g.1) (ap (λ (z : ℕ). Ok (z, a + n)) g.2)

    -- a content found lies in the body
    pub inside : (q l : ℕ) → Ok (q, l) ≡ place_read (content_at tag s p) → (q ≡ p + 3) × (q ≤ l) × (l ≤ length s)
    unfolding content_at
    inside q l e =
        let i = and_then_found (tag_at s p) _ l q (place_found (content_at tag s p) q l e) in
        let n = need_found (eqb i.0 tag) (OutsideSet 0) _ l q i.3 in
        let j = and_then_found (bytes_at s p) _ l q n.1 in
        let f = bytes_found j.0 j.1 j.2 in
        let g = found_inj j.3 in
        (sym g.1, omega (arith, g.0, g.1, f.0), omega (arith, g.0, f.1))

-- ---- three numbers

three_found : (x : Reading (ℕ × (ℕ × ℕ))) (a b c q : ℕ) → Ok (a, b, c, q) ≡ three_of x → x ≡ found (a, (b, c)) q
three_found (found y t) a b c q e =
    let told : ◌≡◌ {A = ℕ × ℕ × ℕ × ℕ} (a, b, c, q) (y.0, y.1.0, y.1.1, t) = ok_inj e in
    let i : y.0 ≡ a = sym (ap (λ (z : ℕ × ℕ × ℕ × ℕ). z.0) told) in
    let j : y.1.0 ≡ b = sym (ap (λ (z : ℕ × ℕ × ℕ × ℕ). z.1) told) in
    let k : y.1.1 ≡ c = sym (ap (λ (z : ℕ × ℕ × ℕ × ℕ). z.2) told) in
    let m : t ≡ q = sym (ap (λ (z : ℕ × ℕ × ℕ × ℕ). z.3) told) in
    rw (← i, ← j, ← k, m)
three_found (refused r) a b c q e = absurd (let z : ◌≡◌ {A = ℕ} 0 1 = cc in omega arith)

three_refused : (x : Reading (ℕ × (ℕ × ℕ))) (r : Refusal) → Err r ≡ three_of x → x ≡ refused r
three_refused (refused t) r e = let a : t ≡ r = cc in ap refused a
three_refused (found y q) r e = absurd (let z : ◌≡◌ {A = ℕ} 0 1 = cc in omega arith)

module _ (s : List ℕ) (l p w : ℕ) where
  pub three_no_first : (r : Refusal) → Err r ≡ number_read w s l p → Err r ≡ three_of ((plain w).parse s l p)
  unfolding followed number_read
  three_no_first r e = rw (number_refused ((count w).parse s l p) r e)

  module _ (x q : ℕ) (e : Ok (x, q) ≡ number_read w s l p) where
    pub three_no_second : (r : Refusal) → Err r ≡ number_read 1 s l q → Err r ≡ three_of ((plain w).parse s l p)
    unfolding followed number_read
    three_no_second r f = rw (number_found ((count w).parse s l p) x q e, number_refused ((count 1).parse s l q) r f)

    module _ (y t : ℕ) (f : Ok (y, t) ≡ number_read 1 s l q) where
      pub three_no_third : (r : Refusal) → Err r ≡ number_read 1 s l t → Err r ≡ three_of ((plain w).parse s l p)
      unfolding followed number_read
      three_no_third r g = rw (number_found ((count w).parse s l p) x q e, number_found ((count 1).parse s l q) y t f, number_refused ((count 1).parse s l t) r g)

      pub three_is : (z end : ℕ) → Ok (z, end) ≡ number_read 1 s l t → Ok (x, y, z, end) ≡ three_of ((plain w).parse s l p)
      unfolding followed number_read
      three_is z end g = rw (number_found ((count w).parse s l p) x q e, number_found ((count 1).parse s l q) y t f, number_found ((count 1).parse s l t) z end g)

-- ---- 1: the clock

module _ (s : List ℕ) (p : ℕ) where
  pub date_no : (r : Refusal) → Err r ≡ place_read (content_at 1 s p) → Err r ≡ clock_date s p
  unfolding clock_date
  date_no r e = rw (place_refused (content_at 1 s p) r e)

  pub clock_no : (r : Refusal) → Err r ≡ place_read (content_at 1 s p) → Err r ≡ clock_time s p
  unfolding clock_time
  clock_no r e = rw (place_refused (content_at 1 s p) r e)

  module _ (q l : ℕ) (e : Ok (q, l) ≡ place_read (content_at 1 s p)) where
    pub date_bad : (r : Refusal) → Err r ≡ three_of ((plain 2).parse s l q) → Err r ≡ clock_date s p
    unfolding clock_date date only
    date_bad r f = rw (place_found (content_at 1 s p) q l e, add-zero q, three_refused ((plain 2).parse s l q) r f)

    module _ (x y z end : ℕ) (f : Ok (x, y, z, end) ≡ three_of ((plain 2).parse s l q)) where
      pub date_impossible : has_day x y z ≡ false → Err (ImpossibleDay q) ≡ clock_date s p
      unfolding clock_date date only
      date_impossible g = rw (place_found (content_at 1 s p) q l e, add-zero q, three_found ((plain 2).parse s l q) x y z end f, day_fault_lem x y z q, g)

      pub date_is : has_day x y z ≡ true → Ok (x, y, z, end) ≡ clock_date s p
      unfolding clock_date date only
      date_is g = rw (place_found (content_at 1 s p) q l e, add-zero q, three_found ((plain 2).parse s l q) x y z end f, day_fault_lem x y z q, g)

    pub clock_bad : (r : Refusal) → Err r ≡ three_of ((plain 1).parse s l (q + 4)) → Err r ≡ clock_time s p
    unfolding clock_time clock only
    clock_bad r f = rw (place_found (content_at 1 s p) q l e, three_refused ((plain 1).parse s l (q + 4)) r f)

    module _ (x y z end : ℕ) (f : Ok (x, y, z, end) ≡ three_of ((plain 1).parse s l (q + 4))) where
      pub clock_impossible : (leb x 23 && (leb y 59 && leb z 59)) ≡ false → Err (ImpossibleDay (q + 4)) ≡ clock_time s p
      unfolding clock_time clock only
      clock_impossible g = rw (place_found (content_at 1 s p) q l e, three_found ((plain 1).parse s l (q + 4)) x y z end f, g)

      pub clock_is : (leb x 23 && (leb y 59 && leb z 59)) ≡ true → Ok (x, y, z, end) ≡ clock_time s p
      unfolding clock_time clock only
      clock_is g = rw (place_found (content_at 1 s p) q l e, three_found ((plain 1).parse s l (q + 4)) x y z end f, g)

-- ---- 2: the code

module _ (s : List ℕ) (p : ℕ) where
  pub code_address_no : (r : Refusal) → Err r ≡ place_read (content_at 2 s p) → Err r ≡ code_address s p
  unfolding code_address
  code_address_no r e = rw (place_refused (content_at 2 s p) r e)

  pub code_address_is : (q l : ℕ) → Ok (q, l) ≡ place_read (content_at 2 s p) → part_read 1 s l q ≡ code_address s p
  unfolding code_address part_read
  code_address_is q l e = rw (place_found (content_at 2 s p) q l e) (ap (λ (t : ℕ). part_of ((opaque 1).parse s l t)) (sym (add-zero q)))

  pub code_no : (r : Refusal) → Err r ≡ place_read (content_at 2 s p) → Err r ≡ place_read (code_at s p)
  unfolding code_at
  code_no r e = rw (place_refused (content_at 2 s p) r e)

  module _ (q l : ℕ) (e : Ok (q, l) ≡ place_read (content_at 2 s p)) where
    pub code_bad : (r : Refusal) → Err r ≡ part_read 1 s l q → Err r ≡ place_read (code_at s p)
    unfolding code_at
    code_bad r f = rw (place_found (content_at 2 s p) q l e, readers.part_refused s l q 1 r f)

    pub code_is : (a n : ℕ) → Ok (a, n) ≡ part_read 1 s l q → Ok (a + n, l) ≡ place_read (code_at s p)
    unfolding code_at
    code_is a n f = rw (place_found (content_at 2 s p) q l e, (readers.part_found s l q 1 a n f).1)

-- ---- 4: the return address

module _ (s : List ℕ) (b : Bytes s) (l p kind : ℕ) where
  pub address_no : (r : Refusal) → Err r ≡ part_read 1 s l p → Err r ≡ part_of ((address kind).parse s l p)
  unfolding address part_read counted length_of address_length rest
  address_no r e = go ((count 1).parse s l p) e
    where
      go : (x : Reading ℕ) → Err r ≡ part_of (and_then x (λ n q. within s l p (q + n % 256 ^ 1) (found (take (q + n % 256 ^ 1 - q) (drop q s)) (q + n % 256 ^ 1))))
          → Err r ≡ part_of (and_then x (λ n q. within s l p (q + n % 256) (judged (unless (length_fits kind n) (PastPart p)) ((only (address_fault kind) rest).parse s (q + n % 256) q))))
      go (refused t) f = f
      go (found n q) f = passed (leb (q + n % 256) (length s)) (leb (q + n % 256) l) f
        where
          passed : (t u : Bool) → Err r ≡ part_of (need t (PastBody p) (need u (PastPart p) (found (take (q + n % 256 - q) (drop q s)) (q + n % 256))))
              → Err r ≡ part_of (need t (PastBody p) (need u (PastPart p) (judged (unless (length_fits kind n) (PastPart p)) ((only (address_fault kind) rest).parse s (q + n % 256) q))))
          passed true true g = absurd (let z : ◌≡◌ {A = ℕ} 0 1 = cc in omega arith)
          passed true false g = g
          passed false u g = g

  module _ (a n : ℕ) (e : Ok (a, n) ≡ part_read 1 s l p) where
    -- the length counts the bytes
    length_there : ((count 1).parse s l p ≡ found n a) × (n < 256) × (a + n ≤ length s) × (a + n ≤ l)
    unfolding counted length_of rest
    length_there =
        let f = readers.part_found s l p 1 a n e in
        let i = and_then_found ((count 1).parse s l p) _ f.0 (a + n) f.1 in
        let m = i.0 % 256 ^ 1 in
        let g = within_found s l p (i.1 + m) _ f.0 (a + n) i.3 in
        let h = found_inj g.2 in
        let k = length-take-le (i.1 + m - i.1) (drop i.1 s) (simp length-drop (omega (arith, g.0))) in
        let low = (number_facts s l p 1 i.0 i.1 b (unfold number_read in ap number_of (sym i.2))).2 in
        let same : m ≡ i.0 = mod-eq_of_lt low in
        let v : i.0 ≡ n = omega (arith, ap length h.0, f.2, k, same) in
        let u : i.1 ≡ a = omega (arith, h.1, v, same) in
        (i.2 ∙ ap₂ found v u, rw (← v) low, omega (arith, g.0, h.1), omega (arith, g.1, h.1))

    filled : (address kind).parse s l p ≡ judged (unless (length_fits kind n) (PastPart p)) (judged (address_fault kind (take n (drop a s)) a) (found (take n (drop a s)) (a + n)))
    unfolding address counted address_length only rest
    filled =
        let t = length_there in
        rw (t.0, mod-eq_of_lt t.1, le-leb (a + n) (length s) t.2, le-leb (a + n) l t.3, add-sub_cancel_left a n)

    long : length (take n (drop a s)) ≡ n
    long = length-take-le n (drop a s) (simp length-drop (omega (arith, length_there.2)))

    pub address_length_lem : length_fits kind n ≡ false → Err (PastPart p) ≡ part_of ((address kind).parse s l p)
    address_length_lem f = rw (filled, f)

    module _ (fits : length_fits kind n ≡ true) where
      pub address_bad : is_address kind (take n (drop a s)) ≡ false → Err (OutsideSet a) ≡ part_of ((address kind).parse s l p)
      address_bad f = rw (filled, fits, long, fits, f)

      pub address_is : is_address kind (take n (drop a s)) ≡ true → Ok (a, n) ≡ part_of ((address kind).parse s l p)
      address_is f = rw (filled, fits, long, fits, f, long, add-sub_cancel a n)

-- an address found is the bytes of its part
pub address_fills : (s : List ℕ) (l p kind : ℕ) (cs : List ℕ) (end : ℕ) → (address kind).parse s l p ≡ found cs end → PartHolds rest s (part_of (found cs end)) cs end
unfolding address rest
address_fills s l p kind cs end e =
    let h = counted_holds (address_length kind) (only (address_fault kind) rest) s l p cs end e in
    let r = only_found (address_fault kind) rest s (h.at + h.size) h.at cs end h.inner in
    let f = found_inj r in
    let k = length-take-le (h.at + h.size - h.at) (drop h.at s) (simp length-drop (omega (arith, h.in_body_lem))) in
    let n : length cs ≡ h.size = omega (arith, ap length f.0, k) in
    let a : end - length cs ≡ h.at = omega (arith, f.1, n) in
    record {
      at = h.at;
      size = h.size;
      is = ap₂ (λ (x y : ℕ). Ok (x, y)) a n;
      ends = f.1;
      in_body_lem = rw (← f.1) h.in_body_lem;
      inner = subst (λ (t : ℕ). rest.parse s t h.at ≡ found cs end) f.1 r;
    }

module _ (s : List ℕ) (l q : ℕ) where
  pub kind_no : (r : Refusal) → Err r ≡ number_of ((among 1 3 (number 1)).parse s l q) → Err r ≡ part_of (address_in s l q)
  unfolding address_in
  kind_no r e = rw (number_refused ((among 1 3 (number 1)).parse s l q) r e)

  pub kind_is : (kind p : ℕ) → Ok (kind, p) ≡ number_of ((among 1 3 (number 1)).parse s l q) → part_of ((address kind).parse s l p) ≡ part_of (address_in s l q)
  unfolding address_in
  kind_is kind p e = rw (number_found ((among 1 3 (number 1)).parse s l q) kind p e)

  address_ends : (cs : List ℕ) (r : ℕ) → address_in s l q ≡ found cs r → (length cs ≤ r) × (r ≤ length s)
  unfolding address_in
  address_ends cs r e =
      let i = and_then_found ((among 1 3 (number 1)).parse s l q) _ cs r e in
      let g = address_fills s l i.1 i.0 cs r i.3 in
      let z : ◌≡◌ {A = Result (ℕ × ℕ) Refusal} (Ok (r - length cs, length cs)) (Ok (g.at, g.size)) = g.is in
      let n = (ok_pair_inj z).1 in
      (omega (arith, g.ends, n), g.in_body_lem)

  -- ---- the terminals after it

  pub after_address_no : (r : Refusal) → Err r ≡ part_of (address_in s l q) → Err r ≡ place_read (terminals_in 4 s l q)
  unfolding terminals_in
  after_address_no r e = rw (part_refused (address_in s l q) r e)

  module _ (a n : ℕ) (e : Ok (a, n) ≡ part_of (address_in s l q)) where
    address_there : (cs : List ℕ) × (address_in s l q ≡ found cs (a + n))
    address_there = part_found (address_in s l q) a n e (λ cs r f. (address_ends cs r f).0)

    pub after_address_in : a + n ≤ length s
    after_address_in = let f = address_there in (address_ends f.0 (a + n) f.1).1

    pub after_address : Ok (a + n, l) ≡ place_read (terminals_in 4 s l q)
    unfolding terminals_in
    after_address = rw address_there.1

  pub after_parameters_no : (r : Refusal) → Err r ≡ number_read 1 s l q → Err r ≡ place_read (terminals_in 7 s l q)
  unfolding terminals_in number_read
  after_parameters_no r e = rw (number_refused ((count 1).parse s l q) r e)

  pub after_parameters : (n at : ℕ) → Ok (n, at) ≡ number_read 1 s l q → Ok (at + n, l) ≡ place_read (terminals_in 7 s l q)
  unfolding terminals_in number_read
  after_parameters n at e = rw (number_found ((count 1).parse s l q) n at e)

  -- ---- after fields of a fixed size

  pub after_mapping : (tag : ℕ) → tag ≡ 3 → Ok (q + 9, l) ≡ place_read (terminals_in tag s l q)
  unfolding terminals_in
  after_mapping tag e = rw e

  pub after_period : (tag : ℕ) → tag ≡ 5 → Ok (q + 4, l) ≡ place_read (terminals_in tag s l q)
  unfolding terminals_in
  after_period tag e = rw e

  pub after_volume : (tag : ℕ) → tag ≡ 6 → Ok (q + 1, l) ≡ place_read (terminals_in tag s l q)
  unfolding terminals_in
  after_volume tag e = rw e

-- ---- lists

module _ (s : List ℕ) (l q w i : ℕ) where
  pub list_none_told : (r : Refusal) → Err r ≡ number_read 1 s l q → Err r ≡ place_read (list_at w i s l q)
  unfolding list_at number_read
  list_none_told r e = rw (number_refused ((count 1).parse s l q) r e)

  module _ (n at : ℕ) (e : Ok (n, at) ≡ number_read 1 s l q) where
    pub list_past : n ≤ i → Err (OutsideSet 0) ≡ place_read (list_at w i s l q)
    unfolding list_at number_read
    list_past h = rw (number_found ((count 1).parse s l q) n at e, le-ltb i n h)

    pub list_is : i < n → Ok (at + w * i, l) ≡ place_read (list_at w i s l q)
    unfolding list_at number_read
    list_is h = rw (number_found ((count 1).parse s l q) n at e, lt-ltb i n h)

    -- and no sum is too large
    pub list_small : Bytes s → w ≤ resource_bytes → i < n → (w * i ≤ resource_bytes * 255) × (at ≤ length s)
    list_small b h k =
        let f = number_facts s l q 1 n at b e in
        let most : i ≤ 255 = omega (arith, f.2) in
        (mul-le-mul h most, f.0)

module _ (s : List ℕ) (p : ℕ) where
  pub return_no : (r : Refusal) → Err r ≡ place_read (content_at 4 s p) → Err r ≡ return_address s p
  unfolding return_address
  return_no r e = rw (place_refused (content_at 4 s p) r e)

  pub return_is : (q l : ℕ) → Ok (q, l) ≡ place_read (content_at 4 s p) → part_of (address_in s l q) ≡ return_address s p
  unfolding return_address
  return_is q l e = rw (place_found (content_at 4 s p) q l e)

-- ---- 7: the parameters

module _ (s : List ℕ) (p i : ℕ) where
  pub parameters_no : (r : Refusal) → Err r ≡ place_read (content_at 7 s p) → Err r ≡ place_read (parameter_at s p i)
  unfolding parameter_at
  parameters_no r e = rw (place_refused (content_at 7 s p) r e)

  pub parameters_is : (q l : ℕ) → Ok (q, l) ≡ place_read (content_at 7 s p) → place_read (list_at 1 i s l q) ≡ place_read (parameter_at s p i)
  unfolding parameter_at
  parameters_is q l e = rw (place_found (content_at 7 s p) q l e)

  pub parameter_no : (r : Refusal) → Err r ≡ place_read (parameter_at s p i) → Err r ≡ parameter s p i
  unfolding parameter
  parameter_no r e = rw (place_refused (parameter_at s p i) r e)

  pub parameter_is : Bytes s → (q l : ℕ) → Ok (q, l) ≡ place_read (parameter_at s p i) → number_read 1 s l q ≡ parameter s p i
  unfolding parameter
  parameter_is b q l e = number_is_count 1 s l q b ∙ rw (place_found (parameter_at s p i) q l e)

-- ---- where the terminals begin

module _ (s : List ℕ) (p : ℕ) where
  pub terminals_no : (r : Refusal) → Err r ≡ command_tag s p → Err r ≡ place_read (terminals_at s p)
  unfolding command_tag terminals_at
  terminals_no r e = rw (number_refused (tag_at s p) r e)

  module _ (tag t : ℕ) (e : Ok (tag, t) ≡ command_tag s p) where
    pub terminals_low : tag < 3 → Err (OutsideSet 0) ≡ place_read (terminals_at s p)
    unfolding command_tag terminals_at
    terminals_low h = rw (number_found (tag_at s p) tag t e, lt-leb 3 tag h)

    module _ (h : 3 ≤ tag) where
      pub terminals_high : 7 < tag → Err (OutsideSet 0) ≡ place_read (terminals_at s p)
      unfolding command_tag terminals_at
      terminals_high k = rw (number_found (tag_at s p) tag t e, le-leb 3 tag h, lt-leb tag 7 k)

      module _ (k : tag ≤ 7) where
        pub terminals_bad : (r : Refusal) → Err r ≡ place_read (content_at tag s p) → Err r ≡ place_read (terminals_at s p)
        unfolding command_tag terminals_at
        terminals_bad r f = rw (number_found (tag_at s p) tag t e, le-leb 3 tag h, le-leb tag 7 k, place_refused (content_at tag s p) r f)

        pub terminals_is : (q l : ℕ) → Ok (q, l) ≡ place_read (content_at tag s p) → place_read (terminals_in tag s l q) ≡ place_read (terminals_at s p)
        unfolding command_tag terminals_at
        terminals_is q l f = rw (number_found (tag_at s p) tag t e, le-leb 3 tag h, le-leb tag 7 k, place_found (content_at tag s p) q l f)

  pub terminal_count_no : (r : Refusal) → Err r ≡ place_read (terminals_at s p) → Err r ≡ terminal_count s p
  unfolding terminal_count
  terminal_count_no r e = rw (place_refused (terminals_at s p) r e)

  pub terminal_count_is : (q l : ℕ) → Ok (q, l) ≡ place_read (terminals_at s p) → number_read 1 s l q ≡ terminal_count s p
  unfolding terminal_count number_read
  terminal_count_is q l e = rw (place_found (terminals_at s p) q l e)

  pub terminal_no : (i : ℕ) (r : Refusal) → Err r ≡ place_read (terminals_at s p) → Err r ≡ place_read (terminal_at s p i)
  unfolding terminal_at
  terminal_no i r e = rw (place_refused (terminals_at s p) r e)

  pub terminal_is : (i q l : ℕ) → Ok (q, l) ≡ place_read (terminals_at s p) → place_read (list_at resource_bytes i s l q) ≡ place_read (terminal_at s p i)
  unfolding terminal_at
  terminal_is i q l e = rw (place_found (terminals_at s p) q l e)
