-- What the fields asked for answer, a law for each way through.
use Prim.Native.Nat.{ℕ, ◌+◌, ◌-◌, ◌*◌, ◌/◌, ◌%◌, ◌≤◌, ◌<◌}
use Rattle.std.specs.Prelude.{Ok, Err}
use mathlib.Core.Path.{◌≡◌, refl, sym, ap, ap₂, ◌∙◌}
use mathlib.Core.List.{List}
use mathlib.Core.Bool.{Bool, true, false, ◌&&◌}
use native.Mathlib.Omega.{arith}
use native.Mathlib.Nat.{add-zero, zero-add, div-add-mod'}
use lib.ListN.{length, get_or, drop, length-drop}
use lib.Seq.{length-take-le}
use lib.Dec.{ltb, leb}
use borrow.Author.Tests.{lt-ltb, le-ltb}
use Rattle.ground_refusal.specs.declared.Refusal.{Refusal}
use Rattle.ground_refusal.specs.declared.Refusal.TheVariants.{OutsideSet, PastBody, PastPart}
use Rattle.body_formats.specs.Reading.{Reading, found, refused, and_then, need, unless, judged}
use Rattle.body_formats.specs.Format.{Format, number_at, count, only, nibbles, nibbles_among, reserved, list_of, opaque, rest, length12, counted}
use Rattle.body_formats.specs.Answers.{number_of, field_part, ended, part_read, digit_read}
use Rattle.body_formats.proofs.Outcomes.{found_inj, and_then_found, need_found, judged_found, within_found}
use Rattle.body_formats.proofs.Classes.{Bytes}
use Rattle.body_formats.proofs.Leaves.{number_below}
use Rattle.body_formats.proofs.Bits.{reserved_inside}
use Rattle.body_formats.proofs.Readers.{number_found, number_refused, step_found, step_refused}
use Rattle.body_formats.specs.Resource.{resource_bytes, resource}
use Rattle.body_formats.specs.Identifier.{identifier}
use Rattle.body_extension.specs.Extension.{extension_at}
use Rattle.body_asking.specs.Asking.{field_in}
use Rattle.body_asking.proofs.Answers.{number_in, found_in, part_refused, part_found}
use Rattle.body_asking.proofs.Parts.{counted_holds}
use Rattle.index.specs.Places.{network_place, class_place, resource_count_place, resources_place, channel_descriptors_place}
use Rattle.index_fields.specs.Asked.{signature_part, identifier_digit, extension, network, class, level, resource_count, resource_at, resource_part, resource_digit, flag_at, flag, channel_at, in_channel, descriptors_part, streams_part}

-- ---- tests

pub and_second : (t u : Bool) → t ≡ true → u ≡ (t && u)
and_second t u e = rw e

pub and_none : (t u : Bool) → t ≡ false → false ≡ (t && u)
and_none t u e = rw e

-- ---- the table

module _ (s : List ℕ) where
  pub signature_no : (r : Refusal) → Err r ≡ ended (list_of (count 1) (opaque 2)) s (length s) 0 → Err r ≡ signature_part s
  unfolding signature_part
  signature_no r e = rw (step_refused (list_of (count 1) (opaque 2)) s (length s) 0 r e)

  pub signature_is : (q : ℕ) → Ok q ≡ ended (list_of (count 1) (opaque 2)) s (length s) 0 → part_read 2 s (length s) q ≡ signature_part s
  unfolding signature_part part_read
  signature_is q e = rw (step_found (list_of (count 1) (opaque 2)) s (length s) 0 q e).1

-- ---- the byte of class and level

one_byte : (s : List ℕ) (p : ℕ) → number_at s p 1 ≡ get_or s p 0
unfolding number_at
one_byte s p = rw (add-zero, zero-add)

-- two numbers of four bits, from 1 to 4, are those of their byte
abbrev halves_good : ℕ → Bool
halves_good b = (leb 1 (b / 16) && leb (b / 16) 4) && (leb 1 (b % 16) && leb (b % 16) 4)

abbrev split : ℕ → ℕ → ℕ → Reading (ℕ × ℕ)
split p b q = judged (unless (halves_good b) (OutsideSet p)) (found (b / 16, b % 16) q)

split_byte : (s : List ℕ) (l p : ℕ) → (nibbles_among 1 4).parse s l p ≡ and_then ((count 1).parse s l p) (split p)
unfolding only nibbles count
split_byte s l p = rw (one_byte s p) (go (leb (p + 1) (length s)) (leb (p + 1) l))
  where
    b : ℕ
    b = get_or s p 0

    go : (t u : Bool)
        → and_then (need t (PastBody p) (need u (PastPart p) (let z : ℕ × ℕ = (b / 16, b % 16) in found z (p + 1)))) (λ x q. judged (unless ((leb 1 x.0 && leb x.0 4) && (leb 1 x.1 && leb x.1 4)) (OutsideSet p)) (found x q))
        ≡ and_then (need t (PastBody p) (need u (PastPart p) (found b (p + 1)))) (split p)
    go true true = refl
    go true false = refl
    go false u = refl

module _ (s : List ℕ) (at n : ℕ) where
  pub network_is : Bytes s → number_of (field_in (count 2) network_place s at n) ≡ network s at n
  unfolding network
  network_is b = number_in s at n 2 network_place b

  pub extension_no : leb (at + n) (length s) ≡ false → Err (OutsideSet 0) ≡ extension s at n
  unfolding extension
  extension_no e = rw e

  pub extension_is : leb (at + n) (length s) ≡ true → extension_at s (at + n) at ≡ extension s at n
  unfolding extension
  extension_is e = rw e

  pub identifier_digit_no : (i : ℕ) → leb (at + n) (length s) ≡ false → Err (OutsideSet 0) ≡ identifier_digit s at n i
  unfolding identifier_digit
  identifier_digit_no i e = rw e

  pub identifier_digit_is : (i : ℕ) → leb (at + n) (length s) ≡ true → digit_read identifier i s (at + n) at ≡ identifier_digit s at n i
  unfolding identifier_digit
  identifier_digit_is i e = rw e

  split_in : field_in (nibbles_among 1 4) class_place s at n ≡ and_then (field_in (count 1) class_place s at n) (split (at + class_place))
  split_in = rw (split_byte s (at + n) (at + class_place)) (go (leb (at + n) (length s)))
    where
      go : (t : Bool) → need t (OutsideSet 0) (and_then ((count 1).parse s (at + n) (at + class_place)) (split (at + class_place)))
          ≡ and_then (need t (OutsideSet 0) ((count 1).parse s (at + n) (at + class_place))) (split (at + class_place))
      go true = refl
      go false = refl

  abbrev shared : Reading ℕ
  shared = and_then (field_in (nibbles_among 1 4) class_place s at n) (λ x q. found (x.0 * 16 + x.1) q)

  pub shared_no : (r : Refusal) → Err r ≡ number_of (field_in (count 1) class_place s at n) → Err r ≡ number_of shared
  shared_no r e = rw (split_in, number_refused (field_in (count 1) class_place s at n) r e)

  module _ (b q : ℕ) (e : Ok (b, q) ≡ number_of (field_in (count 1) class_place s at n)) where
    pub shared_in : at + n ≤ length s
    shared_in = (found_in s at n (count 1) class_place b q (number_found (field_in (count 1) class_place s at n) b q e)).0

    pub shared_is : halves_good b ≡ true → Ok (b, q) ≡ number_of shared
    shared_is h = rw (split_in, number_found (field_in (count 1) class_place s at n) b q e, h, div-add-mod' b 16)

    pub shared_bad : halves_good b ≡ false → Err (OutsideSet (at + class_place)) ≡ number_of shared
    shared_bad h = rw (split_in, number_found (field_in (count 1) class_place s at n) b q e, h)

  -- both are answered, from the byte, or neither is
  module _ (r : Refusal) (e : Err r ≡ number_of shared) where
    none : field_in (nibbles_among 1 4) class_place s at n ≡ refused r
    none = go (field_in (nibbles_among 1 4) class_place s at n) e
      where
        go : (y : Reading (ℕ × ℕ)) → Err r ≡ number_of (and_then y (λ x q. found (x.0 * 16 + x.1) q)) → y ≡ refused r
        go (refused t) f = let z : t ≡ r = cc in ap refused z
        go (found x q) f = absurd (let z : ◌≡◌ {A = ℕ} 0 1 = cc in omega arith)

    pub class_no : Err r ≡ class s at n
    unfolding class
    class_no = rw none

    pub level_no : Err r ≡ level s at n
    unfolding level
    level_no = rw none

  module _ (b q : ℕ) (e : Ok (b, q) ≡ number_of shared) where
    halved : field_in (nibbles_among 1 4) class_place s at n ≡ found (b / 16, b % 16) q
    halved =
        let i = and_then_found (field_in (nibbles_among 1 4) class_place s at n) _ b q (number_found shared b q e) in
        let j = and_then_found (field_in (count 1) class_place s at n) (split (at + class_place)) i.0 i.1 (sym split_in ∙ i.2) in
        let y = j.0 in
        let k = found_inj (judged_found (unless (halves_good y) (OutsideSet (at + class_place))) (found (y / 16, y % 16) j.1) i.0 i.1 j.3).1 in
        let same : y ≡ b = sym (div-add-mod' y 16) ∙ ap (λ (x : ℕ × ℕ). x.0 * 16 + x.1) k.0 ∙ (found_inj i.3).0 in
        i.2 ∙ ap₂ found (sym k.0 ∙ ap (λ (z : ℕ). (z / 16, z % 16)) same) (found_inj i.3).1

    pub class_is : Ok (b / 16, q) ≡ class s at n
    unfolding class
    class_is = rw halved

    pub level_is : Ok (b % 16, q) ≡ level s at n
    unfolding level
    level_is = rw halved

  -- ---- resources

  module _ (r : Refusal) (e : Err r ≡ resource_count s at n) where
    pub resource_no : (i : ℕ) → Err r ≡ number_of (resource_at s at n i)
    unfolding resource_count resource_at
    resource_no i = rw (number_refused (field_in (count 1) resource_count_place s at n) r e)

    pub flag_no : Err r ≡ flag s at n
    unfolding resource_count flag flag_at
    flag_no = rw (number_refused (field_in (count 1) resource_count_place s at n) r e)

  module _ (m q : ℕ) (e : Ok (m, q) ≡ resource_count s at n) where
    counted_there : field_in (count 1) resource_count_place s at n ≡ found m q
    unfolding resource_count
    counted_there = number_found (field_in (count 1) resource_count_place s at n) m q e

    pub resources_in : Bytes s → (at + n ≤ length s) × (q ≤ length s) × (m < 256)
    unfolding count
    resources_in b =
        let f = found_in s at n (count 1) resource_count_place m q counted_there in
        let w = within_found s (at + n) (at + resource_count_place) (at + resource_count_place + 1) _ m q f.1 in
        let i = found_inj w.2 in
        (f.0, rw (← i.1) w.0, rw (← i.0) (number_below s (at + resource_count_place) 1 b))

    pub resource_none : (i : ℕ) → m ≤ i → Err (OutsideSet 0) ≡ number_of (resource_at s at n i)
    unfolding resource_at
    resource_none i h = rw (counted_there, le-ltb i m h)

    pub resource_is : (i : ℕ) → i < m → Ok (m, q + resource_bytes * i) ≡ number_of (resource_at s at n i)
    unfolding resource_at
    resource_is i h = rw (counted_there, lt-ltb i m h)

    pub flag_is : number_of ((reserved 7 0).parse s (at + n) (q + resource_bytes * m)) ≡ flag s at n
    unfolding flag flag_at
    flag_is = rw counted_there

  module _ (i : ℕ) (r : Refusal) (e : Err r ≡ number_of (resource_at s at n i)) where
    pub resource_part_no : Err r ≡ resource_part s at n i
    unfolding resource_part
    resource_part_no = rw (number_refused (resource_at s at n i) r e)

    pub resource_digit_no : (j : ℕ) → Err r ≡ resource_digit s at n i j
    unfolding resource_digit
    resource_digit_no j = rw (number_refused (resource_at s at n i) r e)

  module _ (i m p : ℕ) (e : Ok (m, p) ≡ number_of (resource_at s at n i)) where
    resource_there : (at + n ≤ length s) × (p ≡ at + resources_place + resource_bytes * i)
    unfolding resource_at count
    resource_there =
        let f = and_then_found (field_in (count 1) resource_count_place s at n) _ m p (number_found (resource_at s at n i) m p e) in
        let g = found_in s at n (count 1) resource_count_place f.0 f.1 f.2 in
        let w = within_found s (at + n) (at + resource_count_place) (at + resource_count_place + 1) _ f.0 f.1 g.1 in
        let t = need_found (ltb i f.0) (OutsideSet 0) _ m p f.3 in
        (g.0, omega (arith, (found_inj w.2).1, (found_inj t.1).1))

    pub resource_in : at + n ≤ length s
    resource_in = resource_there.0

    pub resource_part_lem : field_part p (resource.parse s (at + n) p) ≡ resource_part s at n i
    unfolding resource_part
    resource_part_lem = rw (number_found (resource_at s at n i) m p e, resource_there.1)

    pub resource_digit_lem : (j : ℕ) → digit_read resource j s (at + n) p ≡ resource_digit s at n i j
    unfolding resource_digit
    resource_digit_lem j = rw (number_found (resource_at s at n i) m p e)

  -- ---- the channel

  pub channel_no : (r : Refusal) → Err r ≡ flag s at n → Err r ≡ number_of (channel_at s at n)
  unfolding flag channel_at
  channel_no r e = rw (number_refused (flag_at s at n) r e)

  module _ (f q : ℕ) (e : Ok (f, q) ≡ flag s at n) where
    pub channel_none : f ≤ 0 → Err (OutsideSet 0) ≡ number_of (channel_at s at n)
    unfolding flag channel_at
    channel_none h = rw (number_found (flag_at s at n) f q e, le-ltb 0 f h)

    pub channel_is : 0 < f → Ok (f, q) ≡ number_of (channel_at s at n)
    unfolding flag channel_at
    channel_is h = rw (number_found (flag_at s at n) f q e, lt-ltb 0 f h)

  pub in_channel_no : {A : Type 0} (F : Format A) (k : ℕ) (r : Refusal) → Err r ≡ number_of (channel_at s at n) → refused r ≡ in_channel F k s at n
  in_channel_no F k r e = rw (number_refused (channel_at s at n) r e)

  module _ (f q : ℕ) (e : Ok (f, q) ≡ number_of (channel_at s at n)) where
    pub in_channel_lem : {A : Type 0} (F : Format A) (k : ℕ) → F.parse s (at + n) (q + k) ≡ in_channel F k s at n
    in_channel_lem F k = rw (number_found (channel_at s at n) f q e)

    pub channel_in : (at + n ≤ length s) × (q ≤ length s)
    unfolding channel_at flag_at
    channel_in =
        let i = and_then_found (flag_at s at n) _ f q (number_found (channel_at s at n) f q e) in
        let j = need_found (ltb 0 i.0) (OutsideSet 0) _ f q i.3 in
        let g = and_then_found (field_in (count 1) resource_count_place s at n) _ i.0 i.1 i.2 in
        let h = reserved_inside s (at + n) (g.1 + resource_bytes * g.0) 7 0 i.0 i.1 (ap number_of (sym g.3)) in
        ((found_in s at n (count 1) resource_count_place g.0 g.1 g.2).0, omega (arith, h, (found_inj j.1).1))

-- ---- streams

module _ (s : List ℕ) (at n : ℕ) where
  pub streams_no : (r : Refusal) → Err r ≡ descriptors_part s at n → Err r ≡ streams_part s at n
  unfolding descriptors_part streams_part
  streams_no r e = rw (part_refused (in_channel (counted length12 rest) channel_descriptors_place s at n) r e)

  descriptors_found : (xs : List ℕ) (q : ℕ) → in_channel (counted length12 rest) channel_descriptors_place s at n ≡ found xs q → (length xs ≤ q) × (q ≤ length s) × (at + n ≤ length s)
  unfolding rest
  descriptors_found xs q e =
      let i = and_then_found (channel_at s at n) _ xs q e in
      let h = counted_holds length12 rest s (at + n) (i.1 + 8) xs q i.3 in
      let f = found_inj h.inner in
      let m = length-take-le (h.at + h.size - h.at) (drop h.at s) (simp length-drop (omega (arith, h.in_body_lem))) in
      (omega (arith, ap length f.0, f.1, m), omega (arith, f.1, h.in_body_lem), (channel_in s at n i.0 i.1 (ap number_of (sym i.2))).0)

  module _ (a m : ℕ) (e : Ok (a, m) ≡ descriptors_part s at n) where
    there : (xs : List ℕ) × (in_channel (counted length12 rest) channel_descriptors_place s at n ≡ found xs (a + m))
    unfolding descriptors_part
    there = part_found (in_channel (counted length12 rest) channel_descriptors_place s at n) a m e (λ xs q f. (descriptors_found xs q f).0)

    pub streams_in : (at + n ≤ length s) × (a + m ≤ length s)
    streams_in =
        let f = descriptors_found there.0 (a + m) there.1 in
        (f.2, f.1)

    pub streams_is : part_read 2 s (at + n) (a + m) ≡ streams_part s at n
    unfolding streams_part part_read
    streams_is = rw there.1
