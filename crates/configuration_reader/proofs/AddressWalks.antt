-- Laws of return addresses: what the bytes after a length are as an address of a kind.
use Prim.Native.Nat.{ℕ, ◌+◌, ◌-◌, ◌%◌, ◌≤◌}
use Rattle.std.specs.Prelude.{Result, Ok, Err}
use mathlib.Core.Path.{◌≡◌, refl, sym, ap, ap₂, ◌∙◌, subst}
use mathlib.Core.List.{List}
use mathlib.Core.Bool.{Bool, true, false}
use native.Mathlib.Omega.{arith}
use native.Mathlib.Nat.{add-sub_cancel_left, mod-eq_of_lt}
use lib.ListN.{length, take, drop, length-drop}
use lib.Seq.{length-take-le}
use borrow.Author.Tests.{le-leb}
use Rattle.ground_refusal.specs.declared.Refusal.{Refusal}
use Rattle.ground_refusal.proofs.Exits.{ok_pair_inj}
use Rattle.ground_refusal.specs.declared.Refusal.TheVariants.{PastPart, OutsideSet}
use Rattle.body_formats.specs.Reading.{Reading, found, refused, and_then, unless, judged, within}
use Rattle.body_formats.specs.Format.{count, only, rest, length_of, counted, opaque}
use Rattle.body_formats.specs.Answers.{number_of, number_read, part_read}
use Rattle.body_formats.proofs.Outcomes.{found_inj, and_then_found, within_found}
use Rattle.body_formats.proofs.Classes.{Bytes}
use Rattle.body_formats.proofs.Bits.{within_refused}
use Rattle.body_formats.proofs.Readers.{number_facts, opaque_found, part_found, part_refused}
use Rattle.body_walk.specs.Walked.{Walked}
use Rattle.body_walk.proofs.Pairs.{renamed}
use Rattle.configuration_addresses.specs.Address.{length_fits, is_address}
use Rattle.configuration.specs.Configuration.{address_fault, address_length, address}

-- a part of n bytes at a stands after the number n
part_at : (s : List ℕ) (l p a n : ℕ) → Bytes s → Ok (a, n) ≡ part_read 1 s l p
    → ((count 1).parse s l p ≡ found n a) × (n % 256 ≡ n) × (a + n ≤ length s) × (a + n ≤ l)
unfolding counted length_of rest number_read
part_at s l p a n b e =
    let f = part_found s l p 1 a n e in
    let i = and_then_found ((count 1).parse s l p) _ f.0 (a + n) f.1 in
    let m = i.0 in
    let q = i.1 in
    let g = within_found s l p (q + m % 256) _ f.0 (a + n) i.3 in
    let h = found_inj g.2 in
    let low : m % 256 ≡ m = mod-eq_of_lt (number_facts s l p 1 m q b (ap number_of (sym i.2))).2 in
    let long = length-take-le (q + m % 256 - q) (drop q s) (simp length-drop (omega (arith, g.0))) in
    let many : m ≡ n = omega (arith, low, long, ap length h.0, f.2) in
    let start : q ≡ a = omega (arith, low, h.1) in
    (i.2 ∙ ap (λ k. found k q) many ∙ ap (found n) start, omega (arith, low), omega (arith, low, g.0), omega (arith, low, g.1))

module _ (kind : ℕ) (s : List ℕ) (l p : ℕ) where
  pub address_no : (r : Refusal) → Err r ≡ part_read 1 s l p → (address kind).parse s l p ≡ refused r
  unfolding address counted address_length length_of rest
  address_no r e = go ((count 1).parse s l p) (part_refused s l p 1 r e)
    where
      go : (y : Reading ℕ) → and_then y (λ n q. within s l p (q + n % 256) (rest.parse s (q + n % 256) q)) ≡ refused r
          → and_then y (λ n q. within s l p (q + n % 256) (judged (unless (length_fits kind n) (PastPart p)) ((only (address_fault kind) rest).parse s (q + n % 256) q))) ≡ refused r
      go (refused t) f = f
      go (found n q) f = within_refused s l p (q + n % 256) _ _ r _ f

  module _ (b : Bytes s) (a n : ℕ) (e : Ok (a, n) ≡ part_read 1 s l p) where
    address_judged : (address kind).parse s l p
        ≡ judged (unless (length_fits kind n) (PastPart p)) (judged (address_fault kind (take n (drop a s)) a) (found (take n (drop a s)) (a + n)))
    unfolding address counted address_length only rest
    address_judged =
        let f = part_at s l p a n b e in
        rw (f.0, f.1, le-leb (a + n) (length s) f.2, le-leb (a + n) l f.3, add-sub_cancel_left a n)

    long : length (take n (drop a s)) ≡ n
    long = length-take-le n (drop a s) (simp length-drop (omega (arith, (part_at s l p a n b e).2)))

    pub length_wrong : length_fits kind n ≡ false → (address kind).parse s l p ≡ refused (PastPart p)
    length_wrong h = address_judged ∙ rw h

    module _ (fits : length_fits kind n ≡ true) where
      pub address_wrong : is_address kind (take n (drop a s)) ≡ false → (address kind).parse s l p ≡ refused (OutsideSet a)
      address_wrong h = address_judged ∙ rw (long, fits, h)

      address_found : is_address kind (take n (drop a s)) ≡ true → (address kind).parse s l p ≡ found (take n (drop a s)) (a + n)
      address_found h = address_judged ∙ rw (long, fits, h)

      address_same : is_address kind (take n (drop a s)) ≡ true → (address kind).parse s l p ≡ and_then ((opaque 1).parse s l p) (λ cs q. found cs q)
      address_same h =
          let f = part_found s l p 1 a n e in
          let g = opaque_found s l p 1 f.0 (a + n) f.1 in
          let start : a + n - length f.0 ≡ a = omega (arith, f.2) in
          let bytes : take n (drop a s) ≡ f.0 = sym (ap₂ (λ m i. take m (drop i s)) f.2 start) ∙ g.3 in
          address_found h ∙ ap (λ cs. found cs (a + n)) bytes ∙ sym (ap (λ y. and_then y (λ cs q. found cs q)) f.1)

      -- an address is walked as the opaque bytes that it is
      pub address_walk : is_address kind (take n (drop a s)) ≡ true → {room : ℕ} {wet : Bool} {t : List ℕ} {r : Result (ℕ × ℕ) Refusal} {t' : List ℕ}
          → Walked (opaque 1) s l (Ok (p, room)) wet t r t' → Walked (address kind) s l (Ok (p, room)) wet t r t'
      unfolding address counted address_length only length_of
      address_walk h w =
          renamed {F = opaque 1} (λ cs. cs)
          (λ p' room' e'. subst (λ k. (address kind).parse s l k ≡ and_then ((opaque 1).parse s l k) (λ cs q. found cs q)) (ok_pair_inj e').0 (address_same h))
          (λ cs p q k f. refl) w
