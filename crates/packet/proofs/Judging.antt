-- Laws of a packet's judgement: each way out of the function that makes it, and what a packet that is taken has.
use Prim.Native.Nat.{ℕ, ◌≤◌, ◌<◌}
use Rattle.std.specs.Prelude.{Result, Ok, Err}
use Rattle.ground_refusal.specs.declared.Refusal.{Refusal}
use mathlib.Core.Bool.{Bool, true, false, not, ◌&&◌, ◌||◌, true≢false, false≢true}
use mathlib.Core.List.{List}
use mathlib.Core.Path.{◌≡◌, refl}
use native.Mathlib.Omega.{arith}
use borrow.Author.Tests.{ne_eqb, le-leb, lt-leb, eqb-true, leb-true, ltb-true, not-false}
use lib.Dec.{eqb, leb, ltb}
use lib.ListN.{length}
use Rattle.ground_choices.proofs.Tests.{both, past}
use Rattle.ground_refusal.specs.declared.Refusal.TheVariants.{NotAPacket, NoSyncByte, OtherPid, Scrambled, PastPacket}
use Rattle.packet.specs.declared.Judged.{Judged}
use Rattle.packet.specs.declared.Judged.TheVariants.{Damaged, Skipped, Carrying}
use Rattle.packet.specs.Sizes.{packet_bytes, sync_byte, our_pid}
use Rattle.packet.specs.Fields.{byte, has_error, starts, pid, scrambling, control, payload_at, pointed_at, in_place}
use Rattle.packet.specs.Judging.{judged, is_carrying}

-- ---- each way out

module _ (p : List ℕ) where
  pub judged_length : (length p ≡ packet_bytes → ⊥) → Err NotAPacket ≡ judged p
  unfolding judged
  judged_length h = rw (ne_eqb (length p) packet_bytes h)

  module _ (size : length p ≡ packet_bytes) where
    pub judged_sync : (byte p 0 ≡ sync_byte → ⊥) → Err NoSyncByte ≡ judged p
    unfolding judged
    judged_sync h = simp (size, ne_eqb (byte p 0) sync_byte h)

    module _ (sync : byte p 0 ≡ sync_byte) where
      pub judged_error : 0x80 ≤ byte p 1 → (Ok Damaged) ≡ judged p
      unfolding judged has_error
      judged_error h = simp (size, sync, le-leb 0x80 (byte p 1) h)

      module _ (whole : byte p 1 < 0x80) where
        pub judged_pid : (pid p ≡ our_pid → ⊥) → Err OtherPid ≡ judged p
        unfolding judged has_error
        judged_pid h = simp (size, sync, lt-leb 0x80 (byte p 1) whole, ne_eqb (pid p) our_pid h)

        module _ (ours : pid p ≡ our_pid) where
          pub judged_scrambled : (scrambling p ≡ 0 → ⊥) → Err Scrambled ≡ judged p
          unfolding judged has_error
          judged_scrambled h = simp (size, sync, lt-leb 0x80 (byte p 1) whole, ours, ne_eqb (scrambling p) 0 h)

          module _ (clear : scrambling p ≡ 0) where
            pub judged_past : in_place p ≡ false → Err PastPacket ≡ judged p
            unfolding judged has_error
            judged_past h = simp (size, sync, lt-leb 0x80 (byte p 1) whole, ours, clear, h)

-- a packet that is taken has its fields in place
pub record Carried (p : List ℕ) : Type 0 where
  pub size : length p ≡ packet_bytes
  pub at : payload_at p ≤ packet_bytes
  pub pointed : starts p ≡ true → (payload_at p < packet_bytes) × (pointed_at p < packet_bytes)

pub carried : (p : List ℕ) → judged p ≡ (Ok Carrying) → Carried p
unfolding judged in_place
carried p e =
    let a = past (not (eqb (length p) packet_bytes)) (Err NotAPacket) _ (Ok Carrying) (λ z. let y : ◌≡◌ {A = ℕ} 0 1 = cc in omega arith) e in
    let b = past (not (eqb (byte p 0) sync_byte)) (Err NoSyncByte) _ (Ok Carrying) (λ z. let y : ◌≡◌ {A = ℕ} 0 1 = cc in omega arith) a.1 in
    let c = past (has_error p) (Ok Damaged) _ (Ok Carrying) (λ z. let y : ◌≡◌ {A = ℕ} 0 1 = cc in omega arith) b.1 in
    let d = past (not (eqb (pid p) our_pid)) (Err OtherPid) _ (Ok Carrying) (λ z. let y : ◌≡◌ {A = ℕ} 0 1 = cc in omega arith) c.1 in
    let f = past (not (eqb (scrambling p) 0)) (Err Scrambled) _ (Ok Carrying) (λ z. let y : ◌≡◌ {A = ℕ} 0 1 = cc in omega arith) d.1 in
    let g = past (not (in_place p)) (Err PastPacket) _ (Ok Carrying) (λ z. let y : ◌≡◌ {A = ℕ} 0 1 = cc in omega arith) f.1 in
    let h = past (eqb (control p) 2) (Ok Skipped) (Ok Carrying) (Ok Carrying) (λ z. let y : ◌≡◌ {A = ℕ} 0 1 = cc in omega arith) g.1 in
    let i = both (not (eqb (control p) 0) && leb (payload_at p) packet_bytes) _ (not-false (in_place p) g.0) in
    record {
      size = eqb-true (length p) packet_bytes (not-false (eqb (length p) packet_bytes) a.0);
      at = leb-true (payload_at p) packet_bytes (both (not (eqb (control p) 0)) (leb (payload_at p) packet_bytes) i.0).1;
      pointed = λ s. ends (eqb (control p) 2) (starts p) h.0 s i.1;
    }
  where
    ends : (a b : Bool) → a ≡ false → b ≡ true → (a || not b || (ltb (payload_at p) packet_bytes && ltb (pointed_at p) packet_bytes)) ≡ true
        → (payload_at p < packet_bytes) × (pointed_at p < packet_bytes)
    ends true b x y z = absurd (true≢false x)
    ends false true x y z =
        let w = both (ltb (payload_at p) packet_bytes) (ltb (pointed_at p) packet_bytes) z in
        (ltb-true (payload_at p) packet_bytes w.0, ltb-true (pointed_at p) packet_bytes w.1)
    ends false false x y z = absurd (false≢true y)

pub carrying_is : (j : Result Judged Refusal) → is_carrying j ≡ true → j ≡ Ok Carrying
unfolding is_carrying
carrying_is (Err r) e = absurd (false≢true e)
carrying_is (Ok Damaged) e = absurd (false≢true e)
carrying_is (Ok Skipped) e = absurd (false≢true e)
carrying_is (Ok Carrying) e = refl
