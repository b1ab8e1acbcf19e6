-- What the tests of a glance say of a channel, from its descriptors up: their formats find them.
use Prim.Native.Nat.{ℕ, ◌+◌, ◌*◌, ◌%◌, ◌≤◌, ◌<◌}
use mathlib.Core.Path.{◌≡◌, refl}
use mathlib.Core.List.{List}
use native.Mathlib.Omega.{arith}
use native.Mathlib.Nat.{add-zero}
use lib.ListN.{get_or}
use Rattle.body_formats.specs.Format.{number_at, many, below, under}
use Rattle.body_formats.proofs.Classes.{Bytes}
use Rattle.body_glance.specs.Glance.{Reads, Fills}
use Rattle.body_numbers.proofs.Numbers.{number_two}
use Rattle.body_glance.proofs.Finds.{reads_to, reads_pair, reads_followed, reads_view, reads_on, reads_off, reads_number, reads_reserved, reads_opaque, reads_part, reads_part12}
use Rattle.index.specs.Index.{Descriptor, descriptor, descriptors, Stream, stream_fields, stream, streams, Channel, channel_fields, channel, Flagged, flagged}

module _ (s : List ℕ) (p : ℕ) (b : Bytes s) where
  -- "tag, 8-bit length, data"
  pub descriptor_good : {q : ℕ} → p + 2 + get_or s (p + 1) 0 ≡ q → (d : Descriptor) × Reads descriptor s p d q
  unfolding descriptor number_at
  descriptor_good {q} e =
      let size : p + 1 + 1 + number_at s (p + 1) 1 ≡ q = rw add-zero (omega arith) in
      (_, reads_view _ _ (reads_pair (reads_number s p 1 b) (reads_to size (reads_opaque s (p + 1) 1 b).1)))

  -- "4 reserved, length 12, descriptors"
  pub descriptors_good : {r q : ℕ} (m : ℕ) → number_at s p 2 ≡ 0xF000 + m → m < 1024 → p + 2 ≡ r → r + m ≡ q
      → (ds : List Descriptor) × Fills (many descriptor) s q r ds
      → (ds : List Descriptor) × Reads descriptors s p ds q
  unfolding descriptors
  descriptors_good m e h from until g =
      let there : Fills (many descriptor) s (p + 2 + m) (p + 2) g.0 = rw (from, until) g.1 in
      (g.0, reads_to (omega arith) (reads_part12 s p m b (omega (arith, number_two s p refl refl)) h there))

  -- "16-bit stream length; streams"
  pub streams_good : {q : ℕ} → p + 2 + number_at s p 2 ≡ q → (ts : List Stream) × Fills (many stream) s q (p + 2) ts
      → (ts : List Stream) × Reads streams s p ts q
  unfolding streams
  streams_good e g = (g.0, reads_to e (reads_part s p 2 b (rw e g.1)))

  -- "7 reserved, channel flag. If 1:" the channel
  flag_is : (flag : ℕ) → flag ≤ 1 → get_or s p 0 ≡ 0xFE + flag → number_at s p 1 % below 7 0 ≡ flag
  unfolding number_at
  flag_is flag h e = rw add-zero (omega arith)

  pub flagged_off : {q : ℕ} → get_or s p 0 ≡ 0xFE → p + 1 ≡ q → (x : Flagged) × Reads flagged s p x q
  unfolding flagged
  flagged_off e end = (
    _,
    reads_to end
        (reads_followed (λ flag. under channel flag) (rw (flag_is 0 (omega arith) e) at (reads_reserved s p 0 7 (omega arith))) (reads_off channel s (p + 1))),
  )

  pub flagged_on : {q : ℕ} → get_or s p 0 ≡ 0xFF → (c : Channel) × Reads channel s (p + 1) c q → (x : Flagged) × Reads flagged s p x q
  unfolding flagged
  flagged_on e g =
      (_, reads_followed (λ flag. under channel flag) (rw (flag_is 1 (omega arith) e) at (reads_reserved s p 0 7 (omega arith))) (reads_on 0 g.1))

module _ (s : List ℕ) (p : ℕ) (b : Bytes s) where
  -- "type 8, 3 reserved, PID 13, 4 reserved, length 12, descriptors"
  pub stream_good : {q : ℕ} (m : ℕ) → 0xE0 ≤ get_or s (p + 1) 0 → number_at s (p + 3) 2 ≡ 0xF000 + m → m < 1024 → p + 5 + m ≡ q
      → (ds : List Descriptor) × Fills (many descriptor) s q (p + 5) ds
      → (t : Stream) × Reads stream s p t q
  unfolding stream stream_fields
  stream_good m ones e h until g =
      let f = descriptors_good s (p + 3) b m e h (omega arith) until g in (
        _,
        reads_view _ _
            (reads_pair (reads_number s p 1 b)
            (reads_pair (reads_to {t = p + 3} (omega arith) (reads_reserved s (p + 1) 1 3 (omega (arith, b (p + 1))))) f.1)),
      )

  -- "network, stream, program 16 each; 3 reserved, PCR PID 13; 4 reserved, descriptor length 12, descriptors; 16-bit stream length; streams"
  pub channel_good : {r q : ℕ} (m : ℕ) → 0xE0 ≤ get_or s (p + 6) 0 → number_at s (p + 8) 2 ≡ 0xF000 + m → m < 1024 → p + 10 + m ≡ r
      → (ds : List Descriptor) × Fills (many descriptor) s r (p + 10) ds
      → r + 2 + number_at s r 2 ≡ q → (ts : List Stream) × Fills (many stream) s q (r + 2) ts
      → (c : Channel) × Reads channel s p c q
  unfolding channel channel_fields
  channel_good {r} m ones e h until g end ts =
      let f = descriptors_good s (p + 8) b m e h (omega arith) until g in (
        _,
        reads_view _ _
            (reads_pair (reads_number s p 2 b)
            (reads_pair (reads_to {t = p + 4} (omega arith) (reads_number s (p + 2) 2 b))
            (reads_pair (reads_to {t = p + 6} (omega arith) (reads_number s (p + 4) 2 b))
            (reads_pair (reads_to {t = p + 8} (omega arith) (reads_reserved s (p + 6) 1 3 (omega (arith, b (p + 6)))))
            (reads_pair f.1 (streams_good s r b end ts).1))))),
      )
