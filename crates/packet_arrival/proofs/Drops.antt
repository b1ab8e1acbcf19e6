-- The four drops: after each of them a packet is read as if nothing had been unfinished, at its own pointer if it has one.
use Prim.Native.Nat.{ℕ}
use mathlib.Core.Bool.{Bool, true, false}
use mathlib.Core.List.{List, [], ◌∷◌, ◌++◌}
use mathlib.Core.Path.{◌≡◌, refl, ap, ◌∙◌}
use lib.ListN.{drop}
use Rattle.std.specs.Prelude.{if◌then◌else◌, Ok}
use Rattle.packet.specs.Fields.{starts, payload_at, pointed_at}
use Rattle.packet.specs.Judging.{judged}
use Rattle.packet.specs.declared.Judged.TheVariants.{Damaged, Carrying}
use Rattle.packet_frames.specs.Framing.{at_stuffing, too_long, is_whole, Read, nothing, longer, gone_on, begun}
use Rattle.packet_frames.proofs.Scans.{begun_is}
use Rattle.packet_plan.specs.Reading.{ended, ahead, read_on}
use Rattle.packet_memory.specs.Memory.{Memory, fresh, is_repeat, follows, going_on}
use Rattle.packet_reader.specs.Unpacking.{gives, fitting, verdict_on, unpacking}
use Rattle.packet_arrival.specs.Unmixed.{onward}
use Rattle.packet_arrival.proofs.Packets.{taken_read}

-- where nothing is unfinished, the sections are those from the packet's own pointer on
pub own_pointer : (p : List ℕ) → starts p ≡ true → read_on [] p ≡ begun (drop (pointed_at p) p)
unfolding read_on ended gone_on nothing
own_pointer p s = rw s

-- "A counter gap [..] drops the unfinished section; reading goes on at the next pointer, a gap packet's own included"
pub gap_drops : (room : ℕ) (m : Memory) (p : List ℕ) → judged p ≡ (Ok Carrying) → is_repeat m p ≡ false → follows m.last p ≡ false
    → unpacking room m p ≡ fitting room p (read_on [] p)
unfolding going_on
gap_drops room m p t n f = taken_read room m p t n ∙ rw f

-- "an error bit (looked at after the sync byte; the next counter is free)"
pub error_drops : (room : ℕ) (m : Memory) (p : List ℕ) → judged p ≡ (Ok Damaged) → unpacking room m p ≡ gives [] fresh
unfolding unpacking verdict_on
error_drops room m p e = rw e

-- what gives nothing and leaves nothing behind
gone_nothing : (u p : List ℕ) → gone_on u (onward p) ≡ nothing → read_on u p ≡ read_on [] p
unfolding read_on onward ended gone_on
gone_nothing u p e = go (starts p) e
  where
    go : (b : Bool) → gone_on u (if b then ahead p else drop (payload_at p) p) ≡ nothing
        → (if b then ended u (ahead p) (drop (pointed_at p) p) else gone_on u (drop (payload_at p) p))
        ≡ (if b then ended [] (ahead p) (drop (pointed_at p) p) else gone_on [] (drop (payload_at p) p))
    go true e = rw e
    go false e = e

-- "a section_length above 4,093": told only now, by the bytes that the packet brings
pub length_drops : (u p : List ℕ) → too_long (u ++ onward p) ≡ true → read_on u p ≡ read_on [] p
unfolding gone_on longer
length_drops [] p t = refl
length_drops (x ∷ xs) p t = gone_nothing (x ∷ xs) p (rw t)

-- the same where a section begins: the rest of the packet is skipped
pub length_skips : (d : List ℕ) → too_long d ≡ true → begun d ≡ nothing
length_skips d t = begun_is d ∙ rw t (go (at_stuffing d))
  where
    go : (b : Bool) → (if b then nothing else nothing) ≡ nothing
    go true = refl
    go false = refl

-- what is not whole gives no section
none_whole : (d : List ℕ) → is_whole d ≡ false → (longer d).sections ≡ []
unfolding longer nothing
none_whole d w = rw w (go (too_long d))
  where
    go : (b : Bool) → (if b then nothing else record { sections = []; unfinished = d }).sections ≡ []
    go true = refl
    go false = refl

-- "a pointer met too soon": the section is not whole before it
pub pointer_drops : (u p : List ℕ) → starts p ≡ true → is_whole (u ++ ahead p) ≡ false → read_on u p ≡ read_on [] p
unfolding read_on ended gone_on nothing
pointer_drops [] p s w = refl
pointer_drops (x ∷ xs) p s w =
    let d = drop (pointed_at p) p in
    rw s (ap (λ ss. record { sections = ss ++ (begun d).sections; unfinished = (begun d).unfinished }) (none_whole ((x ∷ xs) ++ ahead p) w))
