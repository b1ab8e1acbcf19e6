-- Nothing is mixed: the unfinished section is always the end of what was heard without a break, and begins behind every pointer; so what it grows into
-- stands there framed whole.
use Prim.Native.Nat.{ℕ, zero, suc, ◌+◌, ◌-◌, ◌≤◌}
use mathlib.Core.Bool.{Bool, true, false, not, ◌&&◌, ◌||◌}
use mathlib.Core.List.{List, [], ◌∷◌, ◌++◌, append_assoc, append-nil}
use mathlib.Core.Logic.{◌⊎◌, inl, inr}
use mathlib.Core.Path.{◌≡◌, refl, sym, ap, ◌∙◌, subst}
use native.Mathlib.Omega.{arith}
use borrow.Author.Tests.{le-leb, leb-true}
use lib.Dec.{eqb, leb, ltb}
use lib.ListN.{length, take, drop, length-append, length-drop, take-append-drop}
use lib.Seq.{drop-drop, drop_at, take-append-le, drop-append-le}
use Rattle.std.specs.Prelude.{if◌then◌else◌, Result, Ok, Err}
use Rattle.ground_choices.proofs.Tests.{both}
use Rattle.ground_refusal.specs.declared.Refusal.{Refusal}
use Rattle.ground_refusal.specs.declared.Refusal.TheVariants.{NotAPacket, NoSyncByte, OtherPid, Scrambled, PastPacket, OutputTooSmall}
use Rattle.packet.specs.Sizes.{packet_bytes, sync_byte, our_pid}
use Rattle.packet.specs.Fields.{byte, has_error, starts, pid, scrambling, control, payload_at, pointed_at, in_place}
use Rattle.packet.specs.Judging.{judged}
use Rattle.packet.specs.declared.Judged.{Judged}
use Rattle.packet.specs.declared.Judged.TheVariants.{Damaged, Skipped, Carrying}
use Rattle.packet_frames.specs.Framing.{at_stuffing, framed, too_long, is_whole, Read, nothing, longer, gone_on, before, begun_in, begun, joined}
use Rattle.packet_frames.proofs.Frames.{framed_front}
use Rattle.packet_plan.specs.Reading.{ended, ahead, read_on}
use Rattle.packet_memory.specs.Memory.{Memory, fresh, held_after, repeated_once, is_repeat, follows, going_on}
use Rattle.packet_reader.specs.Unpacking.{Verdict, refuses, gives, fitting, carrying, verdict_on, unpacking}
use Rattle.packet_arrival.specs.Unmixed.{Heard, silence, carried, hearing, heard_by, Among, Begins, pointed, behind, NoneInside, FramedIn, AllFramedIn, memory_by, given_by, Unmixed}

-- ---- a whole section with bytes behind it

whole_known : (d : List ℕ) → is_whole d ≡ true → (3 ≤ length d) × (framed d ≤ length d)
unfolding is_whole
whole_known d w =
    let t = both (leb 3 (length d)) (leb (framed d) (length d)) w in
    (leb-true 3 (length d) t.0, leb-true (framed d) (length d) t.1)

whole_more : (d y : List ℕ) → is_whole d ≡ true → (is_whole (d ++ y) ≡ true) × (framed (d ++ y) ≡ framed d)
unfolding is_whole
whole_more d y w =
    let k = whole_known d w in
    let a = k.0 in
    let b = k.1 in
    let f = framed_front d y a in
    let l = length-append d y in
    (rw (f, le-leb 3 (length (d ++ y)) (omega arith), le-leb (framed d) (length (d ++ y)) (omega arith)), f)

-- it goes on to stand where it stands
whole_stays : (k : ℕ) (h y : List ℕ) → is_whole (drop k h) ≡ true
    → (is_whole (drop k (h ++ y)) ≡ true) × (framed (drop k (h ++ y)) ≡ framed (drop k h))
whole_stays k h y w =
    let l = length-drop k h in
    let a = (whole_known (drop k h) w).0 in
    let e = drop-append-le k h y (omega arith) in
    let m = whole_more (drop k h) y w in
    (ap is_whole e ∙ m.0, ap framed e ∙ m.1)

-- ---- pointers

abbrev AllBelow : ℕ → List ℕ → Type 0
AllBelow k [] = Unit {0}
AllBelow k (j ∷ js) = (j ≤ k) × AllBelow k js

below_more : (k l : ℕ) → k ≤ l → (js : List ℕ) → AllBelow k js → AllBelow l js
below_more k l h [] b = tt
below_more k l h (j ∷ js) b = let a = b.0 in (omega arith, below_more k l h js b.1)

below_inside : (a b : ℕ) (js : List ℕ) → AllBelow a js → NoneInside a b js
below_inside a b [] v = tt
below_inside a b (j ∷ js) v = (inl v.0, below_inside a b js v.1)

inside_less : (a b c : ℕ) → b ≤ c → (js : List ℕ) → NoneInside a c js → NoneInside a b js
inside_less a b c h [] v = tt
inside_less a b c h (j ∷ js) v = (go v.0, inside_less a b c h js v.1)
  where
    go : (j ≤ a) ⊎ (c ≤ j) → (j ≤ a) ⊎ (b ≤ j)
    go (inl l) = inl l
    go (inr r) = inr (omega arith)

-- ---- where a section begins

-- bytes are heard behind, and pointers come to those before
record Grows (h g : Heard) : Type 0 where
  new : List ℕ
  bytes : g.bytes ≡ h.bytes ++ new
  pointers : (k : ℕ) → Among k h.pointers → Among k g.pointers

begins_more : (h g : Heard) → Grows h g → (k : ℕ) → Begins h k → Begins g k
begins_more h g v k (pointed a) = pointed (v.pointers k a)
begins_more h g v l (behind {k} b w) =
    let t = whole_stays k h.bytes v.new w in
    let e = ap (drop k) v.bytes in
    subst (λ (n : ℕ). Begins g (k + n)) (ap framed e ∙ t.1) (behind (begins_more h g v k b) (ap is_whole e ∙ t.0))

-- the unfinished section u is the end of h, and begins where a section may, behind every pointer
record Standing (u : List ℕ) (h : Heard) : Type 0 where
  at : ℕ
  within : at ≤ length h.bytes
  rest : drop at h.bytes ≡ u
  begins : Begins h at
  below : AllBelow at h.pointers

abbrev Stands : List ℕ → Heard → Type 0
Stands [] h = Unit {0}
Stands (b ∷ bs) h = Standing (b ∷ bs) h

stands_of : (u : List ℕ) (h : Heard) → Standing u h → Stands u h
stands_of [] h v = tt
stands_of (b ∷ bs) h v = v

framed_append : (h : Heard) (ss ts : List (List ℕ)) → AllFramedIn h ss → AllFramedIn h ts → AllFramedIn h (ss ++ ts)
framed_append h [] ts a b = b
framed_append h (s ∷ ss) ts a b = (a.0, framed_append h ss ts a.1 b)

-- ---- what is read stands in what was heard

abbrev Sound : Heard → Read → Type 0
Sound h r = AllFramedIn h r.sections × Stands r.unfinished h

-- the sections from a pointer on
begun_sound : (g : Heard) (n q : ℕ) → q ≤ length g.bytes → Begins g q → AllBelow q g.pointers → Sound g (begun_in n (drop q g.bytes))
unfolding begun_in nothing before
begun_sound g zero q l b w = (tt, tt)
begun_sound g (suc n) q l b w = go (at_stuffing d) (too_long d) (is_whole d) refl (λ t. begun_sound g n (q + framed d) (next t) (behind b t) below)
  where
    d : List ℕ
    d = drop q g.bytes

    next : is_whole d ≡ true → q + framed d ≤ length g.bytes
    next t = let k = (whole_known d t).1 in omega (arith, length-drop q g.bytes)

    below : AllBelow (q + framed d) g.pointers
    below = below_more q (q + framed d) (omega arith) g.pointers w

    go : (x y z : Bool) → is_whole d ≡ z → (is_whole d ≡ true → Sound g (begun_in n (drop (q + framed d) g.bytes)))
        → Sound g
        (if x then nothing else if y then nothing else if z then before (take (framed d) d) (begun_in n (drop (framed d) d)) else
        record { sections = []; unfinished = d })
    go true y z t f = (tt, tt)
    go false true z t f = (tt, tt)
    go false false true t f =
        let r = subst (λ (e : List ℕ). Sound g (begun_in n e)) (sym (drop-drop (framed d) q g.bytes)) (f t) in
        ((record { at = q; begins = b; whole = t; is = refl; one = below_inside q (q + framed d) g.pointers w }, r.0), r.1)
    go false false false t f = (tt, stands_of d g (record { at = q; within = l; rest = refl; begins = b; below = w }))

-- an unfinished section with more bytes, which others may follow
longer_framed : (g : Heard) (at : ℕ) (v z : List ℕ) → drop at g.bytes ≡ v ++ z → Begins g at → NoneInside at (at + length v) g.pointers
    → AllFramedIn g (longer v).sections
unfolding longer nothing
longer_framed g at v z e b o = go (too_long v) (is_whole v) refl
  where
    go : (x y : Bool) → is_whole v ≡ y
        → AllFramedIn g
        (if x then nothing else if y then record { sections = take (framed v) v ∷ []; unfinished = [] } else
        record { sections = []; unfinished = v }).sections
    go true y t = tt
    go false true t =
        let k = (whole_known v t).1 in
        let m = whole_more v z t in
        let f : framed (drop at g.bytes) ≡ framed v = ap framed e ∙ m.1 in (
          record {
            at = at;
            begins = b;
            whole = ap is_whole e ∙ m.0;
            is = sym (ap (take (framed (drop at g.bytes))) e ∙ ap (λ (n : ℕ). take n (v ++ z)) f ∙ take-append-le (framed v) v z k);
            one = inside_less at (at + framed (drop at g.bytes)) (at + length v) (omega arith) g.pointers o;
          },
          tt,
        )
    go false false t = tt

longer_open : (v : List ℕ) (g : Heard) → Standing v g → Stands (longer v).unfinished g
unfolding longer nothing
longer_open v g s = go (too_long v) (is_whole v)
  where
    go : (x y : Bool)
        → Stands
        (if x then nothing else if y then record { sections = take (framed v) v ∷ []; unfinished = [] } else
        record { sections = []; unfinished = v }).unfinished g
    go true y = tt
    go false true = tt
    go false false = stands_of v g s

-- ---- a packet without a pointer

module _ (h : Heard) (y : List ℕ) where
  -- its bytes come behind
  plain : Heard
  plain = record { bytes = h.bytes ++ y; pointers = h.pointers }

  plain_grows : Grows h plain
  unfolding plain
  plain_grows = record { new = y; bytes = refl; pointers = λ k a. a }

  plain_standing : (u : List ℕ) → Standing u h → Standing (u ++ y) plain
  unfolding plain
  plain_standing u s =
      let w = s.within in
      record {
        at = s.at;
        within = omega (arith, length-append h.bytes y);
        rest = drop-append-le s.at h.bytes y w ∙ ap (λ l. l ++ y) s.rest;
        begins = begins_more h plain plain_grows s.at s.begins;
        below = s.below;
      }

  gone_sound : (u : List ℕ) → Stands u h → Sound plain (gone_on u y)
  unfolding gone_on nothing plain
  gone_sound [] s = (tt, tt)
  gone_sound (b ∷ bs) s =
      let u = b ∷ bs in
      let t = plain_standing u s in (
        longer_framed plain t.at (u ++ y) [] (t.rest ∙ sym (append-nil (u ++ y))) t.begins
            (below_inside t.at (t.at + length (u ++ y)) h.pointers t.below),
        longer_open (u ++ y) plain t,
      )

-- ---- a packet with a pointer

module _ (h : Heard) (x d : List ℕ) where
  place : ℕ
  place = length h.bytes + length x

  -- the bytes ahead, and those from the pointer on
  pointing : Heard
  pointing = record { bytes = h.bytes ++ (x ++ d); pointers = place ∷ h.pointers }

  pointing_grows : Grows h pointing
  unfolding pointing
  pointing_grows = record { new = x ++ d; bytes = refl; pointers = λ k a. inr a }

  from_pointer : drop place pointing.bytes ≡ d
  unfolding pointing place
  from_pointer =
      ap (drop (length h.bytes + length x)) (sym (append_assoc h.bytes x d))
      ∙ drop_at (h.bytes ++ x) d (length h.bytes + length x) (length-append h.bytes x)

  -- nothing heard before begins behind what the pointer points at
  pointing_below : AllBelow (length h.bytes) h.pointers → AllBelow place pointing.pointers
  unfolding pointing place
  pointing_below b = (omega arith, below_more (length h.bytes) (length h.bytes + length x) (omega arith) h.pointers b)

  ended_first : (u : List ℕ) → Stands u h → AllFramedIn pointing (gone_on u x).sections
  unfolding gone_on nothing pointing place
  ended_first [] s = tt
  ended_first (b ∷ bs) s =
      let u = b ∷ bs in
      let w = s.within in
      let l = length-drop s.at h.bytes in
      let m = ap length s.rest in
      let long = length-append u x in
      longer_framed pointing s.at (u ++ x) d
      (drop-append-le s.at h.bytes (x ++ d) w ∙ ap (λ t. t ++ (x ++ d)) s.rest ∙ sym (append_assoc u x d))
      (begins_more h pointing pointing_grows s.at s.begins)
      (inr (omega arith), below_inside s.at (s.at + length (u ++ x)) h.pointers s.below)

  pointing_length : length pointing.bytes ≡ place + length d
  unfolding pointing place
  pointing_length =
      ap length (sym (append_assoc h.bytes x d)) ∙ length-append (h.bytes ++ x) d
      ∙ ap (λ (n : ℕ). n + length d) (length-append h.bytes x)

  ended_sound : (u : List ℕ) → Stands u h → AllBelow (length h.bytes) h.pointers → Sound pointing (ended u x d)
  unfolding ended begun pointing
  ended_sound u s b =
      let r =
      begun_sound pointing (length d) place
      (omega (arith, pointing_length))
      (pointed (inl refl)) (pointing_below b) in
      let t = subst (λ (e : List ℕ). Sound pointing (begun_in (length d) e)) from_pointer r in
      (framed_append pointing (gone_on u x).sections (begun d).sections (ended_first u s) t.0, t.1)

-- ---- a packet's payload

pointed_whole : (p : List ℕ) → ahead p ++ drop (pointed_at p) p ≡ drop (payload_at p + 1) p
unfolding ahead pointed_at
pointed_whole p =
    ap (λ (l : List ℕ). take (payload_at p + 1 + byte p (payload_at p) - (payload_at p + 1)) (drop (payload_at p + 1) p) ++ l)
    (sym (drop-drop (byte p (payload_at p)) (payload_at p + 1) p))
    ∙ ap (λ (n : ℕ). take n (drop (payload_at p + 1) p) ++ drop (byte p (payload_at p)) (drop (payload_at p + 1) p)) less
    ∙ take-append-drop (byte p (payload_at p)) (drop (payload_at p + 1) p)
  where
    less : payload_at p + 1 + byte p (payload_at p) - (payload_at p + 1) ≡ byte p (payload_at p)
    less = omega arith

-- what is kept from packet to packet: the unfinished section stands, and no pointer points past what was heard
abbrev Ready : List ℕ → Heard → Type 0
Ready u h = Stands u h × AllBelow (length h.bytes) h.pointers

module _ (h : Heard) (p u : List ℕ) (v : Ready u h) where
  read_sound : Sound (hearing h p) (read_on u p)
  unfolding read_on hearing carried plain pointing place
  read_sound = go (starts p)
    where
      d : List ℕ
      d = drop (pointed_at p) p

      go : (b : Bool)
          → Sound
          (record {
            bytes = h.bytes ++ (if b then drop (payload_at p + 1) p else drop (payload_at p) p);
            pointers = if b then (length h.bytes + length (ahead p)) ∷ h.pointers else h.pointers;
          })
          (if b then ended u (ahead p) d else gone_on u (drop (payload_at p) p))
      go true =
          subst
          (λ (y : List ℕ).
          Sound (record { bytes = h.bytes ++ y; pointers = (length h.bytes + length (ahead p)) ∷ h.pointers }) (ended u (ahead p) d))
          (pointed_whole p) (ended_sound h (ahead p) d u v.0 v.1)
      go false = gone_sound h (drop (payload_at p) p) u v.0

  hearing_below : AllBelow (length (hearing h p).bytes) (hearing h p).pointers
  unfolding hearing carried
  hearing_below = go (starts p)
    where
      more : (y : List ℕ) → length h.bytes ≤ length (h.bytes ++ y)
      more y = omega (arith, length-append h.bytes y)

      within : length h.bytes + length (ahead p) ≤ length (h.bytes ++ drop (payload_at p + 1) p)
      within =
          let a = length-append h.bytes (drop (payload_at p + 1) p) in
          let b = ap length (pointed_whole p) in
          let c = length-append (ahead p) (drop (pointed_at p) p) in
          omega arith

      go : (b : Bool)
          → AllBelow (length (h.bytes ++ (if b then drop (payload_at p + 1) p else drop (payload_at p) p)))
          (if b then (length h.bytes + length (ahead p)) ∷ h.pointers else h.pointers)
      go true = (within, below_more _ _ (more (drop (payload_at p + 1) p)) h.pointers v.1)
      go false = below_more _ _ (more (drop (payload_at p) p)) h.pointers v.1

-- ---- a verdict

-- after it, what is given stands framed in what was heard, and all is ready for the next packet
abbrev Kept : Verdict → Memory → Heard → List ℕ → Type 0
Kept v m h p = AllFramedIn (heard_by v m h p) (given_by v) × Ready (memory_by v m).unfinished (heard_by v m h p)

ready_silence : Ready [] silence
unfolding silence
ready_silence = (tt, tt)

module _ (room : ℕ) (m : Memory) (h : Heard) (p : List ℕ) (v : Ready m.unfinished h) where
  going_ready : Ready (going_on m p) (if follows m.last p then h else silence)
  unfolding going_on
  going_ready = go (follows m.last p)
    where
      go : (b : Bool) → Ready (if b then m.unfinished else []) (if b then h else silence)
      go true = v
      go false = ready_silence

  kept_refusal : (r : Refusal) → Kept (refuses r) m h p
  unfolding heard_by memory_by given_by
  kept_refusal r = (tt, v)

  kept_error : has_error p ≡ true → Kept (gives [] fresh) m h p
  unfolding heard_by memory_by given_by fresh
  kept_error t = (tt, rw t ready_silence)

  module _ (good : has_error p ≡ false) where
    kept_skipped : (n : Memory) → n.unfinished ≡ m.unfinished → (eqb (control p) 2 || is_repeat m p) ≡ true → Kept (gives [] n) m h p
    unfolding heard_by memory_by given_by
    kept_skipped n u t = (tt, rw (good, t, u) v)

    kept_read : (eqb (control p) 2 || is_repeat m p) ≡ false → Kept (fitting room p (read_on (going_on m p) p)) m h p
    unfolding heard_by memory_by given_by fitting held_after
    kept_read t = go (ltb room (length (joined (read_on (going_on m p) p).sections)))
      where
        r : Read
        r = read_on (going_on m p) p

        g : Heard
        g = if follows m.last p then h else silence

        s : Sound (hearing g p) r
        s = read_sound g p (going_on m p) going_ready

        go : (b : Bool) → Kept (if b then refuses OutputTooSmall else gives r.sections (held_after r.unfinished p)) m h p
        go true = (tt, v)
        go false = rw (good, t) (s.0, (s.1, hearing_below g p (going_on m p) going_ready))

  -- what the packet's own judgement shows of its fields, as far as `heard_by` asks
  Told : Result Judged Refusal → Type 0
  Told (Err r) = Unit {0}
  Told (Ok Damaged) = has_error p ≡ true
  Told (Ok Skipped) = (has_error p ≡ false) × (eqb (control p) 2 ≡ true)
  Told (Ok Carrying) = (has_error p ≡ false) × (eqb (control p) 2 ≡ false)

  told : Told (judged p)
  unfolding judged Told
  told =
      go (not (eqb (length p) packet_bytes)) (not (eqb (byte p 0) sync_byte)) (has_error p) refl (not (eqb (pid p) our_pid)) (not (eqb (scrambling p) 0))
      (not (in_place p)) (eqb (control p) 2) refl
    where
      go : (a b c : Bool) → has_error p ≡ c → (d i j k : Bool) → eqb (control p) 2 ≡ k
          → Told
          (if a then Err NotAPacket else
          if b then Err NoSyncByte else
          if c then (Ok Damaged) else
          if d then Err OtherPid else
          if i then Err Scrambled else
          if j then Err PastPacket else
          if k then (Ok Skipped) else
          Ok Carrying)
      go true b c g d i j k s = tt
      go false true c g d i j k s = tt
      go false false true g d i j k s = g
      go false false false g true i j k s = tt
      go false false false g false true j k s = tt
      go false false false g false false true k s = tt
      go false false false g false false false true s = (g, s)
      go false false false g false false false false s = (g, s)

  kept : Kept (unpacking room m p) m h p
  unfolding unpacking verdict_on carrying Told repeated_once
  kept = go (judged p) told (is_repeat m p) refl
    where
      go : (j : Result Judged Refusal) → Told j → (l : Bool) → is_repeat m p ≡ l → Kept (verdict_on j room m p) m h p
      go (Err r) t l s = kept_refusal r
      go (Ok Damaged) t l s = kept_error t
      go (Ok Skipped) t l s = kept_skipped t.0 m refl (rw t.1)
      go (Ok Carrying) t true s = rw s (kept_skipped t.0 (repeated_once m) refl (rw (t.1, s)))
      go (Ok Carrying) t false s = rw s (kept_read t.0 (rw (t.1, s)))

-- ---- a run

unmixed_from : (room : ℕ) (ps : List (List ℕ)) (m : Memory) (h : Heard) → Ready m.unfinished h → Unmixed room m h ps
unmixed_from room [] m h v = tt
unmixed_from room (p ∷ ps) m h v =
    let k = kept room m h p v in
    (k.0, unmixed_from room ps (memory_by (unpacking room m p) m) (heard_by (unpacking room m p) m h p) k.1)

-- whatever packets come, each section given stands framed whole in what was heard since the last gap or error bit, and no pointer points into it
pub unmixed : (room : ℕ) (ps : List (List ℕ)) → Unmixed room fresh silence ps
unfolding fresh
unmixed room ps = unmixed_from room ps fresh silence ready_silence
