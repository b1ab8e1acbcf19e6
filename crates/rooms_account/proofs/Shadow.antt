-- A network's rooms stand for a store of its own: a store in which each held payload has 01's fixed place. The single gathering over it decides and hands out
-- as the network does.
use Prim.Native.Nat.{ℕ, suc, ◌+◌, ◌-◌, ◌<◌}
use mathlib.Core.Path.{◌≡◌, refl, sym, ◌∙◌, ap}
use mathlib.Core.Bool.{true}
use mathlib.Core.List.{List, [], ◌∷◌}
use native.Mathlib.Nat.{add-zero, zero-add}
use native.Mathlib.Omega.{arith}
use borrow.Author.Tests.{eqb-true, eqb-false}
use lib.Dec.{eqb}
use lib.ListN.{length, get_or, length-take}
use lib.Seq.{get_or-take}
use Rattle.crc.specs.Crc.{AreBytes}
use Rattle.section_reader.specs.Section.{payload_of}
use Rattle.section_reader.specs.declared.Heading.{Heading}
use Rattle.gathering_state.specs.Lists.{part}
use Rattle.gathering_state.specs.State.{possible_of, place, has_room, lengths, held_payload}
use Rattle.gathering_verdict.specs.Deciding as G
use Rattle.gathering_verdict.proofs.Verdicts as GV
use Rattle.gathering_hand_out.specs.Handing.{joined, body_held, handed_of, out_after}
use Rattle.gathering_account.proofs.Hearing.{ReadAs, as_good, as_bad, read_as}
use Rattle.rooms_state.specs.State.{room_at, room_payload}
use Rattle.rooms_state.specs.declared.Part.{Part}
use Rattle.rooms_marks.proofs.Tests.{Seen, yes_is, no_is, seen}
use Rattle.rooms_verdict.specs.Deciding.{number_verdict, good_verdict, verdict_of}
use Rattle.rooms_verdict.proofs.Verdicts.{verdict_bad, verdict_good}
use Rattle.rooms_hand_out.specs.Handing.{body_in, part_handed, part_out}
use Rattle.rooms_account.proofs.Always.{own_room, good_last}

pub record Shadow (p : Part) (store v : List ℕ) : Type 0 where
  pub long : length v ≡ 1045504
  pub same : (k : ℕ) → (get_or p.gathering.held k 0 ≡ 0 → ⊥) → held_payload p.gathering v k ≡ room_payload p store k

-- ---- the verdict

module _ (p : Part) (store v : List ℕ) (x : Shadow p store v) (h : Heading) (payload : List ℕ) where
  numbers_same : Seen (eqb (get_or p.gathering.held h.number 0) 0) → number_verdict p store h payload ≡ G.number_verdict p.gathering v h payload
  unfolding number_verdict G.number_verdict
  numbers_same (yes_is e) = rw e
  numbers_same (no_is e) = rw (e, ← (x.same h.number (eqb-false _ _ e)))

  good_same : has_room (length v) h.last ≡ true → good_verdict p store h payload ≡ G.good_verdict p.gathering v h payload
  unfolding good_verdict G.good_verdict
  good_same r = rw (r, numbers_same (seen (eqb (get_or p.gathering.held h.number 0) 0)))

pub shadow_verdict : (p : Part) (store v s : List ℕ) → Shadow p store v → AreBytes s → possible_of p.gathering ≡ true
    → verdict_of p store s ≡ G.verdict_of p.gathering v s
shadow_verdict p store v s x b ok = go (read_as s)
  where
    go : ReadAs s → verdict_of p store s ≡ G.verdict_of p.gathering v s
    go (as_good h n e) =
        verdict_good p store s h n e
        ∙ good_same p store v x h (payload_of s) (ap (λ (m : ℕ). has_room m h.last) x.long ∙ own_room h.last (good_last s b h n e))
        ∙ sym (GV.verdict_good p.gathering v s ok h n e)
    go (as_bad r e) = verdict_bad p store s r e ∙ sym (GV.verdict_bad p.gathering v s ok r e)

-- ---- handing out

joined_same : (at at' : ℕ → ℕ) (k : ℕ) (ns store v : List ℕ)
    → ((i : ℕ) → i < length ns → part store (at (k + i)) (get_or ns i 0 - 1) ≡ part v (at' (k + i)) (get_or ns i 0 - 1)) → joined at k ns store ≡ joined at' k ns v
unfolding joined
joined_same at at' k [] store v f = refl
joined_same at at' k (n ∷ ns) store v f =
    let here : part store (at k) (n - 1) ≡ part v (at' k) (n - 1) = rw (add-zero k) at (f 0 (omega arith)) in
    let rest = joined_same at at' (suc k) ns store v (λ i l. let e : k + suc i ≡ suc k + i = omega arith in rw e at (f (suc i) (omega arith))) in
    rw (here, rest)

nothing_held : (d : List ℕ) (at m : ℕ) → m ≡ 0 → part d at (m - 1) ≡ []
unfolding part
nothing_held d at m e = rw e

module _ (p : Part) (store v : List ℕ) (x : Shadow p store v) where
  payload_same : (i : ℕ) → part store (room_at p.rooms i) (get_or p.gathering.held i 0 - 1) ≡ part v (place i) (get_or p.gathering.held i 0 - 1)
  unfolding held_payload room_payload
  payload_same i = go (seen (eqb (get_or p.gathering.held i 0) 0))
    where
      go : Seen (eqb (get_or p.gathering.held i 0) 0)
          → part store (room_at p.rooms i) (get_or p.gathering.held i 0 - 1) ≡ part v (place i) (get_or p.gathering.held i 0 - 1)
      go (yes_is e) = let z = eqb-true _ _ e in nothing_held store _ _ z ∙ sym (nothing_held v _ _ z)
      go (no_is e) = sym (x.same i (eqb-false _ _ e))

  listed_same : (i : ℕ) → i < length (lengths p.gathering)
      → part store (room_at p.rooms i) (get_or (lengths p.gathering) i 0 - 1) ≡ part v (place i) (get_or (lengths p.gathering) i 0 - 1)
  unfolding lengths
  listed_same i l =
      let t = length-take (p.gathering.last + 1) p.gathering.held in
      rw (get_or-take (p.gathering.last + 1) p.gathering.held i 0 (omega arith)) (payload_same i)

  pub bodies_same : body_in p store ≡ body_held p.gathering v
  unfolding body_in body_held
  bodies_same = joined_same (room_at p.rooms) place 0 (lengths p.gathering) store v (λ i l. rw (zero-add i) (listed_same i l))

  pub shadow_handed : (out : List ℕ) → part_handed p store out ≡ handed_of p.gathering v out
  unfolding part_handed handed_of
  shadow_handed out = rw (bodies_same, x.long)

  pub shadow_out : (out : List ℕ) → part_out p store out ≡ out_after p.gathering v out
  unfolding part_out out_after
  shadow_out out = rw (bodies_same, shadow_handed out)
