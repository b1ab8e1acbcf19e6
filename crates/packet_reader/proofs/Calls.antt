-- Laws of the call: what each way out of it says of answer, output and state.
use Prim.Native.Nat.{ℕ, ◌+◌, ◌-◌, ◌≤◌, ◌<◌}
use Rattle.std.specs.Prelude.{Result, Ok, Err}
use mathlib.Core.Bool.{true, false}
use mathlib.Core.List.{List, [], ◌++◌}
use mathlib.Core.Path.{◌≡◌, refl, sym, ap, ◌∙◌, subst}
use native.Mathlib.Omega.{arith}
use borrow.Author.Tests.{lt-ltb, le-ltb}
use lib.ListN.{length, take, drop, length-append, length-drop}
use lib.Seq.{length-take-le, take-take}
use Rattle.ground_placing.specs.Placed.{placed}
use Rattle.ground_placing.proofs.Placing.{placed_none, placed_next}
use Rattle.ground_refusal.specs.declared.Refusal.{Refusal}
use Rattle.ground_refusal.specs.declared.Refusal.TheVariants.{OutputTooSmall}
use Rattle.packet.specs.Sizes.{packet_bytes}
use Rattle.packet.specs.Judging.{judged}
use Rattle.packet.specs.declared.Judged.TheVariants.{Damaged, Skipped, Carrying}
use Rattle.packet.proofs.Judging.{carried}
use Rattle.packet_frames.specs.Framing.{is_begun, unfinished_most, joined}
use Rattle.packet_frames.proofs.Growing.{begun_short}
use Rattle.packet_plan.specs.declared.Plan.{Plan}
use Rattle.packet_plan.specs.Reading.{read_on}
use Rattle.packet_plan.specs.Plans.{given, Planned}
use Rattle.packet_plan.proofs.Reading.{left_begun}
use Rattle.packet_plan.proofs.Plans.{given_length}
use Rattle.packet_memory.specs.Memory.{Memory, fresh, held_after, repeated_once, is_repeat, going_on}
use Rattle.packet_memory.specs.State.{unfinished_at, may_leave, memory_of}
use Rattle.packet_memory.specs.Keeping.{part_of, Leaves, marked, holding}
use Rattle.packet_memory.proofs.Leaving.{leaves_may}
use Rattle.packet_reader.specs.Unpacking.{Verdict, refuses, gives, fitting, carrying, verdict_on, unpacking}
use Rattle.packet_reader.specs.Answers.{answer_by, output_by, state_read, state_taken, state_on, state_after, Unpacks, Kept}

-- ---- runs of bytes laid one after the other

laid_two : (d a b d₁ d₂ : List ℕ) (k : ℕ) → d₁ ≡ placed d 0 a → d₂ ≡ placed d₁ k b → k ≡ length a → length a ≤ length d
    → d₂ ≡ placed d 0 (a ++ b)
laid_two d a b d₁ d₂ k e f g h = f ∙ ap (λ l. placed l k b) e ∙ placed_next d 0 a (omega arith) b k (g ∙ omega arith)

pub laid_three : (d a b c d₁ d₂ d₃ : List ℕ) (k l : ℕ) → d₁ ≡ placed d 0 a → d₂ ≡ placed d₁ k b → d₃ ≡ placed d₂ l c
    → k ≡ length a → l ≡ length a + length b → length a + length b ≤ length d → d₃ ≡ placed d 0 (a ++ b ++ c)
laid_three d a b c d₁ d₂ d₃ k l e f g m n h =
    let long = length-append a b in
    laid_two d (a ++ b) c d₂ d₃ l (laid_two d a b d₁ d₂ k e f m (omega arith)) g (omega arith) (omega arith)

-- ---- what a verdict makes

module _ (v : Verdict) (after out : List ℕ) where
  pub by_refusal : (r : Refusal) (left : List ℕ) → v ≡ refuses r → left ≡ after → Unpacks v after out (Err r) left out
  unfolding answer_by output_by
  by_refusal r left e f = record { told = rw e; state = f; output = rw e }

  pub by_giving : (ss : List (List ℕ)) (m : Memory) (left written : List ℕ) (n : ℕ)
      → v ≡ gives ss m → n ≡ length (joined ss) → written ≡ placed out 0 (joined ss) → left ≡ after
      → Unpacks v after out (Ok n) left written
  unfolding answer_by output_by
  by_giving ss m left written n e f g h = record { told = rw (e, f); state = h; output = rw e g }

  -- where nothing is given
  pub by_nothing : (m : Memory) (left : List ℕ) → v ≡ gives [] m → left ≡ after → Unpacks v after out (Ok 0) left out
  unfolding joined
  by_nothing m left e h = by_giving [] m left out 0 e refl (sym (placed_none out 0)) h

-- ---- a packet that is read

-- the part of the state that is lent for the unfinished bytes
part_is : (s : List ℕ) (kept : ℕ) → take (unfinished_at + kept - unfinished_at) (drop unfinished_at s) ≡ take kept (drop unfinished_at s)
part_is s kept = ap (λ (n : ℕ). take n (drop unfinished_at s)) less
  where
    less : unfinished_at + kept - unfinished_at ≡ kept
    less = omega arith

pub part_may : (s : List ℕ) (kept : ℕ) → is_begun (take kept (drop unfinished_at s)) ≡ true
    → (is_begun (take (unfinished_at + kept - unfinished_at) (drop unfinished_at s)) ≡ true)
    × (length (take (unfinished_at + kept - unfinished_at) (drop unfinished_at s)) ≤ unfinished_most)
part_may s kept b =
    let e = ap is_begun (part_is s kept) ∙ b in
    (e, begun_short (take (unfinished_at + kept - unfinished_at) (drop unfinished_at s)) e)

module _ (s p : List ℕ) (kept : ℕ) (q : Kept s kept p) (plan : Plan)
    (w : Planned (take (unfinished_at + kept - unfinished_at) (drop unfinished_at s)) p plan) where
  -- the unfinished bytes
  u : List ℕ
  u = take kept (drop unfinished_at s)

  v : Planned u p plan
  unfolding u
  v = subst (λ t. Planned t p plan) (part_is s kept) w

  u_length : length u ≡ kept
  unfolding u
  u_length = length-take-le kept (drop unfinished_at s) (let l = length-drop unfinished_at s in let n = q.size in let k = q.most in omega arith)

  -- what is left, as the state holds it
  left_is : (read_on u p).unfinished ≡ part_of s p plan.goes plan.left
  unfolding u part_of
  left_is =
      let g = v.goes in
      let z = u_length in
      v.unfinished ∙ ap (λ t. t ++ drop plan.left p) (take-take plan.goes kept (drop unfinished_at s) (omega arith))

  left_begins : is_begun (part_of s p plan.goes plan.left) ≡ true
  unfolding u
  left_begins = ap is_begun (sym left_is) ∙ left_begun u p q.begun

  pub leaves : Leaves s p plan.goes plan.left
  unfolding part_of
  leaves =
      let n = q.size in
      let size = (carried p q.carries).size in
      let a = begun_short (part_of s p plan.goes plan.left) left_begins in
      let e = length-append (take plan.goes (drop unfinished_at s)) (drop plan.left p) in
      let g = v.goes in
      let h = v.left in
      let i = u_length in
      let k = q.most in
      let j = length-take-le plan.goes (drop unfinished_at s) (let l = length-drop unfinished_at s in omega arith) in
      let l = length-drop plan.left p in
      record {
        size = n;
        packet = size;
        within = omega arith;
        most = omega arith;
        carries = q.carries;
        begun = left_begins;
        may = ap (may_leave p) (sym left_is) ∙ leaves_may u p;
      }

  module _ (out : List ℕ) (g : ℕ) (e : g ≡ plan.ended + (plan.upto - plan.from) + (plan.stop - plan.first)) where
    pub read_small : length out < g
        → Unpacks (fitting (length out) p (read_on (take kept (drop unfinished_at s)) p)) (state_read s (length out) p (read_on (take kept (drop unfinished_at s)) p))
        out (Err OutputTooSmall) s out
    unfolding fitting state_read u
    read_small h =
        let l = given_length u p plan v in
        let t = lt-ltb (length out) (length (joined (read_on u p).sections)) (omega arith) in
        by_refusal _ _ out _ s (rw t) (rw t)

    pub read_fits : g ≤ length out → (left written : List ℕ)
        → written ≡ placed out 0 (given plan (take (unfinished_at + kept - unfinished_at) (drop unfinished_at s)) p)
        → left ≡ holding s (part_of s p plan.goes plan.left) p
        → Unpacks (fitting (length out) p (read_on (take kept (drop unfinished_at s)) p)) (state_read s (length out) p (read_on (take kept (drop unfinished_at s)) p))
        out (Ok g) left written
    unfolding fitting state_read u
    read_fits h left written x y =
        let l = given_length u p plan v in
        let t = le-ltb (length out) (length (joined (read_on u p).sections)) (omega arith) in
        by_giving (fitting (length out) p (read_on u p)) (state_read s (length out) p (read_on u p)) out (read_on u p).sections
        (held_after (read_on u p).unfinished p) left written g
        (rw t)
        (e ∙ sym l)
        (x ∙ ap (λ r. placed out 0 (given plan r p)) (part_is s kept) ∙ ap (placed out 0) (sym v.sections))
        (y ∙ ap (λ r. holding s r p) (sym left_is) ∙ rw t)

-- ---- a packet that is taken

module _ (s p out : List ℕ) where
  pub carry_repeat : is_repeat (memory_of s) p ≡ true → (left : List ℕ) → left ≡ marked 2 s
      → Unpacks (carrying (length out) (memory_of s) p) (state_taken s (length out) p) out (Ok 0) left out
  unfolding carrying state_taken
  carry_repeat e left f = by_nothing _ _ out (repeated_once (memory_of s)) left (rw e) (rw e f)

  pub carry_read : is_repeat (memory_of s) p ≡ false → (k : ℕ) → going_on (memory_of s) p ≡ take k (drop unfinished_at s)
      → (r : Result ℕ Refusal) (left written : List ℕ)
      → Unpacks (fitting (length out) p (read_on (take k (drop unfinished_at s)) p)) (state_read s (length out) p (read_on (take k (drop unfinished_at s)) p))
      out r left written
      → Unpacks (carrying (length out) (memory_of s) p) (state_taken s (length out) p) out r left written
  unfolding carrying state_taken
  carry_read e k g r left written q = rw (e, g) q

-- ---- any byte string

module _ (s p out : List ℕ) where
  pub unpack_refused : (r : Refusal) → judged p ≡ Err r
      → Unpacks (unpacking (length out) (memory_of s) p) (state_after s p out) out (Err r) s out
  unfolding unpacking verdict_on state_after state_on
  unpack_refused r e = by_refusal _ _ out r s (rw e) (rw e)

  pub unpack_damaged : judged p ≡ (Ok Damaged) → (left : List ℕ) → left ≡ marked 0 s
      → Unpacks (unpacking (length out) (memory_of s) p) (state_after s p out) out (Ok 0) left out
  unfolding unpacking verdict_on state_after state_on
  unpack_damaged e left f = by_nothing _ _ out fresh left (rw e) (rw e f)

  pub unpack_skipped : judged p ≡ (Ok Skipped) → Unpacks (unpacking (length out) (memory_of s) p) (state_after s p out) out (Ok 0) s out
  unfolding unpacking verdict_on state_after state_on
  unpack_skipped e = by_nothing _ _ out (memory_of s) s (rw e) (rw e)

  pub unpack_carries : judged p ≡ (Ok Carrying) → (r : Result ℕ Refusal) (left written : List ℕ)
      → Unpacks (carrying (length out) (memory_of s) p) (state_taken s (length out) p) out r left written
      → Unpacks (unpacking (length out) (memory_of s) p) (state_after s p out) out r left written
  unfolding unpacking verdict_on state_after state_on
  unpack_carries e r left written q = rw e q
