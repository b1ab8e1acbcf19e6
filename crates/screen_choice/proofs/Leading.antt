-- Laws of the one to show: what is kept of it goes with what is defined, message after message.
use Prim.Native.Nat.{ℕ}
use Rattle.std.specs.Prelude.{Ok, Option, Some, None}
use mathlib.Core.Path.{◌≡◌, refl, sym, ap, ap₂, ◌∙◌}
use mathlib.Core.Bool.{Bool, true, false, ◌&&◌, cond}
use mathlib.Core.List.{List}
use Rattle.time_fields.specs.Showing.{showing}
use Rattle.time_fields.specs.declared.Moment.{Moment}
use Rattle.index.specs.Index.{Message}
use Rattle.index_fields.specs.Asked.{message_part}
use Rattle.screen_order.specs.Order.{comes_first, rank_of, better_of}
use Rattle.screen_order.specs.declared.Candidate.{Candidate}
use Rattle.screen_choice.specs.Choice.{concerns, is_on, eligible, rank, Leader, nobody, leads, passed_by, answer_of}
use Rattle.screen_choice.specs.Walk.{choice_told, Stands, candidate_of, Keeps, Told, Concerning, Timely}
use Rattle.screen_choice.proofs.Fields.{keeps}

rank_kept : (s : List ℕ) (c : Candidate) (i : ℕ) (m : Message) → Keeps s c i m → rank_of c ≡ rank i m
unfolding rank
rank_kept s c i m k = rw (k.level_is, k.day_is, k.second_is, k.number_is)

pub told_better : (s : List ℕ) (best : Option Candidate) (so_far : Leader) (c : Candidate) (i : ℕ) (m : Message) → Told s best so_far → Keeps s c i m
    → Told s (better_of best c) (passed_by so_far i m)
unfolding better_of
told_better s None nobody c i m t k = k
told_better s None (leads j held) c i m t k = absurd t
told_better s (Some h) nobody c i m t k = absurd t
told_better s (Some h) (leads j held) c i m t k =
    rw (rank_kept s c i m k, rank_kept s h j held t) (go (comes_first (rank i m) (rank j held)))
  where
    go : (first : Bool) → Told s (cond first (Some c) (Some h)) (cond first (leads i m) (leads j held))
    go true = k
    go false = t

-- what is told of it is the answer
pub told_answer : (s : List ℕ) (best : Option Candidate) (so_far : Leader) → Told s best so_far → choice_told best ≡ answer_of s so_far
told_answer s None nobody t = refl
told_answer s None (leads i m) t = absurd t
told_answer s (Some c) nobody t = absurd t
told_answer s (Some c) (leads i m) t = rw (t.part_is, t.number_is)

-- ---- one more message

module _ (s : List ℕ) (at n i : ℕ) (own : List ℕ) (present : Moment) (best : Option Candidate) (code : List ℕ) (m : Message) (so_far : Leader)
    (st : Stands s at n own code m) (part : message_part s i ≡ Ok (at, n)) (told : Told s best so_far) where
  passed_over : eligible code present m ≡ false → Told s best (cond (eligible code present m) (passed_by so_far i m) so_far)
  passed_over e = rw e told

  and_false : (b : Bool) → b && false ≡ false
  and_false true = refl
  and_false false = refl

  pub not_on : (r : Bool) → Timely s at n present r → r ≡ false → Told s best (cond (eligible code present m) (passed_by so_far i m) so_far)
  unfolding eligible
  not_on r t e = passed_over (ap (λ b. concerns code m && b) (sym (t m st.asked) ∙ e) ∙ and_false (concerns code m))

  pub not_concerned : (r : Bool) → Concerning s at n own r → r ≡ false → Told s best (cond (eligible code present m) (passed_by so_far i m) so_far)
  unfolding eligible
  not_concerned r t e = passed_over (ap (λ b. b && is_on (showing m.start m.end present)) (sym (t code m st) ∙ e))

  pub may_show : (r q : Bool) → Timely s at n present r → r ≡ true → Concerning s at n own q → q ≡ true → (c : Candidate) → c ≡ candidate_of s at n i
      → (x : Option Candidate) → x ≡ better_of best c → Told s x (cond (eligible code present m) (passed_by so_far i m) so_far)
  unfolding eligible
  may_show r q t e u f c g x h =
      let on = sym (t m st.asked) ∙ e in
      let con = sym (u code m st) ∙ f in
      rw (con, on, h, g) (told_better s best so_far (candidate_of s at n i) i m told (keeps s at n i m present st.asked on part))
