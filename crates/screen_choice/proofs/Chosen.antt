-- The choice of an accepted body: by the library's promises its table's messages stand in it one after the other, so the walk answers as is defined.
use Prim.Native.Nat.{ℕ}
use Rattle.std.specs.Prelude.{Result, Ok, Err, Option}
use Rattle.screen_order.specs.declared.Candidate.{Candidate}
use mathlib.Core.Path.{◌≡◌, sym, ap, ◌∙◌}
use mathlib.Core.Bool.{true, false}
use mathlib.Core.List.{List}
use native.Mathlib.Omega.{arith}
use lib.ListN.{length}
use Rattle.ground_refusal.specs.declared.Refusal.{Refusal}
use Rattle.ground_refusal.specs.declared.Refusal.TheVariants.{DigitAboveNine, ImpossibleDay}
use Rattle.crc.specs.Crc.{AreBytes}
use Rattle.time_fields.specs.Field.{is_instant}
use Rattle.time_fields.specs.declared.Moment.{Moment}
use Rattle.body_formats.specs.Reading.{Reading, found, refused}
use Rattle.body_formats.specs.Format.{◌▷◌, count, followed, list_of, opaque, view, exact, every, some}
use Rattle.body_formats.specs.Answers.{step_of}
use Rattle.body_formats.specs.Body.{reading, body_read}
use Rattle.body_formats.specs.Resource.{resource}
use Rattle.index.specs.Index.{message, Index, fields, index, index_kind}
use Rattle.index_fields.specs.Asked.{message_count}
use Rattle.promises.specs.Demand2.{Holds}
use Rattle.promises.proofs.Demand2.{demand2}
use Rattle.screen_code.specs.Code.{is_code}
use Rattle.screen_code.proofs.Same.{both}
use Rattle.screen_choice.specs.Choice.{nobody, leader, choice_of}
use Rattle.screen_choice.specs.Walk.{worth_of, choice_told, Standing, Table, Walked}
use Rattle.screen_choice.proofs.Leading.{told_answer}
use Rattle.screen_choice.proofs.Messages.{neither}

-- ---- an accepted body

step_found : {A : Type 0} (x : Reading A) (n : ℕ) → step_of x ≡ Ok n → (a : A) × (x ≡ found a n)
step_found (found a q) n e = let z : q ≡ n = cc in (a, ap (found a) z)
step_found (refused r) n e = absurd (let z : ◌≡◌ {A = ℕ} 0 1 = cc in omega arith)

step_refused : {A : Type 0} (x : Reading A) (r : Refusal) → step_of x ≡ Err r → x ≡ refused r
step_refused (found a q) r e = absurd (let z : ◌≡◌ {A = ℕ} 0 1 = cc in omega arith)
step_refused (refused t) r e = let z : t ≡ r = cc in ap refused z

module _ (kind : ℕ) (s : List ℕ) (b : AreBytes s) where
  -- it is the bytes of a table
  pub holds : (q : ℕ) → Ok q ≡ body_read index index_kind kind s
      → (t : Index) × (reading index index_kind kind s ≡ found t (length s)) × Holds index index_kind kind s t
  unfolding body_read
  holds q e =
      let x = step_found (reading index index_kind kind s) q (sym e) in
      let z = demand2.indexes.ends kind s q b (sym e) in
      let f = x.1 ∙ ap (found x.0) z in
      (x.0, f, (demand2.indexes.reads_exactly kind s x.0 b).0 f)

  -- whose messages stand in it
  pub stand : (t : Index) → Holds index index_kind kind s t → Standing s 0 t.messages 1
  unfolding index exact view fields followed list_of count
  stand t h =
      let asked = demand2.indexes_asked kind s t b h in
      record {
        end = asked.messages_end;
        in_turn = asked.messages_asked;
        writable = (both (every message.writable t.messages) ((opaque 2).writable t.signature) h.formed.writable).0;
        small =
            (neither ((count 1).too_large (length t.messages)) (some message.too_large t.messages)
            (neither ((list_of (count 1) message).too_large t.messages) ((opaque 2).too_large t.signature) h.formed.small).0).1;
      }

  pub tabled : (code own : List ℕ) (n : ℕ) (t : Index) → Holds index index_kind kind s t → n ≡ worth_of (message_count s) → is_code code ≡ true
      → own ≡ resource.print code → Table s n own code t.messages
  tabled code own n t h e c o =
      record {
        standing = stand t h;
        counted = e ∙ ap worth_of (demand2.indexes_asked kind s t b h).messages_counted;
        own_is = o;
        is_code_lem = c;
      }

-- ---- each way out

module _ (kind : ℕ) (s code : List ℕ) (present : Moment) where
  pub choice_no_code : is_code code ≡ false → Err (DigitAboveNine 0) ≡ choice_of kind s code present
  unfolding choice_of
  choice_no_code e = rw e

  module _ (c : is_code code ≡ true) where
    pub choice_no_instant : is_instant present ≡ false → Err (ImpossibleDay 0) ≡ choice_of kind s code present
    unfolding choice_of
    choice_no_instant e = rw (c, e)

    module _ (i : is_instant present ≡ true) where
      pub choice_refused : (r : Refusal) → Err r ≡ body_read index index_kind kind s → Err r ≡ choice_of kind s code present
      unfolding choice_of body_read
      choice_refused r e = rw (c, i, step_refused (reading index index_kind kind s) r (sym e))

      pub choice_walked : AreBytes s → (q : ℕ) → Ok q ≡ body_read index index_kind kind s → (own : List ℕ) (n : ℕ) → own ≡ resource.print code
          → n ≡ worth_of (message_count s) → (best : Option Candidate) → Walked s n own present best → (r : Result (Option (ℕ × ℕ × ℕ)) Refusal) → r ≡ choice_told best → r ≡ choice_of kind s code present
      unfolding choice_of
      choice_walked b q e own n o f best w r g =
          let h = holds kind s b q e in
          let t = tabled kind s b code own n h.0 h.2 f c o in
          g ∙ told_answer s best (leader code present nobody 0 h.0.messages) (w code h.0.messages t) ∙ rw (c, i, h.1)
