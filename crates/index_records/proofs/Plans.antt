-- What is planned before a record is laid is what the table says: its count, its records, and the refusals before them.
use Prim.Native.Nat.{ℕ, zero, suc, ◌+◌, ◌≤◌, ◌<◌}
use Rattle.std.specs.Prelude.{Result, Ok, Err}
use Rattle.std.proofs.Common.{add-one}
use mathlib.Core.Path.{◌≡◌, refl, sym, ap, ap₂, subst, ◌∙◌}
use mathlib.Core.List.{List, ◌++◌}
use native.Mathlib.Omega.{arith}
use lib.ListN.{length, drop, set}
use lib.Seq.{sets, sets-eq}
use native.Mathlib.Nat.{zero-add}
use borrow.Author.Tests.{le-leb, lt-leb}
use Rattle.ground_refusal.specs.declared.Refusal.{Refusal}
use Rattle.ground_refusal.specs.declared.Refusal.TheVariants.{OutputTooSmall, LeftOver}
use Rattle.body_formats.specs.Reading.{Reading, found, refused}
use Rattle.body_formats.specs.Format.{count, repeat}
use Rattle.body_formats.specs.Answers.{step_of}
use Rattle.body_formats.specs.Body.{reading, body_read}
use Rattle.body_formats.proofs.Classes.{Bytes}
use Rattle.body_formats.proofs.Elements.{exact_found, view_found, followed_found, list_found}
use Rattle.body_formats.proofs.Laying.{table}
use Rattle.body_formats.proofs.RoundTrips as trips
use Rattle.index.specs.Index.{Message, message, Index, fields, index, index_kind}
use Rattle.index.proofs.Lawful.{index_filling}
use Rattle.index_records.specs.Records.{records_of, recorded_over, recording, body_recorded, recorded}
use Rattle.index_records.specs.Steps.{standing, placed_at, records_from, records_in, count_in, many_planned, Planned}
use Rattle.index_records.specs.declared.Record.{Record}
use Rattle.index_records.proofs.Places.{count_stands, messages_placed}

-- ---- the plan

-- an accepted body's messages, from position 1 on
module _ (kind : ℕ) (s : List ℕ) (b : Bytes s) (t : Index) (q : ℕ) (e : reading index index_kind kind s ≡ found t q) where
  pub messages_read : (standing s 0 1 ≡ length t.messages)
      × (end : ℕ) × (repeat (message.parse s (length s)) (length t.messages) 1 ≡ found t.messages end)
  unfolding index fields
  messages_read =
      let a = trips.accepted index index_filling index_kind kind s b t q e in
      let v = view_found _ _ fields s (length s) 0 t q (exact_found LeftOver _ s (length s) 0 t q a.2).0 in
      let f = followed_found _ _ s (length s) 0 v.0 q v.1 in
      let g = list_found (count 1) message s (length s) 0 v.0.0 f.0 f.1 in
      let c = count_stands 1 s (length s) 0 (length v.0.0) g.0 g.1 in
      subst (λ (ms : List Message). (standing s 0 1 ≡ length ms) × (end : ℕ) × (repeat (message.parse s (length s)) (length ms) 1 ≡ found ms end))
      (ap (λ t. t.messages) v.2)
      (c.0, f.0, ap (repeat (message.parse s (length s)) (length v.0.0)) (sym c.1) ∙ g.2)

  table_stands : (standing s 0 1 ≡ length t.messages) × (records_from s 1 (length t.messages) ≡ records_of t.messages 1)
  table_stands =
      let small = (trips.accepted index index_filling index_kind kind s b t q e).1 in
      let r = messages_read in
      (r.0, messages_placed s b small (length t.messages) 1 t.messages r.1 r.2)

module _ (kind : ℕ) (s : List ℕ) (room : ℕ) where
  pub plan_no : (r : Refusal) → Err r ≡ body_read index index_kind kind s → Planned kind s room (Err r)
  unfolding body_read recording
  plan_no r e =
      let x : reading index index_kind kind s ≡ refused r = go (reading index index_kind kind s) e in
      record { said = rw x; many = rw x; laid = rw x; fits = omega arith }
    where
      go : (x : Reading Index) → Err r ≡ step_of x → x ≡ refused r
      go (refused t) g = let a : t ≡ r = cc in ap refused a
      go (found a q) g = absurd (let z : ◌≡◌ {A = ℕ} 0 1 = cc in omega arith)

  module _ (b : Bytes s) (n q : ℕ) (e : Ok q ≡ body_read index index_kind kind s) (stands : n ≡ standing s 0 1) where
    -- the count is the table's
    counted : n ≡ length (table index index_kind kind s q e).0.messages
    counted = stands ∙ (table_stands kind s b (table index index_kind kind s q e).0 q (table index index_kind kind s q e).1).0

    pub plan_small : room < n → Planned kind s room (Err OutputTooSmall)
    unfolding recording
    plan_small h =
        let t = table index index_kind kind s q e in
        let x = lt-leb (length t.0.messages) room (omega (arith, counted)) in
        record { said = rw (t.1, x); many = rw (t.1, x); laid = rw (t.1, x); fits = omega arith }

    pub plan_all : n ≤ room → Planned kind s room (Ok n)
    unfolding recording
    plan_all h =
        let t = table index index_kind kind s q e in
        let x = le-leb (length t.0.messages) room (omega (arith, counted)) in
        record { said = rw (t.1, x, counted); many = rw (t.1, x, counted); laid = rw (t.1, x, counted) (table_stands kind s b t.0 q t.1).1; fits = h }

-- ---- the list, when the planned records are laid

length_records : (s : List ℕ) (p n : ℕ) → length (records_from s p n) ≡ n
length_records s p zero = refl
length_records s p (suc n) = ap suc (length_records s (placed_at s p).1 n)

-- a record laid is the first of those that were still to be laid
pub laid_turn : (s : List ℕ) (list : List Record) (p i m k : ℕ) → m ≡ suc k
    → sets list i (records_from s p m) ≡ sets (set list i (placed_at s p).0) (i + 1) (records_from s (placed_at s p).1 k)
laid_turn s list p i m k e =
    rw e (ap (λ (j : ℕ). sets (set list i (placed_at s p).0) j (records_from s (placed_at s p).1 k)) (sym (add-one i)))

module _ (kind : ℕ) (s : List ℕ) (list : List Record) (plan : Result ℕ Refusal) (h : Planned kind s (length list) plan) where
  pub answers : plan ≡ body_recorded kind s (length list)
  unfolding body_recorded
  answers = h.said

  pub laid_recorded : sets list 0 (records_from s 1 (many_planned plan)) ≡ recorded kind s list
  unfolding recorded
  laid_recorded =
      let n = length_records s 1 (many_planned plan) in
      sets-eq (records_from s 1 (many_planned plan)) list 0 (omega (arith, n, h.fits))
      ∙ ap (λ (k : ℕ). records_from s 1 (many_planned plan) ++ drop k list) (zero-add (length (records_from s 1 (many_planned plan))) ∙ n)
      ∙ ap₂ (λ rs (k : ℕ). rs ++ drop k list) h.laid h.many
      ∙ over (recording kind s (length list))
    where
      over : (x : Reading Index) → records_in x ++ drop (count_in x) list ≡ recorded_over list x
      over (found t n) = refl
      over (refused r) = refl
