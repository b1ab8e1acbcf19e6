-- The records laid of an accepted body are its messages': both stand one after the other, each where the bytes of the one before end.
use Prim.Native.Nat.{ℕ, suc, ◌+◌, ◌-◌, ◌≤◌, ◌<◌}
use Rattle.std.specs.Prelude.{Err}
use mathlib.Core.Path.{◌≡◌, refl, sym, ap, ap₂, subst, ◌∙◌}
use mathlib.Core.List.{List, [], ◌∷◌, ◌++◌}
use native.Mathlib.Omega.{arith}
use native.Mathlib.Nat.{add-zero, zero-add}
use lib.ListN.{length, get_or, take, drop, length-append, length-drop, get_or-append}
use lib.Seq.{get_or-append-add, get_or-drop}
use borrow.Author.Tests.{le-leb, lt-leb}
use Rattle.ground_refusal.specs.declared.Refusal.TheVariants.{OutputTooSmall}
use Rattle.body_formats.specs.Reading.{found}
use Rattle.body_formats.specs.Body.{reading}
use Rattle.body_formats.proofs.Classes.{Bytes}
use Rattle.body_asking.specs.Agreement.{InTurn}
use Rattle.body_asking.proofs.Turns.{read_in_turn, follows_length, follows_takes}
use Rattle.index.specs.Index.{Message, message, Index, index, index_kind}
use Rattle.index.proofs.Lawful.{inner_filling}
use Rattle.index_records.specs.Records.{record_of, records_of, recording, body_recorded, recorded}
use Rattle.index_records.specs.Agreement.{RecordIs, RecordsLaid, RecordsAre}
use Rattle.index_records.specs.declared.Record.{Record}
use Rattle.index_records.proofs.Plans.{messages_read}

length_records : (ms : List Message) (p : ℕ) → length (records_of ms p) ≡ length ms
unfolding records_of
length_records [] p = refl
length_records (m ∷ ms) p = ap suc (length_records ms (p + length (message.print m)))

module _ (s : List ℕ) (b : Bytes s) where
  -- a message that was read from p to q, and its record
  record_is : (m : Message) (p q : ℕ) → message.parse s (length s) p ≡ found m q → RecordIs s (record_of m p) m p q × (q ≡ p + length (message.print m))
  unfolding message
  record_is m p q e =
      let f = follows_length 2 _ inner_filling s b p m q e in
      let takes = follows_takes 2 s _ (message.print m) p f.0 q f.1 in
      let size : length (message.print m) - 2 ≡ f.0 = omega (arith, takes) in (
        record {
          part_follows = record {
            is = refl;
            ends = omega (arith, size, f.1.ends);
            in_body_lem = f.1.in_body_lem;
            bytes = ap (λ (k : ℕ). take (2 + k) (drop p s)) size ∙ f.1.bytes;
          };
          start_is = refl;
          end_is = refl;
          class_is = refl;
          level_is = refl;
        },
        omega (arith, takes, f.1.ends),
      )

  -- a list that has the records of the messages from number i on
  module _ (d : Record) (rs : List Record) where
    records_in_turn : (i : ℕ) (ms : List Message) (p q : ℕ) → ((j : ℕ) → j < length ms → get_or rs (i + j) d ≡ get_or (records_of ms p) j d)
        → InTurn (λ k m a r. message.parse s (length s) a ≡ found m r) i ms p q → InTurn (λ k. RecordIs s (get_or rs k d)) i ms p q
    unfolding InTurn records_of
    records_in_turn i [] p q same h = h
    records_in_turn i (m ∷ ms) p q same h =
        let r = h.0 in
        let f = record_is m p r h.1 in
        let here : record_of m p ≡ get_or rs i d = sym (same 0 (omega arith)) ∙ ap (λ (k : ℕ). get_or rs k d) (add-zero i) in
        let others : (j : ℕ) → j < length ms → get_or rs (suc i + j) d ≡ get_or (records_of ms r) j d =
        λ j k.
        let z : suc i + j ≡ i + suc j = omega arith in
        ap (λ (u : ℕ). get_or rs u d) z ∙ same (suc j) (omega arith) ∙ ap (λ (u : ℕ). get_or (records_of ms u) j d) (sym f.1) in
        (r, subst (λ (x : Record). RecordIs s x m p r) here f.0, records_in_turn (suc i) ms r q others h.2)

module _ (kind : ℕ) (s : List ℕ) (b : Bytes s) (t : Index) (q : ℕ) (e : reading index index_kind kind s ≡ found t q) (list : List Record) where
  abbrev ms : List Message
  ms = t.messages

  module _ (room : length ms ≤ length list) where
    list_is : recorded kind s list ≡ records_of ms 1 ++ drop (length ms) list
    unfolding recorded recording
    list_is = rw (e, le-leb (length ms) (length list) room)

    in_turn : (d : Record) → InTurn (λ i. RecordIs s (get_or (recorded kind s list) i d)) 0 ms 1 (messages_read kind s b t q e).1
    in_turn d =
        let r = messages_read kind s b t q e in
        let n = length_records ms 1 in
        let same : (j : ℕ) → j < length ms → get_or (recorded kind s list) (0 + j) d ≡ get_or (records_of ms 1) j d =
        λ j k.
        ap₂ (λ (rs : List Record) (u : ℕ). get_or rs u d) list_is (zero-add j)
        ∙ get_or-append (records_of ms 1) (drop (length ms) list) d j (omega (arith, n)) in
        records_in_turn s b d (recorded kind s list) 0 ms 1 r.1 same
        (read_in_turn message message s (length s) (λ p m u h. (m, h)) 1 ms r.1 r.2 (λ k m a u. message.parse s (length s) a ≡ found m u)
        (λ k m a u h. h.here))

    stays : (d : Record) (i : ℕ) → length ms ≤ i → get_or (recorded kind s list) i d ≡ get_or list i d
    stays d i h =
        let rs = records_of ms 1 in
        let k = i - length ms in
        let at : i ≡ length rs + k = omega (arith, length_records ms 1) in
        ap₂ (λ (ys : List Record) (u : ℕ). get_or ys u d) list_is at
        ∙ get_or-append-add rs (drop (length ms) list) k d
        ∙ get_or-drop (length ms) list k d
        ∙ ap (λ (u : ℕ). get_or list u d) (let z : length ms + k ≡ i = omega arith in z)

    records_laid : RecordsLaid kind s t list
    unfolding body_recorded recording
    records_laid =
        record {
          answers = rw (e, le-leb (length ms) (length list) room);
          messages_end = (messages_read kind s b t q e).1;
          records_are = in_turn;
          others_stay = stays;
          as_long = ap length list_is ∙ simp (length-append, length-drop) (omega (arith, length_records ms 1));
        }

  none_laid : length list < length ms → (body_recorded kind s (length list) ≡ Err OutputTooSmall) × (recorded kind s list ≡ list)
  unfolding body_recorded recorded recording
  none_laid small =
      let x = lt-leb (length ms) (length list) small in
      (rw (e, x), rw (e, x))

pub records_are : (kind : ℕ) (s : List ℕ) → Bytes s → (t : Index) (q : ℕ) → reading index index_kind kind s ≡ found t q → RecordsAre kind s t
records_are kind s b t q e = record { laid = records_laid kind s b t q e; too_small = none_laid kind s b t q e }
