-- What a reader has to believe of the message records of an accepted body: record i is message i's, and the other records stay.
use Rattle.std.specs.Prelude.{ℕ, ◌≤◌, ◌<◌, ◌≡◌, List, length, get_or, Ok, Err}
use Rattle.ground_refusal.specs.declared.Refusal.TheVariants.{OutputTooSmall}
use Rattle.body_asking.specs.Agreement.{FollowsLength, InTurn}
use Rattle.index.specs.Index.{Message, message, Index}
use Rattle.index_records.specs.Records.{body_recorded, recorded}
use Rattle.index_records.specs.declared.Record.{Record}

-- the record of the message m, which stands from p to q: it tells the part that follows the EBM_length of two bytes
pub record RecordIs (s : List ℕ) (r : Record) (m : Message) (p q : ℕ) : Type 0 where
  pub part_follows : FollowsLength 2 s (Ok (r.at, r.length)) (message.print m) p r.length q
  pub start_is : r.start ≡ m.start
  pub end_is : r.end ≡ m.end
  pub class_is : r.class ≡ m.class
  pub level_is : r.level ≡ m.level

-- "messages are laid in a lent list of message records (where each begins, its length, start, end, class, level); records past the count stay"
pub record RecordsLaid (kind : ℕ) (s : List ℕ) (t : Index) (list : List Record) : Type 0 where
  pub answers : body_recorded kind s (length list) ≡ Ok (length t.messages)
  -- the messages stand one after the other from byte 1 on
  pub messages_end : ℕ
  pub records_are : (d : Record) → InTurn (λ i. RecordIs s (get_or (recorded kind s list) i d)) 0 t.messages 1 messages_end
  pub others_stay : (d : Record) (i : ℕ) → length t.messages ≤ i → get_or (recorded kind s list) i d ≡ get_or list i d
  pub as_long : length (recorded kind s list) ≡ length list

-- of a body of this kind, with the table t: "21: output buffer or record list too small"
pub record RecordsAre (kind : ℕ) (s : List ℕ) (t : Index) : Type 0 where
  pub laid : (list : List Record) → length t.messages ≤ length list → RecordsLaid kind s t list
  pub too_small : (list : List Record) → length list < length t.messages
      → (body_recorded kind s (length list) ≡ Err OutputTooSmall) × (recorded kind s list ≡ list)
