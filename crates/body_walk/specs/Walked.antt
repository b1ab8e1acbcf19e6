-- What a reader has to believe of a walk through a body: a dry one says where it ends, a wet one also lays the entries on a tape.
use Rattle.std.specs.Prelude.{ℕ, ◌+◌, ◌-◌, ◌≤◌, ◌<◌, ◌≡◌, List, Bool, true, false, length, get_or, leb, eqb, if◌then◌else◌, Result, Ok, Err}
use Rattle.ground_refusal.specs.declared.Refusal.{Refusal}
use Rattle.ground_refusal.specs.declared.Refusal.TheVariants.{OutputTooSmall}
use Rattle.ground_placing.specs.Placed.{placed}
use Rattle.body_formats.specs.Reading.{Reading, found, refused, value_of}
use Rattle.body_formats.specs.Format.{Format, Length, counted, rest}
use Rattle.body_formats.specs.Answers.{part_of}

-- Where a walk goes on: the position after what was found, and the room that its entries leave. Room counts one more than the entries
-- that still fit on the tape, so that 0 says that those so far did not.
abbrev pub walk_onward : {A : Type 0} → Format A → ℕ → Reading A → Result (ℕ × ℕ) Refusal
walk_onward F room (found a q) = Ok (q, room - length (F.tape a 0))
walk_onward F room (refused r) = Err r

-- the first refusal stands
unfoldable pub walked : {A : Type 0} → Format A → List ℕ → ℕ → Result (ℕ × ℕ) Refusal → Result (ℕ × ℕ) Refusal
walked F s l (Ok (p, room)) = walk_onward F room (F.parse s l p)
walked F s l (Err r) = Err r

-- no byte is left in a part that ends at l
unfoldable pub leaving : (ℕ → Refusal) → ℕ → Result (ℕ × ℕ) Refusal → Result (ℕ × ℕ) Refusal
leaving left_over l (Ok (q, room)) = if leb l q then Ok (q, room) else Err (left_over q)
leaving left_over l (Err r) = Err r

-- what was walked from x to y, judged once it was read: where the test fails, it is refused at x
unfoldable pub judged_from : (ℕ → Refusal) → Result (ℕ × ℕ) Refusal → Bool → Result (ℕ × ℕ) Refusal → Result (ℕ × ℕ) Refusal
judged_from refusal (Ok (p, room)) holds (Ok (q, left)) = if holds then Ok (q, left) else Err (refusal p)
judged_from refusal (Ok (p, room)) holds (Err r) = Err r
judged_from refusal (Err r) holds y = y

-- where a walk through a body ended
abbrev pub body_end : Result (ℕ × ℕ) Refusal → Result ℕ Refusal
body_end (Ok (q, room)) = Ok q
body_end (Err r) = Err r

-- how many entries a walk that began with this room asks for; a tape too small is 21
abbrev pub entries_needed : ℕ → Result (ℕ × ℕ) Refusal → Result ℕ Refusal
entries_needed room (Ok (q, left)) = if eqb left 0 then Err OutputTooSmall else Ok (room - left)
entries_needed room (Err r) = Err r

-- a position in a part of a body of bytes
pub record Inside (s : List ℕ) (l p : ℕ) : Type 0 where
  pub bytes : (i : ℕ) → get_or s i 0 < 256
  pub part : l ≤ length s
  pub here : p ≤ l

-- What a walk through F answers and leaves: nothing is laid by a dry one; a wet one, where F is found and its entries fit, lays them.
pub record Walked {A : Type 0} (F : Format A) (s : List ℕ) (l : ℕ) (x : Result (ℕ × ℕ) Refusal) (wet : Bool) (tape : List ℕ) (r : Result (ℕ × ℕ) Refusal) (tape' : List ℕ) : Type 0 where
  pub said : r ≡ walked F s l x
  pub dry : wet ≡ false → tape' ≡ tape
  pub laid : wet ≡ true → (p room : ℕ) → x ≡ Ok (p, room) → Inside s l p → (a : A) (q : ℕ) → F.parse s l p ≡ found a q
      → length (F.tape a p) < room → room ≤ length tape + 1 → tape' ≡ placed tape (length tape + 1 - room) (F.tape a p)

-- ---- numbers and parts on the way

-- the number that was found, 0 for none
unfoldable pub value_walked : Format ℕ → List ℕ → ℕ → Result (ℕ × ℕ) Refusal → ℕ
value_walked C s l (Ok (p, room)) = value_of (C.parse s l p)
value_walked C s l (Err r) = 0

-- the walk alone, of one that has a number beside it: a count, a flag, or where a part ends
abbrev pub walk_of : Result ((ℕ × ℕ) × ℕ) Refusal → Result (ℕ × ℕ) Refusal
walk_of (Ok (at, n)) = Ok at
walk_of (Err r) = Err r

-- the number beside a walk, 0 for none
abbrev pub beside : Result ((ℕ × ℕ) × ℕ) Refusal → ℕ
beside (Ok (at, n)) = n
beside (Err r) = 0

-- a walk through a number, which is told too: a count, or a flag
pub record Counted (C : Format ℕ) (s : List ℕ) (l : ℕ) (x : Result (ℕ × ℕ) Refusal) (wet : Bool) (tape : List ℕ) (r : Result ((ℕ × ℕ) × ℕ) Refusal) (tape' : List ℕ) : Type 0 where
  pub past : Walked C s l x wet tape (walk_of r) tape'
  pub value : beside r ≡ value_walked C s l x

-- into a part that was found, and where it ends
abbrev pub opened_by : ℕ → Result (ℕ × ℕ) Refusal → Result ((ℕ × ℕ) × ℕ) Refusal
opened_by room (Ok (a, n)) = Ok ((a, room), a + n)
opened_by room (Err r) = Err r

-- past a length, into the part that it counts: the bytes of the part stay to be walked
unfoldable pub entered : Length → List ℕ → ℕ → Result (ℕ × ℕ) Refusal → Result ((ℕ × ℕ) × ℕ) Refusal
entered L s l (Ok (p, room)) = opened_by room (part_of ((counted L rest).parse s l p))
entered L s l (Err r) = Err r
