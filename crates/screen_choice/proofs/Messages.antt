-- Laws of the messages of an accepted body: they stand one after the other, each with its EBM_length before it.
use Prim.Native.Nat.{ℕ, suc, ◌+◌, ◌*◌, ◌/◌, ◌%◌, ◌^◌, ◌≤◌, ◌<◌}
use Rattle.std.specs.Prelude.{Ok, Option, None}
use Rattle.screen_order.specs.declared.Candidate.{Candidate}
use mathlib.Core.Path.{◌≡◌, refl, sym, ap, ap₂, ◌∙◌, subst}
use mathlib.Core.Bool.{Bool, true, false, not, ◌||◌, cond}
use mathlib.Core.List.{List, [], ◌∷◌, ◌++◌}
use native.Mathlib.Numerals.{add-one}
use native.Mathlib.Nat.{add-zero}
use native.Mathlib.Omega.{arith}
use borrow.Author.Tests.{ltb-true}
use lib.Dec.{ltb}
use lib.ListN.{length, get_or, take, drop, length-take, length-drop}
use lib.Seq.{get_or-take, get_or-drop}
use Rattle.time_fields.specs.declared.Moment.{Moment}
use Rattle.body_formats.specs.Format.{Format, ◌▷◌, count, bytes_of, followed, list_of, view, exact, counted, length_of, every, some}
use Rattle.body_formats.specs.Resource.{resource, resources}
use Rattle.body_asking.specs.Agreement.{InTurn}
use Rattle.ground_refusal.specs.declared.Refusal.TheVariants.{PastPart}
use Rattle.index.specs.Index.{Message, named, unnamed, head, flagged, message_fields, message}
use Rattle.index_fields.specs.Asked.{message_part}
use Rattle.index_fields.specs.Agreement.{MessageAsked}
use Rattle.screen_code.specs.Code.{is_code}
use Rattle.screen_code.proofs.Same.{both}
use Rattle.screen_choice.specs.Choice.{eligible, Leader, nobody, passed_by, leader}
use Rattle.screen_choice.specs.Walk.{Stands, Lengthed, Told, Considered, Standing, Table}

pub neither : (a b : Bool) → a || b ≡ false → (a ≡ false) × (b ≡ false)
neither true b e = (cc, cc)
neither false b e = (refl, e)

-- ---- a message that a writer takes

-- its fields after EBM_length
abbrev inner : Format Message
inner = exact PastPart (view named unnamed message_fields)

-- its resource codes are codes
codes_of : (m : Message) → message.writable m ≡ true → every resource.writable m.resources ≡ true
unfolding message counted exact view message_fields followed list_of count
codes_of m e =
    let fields = unnamed m in
    let a = both (head.writable fields.0) ((resources ▷ flagged).writable fields.1) e in
    (both (resources.writable m.resources) (flagged.writable m.channel) a.1).0

-- its length fits its field
short : (m : Message) → message.too_large m ≡ false → length (inner.print m) < 65536
unfolding message counted length_of
short m e = ltb-true _ _ (go (ltb (length (inner.print m)) 65536) (neither _ _ e).0)
  where
    go : (b : Bool) → not b ≡ false → b ≡ true
    go true f = refl
    go false f = sym f

-- the two bytes of its length, and then its fields
printed : (m : Message) → message.print m ≡ (length (inner.print m) / 256 % 256) ∷ (length (inner.print m) % 256) ∷ inner.print m
unfolding message counted length_of count bytes_of
printed m = refl

-- ---- the first of several

-- message number i, which stands from p to `next`, and those after it
pub record Turn (s : List ℕ) (i : ℕ) (ms : List Message) (p : ℕ) : Type 0 where
  pub first : Message
  pub others : List Message
  pub are : ms ≡ first ∷ others
  pub next : ℕ
  pub asked : MessageAsked s i first p next
  pub takes : message.writable first ≡ true
  pub fits : message.too_large first ≡ false
  pub rest : Standing s (suc i) others next

pub turn : (s : List ℕ) (i : ℕ) (ms : List Message) (p : ℕ) → Standing s i ms p → 0 < length ms → Turn s i ms p
unfolding InTurn every some
turn s i [] p st h = absurd (omega arith)
turn s i (m ∷ ms) p st h =
    let w = both (message.writable m) (every message.writable ms) st.writable in
    let l = neither (message.too_large m) (some message.too_large ms) st.small in
    record {
      first = m;
      others = ms;
      are = refl;
      next = st.in_turn.0;
      asked = st.in_turn.1;
      takes = w.0;
      fits = l.0;
      rest = record { end = st.end; in_turn = st.in_turn.2; writable = w.1; small = l.1 };
    }

module _ (s : List ℕ) (i : ℕ) (ms : List Message) (p : ℕ) (t : Turn s i ms p) where
  pub room : p + 2 + t.asked.size ≤ length s
  room = let f = t.asked.part_follows in omega (arith, f.ends, f.in_body_lem)

  abbrev size : ℕ
  size = t.asked.size

  sized : size ≡ length (inner.print t.first)
  sized =
      let f = t.asked.part_follows in
      let l : length (take (2 + size) (drop p s)) ≡ 2 + size = simp (length-take, length-drop) (omega (arith, room)) in
      let r = ap length (f.bytes ∙ printed t.first) in
      omega (arith, l, r)

  byte_at : (k : ℕ) → k < 2 + size → get_or s (p + k) 0 ≡ get_or (message.print t.first) k 0
  byte_at k h =
      sym (get_or-take (2 + size) (drop p s) k 0 h ∙ get_or-drop p s k 0) ∙ ap (λ (l : List ℕ). get_or l k 0) t.asked.part_follows.bytes

  -- EBM_length is the length of the part
  pub length_is : (n : ℕ) → Lengthed s p n → n ≡ size
  length_is n l =
      let high = sym (ap (λ (k : ℕ). get_or s k 0) (add-zero p)) ∙ byte_at 0 (omega arith) ∙ ap (λ (x : List ℕ). get_or x 0 0) (printed t.first) in
      let low = byte_at 1 (omega arith) ∙ ap (λ (x : List ℕ). get_or x 1 0) (printed t.first) in
      let few = short t.first t.fits in
      omega (arith, l.is, high, low, few, sized)

  module _ (n : ℕ) (l : Lengthed s p n) (own code : List ℕ) (own_is : own ≡ resource.print code) (is_code_lem : is_code code ≡ true) where
    pub stands : Stands s (p + 2) n own code t.first
    stands =
        record {
          asked = rw (length_is n l) t.asked.fields_asked;
          codes = codes_of t.first t.takes;
          own_is = own_is;
          is_code_lem = is_code_lem;
        }

    pub part_is : message_part s i ≡ Ok (p + 2, n)
    part_is = rw (length_is n l) t.asked.part_follows.is

    pub ends : p + 2 + n ≡ t.next
    ends = rw (length_is n l) t.asked.part_follows.ends

-- ---- all of them, one after the other

-- the messages from number i on are left, and what is kept is the one to show of those before
pub record Underway (s : List ℕ) (count : ℕ) (code : List ℕ) (present : Moment) (ms : List Message) (best : Option Candidate) (p i : ℕ) : Type 0 where
  pub left : List Message
  pub standing : Standing s i left p
  pub so_far : Leader
  pub told : Told s best so_far
  pub same : leader code present nobody 0 ms ≡ leader code present so_far i left
  pub many : i + length left ≡ count

pub underway : (s : List ℕ) (count : ℕ) (own code : List ℕ) (present : Moment) (ms : List Message) → Table s count own code ms
    → Underway s count code present ms None 1 0
underway s count own code present ms t =
    record { left = ms; standing = t.standing; so_far = nobody; told = tt; same = refl; many = omega (arith, t.counted) }

module _ (s : List ℕ) (count : ℕ) (own code : List ℕ) (present : Moment) (ms : List Message) (best : Option Candidate) (p i : ℕ)
    (t : Table s count own code ms) (u : Underway s count code present ms best p i) where
  pub walked : count ≤ i → Told s best (leader code present nobody 0 ms)
  unfolding leader
  walked h = subst (Told s best) (sym (u.same ∙ go u.left (omega (arith, u.many)))) u.told
    where
      go : (l : List Message) → length l ≡ 0 → leader code present u.so_far i l ≡ u.so_far
      go [] e = refl
      go (m ∷ l) e = absurd (omega arith)

  module _ (h : i < count) where
    pub here : Turn s i u.left p
    here = turn s i u.left p u.standing (omega (arith, u.many))

    pub on : (n : ℕ) → Lengthed s p n → (r : Option Candidate) → Considered s (p + 2) n i own present best r → Underway s count code present ms r (p + 2 + n) (i + 1)
    unfolding leader
    on n l r c =
        let m = here.first in
        let stop = ends s i u.left p here n l own code t.own_is t.is_code_lem in
        record {
          left = here.others;
          standing =
              subst (λ (k : ℕ). Standing s k here.others (p + 2 + n)) (sym (add-one i))
              (subst (Standing s (suc i) here.others) (sym stop) here.rest);
          so_far = cond (eligible code present m) (passed_by u.so_far i m) u.so_far;
          told =
              c code m u.so_far (stands s i u.left p here n l own code t.own_is t.is_code_lem)
              (part_is s i u.left p here n l own code t.own_is t.is_code_lem) u.told;
          same = u.same ∙ ap (leader code present u.so_far i) here.are
              ∙ ap (λ (k : ℕ). leader code present (cond (eligible code present m) (passed_by u.so_far i m) u.so_far) k here.others) (sym (add-one i));
          many = let e = ap length here.are in omega (arith, e, u.many);
        }
