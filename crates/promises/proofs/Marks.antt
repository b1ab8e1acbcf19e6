-- One that stores the first section and only marks the rest: of a table whose first section is empty nothing is stored, and a store of zeros gives no 1.
use Prim.Native.Nat.{ℕ, zero, suc, ◌+◌, ◌-◌, ◌≤◌, ◌<◌}
use Rattle.std.specs.Prelude.{Result, Ok, Err}
use Rattle.ground_refusal.specs.declared.Refusal.{Refusal}
use mathlib.Core.Path.{◌≡◌, refl, sym, ap, ◌∙◌, subst}
use mathlib.Core.Bool.{true, false}
use mathlib.Core.List.Memᴰ
use mathlib.Core.List.{List, [], ◌∷◌, ◌++◌, flatten, Memᴰ as In}
use mathlib.Core.Logic.{◌⊎◌, inl, inr}
use native.Mathlib.Omega.{arith}
use lib.ListN.{length, get_or, replicate, take, drop}
use lib.Seq.{get_or-take, get_or-drop}
use borrow.Author.Tests.{ne_eqb}
use Rattle.ground_numbers.specs.Sizes.{index_kind, payload_most}
use Rattle.ground_placing.specs.Placed.{placed}
use Rattle.ground_placing.proofs.Placing.{placed_none}
use Rattle.crc.specs.Crc.{AreBytes}
use Rattle.section_reader.specs.Section.{payload_of, WellFormed}
use Rattle.section_reader.specs.declared.Heading.{Heading}
use Rattle.section_reader.proofs.RoundTrip.{reads_back}
use Rattle.gathering_state.specs.Lists.{part}
use Rattle.gathering_state.specs.State.{nothing_begun, has_room}
use Rattle.gathering_state.specs.declared.Gathering.{Gathering}
use Rattle.gathering_verdict.specs.Deciding.{verdict_of}
use Rattle.gathering_feed.specs.Feeding.{store_by, store_after}
use Rattle.gathering_verdict.specs.declared.Verdict.{Verdict}
use Rattle.gathering_verdict.specs.declared.Verdict.TheVariants.{Repeat, Contradict, Begin, Take}
use Rattle.gathering_hand_out.specs.Handing.{joined, body_held, out_by, out_after}
use Rattle.gathering_account.specs.Account.{Account, idle, table, account}
use Rattle.gathering_account.specs.Gathers.{Box, fresh_box, ByteStrings, feed, box_after, HandsOut, Fixes}
use Rattle.gathering_account.specs.Latest.{begins_after}
use Rattle.gathering_account.specs.Arrival.{heading_at, CutInto, sections_of, sections_listed}
use Rattle.gathering_account.proofs.Bytes.{printed_bytes}
use Rattle.gathering_account.proofs.Hearing.{counted_first}
use Rattle.gathering_account.proofs.Cuts.{printed_cut, printed_arrives}
use Rattle.gathering_account.proofs.Listed.{listed_arrives}
use Rattle.gathering_account.proofs.Demand3.{demand_3}

-- ---- a table of two sections, the first empty, the second one byte

heading : Heading
heading = record { kind = index_kind; extension = 0; version = 0; current = true; number = 0; last = 1 }

abbrev payloads : List (List ℕ)
payloads = [] ∷ (1 ∷ []) ∷ []

formed : (k : ℕ) → k ≤ 1 → WellFormed (heading_at heading k)
unfolding heading heading_at
formed k l =
    record { kind_low = omega arith; kind_high = omega arith; extension_high = omega arith; version_high = omega arith; number_high = l; last_high = omega arith }

short : (k : ℕ) → length (get_or payloads k []) ≤ payload_most
short zero = omega arith
short (suc zero) = omega arith
short (suc (suc k)) = omega arith

abbrev sections : ℕ → List ℕ
sections = sections_of heading payloads

abbrev fed : List (List ℕ)
fed = sections 0 ∷ sections 1 ∷ []

-- ---- a store of zeros

store : List ℕ
store = replicate 8168 0

zeros : (n i : ℕ) → get_or (replicate {A = ℕ} n 0) i 0 ≡ 0
zeros zero i = refl
zeros (suc n) zero = refl
zeros (suc n) (suc i) = zeros n i

append_first : (xs ys : List ℕ) → get_or xs 0 0 ≡ 0 → get_or ys 0 0 ≡ 0 → get_or (xs ++ ys) 0 0 ≡ 0
append_first [] ys e f = f
append_first (x ∷ xs) ys e f = e

module _ (s : List ℕ) (z : (i : ℕ) → get_or s i 0 ≡ 0) where
  part_first : (at n : ℕ) → get_or (take n (drop at s)) 0 0 ≡ 0
  part_first at zero = refl
  part_first at (suc n) = get_or-take (suc n) (drop at s) 0 0 (omega arith) ∙ get_or-drop at s 0 0 ∙ z (at + 0)

  joined_first : (at : ℕ → ℕ) (k : ℕ) (ns : List ℕ) → get_or (joined at k ns s) 0 0 ≡ 0
  unfolding joined part
  joined_first at k [] = refl
  joined_first at k (n ∷ ns) = append_first (take (n - 1) (drop (at k) s)) (joined at (suc k) ns s) (part_first (at k) (n - 1)) (joined_first at (suc k) ns)

placed_first : (body : List ℕ) → get_or body 0 0 ≡ 0 → get_or (placed (0 ∷ []) 0 body) 0 0 ≡ 0
unfolding placed
placed_first [] e = refl
placed_first (x ∷ body) e = e

-- what is handed out begins with no 1
handed_first : (box : Box) (body : List ℕ) → box.store ≡ store → HandsOut box (0 ∷ []) body → get_or (placed (0 ∷ []) 0 body) 0 0 ≡ 0
unfolding out_after out_by body_held store
handed_first box body e h =
    ap (λ (s : List ℕ). get_or s 0 0) (sym h.writes) ∙ rw h.answers (placed_first (body_held box.state box.store) (rw e (joined_first store (zeros 8168) _ 0 _)))

-- ---- what is stored

empty_stays : (g : Gathering) (store s : List ℕ) → payload_of s ≡ [] → store_after g store s ≡ store
unfolding store_after store_by
empty_stays g store s e = go (verdict_of g store s)
  where
    go : (v : Result Verdict Refusal) → store_by store (payload_of s) v ≡ store
    go (Err r) = refl
    go (Ok Repeat) = refl
    go (Ok Contradict) = refl
    go (Ok (Begin h)) = rw e (placed_none store _)
    go (Ok (Take h)) = rw e (placed_none store _)

-- ---- the two sections fed

payload_byte : (k i : ℕ) → get_or (get_or payloads k []) i 0 < 256
payload_byte zero i = omega arith
payload_byte (suc zero) zero = omega arith
payload_byte (suc zero) (suc i) = omega arith
payload_byte (suc (suc k)) i = omega arith

section_bytes : (k : ℕ) → k ≤ 1 → AreBytes (sections k)
unfolding sections_of
section_bytes k l = printed_bytes (heading_at heading k) (get_or payloads k []) (formed k l) (record { byte = payload_byte k })

all_bytes : ByteStrings fed
unfolding ByteStrings
all_bytes s i = go (Memᴰ.cases_cons i)
  where
    go : (s ≡ sections 0) ⊎ In s (sections 1 ∷ []) → AreBytes s
    go (inl e) = rw e (section_bytes 0 (omega arith))
    go (inr j) = rw (Memᴰ.eq_of_singleton j) (section_bytes 1 (omega arith))

first_bytes : ByteStrings (sections 0 ∷ [])
unfolding ByteStrings
first_bytes s i = rw (Memᴰ.eq_of_singleton i) (section_bytes 0 (omega arith))

empty : payload_of (sections 0) ≡ []
unfolding sections_of
empty = (reads_back (heading_at heading 0) [] (formed 0 (omega arith)) (omega arith)).carries

-- the table's own heading is that of its first section
well : WellFormed heading
unfolding heading heading_at
well = formed 0 (omega arith)

roomy : has_room (length store) heading.last ≡ true
unfolding has_room heading store
roomy = refl

comes : HandsOut (box_after (fresh_box store) fed) (0 ∷ []) (1 ∷ [])
unfolding flatten heading sections_listed
comes =
    printed_arrives heading payloads well short refl store fed all_bytes
    (listed_arrives sections (has_room (length store)) heading (printed_cut heading payloads well short) roomy) (0 ∷ []) (omega arith)

-- the first one begins the gathering
first_heard : account (has_room (length store)) idle (sections 0 ∷ []) ≡ table (heading_at heading 0) (record { number = 0; contents = payload_of (sections 0) } ∷ [])
unfolding account CutInto heading_at begins_after
first_heard =
    rw (printed_cut heading payloads well short 0 (omega arith))
    (counted_first (has_room (length store)) (heading_at heading 0) (payload_of (sections 0)) roomy idle refl)

abbrev after_first : Gathering
after_first = (box_after (fresh_box store) (sections 0 ∷ [])).state

first_kind : after_first.kind ≡ index_kind
unfolding Fixes heading_at heading
first_kind = (subst (λ (a : Account). Fixes a after_first) first_heard (demand_3 store (sections 0 ∷ []) first_bytes (0 ∷ [])).fixed).0

begun : nothing_begun after_first ≡ false
unfolding nothing_begun
begun = ne_eqb after_first.kind 0 (λ (z : after_first.kind ≡ 0). let k = first_kind in omega arith)

module _ (h : (g : Gathering) (store s : List ℕ) → nothing_begun g ≡ false → store_after g store s ≡ store) where
  nothing_stored : (box_after (fresh_box store) fed).store ≡ store
  unfolding box_after feed fresh_box
  nothing_stored = h _ _ (sections 1) begun ∙ empty_stays _ store (sections 0) empty

  pub only_marks : ⊥
  unfolding placed
  only_marks = let z : ◌≡◌ {A = ℕ} 1 0 = handed_first (box_after (fresh_box store) fed) (1 ∷ []) nothing_stored comes in omega arith
