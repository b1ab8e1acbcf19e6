-- None of the useless versions meets the promises: the smallest index table is accepted, and two bodies of one byte come back as they were cut.
use Prim.Native.Nat.{ℕ, zero, suc, ◌<◌}
use Rattle.ground_refusal.proofs.Exits.{ok_pair_inj}
use Rattle.std.specs.Prelude.{Result, Ok, Err}
use mathlib.Core.Path.{◌≡◌, refl, sym, ap, ◌∙◌}
use mathlib.Core.Bool.{true}
use mathlib.Core.List.{List, [], ◌∷◌}
use native.Mathlib.Omega.{arith}
use lib.ListN.{length, get_or, replicate}
use Rattle.ground_numbers.specs.Sizes.{payload_most}
use Rattle.ground_refusal.specs.declared.Refusal.{Refusal}
use Rattle.ground_refusal.specs.declared.Refusal.TheVariants.{Missing}
use Rattle.ground_placing.specs.Placed.{placed}
use Rattle.crc.specs.Crc.{AreBytes}
use Rattle.section_reader.specs.Section.{is_kind}
use Rattle.section_cutter.specs.Cutting.{section_count, cut_heading, section_of, Allowed}
use Rattle.gathering_state.specs.State.{fresh_state, possible_of, nothing_begun, has_room}
use Rattle.gathering_state.specs.declared.Gathering.{Gathering}
use Rattle.gathering_state.proofs.State.{fresh_one}
use Rattle.gathering_feed.specs.Feeding.{fed_of}
use Rattle.gathering_hand_out.specs.Handing.{complete_of, handed_by, handed_of}
use Rattle.body_formats.specs.Format.{number_at, count, followed, repeat, list_of, rest, exact, view, length_of, counted}
use Rattle.body_formats.specs.Body.{reading, body_read}
use Rattle.body_formats.specs.Answers.{number_read}
use Rattle.index.specs.Index.{index_kind, index, fields}
use Rattle.index_fields.specs.Asked.{message_count}
use Rattle.gathering_account.specs.Gathers.{Box, fresh_box, feed, box_after, HandsOut}
use Rattle.gathering_account.specs.Arrival.{sections_listed}
use Rattle.promises.specs.Demand3.{fed_to}
use Rattle.promises.specs.Useless.{ShutOut}
use Rattle.promises.proofs.Demand3.{demand3}
use Rattle.promises.proofs.Values.{values}
use Rattle.promises.proofs.Marks.{only_marks}

-- "index body 00 00 00 accepted"
smallest : body_read index index_kind index_kind (0 ∷ 0 ∷ 0 ∷ []) ≡ Ok 3
unfolding body_read reading index exact view fields followed list_of count number_at repeat counted length_of rest
smallest = refl

-- ---- bodies of one byte

store : List ℕ
store = replicate payload_most 0

module _ (x : ℕ) (h : x < 256) where
  bytes : AreBytes (x ∷ [])
  bytes = record { byte = go }
    where
      go : (i : ℕ) → get_or (x ∷ []) i 0 < 256
      go zero = h
      go (suc i) = omega arith

  allowed : Allowed index_kind 0 0
  unfolding is_kind
  allowed = record { kind_of = refl; version_high = omega arith; extension_high = omega arith }

  roomy : has_room (length store) (cut_heading 1 index_kind 0 0 0).last ≡ true
  unfolding has_room cut_heading section_count store
  roomy = refl

  fed : List (List ℕ)
  fed = sections_listed (section_of (x ∷ []) index_kind 0 0) 0 (section_count 1)

  -- it comes back, into an output of one byte
  comes : HandsOut (fed_to store fed) (0 ∷ []) (x ∷ [])
  unfolding fed
  comes = demand3.comes_back (x ∷ []) index_kind 0 0 bytes allowed (omega arith) (omega arith) store roomy (0 ∷ []) (omega arith)

-- ---- each of them

first_byte : {x y : ℕ} → placed (0 ∷ []) 0 (x ∷ []) ≡ placed (0 ∷ []) 0 (y ∷ []) → x ≡ y
unfolding placed
first_byte e = ap (λ (s : List ℕ). get_or s 0 0) e

same_state : ((g : Gathering) (store s : List ℕ) → (fed_of g store s).state ≡ g) → (box : Box) (fed : List (List ℕ)) → (box_after box fed).state ≡ box.state
unfolding box_after feed
same_state h box [] = refl
same_state h box (s ∷ fed) = same_state h (feed box s) fed ∙ h box.state box.store s

fresh_hands_nothing : (held out : List ℕ) → handed_of fresh_state held out ≡ Err (Missing 0)
unfolding handed_of handed_by complete_of possible_of nothing_begun fresh_state
fresh_hands_nothing held out = rw fresh_one

none_taken : ((g : Gathering) (store s : List ℕ) → (fed_of g store s).state ≡ g) → ⊥
unfolding fresh_box
none_taken h =
    let c = comes 0 (omega arith) in
    let box = fed_to store (fed 0 (omega arith)) in
    let e : ◌≡◌ {A = Result ℕ Refusal} (Ok 1) (Err (Missing 0)) =
    sym c.answers ∙ ap (λ (g : Gathering). handed_of g box.store (0 ∷ [])) (same_state h (fresh_box store) (fed 0 (omega arith))) ∙ fresh_hands_nothing box.store (0 ∷ []) in
    let z : ◌≡◌ {A = ℕ} 0 1 = cc in
    omega arith

pub shut_out : ShutOut
unfolding message_count number_read count number_at
shut_out =
    record {
      refuses_all = λ h. let r = h index_kind (0 ∷ 0 ∷ 0 ∷ []) in let e : ◌≡◌ {A = Result ℕ Refusal} (Ok 3) (Err r.0) = sym smallest ∙ r.1 in let z : ◌≡◌ {A = ℕ} 0 1 = cc in omega arith;
      hands_out_nothing = λ h. h _ _ (0 ∷ []) _ (comes 0 (omega arith)).answers;
      same_body = λ body h.
          let a = comes 0 (omega arith) in
          let b = comes 1 (omega arith) in
          let z : ◌≡◌ {A = ℕ} 0 1 = first_byte (sym a.writes ∙ h _ _ (0 ∷ []) _ a.answers ∙ sym (h _ _ (0 ∷ []) _ b.answers) ∙ b.writes) in
          omega arith;
      takes_nothing = none_taken;
      only_marks = only_marks;
      same_section_count = λ count h.
          let a = h 4084 in
          let b = h 4085 in
          let c = values.10 in
          let d = values.11 in
          let z : ◌≡◌ {A = ℕ} 1 2 = cc in
          omega arith;
      same_message_count = λ count after h.
          let z : ◌≡◌ {A = ℕ} 0 1 = (ok_pair_inj (h (0 ∷ []) ∙ sym (h (1 ∷ [])))).0 in
          omega arith;
    }
