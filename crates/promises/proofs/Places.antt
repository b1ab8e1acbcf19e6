-- The places of refusals: for every table from its format's laws, for the others because each names the refusals that it gives.
use Prim.Native.Nat.{ℕ, ◌+◌, ◌-◌, ◌≤◌, zero-le}
use mathlib.Core.Path.{◌≡◌, refl, sym, ap, subst, ◌∙◌}
use mathlib.Core.Bool.{Bool, true, false, not, ◌&&◌, ◌||◌}
use mathlib.Core.List.{List}
use native.Mathlib.Omega.{arith}
use lib.ListN.{length, get_or, take, length-take}
use lib.Dec.{eqb, leb, ltb}
use borrow.Author.Tests.{leb-true, ltb-true}
use Rattle.ground_refusal.proofs.Exits.{err_inj}
use Rattle.std.specs.Prelude.{if◌then◌else◌, Result, Ok, Err}
use Rattle.ground_numbers.specs.Sizes.{section_length_most, body_most}
use Rattle.ground_refusal.specs.Numbers.{refusal_place, placeless}
use Rattle.ground_refusal.specs.declared.Refusal.{Refusal}
use Rattle.ground_refusal.specs.declared.Refusal.TheVariants.{SectionTooShort, OtherKind, FixedBitZero, SectionLengthOutside, OtherLength, NumberAboveLast, CheckNotZero, NotCurrent, OtherHeading, StoreTooShort, Contradiction, ImpossibleState, Missing, PastBody, OutsideSet, OutputTooSmall, TooLarge, TeachingBufferFull}
use Rattle.crc.specs.Crc.{crc32_of}
use Rattle.section_reader.specs.Section.{is_kind, section_length, fixed_bits, heading_of, payload_of, read_section}
use Rattle.section_reader.specs.declared.Heading.{Heading}
use Rattle.section_cutter.specs.Cutting as cutter
use Rattle.salvage.proofs.Calls.{refused_place as salvaged_place}
use Rattle.gathering_state.specs.Lists.{smallest_missing}
use Rattle.gathering_state.specs.State.{possible_of, nothing_begun, has_room, lengths}
use Rattle.gathering_state.specs.declared.Gathering.{Gathering}
use Rattle.gathering_verdict.specs.Deciding.{verdict_of}
use Rattle.gathering_feed.specs.Feeding as feeding
use Rattle.gathering_verdict.specs.declared.Verdict.{Verdict}
use Rattle.gathering_feed.specs.declared.Answer.{Answer}
use Rattle.gathering_feed.specs.declared.Answer.TheVariants.{Taken, HeldAlready}
use Rattle.gathering_verdict.proofs.Verdicts.{verdict_impossible, verdict_bad, verdict_good, Decided, old, other, short, begun, spoiled, new, again, clash, decided}
use Rattle.gathering_hand_out.specs.Handing as handing
use Rattle.gathering_pack.specs.Packing as packing
use Rattle.gathering_account.specs.Account.{Account, idle, table, in_order}
use Rattle.gathering_account.specs.Answering.{present, differs, agreeing, answer_of_table, answer_of_first, answer_of_good, answer_of_read, answer_to}
use Rattle.gathering_tables.specs.Tables.{same_table, is_newer}
use Rattle.teaching_rows.specs.Rows.{whole_in_use}
use Rattle.teaching_questions.specs.Questions.{absent_from}
use Rattle.teaching_table.specs.Table.{account_in}
use Rattle.teaching_feed.specs.Feeding.{row_fits, answer_of}
use Rattle.teaching_hand_out.specs.Asking as teaching
use Rattle.body_formats.specs.Reading.{Reading, found, refused, need}
use Rattle.body_formats.specs.Format.{Format}
use Rattle.body_formats.specs.Answers.{step_of}
use Rattle.body_formats.specs.Body.{reading, measuring, measured, fitting, writing, body_written, body_laid}
use Rattle.body_formats.proofs.Places.{Until, ends, stands, then_until, need_until, Placed, step_place, reading_until, read_place, laid_place, measured_place, writing_until, written_place}
use Rattle.certificate.specs.Certificate.{certificate_kind, certificate}
use Rattle.certificate.proofs.Places.{certificate_placed}
use Rattle.index.specs.Index.{index_kind, index}
use Rattle.index.proofs.Places.{index_placed}
use Rattle.index_records.specs.Records.{recording, body_recorded}
use Rattle.content_variant.specs.Variant.{width_of, by_width, opened}
use Rattle.content_variant.proofs.Variant.{width_place, opened_place}
use Rattle.content.specs.Content.{Content, content_kind, content, variant_laid}
use Rattle.content.proofs.Places.{content_placed}
use Rattle.content.proofs.Variants.{variant_place}
use Rattle.content_writer.specs.Written.{written_of, content_written, variant_measured, variant_written}
use Rattle.configuration.specs.Configuration.{configuration_kind, configuration}
use Rattle.configuration.proofs.Places.{configuration_placed}
use Rattle.promises.specs.Places.{PlacesOf, Places}

-- no answer both refuses and does not
pub absurd_answer : {A : Type 0} → ◌≡◌ {A = ℕ} 0 1 → A
absurd_answer z = absurd (omega arith)

-- ---- tables

-- a writer answers what was measured: a refusal without its place, a length where there is room for it
module _ {A : Type 0} (F : Format A) (pool tape : List ℕ) (room : ℕ) where
  refused_alike : (r : Refusal) → measured F pool tape ≡ Err r → body_written F pool tape room ≡ Err (placeless r)
  unfolding measured body_written writing
  refused_alike r e = go (measuring F pool tape) e
    where
      go : (x : Reading A) → step_of x ≡ Err r → step_of (fitting room x) ≡ Err (placeless r)
      go (found a n) e = absurd_answer (cc)
      go (refused r') e = let same : r' ≡ r = cc in ap (λ (q : Refusal). Err (placeless q)) same

  as_measured : (n : ℕ) → measured F pool tape ≡ Ok n → body_written F pool tape room ≡ (if leb n room then Ok n else Err OutputTooSmall)
  unfolding measured body_written writing
  as_measured n e = go (measuring F pool tape) e
    where
      chosen : (a : A) (m : ℕ) (b : Bool) → step_of (need b OutputTooSmall (found a m)) ≡ (if b then Ok m else Err OutputTooSmall)
      chosen a m true = refl
      chosen a m false = refl

      go : (x : Reading A) → step_of x ≡ Ok n → step_of (fitting room x) ≡ (if leb n room then Ok n else Err OutputTooSmall)
      go (found a m) e =
          let same : m ≡ n = cc in
          chosen a m (leb m room) ∙ ap (λ (k : ℕ). if leb k room then Ok k else Err OutputTooSmall) same
      go (refused r) e = absurd_answer (cc)

of_table : {A : Type 0} (F : Format A) (own : ℕ) → Placed F → PlacesOf F own
of_table F own f =
    record {
      read = read_place F f own;
      laid = laid_place F f own;
      measured_at = measured_place F f;
      written = written_place F;
      refused_alike = refused_alike F;
      as_measured = as_measured F;
    }

recorded : (kind : ℕ) (body : List ℕ) (room : ℕ) (r : Refusal) → body_recorded kind body room ≡ Err r → refusal_place r ≤ length body
unfolding body_recorded recording
recorded kind body room =
    step_place (recording kind body room)
    (then_until {last' = room} (reading index index_kind kind body) _ (reading_until index index_placed index_kind kind body) (λ t q m.
    need_until (leb (length t.messages) room) _ zero-le (λ u. ends (leb-true _ _ u))))

-- the content table's calls, by the variant: it is refused at place 0, or its width answers
module _ (kind v : ℕ) (body : List ℕ) where
  content_laid : (room : ℕ) (r : Refusal) → variant_laid kind v body room ≡ Err r → refusal_place r ≤ length body
  unfolding variant_laid
  content_laid room r e = go (opened kind v (length body)) refl e
    where
      go : (x : Result ℕ Refusal) → opened kind v (length body) ≡ x → by_width x (λ w. body_laid (content w) content_kind kind body room) Err ≡ Err r
          → refusal_place r ≤ length body
      go (Ok w) k f = laid_place (content w) (content_placed w) content_kind kind body room r f
      go (Err t) k f =
          let same : t ≡ r = cc in
          omega (arith, ap refusal_place same, opened_place kind v (length body) t (sym k))

module _ (v : ℕ) (pool tape : List ℕ) where
  content_measured : (r : Refusal) → variant_measured v pool tape ≡ Err r → refusal_place r ≤ length tape
  unfolding variant_measured
  content_measured r e = go (width_of v) refl e
    where
      go : (x : Result ℕ Refusal) → width_of v ≡ x → by_width x (λ w. measured (content w) pool tape) Err ≡ Err r → refusal_place r ≤ length tape
      go (Ok w) k f = measured_place (content w) (content_placed w) pool tape r f
      go (Err t) k f =
          let same : t ≡ r = cc in
          omega (arith, ap refusal_place same, width_place v t (sym k))

  content_written_lem : (room : ℕ) (r : Refusal) → variant_written v pool tape room ≡ Err r → refusal_place r ≡ 0
  unfolding variant_written content_written
  content_written_lem room r e = go (width_of v) refl e
    where
      refusing : (x : Reading Content) → Until 0 room x → written_of x ≡ Err r → refusal_place r ≡ 0
      refusing (found t n) h f = absurd_answer (cc)
      refusing (refused r') (stands h) f =
          let same : r' ≡ r = cc in
          omega (arith, subst (λ (q : Refusal). refusal_place q ≤ 0) same h)

      go : (x : Result ℕ Refusal) → width_of v ≡ x → by_width x (λ w. written_of (writing (content w) pool tape room)) Err ≡ Err r → refusal_place r ≡ 0
      go (Ok w) k f = refusing (writing (content w) pool tape room) (writing_until (content w) pool tape room) f
      go (Err t) k f =
          let same : t ≡ r = cc in
          ap refusal_place (sym same) ∙ width_place v t (sym k)

-- ---- what names its refusals one after the other: each of them has Q

module _ {X : Type 0} (no : Refusal → X) (same : (r r' : Refusal) → no r ≡ no r' → r ≡ r') (Q : Refusal → Type 0) where
  or_else : (b : Bool) (r' : Refusal) (x : X) → (b ≡ true → Q r') → ((r : Refusal) → x ≡ no r → Q r) → (r : Refusal) → (if b then no r' else x) ≡ no r → Q r
  or_else true r' x q f r e = subst Q (same r' r e) (q refl)
  or_else false r' x q f r e = f r e

-- a section is refused for seven reasons
pub section_refusals : (Q : Refusal → Type 0)
    → Q SectionTooShort → Q OtherKind → Q FixedBitZero → Q SectionLengthOutside → Q OtherLength → Q NumberAboveLast → Q CheckNotZero
    → (s : List ℕ) (r : Refusal) → read_section s ≡ Err r → Q r
unfolding read_section
section_refusals Q q1 q2 q3 q4 q5 q6 q7 s =
    let next = or_else Err (λ r r' e. err_inj e) Q in
    next (ltb (length s) 12) SectionTooShort _ (λ t. q1)
    (next (not (is_kind (get_or s 0 0))) OtherKind _ (λ t. q2)
    (next (not (fixed_bits s)) FixedBitZero _ (λ t. q3)
    (next (not (leb 9 (section_length s) && leb (section_length s) section_length_most)) SectionLengthOutside _ (λ t. q4)
    (next (not (eqb (length s) (section_length s + 3))) OtherLength _ (λ t. q5)
    (next (ltb (get_or s 7 0) (get_or s 6 0)) NumberAboveLast _ (λ t. q6)
    (next (not (eqb (crc32_of s) 0)) CheckNotZero _ (λ t. q7) (λ r (e : Ok (heading_of s, length s - 12) ≡ Err r). absurd_answer (cc))))))))

section_place : (s : List ℕ) (r : Refusal) → read_section s ≡ Err r → refusal_place r ≡ 0
section_place = section_refusals (λ r. refusal_place r ≡ 0) refl refl refl refl refl refl refl

-- ---- feeding

module _ (g : Gathering) (store s : List ℕ) where
  -- a refusal by this verdict stands at 0
  abbrev Nowhere : Result Verdict Refusal → Type 0
  Nowhere v = (r : Refusal) → feeding.answer_by v ≡ Err r → refusal_place r ≡ 0

  refuse_nowhere : (r' : Refusal) → refusal_place r' ≡ 0 → Nowhere (Err r')
  unfolding feeding.answer_by
  refuse_nowhere r' h r e = let same : r' ≡ r = cc in subst (λ (q : Refusal). refusal_place q ≡ 0) same h

  good_nowhere : (h : Heading) {v : Result Verdict Refusal} → Decided g store h (payload_of s) v → Nowhere v
  unfolding feeding.answer_by
  good_nowhere h (old c) r e = refuse_nowhere NotCurrent refl r e
  good_nowhere h (other c b a) r e = refuse_nowhere OtherHeading refl r e
  good_nowhere h (short c b m) r e = refuse_nowhere StoreTooShort refl r e
  good_nowhere h (begun c b m) r e = absurd_answer (cc)
  good_nowhere h (spoiled c b a m z) r e = refuse_nowhere Contradiction refl r e
  good_nowhere h (new d z) r e = absurd_answer (cc)
  good_nowhere h (again d z q) r e = absurd_answer (cc)
  good_nowhere h (clash d z q) r e = refuse_nowhere Contradiction refl r e

  verdict_nowhere : Nowhere (verdict_of g store s)
  verdict_nowhere = go (possible_of g) refl (read_section s) refl
    where
      go : (b : Bool) → possible_of g ≡ b → (x : Result (Heading × ℕ) Refusal) → read_section s ≡ x → Nowhere (verdict_of g store s)
      go false p x e = rw (verdict_impossible g store s p) (refuse_nowhere ImpossibleState refl)
      go true p (Err r) e = rw (verdict_bad g store s p r e) (refuse_nowhere r (section_place s r e))
      go true p (Ok (h, n)) e = rw (verdict_good g store s p h n e) (good_nowhere h (decided g store h (payload_of s)))

-- ---- the slow gathering

-- what the account answers is refused for eleven reasons
module _ (Q : Refusal → Type 0) (q1 : Q SectionTooShort) (q2 : Q OtherKind) (q3 : Q FixedBitZero) (q4 : Q SectionLengthOutside) (q5 : Q OtherLength)
    (q6 : Q NumberAboveLast) (q7 : Q CheckNotZero) (q8 : Q NotCurrent) (q9 : Q OtherHeading) (q10 : Q StoreTooShort) (q11 : Q Contradiction)
    (room : ℕ → Bool) (s : List ℕ) where
  good_refusals : (a : Account) (h : Heading) (r : Refusal) → answer_of_good room a h (payload_of s) ≡ Err r → Q r
  unfolding answer_of_good answer_of_first answer_of_table
  good_refusals idle h =
      or_else Err (λ r r' e. err_inj e) Q (not (room h.last)) StoreTooShort (Ok Taken) (λ t. q10)
      (λ r (e : (Ok Taken) ≡ Err r). absurd_answer (cc))
  good_refusals (table t S) h =
      go (is_newer t h) (differs (record { number = h.number; contents = payload_of s }) S || not (agreeing S)) (present h.number S)
    where
      next : (b : Bool) (r' : Refusal) (x : Result Answer Refusal) → (b ≡ true → Q r') → ((r : Refusal) → x ≡ Err r → Q r)
          → (r : Refusal) → (if b then Err r' else x) ≡ Err r → Q r
      next = or_else Err (λ r r' e. err_inj e) Q

      value : (held : Bool) (r : Refusal) → (if held then (Ok HeldAlready) else (Ok Taken)) ≡ Err r → Q r
      value true r e = absurd_answer (cc)
      value false r e = absurd_answer (cc)

      go : (newer disputed held : Bool) (r : Refusal)
          → (if newer then (if not (room h.last) then Err StoreTooShort else (Ok Taken)) else
          if not (same_table t h) then Err OtherHeading else
          if disputed then Err Contradiction else
          if held then (Ok HeldAlready) else (Ok Taken)) ≡ Err r → Q r
      go true disputed held = next (not (room h.last)) StoreTooShort (Ok Taken) (λ t. q10) (λ r (e : (Ok Taken) ≡ Err r). absurd_answer (cc))
      go false disputed held = next (not (same_table t h)) OtherHeading _ (λ t. q9) (next disputed Contradiction _ (λ t. q11) (value held))

  pub answer_refusals : (a : Account) (r : Refusal) → answer_to room a s ≡ Err r → Q r
  unfolding answer_to answer_of_read
  answer_refusals a r e = go (read_section s) refl e
    where
      go : (x : Result (Heading × ℕ) Refusal) → read_section s ≡ x → answer_of_read room a s x ≡ Err r → Q r
      go (Err r') f e = let same : r' ≡ r = cc in subst Q same (section_refusals Q q1 q2 q3 q4 q5 q6 q7 s r' f)
      go (Ok (h, n)) f e =
          or_else Err (λ r r' e. err_inj e) Q (not h.current) NotCurrent _ (λ t. q8) (good_refusals a h) r e

taught_place : (buffer : List ℕ) (used store : ℕ) (s : List ℕ) (r : Refusal) → answer_of buffer used store s ≡ Err r → refusal_place r ≡ 0
unfolding answer_of
taught_place buffer used store s =
    let next = or_else Err (λ r r' e. err_inj e) (λ r. refusal_place r ≡ 0) in
    next (not (row_fits (length buffer) used (length s))) TeachingBufferFull _ (λ t. refl)
    (next (not (whole_in_use buffer used)) ImpossibleState _ (λ t. refl)
    (answer_refusals (λ r. refusal_place r ≡ 0) refl refl refl refl refl refl refl refl refl refl refl (has_room store) s (account_in store (take used buffer))))

-- the missing number is one of the table's
taught_handed_place : (buffer : List ℕ) (used store : ℕ) (t : Heading) → teaching.heading_of buffer used store ≡ Ok t
    → (out : List ℕ) (r : Refusal) → teaching.handed_of buffer used store out ≡ Err r → refusal_place r ≤ t.last
unfolding teaching.heading_of teaching.headed_to teaching.handed_of teaching.handed_to teaching.handed_table handing.handed_if_room
taught_handed_place buffer used store t h out = go (whole_in_use buffer used) (account_in store (take used buffer)) h
  where
    next : (b : Bool) (r' : Refusal) (x : Result ℕ Refusal) → (b ≡ true → refusal_place r' ≤ t.last) → ((r : Refusal) → x ≡ Err r → refusal_place r ≤ t.last)
        → (r : Refusal) → (if b then Err r' else x) ≡ Err r → refusal_place r ≤ t.last
    next = or_else Err (λ r r' e. err_inj e) (λ r. refusal_place r ≤ t.last)

    go : (w : Bool) (a : Account) → (if not w then Err ImpossibleState else teaching.headed_to a) ≡ Ok t
        → (r : Refusal) → (if not w then Err ImpossibleState else teaching.handed_to a (length out)) ≡ Err r → refusal_place r ≤ t.last
    go false a h = absurd_answer (cc)
    go true idle h = absurd_answer (cc)
    go true (table u S) h =
        let same : u.last ≡ t.last = cc in
        let k = absent_from 0 (u.last + 1) S in
        next (not (agreeing S)) Contradiction _ (λ b. zero-le)
        (next (leb k u.last) (Missing k) _ (λ b. omega (arith, leb-true k u.last b, same))
        (next (ltb (length out) (length (in_order (u.last + 1) S))) OutputTooSmall (Ok (length (in_order (u.last + 1) S))) (λ b. zero-le)
        (λ r (e : Ok (length (in_order (u.last + 1) S)) ≡ Err r). absurd_answer (cc))))

-- ---- the cutter

module _ (body : List ℕ) (kind extension version number : ℕ) where
  cutting_place : (room : ℕ) (r : Refusal) → cutter.cutting body kind extension version number room ≡ cutter.refuses r → refusal_place r ≡ 0
  unfolding cutter.cutting cutter.cut_if_room
  cutting_place room =
      let next = or_else cutter.refuses (λ r r' (e : cutter.refuses r ≡ cutter.refuses r'). cc) (λ r. refusal_place r ≡ 0) in
      next (not (is_kind kind)) OtherKind _ (λ t. refl)
      (next (not (leb version 31 && leb extension 0xFFFF)) (OutsideSet 0) _ (λ t. refl)
      (next (eqb (length body) 0) (PastBody 0) _ (λ t. refl)
      (next (ltb body_most (length body)) TooLarge _ (λ t. refl)
      (next (leb (cutter.section_count (length body)) number) NumberAboveLast _ (λ t. refl)
      (next (ltb room (length (cutter.section_of body kind extension version number))) OutputTooSmall _ (λ t. refl)
      (λ r (e : cutter.writes (cutter.section_of body kind extension version number) ≡ cutter.refuses r). absurd_answer (cc)))))))

  cut_place : (out : List ℕ) (r : Refusal) → cutter.cut_answer body kind extension version number out ≡ Err r → refusal_place r ≡ 0
  unfolding cutter.cut_by
  cut_place out r e = go (cutter.cutting body kind extension version number (length out)) (cutting_place (length out)) e
    where
      go : (v : cutter.Verdict) → ((r : Refusal) → v ≡ cutter.refuses r → refusal_place r ≡ 0) → cutter.cut_by v ≡ Err r → refusal_place r ≡ 0
      go (cutter.refuses r') h e = let same : r' ≡ r = cc in h r (ap cutter.refuses same)
      go (cutter.writes bytes) h e = absurd_answer (cc)

-- ---- handing out

module _ (g : Gathering) where
  -- the missing number is one of the table's
  missing_place : (r : Refusal) → handing.missing_of (lengths g) ≡ Err r → refusal_place r ≤ g.last
  unfolding handing.missing_of lengths
  missing_place =
      or_else Err (λ r r' e. err_inj e) (λ r. refusal_place r ≤ g.last)
      (ltb (smallest_missing (lengths g)) (length (lengths g))) (Missing (smallest_missing (lengths g))) (Ok tt)
      (λ t. let below = simp length-take at (ltb-true (smallest_missing (lengths g)) (length (lengths g)) t) in omega arith)
      (λ r (e : ◌≡◌ {A = Result Unit Refusal} (Ok tt) (Err r)). absurd_answer cc)

  complete_place : (bytes : ℕ) (r : Refusal) → handing.complete_of g bytes ≡ Err r → refusal_place r ≤ g.last
  unfolding handing.complete_of
  complete_place bytes =
      let next = or_else Err (λ r r' e. err_inj e) (λ r. refusal_place r ≤ g.last) in
      next (not (possible_of g)) ImpossibleState _ (λ t. zero-le)
      (next (nothing_begun g) (Missing 0) _ (λ t. zero-le)
      (next (not (has_room bytes g.last)) StoreTooShort _ (λ t. zero-le)
      (next (not (eqb g.spoiled 0)) Contradiction _ (λ t. zero-le) missing_place)))

  fitting_place : (n room : ℕ) (r : Refusal) → handing.handed_if_room n room ≡ Err r → refusal_place r ≤ g.last
  unfolding handing.handed_if_room
  fitting_place n room =
      let next = or_else Err (λ r r' e. err_inj e) (λ r. refusal_place r ≤ g.last) in
      next (ltb room n) OutputTooSmall (Ok n) (λ t. zero-le) (λ r (e : Ok n ≡ Err r). absurd_answer (cc))

  handed_place : (store out : List ℕ) (r : Refusal) → handing.handed_of g store out ≡ Err r → refusal_place r ≤ g.last
  unfolding handing.handed_of handing.handed_by
  handed_place store out r e = go (handing.complete_of g (length store)) (complete_place (length store)) e
    where
      go : (c : Result Unit Refusal) → ((r : Refusal) → c ≡ Err r → refusal_place r ≤ g.last)
          → handing.handed_by c (length (handing.body_held g store)) (length out) ≡ Err r → refusal_place r ≤ g.last
      go (Err r') h e = let same : r' ≡ r = cc in h r (ap Err same)
      go (Ok tt) h e = fitting_place (length (handing.body_held g store)) (length out) r e

  packed_place : (store : List ℕ) (r : Refusal) → (packing.packing_of g store).answer ≡ Err r → refusal_place r ≤ g.last
  unfolding packing.packing_of packing.packed_of packing.packed_by
  packed_place store r e = go (handing.complete_of g (length store)) (complete_place (length store)) e
    where
      go : (c : Result Unit Refusal) → ((r : Refusal) → c ≡ Err r → refusal_place r ≤ g.last)
          → packing.packed_by c (length (handing.body_held g store)) ≡ Err r → refusal_place r ≤ g.last
      go (Err r') h e = let same : r' ≡ r = cc in h r (ap Err same)
      go (Ok tt) h e = absurd_answer (cc)

-- ---- all of them

pub places : Places
unfolding feeding.fed_of
places =
    record {
      certificates = of_table certificate certificate_kind certificate_placed;
      indexes = of_table index index_kind index_placed;
      contents = λ w. of_table (content w) content_kind (content_placed w);
      configurations = of_table configuration configuration_kind configuration_placed;
      recorded = recorded;
      extended = variant_place;
      content_laid = content_laid;
      content_measured = content_measured;
      content_written_lem = content_written_lem;
      section = section_place;
      fed = verdict_nowhere;
      cut = cut_place;
      salvaged = salvaged_place;
      handed = handed_place;
      packed = packed_place;
      taught = taught_place;
      taught_handed = taught_handed_place;
    }
