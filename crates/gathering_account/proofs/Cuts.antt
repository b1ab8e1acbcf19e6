-- Two ways of cutting from which a table arrives whole: any payloads printed with one heading, and our own cutter's sections of a body.
use Prim.Native.Nat.{ℕ, zero, suc, ◌+◌, ◌≤◌, ◌<◌}
use mathlib.Core.Path.{◌≡◌, refl, sym, ◌∙◌, ap, ap₂}
use mathlib.Core.List.{List, [], ◌∷◌, ◌++◌, append-nil, append_assoc, flatten}
use native.Mathlib.Omega.{arith}
use lib.ListN.{length, get_or, take}
use lib.Seq.{take-suc, take-length}
use Rattle.section_reader.specs.Section.{payload_of, printed, WellFormed}
use Rattle.section_cutter.specs.Cutting.{parts_joined, section_count, cut_heading, section_of, Allowed, Askable}
use Rattle.section_reader.specs.declared.Heading.{Heading}
use Rattle.section_cutter.proofs.Counting.{count_some}
use Rattle.section_reader.proofs.RoundTrip.{reads_back}
use Rattle.section_cutter.proofs.Sections.{cut_good, cut_joined}
use Rattle.gathering_state.specs.State.{has_room}
use Rattle.gathering_account.specs.Gathers.{fresh_box, ByteStrings, box_after, HandsOut}
use Rattle.gathering_account.specs.Arrival.{heading_at, CutInto, sections_of, Arrives}
use Rattle.gathering_account.proofs.Hearing.{heard_good}
use Rattle.gathering_account.proofs.Whole.{arrives_whole}

-- ---- payloads printed with one heading

flatten_last : (L : List (List ℕ)) (l : List ℕ) → flatten (L ++ l ∷ []) ≡ flatten L ++ l
unfolding flatten
flatten_last [] l = append-nil l
flatten_last (x ∷ L) l = ap (λ (r : List ℕ). x ++ r) (flatten_last L l) ∙ sym (append_assoc x (flatten L) l)

joined_take : (sections : ℕ → List ℕ) (payloads : List (List ℕ)) → ((k : ℕ) → k < length payloads → payload_of (sections k) ≡ get_or payloads k [])
    → (n : ℕ) → n ≤ length payloads → parts_joined sections n ≡ flatten (take n payloads)
unfolding parts_joined flatten
joined_take sections payloads f zero l = refl
joined_take sections payloads f (suc n) l =
    ap₂ ◌++◌ (joined_take sections payloads f n (omega arith)) (f n l) ∙ sym (rw (take-suc payloads n [] l) (flatten_last (take n payloads) (get_or payloads n [])))

module _ (h : Heading) (payloads : List (List ℕ)) (w : WellFormed h) (short : (k : ℕ) → length (get_or payloads k []) ≤ 4084) where
  formed : (k : ℕ) → k ≤ h.last → WellFormed (heading_at h k)
  unfolding heading_at
  formed k l =
      record {
        kind_low = w.kind_low;
        kind_high = w.kind_high;
        extension_high = w.extension_high;
        version_high = w.version_high;
        number_high = l;
        last_high = w.last_high;
      }

  pub printed_cut : CutInto h (sections_of h payloads)
  unfolding CutInto sections_of heading_at
  printed_cut k l =
      heard_good (printed (heading_at h k) (get_or payloads k [])) (heading_at h k) _
      (reads_back (heading_at h k) (get_or payloads k []) (formed k l) (short k)).reads refl

  module _ (numbers : length payloads ≡ h.last + 1) where
    printed_joined : parts_joined (sections_of h payloads) (h.last + 1) ≡ flatten payloads
    unfolding sections_of
    printed_joined =
        rw (← numbers)
        (joined_take (sections_of h payloads) payloads
        (λ k l. (reads_back (heading_at h k) (get_or payloads k []) (formed k (omega arith)) (short k)).carries)
        (length payloads) (omega arith) ∙ ap flatten (take-length payloads))

    pub printed_arrives : (store : List ℕ) (fed : List (List ℕ)) → ByteStrings fed → Arrives (has_room (length store)) h (sections_of h payloads) fed
        → (out : List ℕ) → length (flatten payloads) ≤ length out → HandsOut (box_after (fresh_box store) fed) out (flatten payloads)
    printed_arrives store fed are_bytes x out l =
        rw (← printed_joined) (arrives_whole store fed are_bytes h (sections_of h payloads) printed_cut x out (rw printed_joined l))

-- ---- our cutter

module _ (body : List ℕ) (kind extension version : ℕ) (allowed : Allowed kind extension version) (some : 0 < length body) (most : length body ≤ 1045504) where
  abbrev h : Heading
  h = cut_heading (length body) kind extension version 0

  askable : (number : ℕ) → number < section_count (length body) → Askable (length body) kind extension version number
  askable number within = record { allowed = allowed; some = some; most = most; within = within }

  pub cut_count : h.last + 1 ≡ section_count (length body)
  unfolding cut_heading
  cut_count = let a = count_some (length body) some in omega arith

  pub cutter_cut : CutInto h (section_of body kind extension version)
  unfolding CutInto cut_heading heading_at
  cutter_cut number l =
      let c = cut_count in
      heard_good (section_of body kind extension version number) (heading_at h number) _
      (cut_good body kind extension version number (askable number (omega arith))).reads refl

  pub cut_arrives : (store : List ℕ) (fed : List (List ℕ)) → ByteStrings fed → Arrives (has_room (length store)) h (section_of body kind extension version) fed
      → (out : List ℕ) → length body ≤ length out → HandsOut (box_after (fresh_box store) fed) out body
  cut_arrives store fed are_bytes a out l =
      let j : parts_joined (section_of body kind extension version) (h.last + 1) ≡ body = rw cut_count (cut_joined body kind extension version allowed some most) in
      rw (← j) (arrives_whole store fed are_bytes h (section_of body kind extension version) cutter_cut a out (rw j l))
