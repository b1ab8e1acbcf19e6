-- The road can be gone: forms from the writers' round trips, texts from printing, and a body's own sections one after the other.
use Prim.Native.Nat.{ℕ, zero, suc, ◌+◌, ◌<◌, ◌≤◌}
use Rattle.std.specs.Prelude.{Ok}
use mathlib.Core.Bool.{Bool, true, false}
use mathlib.Core.List.Memᴰ
use mathlib.Core.List.{List, [], ◌∷◌, ◌++◌, append_assoc, Memᴰ as In}
use mathlib.Core.Logic.{◌⊎◌, inl, inr}
use mathlib.Core.Path.{◌≡◌, refl, sym, ap, ◌∙◌, subst}
use native.Mathlib.Omega.{arith}
use borrow.Author.Tests.{eqb-true}
use lib.Dec.{eqb}
use lib.IntN.{ℤ}
use lib.ListN.{length, take}
use Rattle.crc.specs.Crc.{AreBytes}
use Rattle.ground_choices.proofs.Tests.{both}
use Rattle.ground_numbers.specs.Sizes.{body_most}
use Rattle.ground_placing.proofs.Placing.{placed_start}
use Rattle.time_fields.specs.Field.{live_mark}
use Rattle.time_printing.specs.Printing.{prints, start_text}
use Rattle.time_printing.specs.Typing.{with_end, together, typed_times}
use Rattle.time_printing.proofs.Laws.{printed_reads, live_typed, text_typed, typed_as}
use Rattle.section_reader.specs.Section.{WellFormed}
use Rattle.section_reader.specs.declared.Heading.{Heading}
use Rattle.section_reader.proofs.Reading.{kind_within}
use Rattle.section_cutter.specs.Cutting.{section_count, part_carried, cut_heading, section_of, Askable}
use Rattle.section_cutter.proofs.Counting.{count_most}
use Rattle.section_cutter.proofs.Sections.{cut_good}
use Rattle.packet_arrival.specs.Packed.{GoodSection, AllGood}
use Rattle.packet_arrival.proofs.Arrival.{arrives}
use Rattle.gathering_state.specs.State.{has_room}
use Rattle.gathering_tables.specs.Tables.{same_table, is_newer}
use Rattle.gathering_account.specs.Account.{good_current, heard}
use Rattle.gathering_account.specs.Gathers.{ByteStrings}
use Rattle.gathering_account.specs.Arrival.{heading_at, CutInto, Arrives, ArrivesFirst, sections_listed}
use Rattle.gathering_account.proofs.Bytes.{part_bytes, printed_bytes}
use Rattle.gathering_account.proofs.Cuts.{cut_count, cutter_cut}
use Rattle.gathering_account.proofs.Growing.{heard_same, own_not_newer}
use Rattle.gathering_account.proofs.Listed.{listed_arrives}
use Rattle.gathering_account.proofs.Standing.{never}
use Rattle.gathering_account.proofs.Whole.{first_arrives}
use Rattle.body_extension.specs.Extension.{extension_of}
use Rattle.body_formats.specs.Reading.{found}
use Rattle.body_formats.specs.Format.{Format}
use Rattle.body_formats.specs.Body.{writing, output_written}
use Rattle.body_formats.proofs.RoundTrips.{RoundTrips}
use Rattle.index.specs.Index.{Index, index_kind, index}
use Rattle.index.proofs.RoundTrips.{index_trips}
use Rattle.content_variant.specs.Variant.{width_of}
use Rattle.content.specs.Content.{Content, content_kind, content}
use Rattle.content.proofs.RoundTrips.{content_trips}
use Rattle.content_writer.specs.Written.{content_written}
use Rattle.content_writer.proofs.Variants.{written_wide, output_wide}
use Rattle.promises_road.specs.Road.{FormTimes, AllTyped, IndexWritten, ContentWritten, OverPackets, Gathered, Road}
use Rattle.promises_road.specs.Travelled.{all_sections, Roomy, Travelled}
use Rattle.promises_road.proofs.Called.{can_call}
use Rattle.promises_road.proofs.Drill.{drill_typed, drill_writable, drill_small, drill_bytes, drill_short}

-- ---- the form

-- a table that can be sent is written from its own bytes as the pool, into as much room
module _ {A : Type 0} (F : Format A) (own : ℕ) (f : RoundTrips F own) (t : A) (writable : F.writable t ≡ true) (small : F.too_large t ≡ false)
    (bytes : AreBytes (F.print t)) (short : length (F.print t) ≤ body_most) where
  abbrev body : List ℕ
  body = F.print t

  own_form : (writing F body (F.tape t 0) (length body) ≡ found t (length body)) × (body ≡ take (length body) (output_written F body (F.tape t 0) body))
  own_form =
      let r = f.reads_back t (record { writable = writable; small = small }) short in
      let w = f.writes_back own body bytes.byte t (length body) r body (omega arith) in
      (w.0, sym (ap (take (length body)) w.1 ∙ placed_start body body (length body) refl))

index_forms : (offset : ℤ) (times : List FormTimes) (t : Index) → AllTyped offset times t.messages
    → index.writable t ≡ true → index.too_large t ≡ false → AreBytes (index.print t) → length (index.print t) ≤ body_most
    → IndexWritten offset times t (index.print t)
index_forms offset times t typed writable small bytes short =
    let o = own_form index index_kind index_trips t writable small bytes short in
    record { typed = typed; pool = index.print t; tape = index.tape t 0; out = index.print t; filled = o.0; body_is = o.1; bytes = bytes }

content_forms : (v w : ℕ) (t : Content) → Ok w ≡ width_of v
    → (content w).writable t ≡ true → (content w).too_large t ≡ false → AreBytes ((content w).print t) → length ((content w).print t) ≤ body_most
    → ContentWritten v w t (extension_of t.identifier) ((content w).print t)
unfolding content_written
content_forms v w t variant writable small bytes short =
    let body = (content w).print t in
    let tape = (content w).tape t 0 in
    let o = own_form (content w) content_kind (content_trips w) t writable small bytes short in
    let answered : content_written w body tape (length body) ≡ Ok (length body, extension_of t.identifier) = rw o.0 in
    record {
      variant = variant;
      pool = body;
      tape = tape;
      out = body;
      filled = o.0;
      answered = sym (written_wide v w variant body tape (length body)) ∙ answered;
      body_is = o.1 ∙ ap (take (length body)) (output_wide v w variant body tape body);
      bytes = bytes;
    }

module _ (offset : ℤ) (a : ℕ) (s e : List ℕ) (p : start_text a offset ≡ prints s) where
  typable : (b : ℕ) → start_text b offset ≡ prints e → typed_times s false e offset ≡ Ok (a, b)
  unfolding together with_end
  typable b q = typed_as s e false offset _ _ (printed_reads offset a s p) (text_typed false e offset refl ∙ printed_reads offset b e q)

  live_typable : typed_times s true e offset ≡ Ok (a, live_mark)
  unfolding together with_end
  live_typable = typed_as s e true offset _ _ (printed_reads offset a s p) (live_typed true e offset refl)

-- ---- sections one after the other

good_append : (ss ts : List (List ℕ)) → AllGood ss → AllGood ts → AllGood (ss ++ ts)
good_append [] ts a b = b
good_append (s ∷ ss) ts a b = (a.0, good_append ss ts a.1 b)

-- what holds of both parts holds of them together
module _ (P : List ℕ → Type 0) where
  each_append : (ss ts : List (List ℕ)) → ((s : List ℕ) → In s ss → P s) → ((s : List ℕ) → In s ts → P s) → (s : List ℕ) → In s (ss ++ ts) → P s
  each_append ss ts f g s i = go (Memᴰ.append_cases ss i)
    where
      go : In s ss ⊎ In s ts → P s
      go (inl j) = f s j
      go (inr j) = g s j

  listed_each : (sections : ℕ → List ℕ) (k n : ℕ) → ((i : ℕ) → i < k + n → P (sections i)) → (s : List ℕ) → In s (sections_listed sections k n) → P s
  unfolding sections_listed
  listed_each sections k zero f s i = absurd (Memᴰ.not-nil i)
  listed_each sections k (suc n) f s i = go (Memᴰ.cases_cons i) (listed_each sections (suc k) n (λ j l. f j (omega arith)) s)
    where
      go : (s ≡ sections k) ⊎ In s (sections_listed sections (suc k) n) → (In s (sections_listed sections (suc k) n) → P s) → P s
      go (inl e) later = subst P (sym e) (f k (omega arith))
      go (inr j) later = later j

listed_good : (sections : ℕ → List ℕ) (k n : ℕ) → ((i : ℕ) → i < k + n → GoodSection (sections i)) → AllGood (sections_listed sections k n)
unfolding sections_listed
listed_good sections k zero f = tt
listed_good sections k (suc n) f = (f k (omega arith), listed_good sections (suc k) n (λ i l. f i (omega arith)))

module _ (body : List ℕ) (kind extension version : ℕ) (a : Askable (length body) kind extension version 0) where
  abbrev heading : Heading
  heading = cut_heading (length body) kind extension version 0

  askable : (number : ℕ) → number < section_count (length body) → Askable (length body) kind extension version number
  askable number within = record { allowed = a.allowed; some = a.some; most = a.most; within = within }

  sections_good : AllGood (all_sections body kind extension version)
  sections_good =
      listed_good (section_of body kind extension version) 0 (section_count (length body))
      (λ i l.
      (cut_heading (length body) kind extension version i, length (part_carried body i), (cut_good body kind extension version i (askable i (omega arith))).reads))

  formed : (number : ℕ) → number < section_count (length body) → WellFormed (cut_heading (length body) kind extension version number)
  unfolding cut_heading
  formed number l =
      let k = kind_within kind a.allowed.kind_of in
      let m = count_most (length body) a.most in
      record {
        kind_low = k.0;
        kind_high = k.1;
        extension_high = a.allowed.extension_high;
        version_high = a.allowed.version_high;
        number_high = omega arith;
        last_high = omega arith;
      }

  sections_bytes : AreBytes body → (s : List ℕ) → In s (all_sections body kind extension version) → AreBytes s
  unfolding section_of
  sections_bytes b =
      listed_each AreBytes (section_of body kind extension version) 0 (section_count (length body))
      (λ i l. printed_bytes (cut_heading (length body) kind extension version i) (part_carried body i) (formed i (omega arith)) (part_bytes body i b))

  is_cut : CutInto heading (section_of body kind extension version)
  is_cut = cutter_cut body kind extension version a.allowed a.some a.most

  own_arrives : (store : List ℕ) → Roomy store body kind extension version
      → Arrives (has_room (length store)) heading (section_of body kind extension version) (all_sections body kind extension version)
  own_arrives store r =
      rw (cut_count body kind extension version a.allowed a.some a.most) at
      (listed_arrives (section_of body kind extension version) (has_room (length store)) heading is_cut r)

  -- what is heard of one of them: its heading is the table's but for the number
  heard_own : (s : List ℕ) → In s (all_sections body kind extension version)
      → (k : ℕ) × (k ≤ heading.last) × (s ≡ section_of body kind extension version k)
      × ((g : Heading) (p : List ℕ) → heard s ≡ good_current g p → g ≡ heading_at heading k)
  unfolding CutInto
  heard_own =
      let c = cut_count body kind extension version a.allowed a.some a.most in
      listed_each _ (section_of body kind extension version) 0 (section_count (length body))
      (λ i l. (i, omega arith, refl, λ g p e. (heard_same _ _ _ _ _ e (is_cut i (omega arith))).0))

  alone : (got : List (List ℕ)) → ((s : List ℕ) → In s (all_sections body kind extension version) → In s got)
      → (store : List ℕ) → Roomy store body kind extension version
      → Gathered body kind extension version got store (all_sections body kind extension version)
  alone got f store r = record { cut = a; received = f; arrives = own_arrives store r }

  none_first : (got : List (List ℕ)) (store : List ℕ) (fed : List (List ℕ)) → ((s : List ℕ) → In s fed → In s got)
      → ArrivesFirst (has_room (length store)) heading (section_of body kind extension version) fed
      → Gathered body kind extension version got store fed
  none_first got store fed f x =
      record { cut = a; received = f; arrives = first_arrives (has_room (length store)) heading (section_of body kind extension version) is_cut fed x }

-- ---- strangers and repeats

-- what is fed after a table's sections: they are its own, or neither of its table nor ahead of it
record Harmless (h : Heading) (sections : ℕ → List ℕ) (s : List ℕ) : Type 0 where
  no_stranger : (g : Heading) (p : List ℕ) → heard s ≡ good_current g p → same_table h g ≡ true → (k : ℕ) × (k ≤ h.last) × (s ≡ sections k)
  none_ahead : (g : Heading) (p : List ℕ) → heard s ≡ good_current g p → is_newer h g ≡ false

module _ (room : ℕ → Bool) (h : Heading) (sections : ℕ → List ℕ) (fed more : List (List ℕ)) (f : (s : List ℕ) → In s more → Harmless h sections s) where
  still_arrives : Arrives room h sections fed → Arrives room h sections (fed ++ more)
  still_arrives x =
      record {
        roomy = x.roomy;
        before = x.before;
        first = x.first;
        after = x.after ++ more;
        of_table = x.of_table;
        fed_is = ap (λ (l : List (List ℕ)). l ++ more) x.fed_is ∙ append_assoc x.before (sections x.first ∷ x.after) more;
        begins = x.begins;
        all = λ k l. Memᴰ.append_left more (x.all k l);
        no_stranger = each_append _ x.after more x.no_stranger (λ s i. (f s i).no_stranger);
        none_ahead = each_append _ x.after more x.none_ahead (λ s i g p e n. never (is_newer h g) n ((f s i).none_ahead g p e));
      }

-- headings of another kind or another extension
module _ (h g : Heading) (other : h.kind ≡ g.kind → h.extension ≡ g.extension → ⊥) where
  both_same : eqb h.kind g.kind ≡ true → eqb h.extension g.extension ≡ true → ⊥
  both_same a b = other (eqb-true h.kind g.kind a) (eqb-true h.extension g.extension b)

  not_same : same_table h g ≡ true → ⊥
  unfolding same_table
  not_same e = let a = both _ _ (both _ _ (both _ _ e).0).0 in both_same a.0 a.1

  not_newer : (b : Bool) → is_newer h g ≡ b → is_newer h g ≡ false
  unfolding is_newer
  not_newer true e = let a = both _ _ (both _ _ (both _ _ e).0).0 in absurd (both_same a.0 a.1)
  not_newer false e = e

module _ (body text : List ℕ) (kind extension version kind' extension' version' : ℕ) (differ : kind ≡ kind' → extension ≡ extension' → ⊥)
    (a : Askable (length body) kind extension version 0) (a' : Askable (length text) kind' extension' version' 0) where
  abbrev h : Heading
  h = cut_heading (length body) kind extension version 0

  apart : (k : ℕ) (g : Heading) → g ≡ heading_at (cut_heading (length text) kind' extension' version' 0) k → h.kind ≡ g.kind → h.extension ≡ g.extension → ⊥
  unfolding cut_heading heading_at
  apart k g e p q = differ (p ∙ ap (λ (x : Heading). x.kind) e) (q ∙ ap (λ (x : Heading). x.extension) e)

  theirs : (s : List ℕ) → In s (all_sections text kind' extension' version') → Harmless h (section_of body kind extension version) s
  theirs s i =
      let o = heard_own text kind' extension' version' a' s i in
      record {
        no_stranger = λ g p e same. absurd (not_same h g (apart o.0 g (o.3 g p e)) same);
        none_ahead = λ g p e. not_newer h g (apart o.0 g (o.3 g p e)) (is_newer h g) refl;
      }

  ours : (s : List ℕ) → In s (all_sections body kind extension version) → Harmless h (section_of body kind extension version) s
  ours s i =
      let o = heard_own body kind extension version a s i in
      record {
        no_stranger = λ g p e same. (o.0, o.1, o.2);
        none_ahead = λ g p e. ap (is_newer h) (o.3 g p e) ∙ own_not_newer h o.0;
      }

  among_others : (store : List ℕ) → Roomy store body kind extension version
      → let sent = all_sections body kind extension version ++ (all_sections text kind' extension' version' ++ all_sections body kind extension version) in
      Gathered body kind extension version sent store sent
  among_others store r =
      record {
        cut = a;
        received = λ s i. i;
        arrives =
            still_arrives (has_room (length store)) h (section_of body kind extension version) (all_sections body kind extension version) _
            (each_append _ (all_sections text kind' extension' version') _ theirs ours)
            (own_arrives body kind extension version a store r);
      }

-- ---- a stream

over_packets : (sent : List (List ℕ)) → AllGood sent → ByteStrings sent → OverPackets sent sent
over_packets sent good bytes =
    let x = arrives 4096 0 sent (omega arith) (omega arith) good in
    record { good = good; bytes = bytes; counter = 0; low = omega arith; room = 4096; enough = omega arith; after = x.0; unpacked = x.1 }

module _ (body : List ℕ) (kind extension version : ℕ) (bytes : AreBytes body) (a : Askable (length body) kind extension version 0) where
  abbrev all : List (List ℕ)
  all = all_sections body kind extension version

  roads : (store : List ℕ) → Roomy store body kind extension version → (out : List ℕ) → length body ≤ length out → Road body kind extension version
  unfolding ByteStrings
  roads store r out l =
      record {
        sent = all;
        got = all;
        over_packets = over_packets all (sections_good body kind extension version a) (sections_bytes body kind extension version a bytes);
        store = store;
        fed = all;
        gathered = alone body kind extension version a all (λ s i. i) store r;
        out = out;
        roomy = l;
      }

pub travelled : Travelled
unfolding ByteStrings
travelled =
    record {
      index_forms = index_forms;
      drill = index_forms _ _ _ drill_typed drill_writable drill_small drill_bytes drill_short;
      content_forms = content_forms;
      typable = λ offset a b s e p. typable offset a s e p b;
      live_typable = live_typable;
      calls = can_call;
      stream = λ body text kind extension version kind' extension' version' b b' a a'.
          let ss = all_sections body kind extension version in
          let ts = all_sections text kind' extension' version' in
          let good = sections_good body kind extension version a in
          let bytes = sections_bytes body kind extension version a b in
          over_packets (ss ++ (ts ++ ss))
          (good_append ss (ts ++ ss) good (good_append ts ss (sections_good text kind' extension' version' a') good))
          (each_append AreBytes ss (ts ++ ss) bytes (each_append AreBytes ts ss (sections_bytes text kind' extension' version' a' b') bytes));
      roads = roads;
      alone = alone;
      among_others = among_others;
      none_first = none_first;
    }
