-- Demand 2: for every table from its round trips and the agreement of its fields, for sections, times and days from their crates' theorems.
use Prim.Native.Nat.{ℕ, zero, suc, ◌+◌, ◌≤◌, ◌<◌}
use Rattle.ground_refusal.proofs.Exits.{ok_pair_inj}
use Rattle.std.specs.Prelude.{Ok, Err}
use mathlib.Core.Path.{◌≡◌, refl, sym, ap, ◌∙◌, subst}
use mathlib.Core.Bool.{true}
use mathlib.Core.List.{List, [], ◌∷◌}
use native.Mathlib.Omega.{arith}
use lib.ListN.{length, get_or, take}
use lib.Dec.{ltb, leb, eqb}
use borrow.Author.Tests.{ltb-true, eqb-true, le-leb, eq-eqb, ne_eqb}
use Rattle.ground_choices.proofs.Tests.{both}
use Rattle.ground_refusal.specs.declared.Refusal.TheVariants.{OtherKind, OutsideSet, OutputTooSmall, OtherChecksum}
use Rattle.ground_placing.specs.Placed.{placed}
use Rattle.ground_placing.proofs.Placing.{placed_start}
use Rattle.crc.specs.Crc.{AreBytes, crc16_of}
use Rattle.crc.proofs.Laws.{crc16_whole}
use Rattle.time_days.specs.Calendar.{date_of}
use Rattle.time_days.proofs.Theorems.{date_of_day, day_of_date, next_day}
use Rattle.time_days.proofs.Values as days
use Rattle.time_fields.proofs.Inverse.{writes_read, reads_written}
use Rattle.section_cutter.specs.Cutting.{part_carried, cut_heading, section_of, cut_by, cut_answer, Askable}
use Rattle.section_cutter.proofs.Counting.{counted_is}
use Rattle.section_reader.proofs.Printing.{printed_length}
use Rattle.section_reader.proofs.RoundTrip.{good_exactly}
use Rattle.section_cutter.proofs.Sections.{cut_writes, cut_reads, cut_joined}
use Rattle.body_formats.specs.Reading.{Reading, found, refused}
use Rattle.body_formats.specs.Format.{Format, every}
use Rattle.body_formats.specs.Answers.{step_of}
use Rattle.ground_numbers.specs.Sizes.{body_most}
use Rattle.body_formats.specs.Body.{reading, body_read, writing, body_written, output_written, laying, body_laid, laid_tape}
use Rattle.body_formats.proofs.Classes.{Proper}
use Rattle.body_formats.proofs.Outcomes.{found_inj, and_then_found, need_found}
use Rattle.body_formats.proofs.RoundTrips as trips
use Rattle.certificate.specs.Certificate.{certificate_kind, certificate}
use Rattle.certificate.proofs.RoundTrips.{certificate_trips}
use Rattle.certificate_fields.proofs.Table.{certificate_asked}
use Rattle.index.specs.Index.{index_kind, index}
use Rattle.index.proofs.RoundTrips.{index_trips}
use Rattle.index_fields.proofs.Asked.{index_asked}
use Rattle.index_records.proofs.Laid.{records_are}
use Rattle.body_extension.specs.Extension.{extension_of}
use Rattle.body_extension.proofs.Bits.{four_ones, checked_bits}
use Rattle.content.specs.Content.{Content, content_kind, content, reading_of, content_read}
use Rattle.content.proofs.Extension.{other_before}
use Rattle.content.proofs.RoundTrips.{content_trips}
use Rattle.content.proofs.Smallest.{content_takes, smallest_body, smallest_accepted}
use Rattle.content.proofs.Variants.{read_no, laid_no, unnamed_tape, variant_reads, variant_lays, variant_tape_lem}
use Rattle.content_variant.specs.Variant.{width_of}
use Rattle.content_variant.proofs.Variant as variant
use Rattle.content_fields.proofs.Answers.{variant_type_no, variant_type_is, variant_part_no, variant_part_is}
use Rattle.content_fields.proofs.Asked.{content_asked}
use Rattle.content_writer.specs.Written.{written_of, content_written}
use Rattle.content_writer.proofs.Variants.{measured_no, written_no, output_no, measured_wide, written_wide, output_wide}
use Rattle.configuration.specs.Configuration.{configuration_kind, configuration}
use Rattle.configuration.proofs.RoundTrips.{configuration_trips}
use Rattle.configuration_fields.proofs.Asked.{configuration_asked}
use Rattle.promises.specs.Demand2.{WellFormed, Holds, WrittenAndRead, Checked, HoldsContent, Extended, Smallest, OfWidth, IsVariant, NoVariant, Variants, SectionsRead, Times, Days, Demand2}
use Rattle.promises.proofs.LocalTimes.{local_times}
use Rattle.promises.proofs.RealDays.{real_days}

-- ---- tables

-- an answer that accepts has a value found
step_found : {A : Type 0} (x : Reading A) (n : ℕ) → step_of x ≡ Ok n → (a : A) × (x ≡ found a n)
step_found (found a q) n e = let z : q ≡ n = cc in (a, ap (found a) z)
step_found (refused r) n e = absurd (let z : ◌≡◌ {A = ℕ} 0 1 = cc in omega arith)

module _ {A : Type 0} (F : Format A) (own : ℕ) (f : trips.RoundTrips F own) where
  ok : (t : A) → WellFormed F t → Proper F t
  ok t w = record { writable = w.writable; small = w.small }

  own_kind : (kind : ℕ) (body : List ℕ) (t : A) (n : ℕ) → reading F own kind body ≡ found t n → kind ≡ own
  unfolding reading
  own_kind kind body t n e = eqb-true kind own (need_found (eqb kind own) OtherKind _ t n e).0

  -- what is read is held, and read to its end
  read_holds : (kind : ℕ) (body : List ℕ) (t : A) (n : ℕ) → AreBytes body → reading F own kind body ≡ found t n → Holds F own kind body t × (n ≡ length body)
  read_holds kind body t n b e =
      let k = own_kind kind body t n e in
      let a = f.accepted_exactly body b.byte t n (rw k at e) in (
        record {
          kind_is = k;
          body_is = a.0;
          formed = record { writable = a.1.writable; small = a.1.small; bytes = subst AreBytes a.0 b; short = subst (λ (s : List ℕ). length s ≤ body_most) a.0 a.2 };
        },
        a.3,
      )

  held_reads : (kind : ℕ) (body : List ℕ) (t : A) → Holds F own kind body t → reading F own kind body ≡ found t (length body)
  held_reads kind body t h = rw (h.kind_is, h.body_is) (f.reads_back t (ok t h.formed) h.formed.short)

  accepts : (kind : ℕ) (body : List ℕ) (n : ℕ) → AreBytes body → body_read F own kind body ≡ Ok n → ((t : A) × Holds F own kind body t) × (n ≡ length body)
  unfolding body_read
  accepts kind body n b e =
      let x = step_found (reading F own kind body) n e in
      let h = read_holds kind body x.0 n b x.1 in
      ((x.0, h.0), h.1)

  held_accepts : (kind : ℕ) (body : List ℕ) (t : A) → Holds F own kind body t → body_read F own kind body ≡ Ok (length body)
  unfolding body_read
  held_accepts kind body t h = ap step_of (held_reads kind body t h)

  written : (pool tape out : List ℕ) (t : A) (n : ℕ) → writing F pool tape (length out) ≡ found t n → output_written F pool tape out ≡ placed out 0 (F.print t)
  unfolding output_written
  written pool tape out t n e = rw e

  is_laid : (kind : ℕ) (body : List ℕ) (t : A) → reading F own kind body ≡ found t (length body) → (tape : List ℕ) → length (F.tape t 0) ≤ length tape
      → body_laid F own kind body (length tape) ≡ Ok (length (F.tape t 0))
  unfolding body_laid laying
  is_laid kind body t e tape h = rw (e, le-leb (length (F.tape t 0)) (length tape) h)

  -- what was laid is the table's tape
  tape_is : (kind : ℕ) (body tape : List ℕ) (t : A) (n : ℕ) → reading F own kind body ≡ found t n → leb (length (F.tape t 0)) (length tape) ≡ true
      → laid_tape F own kind body tape ≡ placed tape 0 (F.tape t 0)
  unfolding laid_tape laying
  tape_is kind body tape t n e l = rw (e, l)

  laid_is : (kind : ℕ) (body tape : List ℕ) (m : ℕ) → body_laid F own kind body (length tape) ≡ Ok m
      → (t : A) × (n : ℕ) × (reading F own kind body ≡ found t n) × (take m (laid_tape F own kind body tape) ≡ F.tape t 0)
  unfolding body_laid laying
  laid_is kind body tape m e =
      let x = step_found (laying F own kind body (length tape)) m e in
      let i = and_then_found (reading F own kind body) _ x.0 m x.1 in
      let t = i.0 in
      let c = need_found (leb (length (F.tape t 0)) (length tape)) OutputTooSmall _ x.0 m i.3 in (
        t,
        i.1,
        i.2,
        ap (take m) (tape_is kind body tape t i.1 i.2 c.0) ∙ placed_start tape (F.tape t 0) m (sym (found_inj c.1).1),
      )

  writes_back : (kind : ℕ) (body : List ℕ) → AreBytes body → (tape : List ℕ) (m : ℕ) → body_laid F own kind body (length tape) ≡ Ok m
      → (out : List ℕ) → length body ≤ length out
      → (body_written F body (take m (laid_tape F own kind body tape)) (length out) ≡ Ok (length body))
      × (output_written F body (take m (laid_tape F own kind body tape)) out ≡ placed out 0 body)
  unfolding body_written
  writes_back kind body b tape m e out l =
      let x = laid_is kind body tape m e in
      let w = f.writes_back kind body b.byte x.0 x.1 x.2 out l in
      (ap (λ (t : List ℕ). body_written F body t (length out)) x.3 ∙ ap step_of w.0, ap (λ (t : List ℕ). output_written F body t out) x.3 ∙ w.1)

  round_trips : WrittenAndRead F own
  round_trips =
      record {
        reads_exactly = λ kind body t b. (λ e. (read_holds kind body t (length body) b e).0, held_reads kind body t);
        accepts_exactly = λ kind body b. (λ e. (accepts kind body (length body) b e).0, λ x. held_accepts kind body x.0 x.1);
        ends = λ kind body n b e. (accepts kind body n b e).1;
        is_written = λ t w out l. (f.writes_back own (F.print t) w.bytes.byte t (length (F.print t)) (f.reads_back t (ok t w) w.short) out l).0;
        reads_back = λ pool tape out t n e. let r = f.written_reads_back pool tape (length out) t n e in (written pool tape out t n e, r.0, r.3);
        is_laid = is_laid;
        writes_back = writes_back;
      }

-- ---- the content table's extension

module _ (w kind extension : ℕ) (body : List ℕ) where
  content_holds : (t : Content) → AreBytes body → reading_of w kind extension body ≡ found t (length body) → HoldsContent w kind extension body t
  unfolding reading_of
  content_holds t b e =
      let i = and_then_found (reading (content w) content_kind kind body) _ t (length body) e in
      let c = need_found (eqb extension (extension_of i.0.identifier)) OtherChecksum _ t (length body) i.3 in
      let h : HoldsContent w kind extension body i.0 =
      record {
        holds = (read_holds (content w) content_kind (content_trips w) kind body i.0 i.1 b i.2).0;
        extension_is = eqb-true extension (extension_of i.0.identifier) c.0;
      } in
      subst (HoldsContent w kind extension body) (found_inj c.1).0 h

  content_reads : (t : Content) → HoldsContent w kind extension body t → reading_of w kind extension body ≡ found t (length body)
  unfolding reading_of
  content_reads t h =
      rw (held_reads (content w) content_kind (content_trips w) kind body t h.holds, eq-eqb extension (extension_of t.identifier) h.extension_is)

  content_accepts : AreBytes body → content_read w kind extension body ≡ Ok (length body) → (t : Content) × HoldsContent w kind extension body t
  unfolding content_read
  content_accepts b e =
      let x = step_found (reading_of w kind extension body) (length body) e in
      (x.0, content_holds x.0 b x.1)

  content_accepted : (t : Content) → HoldsContent w kind extension body t → content_read w kind extension body ≡ Ok (length body)
  unfolding content_read
  content_accepted t h = ap step_of (content_reads t h)

-- the writer's answer is a table's, with the extension of its identifier
given : (x : Reading Content) (n extension : ℕ) → written_of x ≡ Ok (n, extension) → (t : Content) × (x ≡ found t n) × (extension ≡ extension_of t.identifier)
given (found t m) n extension e =
    let i = ok_pair_inj e in
    (t, ap (found t) i.0, sym i.1)
given (refused r) n extension e = absurd (let z : ◌≡◌ {A = ℕ} 0 1 = cc in omega arith)

written_with : (w : ℕ) (pool tape out : List ℕ) (n extension : ℕ) → content_written w pool tape (length out) ≡ Ok (n, extension)
    → (t : Content) × (output_written (content w) pool tape out ≡ placed out 0 ((content w).print t)) × (reading_of w content_kind extension ((content w).print t) ≡ found t n)
unfolding content_written reading_of
written_with w pool tape out n extension e =
    let g = given (writing (content w) pool tape (length out)) n extension e in
    let r = (round_trips (content w) content_kind (content_trips w)).reads_back pool tape out g.0 n g.1 in
    (g.0, r.0, rw (r.2, eq-eqb extension (extension_of g.0.identifier) g.2))

old_refused : (w kind : ℕ) (body : List ℕ) (t : Content) → Holds (content w) content_kind kind body t
    → content_read w kind (crc16_of (take 18 body)) body ≡ Err OtherChecksum
unfolding content_read reading_of
old_refused w kind body t h =
    let never : crc16_of (take 18 body) ≡ extension_of t.identifier → ⊥ = λ e.
    other_before w t (ok (content w) content_kind (content_trips w) t h.formed) (ap (λ (s : List ℕ). crc16_of (take 18 s)) (sym h.body_is) ∙ e) in
    rw (held_reads (content w) content_kind (content_trips w) kind body t h, ne_eqb (crc16_of (take 18 body)) (extension_of t.identifier) never)

checked : Checked
checked = record { whole_bytes = crc16_whole; four_ones = four_ones; no_more = checked_bits }

extended : (w : ℕ) → Extended w
extended w =
    record {
      reads_exactly = λ kind extension body t b. (content_holds w kind extension body t b, content_reads w kind extension body t);
      accepts_exactly = λ kind extension body b. (content_accepts w kind extension body b, λ x. content_accepted w kind extension body x.0 x.1);
      written_with = written_with w;
      old_refused = old_refused w;
    }

-- ---- the smallest content body

module _ (w kind extension : ℕ) (body : List ℕ) where
  content_least : (n : ℕ) → AreBytes body → content_read w kind extension body ≡ Ok n → 33 ≤ length body
  unfolding content_read reading_of
  content_least n b e =
      let x = step_found (reading_of w kind extension body) n e in
      let i = and_then_found (reading (content w) content_kind kind body) _ x.0 n x.1 in
      let h = (read_holds (content w) content_kind (content_trips w) kind body i.0 i.1 b i.2).0 in
      subst (λ (s : List ℕ). 33 ≤ length s) (sym h.body_is) (content_takes w i.0 h.formed.writable)

all_bytes : (s : List ℕ) → every (λ x. ltb x 256) s ≡ true → (i : ℕ) → get_or s i 0 < 256
unfolding every
all_bytes [] e i = omega arith
all_bytes (x ∷ xs) e zero = ltb-true x 256 (both (ltb x 256) _ e).0
all_bytes (x ∷ xs) e (suc i) = all_bytes xs (both (ltb x 256) _ e).1 i

smallest_read : (w : ℕ) → (t : Content) × (reading (content w) content_kind content_kind smallest_body ≡ found t 33)
unfolding body_read
smallest_read w = step_found (reading (content w) content_kind content_kind smallest_body) 33 (smallest_accepted w)

smallest : (w : ℕ) → Smallest w
unfolding content_read reading_of every smallest_body
smallest w =
    let given = extension_of (smallest_read w).0.identifier in
    record {
      least = content_least w;
      reached = (given, smallest_body, record { byte = all_bytes smallest_body refl }, refl, rw ((smallest_read w).1, eq-eqb given given refl));
    }

-- ---- the content table's variants

of_width : (w : ℕ) → OfWidth w
of_width w =
    record {
      written_and_read = round_trips (content w) content_kind (content_trips w);
      extended = extended w;
      smallest = smallest w;
      asked = λ kind body t b h.
          content_asked w kind body b.byte t (length body) (held_reads (content w) content_kind (content_trips w) kind body t h);
    }

is_variant : (v w : ℕ) → Ok w ≡ width_of v → IsVariant v w
is_variant v w e =
    record {
      reads = λ kind extension body. variant_reads v w e kind body extension;
      lays = λ kind body. variant_lays v w e kind body;
      tape_left = λ kind body. variant_tape_lem v w e kind body;
      measures = λ pool tape. sym (measured_wide v w e pool tape);
      writes = λ pool tape room. sym (written_wide v w e pool tape room);
      output_left = λ pool tape out. sym (output_wide v w e pool tape out);
      type_asked = λ body at n i. sym (variant_type_is v w e body at n i);
      file_asked = λ body at n i. sym (variant_part_is v w e body at n i);
    }

no_variant : (v : ℕ) → Err (OutsideSet 0) ≡ width_of v → NoVariant v
no_variant v e =
    record {
      other_kind = λ kind extension body h. sym (read_no kind v body OtherKind (variant.other_kind kind v (length body) h) extension);
      other_kind_laid = λ kind body room h. sym (laid_no kind v body OtherKind (variant.other_kind kind v (length body) h) room);
      unread = λ extension body. sym (read_no content_kind v body (OutsideSet 0) (variant.no_variant content_kind v (length body) refl (OutsideSet 0) e) extension);
      unlaid = λ body room. sym (laid_no content_kind v body (OutsideSet 0) (variant.no_variant content_kind v (length body) refl (OutsideSet 0) e) room);
      tape_stays = λ kind body tape. unnamed_tape kind v body (OutsideSet 0) e tape;
      unmeasured = λ pool tape. sym (measured_no v (OutsideSet 0) e pool tape);
      unwritten = λ pool tape room. sym (written_no v (OutsideSet 0) e pool tape room);
      output_stays = λ pool tape out. sym (output_no v (OutsideSet 0) e pool tape out);
      no_type = λ body at n i. sym (variant_type_no v (OutsideSet 0) e body at n i);
      no_file = λ body at n i. sym (variant_part_no v (OutsideSet 0) e body at n i);
    }

variants : Variants
variants =
    record {
      of_width = of_width;
      is_24 = is_variant 24 3 (variant.width_24 24 refl);
      is_32 = is_variant 32 4 (variant.width_32 32 refl);
      no_other = λ v a b. no_variant v (variant.no_width v a b);
    }

-- ---- sections

is_cut : (body : List ℕ) (kind extension version number : ℕ) → Askable (length body) kind extension version number
    → (out : List ℕ) → length (part_carried body number) + 12 ≤ length out → cut_answer body kind extension version number out ≡ Ok (length (part_carried body number) + 12)
unfolding section_of cut_by
is_cut body kind extension version number a out l =
    ap cut_by (cut_writes body kind extension version number (length out) a l)
    ∙ ap Ok (printed_length (cut_heading (length body) kind extension version number) (part_carried body number))

sections : SectionsRead
sections =
    record {
      good_exactly = good_exactly;
      counted = counted_is;
      cut_reads = λ body kind extension version number out n e. cut_reads body kind extension version number out _ n (sym e) refl;
      is_cut = is_cut;
      cut_joined = cut_joined;
    }

-- ---- times and days

times : Times
times = record { writes_read = λ field at m. writes_read field at; reads_written = λ m at field. reads_written m at }

calendar : Days
unfolding date_of
calendar =
    record {
      starts = (days.values).6;
      goes_on = next_day;
      ends = (days.values).18;
      no_other = λ n e. rw e;
      date_of_day = date_of_day;
      day_of_date = day_of_date;
    }

-- ---- the demand

pub demand2 : Demand2
demand2 =
    record {
      certificates = round_trips certificate certificate_kind certificate_trips;
      indexes = round_trips index index_kind index_trips;
      contents = variants;
      configurations = round_trips configuration configuration_kind configuration_trips;
      real_days = real_days;
      checked = checked;
      certificates_asked = λ kind body t b h.
          certificate_asked kind body b.byte t (length body) (held_reads certificate certificate_kind certificate_trips kind body t h);
      indexes_asked = λ kind body t b h.
          index_asked kind body b.byte t (length body) (held_reads index index_kind index_trips kind body t h);
      configurations_asked = λ kind body t b h.
          configuration_asked kind body b.byte t (length body) (held_reads configuration configuration_kind configuration_trips kind body t h);
      records_are = λ kind body t b h.
          records_are kind body b.byte t (length body) (held_reads index index_kind index_trips kind body t h);
      sections = sections;
      times = times;
      days = calendar;
      local_times = local_times;
    }
