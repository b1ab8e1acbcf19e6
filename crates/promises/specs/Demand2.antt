-- Demand 2, sentence by sentence: tables, sections, times and days are written and read as the standard has them.
use Rattle.std.specs.Prelude.{ℕ, suc, ◌+◌, ◌≤◌, ◌<◌, ◌≡◌, true, false, List, ◌∷◌, ◌↔◌, length, take, Ok, Err}
use Rattle.ground_refusal.specs.declared.Refusal.TheVariants.{OtherKind, OutsideSet, ImpossibleDay, OtherChecksum}
use Rattle.ground_placing.specs.Placed.{placed}
use Rattle.crc_register.specs.Register.{bytes_bits}
use Rattle.crc.specs.Crc.{AreBytes, crc16_of, crc16_bits}
use Rattle.time_days.specs.Calendar.{in_range, day_of, date_of, day_after}
use Rattle.time_days.specs.declared.Date.{Date}
use Rattle.time_fields.specs.Field.{read_time, write_time}
use Rattle.time_fields.specs.declared.Moment.{Moment}
use Rattle.section_reader.specs.Section.{IsGood, IsPrinted}
use Rattle.section_cutter.specs.Cutting.{parts_joined, section_count, part_carried, counted_of, cut_heading, section_of, Allowed, Askable, cut_answer, cut_output}
use Rattle.section_reader.specs.declared.Heading.{Heading}
use Rattle.body_formats.specs.Reading.{found, and_then, unless, judged}
use Rattle.body_formats.specs.Format.{Format, decimal, digits}
use Rattle.ground_numbers.specs.Sizes.{body_most}
use Rattle.body_formats.specs.Body.{reading, body_read, measured, writing, body_written, output_written, body_laid, laid_tape}
use Rattle.body_formats.specs.Identifier.{identifier_pairs, identifier_year, identifier_month, identifier_day, has_real_day, identifier}
use Rattle.body_extension.specs.Extension.{identifier_bits, extension_of}
use Rattle.certificate.specs.Certificate.{Certificates, certificate_kind, certificate}
use Rattle.certificate_fields.specs.Agreement.{CertificateAsked}
use Rattle.index.specs.Index.{Index, index_kind, index}
use Rattle.index_fields.specs.Agreement.{IndexAsked}
use Rattle.index_records.specs.Agreement.{RecordsAre}
use Rattle.content.specs.Content.{Content, content_kind, content, reading_of, content_read, variant_read, variant_laid, variant_tape}
use Rattle.content_fields.specs.Asked.{auxiliary_type, auxiliary_part, variant_type, variant_part}
use Rattle.content_fields.specs.Agreement.{ContentAsked}
use Rattle.content_writer.specs.Written.{content_written, variant_measured, variant_written, variant_output}
use Rattle.configuration.specs.Configuration.{Configuration, configuration_kind, configuration}
use Rattle.configuration_fields.specs.Agreement.{ConfigurationAsked}
use Rattle.promises.specs.LocalTimes.{LocalTimes}

-- "Written and read as the standard has it, doubtful places settled in 01": a table's definition lists its fields in wire order beside 01's words
-- (`certificate`, `index`, `content`, `configuration`), and so do `read_section` and `printed` for a section, `read_time` for a time field and
-- `Calendar` for days. What follows says that the readers and writers agree with them.

-- ---- tables

-- a table that can be sent: no field of it is refused, no count or length is too large, and it is printed as bytes, at most 1,045,504
pub record WellFormed {A : Type 0} (F : Format A) (t : A) : Type 0 where
  pub writable : F.writable t ≡ true
  pub small : F.too_large t ≡ false
  pub bytes : AreBytes (F.print t)
  pub short : length (F.print t) ≤ body_most

-- a body of this kind is the bytes of the table t
pub record Holds {A : Type 0} (F : Format A) (own kind : ℕ) (body : List ℕ) (t : A) : Type 0 where
  pub kind_is : kind ≡ own
  pub body_is : body ≡ F.print t
  pub formed : WellFormed F t

-- of a table with the format F and the kind `own`
pub record WrittenAndRead {A : Type 0} (F : Format A) (own : ℕ) : Type 0 where
  -- a body is read as the table t exactly if it is the bytes of t,
  pub reads_exactly : (kind : ℕ) (body : List ℕ) (t : A) → AreBytes body → (reading F own kind body ≡ found t (length body)) ↔ Holds F own kind body t
  -- it is accepted exactly if it is the bytes of some table, and then read to its end
  pub accepts_exactly : (kind : ℕ) (body : List ℕ) → AreBytes body → (body_read F own kind body ≡ Ok (length body)) ↔ ((t : A) × Holds F own kind body t)
  pub ends : (kind : ℕ) (body : List ℕ) (n : ℕ) → AreBytes body → body_read F own kind body ≡ Ok n → n ≡ length body
  -- "Each well-formed table reads back as itself": there is a form from which it is written, and what is written from any form reads back
  pub is_written : (t : A) → WellFormed F t → (out : List ℕ) → length (F.print t) ≤ length out
      → writing F (F.print t) (F.tape t 0) (length out) ≡ found t (length (F.print t))
  pub reads_back : (pool tape out : List ℕ) (t : A) (n : ℕ) → writing F pool tape (length out) ≡ found t n
      → (output_written F pool tape out ≡ placed out 0 (F.print t)) × (n ≡ length (F.print t)) × (reading F own own (F.print t) ≡ found t n)
  -- "each accepted table writes back to its bytes": it is laid onto any tape with room for its entries, and from them it is written
  pub is_laid : (kind : ℕ) (body : List ℕ) (t : A) → reading F own kind body ≡ found t (length body) → (tape : List ℕ) → length (F.tape t 0) ≤ length tape
      → body_laid F own kind body (length tape) ≡ Ok (length (F.tape t 0))
  pub writes_back : (kind : ℕ) (body : List ℕ) → AreBytes body → (tape : List ℕ) (m : ℕ) → body_laid F own kind body (length tape) ≡ Ok m
      → (out : List ℕ) → length body ≤ length out
      → (body_written F body (take m (laid_tape F own kind body tape)) (length out) ≡ Ok (length body))
      × (output_written F body (take m (laid_tape F own kind body tape)) out ≡ placed out 0 body)

-- M-103: "The checksum is over the 140 bits alone, high bit first, from the same start value"
pub record Checked : Type 0 where
  -- "Write the definition over a string of bits, show that for whole bytes it is the old one"
  pub whole_bytes : (s : List ℕ) → crc16_bits (bytes_bits s) ≡ crc16_of s
  -- an identifier is sent as four reserved ones and then the bits that are checked, which are 140
  pub four_ones : (ds : List ℕ) → identifier.writable ds ≡ true → bytes_bits (identifier.print ds) ≡ true ∷ true ∷ true ∷ true ∷ identifier_bits ds
  pub no_more : (ds : List ℕ) → identifier.writable ds ≡ true → length (identifier_bits ds) ≡ 140

-- M-101: "Digits 24 to 31 of the identifier (YYYYMMDD) must be a real day from 1 March 1900 to 22 April 2038"
pub record RealDays : Type 0 where
  -- an identifier can be sent exactly if its 35 digits are decimal and some day of the range has the date that eight of them are
  pub sent_exactly : (ds : List ℕ) → (identifier.writable ds ≡ true) ↔ ((length ds ≡ 35) × (decimal ds ≡ true)
      × ((n : ℕ) × (date_of n ≡ Ok (record { year = identifier_year ds; month = identifier_month ds; day = identifier_day ds }))))
  -- "20 at the identifier's place, after 18": where its digits are found, in a body and in a form, their day decides; what is refused before stays
  pub read_judged : (s : List ℕ) (l p : ℕ)
      → identifier.parse s l p ≡ and_then ((digits identifier_pairs).parse s l p) (λ ds q. judged (unless (has_real_day ds) (ImpossibleDay p)) (found ds q))
  pub form_judged : (pool tape : List ℕ) (k : ℕ)
      → identifier.form pool tape k ≡ and_then ((digits identifier_pairs).form pool tape k) (λ ds j. judged (unless (has_real_day ds) (ImpossibleDay k)) (found ds j))

-- a content table, whose auxiliary files have lengths of w bytes, also has the extension of its identifier
pub record HoldsContent (w kind extension : ℕ) (body : List ℕ) (t : Content) : Type 0 where
  pub holds : Holds (content w) content_kind kind body t
  pub extension_is : extension ≡ extension_of t.identifier

pub record Extended (w : ℕ) : Type 0 where
  pub reads_exactly : (kind extension : ℕ) (body : List ℕ) (t : Content) → AreBytes body
      → (reading_of w kind extension body ≡ found t (length body)) ↔ HoldsContent w kind extension body t
  pub accepts_exactly : (kind extension : ℕ) (body : List ℕ) → AreBytes body
      → (content_read w kind extension body ≡ Ok (length body)) ↔ ((t : Content) × HoldsContent w kind extension body t)
  -- "the content writer also gives the extension": what it wrote reads back with the one that it gave
  pub written_with : (pool tape out : List ℕ) (n extension : ℕ) → content_written w pool tape (length out) ≡ Ok (n, extension)
      → (t : Content) × (output_written (content w) pool tape out ≡ placed out 0 ((content w).print t)) × (reading_of w content_kind extension ((content w).print t) ≡ found t n)
  -- with the checksum of before M-103, over the 18 bytes, none is accepted: 23
  pub old_refused : (kind : ℕ) (body : List ℕ) (t : Content) → Holds (content w) content_kind kind body t
      → content_read w kind (crc16_of (take 18 body)) body ≡ Err OtherChecksum

-- "The smallest body is 33 bytes": no accepted one is shorter, and one has as many
pub record Smallest (w : ℕ) : Type 0 where
  pub least : (kind extension : ℕ) (body : List ℕ) (n : ℕ) → AreBytes body → content_read w kind extension body ≡ Ok n → 33 ≤ length body
  pub reached : (extension : ℕ) × (body : List ℕ) × AreBytes body × (length body ≡ 33) × (content_read w content_kind extension body ≡ Ok 33)

-- M-107: "Prove reading and writing once over the width": of content tables whose auxiliary files have lengths of w bytes
pub record OfWidth (w : ℕ) : Type 0 where
  pub written_and_read : WrittenAndRead (content w) content_kind
  pub extended : Extended w
  pub smallest : Smallest w
  pub asked : (kind : ℕ) (body : List ℕ) (t : Content) → AreBytes body → Holds (content w) content_kind kind body t → ContentAsked w body t

-- "[..] and get both variants from it": where the variant v is named, the answers are those of w bytes, whatever else is handed in
pub record IsVariant (v w : ℕ) : Type 0 where
  pub reads : (kind extension : ℕ) (body : List ℕ) → variant_read kind v extension body ≡ content_read w kind extension body
  pub lays : (kind : ℕ) (body : List ℕ) (room : ℕ) → variant_laid kind v body room ≡ body_laid (content w) content_kind kind body room
  pub tape_left : (kind : ℕ) (body tape : List ℕ) → variant_tape kind v body tape ≡ laid_tape (content w) content_kind kind body tape
  pub measures : (pool tape : List ℕ) → variant_measured v pool tape ≡ measured (content w) pool tape
  pub writes : (pool tape : List ℕ) (room : ℕ) → variant_written v pool tape room ≡ content_written w pool tape room
  pub output_left : (pool tape out : List ℕ) → variant_output v pool tape out ≡ output_written (content w) pool tape out
  pub type_asked : (body : List ℕ) (at n i : ℕ) → variant_type v body at n i ≡ auxiliary_type w body at n i
  pub file_asked : (body : List ℕ) (at n i : ℕ) → variant_part v body at n i ≡ auxiliary_part w body at n i

-- "Refusals: 19 for any other variant, after 2", before all else, whatever the body or the form, and nothing is written
pub record NoVariant (v : ℕ) : Type 0 where
  pub other_kind : (kind extension : ℕ) (body : List ℕ) → (kind ≡ content_kind → ⊥) → variant_read kind v extension body ≡ Err OtherKind
  pub other_kind_laid : (kind : ℕ) (body : List ℕ) (room : ℕ) → (kind ≡ content_kind → ⊥) → variant_laid kind v body room ≡ Err OtherKind
  pub unread : (extension : ℕ) (body : List ℕ) → variant_read content_kind v extension body ≡ Err (OutsideSet 0)
  pub unlaid : (body : List ℕ) (room : ℕ) → variant_laid content_kind v body room ≡ Err (OutsideSet 0)
  pub tape_stays : (kind : ℕ) (body tape : List ℕ) → variant_tape kind v body tape ≡ tape
  pub unmeasured : (pool tape : List ℕ) → variant_measured v pool tape ≡ Err (OutsideSet 0)
  pub unwritten : (pool tape : List ℕ) (room : ℕ) → variant_written v pool tape room ≡ Err (OutsideSet 0)
  pub output_stays : (pool tape out : List ℕ) → variant_output v pool tape out ≡ out
  pub no_type : (body : List ℕ) (at n i : ℕ) → variant_type v body at n i ≡ Err (OutsideSet 0)
  pub no_file : (body : List ℕ) (at n i : ℕ) → variant_part v body at n i ≡ Err (OutsideSet 0)

-- "Demand 2 is read per variant; 01's cases are the 24-bit one"
pub record Variants : Type 0 where
  pub of_width : (w : ℕ) → OfWidth w
  pub is_24 : IsVariant 24 3
  pub is_32 : IsVariant 32 4
  pub no_other : (v : ℕ) → (v ≡ 24 → ⊥) → (v ≡ 32 → ⊥) → NoVariant v

-- ---- sections

pub record SectionsRead : Type 0 where
  -- a byte string is good exactly if it is the section printed of its heading and its payload
  pub good_exactly : (s : List ℕ) (h : Heading) (payload : List ℕ) → AreBytes s → IsGood s h payload ↔ IsPrinted s h payload
  -- "A body of L bytes (1 to 1,045,504) makes the ceiling of L ÷ 4,084 sections"
  pub counted : (n : ℕ) → 0 < n → n ≤ body_most → counted_of n ≡ Ok (section_count n)
  -- what the cutter writes is good, with the heading asked for and its part of the body
  pub cut_reads : (body : List ℕ) (kind extension version number : ℕ) (out : List ℕ) (n : ℕ) → cut_answer body kind extension version number out ≡ Ok n
      → IsGood (take n (cut_output body kind extension version number out)) (cut_heading (length body) kind extension version number) (part_carried body number)
  -- it writes each of them, where the output has room
  pub is_cut : (body : List ℕ) (kind extension version number : ℕ) → Askable (length body) kind extension version number
      → (out : List ℕ) → length (part_carried body number) + 12 ≤ length out → cut_answer body kind extension version number out ≡ Ok (length (part_carried body number) + 12)
  -- and all of them joined are the body
  pub cut_joined : (body : List ℕ) (kind extension version : ℕ) → Allowed kind extension version → 0 < length body → length body ≤ body_most
      → parts_joined (section_of body kind extension version) (section_count (length body)) ≡ body

-- ---- times and days

-- a time field and the moment that it says, both ways
pub record Times : Type 0 where
  pub writes_read : (field at : ℕ) (m : Moment) → read_time field at ≡ Ok m → write_time m ≡ Ok field
  pub reads_written : (m : Moment) (at field : ℕ) → write_time m ≡ Ok field → read_time field at ≡ Ok m

-- "days agree with the Gregorian calendar from 1 March 1900 to 22 April 2038"
pub record Days : Type 0 where
  pub starts : date_of 15079 ≡ Ok (record { year = 1900; month = 3; day = 1 })
  -- each day has the date after the last one's, by leap years and the months' lengths
  pub goes_on : (n : ℕ) (date : Date) → date_of n ≡ Ok date → n < 65535 → date_of (suc n) ≡ Ok (day_after date)
  pub ends : date_of 65535 ≡ Ok (record { year = 2038; month = 4; day = 22 })
  pub no_other : (n : ℕ) → in_range n ≡ false → date_of n ≡ Err (ImpossibleDay 0)
  -- the day of a date and the date of a day are each other's inverse
  pub date_of_day : (y m d n : ℕ) → day_of y m d ≡ Ok n → date_of n ≡ Ok (record { year = y; month = m; day = d })
  pub day_of_date : (n : ℕ) (date : Date) → date_of n ≡ Ok date → day_of date.year date.month date.day ≡ Ok n

-- ---- the demand

pub record Demand2 : Type 0 where
  pub certificates : WrittenAndRead certificate certificate_kind
  pub indexes : WrittenAndRead index index_kind
  pub contents : Variants
  pub configurations : WrittenAndRead configuration configuration_kind
  pub real_days : RealDays
  pub checked : Checked
  -- "Every field of an accepted table can be asked for, opaque bytes as the part of the body they fill; one that isn't there is 19, place 0"
  pub certificates_asked : (kind : ℕ) (body : List ℕ) (t : Certificates) → AreBytes body → Holds certificate certificate_kind kind body t
      → CertificateAsked body t
  pub indexes_asked : (kind : ℕ) (body : List ℕ) (t : Index) → AreBytes body → Holds index index_kind kind body t → IndexAsked body t
  pub configurations_asked : (kind : ℕ) (body : List ℕ) (t : Configuration) → AreBytes body → Holds configuration configuration_kind kind body t
      → ConfigurationAsked body t
  -- "messages are laid in a lent list of message records": record i is message i's
  pub records_are : (kind : ℕ) (body : List ℕ) (t : Index) → AreBytes body → Holds index index_kind kind body t → RecordsAre kind body t
  pub sections : SectionsRead
  pub times : Times
  pub days : Days
  -- day first, and there and back
  pub local_times : LocalTimes
