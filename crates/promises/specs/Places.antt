-- The places of refusals: "A refusal returns its number and a place".
use Rattle.std.specs.Prelude.{ℕ, ◌≤◌, ◌≡◌, List, length, leb, if◌then◌else◌, Ok, Err}
use Rattle.ground_refusal.specs.Numbers.{refusal_place, placeless}
use Rattle.ground_refusal.specs.declared.Refusal.{Refusal}
use Rattle.ground_refusal.specs.declared.Refusal.TheVariants.{OutputTooSmall}
use Rattle.section_reader.specs.Section.{read_section}
use Rattle.section_reader.specs.declared.Heading.{Heading}
use Rattle.section_cutter.specs.Cutting.{cut_answer}
use Rattle.salvage.specs.Salvage.{salvage_of}
use Rattle.gathering_state.specs.declared.Gathering.{Gathering}
use Rattle.gathering_feed.specs.Feeding.{fed_of}
use Rattle.gathering_hand_out.specs.Handing.{handed_of}
use Rattle.gathering_pack.specs.Packing.{packing_of}
use Rattle.teaching_feed.specs.Feeding.{answer_of}
use Rattle.teaching_hand_out.specs.Asking as teaching
use Rattle.body_formats.specs.Format.{Format}
use Rattle.body_formats.specs.Body.{body_read, measured, body_written, body_laid}
use Rattle.certificate.specs.Certificate.{certificate_kind, certificate}
use Rattle.index.specs.Index.{index_kind, index}
use Rattle.index_records.specs.Records.{body_recorded}
use Rattle.content.specs.Content.{content_kind, content, variant_read, variant_laid}
use Rattle.content_writer.specs.Written.{variant_measured, variant_written}
use Rattle.configuration.specs.Configuration.{configuration_kind, configuration}

-- of a table with the format F and the kind `own`
pub record PlacesOf {A : Type 0} (F : Format A) (own : ℕ) : Type 0 where
  -- "for 14 to 20 in a body the offset of the byte where the field begins; for left-over bytes the first of them; for a part that passes an
  -- end, its length field; else 0": in the body, or at its end where a field begins that is not there
  pub read : (kind : ℕ) (body : List ℕ) (r : Refusal) → body_read F own kind body ≡ Err r → refusal_place r ≤ length body
  pub laid : (kind : ℕ) (body : List ℕ) (room : ℕ) (r : Refusal) → body_laid F own kind body room ≡ Err r → refusal_place r ≤ length body
  -- of a form that is measured: the entry where the field begins, or the tape's end
  pub measured_at : (pool tape : List ℕ) (r : Refusal) → measured F pool tape ≡ Err r → refusal_place r ≤ length tape
  -- "and always 0 from writers": else a writer refuses as was measured, "then 21", and what it writes has the length that was measured
  pub written : (pool tape : List ℕ) (room : ℕ) (r : Refusal) → body_written F pool tape room ≡ Err r → refusal_place r ≡ 0
  pub refused_alike : (pool tape : List ℕ) (room : ℕ) (r : Refusal) → measured F pool tape ≡ Err r → body_written F pool tape room ≡ Err (placeless r)
  pub as_measured : (pool tape : List ℕ) (room n : ℕ) → measured F pool tape ≡ Ok n
      → body_written F pool tape room ≡ (if leb n room then Ok n else Err OutputTooSmall)

pub record Places : Type 0 where
  pub certificates : PlacesOf certificate certificate_kind
  pub indexes : PlacesOf index index_kind
  pub contents : (w : ℕ) → PlacesOf (content w) content_kind
  pub configurations : PlacesOf configuration configuration_kind
  -- the index reader that lays records; the content table's reader with its extension and its other calls, which take a variant
  pub recorded : (kind : ℕ) (body : List ℕ) (room : ℕ) (r : Refusal) → body_recorded kind body room ≡ Err r → refusal_place r ≤ length body
  pub extended : (kind v extension : ℕ) (body : List ℕ) (r : Refusal) → variant_read kind v extension body ≡ Err r → refusal_place r ≤ length body
  pub content_laid : (kind v : ℕ) (body : List ℕ) (room : ℕ) (r : Refusal) → variant_laid kind v body room ≡ Err r → refusal_place r ≤ length body
  pub content_measured : (v : ℕ) (pool tape : List ℕ) (r : Refusal) → variant_measured v pool tape ≡ Err r → refusal_place r ≤ length tape
  pub content_written_lem : (v : ℕ) (pool tape : List ℕ) (room : ℕ) (r : Refusal) → variant_written v pool tape room ≡ Err r → refusal_place r ≡ 0
  -- "else 0": of a section, of feeding either gathering, of the cutter and of salvaging
  pub section : (s : List ℕ) (r : Refusal) → read_section s ≡ Err r → refusal_place r ≡ 0
  pub fed : (g : Gathering) (store s : List ℕ) (r : Refusal) → (fed_of g store s).answer ≡ Err r → refusal_place r ≡ 0
  pub cut : (body : List ℕ) (kind extension version number : ℕ) (out : List ℕ) (r : Refusal)
      → cut_answer body kind extension version number out ≡ Err r → refusal_place r ≡ 0
  pub salvaged : (capture : List ℕ) (room entries : ℕ) (r : Refusal) → salvage_of capture room entries ≡ Err r → refusal_place r ≡ 0
  pub taught : (buffer : List ℕ) (used store : ℕ) (s : List ℕ) (r : Refusal) → answer_of buffer used store s ≡ Err r → refusal_place r ≡ 0
  -- "The place is 13's missing number": a number of the table
  pub handed : (g : Gathering) (store out : List ℕ) (r : Refusal) → handed_of g store out ≡ Err r → refusal_place r ≤ g.last
  pub packed : (g : Gathering) (store : List ℕ) (r : Refusal) → (packing_of g store).answer ≡ Err r → refusal_place r ≤ g.last
  pub taught_handed : (buffer : List ℕ) (used store : ℕ) (t : Heading) → teaching.heading_of buffer used store ≡ Ok t
      → (out : List ℕ) (r : Refusal) → teaching.handed_of buffer used store out ≡ Err r → refusal_place r ≤ t.last
