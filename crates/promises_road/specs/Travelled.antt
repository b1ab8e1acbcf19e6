-- The road can be gone: what is asked for on it is met by every table that can be sent and every time in range, in one stream of two tables, by a
-- gathering that is fed all of it, and by the drill's form.
use Rattle.std.specs.Prelude.{ℕ, ◌+◌, ◌≤◌, true, false, ◌≡◌, ℤ, pos, length, Ok}
use mathlib.Core.List.{List, [], ◌∷◌, ◌++◌, Memᴰ as In}
use Rattle.crc.specs.Crc.{AreBytes}
use Rattle.ground_numbers.specs.Sizes.{body_most}
use Rattle.time_fields.specs.Field.{live_mark}
use Rattle.time_printing.specs.Printing.{prints, start_text}
use Rattle.time_printing.specs.Typing.{typed_times}
use Rattle.section_cutter.specs.Cutting.{section_count, cut_heading, section_of, Askable}
use Rattle.packet_arrival.specs.Packed.{AllGood}
use Rattle.gathering_state.specs.State.{has_room}
use Rattle.gathering_account.specs.Arrival.{ArrivesFirst, sections_listed}
use Rattle.body_extension.specs.Extension.{extension_of}
use Rattle.index.specs.Index.{Message, Index, index}
use Rattle.content_variant.specs.Variant.{width_of}
use Rattle.content.specs.Content.{Content, content}
use Rattle.promises_road.specs.Calls.{PacketCalls}
use Rattle.promises_road.specs.Road.{FormTimes, AllTyped, IndexWritten, ContentWritten, OverPackets, Gathered, Road}

-- a body's sections, one after the other
abbrev pub all_sections : List ℕ → ℕ → ℕ → ℕ → List (List ℕ)
all_sections body kind extension version = sections_listed (section_of body kind extension version) 0 (section_count (length body))

-- its store has room for its table
abbrev pub Roomy : List ℕ → List ℕ → ℕ → ℕ → ℕ → Type 0
Roomy store body kind extension version = has_room (length store) (cut_heading (length body) kind extension version 0).last ≡ true

-- ---- the drill's form

-- `03/11/2024 07:45:00`, live
unfoldable pub drill_times : List FormTimes
drill_times =
    record {
      start = 48 ∷ 51 ∷ 47 ∷ 49 ∷ 49 ∷ 47 ∷ 50 ∷ 48 ∷ 50 ∷ 52 ∷ 32 ∷ 48 ∷ 55 ∷ 58 ∷ 52 ∷ 53 ∷ 58 ∷ 48 ∷ 48 ∷ [];
      live = true;
      end = [];
    }
    ∷ []

-- 01's field of it at +480 is ECC8234500
unfoldable pub drill_message : Message
drill_message =
    record {
      identifier =
          3 ∷ 6 ∷ 5 ∷ 4 ∷ 3 ∷ 2 ∷ 0 ∷ 0 ∷ 0 ∷ 0 ∷ 0 ∷ 0 ∷ 0 ∷ 0 ∷ 3 ∷ 0 ∷ 3 ∷ 0 ∷ 1 ∷ 0 ∷ 1 ∷ 0 ∷ 3
          ∷ 2 ∷ 0 ∷ 2 ∷ 4 ∷ 1 ∷ 1 ∷ 0 ∷ 3 ∷ 0 ∷ 0 ∷ 0 ∷ 1 ∷ [];
      network = 1;
      start = 0xECC8234500;
      end = live_mark;
      type = 0x31 ∷ 0x31 ∷ 0x41 ∷ 0x30 ∷ 0x31 ∷ [];
      class = 3;
      level = 4;
      resources = [];
      channel = (0, tt);
    }

unfoldable pub drill_index : Index
drill_index = record { messages = drill_message ∷ []; signature = [] }

-- ---- the statements

pub record Travelled : Type 0 where
  -- every index that can be sent, with times that are accepted, has a form from which it is written,
  pub index_forms : (offset : ℤ) (times : List FormTimes) (t : Index) → AllTyped offset times t.messages
      → index.writable t ≡ true → index.too_large t ≡ false → AreBytes (index.print t) → length (index.print t) ≤ body_most
      → IndexWritten offset times t (index.print t)
  -- as the drill's has; and so has every content table that can be sent, in either variant
  pub drill : IndexWritten (pos 480) drill_times drill_index (index.print drill_index)
  pub content_forms : (v w : ℕ) (t : Content) → Ok w ≡ width_of v
      → (content w).writable t ≡ true → (content w).too_large t ≡ false → AreBytes ((content w).print t) → length ((content w).print t) ≤ body_most
      → ContentWritten v w t (extension_of t.identifier) ((content w).print t)
  -- every field that can be printed at an offset can be typed there, and a live end asked for
  pub typable : (offset : ℤ) (a b : ℕ) (s e : List ℕ) → start_text a offset ≡ prints s → start_text b offset ≡ prints e → typed_times s false e offset ≡ Ok (a, b)
  pub live_typable : (offset : ℤ) (a : ℕ) (s e : List ℕ) → start_text a offset ≡ prints s → typed_times s true e offset ≡ Ok (a, live_mark)
  -- whatever good sections are sent, there are calls by which they go over packets;
  pub calls : (sent : List (List ℕ)) → AllGood sent → PacketCalls sent sent
  -- the sections of two bodies go over one stream of packets, one table's repeated after the other's;
  pub stream : (body text : List ℕ) (kind extension version kind' extension' version' : ℕ) → AreBytes body → AreBytes text
      → Askable (length body) kind extension version 0 → Askable (length text) kind' extension' version' 0
      → let ours = all_sections body kind extension version in
      let sent = ours ++ (all_sections text kind' extension' version' ++ ours) in
      OverPackets sent sent
  -- so every body of bytes that the cutter takes has a road, where store and output have room
  pub roads : (body : List ℕ) (kind extension version : ℕ) → AreBytes body → Askable (length body) kind extension version 0
      → (store : List ℕ) → Roomy store body kind extension version → (out : List ℕ) → length body ≤ length out → Road body kind extension version
  -- a gathering that is fed one table's of them, whatever else was sent,
  pub alone : (body : List ℕ) (kind extension version : ℕ) → Askable (length body) kind extension version 0
      → (got : List (List ℕ)) → ((s : List ℕ) → In s (all_sections body kind extension version) → In s got)
      → (store : List ℕ) → Roomy store body kind extension version
      → Gathered body kind extension version got store (all_sections body kind extension version)
  -- or all of them, where the other table has another kind or another extension,
  pub among_others : (body text : List ℕ) (kind extension version kind' extension' version' : ℕ) → (kind ≡ kind' → extension ≡ extension' → ⊥)
      → Askable (length body) kind extension version 0 → Askable (length text) kind' extension' version' 0
      → (store : List ℕ) → Roomy store body kind extension version
      → let ours = all_sections body kind extension version in
      let sent = ours ++ (all_sections text kind' extension' version' ++ ours) in
      Gathered body kind extension version sent store sent
  -- or any of which none is first in a stranger's place: the request's own words
  pub none_first : (body : List ℕ) (kind extension version : ℕ) → Askable (length body) kind extension version 0
      → (got : List (List ℕ)) (store : List ℕ) (fed : List (List ℕ)) → ((s : List ℕ) → In s fed → In s got)
      → ArrivesFirst (has_room (length store)) (cut_heading (length body) kind extension version 0) (section_of body kind extension version) fed
      → Gathered body kind extension version got store fed
