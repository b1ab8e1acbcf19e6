-- M-113, the promise that the library exists for: the day that a coordinator typed is the day that the screen shows.
use Rattle.std.specs.Prelude.{ℕ, ◌≡◌, ℤ, length, take, Ok}
use mathlib.Core.List.{List, Memᴰ as In}
use Rattle.section_cutter.specs.Cutting.{section_of, Askable, cut_answer, cut_output}
use Rattle.gathering_account.specs.Gathers.{ByteStrings, HandsOut}
use Rattle.index.specs.Index.{Message, Index, index_kind}
use Rattle.content.specs.Content.{Content, content_kind}
use Rattle.promises_road.specs.Calls.{PacketCalls}
use Rattle.promises_road.specs.Road.{FormTimes, IndexWritten, ContentWritten, OverPackets, Road, box_of, handed_bytes, IndexShown, ContentShown, FoundBy}

pub record FromFormToScreen : Type 0 where
  -- the calls go this road: what a call of the cutter wrote is that section of the body, which it could be asked for;
  pub cut_by_call : (body : List ℕ) (kind extension version number : ℕ) (out : List ℕ) (n : ℕ) → cut_answer body kind extension version number out ≡ Ok n
      → Askable (length body) kind extension version number
      × (take n (cut_output body kind extension version number out) ≡ section_of body kind extension version number)
  -- and what is packed call by call, unpacked call by call from a fresh state, and taken out section by section, went over packets
  pub packed_by_calls : (sent got : List (List ℕ)) → ByteStrings sent → PacketCalls sent got → OverPackets sent got
  -- whatever body is cut, put in packets, unpacked and gathered comes out, and is handed out as it was written
  pub comes_out : {body : List ℕ} {kind extension version : ℕ} (road : Road body kind extension version) → HandsOut (box_of road) road.out body
  -- an index of any number of messages, typed at any offset: of the bytes that are handed out, the printed times are the characters typed,
  -- live for a live end, and every other field is the one filled in
  pub indexes : (offset : ℤ) (times : List FormTimes) (t : Index) (body : List ℕ) → IndexWritten offset times t body
      → (extension version : ℕ) (road : Road body index_kind extension version) → IndexShown offset times t (handed_bytes road)
  -- a content table, in either variant, cut with the extension that its writer gave: every field is the one filled in
  pub contents : (v w : ℕ) (t : Content) (given : ℕ) (body : List ℕ) → ContentWritten v w t given body
      → (version : ℕ) (road : Road body content_kind given version) → ContentShown v w t given (handed_bytes road)
  -- and it is found by the message's identifier: where a message has the content table's, what the index answers for that message's
  -- extension is the extension with which the content table was sent
  pub found_by : (offset : ℤ) (times : List FormTimes) (t : Index) (body : List ℕ) → IndexWritten offset times t body
      → (extension version : ℕ) (road : Road body index_kind extension version)
      → (v w : ℕ) (c : Content) (given : ℕ) (text : List ℕ) → ContentWritten v w c given text
      → (m : Message) → In m t.messages → m.identifier ≡ c.identifier → FoundBy (handed_bytes road) m given
