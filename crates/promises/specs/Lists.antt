-- "Given exactly when the list says": each answer is the first refusal of its list whose condition holds, or the value if none does. The lists
-- stand in orders' `Sections`, `Gathering`, `Rooms`, `Cutter`, `Salvage`, `Packets`, `Teaching` and `Times`, each number beside 01's words, and `AsListed` in its
-- `Order`.
use Rattle.std.specs.Prelude.{ℕ, ◌-◌, ◌≤◌, ◌≡◌, List, ℤ, length, take, Ok, Err}
use Rattle.std.proofs.Math.Option.{Option}
use Rattle.time_local.specs.Clock.{pack_of, unpack_of}
use Rattle.time_local.specs.Text.{read_text}
use Rattle.time_local.specs.declared.LocalTime.{LocalTime}
use Rattle.section_reader.specs.Section.{heading_of, read_section}
use Rattle.section_cutter.specs.Cutting.{section_count, counted_of, section_of, cut_answer}
use Rattle.salvage.specs.Runs.{runs_of}
use Rattle.salvage.specs.Salvage.{sections, salvage_of}
use Rattle.gathering_state.specs.declared.Gathering.{Gathering}
use Rattle.gathering_hand_out.specs.Handing.{body_held, complete_of, handed_of}
use Rattle.gathering_pack.specs.Packing.{packing_of}
use Rattle.packet_writer.specs.Packing.{packed, laid}
use Rattle.packet_writer.specs.Answers.{packed_of}
use Rattle.packet_reader.specs.Answers.{completed_of}
use Rattle.rooms_state.specs.State.{Network}
use Rattle.rooms_state.specs.declared.Networks.{Networks}
use Rattle.rooms_feed.specs.Feeding as feeding_rooms
use Rattle.rooms_hand_out.specs.Handing as handing_rooms
use Rattle.rooms_end.specs.Ending.{ended_of}
use Rattle.rooms_count.specs.Counting.{held, free, held_of, free_of}
use Rattle.gathering_account.specs.Account.{body_of}
use Rattle.teaching_table.specs.Table.{account_in}
use Rattle.teaching_hand_out.specs.Asking as teaching
use Rattle.promises_orders.specs.Order.{AsListed}
use Rattle.promises_orders.specs.Sections.{section_lines}
use Rattle.promises_orders.specs.Gathering.{FedAsListed, complete_lines, handing_lines}
use Rattle.promises_orders.specs.Rooms.{part_for, network_lines, networks_feeding_lines, fed_value, networks_handing_lines, counting_lines}
use Rattle.promises_orders.specs.Cutter.{count_lines, cutter_lines}
use Rattle.promises_orders.specs.Salvage.{salvage_lines}
use Rattle.promises_orders.specs.Packets.{packer_lines, unpacker_lines, IsSections}
use Rattle.promises_orders.specs.Teaching.{TaughtAsListed, teaching_handing_lines}
use Rattle.promises_orders.specs.Times.{IsField, packing_lines, IsLocalTime, unpacking_lines, text_lines}

pub record GivenExactly : Type 0 where
  -- "Section: 1 to 7 as numbered"
  pub section : (s : List ℕ) → AsListed Err (λ a. a ≡ Ok (heading_of s, length s - 12)) (section_lines s) (read_section s)
  -- "Feeding: 12, 1 to 7, 8, 9, 10, 11"
  pub feeding : (g : Gathering) (store s : List ℕ) → FedAsListed g store s
  -- "Handing out: 12; 13 if nothing begun; 10; 11; 13; [..] 21", of which the first five say whether all of a table is there
  pub complete : (g : Gathering) (bytes : ℕ) → AsListed Err (λ a. a ≡ Ok tt) (complete_lines g bytes) (complete_of g bytes)
  pub handing_out_lem : (g : Gathering) (store out : List ℕ)
      → AsListed Err (λ a. a ≡ Ok (length (body_held g store))) (handing_lines g store out) (handed_of g store out)
  -- packing: "12, 13, 10, 11, 13 in handing-out order, with no 21"
  pub packing_store : (g : Gathering) (store : List ℕ)
      → AsListed Err (λ a. a ≡ Ok (length (body_held g store))) (complete_lines g (length store)) (packing_of g store).answer
  -- M-109: "first 19 for a network other than 1 or 2; 12 [..]; 35 no free room, after 11; 10 is not given"
  pub networks_feeding : (o : Option Network) (x : Networks) (store s : List ℕ)
      → AsListed Err (λ a. a ≡ fed_value o x s) (networks_feeding_lines o x store s) (feeding_rooms.fed_of o x store s).answer
  -- a state's last number is a byte
  pub networks_handing_out : (o : Option Network) (x : Networks) (store out : List ℕ) → (part_for o x).gathering.last ≤ 255
      → AsListed Err (λ a. a ≡ Ok (length (handing_rooms.body_in (part_for o x) store))) (networks_handing_lines o x store out)
      (handing_rooms.handed_of o x store out)
  -- "ending a gathering, begun or not, complete or not, refuses for 19 and 12 only"
  pub networks_ending : (o : Option Network) (x : Networks) (bytes : ℕ)
      → AsListed Err (λ a. a ≡ Ok tt) (network_lines o x bytes) (ended_of o x bytes).answer
  pub rooms_held : (x : Networks) (bytes : ℕ) → AsListed Err (λ a. a ≡ Ok (held x)) (counting_lines x bytes) (held_of x bytes)
  pub rooms_free : (x : Networks) (bytes : ℕ) → AsListed Err (λ a. a ≡ Ok (free x bytes)) (counting_lines x bytes) (free_of x bytes)
  -- "Cutter: 2, 19 (version above 31), 14 (L = 0), 22, 6, 21", of which 14 and 22 are the count's
  pub count : (bytes : ℕ) → AsListed Err (λ a. a ≡ Ok (section_count bytes)) (count_lines bytes) (counted_of bytes)
  pub cutter : (body : List ℕ) (kind extension version number : ℕ) (out : List ℕ)
      → AsListed Err (λ a. a ≡ Ok (length (section_of body kind extension version number)))
      (cutter_lines body kind extension version number out) (cut_answer body kind extension version number out)
  -- "Refusals: 36 capture too long, then 21"
  pub salvage : (capture : List ℕ) (room entries : ℕ)
      → AsListed Err (λ a. a ≡ Ok (length (sections capture), length (runs_of capture)))
      (salvage_lines capture room entries) (salvage_of capture room entries)
  -- M-106: "The packer: 1 to 7, 19 (counter above 15), 21"; the unpacker 30 to 34, "then 21"
  pub packer : (counter : ℕ) (section out : List ℕ)
      → AsListed Err (λ a. a ≡ Ok (length (laid (packed counter section)))) (packer_lines counter section out) (packed_of counter section out)
  pub unpacker : (s p out : List ℕ) → AsListed Err IsSections (unpacker_lines s p out) (completed_of s p out)
  -- M-112: "37 teaching buffer full, before all others", 12, then as feeding; handing out as above, and "never gives 37"
  pub teaching_feeding : (buffer : List ℕ) (used store : ℕ) (s : List ℕ) → TaughtAsListed buffer used store s
  pub teaching_handing_out : (buffer : List ℕ) (used store : ℕ) (out : List ℕ)
      → AsListed Err (λ a. a ≡ Ok (length (body_of (account_in store (take used buffer)))))
      (teaching_handing_lines buffer used store (length out)) (teaching.handed_of buffer used store out)
  -- "Local from UTC adds it (order 19, 18, 20)"; to UTC 19, 20
  pub packing : (t : LocalTime) (offset : ℤ) → AsListed Err IsField (packing_lines t offset) (pack_of t offset)
  pub unpacking : (field : ℕ) (offset : ℤ) → AsListed Err IsLocalTime (unpacking_lines field offset) (unpack_of field offset)
  -- "Text: [..] Order: 19 (offset), 24, 20"
  pub text : (s : List ℕ) (offset : ℤ) → AsListed Err IsField (text_lines s offset) (read_text s offset)
