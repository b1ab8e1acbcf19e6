-- Demand 3: the gathering, over any byte strings that are fed to a fresh state and any store. Its words are defined in `Account`, `Latest` and `Answering`
-- of `gathering_account`, with no state and no store: `account` is the fixed table with its good, current sections from the latest takeover on,
-- `Complete` that they "cover every number and no two of one number differ", `body_of` "their contents in number order", and `answer_to` what a feed answers.
use Rattle.std.specs.Prelude.{ℕ, ◌+◌, ◌≤◌, ◌<◌, ◌≡◌, true, length, get_or, Ok}
use mathlib.Core.List.{List, [], ◌∷◌, ◌++◌, map, flatten}
use Rattle.section_cutter.specs.Cutting.{parts_joined, section_count, cut_heading, section_of, Allowed}
use Rattle.section_reader.specs.Section.{payload_of, read_section, WellFormed}
use Rattle.section_reader.specs.declared.Heading.{Heading}
use Rattle.ground_placing.specs.Placed.{placed}
use Rattle.gathering_state.specs.State.{fresh_state, possible_of, CountsRight, place, has_room, opened, with_section}
use Rattle.gathering_state.specs.declared.Gathering.{Gathering}
use Rattle.gathering_tables.specs.Tables.{is_newer}
use Rattle.gathering_verdict.specs.Deciding.{fixed_heading}
use Rattle.gathering_feed.specs.Feeding.{fed_of, store_after}
use Rattle.gathering_feed.specs.declared.Answer.TheVariants.{Taken}
use Rattle.gathering_hand_out.specs.Handing.{handed_of, out_after}
use Rattle.gathering_pack.specs.Packing.{packing_of, store_packed}
use Rattle.ground_numbers.specs.Sizes.{payload_most, body_most}
use Rattle.crc.specs.Crc.{AreBytes}
use Rattle.gathering_account.specs.Account.{good_current, heard, Section, Account, idle, table, account, Complete, body_of}
use Rattle.gathering_account.specs.Answering.{answer_to, answers_to}
use Rattle.gathering_account.specs.Gathers.{Box, fresh_box, ByteStrings, box_after, fed_answer, answers_of, handing, HandsOut, Answers}
use Rattle.gathering_account.specs.Calls.{Call, feeding, ByteCalls, box_after_calls, account_of_calls, Serves}
use Rattle.gathering_account.specs.Latest.{Latest, NoneNewer, begins_after}
use Rattle.gathering_account.specs.Arrival.{CutInto, sections_of, Arrives, ArrivesFirst, sections_listed}

-- the account of what was fed, where the store has so many bytes; and the box after it
abbrev pub heard_by : List ℕ → List (List ℕ) → Account
heard_by store fed = account (has_room (length store)) idle fed

abbrev pub fed_to : List ℕ → List (List ℕ) → Box
fed_to store fed = box_after (fresh_box store) fed

-- so of any run of calls, feeds and both ways of handing out
abbrev pub heard_in_calls : List ℕ → List Call → Account
heard_in_calls store calls = account_of_calls (has_room (length store)) idle calls

abbrev pub called_on : List ℕ → List Call → Box
called_on store calls = box_after_calls (fresh_box store) calls

pub record Demand3 : Type 0 where
  -- "Demand 3 holds with this as a second way of handing out, which ends the gathering": after any run of feeds, handings out and packings, whichever call is
  -- next, its answer and what it leaves are as the account says; the account of a packed table is idle, and its box fresh over the store as it stands
  pub calls : (store : List ℕ) (calls : List Call) → ByteCalls calls → Serves (has_room (length store)) (heard_in_calls store calls) (called_on store calls)
  -- a run of feeds alone is such a run, so that what follows is said of runs of feeds
  pub feeds_alone : (store : List ℕ) (fed : List (List ℕ)) → (called_on store (map feeding fed) ≡ fed_to store fed) × (heard_in_calls store (map feeding fed) ≡ heard_by store fed)
  -- "a body is handed out exactly when the good, current sections of the fixed table cover every number and no two of one number differ": only then,
  pub only_when : (store : List ℕ) (fed : List (List ℕ)) → ByteStrings fed → (out : List ℕ) (n : ℕ) → handing (fed_to store fed) out ≡ Ok n → Complete (heard_by store fed)
  -- and then, if the output has room;
  pub when : (store : List ℕ) (fed : List (List ℕ)) → ByteStrings fed → (out : List ℕ) → Complete (heard_by store fed) → length (body_of (heard_by store fed)) ≤ length out
      → HandsOut (fed_to store fed) out (body_of (heard_by store fed))
  -- "and it is their contents in number order"
  pub body_is : (store : List ℕ) (fed : List (List ℕ)) → ByteStrings fed → (out : List ℕ) (n : ℕ) → handing (fed_to store fed) out ≡ Ok n
      → HandsOut (fed_to store fed) out (body_of (heard_by store fed))
  -- every answer, refusals too
  pub answers : (store : List ℕ) (fed : List (List ℕ)) → ByteStrings fed → (out : List ℕ) → Answers (fed_to store fed) out (heard_by store fed)
  -- "Feeding: 12, 1 to 7, 8, 9, 10, 11": what a feed answers is told by the account of what was fed before it;
  pub feeds : (store : List ℕ) (fed : List (List ℕ)) → ByteStrings fed → (s : List ℕ)
      → fed_answer (fed_to store fed) s ≡ answer_to (has_room (length store)) (heard_by store fed) s
  -- so are the answers of a whole run, in its order.
  pub all_feeds : (store : List ℕ) (fed : List (List ℕ)) → ByteStrings fed → answers_of (fresh_box store) fed ≡ answers_to (has_room (length store)) idle fed
  -- 12, "not a possible gathering state", is never among them,
  pub possible : (store : List ℕ) (fed : List (List ℕ)) → ByteStrings fed → possible_of (fed_to store fed).state ≡ true
  -- nor is 10 for a section of the fixed table: the store is not "shorter than (last + 1) × 4,084 bytes"
  pub has_room_lem : (store : List ℕ) (fed : List (List ℕ)) (t : Heading) (S : List Section) → heard_by store fed ≡ table t S → has_room (length store) t.last ≡ true
  -- "the gathering shall start over with that section, spoiled or not", whatever possible state C has lent: 'taken', the state of the new table with the
  -- section alone, and of the store only its payload's place is written;
  pub takes_over : (g : Gathering) (store s : List ℕ) (h : Heading) (n : ℕ) → possible_of g ≡ true → read_section s ≡ Ok (h, n) → h.current ≡ true
      → is_newer (fixed_heading g) h ≡ true → has_room (length store) h.last ≡ true
      → (fed_of g store s ≡ record { answer = (Ok Taken); state = with_section (opened h) h.number (length (payload_of s)) })
      × (store_after g store s ≡ placed store (place h.number) (payload_of s))
  -- "After every operation they equal what counting afresh gives": how many sections are missing and how many bytes are held, as the state keeps them,
  -- from a fresh state on,
  pub counts_right : (store : List ℕ) (fed : List (List ℕ)) → ByteStrings fed → CountsRight (fed_to store fed).state
  -- and from any possible one, which stays possible; handing out changes no state
  pub stays_possible : (box : Box) → length box.state.held ≡ 256 → possible_of box.state ≡ true → (fed : List (List ℕ)) → ByteStrings fed
      → possible_of (box_after box fed).state ≡ true
  pub counts_stay_right : (box : Box) → length box.state.held ≡ 256 → possible_of box.state ≡ true → (fed : List (List ℕ)) → ByteStrings fed
      → CountsRight (box_after box fed).state
  -- what is not 'taken' leaves them: a repeat, a contradiction, by which a gathering is spoiled, and every other refusal;
  pub counts_stay : (g : Gathering) (store s : List ℕ) → ((fed_of g store s).answer ≡ (Ok Taken) → ⊥)
      → ((fed_of g store s).state.missing ≡ g.missing) × ((fed_of g store s).state.bytes ≡ g.bytes)
  -- after a takeover they count the new table alone;
  pub takeover_counts : (g : Gathering) (store s : List ℕ) (h : Heading) (n : ℕ) → possible_of g ≡ true → read_section s ≡ Ok (h, n) → h.current ≡ true
      → is_newer (fixed_heading g) h ≡ true → has_room (length store) h.last ≡ true
      → ((fed_of g store s).state.missing ≡ h.last) × ((fed_of g store s).state.bytes ≡ length (payload_of s))
  -- and of a table that is handed out none is missing, and its bytes are the body's
  pub whole_counts : (g : Gathering) (store out : List ℕ) (n : ℕ) → length g.held ≡ 256 → g.last ≤ 255 → handed_of g store out ≡ Ok n
      → (g.missing ≡ 0) × (g.bytes ≡ n)
  -- "Demand 3 then reads from the latest takeover": what is fixed is what one section began and those of its heading after it
  pub latest : (store : List ℕ) (fed : List (List ℕ)) → Latest (has_room (length store)) fed (heard_by store fed)
  -- without a takeover that is the first section that found room
  pub no_takeover : (store : List ℕ) (fed : List (List ℕ)) → NoneNewer fed → (before after : List (List ℕ)) (s : List ℕ) → fed ≡ before ++ s ∷ after
      → (h : Heading) (p : List ℕ) → heard s ≡ good_current h p → begins_after (heard_by store before) h ≡ true → heard_by store before ≡ idle
  -- a table cut anywhere and fed whole, in any order and with repeats, is handed out, whatever was held before;
  pub arrives : (store : List ℕ) (fed : List (List ℕ)) → ByteStrings fed → (h : Heading) (sections : ℕ → List ℕ) → CutInto h sections
      → Arrives (has_room (length store)) h sections fed → (out : List ℕ) → length (parts_joined sections (h.last + 1)) ≤ length out
      → HandsOut (fed_to store fed) out (parts_joined sections (h.last + 1))
  -- also one that is the first to find room, in a run without a takeover;
  pub arrives_first : (store : List ℕ) (fed : List (List ℕ)) → ByteStrings fed → (h : Heading) (sections : ℕ → List ℕ) → CutInto h sections
      → ArrivesFirst (has_room (length store)) h sections fed → (out : List ℕ) → length (parts_joined sections (h.last + 1)) ≤ length out
      → HandsOut (fed_to store fed) out (parts_joined sections (h.last + 1))
  -- "each section carries a consecutive part, possibly empty": so it is with any parts of at most 4,084 bytes, printed with one heading;
  pub printed_arrives : (h : Heading) (parts : List (List ℕ)) → WellFormed h → ((k : ℕ) → length (get_or parts k []) ≤ payload_most) → length parts ≡ h.last + 1
      → (store : List ℕ) (fed : List (List ℕ)) → ByteStrings fed → Arrives (has_room (length store)) h (sections_of h parts) fed
      → (out : List ℕ) → length (flatten parts) ≤ length out → HandsOut (fed_to store fed) out (flatten parts)
  -- with any "body of L bytes (1 to 1,045,504)" that our cutter cuts;
  pub cut_arrives : (body : List ℕ) (kind extension version : ℕ) → Allowed kind extension version → 0 < length body → length body ≤ body_most
      → (store : List ℕ) (fed : List (List ℕ)) → ByteStrings fed
      → Arrives (has_room (length store)) (cut_heading (length body) kind extension version 0) (section_of body kind extension version) fed
      → (out : List ℕ) → length body ≤ length out → HandsOut (fed_to store fed) out body
  -- and there are such feeds: its sections, one after the other
  pub comes_back : (body : List ℕ) (kind extension version : ℕ) → AreBytes body → Allowed kind extension version → 0 < length body → length body ≤ body_most
      → (store : List ℕ) → has_room (length store) (cut_heading (length body) kind extension version 0).last ≡ true → (out : List ℕ) → length body ≤ length out
      → HandsOut (fed_to store (sections_listed (section_of body kind extension version) 0 (section_count (length body)))) out body
  -- packing, of whatever state C has lent: it answers as handing out into the store itself would, and leaves the store as that would leave its output;
  pub packs_as_handing : (g : Gathering) (store : List ℕ) → length g.held ≡ 256
      → ((packing_of g store).answer ≡ handed_of g store store) × (store_packed g store ≡ out_after g store store)
  -- a packed table's state is fresh, "The total of held bytes before equals the body length after";
  pub packs_counted : (g : Gathering) (store : List ℕ) (n : ℕ) → length g.held ≡ 256 → (packing_of g store).answer ≡ Ok n
      → ((packing_of g store).state ≡ fresh_state) × (g.bytes ≡ n)
  -- a possible state stays possible, with its counts right, and the store is as long as it was
  pub packs_possible : (g : Gathering) (store : List ℕ) → possible_of g ≡ true
      → (possible_of (packing_of g store).state ≡ true) × CountsRight (packing_of g store).state
  pub packs_long : (g : Gathering) (store : List ℕ) → length g.held ≡ 256 → length (store_packed g store) ≡ length store
