-- What a reader has to believe of a gathering's state: the fresh one, which states are possible, where payloads stand, and how a state changes.
use Rattle.std.specs.Prelude.{ℕ, ◌+◌, ◌-◌, ◌*◌, ◌≡◌, Bool, ◌&&◌, ◌||◌, List, eqb, leb, ltb, get_or, set, replicate, take, drop, if◌then◌else◌}
use Rattle.ground_numbers.specs.Sizes.{payload_most, version_most}
use Rattle.section_reader.specs.Section.{is_kind}
use Rattle.section_reader.specs.declared.Heading.{Heading}
use Rattle.gathering_state.specs.Lists.{greatest, total, held_count, part}
use Rattle.gathering_state.specs.declared.Gathering.{Gathering}

-- ---- possible states

-- "A fresh state holds nothing"; of what it keeps, "a fresh state has 0 and 0"
unfoldable pub fresh_state : Gathering
fresh_state =
    record { bytes = 0; missing = 0; extension = 0; kind = 0; version = 0; last = 0; spoiled = 0; held = replicate 256 0 }

-- "exactly the fresh one"
unfoldable pub is_fresh : Gathering → Bool
is_fresh g =
    eqb g.kind 0 && eqb g.extension 0 && eqb g.version 0 && eqb g.last 0 && eqb g.spoiled 0 && eqb (greatest g.held) 0
    && eqb g.missing 0 && eqb g.bytes 0

-- the held lengths of the numbers that the table has
unfoldable pub lengths : Gathering → List ℕ
lengths g = take (g.last + 1) g.held

-- "a kind FB to FE, a version up to 31, at least one held number, none above last, and held lengths up to 4,084"; the mark `spoiled` is 0 or 1;
-- and the kept numbers do not "disagree with its lengths": missing is last + 1 less the held numbers, bytes is the sum of payload lengths
unfoldable pub is_begun : Gathering → Bool
is_begun g =
    is_kind g.kind && leb g.version version_most && leb g.spoiled 1
    && ltb 0 (greatest g.held) && eqb (greatest (drop (g.last + 1) g.held)) 0 && leb (greatest g.held) (payload_most + 1)
    && eqb g.missing (g.last + 1 - held_count (lengths g)) && eqb g.bytes (total (lengths g))

-- "A state is possible if it is exactly the fresh one, or" begun
unfoldable pub possible_of : Gathering → Bool
possible_of g = is_fresh g || is_begun g

-- of a possible state: is it the fresh one? No table has the kind 0.
unfoldable pub nothing_begun : Gathering → Bool
nothing_begun g = eqb g.kind 0

-- ---- what counting afresh gives

-- "how many are missing": last + 1 less the held numbers; while nothing is begun, 0
unfoldable pub missing_afresh : Gathering → ℕ
missing_afresh g = if nothing_begun g then 0 else g.last + 1 - held_count (lengths g)

-- "how many bytes are held": the sum of payload lengths
unfoldable pub bytes_afresh : Gathering → ℕ
bytes_afresh g = total (lengths g)

-- "they equal what counting afresh gives"
pub record CountsRight (g : Gathering) : Type 0 where
  pub missing : g.missing ≡ missing_afresh g
  pub bytes : g.bytes ≡ bytes_afresh g

-- ---- the store

-- "A taken payload of number k goes to byte k × 4,084 of the store"
unfoldable pub place : ℕ → ℕ
place k = k * payload_most

-- a store of `bytes` bytes is not "shorter than (last + 1) × 4,084 bytes"
unfoldable pub has_room : ℕ → ℕ → Bool
has_room bytes last = leb ((last + 1) * payload_most) bytes

-- the payload that stands in the store for number k, if k is held
unfoldable pub held_payload : Gathering → List ℕ → ℕ → List ℕ
held_payload g store k = part store (place k) (get_or g.held k 0 - 1)

-- ---- how a state changes

-- the table of the heading h, of which nothing is held yet: all its sections are missing
unfoldable pub opened : Heading → Gathering
opened h =
    record {
      bytes = 0;
      missing = h.last + 1;
      extension = h.extension;
      kind = h.kind;
      version = h.version;
      last = h.last;
      spoiled = 0;
      held = replicate 256 0;
    }

-- number k, which was not held, is taken with a payload of n bytes: it is missing no longer, and so many bytes more are held
unfoldable pub with_section : Gathering → ℕ → ℕ → Gathering
with_section g k n =
    record {
      bytes = g.bytes + n;
      missing = g.missing - 1;
      extension = g.extension;
      kind = g.kind;
      version = g.version;
      last = g.last;
      spoiled = g.spoiled;
      held = set g.held k (n + 1);
    }

-- "Only 11 for a contradiction changes state: the gathering is spoiled"; it keeps what it holds, and its counts
unfoldable pub spoiled_state : Gathering → Gathering
spoiled_state g =
    record {
      bytes = g.bytes;
      missing = g.missing;
      extension = g.extension;
      kind = g.kind;
      version = g.version;
      last = g.last;
      spoiled = 1;
      held = g.held;
    }
