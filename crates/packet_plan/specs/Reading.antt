-- What a reader has to believe of a packet's payload after the bytes of an unfinished section: which sections it completes, and what it leaves.
use Rattle.std.specs.Prelude.{ℕ, ◌+◌, ◌-◌, List, ◌++◌, take, drop, if◌then◌else◌}
use Rattle.packet.specs.Fields.{starts, payload_at, pointed_at}
use Rattle.packet_frames.specs.Framing.{Read, gone_on, begun}

-- the end of an unfinished section before the pointer; else "a pointer met too soon drops the unfinished section", and "reading goes on at the next
-- pointer, a gap packet's own included"
unfoldable pub ended : List ℕ → List ℕ → List ℕ → Read
ended u ahead d = record { sections = (gone_on u ahead).sections ++ (begun d).sections; unfinished = (begun d).unfinished }

-- the bytes between the pointer field and what it points at
unfoldable pub ahead : List ℕ → List ℕ
ahead p = take (pointed_at p - (payload_at p + 1)) (drop (payload_at p + 1) p)

-- a packet's payload, after the bytes u of an unfinished section
unfoldable pub read_on : List ℕ → List ℕ → Read
read_on u p =
    if starts p then ended u (ahead p) (drop (pointed_at p) p) else
    gone_on u (drop (payload_at p) p)
