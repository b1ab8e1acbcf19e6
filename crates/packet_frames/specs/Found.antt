-- What the contracts of the functions that find sections in bytes cite: each follows from the definitions of framing.
use Rattle.std.specs.Prelude.{ℕ, ◌+◌, ◌-◌, ◌≤◌, ◌<◌, List, [], ◌∷◌, ◌++◌, ◌≡◌, length, take, drop, if◌then◌else◌}
use Rattle.packet_frames.specs.declared.Frame.{Frame}
use Rattle.packet_frames.specs.declared.Frame.TheVariants.{Nothing, Whole, Open}
use Rattle.packet_frames.specs.declared.Scan.{Scan}
use Rattle.packet_frames.specs.Framing.{at_stuffing, framed, too_long, is_whole, nothing, gone_on, begun, joined}

-- a section begun before, with these bytes now
unfoldable pub frame_of : List ℕ → Frame
frame_of d =
    if too_long d then Nothing else
    if is_whole d then Whole (framed d) else
    Open

-- where a section may begin
unfoldable pub front_of : List ℕ → Frame
front_of d = if at_stuffing d then Nothing else frame_of d

-- the sections that begin at the front of d end at `stop`, and the unfinished one after them begins at `left`
pub record Scanned (d : List ℕ) (s : Scan) : Type 0 where
  pub within : s.stop ≤ length d
  pub left_within : s.left ≤ length d
  pub sections : joined (begun d).sections ≡ take s.stop d
  pub unfinished : (begun d).unfinished ≡ drop s.left d

-- the unfinished bytes u with more bytes: nothing; or a whole section, of so many bytes; or still unfinished
abbrev pub Grown : List ℕ → List ℕ → Frame → Type 0
Grown u more Nothing = gone_on u more ≡ nothing
Grown u more (Whole n) =
    (gone_on u more ≡ record { sections = (u ++ take (n - length u) more) ∷ []; unfinished = [] })
    × (length u < n) × (n ≤ length u + length more)
Grown u more Open = gone_on u more ≡ record { sections = []; unfinished = u ++ more }
