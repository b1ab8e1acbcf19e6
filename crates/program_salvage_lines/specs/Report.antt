-- What a reader has to believe of the salvage program's list of runs: the whole text for any capture, byte for byte.
use Rattle.std.specs.Prelude.{ℕ, Bool, true, false, List, [], ◌∷◌, ◌++◌, ltb, length, if◌then◌else◌}
use Rattle.salvage.specs.Runs.{Run, runs_of}
use Rattle.salvage.specs.Salvage.{capture_most}
use Rattle.program_printing.specs.Characters.{ascii, decimal_of}

-- ""kept" or "skipped""
abbrev pub word_of : Bool → List ℕ
word_of true = ascii "kept "
word_of false = ascii "skipped "

-- "with first offset and length"
unfoldable pub line_of : Run → List ℕ
line_of r = word_of r.is_kept ++ (decimal_of r.first ++ (ascii " " ++ (decimal_of r.size ++ ascii "\n")))

-- "for each run of bytes"
unfoldable pub lines_of : List Run → List ℕ
lines_of [] = []
lines_of (r ∷ rs) = line_of r ++ lines_of rs

abbrev pub header : List ℕ
header = ascii "run first length\n"

-- a capture above 64 KiB gives the header and its refusal, as the date program's input does
unfoldable pub report_of : List ℕ → List ℕ
report_of capture = header ++ (if ltb capture_most (length capture) then ascii "refused 36\n" else lines_of (runs_of capture))
