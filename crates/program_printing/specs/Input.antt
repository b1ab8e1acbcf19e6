-- What a reader has to believe of a program's input: how long it may be.
use Rattle.std.specs.Prelude.{ℕ}

-- "a program's input above 64 KiB" is refused
abbrev pub most_input : ℕ
most_input = 65536
