-- What a reader has to believe of the request's numbers for packets: each stands here once, and in the code once, in src/lib.rt.
use Rattle.std.specs.Prelude.{ℕ}

-- "188 bytes"
abbrev pub packet_bytes : ℕ
packet_bytes = 188

-- "sync 0x47"
abbrev pub sync_byte : ℕ
sync_byte = 0x47

-- "PID 0x0021"
abbrev pub our_pid : ℕ
our_pid = 0x0021

-- "stuffing 0xFF after a section"
abbrev pub stuffing : ℕ
stuffing = 0xFF

-- "four-bit continuity counter"
abbrev pub counter_most : ℕ
counter_most = 15
