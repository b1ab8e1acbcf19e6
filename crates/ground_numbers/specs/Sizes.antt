-- What a reader has to believe of document 01's numbers: each stands here once, and in the code once, in src/lib.rt.
use Rattle.std.specs.Prelude.{ℕ}

-- "table_id: 8 bits: FB configuration, FC certificate, FD index, FE content"
abbrev pub configuration_kind : ℕ
configuration_kind = 0xFB

abbrev pub certificate_kind : ℕ
certificate_kind = 0xFC

abbrev pub index_kind : ℕ
index_kind = 0xFD

abbrev pub content_kind : ℕ
content_kind = 0xFE

-- "section_length: counts all bytes after itself, 9 to 4,093"
abbrev pub section_length_most : ℕ
section_length_most = 4093

-- "payload: 0 to 4,084 bytes"
abbrev pub payload_most : ℕ
payload_most = 4084

-- "a body above 1,045,504 bytes" is refused
abbrev pub body_most : ℕ
body_most = 1045504

-- "19 (version above 31)"
abbrev pub version_most : ℕ
version_most = 31
