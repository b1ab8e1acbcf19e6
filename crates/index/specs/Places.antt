-- What a reader has to believe of the places in a message, in its channel and in a stream: each field begins where the one before it ends,
-- and those named here come after fields that have so many bytes always. Places are counted from the first byte of what they are in.
use Rattle.std.specs.Prelude.{ℕ, ◌+◌}
use Rattle.body_formats.specs.Identifier.{identifier_bytes}

-- ---- in a message, whose first byte follows EBM_length

-- "4 reserved, 35 digits, network 16, start 40, end 40, type five bytes", "class 4 bits", "level 4 bits", "resource count 8, resources"
abbrev pub network_place : ℕ
network_place = identifier_bytes

abbrev pub start_place : ℕ
start_place = network_place + 2

abbrev pub end_place : ℕ
end_place = start_place + 5

abbrev pub type_place : ℕ
type_place = end_place + 5

-- class and level share a byte
abbrev pub class_place : ℕ
class_place = type_place + 5

abbrev pub resource_count_place : ℕ
resource_count_place = class_place + 1

abbrev pub resources_place : ℕ
resources_place = resource_count_place + 1

-- ---- in a channel

-- "network, stream, program 16 each; 3 reserved, PCR PID 13; 4 reserved, descriptor length 12, descriptors"
abbrev pub channel_stream_place : ℕ
channel_stream_place = 2

abbrev pub channel_program_place : ℕ
channel_program_place = channel_stream_place + 2

abbrev pub pcr_pid_place : ℕ
pcr_pid_place = channel_program_place + 2

abbrev pub channel_descriptors_place : ℕ
channel_descriptors_place = pcr_pid_place + 2

-- ---- in a stream

-- "type 8, 3 reserved, PID 13, 4 reserved, length 12, descriptors"
abbrev pub stream_pid_place : ℕ
stream_pid_place = 1

abbrev pub stream_descriptors_place : ℕ
stream_descriptors_place = stream_pid_place + 2
