-- What a reader has to believe of the tables that two headings name: when they are one, and when one is a newer version of the other.
use Rattle.std.specs.Prelude.{ℕ, ◌+◌, ◌-◌, ◌%◌, Bool, not, ◌&&◌, ◌||◌, ◌==◌, nat_le}
use Rattle.section_reader.specs.declared.Heading.{Heading}

-- "The step count is version less version, wrapping, mod 32, the new one less the held": bytes wrap at 256
unfoldable pub steps_ahead : ℕ → ℕ → ℕ
steps_ahead held new = (new + 256 - held) % 256 % 32

-- "heading differs from the gathering's (kind, extension, version, last number)": these two do not
unfoldable pub same_table : Heading → Heading → Bool
same_table h h' = h.kind == h'.kind && h.extension == h'.extension && h.version == h'.version && h.last == h'.last

-- "kind and extension match and the version is ahead by 1 to 15 steps round the ring of 32"; the last number may differ
unfoldable pub is_newer : Heading → Heading → Bool
is_newer held new =
    (held.kind == new.kind) && held.extension == new.extension
    && nat_le 1 (steps_ahead held.version new.version) && nat_le (steps_ahead held.version new.version) 15

-- "9 for another kind or extension, for 0 steps with another last number, and for 16 to 31 steps": neither of the two
unfoldable pub is_other : Heading → Heading → Bool
is_other held new =
    not (held.kind == new.kind) || not (held.extension == new.extension)
    || steps_ahead held.version new.version == 0 && not (held.last == new.last)
    || nat_le 16 (steps_ahead held.version new.version)
