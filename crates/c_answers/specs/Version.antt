-- What a reader has to believe of the library's version: its three numbers as one.
use Rattle.std.specs.Prelude.{ℕ, ◌+◌, ◌*◌}

-- major, minor and patch, two decimal digits for each but the first
unfoldable pub version_number : ℕ → ℕ → ℕ → ℕ
version_number major minor patch = major * 10000 + minor * 100 + patch

-- the file VERSION says "0.2.0"
unfoldable pub version : ℕ
version = version_number 0 2 0
