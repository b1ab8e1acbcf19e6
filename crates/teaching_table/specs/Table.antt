-- What a reader has to believe of the table that kept strings fix: it is that of their account, and its sections are those from the latest takeover on.
use Rattle.std.specs.Prelude.{ℕ, ◌≤◌, ◌<◌, ◌≡◌, Bool, true, ◌&&◌, List, length, drop, if◌then◌else◌, Option, Some, None}
use Rattle.section_reader.specs.declared.Heading.{Heading}
use Rattle.gathering_state.specs.State.{has_room}
use Rattle.gathering_tables.specs.Tables.{is_newer}
use Rattle.gathering_account.specs.Account.{Heard, nothing, good_current, Account, idle, table, account}
use Rattle.gathering_account.specs.Latest.{sections_of_table}
use Rattle.teaching_rows.specs.Rows.{strings_in}

-- the account of the strings that some bytes keep, where the quick gathering's store has `store` bytes
unfoldable pub account_in : ℕ → List ℕ → Account
account_in store bytes = account (has_room store) idle (strings_in bytes)

-- the account that a fixed table tells: its sections are those from the row on that began it
unfoldable pub told : Option (Heading × ℕ) → List ℕ → Account
told None bytes = idle
told (Some (t, from)) bytes = table t (sections_of_table t (strings_in (drop from bytes)))

-- ---- one string more

-- a section with this heading begins its table: none is fixed, or an older version of it is
unfoldable pub begins_in : Option (Heading × ℕ) → Heading → Bool
begins_in None h = true
begins_in (Some (t, from)) h = is_newer t h

-- the row of the string stands at a place: "the gathering starts over with that section, if the store has room for its table"
unfoldable pub fixed_after : (ℕ → Bool) → Option (Heading × ℕ) → ℕ → Heard → Option (Heading × ℕ)
fixed_after room f at nothing = f
fixed_after room f at (good_current h p) = if begins_in f h && room h.last then Some (h, at) else f

-- ---- what is found: the table of the account, that it begins among the bytes, and that its version is one that was read

unfoldable pub Among : Option (Heading × ℕ) → ℕ → Type 0
Among None n = Unit {0}
Among (Some (t, from)) n = from ≤ n

unfoldable pub Versioned : Option (Heading × ℕ) → Type 0
Versioned None = Unit {0}
Versioned (Some (t, from)) = t.version < 256

pub record FixedIn (store : ℕ) (bytes : List ℕ) (f : Option (Heading × ℕ)) : Type 0 where
  pub is : told f bytes ≡ account_in store bytes
  pub among : Among f (length bytes)
  pub versioned : Versioned f
