-- What a glance at a command says of its terminals: where it finds their list, the list begins there; where it does not, it says nothing.
use Rattle.std.specs.Prelude.{ℕ, ◌+◌, ◌≤◌, ◌≡◌, List, length, Ok}
use Rattle.body_formats.specs.Format.{number_at}
use Rattle.configuration.specs.Configuration.{least}
use Rattle.configuration_fields.specs.Asked.{place_read, terminals_in, terminals_at}

-- "tag 8, length 16, content": where the content of the command at p ends
abbrev pub content_end : List ℕ → ℕ → ℕ
content_end s p = p + 3 + number_at s (p + 1) 2

-- the list begins at r in a content from q to l, which a command with this tag may have
pub record ListIn (tag : ℕ) (s : List ℕ) (l q r : ℕ) : Type 0 where
  pub lowest : 3 ≤ tag
  pub highest : tag ≤ 7
  pub enough : q + least tag ≤ l
  pub begins : Ok (r, l) ≡ place_read (terminals_in tag s l q)

-- the list of the command at p begins at r
pub record ListAt (s : List ℕ) (p r : ℕ) : Type 0 where
  pub inside : p + 3 ≤ length s
  pub begins : Ok (r, content_end s p) ≡ place_read (terminals_at s p)
