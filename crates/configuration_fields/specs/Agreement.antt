-- What a reader has to believe of the fields of an accepted configuration body: each one asked for is its table's, where it stands, and
-- what isn't there is 19, place 0.
use Rattle.std.specs.Prelude.{ℕ, suc, ◌+◌, ◌*◌, ◌/◌, ◌≤◌, ◌<◌, ◌≡◌, List, [], length, get_or, take, drop, Result, Ok}
use Rattle.ground_refusal.specs.declared.Refusal.{Refusal}
use Rattle.body_formats.specs.Held.{PartHolds}
use Rattle.body_formats.specs.Resource.{resource_bytes, resource}
use Rattle.configuration.specs.Configuration.{Order, set_clock, set_code, tune, set_return, set_period, set_volume, query, other, order_of, Said, said, Command, Configuration}
use Rattle.body_asking.specs.Agreement.{NoNumberThere, NoPartThere, FillsAt}
use Rattle.configuration_fields.specs.Asked.{command_count, command_part, signature_part, command_tag, command_content, clock_year, clock_month, clock_day, clock_hour, clock_minute, clock_second, code_address, code_resource, code_digit, frequency, symbol_rate, mapping, return_kind, return_address, period, volume, parameter_count, parameter, terminal_count, terminal, terminal_digit}

-- "12-byte resources": the one that begins at `at`, as its part and digit by digit
pub record ResourceAsked (s : List ℕ) (part : Result (ℕ × ℕ) Refusal) (digit : ℕ → Result (ℕ × ℕ) Refusal) (at : ℕ) (ds : List ℕ) : Type 0 where
  pub part_is : part ≡ Ok (at, resource_bytes)
  pub bytes_are : take resource_bytes (drop at s) ≡ resource.print ds
  pub digit_is : (j : ℕ) → j < length ds → digit j ≡ Ok (get_or ds j 0, at + (j + 1) / 2)
  pub digit_past : (j : ℕ) → length ds ≤ j → NoNumberThere (digit j)

-- ---- a command's fields, its tag at p

-- "Terminal lists are an 8-bit count and 12-byte resources": the first one begins at `at`
pub record TerminalsAsked (s : List ℕ) (p at : ℕ) (ts : List (List ℕ)) : Type 0 where
  pub terminals_counted : terminal_count s p ≡ Ok (length ts, at)
  pub terminal_is : (i : ℕ) → i < length ts → ResourceAsked s (terminal s p i) (terminal_digit s p i) (at + resource_bytes * i) (get_or ts i [])
  pub terminal_past : (i : ℕ) → length ts ≤ i → NoPartThere (terminal s p i) × ((j : ℕ) → NoNumberThere (terminal_digit s p i j))

-- "1: year 16, month, day, hour, minute, second"
pub record ClockAsked (s : List ℕ) (p : ℕ) (x : Said set_clock) : Type 0 where
  pub year_is : clock_year s p ≡ Ok (x.0.0, p + 7)
  pub month_is : clock_month s p ≡ Ok (x.0.1.0, p + 7)
  pub day_is : clock_day s p ≡ Ok (x.0.1.1, p + 7)
  pub hour_is : clock_hour s p ≡ Ok (x.1.0, p + 10)
  pub minute_is : clock_minute s p ≡ Ok (x.1.1.0, p + 10)
  pub second_is : clock_second s p ≡ Ok (x.1.1.1, p + 10)

-- "2: address length, address, resource"
pub record CodeAsked (s : List ℕ) (p : ℕ) (x : Said set_code) : Type 0 where
  pub address_stands : FillsAt s (p + 4) (code_address s p) x.0
  pub resource_is : ResourceAsked s (code_resource s p) (code_digit s p) (p + 4 + length x.0) x.1

-- "3: frequency 32, symbol rate 32, mapping 0 to 5, terminals"
pub record TuneAsked (s : List ℕ) (p : ℕ) (x : Said tune) : Type 0 where
  pub frequency_is : frequency s p ≡ Ok (x.0, p + 7)
  pub symbol_rate_is : symbol_rate s p ≡ Ok (x.1.0, p + 11)
  pub mapping_is : mapping s p ≡ Ok (x.1.1.0, p + 12)
  pub terminals_are : TerminalsAsked s p (p + 13) x.1.1.1

-- "4: kind 1 to 3, address length, address, terminals"
pub record ReturnAsked (s : List ℕ) (p : ℕ) (x : Said set_return) : Type 0 where
  pub kind_is : return_kind s p ≡ Ok (x.0, p + 4)
  pub address_stands : FillsAt s (p + 5) (return_address s p) x.1.0
  pub terminals_are : TerminalsAsked s p (p + 6 + length x.1.0) x.1.1

-- "5: period 32, terminals"
pub record PeriodAsked (s : List ℕ) (p : ℕ) (x : Said set_period) : Type 0 where
  pub period_is : period s p ≡ Ok (x.0, p + 7)
  pub terminals_are : TerminalsAsked s p (p + 8) x.1

-- "6: volume 0 to 100, terminals"
pub record VolumeAsked (s : List ℕ) (p : ℕ) (x : Said set_volume) : Type 0 where
  pub volume_is : volume s p ≡ Ok (x.0, p + 4)
  pub terminals_are : TerminalsAsked s p (p + 5) x.1

-- "7: parameter count, parameters, terminals"
pub record QueryAsked (s : List ℕ) (p : ℕ) (x : Said query) : Type 0 where
  pub parameters_counted : parameter_count s p ≡ Ok (length x.0, p + 4)
  pub parameter_is : (i : ℕ) → i < length x.0 → parameter s p i ≡ Ok (get_or x.0 i 0, p + 5 + i)
  pub parameter_past : (i : ℕ) → length x.0 ≤ i → NoNumberThere (parameter s p i)
  pub terminals_are : TerminalsAsked s p (p + 5 + length x.0) x.1

-- "Other tags are kept as opaque bytes"
abbrev pub OrderAsked : (order : Order) → List ℕ → ℕ → Said order → Type 0
OrderAsked set_clock s p x = ClockAsked s p x
OrderAsked set_code s p x = CodeAsked s p x
OrderAsked tune s p x = TuneAsked s p x
OrderAsked set_return s p x = ReturnAsked s p x
OrderAsked set_period s p x = PeriodAsked s p x
OrderAsked set_volume s p x = VolumeAsked s p x
OrderAsked query s p x = QueryAsked s p x
OrderAsked other s p x = FillsAt s (p + 3) (command_content s p) x

-- the fields of other tags than the command's, and terminals that its tag has not, are not there
pub record OthersAsked (s : List ℕ) (p tag : ℕ) : Type 0 where
  pub no_date : (tag ≡ 1 → ⊥) → NoNumberThere (clock_year s p) × NoNumberThere (clock_month s p) × NoNumberThere (clock_day s p)
  pub no_time : (tag ≡ 1 → ⊥) → NoNumberThere (clock_hour s p) × NoNumberThere (clock_minute s p) × NoNumberThere (clock_second s p)
  pub no_code : (tag ≡ 2 → ⊥) → NoPartThere (code_address s p) × NoPartThere (code_resource s p) × ((j : ℕ) → NoNumberThere (code_digit s p j))
  pub no_tuning : (tag ≡ 3 → ⊥) → NoNumberThere (frequency s p) × NoNumberThere (symbol_rate s p) × NoNumberThere (mapping s p)
  pub no_return : (tag ≡ 4 → ⊥) → NoNumberThere (return_kind s p) × NoPartThere (return_address s p)
  pub no_period : (tag ≡ 5 → ⊥) → NoNumberThere (period s p)
  pub no_volume : (tag ≡ 6 → ⊥) → NoNumberThere (volume s p)
  pub no_query : (tag ≡ 7 → ⊥) → NoNumberThere (parameter_count s p) × ((i : ℕ) → NoNumberThere (parameter s p i))
  pub no_terminals : (3 ≤ tag → tag ≤ 7 → ⊥)
      → NoNumberThere (terminal_count s p) × ((i : ℕ) → NoPartThere (terminal s p i)) × ((i j : ℕ) → NoNumberThere (terminal_digit s p i j))

-- "tag 8, length 16, content": the command c, which begins at p and ends at q
pub record CommandAsked (s : List ℕ) (p : ℕ) (c : Command) (q : ℕ) : Type 0 where
  pub tag_is : command_tag s p ≡ Ok (c.0, p + 1)
  pub content_holds : PartHolds (said (order_of c.0)) s (command_content s p) c.1 q
  pub content_begins : content_holds.at ≡ p + 3
  pub order_is : OrderAsked (order_of c.0) s p c.1
  pub others : OthersAsked s p c.0

-- ---- the table

-- the commands by their numbers: the first begins at 1, each other one where the one before it ends
pub record CommandsAsked (s : List ℕ) (cs : List Command) (end : ℕ) : Type 0 where
  -- where each begins
  pub place : ℕ → ℕ
  pub begins : place 0 ≡ 1
  pub ends : place (length cs) ≡ end
  pub command_is : (i : ℕ) → i < length cs → (size : ℕ) × (command_part s i ≡ Ok (place i, size)) × (place i + size ≡ place (suc i))
  pub command_fields : (d : Command) (i : ℕ) → i < length cs → CommandAsked s (place i) (get_or cs i d) (place (suc i))
  pub command_past : (i : ℕ) → length cs ≤ i → NoPartThere (command_part s i)

-- "Every field of an accepted table can be asked for": "8-bit count; commands of tag 8, length 16, content; signature"
pub record ConfigurationAsked (s : List ℕ) (t : Configuration) : Type 0 where
  pub commands_counted : command_count s ≡ Ok (length t.commands, 1)
  -- where the last command ends
  pub end : ℕ
  pub commands_are : CommandsAsked s t.commands end
  pub signature_stands : FillsAt s (end + 2) (signature_part s) t.signature
