-- What a reader has to believe of a glance at a form: what it takes for good, the form lays out, in so many bytes. What it does not take for good may be
-- good all the same: then a pen goes through the form, field by field, which tells the rest.
use Rattle.std.specs.Prelude.{ℕ, suc, ◌+◌, ◌*◌, ◌≤◌, ◌<◌, ◌≡◌, List, Bool, true, false, length}
use Rattle.body_formats.specs.Reading.{found}
use Rattle.body_formats.specs.Format.{Format}
use Rattle.body_formats.specs.Resource.{resources}
use Rattle.body_form_glance.specs.declared.Sight.{Sight}

-- F lays out a from the entry k of the tape up to j, in n bytes, and no count or length of it is too large for its field
pub record Lays {A : Type 0} (F : Format A) (pool tape : List ℕ) (k : ℕ) (a : A) (j n : ℕ) : Type 0 where
  pub laid : F.form pool tape k ≡ found a j
  pub long : length (F.print a) ≡ n
  pub small : F.too_large a ≡ false

-- a glance at the entries from k to j, which make n bytes: what it takes for good, F lays out
abbrev pub Good : {A : Type 0} → Format A → List ℕ → List ℕ → ℕ → ℕ → ℕ → Bool → Type 0
Good {A} F pool tape k j n good = good ≡ true → (a : A) × Lays F pool tape k a j n

-- a glance at the entries from k to j that tells their bytes, or 0
abbrev pub Told : {A : Type 0} → Format A → List ℕ → List ℕ → ℕ → ℕ → ℕ → Type 0
Told {A} F pool tape k j r = 0 < r → (a : A) × Lays F pool tape k a j r

-- a glance at the entries from k on that tells how far they go and how many bytes they make: none past the tape, and fewer than a length of two bytes counts
pub record Seen {A : Type 0} (F : Format A) (pool tape : List ℕ) (k : ℕ) (r : Sight) : Type 0 where
  pub few : r.bytes < 65536
  pub inside : r.entry ≤ length tape
  pub good : 0 < r.entry → (a : A) × Lays F pool tape k a r.entry r.bytes

-- a glance at a list of resources from k on that tells how many they are, and one more, or 0
pub record Listed (pool tape : List ℕ) (k r : ℕ) : Type 0 where
  pub few : r ≤ 256
  pub inside : (n : ℕ) → r ≡ suc n → k + 1 + n * 2 ≤ length tape
  pub good : (n : ℕ) → r ≡ suc n → (xs : List (List ℕ)) × Lays resources pool tape k xs (k + 1 + n * 2) (1 + n * 12)
