-- What is ready of each thing in a content table: its entries, its bytes, and what comes after its fixed fields.
use Rattle.body_ink.proofs.Lists.{list_count}
use Prim.Native.Nat.{ℕ, ◌+◌, ◌-◌, ◌≤◌, ◌<◌}
use mathlib.Core.Path.{◌≡◌, refl}
use mathlib.Core.List.{List}
use native.Mathlib.Omega.{arith}
use lib.ListN.{length, get_or}
use Rattle.ground_numbers.specs.Sizes.{body_most}
use Rattle.ground_placing.specs.Placed.{placed}
use Rattle.ground_refusal.specs.declared.Refusal.TheVariants.{PastPart}
use Rattle.body_formats.specs.Format.{◌▷◌, among, reserved, opaque, bytes_of, length_of, Format, list_of}
use Rattle.body_ink.specs.Inked.{Ready, Inked}
use Rattle.body_ink.proofs.Pairs.{moved, first, view_ready, view_inked, exact_ready, exact_inked, only_ready, only_fixed, after_fixed}
use Rattle.body_ink.proofs.Numbers.{Numeral, of_a_set, after_bits, reserved_below, numeral_ready, after_number}
use Rattle.body_ink.proofs.Strings.{tagged_ready, bytes_ready, bytes_fixed}
use Rattle.body_ink.proofs.Lengths.{counted_ready, counted_inked, length_of_prints}
use Rattle.content.specs.Content.{auxiliary, auxiliaries, language_fields, language}

pub auxiliary_entries : (w : ℕ) {pool tape : List ℕ} {at k room : ℕ} → Ready (auxiliary w) pool tape at k room → k + 3 ≤ length tape
unfolding auxiliary
auxiliary_entries w g = (tagged_ready w _ _ g (λ a. refl)).0

-- ---- numbers in one byte, after reserved bits

-- "4 reserved, auxiliary count 4 bits (0 to 2)"
pub files_count : Numeral 1 (λ v. 0xF0 + v) (among 0 2 (reserved 4 0))
files_count = of_a_set (after_bits 4 0) _

-- "4 reserved, language count 4 bits (1 to 5)"
pub languages_count : Numeral 1 (λ v. 0xF0 + v) (among 1 5 (reserved 4 0))
languages_count = of_a_set (after_bits 4 0) _

-- "5 reserved, character set 3 bits (0 to 4)"
pub character_set_lem : Numeral 1 (λ v. 0xF8 + v) (among 0 4 (reserved 5 0))
character_set_lem = of_a_set (after_bits 5 0) _

-- a count of 4 bits, from lo to hi, in front of a list: its entry, its byte, and that it has 4 bits
pub count_ready : (lo hi : ℕ) {A : Type 0} (F : Format A) {pool tape : List ℕ} {at k room : ℕ}
    → Ready (list_of (among lo hi (reserved 4 0)) F) pool tape at k room → (k < length tape) × (at + 1 ≤ room) × (at + 1 ≤ body_most) × (get_or tape k 0 < 16)
count_ready lo hi F g =
    let count = list_count (of_a_set (after_bits 4 0) _) F g in
    let r = numeral_ready (of_a_set (after_bits 4 0) _) count in
    (r.0, r.1, r.2, reserved_below 4 0 (only_ready _ count))

-- ---- a language

pub fields_ready : (w : ℕ) {pool tape : List ℕ} {at k room : ℕ} → Ready (language_fields w) pool tape at k room
    → (k + 3 ≤ length tape) × (at + 4 ≤ room) × (at + 4 ≤ body_most) × (get_or tape k 0 + 3 ≤ length pool) × (get_or tape (k + 2) 0 < 8)
    × Ready (opaque 2 ▷ (opaque 1 ▷ auxiliaries w)) pool tape (at + 4) (k + 3) room
unfolding language_fields
fields_ready w g =
    let t = bytes_ready 3 (only_ready _ (first _ _ g)) in
    let p = after_fixed (only_fixed (bytes_fixed 3) _) g in
    let r = numeral_ready character_set_lem (first _ _ p) in (
      omega arith,
      omega arith,
      omega arith,
      t.1,
      reserved_below 5 0 (only_ready _ (first _ _ p)),
      moved (after_number character_set_lem _ p) (omega arith) (omega arith) refl,
    )

pub language_ready : (w : ℕ) {pool tape : List ℕ} {at k room : ℕ} → Ready (language w) pool tape at k room → Ready (language_fields w) pool tape (at + 4) k room
unfolding language
language_ready w g = view_ready _ _ (exact_ready PastPart (counted_ready (length_of 4) 4 (λ n. n) (length_of_prints 4) g)) (λ a. refl)

pub language_inked : (w : ℕ) {pool tape : List ℕ} {at k : ℕ} {out : List ℕ} {at' k' : ℕ} {mid out' : List ℕ}
    → Inked (language_fields w) pool tape (at + 4) k out at' k' mid → out' ≡ placed mid at (bytes_of 4 (at' - at - 4))
    → Inked (language w) pool tape at k out at' k' out'
unfolding language
language_inked w i e = counted_inked (length_of 4) 4 (λ n. n) (length_of_prints 4) (exact_inked (view_inked i _ _ (λ a. refl)) PastPart) e
