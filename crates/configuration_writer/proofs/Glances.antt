-- What a glance's tests say of each part of a configuration table's form: its format lays it out, in so many bytes.
use Prim.Native.Nat.{ℕ, zero, suc, ◌+◌, ◌*◌, ◌^◌, ◌≤◌, ◌<◌}
use mathlib.Core.Path.{◌≡◌, refl, sym, ◌∙◌}
use mathlib.Core.List.{List}
use mathlib.Core.Bool.{true, ◌&&◌}
use native.Mathlib.Omega.{arith}
use lib.ListN.{length, get_or, take, drop}
use lib.Dec.{leb}
use Rattle.ground_refusal.specs.declared.Refusal.TheVariants.{LeftOver, PastPart}
use Rattle.time_days.specs.Calendar.{has_day}
use Rattle.body_formats.specs.Format.{Format, ◌▷◌, count, number, among, times, opaque, least_of, counted}
use Rattle.body_formats.specs.Resource.{resource}
use Rattle.body_formats.proofs.Leaves.{length_bytes_lem}
use Rattle.body_form_glance.specs.Lays.{Lays, Seen, Listed}
use Rattle.body_form_glance.specs.declared.Sight.{Sight}
use Rattle.body_form_glance.proofs.Forms.{none_seen, lays_only, lays_followed, lays_pair, lays_view, lays_exact, lays_counted, lays_to, lays_count, lays_number, lays_among, span_length, lays_rest, lays_opaque}
use Rattle.body_form_glance.proofs.Rows.{lays_list}
use Rattle.configuration_addresses.specs.Address.{length_fits, is_address}
use Rattle.configuration.specs.Configuration.{terminals, plain, date, clock, address_fault, address_length, address, set_clock, set_code, tune, set_return, set_period, set_volume, query, order_of, said, least, command, fields, configuration}
use Rattle.configuration.proofs.Clocks.{day_fault_lem, day_fits, time_fits}

-- F lays out something from k to j, in n bytes
abbrev There : {A : Type 0} → Format A → List ℕ → List ℕ → ℕ → ℕ → ℕ → Type 0
There {A} F pool tape k j n = (a : A) × Lays F pool tape k a j n

-- ---- what is told

-- of entries whose end and bytes are known
pub seen_to : {A : Type 0} {F : Format A} {pool tape : List ℕ} {k j n : ℕ} {r : Sight} → r.bytes ≡ n → r.entry ≡ j → n < 65536 → j ≤ length tape
    → There F pool tape k j n → Seen F pool tape k r
seen_to b e few inside g =
    record { few = omega arith; inside = omega arith; good = λ h. (g.0, lays_to (sym e) (sym b) g.1) }

-- of a content that ends with a list of terminals
pub seen_list : {A : Type 0} {F : Format A} {pool tape : List ℕ} {k : ℕ} {r : Sight} (t : ℕ) {at : ℕ} (bytes : ℕ) → Listed pool tape at t → bytes ≤ 257
    → (t ≡ 0 → (r.bytes ≡ 0) × (r.entry ≡ 0))
    → ((n : ℕ) → t ≡ suc n → (r.bytes ≡ bytes + (1 + n * 12)) × (r.entry ≡ at + 1 + n * 2))
    → ((j m : ℕ) → There terminals pool tape at j m → There F pool tape k j (bytes + m)) → Seen F pool tape k r
unfolding terminals
seen_list zero bytes l b none some g = none_seen (none refl)
seen_list (suc n) bytes l b none some g =
    let s = some n refl in
    seen_to s.0 s.1 (omega (arith, l.few)) (l.inside n refl) (g _ _ (l.good n refl))

-- an address after its number
address_laid : (pool tape : List ℕ) (k : ℕ) {a n : ℕ} (kind : ℕ) → a ≡ get_or tape k 0 → n ≡ get_or tape (k + 1) 0 → n < 256 → k + 2 ≤ length tape → a + n ≤ length pool
    → length_fits kind n ≡ true → is_address kind (take n (drop a pool)) ≡ true → Lays (address kind) pool tape k (take n (drop a pool)) (k + 2) (1 + n)
unfolding address address_length count
address_laid pool tape k {a} {n} kind ea en s h g fits is =
    lays_counted (address_length kind) 1 (length_bytes_lem 1 n) s
    (lays_only (address_fault kind) (rw (span_length pool tape k ea en h g, fits, is)) (lays_rest pool tape k ea en h g))

-- ---- commands, by their tags

module _ {pool tape : List ℕ} {k : ℕ} where
  three : {x y z : ℕ} → x ≡ get_or tape k 0 → y ≡ get_or tape (k + 1) 0 → z ≡ get_or tape (k + 2) 0 → k + 3 ≤ length tape → (w : ℕ) → x < 256 ^ w → y < 256 → z < 256
      → Lays (plain w) pool tape k (x, (y, z)) (k + 3) (w + 2)
  three e f g h w a b c =
      lays_pair (lays_count e (omega arith) w a)
      (lays_pair (lays_to (omega arith) refl (lays_count f (omega arith) 1 b)) (lays_to (omega arith) refl (lays_count g (omega arith) 1 c)))

  pub date_laid : k + 3 ≤ length tape → has_day (get_or tape k 0) (get_or tape (k + 1) 0) (get_or tape (k + 2) 0) ≡ true → There date pool tape k (k + 3) 4
  unfolding date
  date_laid h d =
      let f = day_fits _ _ _ d in
      (_, lays_only _ (day_fault_lem _ _ _ k ∙ rw d) (three refl refl refl h 2 f.0 f.1 f.2))

  pub clock_laid : k + 3 ≤ length tape → (leb (get_or tape k 0) 23 && (leb (get_or tape (k + 1) 0) 59 && leb (get_or tape (k + 2) 0) 59)) ≡ true
      → There clock pool tape k (k + 3) 3
  unfolding clock
  clock_laid h t =
      let f = time_fits _ _ _ t in
      (_, lays_only _ (rw t) (three refl refl refl h 1 f.0 f.1 f.2))

  pub set_clock_laid : There date pool tape k (k + 3) 4 → There clock pool tape (k + 3) (k + 3 + 3) 3 → There (said set_clock) pool tape k (k + 6) 7
  unfolding said
  set_clock_laid d t = (_, lays_exact PastPart (lays_to (omega arith) refl (lays_pair d.1 t.1)))

  pub set_code_laid : {n : ℕ} → n ≡ get_or tape (k + 1) 0 → n < 256 → k + 2 ≤ length tape → get_or tape k 0 + n ≤ length pool → There resource pool tape (k + 2) (k + 2 + 2) 12
      → There (said set_code) pool tape k (k + 4) (1 + n + 12)
  unfolding said
  set_code_laid e s h g r = (_, lays_exact PastPart (lays_to (omega arith) refl (lays_pair (lays_opaque pool tape k refl e h g 1 s) r.1)))

  pub tune_laid : {j m : ℕ} → k + 3 ≤ length tape → get_or tape k 0 < 2 ^ 32 → get_or tape (k + 1) 0 < 2 ^ 32 → get_or tape (k + 2) 0 ≤ 5
      → There terminals pool tape (k + 3) j m → There (said tune) pool tape k j (9 + m)
  unfolding said
  tune_laid h a b c g =
      let rate : Lays (number 4) pool tape (k + 1) _ (k + 2) 4 = lays_to (omega arith) refl (lays_number refl (omega arith) 4 b) in
      let mapping : Lays (among 0 5 (number 1)) pool tape (k + 2) _ (k + 3) 1 =
      lays_to (omega arith) refl (lays_among refl (omega arith) 1 (omega arith) 0 5 (omega arith) c) in
      (_, lays_exact PastPart (lays_to refl (omega arith) (lays_pair (lays_number refl (omega arith) 4 a) (lays_pair rate (lays_pair mapping g.1)))))

  pub set_return_laid : {kind n j m : ℕ} → kind ≡ get_or tape k 0 → 1 ≤ kind → kind ≤ 3 → n ≡ get_or tape (k + 1 + 1) 0 → n < 256 → k + 3 ≤ length tape
      → get_or tape (k + 1) 0 + n ≤ length pool → length_fits kind n ≡ true → is_address kind (take n (drop (get_or tape (k + 1) 0) pool)) ≡ true
      → There terminals pool tape (k + 3) j m → There (said set_return) pool tape k j (2 + n + m)
  unfolding said
  set_return_laid {kind} e from until f s h g fits is t =
      let its = lays_to {i = k + 3} (omega arith) refl ((address_laid pool tape (k + 1) kind refl f s (omega arith) g fits is)) in (
        _,
        lays_exact PastPart (lays_to refl (omega arith)
            (lays_followed (λ kind. address kind ▷ terminals) (lays_among e (omega arith) 1 (omega arith) 1 3 from until) (lays_pair its t.1))),
      )

  pub set_period_laid : {j m : ℕ} → k < length tape → get_or tape k 0 < 2 ^ 32 → There terminals pool tape (k + 1) j m → There (said set_period) pool tape k j (4 + m)
  unfolding said
  set_period_laid h s g = (_, lays_exact PastPart (lays_pair (lays_number refl h 4 s) g.1))

  pub set_volume_laid : {j m : ℕ} → k < length tape → get_or tape k 0 ≤ 100 → There terminals pool tape (k + 1) j m → There (said set_volume) pool tape k j (1 + m)
  unfolding said
  set_volume_laid h s g = (_, lays_exact PastPart (lays_pair (lays_among refl h 1 (omega arith) 0 100 (omega arith) s) g.1))

  pub query_laid : {n j m : ℕ} → n ≡ get_or tape k 0 → k < length tape → n < 256 → There (times n (number 1)) pool tape (k + 1) (k + 1 + n) n
      → There terminals pool tape (k + 1 + n) j m → There (said query) pool tape k j (1 + n + m)
  unfolding said
  query_laid e h s ps g = (_, lays_exact PastPart (lays_pair (lays_list (number 1) (lays_count e h 1 s) ps.1) g.1))

-- ---- a command, and the table

pub command_laid : {pool tape : List ℕ} {k j n : ℕ} (tag : ℕ) → tag ≡ get_or tape k 0 → k < length tape → tag < 256 → n < 65536
    → There (said (order_of tag)) pool tape (k + 1) j n → There command pool tape k j (3 + n)
unfolding command least_of count
command_laid {n} tag e h s few g =
    let content = lays_counted (least_of 2 (least tag)) 2 (length_bytes_lem 2 n) few g.1 in
    (_, lays_to refl (omega arith) (lays_followed (λ tag. counted (least_of 2 (least tag)) (said (order_of tag))) (lays_number e h 1 s) content))

pub configuration_laid : {pool tape : List ℕ} {at b m : ℕ} → 0 < length tape → get_or tape 0 0 < 256 → There (times (get_or tape 0 0) command) pool tape 1 at b
    → There (opaque 2) pool tape at (length tape) m → There configuration pool tape 0 (length tape) (1 + b + m)
unfolding configuration fields
configuration_laid h s g t = (_, lays_exact LeftOver (lays_view _ _ refl (lays_pair (lays_list command (lays_count refl h 1 s) g.1) t.1)))
