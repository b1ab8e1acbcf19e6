-- What a glance's tests say of each part of a configuration table: its format finds it.
use Prim.Native.Nat.{ℕ, zero, suc, ◌+◌, ◌*◌, ◌≤◌}
use mathlib.Core.Path.{◌≡◌, refl, sym, ◌∙◌}
use mathlib.Core.List.{List}
use mathlib.Core.Bool.{true, ◌&&◌}
use native.Mathlib.Omega.{arith}
use native.Mathlib.Nat.{le_refl, add-zero, add-sub_cancel_left, mod-eq_of_lt}
use lib.ListN.{length, get_or, take, drop, length-drop}
use lib.Seq.{length-take-le}
use lib.Dec.{leb}
use borrow.Author.Tests.{le-leb}
use Rattle.ground_refusal.specs.declared.Refusal.TheVariants.{LeftOver, PastPart}
use Rattle.time_days.specs.Calendar.{has_day}
use Rattle.body_formats.specs.Format.{Format, ◌▷◌, number_at, only, count, number, among, times, rest, least_of, counted}
use Rattle.body_formats.specs.Resource.{resource}
use Rattle.body_formats.proofs.Classes.{Bytes}
use Rattle.body_glance.specs.Glance.{Reads, Fills}
use Rattle.body_glance.proofs.Finds.{reads_only, reads_followed, reads_pair, reads_view, fills_exact, reads_to, one_byte, reads_count, reads_number, reads_counted, reads_opaque, reads_least}
use Rattle.body_glance.proofs.Runs.{reads_none, reads_more, reads_list}
use Rattle.configuration_addresses.specs.Address.{length_fits, is_address}
use Rattle.configuration.specs.Configuration.{terminals, date, clock, address_fault, address_length, address, set_clock, set_code, tune, set_return, set_period, set_volume, query, other, order_of, said, least, command, fields, configuration}
use Rattle.configuration.proofs.Clocks.{day_fault_lem}
use Rattle.configuration.proofs.Least.{enough}
use Rattle.configuration.proofs.Lawful.{said_filling}

-- F finds something from p to q
abbrev There : {A : Type 0} → Format A → List ℕ → ℕ → ℕ → Type 0
There {A} F s p q = (a : A) × Reads F s p a q

-- something fills the part from p to l
abbrev Full : {A : Type 0} → Format A → List ℕ → ℕ → ℕ → Type 0
Full {A} F s l p = (a : A) × Fills F s l p a

-- ---- numbers of one byte, by the number n that the code has of them

module _ {s : List ℕ} {p n q : ℕ} (e : n ≡ get_or s p 0) (k : p + 1 ≡ q) where
  byte_count : Reads (count 1) s p n q
  byte_count = reads_to k (rw (e, ← one_byte s p) (reads_count s p 1))

  byte_number : Bytes s → Reads (number 1) s p n q
  byte_number b = reads_to k (rw (e, ← one_byte s p) (reads_number s p 1 b))

  byte_among : (lo hi : ℕ) → Bytes s → lo ≤ n → n ≤ hi → Reads (among lo hi (number 1)) s p n q
  byte_among lo hi b from until = reads_only _ (rw (le-leb lo n from, le-leb n hi until)) (byte_number b)

-- n bytes are n numbers
all_bytes : (s : List ℕ) (n p : ℕ) → Bytes s → There (times n (number 1)) s p (p + n)
all_bytes s zero p b = (_, reads_to (sym (add-zero p)) (reads_none (number 1) s p))
all_bytes s (suc n) p b =
    let more = all_bytes s n (p + 1) b in
    (_, reads_to (omega arith) (reads_more n (byte_number refl refl b) more.1))

-- ---- what commands are made of

pub terminals_good : {s : List ℕ} {p l n : ℕ} → n ≡ get_or s p 0 → p + 1 + n * 12 ≡ l → There (times n resource) s (p + 1) (p + 1 + n * 12)
    → There terminals s p l
unfolding terminals
terminals_good e k g = (g.0, reads_to k (reads_list resource (byte_count e refl) g.1))

module _ {s : List ℕ} {p : ℕ} where
  pub date_good : {y m d : ℕ} → y ≡ number_at s p 2 → m ≡ get_or s (p + 2) 0 → d ≡ get_or s (p + 3) 0 → has_day y m d ≡ true
      → There date s p (p + 4)
  unfolding date
  date_good {y} {m} {d} e f g h =
      let year : Reads (count 2) s p y (p + 2) = rw e (reads_count s p 2) in
      (_, reads_only _ (day_fault_lem y m d p ∙ rw h) (reads_pair year (reads_pair (byte_count f (omega arith)) (byte_count g (omega arith)))))

  pub clock_good : {h m x : ℕ} → h ≡ get_or s p 0 → m ≡ get_or s (p + 1) 0 → x ≡ get_or s (p + 2) 0 → (leb h 23 && (leb m 59 && leb x 59)) ≡ true
      → There clock s p (p + 3)
  unfolding clock
  clock_good e f g t =
      (_, reads_only _ (rw t) (reads_pair (byte_count e refl) (reads_pair (byte_count f (omega arith)) (byte_count g (omega arith)))))

-- n bytes that are an address, after their number
address_good : {s : List ℕ} {p n q : ℕ} (kind : ℕ) → Bytes s → n ≡ get_or s p 0 → p + 1 ≡ q → q + n ≤ length s → length_fits kind n ≡ true
    → is_address kind (take n (drop q s)) ≡ true → Reads (address kind) s p (take n (drop q s)) (q + n)
unfolding address address_length only rest
address_good {s} {p} {n} {q} kind b e a k fits h =
    let long : length (take n (drop q s)) ≡ n = length-take-le n (drop q s) (simp length-drop (omega arith)) in
    let bytes : Fills (only (address_fault kind) rest) s (q + n) q (take n (drop q s)) =
    record { whole = rw (add-sub_cancel_left q n, long, fits, h) } in
    reads_counted (address_length kind) {F = only (address_fault kind) rest} (mod-eq_of_lt (omega (arith, b p))) (rw fits) (byte_count e a) bytes

-- ---- commands, by their tags: their contents, which end at l

module _ {s : List ℕ} {p l : ℕ} (k : l ≤ length s) where
  pub set_clock_good : p + 4 + 3 ≡ l → There date s p (p + 4) → There clock s (p + 4) (p + 4 + 3) → Full (said set_clock) s l p
  unfolding said
  set_clock_good e d t = (_, fills_exact PastPart k (reads_pair d.1 (reads_to e t.1)))

  module _ (b : Bytes s) where
    pub set_code_good : {n : ℕ} → n ≡ get_or s p 0 → p + 1 + n + 12 ≡ l → There resource s (p + 1 + n) (p + 1 + n + 12) → Full (said set_code) s l p
    unfolding said
    set_code_good e f g =
        let address = reads_opaque s p 1 b in
        (_, fills_exact PastPart k (reads_pair (reads_to (omega (arith, one_byte s p)) address.1) (reads_to f g.1)))

    pub tune_good : get_or s (p + 8) 0 ≤ 5 → There terminals s (p + 9) l → Full (said tune) s l p
    unfolding said
    tune_good h g =
        let rate = reads_to {t = p + 8} (omega arith) (reads_number s (p + 4) 4 b) in
        let mapping = byte_among {s = s} {p = p + 8} {q = p + 9} refl (omega arith) 0 5 b (omega arith) h in
        (_, fills_exact PastPart k (reads_pair (reads_number s p 4 b) (reads_pair rate (reads_pair mapping g.1))))

    pub set_return_good : {kind n : ℕ} → kind ≡ get_or s p 0 → 1 ≤ kind → kind ≤ 3 → n ≡ get_or s (p + 1) 0 → p + 2 + n ≤ l → length_fits kind n ≡ true
        → is_address kind (take n (drop (p + 2) s)) ≡ true → There terminals s (p + 2 + n) l → Full (said set_return) s l p
    unfolding said
    set_return_good {kind} e from until f m fits h g =
        let its_address = address_good {q = p + 2} kind b f (omega arith) (omega arith) fits h in
        (_, fills_exact PastPart k (reads_followed (λ kind. address kind ▷ terminals) (byte_among e refl 1 3 b from until) (reads_pair its_address g.1)))

    pub set_period_good : There terminals s (p + 4) l → Full (said set_period) s l p
    unfolding said
    set_period_good g = (_, fills_exact PastPart k (reads_pair (reads_number s p 4 b) g.1))

    pub set_volume_good : get_or s p 0 ≤ 100 → There terminals s (p + 1) l → Full (said set_volume) s l p
    unfolding said
    set_volume_good h g = (_, fills_exact PastPart k (reads_pair (byte_among refl refl 0 100 b (omega arith) h) g.1))

    pub query_good : {n : ℕ} → n ≡ get_or s p 0 → There terminals s (p + 1 + n) l → Full (said query) s l p
    unfolding said
    query_good {n} e g = (_, fills_exact PastPart k (reads_pair (reads_list (number 1) (byte_count e refl) (all_bytes s n (p + 1) b).1) g.1))

pub other_good : {s : List ℕ} {p l : ℕ} → Full (said other) s l p
unfolding said rest
other_good = (_, record { whole = refl })

-- ---- a command, and the table

-- what a tag's format finds is never shorter than the least of the tag, so that no glance looks that up
long_enough : {s : List ℕ} {p l : ℕ} (tag : ℕ) → Bytes s → p ≤ l → l ≤ length s → Full (said (order_of tag)) s l p → p + least tag ≤ l
long_enough {s} {p} {l} tag b h k g =
    let f = (said_filling (order_of tag)).forth s l p g.0 l b k h g.1.whole in
    omega (arith, f.next, enough tag g.0 f.ok)

pub command_good : {s : List ℕ} {p n : ℕ} (tag : ℕ) → tag ≡ get_or s p 0 → Bytes s → n ≡ number_at s (p + 1) 2 → p + 3 + n ≤ length s
    → Full (said (order_of tag)) s (p + 3 + n) (p + 3) → There command s p (p + 3 + n)
unfolding command
command_good {s} {p} {n} tag t b e k g =
    let long = long_enough tag b (omega arith) k g in
    let from : p + 3 ≡ p + 1 + 2 = omega arith in
    let until : p + 3 + n ≡ p + 1 + 2 + number_at s (p + 1) 2 = omega arith in
    let content = reads_least s (p + 1) 2 b (least tag) (omega arith) (rw (until, from) at g.1) in
    (_, reads_followed (λ tag. counted (least_of 2 (least tag)) (said (order_of tag))) (byte_number t refl b) (reads_to (sym until) content))

pub configuration_good : {s : List ℕ} {at : ℕ} → Bytes s → There (times (get_or s 0 0) command) s 1 at
    → at + 2 + number_at s at 2 ≡ length s → Full configuration s (length s) 0
unfolding configuration fields
configuration_good {s} {at} b g e =
    let signature = reads_to {t = length s} e (reads_opaque s at 2 b).1 in
    (_, fills_exact LeftOver (le_refl _) (reads_view _ _ (reads_pair (reads_list command (byte_count refl refl) g.1) signature)))
