-- What stands at a message's fixed places is what its format reads there, so that the records found by places are the table's.
use Prim.Native.Nat.{ℕ, zero, suc, ◌+◌, ◌-◌, ◌/◌, ◌%◌, ◌^◌, ◌≤◌, ◌<◌, min}
use Rattle.std.specs.Prelude.{Ok, Err}
use mathlib.Core.Path.{◌≡◌, sym, ap, ◌∙◌}
use mathlib.Core.List.{List, ◌∷◌}
use native.Mathlib.Omega.{arith}
use native.Mathlib.Nat.{mod-eq_of_lt, min-eq_left, one-le-pow, le_refl, add-zero, zero-add}
use lib.ListN.{length, get_or}
use borrow.Author.Tests.{le-leb}
use Rattle.ground_refusal.specs.declared.Refusal.{Refusal}
use Rattle.ground_refusal.specs.declared.Refusal.TheVariants.{PastPart}
use Rattle.body_formats.specs.Reading.{found}
use Rattle.body_formats.specs.Format.{number_at, count, number, nibbles, nibbles_among, repeat, counted, length_of}
use Rattle.body_formats.specs.Time.{time, end_time}
use Rattle.body_formats.specs.Answers.{number_of, number_read}
use Rattle.ground_numbers.specs.Sizes.{body_most}
use Rattle.body_formats.proofs.Classes.{Bytes}
use Rattle.body_formats.proofs.Outcomes.{found_inj, and_then_found, within_found}
use Rattle.body_formats.proofs.Elements.{exact_found, view_found, followed_found}
use Rattle.body_formats.proofs.Readers.{number_facts}
use Rattle.body_formats.proofs.Identifiers.{identifier_sized}
use Rattle.body_asking.proofs.Sizes.{only_found, bytes_sized}
use Rattle.body_walk.specs.Entries.{number_worth}
use Rattle.index.specs.Index.{HeadFields, head, message_fields, named, unnamed, Message, message}
use Rattle.index.specs.Places.{start_place, end_place, class_place}
use Rattle.index.proofs.Lawful.{inner_filling, message_lawful}
use Rattle.index_records.specs.Records.{record_of, records_of}
use Rattle.index_records.specs.declared.Record.{Record}
use Rattle.index_records.specs.Steps.{standing, placed_from, placed_at, records_from}

-- ---- a number, by its reader's answer

pub nothing_stands : (s : List ℕ) (p w : ℕ) (r : Refusal) → Err r ≡ number_read w s (length s) p → (0 ≡ standing s p w) × (0 < 256 ^ w)
unfolding standing
nothing_stands s p w r e = (ap number_worth e, one-le-pow w 256 (omega arith))

pub number_stood : (s : List ℕ) (p w v q : ℕ) → Bytes s → Ok (v, q) ≡ number_read w s (length s) p → (v ≡ standing s p w) × (v < 256 ^ w)
unfolding standing
number_stood s p w v q b e = (ap number_worth e, (number_facts s (length s) p w v q b e).2)

-- ---- one field

-- in whatever part it was read
pub count_stands : (w : ℕ) (s : List ℕ) (l p v q : ℕ) → (count w).parse s l p ≡ found v q → (standing s p w ≡ v) × (q ≡ p + w)
unfolding count standing number_read
count_stands w s l p v q e =
    let f = within_found s l p (p + w) _ v q e in
    let i = found_inj f.2 in
    (rw (le-leb (p + w) (length s) f.0) i.0, sym i.1)

number_stands : (w : ℕ) (s : List ℕ) (l p v q : ℕ) → (number w).parse s l p ≡ found v q → (standing s p w ≡ v) × (q ≡ p + w)
unfolding number
number_stands w s l p v q e = count_stands w s l p v q (only_found _ (count w) s l p v q e)

byte_stands : (s : List ℕ) (p : ℕ) → p + 1 ≤ length s → standing s p 1 ≡ get_or s p 0
unfolding standing number_read count number_at
byte_stands s p h = rw (le-leb (p + 1) (length s) h) (zero-add (get_or s (p + 0) 0) ∙ ap (λ (k : ℕ). get_or s k 0) (add-zero p))

nibbles_stand : (lo hi : ℕ) (s : List ℕ) (l p : ℕ) (x : ℕ × ℕ) (q : ℕ) → (nibbles_among lo hi).parse s l p ≡ found x q
    → (standing s p 1 / 16 ≡ x.0) × (standing s p 1 % 16 ≡ x.1)
unfolding nibbles
nibbles_stand lo hi s l p x q e =
    let f = within_found s l p (p + 1) _ x q (only_found _ nibbles s l p x q e) in
    let i = (found_inj f.2).0 in
    (rw (byte_stands s p f.0) (ap (λ y. y.0) i), rw (byte_stands s p f.0) (ap (λ y. y.1) i))

-- ---- the fixed fields of a message

-- those of the message whose EBM_length stands at p
record Head (s : List ℕ) (p : ℕ) (h : HeadFields) : Type 0 where
  starts : standing s (p + 2 + start_place) 5 ≡ h.1.1.0
  ends : standing s (p + 2 + end_place) 5 ≡ h.1.1.1.0
  classed : standing s (p + 2 + class_place) 1 / 16 ≡ h.1.1.1.1.1.0
  levelled : standing s (p + 2 + class_place) 1 % 16 ≡ h.1.1.1.1.1.1

head_stands : (s : List ℕ) (p l at : ℕ) (h : HeadFields) (q : ℕ) → at ≡ p + 2 → head.parse s l at ≡ found h q → Head s p h
unfolding head time end_time
head_stands s p l at h q from e =
    let f₀ = followed_found _ _ s l at h q e in
    let f₁ = followed_found _ _ s l f₀.0 h.1 q f₀.2 in
    let f₂ = followed_found _ _ s l f₁.0 h.1.1 q f₁.2 in
    let f₃ = followed_found _ _ s l f₂.0 h.1.1.1 q f₂.2 in
    let f₄ = followed_found _ _ s l f₃.0 h.1.1.1.1 q f₃.2 in
    let e₀ = identifier_sized s l at h.0 f₀.0 f₀.1 in
    let e₁ = number_stands 2 s l f₀.0 h.1.0 f₁.0 f₁.1 in
    let e₂ = number_stands 5 s l f₁.0 h.1.1.0 f₂.0 (only_found _ (number 5) s l f₁.0 h.1.1.0 f₂.0 f₂.1) in
    let e₃ = number_stands 5 s l f₂.0 h.1.1.1.0 f₃.0 (only_found _ (number 5) s l f₂.0 h.1.1.1.0 f₃.0 f₃.1) in
    let e₄ = bytes_sized 0 0x7F 5 s l f₃.0 h.1.1.1.1.0 f₄.0 f₄.1 in
    let e₅ = nibbles_stand 1 4 s l f₄.0 h.1.1.1.1.1 q f₄.2 in
    let at₁ : p + 2 + start_place ≡ f₁.0 = omega (arith, from, e₀, e₁.1) in
    let at₂ : p + 2 + end_place ≡ f₂.0 = omega (arith, at₁, e₂.1) in
    let at₄ : p + 2 + class_place ≡ f₄.0 = omega (arith, at₂, e₃.1, e₄) in
    record {
      starts = ap (λ (k : ℕ). standing s k 5) at₁ ∙ e₂.0;
      ends = ap (λ (k : ℕ). standing s k 5) at₂ ∙ e₃.0;
      classed = ap (λ (k : ℕ). standing s k 1 / 16) at₄ ∙ e₅.0;
      levelled = ap (λ (k : ℕ). standing s k 1 % 16) at₄ ∙ e₅.1;
    }

-- ---- a message

-- a message by its numbers, and the position after it
abbrev placed : ℕ → ℕ → ℕ → ℕ → ℕ → ℕ → ℕ → Record × ℕ
placed at n start end class level next = (record { at = at; length = n; start = start; end = end; class = class; level = level }, next)

-- what the code puts together
pub by_places : (s : List ℕ) (p a n start end both : ℕ) → a ≡ min p body_most → n ≡ standing s a 2 → start ≡ standing s (a + 2 + start_place) 5
    → end ≡ standing s (a + 2 + end_place) 5 → both ≡ standing s (a + 2 + class_place) 1
    → placed (a + 2) n start end (both / 16) (both % 16) (a + 2 + n) ≡ placed_at s p
unfolding placed_at
by_places s p a n start end both e₀ e₁ e₂ e₃ e₄ = rw (e₁, e₂, e₃, e₄) (ap (placed_from s) e₀)

same_placed : (at : ℕ) {n n' start start' end end' class class' level level' next next' : ℕ} → n ≡ n' → start ≡ start' → end ≡ end' → class ≡ class'
    → level ≡ level' → next ≡ next'
    → placed at n start end class level next ≡ placed at n' start' end' class' level' next'
same_placed at e₀ e₁ e₂ e₃ e₄ e₅ = rw (e₀, e₁, e₂, e₃, e₄, e₅)

-- the message whose EBM_length stands at p, by places and by its format
pub message_placed : (s : List ℕ) (p : ℕ) (m : Message) (q : ℕ) → Bytes s → length s ≤ body_most → message.parse s (length s) p ≡ found m q
    → (placed_at s p ≡ (record_of m p, q)) × (q ≡ p + length (message.print m))
unfolding message message_fields counted length_of placed_at number_read
message_placed s p m q b small e =
    let i = and_then_found ((count 2).parse s (length s) p) _ m q e in
    let n = i.0 in
    let l = i.1 + n % 256 ^ 2 in
    let c = count_stands 2 s (length s) p n i.1 i.2 in
    let low = mod-eq_of_lt (number_facts s (length s) p 2 n i.1 b (sym (ap number_of i.2))).2 in
    let f = within_found s (length s) p l _ m q i.3 in
    let end = inner_filling.ends s l i.1 m q b f.0 (omega arith) f.2 in
    let v = view_found named unnamed message_fields s l i.1 m q (exact_found PastPart _ s l i.1 m q f.2).0 in
    let g = followed_found head _ s l i.1 v.0 q v.1 in
    let h = head_stands s p l i.1 v.0.0 g.0 c.1 g.1 in
    let next = (message_lawful.forth s (length s) p m q b (le_refl (length s)) (omega (arith, c.1, f.0)) e).next in
    let past : p + 2 + standing s p 2 ≡ q = omega (arith, c.0, end, low, c.1) in
    let here : min p body_most ≡ p = min-eq_left (omega (arith, c.1, f.0)) in
    let long : standing s p 2 ≡ length (message.print m) - 2 = omega (arith, past, next) in
    let same =
    same_placed (p + 2) long (h.starts ∙ ap (λ m. m.start) v.2) (h.ends ∙ ap (λ m. m.end) v.2) (h.classed ∙ ap (λ m. m.class) v.2)
    (h.levelled ∙ ap (λ m. m.level) v.2) past in
    (ap (placed_from s) here ∙ same, next)

-- ---- the messages, one after the other

pub messages_placed : (s : List ℕ) → Bytes s → length s ≤ body_most → (n p : ℕ) (ms : List Message) (q : ℕ)
    → repeat (message.parse s (length s)) n p ≡ found ms q
    → records_from s p n ≡ records_of ms p
unfolding repeat records_of
messages_placed s b small zero p ms q e = ap (λ ms. records_of ms p) (found_inj e).0
messages_placed s b small (suc n) p ms q e =
    let i = and_then_found (message.parse s (length s) p) _ ms q e in
    let j = and_then_found (repeat (message.parse s (length s)) n i.1) _ ms q i.3 in
    let f = message_placed s p i.0 i.1 b small i.2 in
    let rest = messages_placed s b small n i.1 j.0 j.1 j.2 in
    ap (λ (x : Record × ℕ). x.0 ∷ records_from s x.1 n) f.0 ∙ ap (λ rs. record_of i.0 p ∷ rs) (rest ∙ ap (records_of j.0) f.1)
    ∙ ap (λ ms. records_of ms p) (found_inj j.3).0
