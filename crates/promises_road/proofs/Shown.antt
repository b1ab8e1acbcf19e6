-- What is asked for of the body and printed is what was typed: message by message, and a live end as the word live.
use Prim.Native.Nat.{ℕ, suc, ◌+◌}
use mathlib.Core.Bool.{Bool, true, false}
use mathlib.Core.List.Memᴰ
use mathlib.Core.List.{List, [], ◌∷◌, Memᴰ as In}
use mathlib.Core.Logic.{◌⊎◌, inl, inr}
use mathlib.Core.Path.{◌≡◌, refl, sym, ap, ◌∙◌, subst}
use native.Mathlib.Omega.{arith}
use lib.IntN.{ℤ}
use Rattle.std.specs.Prelude.{if◌then◌else◌, Ok}
use Rattle.ground_refusal.proofs.Exits.{ok_inj}
use Rattle.time_offset.specs.Offset.{is_offset}
use Rattle.time_local.specs.Text.{read_text}
use Rattle.time_local.proofs.Forms.{no_offset}
use Rattle.time_printing.specs.Printing.{live_text, prints, start_text, end_text}
use Rattle.time_printing.specs.Typing.{end_typed, typed_times}
use Rattle.time_printing.proofs.Calls.{end_live}
use Rattle.time_printing.proofs.Laws.{typed_prints, typed_prints_end, typed_both}
use Rattle.body_asking.specs.Agreement.{InTurn}
use Rattle.index.specs.Index.{Message}
use Rattle.index_fields.specs.Agreement.{MessageAsked}
use Rattle.promises_road.specs.Road.{FormTimes, AllTyped, shown, end_shown, MessageShown, AllShown}

module _ (offset : ℤ) where
  -- where a text is accepted, the offset is one of the range
  allowed : (s : List ℕ) (field : ℕ) → read_text s offset ≡ Ok field → is_offset offset ≡ true
  allowed s field e = by (is_offset offset) refl
    where
      by : (b : Bool) → is_offset offset ≡ b → is_offset offset ≡ true
      by true o = o
      by false o = absurd (let z : ◌≡◌ {A = ℕ} 0 1 = cc (no_offset s offset o) in omega arith)

  end_prints : (live : Bool) (s : List ℕ) (field : ℕ) → is_offset offset ≡ true → end_typed live s offset ≡ Ok field
      → end_text field offset ≡ prints (if live then live_text else s)
  unfolding end_typed
  end_prints true s field o e = end_live field offset o (sym (ok_inj e))
  end_prints false s field o e = typed_prints_end offset field s e

  module _ (s : List ℕ) where
    one_shown : (i : ℕ) (x : FormTimes) (m : Message) (p q : ℕ) → typed_times x.start x.live x.end offset ≡ Ok (m.start, m.end)
        → MessageAsked s i m p q → MessageShown s offset i x
    unfolding shown end_shown
    one_shown i x m p q e a =
        let b = typed_both x.start x.end x.live offset m.start m.end e in
        record {
          at = p + 2;
          size = a.size;
          part = a.part_follows.is;
          start_shown = ap (shown start_text offset) a.fields_asked.start_is ∙ typed_prints offset m.start x.start b.0;
          end_shown_lem =
              ap (shown end_text offset) a.fields_asked.end_is ∙ end_prints x.live x.end m.end (allowed x.start m.start b.0) b.1;
        }

    pub all_shown : (i : ℕ) (xs : List FormTimes) (ms : List Message) (p q : ℕ) → AllTyped offset xs ms → InTurn (MessageAsked s) i ms p q
        → AllShown s offset i xs
    unfolding InTurn
    all_shown i [] [] p q t a = tt
    all_shown i [] (m ∷ ms) p q t a = tt
    all_shown i (x ∷ xs) [] p q t a = absurd t
    all_shown i (x ∷ xs) (m ∷ ms) p q t a = (one_shown i x m p a.0 t.0 a.1, all_shown (suc i) xs ms a.0 q t.1 a.2)

-- a message of the table stands in the body, under its number
pub stands : (s : List ℕ) (i : ℕ) (ms : List Message) (p q : ℕ) → InTurn (MessageAsked s) i ms p q → (m : Message) → In m ms
    → (k : ℕ) × (a : ℕ) × (b : ℕ) × MessageAsked s k m a b
unfolding InTurn
stands s i [] p q t m n = absurd (Memᴰ.not-nil n)
stands s i (x ∷ ms) p q t m n = go (Memᴰ.cases_cons n) (stands s (suc i) ms t.0 q t.2 m)
  where
    go : (m ≡ x) ⊎ In m ms → (In m ms → (k : ℕ) × (a : ℕ) × (b : ℕ) × MessageAsked s k m a b) → (k : ℕ) × (a : ℕ) × (b : ℕ) × MessageAsked s k m a b
    go (inl e) later = (i, p, t.0, subst (λ (y : Message). MessageAsked s i y p t.0) (sym e) t.1)
    go (inr j) later = later j
