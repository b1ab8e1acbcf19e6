-- Laws of a glance at a content table: of a number beside reserved bits, and of each part of the table, whose lengths the code has read.
use Prim.Native.Nat.{ℕ, ◌+◌, ◌-◌, ◌/◌, ◌%◌, ◌^◌, ◌≤◌}
use mathlib.Core.Path.{◌≡◌, sym, ap, ap₂, ◌∙◌}
use mathlib.Core.List.{List}
use mathlib.Core.Bool.{Bool, true, false, ◌&&◌}
use native.Mathlib.Omega.{arith}
use native.Mathlib.Nat.{one-mul}
use lib.ListN.{length, get_or, take, drop}
use lib.Dec.{leb, eqb}
use borrow.Author.Tests.{le-leb}
use Rattle.std.specs.Prelude.{if◌then◌else◌, Ok, Err}
use Rattle.ground_refusal.specs.declared.Refusal.TheVariants.{PastPart, OutsideSet}
use Rattle.body_formats.specs.Format.{number_at, among, below, reserved, every}
use Rattle.body_formats.proofs.Classes.{Bytes}
use Rattle.body_glance.specs.Glance.{Reads}
use Rattle.body_glance.proofs.Finds.{reads_only, reads_pair, reads_view, fills_exact, reads_to}
use Rattle.body_glance.proofs.Finds.{one_byte, reads_number, reads_reserved, reads_among, reads_part, reads_opaque}
use Rattle.content_variant.specs.Variant.{width_of, opened}
use Rattle.content_variant.proofs.Variant.{was_asked}
use Rattle.content.specs.Content.{Auxiliary, auxiliary, auxiliaries, Language, LanguageFields, language_fields, language}

module _ (s : List ℕ) (p : ℕ) where
  -- a number from lo to hi after k reserved bits, in one byte
  pub reads_few : (k lo hi n : ℕ) → get_or s p 0 / 2 ^ (8 - k) ≡ 2 ^ k - 1 → get_or s p 0 % 2 ^ (8 - k) ≡ n → lo ≤ n → n ≤ hi
      → Reads (among lo hi (reserved k 0)) s p n (p + 1)
  reads_few k lo hi n ones e from until =
      let z : number_at s p 1 % below k 0 ≡ n = ap₂ ◌%◌ (one_byte s p) (one-mul (2 ^ (8 - k))) ∙ e in
      reads_only _ (rw (le-leb lo n from, le-leb n hi until)) (rw z at (reads_reserved s p 0 k ones))

module _ (s : List ℕ) (p w : ℕ) (b : Bytes s) where
  -- an auxiliary file, whose length after its type counts n bytes
  pub reads_auxiliary : (n : ℕ) → n ≡ number_at s (p + 1) w → (a : Auxiliary) × Reads (auxiliary w) s p a (p + 1 + w + n)
  unfolding auxiliary
  reads_auxiliary n e =
      let after = reads_to (ap (λ m. p + 1 + w + m) (sym e)) (reads_opaque s (p + 1) w b).1 in
      (_, reads_view _ _ (reads_pair (reads_number s p 1 b) after))

  -- a language's fields: the lengths of the text and of the agency say where the auxiliary files begin
  pub reads_fields : (text agency l : ℕ) → every (λ x. leb 0x61 x && leb x 0x7A) (take 3 (drop p s)) ≡ true
      → 0xF8 ≤ get_or s (p + 3) 0 → get_or s (p + 3) 0 ≤ 0xFC → text ≡ number_at s (p + 4) 2 → agency ≡ get_or s (p + 6 + text) 0
      → (x : List Auxiliary) × Reads (auxiliaries w) s (p + 6 + text + 1 + agency) x l
      → (x : LanguageFields) × Reads (language_fields w) s p x l
  unfolding language_fields
  reads_fields text agency l letters from until e f files =
      let set = reads_few s (p + 3) 5 0 4 (get_or s (p + 3) 0 - 0xF8) (omega arith) (omega arith) (omega arith) (omega arith) in
      let texts = (reads_opaque s (p + 4) 2 b).1 in
      let agencies = (reads_opaque s (p + 6 + text) 1 b).1 in (
        _,
        reads_pair (reads_among s p 3 0x61 0x7A letters)
            (reads_pair (reads_to {t = p + 4} (omega arith) set)
            (reads_pair (reads_to {t = p + 6 + text} (omega arith) texts)
            (reads_pair (reads_to {t = p + 6 + text + 1 + agency} (omega (arith, one_byte s (p + 6 + text))) agencies) files.1))),
      )

  -- a language, whose length counts n bytes, which its fields fill
  pub reads_language : (n : ℕ) → n ≡ number_at s p 4 → p + 4 + n ≤ length s
      → (x : LanguageFields) × Reads (language_fields w) s (p + 4) x (p + 4 + n)
      → (a : Language) × Reads (language w) s p a (p + 4 + n)
  unfolding language
  reads_language n e h g =
      let there : p + 4 + n ≡ p + 4 + number_at s p 4 = ap (λ m. p + 4 + m) e in
      (_, reads_to (sym there) (reads_part s p 4 b (fills_exact PastPart (omega arith) (reads_view _ _ (reads_to there g.1)))))

-- an auxiliary file's length has three bytes at least
pub opened_least : (kind v n w : ℕ) → Ok w ≡ opened kind v n → 3 ≤ w
unfolding width_of
opened_least kind v n w e = go (eqb v 24) (eqb v 32) (was_asked kind v n w e).1
  where
    go : (a b : Bool) → Ok w ≡ (if a then Ok 3 else if b then Ok 4 else Err (OutsideSet 0)) → 3 ≤ w
    go true b f = let z : w ≡ 3 = cc in omega arith
    go false true f = let z : w ≡ 4 = cc in omega arith
    go false false f = absurd (let z : ◌≡◌ {A = ℕ} 0 1 = cc in omega arith)
