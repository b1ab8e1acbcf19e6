-- The variants: what is answered for each is what the laws say of its width.
use Prim.Native.Nat.{ℕ, ◌≤◌}
use Rattle.std.specs.Prelude.{Result, Ok, Err}
use mathlib.Core.Path.{◌≡◌, refl, sym, ap, ◌∙◌}
use mathlib.Core.List.{List}
use native.Mathlib.Omega.{arith}
use lib.ListN.{length}
use Rattle.ground_refusal.specs.Numbers.{refusal_place}
use Rattle.ground_refusal.specs.declared.Refusal.{Refusal}
use Rattle.body_formats.specs.Body as body
use Rattle.body_formats.proofs.Readers.{is_open}
use Rattle.content_variant.specs.Variant.{width_of, by_width, opened}
use Rattle.content_variant.proofs.Variant.{was_asked, opened_width, opened_place}
use Rattle.content.specs.Content.{content_kind, content, reading_of, content_read, variant_read, variant_laid, variant_tape}
use Rattle.content.proofs.Places.{extended_place}

-- ---- what the code's tests make of a body: it is opened with a width, or refused

module _ (kind v : ℕ) (s : List ℕ) where
  module _ (w : ℕ) (e : Ok w ≡ opened kind v (length s)) where
    pub is_opened : Ok 0 ≡ body.opened content_kind kind s
    is_opened =
        let asked = was_asked kind v (length s) w e in
        is_open content_kind kind s asked.0 asked.2

    pub read_wide : (extension : ℕ) → content_read w kind extension s ≡ variant_read kind v extension s
    unfolding variant_read
    read_wide extension = rw (← e)

    pub laid_wide : (room : ℕ) → body.body_laid (content w) content_kind kind s room ≡ variant_laid kind v s room
    unfolding variant_laid
    laid_wide room = rw (← e)

    pub tape_wide : (tape : List ℕ) → body.laid_tape (content w) content_kind kind s tape ≡ variant_tape kind v s tape
    unfolding variant_tape
    tape_wide tape = rw (← e)

  module _ (r : Refusal) (e : Err r ≡ opened kind v (length s)) where
    pub read_no : (extension : ℕ) → Err r ≡ variant_read kind v extension s
    unfolding variant_read
    read_no extension = rw (← e)

    pub laid_no : (room : ℕ) → Err r ≡ variant_laid kind v s room
    unfolding variant_laid
    laid_no room = rw (← e)

    pub tape_no : (tape : List ℕ) → tape ≡ variant_tape kind v s tape
    unfolding variant_tape
    tape_no tape = rw (← e)

-- a variant that there is not leaves the tape, whatever the kind
pub unnamed_tape : (kind v : ℕ) (s : List ℕ) (r : Refusal) → Err r ≡ width_of v → (tape : List ℕ) → variant_tape kind v s tape ≡ tape
unfolding variant_tape
unnamed_tape kind v s r e tape = go (opened kind v (length s)) refl
  where
    go : (x : Result ℕ Refusal) → opened kind v (length s) ≡ x → by_width x (λ w. body.laid_tape (content w) content_kind kind s tape) (λ u. tape) ≡ tape
    go (Err u) k = refl
    go (Ok w) k =
        let named : Ok w ≡ Err r = (was_asked kind v (length s) w (sym k)).1 ∙ sym e in
        absurd (let z : ◌≡◌ {A = ℕ} 0 1 = cc in omega arith)

-- ---- a variant of w bytes answers what is said of w bytes, whatever the kind and the size

module _ (v w : ℕ) (e : Ok w ≡ width_of v) (kind : ℕ) (s : List ℕ) where
  pub variant_reads : (extension : ℕ) → variant_read kind v extension s ≡ content_read w kind extension s
  unfolding variant_read content_read reading_of body.reading
  variant_reads extension = opened_width kind v (length s) w e (λ u. content_read u kind extension s) Err (λ k. rw k) (λ k l. rw (k, l))

  pub variant_lays : (room : ℕ) → variant_laid kind v s room ≡ body.body_laid (content w) content_kind kind s room
  unfolding variant_laid body.body_laid body.laying body.reading
  variant_lays room =
      opened_width kind v (length s) w e (λ u. body.body_laid (content u) content_kind kind s room) Err (λ k. rw k) (λ k l. rw (k, l))

  pub variant_tape_lem : (tape : List ℕ) → variant_tape kind v s tape ≡ body.laid_tape (content w) content_kind kind s tape
  unfolding variant_tape body.laid_tape body.laying body.reading
  variant_tape_lem tape =
      opened_width kind v (length s) w e (λ u. body.laid_tape (content u) content_kind kind s tape) (λ r. tape) (λ k. rw k) (λ k l. rw (k, l))

-- ---- where its refusals stand

pub variant_place : (kind v extension : ℕ) (s : List ℕ) (r : Refusal) → variant_read kind v extension s ≡ Err r → refusal_place r ≤ length s
unfolding variant_read
variant_place kind v extension s r e = go (opened kind v (length s)) refl e
  where
    go : (x : Result ℕ Refusal) → opened kind v (length s) ≡ x → by_width x (λ w. content_read w kind extension s) Err ≡ Err r → refusal_place r ≤ length s
    go (Ok w) k f = extended_place w kind extension s r f
    go (Err t) k f =
        let same : t ≡ r = cc in
        let first = opened_place kind v (length s) t (sym k) in
        omega (arith, ap refusal_place same, first)
