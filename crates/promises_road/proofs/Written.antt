-- What the writers wrote is the bytes of the table on the form, and is read as that table.
use Prim.Native.Nat.{ℕ}
use Rattle.std.specs.Prelude.{Ok}
use mathlib.Core.List.{List}
use mathlib.Core.Path.{◌≡◌, sym, ap, ◌∙◌, subst}
use borrow.Author.Tests.{eq-eqb}
use lib.IntN.{ℤ}
use lib.ListN.{length, take}
use Rattle.ground_refusal.proofs.Exits.{ok_pair_inj}
use Rattle.ground_placing.specs.Placed.{placed}
use Rattle.ground_placing.proofs.Placing.{placed_start}
use Rattle.body_formats.specs.Reading.{found}
use Rattle.body_formats.specs.Format.{Format}
use Rattle.body_formats.specs.Answers.{step_of}
use Rattle.body_formats.specs.Body.{reading, writing, output_written, body_read}
use Rattle.body_formats.proofs.RoundTrips.{RoundTrips}
use Rattle.body_extension.specs.Extension.{extension_of}
use Rattle.index.specs.Index.{Index, index_kind, index}
use Rattle.index.proofs.RoundTrips.{index_trips}
use Rattle.content.specs.Content.{Content, content_kind, content, reading_of, content_read, variant_read}
use Rattle.content.proofs.RoundTrips.{content_trips}
use Rattle.content.proofs.Variants.{variant_reads}
use Rattle.content_writer.specs.Written.{content_written}
use Rattle.content_writer.proofs.Variants.{written_wide, output_wide}
use Rattle.promises_road.specs.Road.{FormTimes, IndexWritten, ContentWritten}

module _ {A : Type 0} (F : Format A) (own : ℕ) (f : RoundTrips F own) (pool tape out : List ℕ) (t : A) (n : ℕ)
    (e : writing F pool tape (length out) ≡ found t n) where
  laid_over_lem : output_written F pool tape out ≡ placed out 0 (F.print t)
  unfolding output_written
  laid_over_lem = rw e

  print_written : take n (output_written F pool tape out) ≡ F.print t
  print_written = ap (take n) laid_over_lem ∙ placed_start out (F.print t) n (f.written_reads_back pool tape (length out) t n e).0

  pub written_read : (body : List ℕ) → body ≡ take n (output_written F pool tape out) → reading F own own body ≡ found t n
  written_read body b =
      subst (λ (s : List ℕ). reading F own own s ≡ found t n) (sym (b ∙ print_written)) (f.written_reads_back pool tape (length out) t n e).3

module _ (offset : ℤ) (times : List FormTimes) (t : Index) (body : List ℕ) (w : IndexWritten offset times t body) where
  pub index_read : reading index index_kind index_kind body ≡ found t (length body)
  index_read = written_read index index_kind index_trips w.pool w.tape w.out t (length body) w.filled body w.body_is

  pub index_accepted : body_read index index_kind index_kind body ≡ Ok (length body)
  unfolding body_read
  index_accepted = ap step_of index_read

module _ (v w : ℕ) (t : Content) (given : ℕ) (body : List ℕ) (c : ContentWritten v w t given body) where
  pub content_read_lem : reading (content w) content_kind content_kind body ≡ found t (length body)
  content_read_lem =
      written_read (content w) content_kind (content_trips w) c.pool c.tape c.out t (length body) c.filled body
      (c.body_is ∙ ap (take (length body)) (sym (output_wide v w c.variant c.pool c.tape c.out)))

  written_of : content_written w c.pool c.tape (length c.out) ≡ Ok (length body, extension_of t.identifier)
  unfolding content_written
  written_of = rw c.filled

  pub given_is : given ≡ extension_of t.identifier
  given_is =
      (ok_pair_inj (sym c.answered ∙ sym (written_wide v w c.variant c.pool c.tape (length c.out)) ∙ written_of)).1

  read_given : content_read w content_kind given body ≡ Ok (length body)
  unfolding content_read reading_of
  read_given = rw (content_read_lem, eq-eqb given (extension_of t.identifier) given_is)

  pub content_accepted : variant_read content_kind v given body ≡ Ok (length body)
  content_accepted = variant_reads v w c.variant content_kind body given ∙ read_given
