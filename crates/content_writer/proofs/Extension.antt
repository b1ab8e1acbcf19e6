-- The written body's extension: it is worked out of the first 18 bytes of the output, which are its identifier.
use Prim.Native.Nat.{ℕ, ◌≤◌}
use Rattle.std.specs.Prelude.{Ok, Err}
use mathlib.Core.Path.{◌≡◌, sym, ap, ◌∙◌}
use mathlib.Core.List.{List, ◌++◌}
use native.Mathlib.Omega.{arith}
use lib.ListN.{length, take, drop, length-append}
use lib.Seq.{length-take-le, take-append-le}
use Rattle.ground_placing.proofs.Placing.{placed_whole}
use Rattle.ground_refusal.specs.declared.Refusal.{Refusal}
use Rattle.crc.specs.Crc.{crc16_after_four}
use Rattle.body_formats.specs.Reading.{Reading, found, refused}
use Rattle.body_formats.specs.Answers.{step_of}
use Rattle.body_formats.specs.Body.{measured, writing, body_written, output_written}
use Rattle.body_pen.specs.Penned.{step_fitting}
use Rattle.body_pen.proofs.Writers.{write_refused}
use Rattle.body_extension.specs.Extension.{extension_of}
use Rattle.content.specs.Content.{Content, content}
use Rattle.content.proofs.RoundTrips.{content_trips}
use Rattle.content.proofs.Extension.{printed_identifier}
use Rattle.content_writer.specs.Written.{written_of, content_written}

-- one law over the width of an auxiliary file's length
module _ (w : ℕ) where
  -- a refusal is the same whether or not an extension is told, and writes no byte
  pub refused_kept : (pool tape out : List ℕ) (e : Refusal) → step_fitting (length out) (measured (content w) pool tape) ≡ Err e
      → (Err e ≡ content_written w pool tape (length out)) × (out ≡ output_written (content w) pool tape out)
  unfolding body_written content_written
  refused_kept pool tape out e f =
      let z = write_refused (content w) pool tape out e f in
      (go (writing (content w) pool tape (length out)) z.0, z.1)
    where
      go : (y : Reading Content) → Err e ≡ step_of y → Err e ≡ written_of y
      go (found c n) g = absurd (let z : ◌≡◌ {A = ℕ} 0 1 = cc in omega arith)
      go (refused u) g = ap Err (let z : e ≡ u = cc in z)

  module _ (pool tape out : List ℕ) (size : ℕ) (said : Ok size ≡ body_written (content w) pool tape (length out)) where
    value : (c : Content) × (writing (content w) pool tape (length out) ≡ found c size)
    unfolding body_written
    value = go (writing (content w) pool tape (length out)) said
      where
        go : (y : Reading Content) → Ok size ≡ step_of y → (c : Content) × (y ≡ found c size)
        go (found c n) g = (c, ap (found c) (let z : n ≡ size = cc in z))
        go (refused u) g = absurd (let z : ◌≡◌ {A = ℕ} 0 1 = cc in omega arith)

    identified : (18 ≤ length ((content w).print value.0)) × (crc16_after_four (take 18 ((content w).print value.0)) ≡ extension_of value.0.identifier)
    identified = printed_identifier w value.0 ((content_trips w).written_reads_back pool tape (length out) value.0 size value.1).2

    module _ (now : List ℕ) (left : now ≡ output_written (content w) pool tape out) where
      begins : now ≡ (content w).print value.0 ++ drop (length ((content w).print value.0)) out
      unfolding output_written
      begins = left ∙ rw value.1 (placed_whole out ((content w).print value.0))

      first : take 18 now ≡ take 18 ((content w).print value.0)
      first = ap (take 18) begins ∙ take-append-le 18 ((content w).print value.0) (drop (length ((content w).print value.0)) out) identified.0

      pub identifier_fits : 18 ≤ length now
      identifier_fits =
          let long = ap length begins ∙ length-append ((content w).print value.0) (drop (length ((content w).print value.0)) out) in
          omega (arith, long, identified.0)

      pub first_there : (k : ℕ) → k ≤ 18 → k ≡ length (take k now)
      first_there k h = sym (length-take-le k now (omega (arith, identifier_fits)))

      -- n is what the code works out of the first 18 bytes
      pub with_extension : (n : ℕ) → n ≡ crc16_after_four (take 18 now) → Ok (size, n) ≡ content_written w pool tape (length out)
      unfolding content_written
      with_extension n h = rw value.1 (ap (λ b. Ok (size, b)) (h ∙ ap crc16_after_four first ∙ identified.1))
