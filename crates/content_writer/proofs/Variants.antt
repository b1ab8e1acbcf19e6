-- The variants: what is measured and written for each is what the laws say of its width.
use Prim.Native.Nat.{ℕ}
use Rattle.std.specs.Prelude.{Ok, Err}
use mathlib.Core.Path.{◌≡◌}
use mathlib.Core.List.{List}
use Rattle.ground_refusal.specs.declared.Refusal.{Refusal}
use Rattle.body_formats.specs.Body.{measured, output_written}
use Rattle.content_variant.specs.Variant.{width_of}
use Rattle.content.specs.Content.{content}
use Rattle.content_writer.specs.Written.{content_written, variant_measured, variant_written, variant_output}

module _ (v : ℕ) where
  module _ (w : ℕ) (e : Ok w ≡ width_of v) where
    pub measured_wide : (pool tape : List ℕ) → measured (content w) pool tape ≡ variant_measured v pool tape
    unfolding variant_measured
    measured_wide pool tape = rw (← e)

    pub written_wide : (pool tape : List ℕ) (room : ℕ) → content_written w pool tape room ≡ variant_written v pool tape room
    unfolding variant_written
    written_wide pool tape room = rw (← e)

    pub output_wide : (pool tape out : List ℕ) → output_written (content w) pool tape out ≡ variant_output v pool tape out
    unfolding variant_output
    output_wide pool tape out = rw (← e)

  module _ (r : Refusal) (e : Err r ≡ width_of v) where
    pub measured_no : (pool tape : List ℕ) → Err r ≡ variant_measured v pool tape
    unfolding variant_measured
    measured_no pool tape = rw (← e)

    pub written_no : (pool tape : List ℕ) (room : ℕ) → Err r ≡ variant_written v pool tape room
    unfolding variant_written
    written_no pool tape room = rw (← e)

    pub output_no : (pool tape out : List ℕ) → out ≡ variant_output v pool tape out
    unfolding variant_output
    output_no pool tape out = rw (← e)
