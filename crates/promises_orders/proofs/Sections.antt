-- Reading a section goes through the lines 1 to 7 as they are listed.
use Prim.Native.Nat.{ℕ, ◌-◌}
use Rattle.std.specs.Prelude.{Result, Ok, Err}
use Rattle.ground_refusal.specs.declared.Refusal.{Refusal}
use mathlib.Core.Path.{◌≡◌, refl}
use mathlib.Core.List.{List}
use native.Mathlib.Omega.{arith}
use lib.ListN.{length}
use Rattle.section_reader.specs.Section.{heading_of, read_section}
use Rattle.section_reader.specs.declared.Heading.{Heading}
use Rattle.promises_orders.specs.Order.{AsListed}
use Rattle.promises_orders.specs.Sections.{section_lines}
use Rattle.promises_orders.proofs.Order.{Told, outcome, by_lines}

told : (h : Heading) (n : ℕ) → Told Err (λ (a : Result (Heading × ℕ) Refusal). a ≡ Ok (h, n))
told h n =
    record {
      same = λ r r' e. cc;
      apart = λ r e. let z : ◌≡◌ {A = ℕ} 0 1 = cc in omega arith;
    }

pub sections_as_listed : (s : List ℕ) → AsListed Err (λ (a : Result (Heading × ℕ) Refusal). a ≡ Ok (heading_of s, length s - 12)) (section_lines s) (read_section s)
unfolding read_section section_lines outcome heading_of
sections_as_listed s = by_lines Err _ (told (heading_of s) (length s - 12)) (section_lines s) (Ok (heading_of s, length s - 12)) refl
