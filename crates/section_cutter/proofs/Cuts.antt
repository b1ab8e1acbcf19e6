-- Laws of the cutter: what an answer shows, and the verdict where only 21 is left.
use Prim.Native.Nat.{ℕ, ◌-◌, ◌<◌}
use mathlib.Core.List.{List}
use mathlib.Core.Path.{◌≡◌, sym, ap, ◌∙◌}
use native.Mathlib.Omega.{arith}
use borrow.Author.Tests.{le-ltb, le-leb, lt-leb, ne_eqb}
use lib.ListN.{length, take}
use Rattle.ground_numbers.specs.Sizes.{body_most}
use Rattle.ground_refusal.specs.declared.Refusal.{Refusal}
use Rattle.section_cutter.specs.Cutting.{section_count, counted_of, section_of, Verdict, refuses, writes, cut_if_room, cutting, cut_by, output_by, Allowed}
use Rattle.std.specs.Prelude.{Result, Ok}
use Rattle.section_cutter.proofs.Counting.{counted_some}
use Rattle.ground_placing.proofs.Placing.{placed_start}

-- ---- the answer and the output of a verdict

-- what a cutting function promises of its answer and of the output as it leaves it
abbrev pub CutBy : Verdict → List ℕ → Result ℕ Refusal → List ℕ → Type 0
CutBy v out answer left = (answer ≡ cut_by v) × (left ≡ output_by v out)

-- an answer of n bytes shows the section that was written
pub written_is : (v : Verdict) (out left : List ℕ) (n : ℕ) → CutBy v out (Ok n) left → v ≡ writes (take n left)
unfolding cut_by output_by
written_is (refuses r) out left n c = absurd (let a = c.0 in let z : ◌≡◌ {A = ℕ} 0 1 = cc in omega arith)
written_is (writes s) out left n c =
    let a = c.0 in
    let e : n ≡ length s = cc in
    ap writes (sym (ap (take n) c.1 ∙ placed_start out s n e))

-- ---- what is left where no other refusal applies

pub cut_fitting : (body : List ℕ) (kind extension version number room : ℕ) → Allowed kind extension version → (n : ℕ) → counted_of (length body) ≡ Ok n → number < n
    → cutting body kind extension version number room ≡ cut_if_room room (section_of body kind extension version number)
unfolding cutting
cut_fitting body kind extension version number room a n e h =
    let c = counted_some (length body) n e in
    simp (
      a.kind_of,
      le-leb version 31 a.version_high,
      le-leb extension 0xFFFF a.extension_high,
      ne_eqb (length body) 0 (omega arith),
      le-ltb body_most (length body) c.2,
      lt-leb (section_count (length body)) number (omega arith),
    )
