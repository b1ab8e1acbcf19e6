-- What a read put behind the bytes that stand in the buffer stands there with them.
use Rattle.std.proofs.Common.{◌≡◌, ℕ, ◌+◌, ◌≤◌, List, ◌++◌, Option, rules, length, take, drop, sym, ap, ◌∙◌, subst, le_refl, drop_at, length-take-le}
use Rattle.std.proofs.lemmas.Slice.{take-put_mid_below}
use Rattle.std.specs.Io.KnownBytes.{Consumes}
use Rattle.std.proofs.KnownBytes.{Consumes-trans}
use borrow.Rule.Slice.PartMut.{put_mid, post_of}
use lib.Seq.{take-add, take-append-le}
use Rattle.program_reading.proofs.read_full.Goals as goal

-- the bytes before a read, and behind them those that it put there
more_bytes : (at room n : ℕ) (xs ys : List ℕ) → at ≤ length xs → n ≤ length ys → take at xs ++ take n ys ≡ take (at + n) (put_mid at room xs ys)
more_bytes at room n xs ys within fits =
    let put = put_mid at room xs ys in
    let behind : take n (drop at put) ≡ take n ys =
    ap (take n) (drop_at (take at xs) (ys ++ post_of at room xs) at (length-take-le at xs within)) ∙ take-append-le n ys (post_of at room xs) fits in
    let front : take at put ≡ take at xs = take-put_mid_below _ _ _ _ _ (le_refl _) within in
    ap (λ l. l ++ take n ys) (sym front) ∙ ap (λ l. take at put ++ l) (sym behind) ∙ sym (take-add at n put)

more_read : (p r : Option (List ℕ)) (at n room : ℕ) (xs ys : List ℕ) (q : Option (List ℕ)) → Consumes p q (take at xs) → Consumes q r (take n ys)
    → at ≤ length xs → n ≤ length ys → Consumes p r (take (at + n) (put_mid at room xs ys))
more_read p r at n room xs ys q earlier now within fits =
    subst (Consumes p r) (more_bytes at room n xs ys within fits) (Consumes-trans p q r _ _ earlier now)

pub loop-length-preserved : goal.loop-length-preserved
loop-length-preserved g c =
    (search rules, search rules, more_read _ _ c.loop-length.length _ _ c.loop-length.into _ _ c.loop-length.invariant.2 (search rules) c.loop-length.invariant.1 (search rules))
