-- Laws of what a packet gives and leaves: each way out of the functions that plan it, and how many bytes a plan gives.
use Prim.Native.Nat.{ℕ, ◌+◌, ◌-◌, ◌≤◌, ◌<◌}
use mathlib.Core.Bool.{true, false}
use mathlib.Core.List.{List, [], ◌∷◌, ◌++◌, append_assoc, append-nil}
use mathlib.Core.Path.{◌≡◌, refl, sym, ap, ap₂, ◌∙◌, subst}
use native.Mathlib.Nat.{sub_self}
use native.Mathlib.Omega.{arith}
use lib.ListN.{length, take, drop, length-append, length-take, length-drop, drop_of_length-le}
use lib.Seq.{length-take-le, take-length, take-take, drop-drop}
use Rattle.std.specs.Prelude.{if◌then◌else◌}
use Rattle.packet.specs.Sizes.{packet_bytes}
use Rattle.packet.specs.Fields.{starts, payload_at, pointed_at}
use Rattle.packet_frames.specs.declared.Frame.TheVariants.{Nothing, Whole, Open}
use Rattle.packet_frames.specs.declared.Scan.{Scan}
use Rattle.packet_frames.specs.Framing.{nothing, gone_on, begun, joined}
use Rattle.packet_frames.specs.Found.{Scanned, Grown}
use Rattle.packet_frames.proofs.Frames.{tail}
use Rattle.packet_plan.specs.declared.Plan.{Plan}
use Rattle.packet_plan.specs.Reading.{ended, ahead, read_on}
use Rattle.packet_plan.specs.Plans.{piece, given, Planned, Unpointed, Pointed}

-- ---- pieces

pub piece_none : (a : ℕ) (p : List ℕ) → piece a a p ≡ []
unfolding piece
piece_none a p = rw (sub_self a)

pub piece_add : (a n : ℕ) (p : List ℕ) → piece a (a + n) p ≡ take n (drop a p)
unfolding piece
piece_add a n p = ap (λ (m : ℕ). take m (drop a p)) less
  where
    less : a + n - a ≡ n
    less = omega arith

pub piece_length : (a b : ℕ) (p : List ℕ) → a ≤ b → b ≤ length p → length (piece a b p) ≡ b - a
unfolding piece
piece_length a b p h k = length-take-le (b - a) (drop a p) (let q = length-drop a p in omega arith)

pub joined_append : (ss ts : List (List ℕ)) → joined (ss ++ ts) ≡ joined ss ++ joined ts
unfolding joined
joined_append [] ts = refl
joined_append (s ∷ ss) ts = ap (λ l. s ++ l) (joined_append ss ts) ∙ sym (append_assoc s (joined ss) (joined ts))

-- how many bytes a plan gives
pub given_length : (u p : List ℕ) (n : Plan) → Planned u p n
    → length (joined (read_on u p).sections) ≡ n.ended + (n.upto - n.from) + (n.stop - n.first)
unfolding given
given_length u p n v =
    ap length v.sections
    ∙ length-append (take n.ended u ++ piece n.from n.upto p) (piece n.first n.stop p)
    ∙ ap₂ (λ (x y : ℕ). x + y)
    (length-append (take n.ended u) (piece n.from n.upto p)
    ∙ ap₂ (λ (x y : ℕ). x + y) (length-take-le n.ended u v.ended) (piece_length n.from n.upto p v.begins v.upto))
    (piece_length n.first n.stop p v.first v.stop)

-- nothing is given
given_none : (a : ℕ) (n : Plan) (u p : List ℕ) → n.ended ≡ 0 → n.from ≡ a → n.upto ≡ a → n.first ≡ a → n.stop ≡ a → [] ≡ given n u p
unfolding given
given_none a n u p e f g h i = rw (e, f, g, h, i, piece_none a p)

-- ---- without a start indicator

module _ (u p : List ℕ) (at : ℕ) (v : Unpointed u p at) where
  -- the payload, as the part that is lent
  rest : List ℕ
  rest = take (length p - at) (drop at p)

  on_read : read_on u p ≡ gone_on u rest
  unfolding read_on rest
  on_read = rw (v.plain, tail p at, v.is)

  pub plan_on_nothing : Grown u (take (length p - at) (drop at p)) Nothing
      → Planned u p (record { ended = 0; from = at; upto = at; first = at; stop = at; goes = 0; left = packet_bytes })
  unfolding joined nothing rest
  plan_on_nothing g =
      let s = v.size in
      let h = v.within in
      record {
        ended = omega arith;
        begins = omega arith;
        upto = omega arith;
        first = omega arith;
        stop = omega arith;
        goes = omega arith;
        left = omega arith;
        sections = ap (λ r. joined r.sections) (on_read ∙ g) ∙ given_none at _ u p refl refl refl refl refl;
        unfinished = ap (λ r. r.unfinished) (on_read ∙ g) ∙ sym (drop_of_length-le p {i = packet_bytes} (omega arith));
      }

  pub plan_on_open : Grown u (take (length p - at) (drop at p)) Open
      → Planned u p (record { ended = 0; from = at; upto = at; first = at; stop = at; goes = length u; left = at })
  unfolding joined rest
  plan_on_open g =
      let s = v.size in
      let h = v.within in
      record {
        ended = omega arith;
        begins = omega arith;
        upto = omega arith;
        first = omega arith;
        stop = omega arith;
        goes = omega arith;
        left = omega arith;
        sections = ap (λ r. joined r.sections) (on_read ∙ g) ∙ given_none at _ u p refl refl refl refl refl;
        unfinished = ap (λ r. r.unfinished) (on_read ∙ g) ∙ ap₂ ◌++◌ (sym (take-length u)) (tail p at);
      }

  pub plan_on_whole : (n : ℕ) → Grown u (take (length p - at) (drop at p)) (Whole n)
      → Planned u p (record { ended = length u; from = at; upto = at + (n - length u); first = at; stop = at; goes = 0; left = packet_bytes })
  unfolding joined given rest
  plan_on_whole n g =
      let s = v.size in
      let h = v.within in
      let l = length-drop at p in
      let t = ap length (tail p at) in
      let a = g.1 in
      let b = g.2 in
      record {
        ended = omega arith;
        begins = omega arith;
        upto = omega arith;
        first = omega arith;
        stop = omega arith;
        goes = omega arith;
        left = omega arith;
        sections =
            ap (λ r. joined r.sections) (on_read ∙ g.0)
            ∙ rw (tail p at, piece_add at (n - length u) p, piece_none at p, take-length u);
        unfinished = ap (λ r. r.unfinished) (on_read ∙ g.0) ∙ sym (drop_of_length-le p {i = packet_bytes} (omega arith));
      }

-- ---- with a pointer

module _ (u p : List ℕ) (at first : ℕ) (v : Pointed u p at first) (found : Scan) (c : Scanned (take (length p - first) (drop first p)) found) where
  pointed_read : read_on u p ≡ ended u (take (first - at) (drop at p)) (drop first p)
  unfolding read_on ahead
  pointed_read = rw (v.begins, v.is, v.points)

  -- the bytes given of the unfinished section, whatever they are, and then the sections from the pointer on
  pub plan_pointed : (n upto : ℕ) → n ≤ length u → at ≤ upto → upto ≤ first
      → joined (gone_on u (take (first - at) (drop at p))).sections ≡ take n u ++ piece at upto p
      → Planned u p
      (record { ended = n; from = at; upto = upto; first = first; stop = first + found.stop; goes = 0; left = first + found.left })
  unfolding ended given
  plan_pointed n upto i j l q =
      let w : Scanned (drop first p) found = subst (λ d. Scanned d found) (tail p first) c in
      let d = length-drop first p in
      let s = v.size in
      let k = v.within in
      let x = w.within in
      let y = w.left_within in
      record {
        ended = i;
        begins = j;
        upto = omega arith;
        first = omega arith;
        stop = omega arith;
        goes = omega arith;
        left = omega arith;
        sections =
            ap (λ r. joined r.sections) pointed_read
            ∙ joined_append (gone_on u (take (first - at) (drop at p))).sections (begun (drop first p)).sections
            ∙ ap₂ ◌++◌ q (w.sections ∙ sym (piece_add first found.stop p));
        unfinished = ap (λ r. r.unfinished) pointed_read ∙ w.unfinished ∙ drop-drop found.left first p;
      }

  -- nothing of it: it is dropped, or there is none
  pub plan_pointed_none : joined (gone_on u (take (first - at) (drop at p))).sections ≡ []
      → Planned u p
      (record { ended = 0; from = at; upto = at; first = first; stop = first + found.stop; goes = 0; left = first + found.left })
  plan_pointed_none e = plan_pointed 0 at (omega arith) (omega arith) v.follows (e ∙ sym (piece_none at p))

  pub plan_pointed_nothing : Grown u (take (first - at) (drop at p)) Nothing
      → Planned u p
      (record { ended = 0; from = at; upto = at; first = first; stop = first + found.stop; goes = 0; left = first + found.left })
  unfolding nothing joined
  plan_pointed_nothing g = plan_pointed_none (ap (λ r. joined r.sections) g)

  pub plan_pointed_open : Grown u (take (first - at) (drop at p)) Open
      → Planned u p
      (record { ended = 0; from = at; upto = at; first = first; stop = first + found.stop; goes = 0; left = first + found.left })
  unfolding joined
  plan_pointed_open g = plan_pointed_none (ap (λ r. joined r.sections) g)

  pub plan_pointed_whole : (n : ℕ) → Grown u (take (first - at) (drop at p)) (Whole n)
      → Planned u p
      (record {
        ended = length u;
        from = at;
        upto = at + (n - length u);
        first = first;
        stop = first + found.stop;
        goes = 0;
        left = first + found.left;
      })
  unfolding joined
  plan_pointed_whole n g =
      let a = g.1 in
      let b = g.2 in
      let h = v.follows in
      let t = length-take (first - at) (drop at p) in
      plan_pointed (length u) (at + (n - length u)) (omega arith) (omega arith) (omega arith)
      (ap (λ r. joined r.sections) g.0
      ∙ append-nil (u ++ take (n - length u) (take (first - at) (drop at p)))
      ∙ ap₂ ◌++◌ (sym (take-length u))
      (take-take (n - length u) (first - at) (drop at p) (omega arith) ∙ sym (piece_add at (n - length u) p)))
