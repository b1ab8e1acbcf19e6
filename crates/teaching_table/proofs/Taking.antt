-- Laws of one string more: what it makes of the fixed table, by the code's tests.
use Prim.Native.Nat.{ℕ, ◌<◌}
use Rattle.std.specs.Prelude.{Option, Some, None}
use mathlib.Core.Path.{◌≡◌}
use mathlib.Core.Bool.{Bool, true, false}
use mathlib.Core.List.{List}
use Rattle.section_reader.specs.declared.Heading.{Heading}
use Rattle.gathering_tables.specs.Tables.{is_newer}
use Rattle.gathering_account.specs.Account.{heard}
use Rattle.teaching_questions.specs.Questions.{said}
use Rattle.teaching_questions.proofs.Saying.{Current, said_nothing}
use Rattle.teaching_table.specs.Table.{begins_in, fixed_after, Versioned}

-- ---- beginning

pub begins_first : (f : Option (Heading × ℕ)) (h : Heading) → f ≡ None → true ≡ begins_in f h
unfolding begins_in
begins_first f h e = rw e

pub begins_newer : (f : Option (Heading × ℕ)) (h t : Heading) (from : ℕ) → f ≡ Some (t, from) → (x : Bool) → x ≡ is_newer t h → x ≡ begins_in f h
unfolding begins_in
begins_newer f h t from e x q = rw e q

pub table_versioned : (f : Option (Heading × ℕ)) (t : Heading) (from : ℕ) → f ≡ Some (t, from) → Versioned f → t.version < 256
unfolding Versioned
table_versioned f t from e v = rw e at v

-- ---- after one string more

module _ (room : ℕ → Bool) (f : Option (Heading × ℕ)) (at : ℕ) (s : List ℕ) where
  pub after_nothing : said (heard s) ≡ None → f ≡ fixed_after room f at (heard s)
  unfolding fixed_after
  after_nothing e = rw (said_nothing s e)

  module _ (h : Heading) (c : Current s h) where
    pub after_other : begins_in f h ≡ false → f ≡ fixed_after room f at (heard s)
    unfolding fixed_after
    after_other b = rw (c.is, b)

    pub after_short : begins_in f h ≡ true → room h.last ≡ false → f ≡ fixed_after room f at (heard s)
    unfolding fixed_after
    after_short b r = rw (c.is, b, r)

    pub after_begun : begins_in f h ≡ true → room h.last ≡ true → Some (h, at) ≡ fixed_after room f at (heard s)
    unfolding fixed_after
    after_begun b r = rw (c.is, b, r)
