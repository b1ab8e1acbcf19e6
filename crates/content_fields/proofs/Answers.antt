-- What the fields asked for answer, a law for each way through.
use Prim.Native.Nat.{ℕ, ◌+◌, ◌≤◌}
use Rattle.std.specs.Prelude.{Ok, Err}
use mathlib.Core.Path.{◌≡◌, ◌∙◌}
use mathlib.Core.List.{List}
use lib.ListN.{length}
use Rattle.ground_refusal.specs.declared.Refusal.{Refusal}
use Rattle.body_formats.specs.Reading.{found}
use Rattle.body_formats.specs.Format.{among, reserved, repeat, list_of, opaque}
use Rattle.body_formats.specs.Answers.{step_of, number_of, ended_all, number_read, part_read}
use Rattle.body_formats.proofs.Outcomes.{and_then_found}
use Rattle.body_formats.proofs.Classes as classes
use Rattle.body_formats.proofs.Readers.{number_found, number_refused, opaque_found}
use Rattle.body_asking.specs.Asking.{headed_part, nth_of}
use Rattle.body_asking.proofs.Answers.{count_number, found_in, part_refused, part_found, step_refused, step_found}
use Rattle.body_asking.proofs.Entries.{all_headless, nth_headless}
use Rattle.content_variant.specs.Variant.{width_of}
use Rattle.content_fields.specs.Asked.{languages_counted, language_count, language_part, signature_part, text_in, agency_in, auxiliaries_in, text_part, agency_part, auxiliary_count, type_in, auxiliary_type, auxiliary_part, variant_type, variant_part}

-- ---- the languages and the signature

module _ (s : List ℕ) where
  module _ (r : Refusal) (e : Err r ≡ language_count s) where
    pub language_no : (i : ℕ) → Err r ≡ language_part s i
    unfolding language_count language_part
    language_no i = rw (number_refused (languages_counted.parse s (length s) 18) r e)

    pub signature_no : Err r ≡ signature_part s
    unfolding language_count signature_part list_of
    signature_no = rw (number_refused (languages_counted.parse s (length s) 18) r e)

  module _ (n q : ℕ) (e : Ok (n, q) ≡ language_count s) where
    counted_there : languages_counted.parse s (length s) 18 ≡ found n q
    unfolding language_count
    counted_there = number_found (languages_counted.parse s (length s) 18) n q e

    pub language_none : (i : ℕ) (r : Refusal) → Err r ≡ step_of (nth_of (headed_part 0 4) n i s (length s) q) → Err r ≡ language_part s i
    unfolding language_part
    language_none i r f = rw (counted_there, step_refused (nth_of (opaque 4) n i s (length s) q) r (f ∙ nth_headless 4 s n i q))

    pub language_is : (i p : ℕ) → Ok p ≡ step_of (nth_of (headed_part 0 4) n i s (length s) q) → part_read 4 s (length s) p ≡ language_part s i
    unfolding language_part part_read
    language_is i p f = rw (counted_there, (step_found (nth_of (opaque 4) n i s (length s) q) p (f ∙ nth_headless 4 s n i q)).1)

    pub signature_none : (r : Refusal) → Err r ≡ ended_all (headed_part 0 4) n s (length s) q → Err r ≡ signature_part s
    unfolding signature_part list_of ended_all
    signature_none r f = rw (counted_there, step_refused (repeat ((opaque 4).parse s (length s)) n q) r (f ∙ all_headless 4 s n q))

    pub signature_is : (p : ℕ) → Ok p ≡ ended_all (headed_part 0 4) n s (length s) q → part_read 2 s (length s) p ≡ signature_part s
    unfolding signature_part list_of ended_all part_read
    signature_is p f = rw (counted_there, (step_found (repeat ((opaque 4).parse s (length s)) n q) p (f ∙ all_headless 4 s n q)).1)

-- ---- a language: what was found in it shows that it lies in the body

module _ (s : List ℕ) (at n : ℕ) where
  text_in_lem : (xs : List ℕ) (q : ℕ) → text_in s at n ≡ found xs q → (at + n ≤ length s) × (length xs ≤ q) × (q ≤ length s)
  unfolding text_in
  text_in_lem xs q e =
      let f = found_in s at n (opaque 2) 4 xs q e in
      let g = opaque_found s (at + n) (at + 4) 2 xs q f.1 in
      (f.0, g.0, g.1)

  agency_in_lem : (xs : List ℕ) (q : ℕ) → agency_in s at n ≡ found xs q → (at + n ≤ length s) × (length xs ≤ q) × (q ≤ length s)
  unfolding agency_in
  agency_in_lem xs q e =
      let f = and_then_found (text_in s at n) _ xs q e in
      let g = opaque_found s (at + n) f.1 1 xs q f.3 in
      ((text_in_lem f.0 f.1 f.2).0, g.0, g.1)

  count_in_lem : (m q : ℕ) → auxiliaries_in s at n ≡ found m q → at + n ≤ length s
  unfolding auxiliaries_in
  count_in_lem m q e =
      let f = and_then_found (agency_in s at n) _ m q e in
      (agency_in_lem f.0 f.1 f.2).0

  -- ---- the agency, after the text

  pub agency_no : (r : Refusal) → Err r ≡ text_part s at n → Err r ≡ agency_part s at n
  unfolding text_part agency_part agency_in
  agency_no r e = rw (part_refused (text_in s at n) r e)

  module _ (a m : ℕ) (e : Ok (a, m) ≡ text_part s at n) where
    text_there : (xs : List ℕ) × (text_in s at n ≡ found xs (a + m))
    unfolding text_part
    text_there = part_found (text_in s at n) a m e (λ xs q f. (text_in_lem xs q f).1)

    pub after_text : (at + n ≤ length s) × (a + m ≤ length s)
    after_text =
        let f = text_in_lem text_there.0 (a + m) text_there.1 in
        (f.0, f.2)

    pub agency_is : part_read 1 s (at + n) (a + m) ≡ agency_part s at n
    unfolding agency_part agency_in part_read
    agency_is = rw text_there.1

  -- ---- the auxiliary count, after the agency

  pub count_no : (r : Refusal) → Err r ≡ agency_part s at n → Err r ≡ auxiliary_count s at n
  unfolding agency_part auxiliary_count auxiliaries_in
  count_no r e = rw (part_refused (agency_in s at n) r e)

  module _ (a m : ℕ) (e : Ok (a, m) ≡ agency_part s at n) where
    agency_there : (xs : List ℕ) × (agency_in s at n ≡ found xs (a + m))
    unfolding agency_part
    agency_there = part_found (agency_in s at n) a m e (λ xs q f. (agency_in_lem xs q f).1)

    pub after_agency : (at + n ≤ length s) × (a + m ≤ length s)
    after_agency =
        let f = agency_in_lem agency_there.0 (a + m) agency_there.1 in
        (f.0, f.2)

    pub count_is : number_of ((among 0 2 (reserved 4 0)).parse s (at + n) (a + m)) ≡ auxiliary_count s at n
    unfolding auxiliary_count auxiliaries_in
    count_is = rw agency_there.1

  -- ---- an auxiliary file, after those before it

  pub type_no : (w i : ℕ) (r : Refusal) → Err r ≡ auxiliary_count s at n → Err r ≡ auxiliary_type w s at n i
  unfolding auxiliary_count auxiliary_type type_in
  type_no w i r e = rw (number_refused (auxiliaries_in s at n) r e)

  module _ (m q : ℕ) (e : Ok (m, q) ≡ auxiliary_count s at n) where
    files_there : auxiliaries_in s at n ≡ found m q
    unfolding auxiliary_count
    files_there = number_found (auxiliaries_in s at n) m q e

    pub after_count : at + n ≤ length s
    after_count = count_in_lem m q files_there

    pub type_none : (w i : ℕ) (r : Refusal) → Err r ≡ step_of (nth_of (headed_part 1 w) m i s (at + n) q) → Err r ≡ auxiliary_type w s at n i
    unfolding auxiliary_type type_in
    type_none w i r f = rw (files_there, step_refused (nth_of (headed_part 1 w) m i s (at + n) q) r f)

    pub type_is : (w i p : ℕ) → classes.Bytes s → Ok p ≡ step_of (nth_of (headed_part 1 w) m i s (at + n) q) → number_read 1 s (at + n) p ≡ auxiliary_type w s at n i
    unfolding auxiliary_type type_in number_read
    type_is w i p b f = rw (files_there, (step_found (nth_of (headed_part 1 w) m i s (at + n) q) p f).1) (count_number 1 s (at + n) p b)

  -- its data, after its type

  module _ (w i : ℕ) where
    pub file_no : (r : Refusal) → Err r ≡ auxiliary_type w s at n i → Err r ≡ auxiliary_part w s at n i
    unfolding auxiliary_type auxiliary_part
    file_no r e = rw (number_refused (type_in w s at n i) r e)

    module _ (t q : ℕ) (e : Ok (t, q) ≡ auxiliary_type w s at n i) where
      type_there : type_in w s at n i ≡ found t q
      unfolding auxiliary_type
      type_there = number_found (type_in w s at n i) t q e

      pub after_type : at + n ≤ length s
      unfolding type_in
      after_type =
          let f = and_then_found (auxiliaries_in s at n) _ t q type_there in
          count_in_lem f.0 f.1 f.2

      pub file_is : part_read w s (at + n) q ≡ auxiliary_part w s at n i
      unfolding auxiliary_part part_read
      file_is = rw type_there

-- ---- an auxiliary file in a table of a variant

module _ (v : ℕ) where
  module _ (w : ℕ) (e : Ok w ≡ width_of v) (s : List ℕ) (at n i : ℕ) where
    pub variant_type_is : auxiliary_type w s at n i ≡ variant_type v s at n i
    unfolding variant_type
    variant_type_is = rw (← e)

    pub variant_part_is : auxiliary_part w s at n i ≡ variant_part v s at n i
    unfolding variant_part
    variant_part_is = rw (← e)

  module _ (r : Refusal) (e : Err r ≡ width_of v) (s : List ℕ) (at n i : ℕ) where
    pub variant_type_no : Err r ≡ variant_type v s at n i
    unfolding variant_type
    variant_type_no = rw (← e)

    pub variant_part_no : Err r ≡ variant_part v s at n i
    unfolding variant_part
    variant_part_no = rw (← e)
