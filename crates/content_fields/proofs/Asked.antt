-- The fields asked for of an accepted body are its table's: of the body, of its languages, and of their auxiliary files.
use Prim.Native.Nat.{ℕ, ◌+◌, ◌/◌, ◌≤◌, ◌<◌}
use Rattle.std.specs.Prelude.{Ok}
use mathlib.Core.Path.{◌≡◌, refl, sym, ap, subst, ◌∙◌}
use mathlib.Core.List.{List}
use native.Mathlib.Omega.{arith}
use native.Mathlib.Nat.{zero-add, add-sub_cancel_left, le_refl}
use lib.ListN.{length, get_or, take, drop}
use borrow.Author.Tests.{le-leb, lt-leb, lt-ltb}
use Rattle.ground_refusal.specs.declared.Refusal.TheVariants.{LeftOver, PastPart}
use Rattle.body_formats.specs.Reading.{found}
use Rattle.body_formats.specs.Format.{number, among, bytes_among, reserved, ◌▷◌, repeat, list_of, exact, view, length_of, opaque}
use Rattle.body_formats.specs.Identifier.{identifier}
use Rattle.body_formats.specs.Body.{reading}
use Rattle.body_formats.specs.Answers.{part_of}
use Rattle.body_formats.proofs.Classes.{Bytes, Filling}
use Rattle.body_formats.proofs.Parts.{view_lawful, exact_filling}
use Rattle.body_formats.proofs.Elements.{exact_found, view_found, followed_found, list_found}
use Rattle.body_formats.proofs.Identifiers.{identifier_sized, identifier_bytes_lem, identifier_many}
use Rattle.body_formats.proofs.RoundTrips as trips
use Rattle.body_asking.specs.Asking.{headed_part, nth_of}
use Rattle.body_asking.specs.Agreement.{FillsAt}
use Rattle.body_asking.proofs.Sizes.{among_sized, number_sized, bytes_are, bytes_sized, reserved_sized, next}
use Rattle.body_asking.proofs.Answers.{asked}
use Rattle.body_asking.proofs.Entries.{entry_found, nth_past, all_same}
use Rattle.body_asking.proofs.Parts.{bytes_hold, digit_there, digit_past}
use Rattle.body_asking.proofs.Turns.{ReadAt, read_in_turn, opaque_fills_at, follows_length}
use Rattle.content.specs.Content.{content_kind, Auxiliary, auxiliary, auxiliaries, Language, LanguageFields, language_fields, language, Content, Fields, fields, content}
use Rattle.content.proofs.Lawful.{language_fields_lawful, content_filling}
use Rattle.content_fields.specs.Agreement.{AuxiliaryAsked, FieldsAsked, NoLanguage, LanguageAsked, ContentAsked}
use Rattle.body_extension.specs.Extension.{extension_at}
use Rattle.content_fields.specs.Asked.{identifier_part, identifier_digit, extension, languages_counted, language_count, language_part, signature_part, letters_part, character_set, text_in, agency_in, auxiliaries_in, text_part, agency_part, auxiliary_count, type_in, auxiliary_type, auxiliary_part}

-- ---- a language that begins at `at` and has n bytes

abbrev named : LanguageFields → Language
named x = record { letters = x.0; character_set = x.1.0; text = x.1.1.0; agency = x.1.1.1.0; auxiliaries = x.1.1.1.1 }

abbrev unnamed : Language → LanguageFields
unnamed v = (v.letters, (v.character_set, (v.text, (v.agency, v.auxiliaries))))

module _ (w : ℕ) (s : List ℕ) (at n : ℕ) (b : Bytes s) (there : at + n ≤ length s) (x : LanguageFields)
    (e : (language_fields w).parse s (at + n) at ≡ found x (at + n)) where
  abbrev fs : List Auxiliary
  fs = x.1.1.1.1

  -- one after the other: the letters, the character set, the text, the agency, the auxiliary files
  parts : ((bytes_among 0x61 0x7A 3).parse s (at + n) at ≡ found x.0 (at + 3)) × ((among 0 4 (reserved 5 0)).parse s (at + n) (at + 3) ≡ found x.1.0 (at + 4))
      × (t : ℕ) × ((opaque 2).parse s (at + n) (at + 4) ≡ found x.1.1.0 t) × (a : ℕ) × ((opaque 1).parse s (at + n) t ≡ found x.1.1.1.0 a)
      × ((auxiliaries w).parse s (at + n) a ≡ found fs (at + n))
  unfolding language_fields
  parts =
      let l = at + n in
      let f = next (bytes_among 0x61 0x7A 3) _ 3 (bytes_sized 0x61 0x7A 3) s l at (at + 3) x l refl e in
      let g = next (among 0 4 (reserved 5 0)) _ 1 (among_sized 0 4 (reserved 5 0) 1 (reserved_sized 5 0)) s l (at + 3) (at + 4) x.1 l (omega arith) f.1 in
      let h = followed_found (opaque 2) _ s l (at + 4) x.1.1 l g.1 in
      let k = followed_found (opaque 1) (auxiliaries w) s l h.0 x.1.1.1 l h.2 in
      (f.0, g.0, h.0, h.1, k.0, k.1, k.2)

  text_found : text_in s at n ≡ found x.1.1.0 parts.2
  unfolding text_in
  text_found = asked s at n (opaque 2) 4 x.1.1.0 parts.2 there parts.3

  agency_found : agency_in s at n ≡ found x.1.1.1.0 parts.4
  unfolding agency_in
  agency_found = rw text_found parts.5

  -- where the first auxiliary file begins
  abbrev files : ℕ
  files = at + 8 + length x.1.1.0 + length x.1.1.1.0

  -- the text and the agency end where their bytes do
  text_there : FillsAt s (at + 6) (part_of ((opaque 2).parse s (at + n) (at + 4))) x.1.1.0 × (at + 6 + length x.1.1.0 ≡ parts.2)
  text_there = opaque_fills_at s b (at + n) there 2 (at + 4) (at + 6) (omega arith) x.1.1.0 parts.2 parts.3

  agency_there : FillsAt s (at + 7 + length x.1.1.0) (part_of ((opaque 1).parse s (at + n) parts.2)) x.1.1.1.0 × (parts.4 + 1 ≡ files)
  agency_there =
      let begins : at + 7 + length x.1.1.0 ≡ parts.2 + 1 = omega (arith, text_there.1) in
      let g = opaque_fills_at s b (at + n) there 1 parts.2 (at + 7 + length x.1.1.0) begins x.1.1.1.0 parts.4 parts.5 in
      (g.0, omega (arith, g.1))

  files_found : (auxiliaries_in s at n ≡ found (length fs) files) × (repeat ((auxiliary w).parse s (at + n)) (length fs) files ≡ found fs (at + n))
  unfolding auxiliaries_in auxiliaries
  files_found =
      let l = at + n in
      let f = list_found (among 0 2 (reserved 4 0)) (auxiliary w) s l parts.4 fs l parts.6 in
      let z : f.0 ≡ files = among_sized 0 2 (reserved 4 0) 1 (reserved_sized 4 0) s l parts.4 (length fs) f.0 f.1 ∙ agency_there.1 in
      (rw agency_found (f.1 ∙ ap (found (length fs)) z), ap (repeat ((auxiliary w).parse s l) (length fs)) (sym z) ∙ f.2)

  -- an auxiliary file is an entry, and the i-th one is found after those before it
  same : (p : ℕ) (a : Auxiliary) (r : ℕ) → (auxiliary w).parse s (at + n) p ≡ found a r
      → (y : List ℕ × List ℕ) × ((headed_part 1 w).parse s (at + n) p ≡ found y r)
  unfolding auxiliary
  same p a r h =
      let v = view_found _ _ (number 1 ▷ opaque w) s (at + n) p a r h in
      let f = followed_found (number 1) (opaque w) s (at + n) p v.0 r v.1 in
      ((take 1 (drop p s), v.0.1), entry_found s (at + n) p 1 w v.0.0 f.0 f.1 v.0.1 r f.2)

  module _ (i p r : ℕ) (ys : List (List ℕ × List ℕ)) (t : nth_of (headed_part 1 w) (length fs) i s (at + n) files ≡ found ys p) where
    file_fields : (y : ℕ × List ℕ) → (number 1 ▷ opaque w).parse s (at + n) p ≡ found y r
        → AuxiliaryAsked w s at n i (record { type = y.0; bytes = y.1 }) p r
    unfolding auxiliary_type auxiliary_part type_in
    file_fields y h =
        let f = next (number 1) (opaque w) 1 (number_sized 1) s (at + n) p (p + 1) y r refl h in
        let g = opaque_fills_at s b (at + n) there w (p + 1) (p + 1 + w) refl y.1 r f.1 in
        record { type_is = rw (files_found.0, t, f.0); bytes_fill = rw (files_found.0, t, f.0) g.0; ends = g.1 }

    file_asked : (a : Auxiliary) → (auxiliary w).parse s (at + n) p ≡ found a r → AuxiliaryAsked w s at n i a p r
    unfolding auxiliary
    file_asked a h =
        let v = view_found _ _ (number 1 ▷ opaque w) s (at + n) p a r h in
        subst (λ (y : Auxiliary). AuxiliaryAsked w s at n i y p r) v.2 (file_fields v.0 v.1)

  file_read : (i : ℕ) (a : Auxiliary) (p r : ℕ) → ReadAt (auxiliary w) (headed_part 1 w) s (at + n) (length fs) files i a p r → AuxiliaryAsked w s at n i a p r
  unfolding nth_of
  file_read i a p r h = file_asked i p r h.before (rw (lt-ltb i (length fs) h.among) h.passed) a h.here

  fields_asked : FieldsAsked w s at n (named x)
  unfolding letters_part character_set text_part agency_part auxiliary_count auxiliary_type auxiliary_part type_in text_in agency_in
  fields_asked =
      let room = le-leb (at + n) (length s) there in
      record {
        letters_are = rw (room, parts.0, add-sub_cancel_left at 3);
        letters_bytes = (bytes_are 0x61 0x7A 3 s (at + n) at x.0 (at + 3) parts.0).0;
        character_set_is = rw (asked s at n (among 0 4 (reserved 5 0)) 3 x.1.0 (at + 4) there parts.1);
        text_fills = rw room text_there.0;
        agency_fills = rw text_found agency_there.0;
        auxiliaries_counted = rw files_found.0;
        auxiliaries_asked = read_in_turn (auxiliary w) (headed_part 1 w) s (at + n) same files fs (at + n) files_found.1 (AuxiliaryAsked w s at n) file_read;
        type_past = λ i h. rw (files_found.0, nth_past (headed_part 1 w) (length fs) i s (at + n) files h);
        auxiliary_past = λ i h. rw (files_found.0, nth_past (headed_part 1 w) (length fs) i s (at + n) files h);
      }

-- a part that does not lie in the body has none of them
no_language : (w : ℕ) (s : List ℕ) (at n : ℕ) → length s < at + n → NoLanguage w s at n
unfolding letters_part character_set text_in text_part agency_in agency_part auxiliaries_in auxiliary_count type_in auxiliary_type auxiliary_part
no_language w s at n h =
    let t = lt-leb (at + n) (length s) h in
    record {
      no_letters = rw t;
      no_character_set = rw t;
      no_text = rw t;
      no_agency = rw t;
      no_auxiliary_count = rw t;
      no_auxiliary_type = λ i. rw t;
      no_auxiliary = λ i. rw t;
    }

-- ---- the table

inner_filling : (w : ℕ) → Filling (exact PastPart (view named unnamed (language_fields w)))
inner_filling w = exact_filling PastPart _ (view_lawful named unnamed _ (λ a. refl) (λ v. refl) (language_fields_lawful w))

module _ (w : ℕ) (s : List ℕ) (b : Bytes s) where
  same_end : (p : ℕ) (v : Language) (r : ℕ) → (language w).parse s (length s) p ≡ found v r → (xs : List ℕ) × ((opaque 4).parse s (length s) p ≡ found xs r)
  unfolding language
  same_end p v r h = bytes_hold (length_of 4) _ (inner_filling w) s b (length s) p v r h

  module _ (x : Fields) (q : ℕ) (e : (fields w).parse s (length s) 0 ≡ found x q) where
    -- the identifier, the languages with their count, the signature
    three : (identifier.parse s (length s) 0 ≡ found x.0 18) × (languages_counted.parse s (length s) 18 ≡ found (length x.1.0) 19)
        × (r : ℕ) × (repeat ((language w).parse s (length s)) (length x.1.0) 19 ≡ found x.1.0 r) × ((opaque 2).parse s (length s) r ≡ found x.1.1 q)
    unfolding fields
    three =
        let l = length s in
        let vs = x.1.0 in
        let f = next identifier _ 18 identifier_sized s l 0 18 x q refl e in
        let g = followed_found (list_of languages_counted (language w)) (opaque 2) s l 18 x.1 q f.1 in
        let h = list_found languages_counted (language w) s l 18 vs g.0 g.1 in
        let z : h.0 ≡ 19 = among_sized 1 5 (reserved 4 0) 1 (reserved_sized 4 0) s l 18 (length vs) h.0 h.1 in
        (f.0, h.1 ∙ ap (found (length vs)) z, g.0, ap (repeat ((language w).parse s l) (length vs)) (sym z) ∙ h.2, g.2)

    language_read : (i : ℕ) (v : Language) (p r : ℕ) → ReadAt (language w) (opaque 4) s (length s) (length x.1.0) 19 i v p r → LanguageAsked w s i v p r
    unfolding language language_part nth_of
    language_read i v p r h =
        let g = follows_length 4 _ (inner_filling w) s b p v r h.here in
        let at = p + 4 in
        let l = at + g.0 in
        let f = view_found named unnamed (language_fields w) s l at v l (exact_found PastPart _ s l at v l g.2).0 in
        let inside : l ≤ length s = omega (arith, g.1.ends, g.1.in_body_lem) in
        record {
          size = g.0;
          part_follows = rw (three.1, lt-ltb i (length x.1.0) h.among, h.passed) g.1;
          fields_asked = subst (FieldsAsked w s at g.0) f.2 (fields_asked w s at g.0 b inside f.0 f.1);
        }

    table_fields : ContentAsked w s (record { identifier = x.0; languages = x.1.0; signature = x.1.1 })
    unfolding identifier_part identifier_digit extension extension_at language_count language_part signature_part list_of
    table_fields =
        let l = length s in
        let vs = x.1.0 in
        let thirty_five = identifier_many s l 0 x.0 18 three.0 b in
        record {
          identifier_is = rw three.0;
          identifier_bytes_lem = identifier_bytes_lem s l 0 x.0 18 three.0 b;
          identifier_digits = λ i h.
              digit_there identifier s l 0 x.0 18 three.0 i (omega (arith, thirty_five)) ∙ ap (λ b. Ok (get_or x.0 i 0, b)) (zero-add ((i + 1) / 2));
          identifier_past = λ i h. digit_past identifier s l 0 x.0 18 three.0 i (omega (arith, thirty_five));
          extension_is = rw three.0;
          languages_counted_lem = rw three.1;
          languages_end = three.2;
          languages_asked = read_in_turn (language w) (opaque 4) s l same_end 19 vs three.2 three.3 (LanguageAsked w s) language_read;
          language_past = λ i h. rw (three.1, nth_past (opaque 4) (length vs) i s l 19 h);
          signature_fills = rw (three.1, (all_same (language w) (opaque 4) s l same_end (length vs) 19 vs three.2 three.3).1)
              (opaque_fills_at s b l (le_refl l) 2 three.2 (three.2 + 2) refl x.1.1 q three.4).0;
          language_outside = no_language w s;
        }

pub content_asked : (w kind : ℕ) (s : List ℕ) → Bytes s → (c : Content) (q : ℕ)
    → reading (content w) content_kind kind s ≡ found c q → ContentAsked w s c
unfolding content
content_asked w kind s b c q e =
    let a = trips.accepted (content w) (content_filling w) content_kind kind s b c q e in
    let x = exact_found LeftOver _ s (length s) 0 c q a.2 in
    let v = view_found _ _ (fields w) s (length s) 0 c q x.0 in
    subst (ContentAsked w s) v.2 (table_fields w s b v.0 q v.1)
