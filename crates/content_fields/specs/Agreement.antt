-- What a reader has to believe of the fields asked for of an accepted content table: each is the table's own, and what isn't there is refused.
use Rattle.std.specs.Prelude.{ℕ, ◌+◌, ◌/◌, ◌≤◌, ◌<◌, ◌≡◌, List, length, get_or, take, drop, Ok}
use Rattle.body_asking.specs.Agreement.{NoNumberThere, NoPartThere, FillsAt, FollowsLength, InTurn}
use Rattle.body_formats.specs.Identifier.{identifier}
use Rattle.body_extension.specs.Extension.{extension_of}
use Rattle.content.specs.Content.{Auxiliary, Language, language, Content}
use Rattle.content_fields.specs.Asked.{identifier_part, identifier_digit, extension, language_count, language_part, signature_part, letters_part, character_set, text_part, agency_part, auxiliary_count, auxiliary_type, auxiliary_part}

-- "Every field of an accepted table can be asked for, opaque bytes as the part of the body they fill; one that isn't there is 19, place 0":
-- a number is answered with the position after it, a digit with that of its byte, a part with where it begins and how many bytes it has.
-- The length of an auxiliary file has w bytes.

-- ---- a language that begins at `at` and has n bytes

-- auxiliary file number i stands from p to q: "type 8 (free), length 24, data"
pub record AuxiliaryAsked (w : ℕ) (s : List ℕ) (at n i : ℕ) (a : Auxiliary) (p q : ℕ) : Type 0 where
  pub type_is : auxiliary_type w s at n i ≡ Ok (a.type, p + 1)
  pub bytes_fill : FillsAt s (p + 1 + w) (auxiliary_part w s at n i) a.bytes
  pub ends : p + 1 + w + length a.bytes ≡ q

pub record FieldsAsked (w : ℕ) (s : List ℕ) (at n : ℕ) (v : Language) : Type 0 where
  pub letters_are : letters_part s at n ≡ Ok (at, 3)
  pub letters_bytes : take 3 (drop at s) ≡ v.letters
  pub character_set_is : character_set s at n ≡ Ok (v.character_set, at + 4)
  -- the text follows its length of two bytes, the agency its length of one
  pub text_fills : FillsAt s (at + 6) (text_part s at n) v.text
  pub agency_fills : FillsAt s (at + 7 + length v.text) (agency_part s at n) v.agency
  -- the auxiliary files stand one after the other, from their count to the end of the language
  pub auxiliaries_counted : auxiliary_count s at n ≡ Ok (length v.auxiliaries, at + 8 + length v.text + length v.agency)
  pub auxiliaries_asked : InTurn (AuxiliaryAsked w s at n) 0 v.auxiliaries (at + 8 + length v.text + length v.agency) (at + n)
  pub type_past : (i : ℕ) → length v.auxiliaries ≤ i → NoNumberThere (auxiliary_type w s at n i)
  pub auxiliary_past : (i : ℕ) → length v.auxiliaries ≤ i → NoPartThere (auxiliary_part w s at n i)

pub record NoLanguage (w : ℕ) (s : List ℕ) (at n : ℕ) : Type 0 where
  pub no_letters : NoPartThere (letters_part s at n)
  pub no_character_set : NoNumberThere (character_set s at n)
  pub no_text : NoPartThere (text_part s at n)
  pub no_agency : NoPartThere (agency_part s at n)
  pub no_auxiliary_count : NoNumberThere (auxiliary_count s at n)
  pub no_auxiliary_type : (i : ℕ) → NoNumberThere (auxiliary_type w s at n i)
  pub no_auxiliary : (i : ℕ) → NoPartThere (auxiliary_part w s at n i)

-- language number i stands from p to q: its length of four bytes, and then its part
pub record LanguageAsked (w : ℕ) (s : List ℕ) (i : ℕ) (v : Language) (p q : ℕ) : Type 0 where
  pub size : ℕ
  pub part_follows : FollowsLength 4 s (language_part s i) ((language w).print v) p size q
  pub fields_asked : FieldsAsked w s (p + 4) size v

-- ---- the table c of the body s

pub record ContentAsked (w : ℕ) (s : List ℕ) (c : Content) : Type 0 where
  pub identifier_is : identifier_part s ≡ Ok (0, 18)
  pub identifier_bytes_lem : take 18 s ≡ identifier.print c.identifier
  pub identifier_digits : (i : ℕ) → i < 35 → identifier_digit s i ≡ Ok (get_or c.identifier i 0, (i + 1) / 2)
  pub identifier_past : (i : ℕ) → 35 ≤ i → NoNumberThere (identifier_digit s i)
  pub extension_is : extension s ≡ Ok (extension_of c.identifier, 18)
  pub languages_counted_lem : language_count s ≡ Ok (length c.languages, 19)
  -- the languages stand one after the other from byte 19 on, and where the last one ends stands the length of the signature
  pub languages_end : ℕ
  pub languages_asked : InTurn (LanguageAsked w s) 0 c.languages 19 languages_end
  pub language_past : (i : ℕ) → length c.languages ≤ i → NoPartThere (language_part s i)
  pub signature_fills : FillsAt s (languages_end + 2) (signature_part s) c.signature
  -- nothing is there in a part that does not lie in the body
  pub language_outside : (at n : ℕ) → length s < at + n → NoLanguage w s at n
