-- What a reader has to believe of formats: how each kind of field is read, printed and laid out for a writer, and how fields are
-- put together.
use Rattle.std.specs.Prelude.{ℕ, zero, suc, ◌+◌, ◌-◌, ◌*◌, ◌/◌, ◌%◌, ◌^◌, List, [], ◌∷◌, ◌++◌, Bool, true, false, not, ◌||◌, ◌&&◌, length, get_or, take, drop, ltb, leb, eqb, if◌then◌else◌}
use Rattle.ground_refusal.specs.declared.Refusal.{Refusal}
use Rattle.ground_refusal.specs.declared.Refusal.TheVariants.{PastPart, ReservedBitZero, DigitAboveNine, OutsideSet}
use Rattle.body_formats.specs.Reading.{Reading, found, and_then, need, Fault, fine, unless, is_fine, judged, within}

-- A format of values A.
-- `parse s l p`: what is read of the body s at p, where the innermost counted part ends at l.
-- `print a`: the bytes of a.
-- `writable a`: a writer refuses no field of a; `tooLarge a`: a count or a length of a is too large for its field (22).
-- `form pool tape k`: what a writer takes from the entry k of a tape of numbers on, with a pool of bytes; a refusal stands at the entry
-- where the refused field begins.
-- `tape a p`: the entries that lay a out, where its bytes stand in the pool from p on.
pub record Format (A : Type 0) : Type 1 where
  pub parse : List ℕ → ℕ → ℕ → Reading A
  pub print : A → List ℕ
  pub writable : A → Bool
  pub too_large : A → Bool
  pub form : List ℕ → List ℕ → ℕ → Reading A
  pub tape : A → ℕ → List ℕ

-- ---- the entries of a tape: where it ends too early, or a span lies outside the pool, the form is malformed (19), at the field's entry

unfoldable pub tape_entry : List ℕ → ℕ → Reading ℕ
tape_entry tape k = need (leb (k + 1) (length tape)) (OutsideSet k) (found (get_or tape k 0) (k + 1))

-- bytes of the pool: where they start, and how many they are
unfoldable pub span : List ℕ → List ℕ → ℕ → Reading (List ℕ)
span pool tape k =
    need (leb (k + 2) (length tape)) (OutsideSet k)
    (need (leb (get_or tape k 0 + get_or tape (k + 1) 0) (length pool)) (OutsideSet k)
    (found (take (get_or tape (k + 1) 0) (drop (get_or tape k 0) pool)) (k + 2)))

-- ---- numbers of w bytes, the high one first

unfoldable pub number_at : List ℕ → ℕ → ℕ → ℕ
number_at s p zero = 0
number_at s p (suc w) = number_at s p w * 256 + get_or s (p + w) 0

unfoldable pub bytes_of : ℕ → ℕ → List ℕ
bytes_of zero x = []
bytes_of (suc w) x = bytes_of w (x / 256) ++ (x % 256 ∷ [])

-- a count or a length: "too large for its field" is 22
unfoldable pub count : ℕ → Format ℕ
count w =
    record {
      parse = λ s l p. within s l p (p + w) (found (number_at s p w) (p + w));
      print = bytes_of w;
      writable = λ x. true;
      too_large = λ x. not (ltb x (256 ^ w));
      form = λ pool tape k. tape_entry tape k;
      tape = λ x p. x ∷ [];
    }

-- ---- values of a stated set

-- F, and then what `fault` says of the value at the field's place
unfoldable pub only : {A : Type 0} → (A → ℕ → Fault) → Format A → Format A
only {A} fault F =
    record {
      parse = λ s l p. and_then (F.parse s l p) (λ a q. judged (fault a p) (found a q));
      print = F.print;
      writable = λ a. F.writable a && is_fine (fault a 0);
      too_large = F.too_large;
      form = λ pool tape k. and_then (F.form pool tape k) (λ a j. judged (fault a k) (found a j));
      tape = F.tape;
    }

-- "19: value outside its stated set"
abbrev pub outside : {A : Type 0} → (A → Bool) → A → ℕ → Fault
outside test a at = unless (test a) (OutsideSet at)

-- a number from lo to hi
abbrev pub among : ℕ → ℕ → Format ℕ → Format ℕ
among lo hi F = only (outside (λ x. leb lo x && leb x hi)) F

-- any number of w bytes
unfoldable pub number : ℕ → Format ℕ
number w = only (outside (λ x. ltb x (256 ^ w))) (count w)

-- two numbers of four bits, in one byte
unfoldable pub nibbles : Format (ℕ × ℕ)
nibbles =
    record {
      parse = λ s l p. within s l p (p + 1) (found (get_or s p 0 / 16, get_or s p 0 % 16) (p + 1));
      print = λ x. (x.0 * 16 + x.1) ∷ [];
      writable = λ x. ltb x.0 16 && ltb x.1 16;
      too_large = λ x. false;
      form = λ pool tape k.
          and_then (tape_entry tape k) (λ high j.
          need (ltb high 16) (OutsideSet k)
          (and_then (tape_entry tape j) (λ low i. need (ltb low 16) (OutsideSet j) (found (high, low) i))));
      tape = λ x p. x.0 ∷ x.1 ∷ [];
    }

abbrev pub both_among : ℕ → ℕ → Format (ℕ × ℕ)
both_among lo hi = only (outside (λ x. (leb lo x.0 && leb x.0 hi) && (leb lo x.1 && leb x.1 hi))) nibbles

-- one of them on a tape
abbrev pub nibble_among : ℕ → ℕ → List ℕ → ℕ → Reading ℕ
nibble_among lo hi tape k = and_then (tape_entry tape k) (λ x j. need (ltb x 16 && (leb lo x && leb x hi)) (OutsideSet k) (found x j))

-- both from lo to hi: in a body they share their place, on a tape each has its own entry
abbrev pub nibbles_among : ℕ → ℕ → Format (ℕ × ℕ)
nibbles_among lo hi =
    record {
      parse = (both_among lo hi).parse;
      print = (both_among lo hi).print;
      writable = (both_among lo hi).writable;
      too_large = (both_among lo hi).too_large;
      form = λ pool tape k. and_then (nibble_among lo hi tape k) (λ high j. and_then (nibble_among lo hi tape j) (λ low i. found (high, low) i));
      tape = (both_among lo hi).tape;
    }

-- ---- reserved bits

-- "17: reserved bit 0": the first k bits at p are ones. They need only the byte they stand in and come before all that shares it.
abbrev pub reserved_first : {A : Type 0} → ℕ → List ℕ → ℕ → ℕ → Reading A → Reading A
reserved_first k s l p x =
    within s l p (p + 1) (need (eqb (get_or s p 0 / 2 ^ (8 - k)) (2 ^ k - 1)) (ReservedBitZero p) x)

-- the numbers that w + 1 bytes hold beside k reserved bits are those below this one
abbrev pub below : ℕ → ℕ → ℕ
below k w = 256 ^ w * 2 ^ (8 - k)

-- k reserved bits and a number, in w + 1 bytes
unfoldable pub reserved : ℕ → ℕ → Format ℕ
reserved k w =
    record {
      parse = λ s l p.
          reserved_first k s l p (within s l p (p + suc w) (found (number_at s p (suc w) % below k w) (p + suc w)));
      print = λ x. bytes_of (suc w) ((2 ^ k - 1) * below k w + x);
      writable = λ x. ltb x (below k w);
      too_large = λ x. false;
      form = λ pool tape k'. and_then (tape_entry tape k') (λ x j. need (ltb x (below k w)) (OutsideSet k') (found x j));
      tape = λ x p. x ∷ [];
    }

-- ---- several bytes that are one field

unfoldable pub bytes : ℕ → Format (List ℕ)
bytes n =
    record {
      parse = λ s l p. within s l p (p + n) (found (take n (drop p s)) (p + n));
      print = λ xs. xs;
      writable = λ xs. eqb (length xs) n;
      too_large = λ xs. false;
      form = λ pool tape k. and_then (span pool tape k) (λ xs j. need (eqb (length xs) n) (OutsideSet k) (found xs j));
      tape = λ xs p. p ∷ n ∷ [];
    }

-- the digits of bytes, two in each
unfoldable pub halves : List ℕ → List ℕ
halves [] = []
halves (b ∷ bs) = b / 16 ∷ b % 16 ∷ halves bs

unfoldable pub paired : List ℕ → List ℕ
paired [] = []
paired (a ∷ []) = a * 16 ∷ []
paired (a ∷ (b ∷ r)) = (a * 16 + b) ∷ paired r

abbrev pub tail : List ℕ → List ℕ
tail [] = []
tail (a ∷ r) = r

-- "18: decimal digit above 9": none is
unfoldable pub decimal : List ℕ → Bool
decimal [] = true
decimal (a ∷ r) = ltb a 10 && decimal r

-- "4 reserved, 35 digits": four reserved bits and 2 h + 1 digits, in h + 1 bytes. In the pool they stand as in a body; a writer
-- works out the reserved bits, and does not look at the pool's.
unfoldable pub digits : ℕ → Format (List ℕ)
digits h =
    record {
      parse = λ s l p.
          reserved_first 4 s l p
          (within s l p (p + suc h)
          (need (decimal (tail (halves (take (suc h) (drop p s))))) (DigitAboveNine p)
          (found (tail (halves (take (suc h) (drop p s)))) (p + suc h))));
      print = λ ds. paired (15 ∷ ds);
      writable = λ ds. eqb (length ds) (h + h + 1) && decimal ds;
      too_large = λ ds. false;
      form = λ pool tape k.
          and_then (span pool tape k) (λ bs j.
          need (eqb (length bs) (suc h)) (OutsideSet k)
          (need (decimal (tail (halves bs))) (DigitAboveNine k) (found (tail (halves bs)) j)));
      tape = λ ds p. p ∷ suc h ∷ [];
    }

-- ---- one after the other

-- G may depend on what F found
unfoldable pub followed : {A : Type 0} {B : A → Type 0} → Format A → ((a : A) → Format (B a)) → Format ((a : A) × B a)
followed {A} {B} F G =
    record {
      parse = λ s l p. and_then (F.parse s l p) (λ a q. and_then ((G a).parse s l q) (λ b r. found (a, b) r));
      print = λ x. F.print x.0 ++ (G x.0).print x.1;
      writable = λ x. F.writable x.0 && (G x.0).writable x.1;
      too_large = λ x. F.too_large x.0 || (G x.0).too_large x.1;
      form = λ pool tape k. and_then (F.form pool tape k) (λ a j. and_then ((G a).form pool tape j) (λ b i. found (a, b) i));
      tape = λ x p. F.tape x.0 p ++ (G x.0).tape x.1 (p + length (F.print x.0));
    }

infixr 30 ◌▷◌
abbrev pub ◌▷◌ : {A B : Type 0} → Format A → Format B → Format (A × B)
◌▷◌ {A} {B} F G = followed F (λ a. G)

-- nothing, in no bytes
unfoldable pub nothing : Format Unit
nothing =
    record {
      parse = λ s l p. found tt p;
      print = λ x. [];
      writable = λ x. true;
      too_large = λ x. false;
      form = λ pool tape k. found tt k;
      tape = λ x p. [];
    }

-- a part that is there if its flag is not 0
abbrev pub Under : Type 0 → ℕ → Type 0
Under A zero = Unit
Under A (suc n) = A

unfoldable pub under : {A : Type 0} → Format A → (flag : ℕ) → Format (Under A flag)
under F zero = nothing
under F (suc n) = F

-- the same fields under other names
unfoldable pub view : {A B : Type 0} → (A → B) → (B → A) → Format A → Format B
view {A} {B} f g F =
    record {
      parse = λ s l p. and_then (F.parse s l p) (λ a q. found (f a) q);
      print = λ b. F.print (g b);
      writable = λ b. F.writable (g b);
      too_large = λ b. F.too_large (g b);
      form = λ pool tape k. and_then (F.form pool tape k) (λ a j. found (f a) j);
      tape = λ b p. F.tape (g b) p;
    }

-- ---- lists

-- n things, each from the position after the one before
unfoldable pub repeat : {A : Type 0} → (ℕ → Reading A) → ℕ → ℕ → Reading (List A)
repeat f zero p = found [] p
repeat f (suc n) p = and_then (f p) (λ a q. and_then (repeat f n q) (λ xs r. found (a ∷ xs) r))

unfoldable pub print_all : {A : Type 0} → (A → List ℕ) → List A → List ℕ
print_all f [] = []
print_all f (a ∷ xs) = f a ++ print_all f xs

unfoldable pub every : {A : Type 0} → (A → Bool) → List A → Bool
every f [] = true
every f (a ∷ xs) = f a && every f xs

-- n bytes, each from lo to hi
abbrev pub bytes_among : ℕ → ℕ → ℕ → Format (List ℕ)
bytes_among lo hi n = only (outside (every (λ x. leb lo x && leb x hi))) (bytes n)

unfoldable pub some : {A : Type 0} → (A → Bool) → List A → Bool
some f [] = false
some f (a ∷ xs) = f a || some f xs

unfoldable pub tape_all : {A : Type 0} → Format A → List A → ℕ → List ℕ
tape_all F [] p = []
tape_all F (a ∷ xs) p = F.tape a p ++ tape_all F xs (p + length (F.print a))

-- n things, one after the other
unfoldable pub times : {A : Type 0} → ℕ → Format A → Format (List A)
times {A} n F =
    record {
      parse = λ s l p. repeat (F.parse s l) n p;
      print = λ xs. print_all F.print xs;
      writable = λ xs. eqb (length xs) n && every F.writable xs;
      too_large = λ xs. some F.too_large xs;
      form = λ pool tape k. repeat (F.form pool tape) n k;
      tape = λ xs p. tape_all F xs p;
    }

-- a list after its count: "A count is no length", the things are read one after the other
unfoldable pub list_of : {A : Type 0} → Format ℕ → Format A → Format (List A)
list_of {A} C F =
    record {
      parse = λ s l p. and_then (C.parse s l p) (λ n q. repeat (F.parse s l) n q);
      print = λ xs. C.print (length xs) ++ print_all F.print xs;
      writable = λ xs. C.writable (length xs) && every F.writable xs;
      too_large = λ xs. C.too_large (length xs) || some F.too_large xs;
      form = λ pool tape k. and_then (C.form pool tape k) (λ n j. repeat (F.form pool tape) n j);
      tape = λ xs p. C.tape (length xs) p ++ tape_all F xs (p + length (C.print (length xs)));
    }

-- ---- what fills its part

-- opaque bytes
unfoldable pub rest : Format (List ℕ)
rest =
    record {
      parse = λ s l p. found (take (l - p) (drop p s)) l;
      print = λ xs. xs;
      writable = λ xs. true;
      too_large = λ xs. false;
      form = span;
      tape = λ xs p. p ∷ length xs ∷ [];
    }

-- F, and no byte is left: "for left-over bytes the first of them"
unfoldable pub exact : {A : Type 0} → (ℕ → Refusal) → Format A → Format A
exact {A} left_over F =
    record {
      parse = λ s l p. and_then (F.parse s l p) (λ a q. need (leb l q) (left_over q) (found a q));
      print = F.print;
      writable = F.writable;
      too_large = F.too_large;
      form = F.form;
      tape = F.tape;
    }

-- "repeat to the end of their part": another one as long as a byte is left, at most n
unfoldable pub parse_many : {A : Type 0} → Format A → ℕ → List ℕ → ℕ → ℕ → Reading (List A)
parse_many F zero s l p = need (leb l p) (PastPart p) (found [] p)
parse_many F (suc n) s l p =
    if leb l p then found [] p else
    and_then (F.parse s l p) (λ a q. and_then (parse_many F n s l q) (λ xs r. found (a ∷ xs) r))

-- in a form a list stands after its count, whether or not the body has it
unfoldable pub many : {A : Type 0} → Format A → Format (List A)
many {A} F =
    record {
      parse = λ s l p. parse_many F (l - p) s l p;
      print = λ xs. print_all F.print xs;
      writable = λ xs. every F.writable xs;
      too_large = λ xs. some F.too_large xs;
      form = λ pool tape k. and_then (tape_entry tape k) (λ n j. repeat (F.form pool tape) n j);
      tape = λ xs p. length xs ∷ tape_all F xs p;
    }

-- ---- counted parts

-- A length: its field; it counts by its part below `limit`, and a part that is not shorter is too large for it (22); what a reader
-- says of a length at its field's place, once the part is known to lie where it must.
pub record Length : Type 1 where
  pub field : Format ℕ
  pub limit : ℕ
  pub fault : ℕ → ℕ → Fault

-- a length of w bytes
unfoldable pub length_of : ℕ → Length
length_of w = record { field = count w; limit = 256 ^ w; fault = λ n at. fine }

-- a length of w bytes that counts so many at least: "A shorter content is refused (15) at its length field"
unfoldable pub least_of : ℕ → ℕ → Length
least_of w least = record { field = count w; limit = 256 ^ w; fault = λ n at. unless (leb least n) (PastPart at) }

-- "4 reserved, descriptor length 12": it "counts by its low ten bits", and "the two top bits of a 12-bit descriptor length" are 00
unfoldable pub length12 : Length
length12 = record { field = reserved 4 1; limit = 1024; fault = λ n at. unless (ltb n 1024) (ReservedBitZero at) }

-- a part after its length; F fills it. "For a part that passes an end, its length field"
unfoldable pub counted : {A : Type 0} → Length → Format A → Format A
counted {A} L F =
    record {
      parse = λ s l p.
          and_then (L.field.parse s l p) (λ n q.
          within s l p (q + n % L.limit) (judged (L.fault n p) (F.parse s (q + n % L.limit) q)));
      print = λ a. L.field.print (length (F.print a)) ++ F.print a;
      writable = F.writable;
      too_large = λ a. not (ltb (length (F.print a)) L.limit) || F.too_large a;
      form = F.form;
      tape = λ a p. F.tape a (p + length (L.field.print (length (F.print a))));
    }

-- opaque bytes after a length of w bytes
abbrev pub opaque : ℕ → Format (List ℕ)
opaque w = counted (length_of w) rest
