-- Reading and printing undo each other: a byte string is a good section exactly if it is printed from a well-formed heading and a payload of at most 4,084 bytes.
use Prim.Native.Nat.{ℕ, ◌+◌, ◌-◌, ◌*◌, ◌/◌, ◌%◌, ◌≤◌}
use Rattle.std.specs.Prelude.{Ok}
use mathlib.Core.Bool.{Bool, true, false}
use mathlib.Core.List.{List, [], ◌∷◌, ◌++◌, append_assoc}
use mathlib.Core.Logic.{◌↔◌}
use mathlib.Core.Path.{◌≡◌, refl, sym, ap, ◌∙◌}
use native.Mathlib.Omega.{arith}
use borrow.Author.Tests.{eq-eqb, ne_eqb, eqb-true, eqb-false}
use lib.Dec.{eqb}
use lib.ListN.{length, get_or, drop, length-drop, take-append-drop}
use lib.Seq.{drop-cons, take_at, get_or-drop}
use Rattle.crc.proofs.Burst.{crc32_only}
use Rattle.crc.proofs.Laws.{crc32_closed}
use Rattle.crc.specs.Crc.{AreBytes, big_endian, crc32_of, digit}
use Rattle.section_reader.specs.Section.{is_kind, word, section_length, fixed_bits, heading_of, payload_of, read_section, heading_bytes, checked, printed, WellFormed, IsGood, IsPrinted}
use Rattle.section_reader.specs.declared.Heading.{Heading}
use Rattle.section_reader.proofs.Accepting.{Accepted, accepted, accepts, accepted_length, accepted_short, payload_length}
use Rattle.section_reader.proofs.Printing.{eight_bytes, heading_is, printed_length}
use Rattle.ground_numbers.specs.Sizes.{configuration_kind, content_kind, section_length_most, payload_most}
use Rattle.ground_numbers.proofs.Ranges.{within}
use Rattle.section_reader.proofs.Reading.{Framed, fixed_known, kind_within}

-- ---- from the wire

digit_odd : (n : ℕ) → digit (eqb (n % 2) 1) ≡ n % 2
unfolding digit
digit_odd n = go (eqb (n % 2) 1) refl
  where
    go : (t : Bool) → eqb (n % 2) 1 ≡ t → digit t ≡ n % 2
    go true e = sym (eqb-true (n % 2) 1 e)
    go false e = let d = eqb-false (n % 2) 1 e in omega arith

module _ (s : List ℕ) (bytes : AreBytes s) (f : Framed s) where
  counted : (n : ℕ) → length s ≡ n + 12 → (get_or s 1 0 * 256 + get_or s 2 0) % 4096 ≡ n + 9
  unfolding section_length word
  counted n long = let w = f.whole in omega arith

  -- the first eight bytes are those of the heading
  heading_read : (n : ℕ) → length s ≡ n + 12
      → heading_bytes (heading_of s) n
      ≡ get_or s 0 0 ∷ get_or s 1 0 ∷ get_or s 2 0 ∷ get_or s 3 0 ∷ get_or s 4 0 ∷ get_or s 5 0 ∷ get_or s 6 0 ∷ get_or s 7 0 ∷ []
  unfolding heading_of word
  heading_read n long =
      let x = fixed_known s f.fixed in
      let m = counted n long in
      let b = bytes.byte in
      let b₁ : (0xF000 + (n + 9)) / 256 % 256 ≡ get_or s 1 0 = omega (arith, b 1, b 2) in
      let b₂ : (0xF000 + (n + 9)) % 256 ≡ get_or s 2 0 = omega (arith, b 1, b 2) in
      let b₃ : (get_or s 3 0 * 256 + get_or s 4 0) / 256 % 256 ≡ get_or s 3 0 = omega (arith, b 3, b 4) in
      let b₄ : (get_or s 3 0 * 256 + get_or s 4 0) % 256 ≡ get_or s 4 0 = omega (arith, b 3, b 4) in
      let b₅ : 0xC0 + (get_or s 5 0 / 2 % 32 * 2 + digit (eqb (get_or s 5 0 % 2) 1)) ≡ get_or s 5 0 = rw (digit_odd (get_or s 5 0)) (omega (arith, b 5)) in
      heading_is (heading_of s) n ∙ rw (b₁, b₂, b₃, b₄, b₅)

  eight : s ≡ get_or s 0 0 ∷ get_or s 1 0 ∷ get_or s 2 0 ∷ get_or s 3 0 ∷ get_or s 4 0 ∷ get_or s 5 0 ∷ get_or s 6 0 ∷ get_or s 7 0 ∷ drop 8 s
  eight =
      let l = f.long in
      cc (
        drop-cons s 0 0 (omega arith),
        drop-cons s 1 0 (omega arith),
        drop-cons s 2 0 (omega arith),
        drop-cons s 3 0 (omega arith),
        drop-cons s 4 0 (omega arith),
        drop-cons s 5 0 (omega arith),
        drop-cons s 6 0 (omega arith),
        drop-cons s 7 0 (omega arith),
      )

  -- heading, payload and four bytes
  parts : (n : ℕ) → length s ≡ n + 12 → s ≡ heading_bytes (heading_of s) n ++ payload_of s ++ drop n (drop 8 s)
  unfolding payload_of
  parts n long =
      let e : length s - 12 ≡ n = omega arith in
      sym (rw (e, append_assoc, take-append-drop, heading_read n long) (sym eight))

  pub heading_formed : get_or s 6 0 ≤ get_or s 7 0 → WellFormed (heading_of s)
  unfolding heading_of word
  heading_formed h =
      let k = kind_within (get_or s 0 0) f.kind in
      let b = bytes.byte in
      record {
        kind_low = k.0;
        kind_high = k.1;
        extension_high = omega (arith, b 3, b 4);
        version_high = omega arith;
        number_high = h;
        last_high = omega (arith, b 7);
      }

bytes_drop : (k : ℕ) (s : List ℕ) → AreBytes s → AreBytes (drop k s)
bytes_drop k s b = record { byte = λ i. rw (get_or-drop k s i 0) (b.byte (k + i)) }

-- a good section is the one printed of its heading and its payload
pub good_printed : (s : List ℕ) (h : Heading) (n : ℕ) → AreBytes s → read_section s ≡ Ok (h, n) → IsPrinted s h (payload_of s)
unfolding printed checked
good_printed s h n bytes e =
    record {
      formed = rw a.heading (heading_formed s bytes a.framed a.ordered);
      short = rw size (accepted_short s h n a);
      is = rw (size, a.heading) (split ∙ ap (λ (t : List ℕ). front ++ t) check);
    }
  where
    a : Accepted s h n
    a = accepted s h n e

    long : length s ≡ n + 12
    long = accepted_length s h n a

    size : length (payload_of s) ≡ n
    size = payload_length s h n a

    front : List ℕ
    front = heading_bytes (heading_of s) n ++ payload_of s

    split : s ≡ front ++ drop n (drop 8 s)
    split = parts s bytes a.framed n long

    check : drop n (drop 8 s) ≡ big_endian 4 (crc32_of front)
    check =
        crc32_only front (drop n (drop 8 s)) (let l = long in simp length-drop (omega arith)) (bytes_drop n (drop 8 s) (bytes_drop 8 s bytes))
        (ap crc32_of (sym split) ∙ a.check)

-- ---- onto the wire

-- a printed section byte by byte
printed_is : (h : Heading) (p : List ℕ)
    → printed h p ≡ eight_bytes h (length p) (digit h.current) ++ (p ++ big_endian 4 (crc32_of (heading_bytes h (length p) ++ p)))
unfolding printed checked
printed_is h p =
    append_assoc (heading_bytes h (length p)) p (big_endian 4 (crc32_of (heading_bytes h (length p) ++ p)))
    ∙ ap (λ (l : List ℕ). l ++ (p ++ big_endian 4 (crc32_of (heading_bytes h (length p) ++ p)))) (heading_is h (length p))

odd_digit : (n : ℕ) (b : Bool) → eqb ((0xC0 + (n * 2 + digit b)) % 2) 1 ≡ b
unfolding digit
odd_digit n true = eq-eqb ((0xC0 + (n * 2 + 1)) % 2) 1 (omega arith)
odd_digit n false = ne_eqb ((0xC0 + (n * 2 + 0)) % 2) 1 (omega arith)

digit_small : (b : Bool) → digit b ≤ 1
unfolding digit
digit_small true = omega arith
digit_small false = omega arith

module _ (h : Heading) (p : List ℕ) (w : WellFormed h) (short : length p ≤ payload_most) where
  length_printed : section_length (printed h p) ≡ length p + 9
  unfolding section_length word
  length_printed = rw (printed_is h p) (omega arith)

  fixed_printed : fixed_bits (printed h p) ≡ true
  unfolding fixed_bits
  fixed_printed =
      let d = digit_small h.current in
      let v = w.version_high in
      let a : (0xF000 + (length p + 9)) / 256 % 256 / 16 ≡ 15 = omega arith in
      let b : (0xC0 + (h.version * 2 + digit h.current)) / 64 ≡ 3 = omega arith in
      rw (printed_is h p) (rw (eq-eqb ((0xF000 + (length p + 9)) / 256 % 256 / 16) 15 a, eq-eqb ((0xC0 + (h.version * 2 + digit h.current)) / 64) 3 b))

  kind_printed : is_kind (get_or (printed h p) 0 0) ≡ true
  unfolding is_kind
  kind_printed = rw (printed_is h p) (within configuration_kind h.kind content_kind w.kind_low w.kind_high)

  ordered_printed : get_or (printed h p) 6 0 ≤ get_or (printed h p) 7 0
  ordered_printed = rw (printed_is h p) w.number_high

  heading_printed : heading_of (printed h p) ≡ h
  unfolding heading_of word
  heading_printed =
      let d = digit_small h.current in
      let v = w.version_high in
      let x = w.extension_high in
      let a : h.extension / 256 % 256 * 256 + h.extension % 256 ≡ h.extension = omega arith in
      let b : (0xC0 + (h.version * 2 + digit h.current)) / 2 % 32 ≡ h.version = omega arith in
      rw (printed_is h p) (rw (a, b, odd_digit h.version h.current))

  check_printed : crc32_of (printed h p) ≡ 0
  unfolding printed checked
  check_printed = crc32_closed (heading_bytes h (length p) ++ p)

  payload_printed : payload_of (printed h p) ≡ p
  unfolding payload_of
  payload_printed = rw (printed_length h p, printed_is h p) (take_at p _ (length p + 12 - 12) (omega arith))

  -- what is printed is good and reads back to its heading and its payload
  pub reads_back : IsGood (printed h p) h p
  reads_back =
      let l = printed_length h p in
      let m = length_printed in
      record {
        reads =
            accepts (printed h p) h (length p)
            record {
              framed =
                  record {
                    long = omega arith;
                    kind = kind_printed;
                    fixed = fixed_printed;
                    counted = rw length_printed (within 9 (length p + 9) section_length_most (omega arith) (omega arith));
                    whole = omega arith;
                  };
              ordered = ordered_printed;
              check = check_printed;
              heading = sym heading_printed;
              size = omega arith;
            };
        carries = payload_printed;
      }

-- a byte string is good exactly if it is printed
pub good_exactly : (s : List ℕ) (h : Heading) (p : List ℕ) → AreBytes s → IsGood s h p ↔ IsPrinted s h p
good_exactly s h p bytes =
    (λ g. rw g.carries at (good_printed s h (length p) bytes g.reads), λ i. rw i.is (reads_back h p i.formed i.short))
