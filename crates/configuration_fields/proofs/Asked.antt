-- The fields asked for of an accepted body are its table's: of the body, and of each of its commands.
use Prim.Native.Nat.{ℕ, zero, suc, ◌+◌, ◌-◌, ◌*◌, ◌%◌, ◌^◌, ◌≤◌, ◌<◌}
use Rattle.std.specs.Prelude.{Result, Ok}
use Rattle.ground_refusal.specs.declared.Refusal.{Refusal}
use mathlib.Core.Path.{◌≡◌, refl, sym, ap, ap₂, subst, ◌∙◌}
use mathlib.Core.List.{List, [], ◌∷◌}
use mathlib.Core.Bool.{Bool, true, false, ◌&&◌}
use native.Mathlib.Omega.{arith}
use native.Mathlib.Nat.{add-sub_cancel_left}
use lib.ListN.{length, get_or, take, drop, length-drop}
use lib.Seq.{length-take-le}
use lib.Dec.{leb, eqb}
use borrow.Author.Tests.{leb-true, le-leb, lt-ltb, le-ltb, eq-eqb, ne_eqb}
use Rattle.ground_refusal.specs.declared.Refusal.TheVariants.{LeftOver, PastPart, OutsideSet}
use Rattle.body_formats.specs.Reading.{Reading, found, refused, and_then, Fault, unless}
use Rattle.body_formats.specs.Format.{Format, count, only, number, among, bytes, followed, ◌▷◌, list_of, opaque, rest, Length, length_of, least_of, counted, repeat}
use Rattle.body_formats.specs.Body.{reading}
use Rattle.body_formats.specs.Answers.{part_of, field_part, number_read, digit_read}
use Rattle.body_formats.specs.Held.{PartHolds}
use Rattle.body_formats.proofs.Outcomes.{found_inj, and_then_found, within_found, judged_found}
use Rattle.body_formats.proofs.Classes.{Bytes}
use Rattle.body_formats.proofs.Elements.{exact_found, view_found, followed_found, list_found}
use Rattle.body_formats.proofs.Strings.{digits_bytes}
use Rattle.body_formats.proofs.RoundTrips as trips
use Rattle.body_formats.specs.Resource.{resource_pairs, resource_bytes, resource}
use Rattle.configuration.specs.Configuration.{configuration_kind, terminals, plain, date, clock, address_fault, address_length, address, Order, set_clock, set_code, tune, set_return, set_period, set_volume, query, other, order_of, Said, said, least, Command, command, Configuration, fields, configuration}
use Rattle.configuration.proofs.Lawful.{said_filling, configuration_filling}
use Rattle.body_asking.specs.Asking.{headed_part, nth_of}
use Rattle.body_asking.proofs.Sizes.{Sized, count_sized, only_found, number_sized, number_inside, digits_sized, next, repeat_sized, nth_sized}
use Rattle.body_asking.proofs.Entries.{all_same, nth_same, nth_past}
use Rattle.body_asking.proofs.Parts.{counted_holds, part_holds, bytes_hold, digit_there, digit_past, depending_found}
use Rattle.configuration_fields.specs.Asked.{command_count, command_part, signature_part, tag_at, bytes_at, command_tag, command_content, content_at, in_command, clock_date, clock_time, clock_year, clock_month, clock_day, clock_hour, clock_minute, clock_second, code_address, code_at, code_resource, code_digit, frequency, symbol_rate, mapping, return_kind, address_in, return_address, period, volume, parameter_count, list_at, parameter_at, parameter, terminals_in, terminals_at, terminal_count, terminal_at, terminal, terminal_digit}
use Rattle.body_asking.specs.Agreement.{FillsAt}
use Rattle.configuration_fields.specs.Agreement.{ResourceAsked, TerminalsAsked, ClockAsked, CodeAsked, TuneAsked, ReturnAsked, PeriodAsked, VolumeAsked, QueryAsked, OrderAsked, OthersAsked, CommandAsked, CommandsAsked, ConfigurationAsked}
use Rattle.configuration_fields.proofs.Answers.{tag_found, content_there}

-- ---- fields of a fixed size

plain_sized : (w : ℕ) → Sized (plain w) (w + 2)
plain_sized w s l p x q e =
    let f = next (count w) (count 1 ▷ count 1) w (count_sized w) s l p (p + w) x q refl e in
    let g = next (count 1) (count 1) 1 (count_sized 1) s l (p + w) (p + w + 1) x.1 q refl f.1 in
    omega (arith, count_sized 1 s l (p + w + 1) x.1.1 q g.1)

date_sized : Sized date 4
unfolding date
date_sized s l p x q e = plain_sized 2 s l p x q (only_found _ (plain 2) s l p x q e)

clock_sized : Sized clock 3
unfolding clock
clock_sized s l p x q e = plain_sized 1 s l p x q (only_found _ (plain 1) s l p x q e)

among_sized : (lo hi : ℕ) → Sized (among lo hi (number 1)) 1
among_sized lo hi s l p x q e = number_sized 1 s l p x q (only_found _ (number 1) s l p x q e)

-- what is found in a content from p + 3 to l is what is asked for
asked : {A : Type 0} (F : Format A) (tag k : ℕ) (s : List ℕ) (p l t : ℕ) (a : A) (r : ℕ) → content_at tag s p ≡ found l (p + 3) → p + 3 + k ≡ t → F.parse s l t ≡ found a r → in_command F tag k s p ≡ found a r
asked F tag k s p l t a r c z e = rw c (ap (F.parse s l) z ∙ e)

-- another name of the same part
same_part : {A : Type 0} (F : Format A) (s : List ℕ) (part also : Result (ℕ × ℕ) Refusal) (x : A) (q : ℕ) → also ≡ part → PartHolds F s part x q → PartHolds F s also x q
same_part F s part also x q e h = record { at = h.at; size = h.size; is = e ∙ h.is; ends = h.ends; in_body_lem = h.in_body_lem; inner = h.inner }

-- ---- opaque bytes

-- those after a length of w bytes begin where it ends, and what follows them where they end
module _ (L : Length) (w : ℕ) (sized : Sized L.field w) (s : List ℕ) (l p : ℕ) (xs : List ℕ) (q : ℕ) (e : (counted L rest).parse s l p ≡ found xs q) where
  stand : (part : Result (ℕ × ℕ) Refusal) → part ≡ part_of (found xs q) → (at : ℕ) → p + w ≡ at → FillsAt s at part xs × (q ≡ at + length xs)
  unfolding rest
  stand part same at z =
      let h = counted_holds L rest s l p xs q e in
      let begins = sized s l p h.counts h.at h.told in
      let f = found_inj h.inner in
      let size = add-sub_cancel_left h.at h.size in
      let long = length-take-le h.size (drop h.at s) (simp length-drop (omega (arith, h.in_body_lem))) in
      let bytes = ap (λ (m : ℕ). take m (drop h.at s)) (sym size) ∙ f.0 in
      let n : h.size ≡ length xs = sym long ∙ ap length bytes in
      let there : h.at ≡ at = begins ∙ z in (
        record {
          is = same ∙ ap part_of (sym e) ∙ h.part ∙ ap₂ (λ (x y : ℕ). Ok (x, y)) there n;
          in_body_lem = omega (arith, h.in_body_lem, n, there);
          bytes = ap₂ (λ (m u : ℕ). take m (drop u s)) (sym n) (sym there) ∙ bytes;
        },
        omega (arith, f.1, there, n),
      )

-- bytes that are judged are those bytes
counted_only : {A : Type 0} (L : Length) (fault : A → ℕ → Fault) (F : Format A) (s : List ℕ) (l p : ℕ) (x : A) (q : ℕ)
    → (counted L (only fault F)).parse s l p ≡ found x q → (counted L F).parse s l p ≡ found x q
unfolding counted
counted_only L fault F s l p x q e =
    let i = and_then_found (L.field.parse s l p) _ x q e in
    let m = i.0 % L.limit in
    let g = within_found s l p (i.1 + m) _ x q i.3 in
    let j = judged_found (L.fault i.0 p) _ x q g.2 in
    rw (i.2, le-leb (i.1 + m) (length s) g.0, le-leb (i.1 + m) l g.1, j.0) (only_found fault F s (i.1 + m) i.1 x q j.1)

address_stands : (kind : ℕ) (s : List ℕ) (l p : ℕ) (xs : List ℕ) (q : ℕ) → (address kind).parse s l p ≡ found xs q
    → (part : Result (ℕ × ℕ) Refusal) → part ≡ part_of (found xs q) → (at : ℕ) → p + 1 ≡ at → FillsAt s at part xs × (q ≡ at + length xs)
unfolding address address_length
address_stands kind s l p xs q e =
    stand (address_length kind) 1 (count_sized 1) s l p xs q (counted_only (address_length kind) (address_fault kind) rest s l p xs q e)

opaque_stands : (w : ℕ) (s : List ℕ) (l p : ℕ) (xs : List ℕ) (q : ℕ) → (opaque w).parse s l p ≡ found xs q
    → (part : Result (ℕ × ℕ) Refusal) → part ≡ part_of (found xs q) → (at : ℕ) → p + w ≡ at → FillsAt s at part xs × (q ≡ at + length xs)
unfolding length_of
opaque_stands w s l p xs q e = stand (length_of w) w (count_sized w) s l p xs q e

-- ---- a resource

resource_asked : (s : List ℕ) → Bytes s → (l at : ℕ) (ds : List ℕ) (q : ℕ) → resource.parse s l at ≡ found ds q
    → (part : Result (ℕ × ℕ) Refusal) → part ≡ field_part at (found ds q) → (digit : ℕ → Result (ℕ × ℕ) Refusal) → ((j : ℕ) → digit j ≡ digit_read resource j s l at) → ResourceAsked s part digit at ds
resource_asked s b l at ds q e part same digit each =
    let z : q - at ≡ resource_bytes = omega (arith, digits_sized resource_pairs s l at ds q e) in
    record {
      part_is = same ∙ ap (λ b. Ok (at, b)) z;
      bytes_are = digits_bytes s l at resource_pairs ds q e b;
      digit_is = λ j h. each j ∙ digit_there resource s l at ds q e j h;
      digit_past = λ j h. each j ∙ digit_past resource s l at ds q e j h;
    }

-- ---- terminals, of every command that has them

module _ (s : List ℕ) (b : Bytes s) (p l q : ℕ) (at : terminals_at s p ≡ found l q) (ts : List (List ℕ)) (end : ℕ) (e : terminals.parse s l q ≡ found ts end) where
  list : ((count 1).parse s l q ≡ found (length ts) (q + 1)) × (repeat (resource.parse s l) (length ts) (q + 1) ≡ found ts end)
  unfolding terminals
  list =
      let f = list_found (count 1) resource s l q ts end e in
      let z = count_sized 1 s l q (length ts) f.0 f.1 in
      (f.1 ∙ ap (found (length ts)) z, ap (repeat (resource.parse s l) (length ts)) (sym z) ∙ f.2)

  resource_found : (i : ℕ) → i < length ts → resource.parse s l (q + 1 + resource_bytes * i) ≡ found (get_or ts i []) (q + 1 + resource_bytes * i + resource_bytes)
  resource_found i h = nth_sized resource resource_bytes (digits_sized resource_pairs) s l [] (length ts) i (q + 1) ts end list.1 h

  place : (i : ℕ) → i < length ts → terminal_at s p i ≡ found l (q + 1 + resource_bytes * i)
  unfolding terminal_at list_at
  place i h = rw (at, list.0, lt-ltb i (length ts) h)

  no_place : (i : ℕ) → length ts ≤ i → terminal_at s p i ≡ refused (OutsideSet 0)
  unfolding terminal_at list_at
  no_place i h = rw (at, list.0, le-ltb i (length ts) h)

  terminals_asked : (begins : ℕ) → q + 1 ≡ begins → TerminalsAsked s p begins ts
  unfolding terminal_count terminal terminal_digit
  terminals_asked begins z =
      subst (λ (a : ℕ). TerminalsAsked s p a ts) z
      record {
        terminals_counted = rw (at, list.0);
        terminal_is = λ i h.
            resource_asked s b l (q + 1 + resource_bytes * i) (get_or ts i []) _ (resource_found i h)
            (terminal s p i) (rw (place i h, resource_found i h)) (terminal_digit s p i) (λ j. rw (place i h));
        terminal_past = λ i h. (rw (no_place i h), λ j. rw (no_place i h));
      }

-- ---- what each command says

other_order : (tag : ℕ) → 8 ≤ tag → order_of tag ≡ other
unfolding order_of
other_order tag h =
    let less : (n : ℕ) → n < 8 → eqb tag n ≡ false = λ n k. ne_eqb tag n (λ e. omega (arith, e)) in
    rw (less 1 (omega arith), less 2 (omega arith), less 3 (omega arith), less 4 (omega arith), less 5 (omega arith), less 6 (omega arith), less 7 (omega arith))

-- opaque bytes fill a content of any other tag
module _ (s : List ℕ) (p q size : ℕ) (is : command_content s p ≡ Ok (p + 3, size)) (ends : p + 3 + size ≡ q) (inside : q ≤ length s) where
  content_stands : (x : List ℕ) → (said other).parse s q (p + 3) ≡ found x q → FillsAt s (p + 3) (command_content s p) x
  unfolding said rest
  content_stands x e =
      let z : size ≡ q - (p + 3) = omega arith in
      let bytes = ap (λ (m : ℕ). take m (drop (p + 3) s)) z ∙ (found_inj e).0 in
      let long = length-take-le size (drop (p + 3) s) (simp length-drop (omega arith)) in
      let n : size ≡ length x = sym long ∙ ap length bytes in
      record { is = is ∙ ap (λ b. Ok (p + 3, b)) n; in_body_lem = omega (arith, n); bytes = ap (λ (m : ℕ). take m (drop (p + 3) s)) (sym n) ∙ bytes }

  other_asked : (order : Order) → order ≡ other → (x : Said order) → (said order).parse s q (p + 3) ≡ found x q → OrderAsked order s p x
  other_asked order e = subst (λ (o : Order). (x : Said o) → (said o).parse s q (p + 3) ≡ found x q → OrderAsked o s p x) (sym e) content_stands

-- a command whose content goes from p + 3 to q
module _ (s : List ℕ) (b : Bytes s) (p q : ℕ) where
  clock_asked : (x : Said set_clock) → content_at 1 s p ≡ found q (p + 3) → (said set_clock).parse s q (p + 3) ≡ found x q → ClockAsked s p x
  unfolding said clock_year clock_month clock_day clock_hour clock_minute clock_second clock_date clock_time
  clock_asked x c e =
      let f = next date clock 4 date_sized s q (p + 3) (p + 7) x q (omega arith) (exact_found PastPart (date ▷ clock) s q (p + 3) x q e).0 in
      let z : q ≡ p + 10 = omega (arith, clock_sized s q (p + 7) x.1 q f.1) in
      let d = asked date 1 0 s p q (p + 3) x.0 (p + 7) c (omega arith) f.0 in
      let t = asked clock 1 4 s p q (p + 7) x.1 (p + 10) c (omega arith) (f.1 ∙ ap (found x.1) z) in
      record { year_is = rw d; month_is = rw d; day_is = rw d; hour_is = rw t; minute_is = rw t; second_is = rw t }

  code_asked : (x : Said set_code) → content_at 2 s p ≡ found q (p + 3) → (said set_code).parse s q (p + 3) ≡ found x q → CodeAsked s p x
  unfolding said code_address code_resource code_digit code_at
  code_asked x c e =
      let f = followed_found (opaque 1) resource s q (p + 3) x q (exact_found PastPart (opaque 1 ▷ resource) s q (p + 3) x q e).0 in
      let a = asked (opaque 1) 2 0 s p q (p + 3) x.0 f.0 c (omega arith) f.1 in
      let address = opaque_stands 1 s q (p + 3) x.0 f.0 f.1 (code_address s p) (rw a) (p + 4) (omega arith) in
      record {
        address_stands = address.0;
        resource_is =
            subst (λ (at : ℕ). ResourceAsked s (code_resource s p) (code_digit s p) at x.1) address.1
            (resource_asked s b q f.0 x.1 q f.2 (code_resource s p) (rw (c, f.1, f.2)) (code_digit s p) (λ j. rw (c, f.1)));
      }

  tune_asked : (x : Said tune) → tag_at s p ≡ found 3 (p + 1) → content_at 3 s p ≡ found q (p + 3) → (said tune).parse s q (p + 3) ≡ found x q → TuneAsked s p x
  unfolding said frequency symbol_rate mapping terminals_at terminals_in
  tune_asked x t c e =
      let f = next (number 4) _ 4 (number_sized 4) s q (p + 3) (p + 7) x q (omega arith) (exact_found PastPart _ s q (p + 3) x q e).0 in
      let g = next (number 4) _ 4 (number_sized 4) s q (p + 7) (p + 11) x.1 q (omega arith) f.1 in
      let h = next (among 0 5 (number 1)) terminals 1 (among_sized 0 5) s q (p + 11) (p + 3 + 9) x.1.1 q (omega arith) g.1 in
      let z : p + 3 + 9 ≡ p + 12 = omega arith in
      record {
        frequency_is = rw (asked (number 4) 3 0 s p q (p + 3) x.0 (p + 7) c (omega arith) f.0);
        symbol_rate_is = rw (asked (number 4) 3 4 s p q (p + 7) x.1.0 (p + 11) c (omega arith) g.0);
        mapping_is = rw (asked (among 0 5 (number 1)) 3 8 s p q (p + 11) x.1.1.0 (p + 12) c (omega arith) (h.0 ∙ ap (found x.1.1.0) z));
        terminals_are = terminals_asked s b p q (p + 3 + 9) (rw (t, c)) x.1.1.1 q h.1 (p + 13) (omega arith);
      }

  return_asked : (x : Said set_return) → tag_at s p ≡ found 4 (p + 1) → content_at 4 s p ≡ found q (p + 3) → (said set_return).parse s q (p + 3) ≡ found x q → ReturnAsked s p x
  unfolding said return_kind return_address address_in terminals_at terminals_in
  return_asked x t c e =
      let f = depending_found (among 1 3 (number 1)) (λ kind. address kind ▷ terminals) s q (p + 3) x q (exact_found PastPart _ s q (p + 3) x q e).0 in
      let z : f.0 ≡ p + 4 = omega (arith, among_sized 1 3 s q (p + 3) x.0 f.0 f.1) in
      let g = followed_found (address x.0) terminals s q f.0 x.1 q f.2 in
      let address = address_stands x.0 s q f.0 x.1.0 g.0 g.1 (return_address s p) (rw (c, f.1, g.1)) (p + 5) (omega (arith, z)) in
      record {
        kind_is = rw (asked (among 1 3 (number 1)) 4 0 s p q (p + 3) x.0 (p + 4) c (omega arith) (f.1 ∙ ap (found x.0) z));
        address_stands = address.0;
        terminals_are = terminals_asked s b p q g.0 (rw (t, c, f.1, g.1)) x.1.1 q g.2 (p + 6 + length x.1.0) (omega (arith, address.1));
      }

  period_asked : (x : Said set_period) → tag_at s p ≡ found 5 (p + 1) → content_at 5 s p ≡ found q (p + 3) → (said set_period).parse s q (p + 3) ≡ found x q → PeriodAsked s p x
  unfolding said period terminals_at terminals_in
  period_asked x t c e =
      let f = next (number 4) terminals 4 (number_sized 4) s q (p + 3) (p + 3 + 4) x q refl (exact_found PastPart _ s q (p + 3) x q e).0 in
      let z : p + 3 + 4 ≡ p + 7 = omega arith in
      record {
        period_is = rw (asked (number 4) 5 0 s p q (p + 3) x.0 (p + 7) c (omega arith) (f.0 ∙ ap (found x.0) z));
        terminals_are = terminals_asked s b p q (p + 3 + 4) (rw (t, c)) x.1 q f.1 (p + 8) (omega arith);
      }

  volume_asked : (x : Said set_volume) → tag_at s p ≡ found 6 (p + 1) → content_at 6 s p ≡ found q (p + 3) → (said set_volume).parse s q (p + 3) ≡ found x q → VolumeAsked s p x
  unfolding said volume terminals_at terminals_in
  volume_asked x t c e =
      let f = next (among 0 100 (number 1)) terminals 1 (among_sized 0 100) s q (p + 3) (p + 3 + 1) x q refl (exact_found PastPart _ s q (p + 3) x q e).0 in
      let z : p + 3 + 1 ≡ p + 4 = omega arith in
      record {
        volume_is = rw (asked (among 0 100 (number 1)) 6 0 s p q (p + 3) x.0 (p + 4) c (omega arith) (f.0 ∙ ap (found x.0) z));
        terminals_are = terminals_asked s b p q (p + 3 + 1) (rw (t, c)) x.1 q f.1 (p + 5) (omega arith);
      }

  query_asked : (x : Said query) → tag_at s p ≡ found 7 (p + 1) → content_at 7 s p ≡ found q (p + 3) → (said query).parse s q (p + 3) ≡ found x q → QueryAsked s p x
  unfolding said parameter_count parameter parameter_at list_at terminals_at terminals_in
  query_asked x t c e =
      let ps = x.0 in
      let f = followed_found (list_of (count 1) (number 1)) terminals s q (p + 3) x q (exact_found PastPart _ s q (p + 3) x q e).0 in
      let g = list_found (count 1) (number 1) s q (p + 3) ps f.0 f.1 in
      let z : g.0 ≡ p + 4 = omega (arith, count_sized 1 s q (p + 3) (length ps) g.0 g.1) in
      let n = g.1 ∙ ap (found (length ps)) z in
      let each = ap (repeat ((number 1).parse s q) (length ps)) (sym z) ∙ g.2 in
      let m : f.0 ≡ p + 4 + length ps = omega (arith, repeat_sized (number 1) 1 (number_sized 1) s q (length ps) (p + 4) ps f.0 each) in
      record {
        parameters_counted = rw (asked (count 1) 7 0 s p q (p + 3) (length ps) (p + 4) c (omega arith) n);
        parameter_is = λ i h.
            rw (c, n, lt-ltb i (length ps) h, nth_sized (number 1) 1 (number_sized 1) s q 0 (length ps) i (p + 4) ps f.0 each h)
            (let y : p + 4 + 1 * i + 1 ≡ p + 5 + i = omega arith in ap (λ b. Ok (get_or ps i 0, b)) y);
        parameter_past = λ i h. rw (c, n, le-ltb i (length ps) h);
        terminals_are = terminals_asked s b p q (p + 4 + length ps) (rw (t, c, n)) x.1 q (ap (terminals.parse s q) (sym m) ∙ f.2)
            (p + 5 + length ps) (omega arith);
      }

  -- tag by tag: 0, the standard's 1 to 7 in order, and all others
  order_asked : (tag : ℕ) (x : Said (order_of tag)) → tag_at s p ≡ found tag (p + 1) → content_at tag s p ≡ found q (p + 3) → (said (order_of tag)).parse s q (p + 3) ≡ found x q
      → ((order : Order) → order ≡ other → (y : Said order) → (said order).parse s q (p + 3) ≡ found y q → OrderAsked order s p y) → OrderAsked (order_of tag) s p x
  unfolding order_of
  order_asked zero x t c e o = o other refl x e
  order_asked (suc zero) x t c e o = clock_asked x c e
  order_asked (suc (suc zero)) x t c e o = code_asked x c e
  order_asked (suc (suc (suc zero))) x t c e o = tune_asked x t c e
  order_asked (suc (suc (suc (suc zero)))) x t c e o = return_asked x t c e
  order_asked (suc (suc (suc (suc (suc zero))))) x t c e o = period_asked x t c e
  order_asked (suc (suc (suc (suc (suc (suc zero)))))) x t c e o = volume_asked x t c e
  order_asked (suc (suc (suc (suc (suc (suc (suc zero))))))) x t c e o = query_asked x t c e
  order_asked (suc (suc (suc (suc (suc (suc (suc (suc tag)))))))) x t c e o =
      o _ (other_order (suc (suc (suc (suc (suc (suc (suc (suc tag)))))))) (omega arith)) x e

not_among : (lo hi n : ℕ) → (lo ≤ n → n ≤ hi → ⊥) → (leb lo n && leb n hi) ≡ false
not_among lo hi n h = go (leb lo n) (leb n hi) refl refl
  where
    go : (t u : Bool) → leb lo n ≡ t → leb n hi ≡ u → (t && u) ≡ false
    go true true e f = absurd (h (leb-true lo n e) (leb-true n hi f))
    go true false e f = refl
    go false u e f = refl

-- what is asked of another tag, or of terminals that it has not, isn't there
module _ (s : List ℕ) (p tag : ℕ) (here : tag_at s p ≡ found tag (p + 1)) where
  elsewhere : (k : ℕ) → (tag ≡ k → ⊥) → content_at k s p ≡ refused (OutsideSet 0)
  unfolding content_at
  elsewhere k h = rw (here, ne_eqb tag k h)

  no_terminals : (3 ≤ tag → tag ≤ 7 → ⊥) → terminals_at s p ≡ refused (OutsideSet 0)
  unfolding terminals_at
  no_terminals h = rw (here, not_among 3 7 tag h)

  others_asked : OthersAsked s p tag
  unfolding clock_year clock_month clock_day clock_hour clock_minute clock_second clock_date clock_time code_address code_resource code_digit code_at frequency symbol_rate mapping return_kind return_address period volume parameter_count parameter parameter_at terminal_count terminal terminal_digit terminal_at
  others_asked =
      record {
        no_date = λ h. let e = elsewhere 1 h in (rw e, rw e, rw e);
        no_time = λ h. let e = elsewhere 1 h in (rw e, rw e, rw e);
        no_code = λ h. let e = elsewhere 2 h in (rw e, rw e, λ j. rw e);
        no_tuning = λ h. let e = elsewhere 3 h in (rw e, rw e, rw e);
        no_return = λ h. let e = elsewhere 4 h in (rw e, rw e);
        no_period = λ h. rw (elsewhere 5 h);
        no_volume = λ h. rw (elsewhere 6 h);
        no_query = λ h. let e = elsewhere 7 h in (rw e, λ i. rw e);
        no_terminals = λ h. let e = no_terminals h in (rw e, λ i. rw e, λ i j. rw e);
      }

-- ---- a command, which begins at p and ends at q

-- a part that is not too short is the part of its length
at_least : {A : Type 0} (w least : ℕ) (F : Format A) (s : List ℕ) (l p : ℕ) (x : A) (q : ℕ) → (counted (least_of w least) F).parse s l p ≡ found x q → (counted (length_of w) F).parse s l p ≡ found x q
unfolding counted least_of length_of
at_least w least F s l p x q e =
    let i = and_then_found ((count w).parse s l p) _ x q e in
    let m = i.0 % 256 ^ w in
    let g = within_found s l p (i.1 + m) _ x q i.3 in
    let j = judged_found (unless (leb least i.0) (PastPart p)) (F.parse s (i.1 + m) i.1) x q g.2 in
    rw (i.2, le-leb (i.1 + m) (length s) g.0, le-leb (i.1 + m) l g.1) j.1

module _ (s : List ℕ) (b : Bytes s) (p : ℕ) (c : Command) (q : ℕ) (e : command.parse s (length s) p ≡ found c q) where
  parts : (tag_at s p ≡ found c.0 (p + 1)) × ((counted (least_of 2 (least c.0)) (said (order_of c.0))).parse s (length s) (p + 1) ≡ found c.1 q)
  unfolding command tag_at
  parts =
      let f = depending_found (number 1) (λ t. counted (least_of 2 (least t)) (said (order_of t))) s (length s) p c q e in
      let z = number_sized 1 s (length s) p c.0 f.0 f.1 in
      let h = number_inside 1 s (length s) p c.0 f.0 f.1 in
      (rw (lt-ltb p (length s) (omega (arith, h))) (f.1 ∙ ap (found c.0) z), ap ((counted (least_of 2 (least c.0)) (said (order_of c.0))).parse s (length s)) (sym z) ∙ f.2)

  holds : PartHolds (said (order_of c.0)) s (command_content s p) c.1 q
  unfolding command_content bytes_at
  holds =
      same_part (said (order_of c.0)) s _ (command_content s p) c.1 q (rw parts.0)
      (part_holds (least_of 2 (least c.0)) (said (order_of c.0)) (said_filling (order_of c.0)) s b (length s) (p + 1) c.1 q parts.1)

  begins : holds.at ≡ p + 3
  begins = (content_there s p holds.at holds.size (sym holds.is)).2

  entered : content_at c.0 s p ≡ found q (p + 3)
  unfolding content_at bytes_at
  entered =
      let g = bytes_hold (least_of 2 (least c.0)) (said (order_of c.0)) (said_filling (order_of c.0)) s b (length s) (p + 1) c.1 q parts.1 in
      rw (parts.0, eq-eqb c.0 c.0 refl, g.1)

  command_asked : CommandAsked s p c q
  unfolding command_tag
  command_asked =
      let is = holds.is ∙ ap (λ (a : ℕ). Ok (a, holds.size)) begins in
      let o = other_asked s p q holds.size is (omega (arith, holds.ends, begins)) holds.in_body_lem in
      record {
        tag_is = rw parts.0;
        content_holds = holds;
        content_begins = begins;
        order_is = order_asked s b p q c.0 c.1 parts.0 entered (ap ((said (order_of c.0)).parse s q) (sym begins) ∙ holds.inner) o;
        others = others_asked s p c.0 parts.0;
      }

  -- passed by its tag and its length, it ends there too
  passed : (y : List ℕ × List ℕ) × ((headed_part 1 2).parse s (length s) p ≡ found y q)
  unfolding followed bytes
  passed =
      let g = bytes_hold (least_of 2 (least c.0)) (said (order_of c.0)) (said_filling (order_of c.0)) s b (length s) (p + 1) c.1 q parts.1 in
      let f = at_least 2 (least c.0) rest s (length s) (p + 1) g.0 q g.1 in
      let h = (tag_found s p c.0 (p + 1) parts.0).2 in
      ((take 1 (drop p s), g.0), rw (le-leb (p + 1) (length s) (omega (arith, h)), f))

-- ---- the table

-- one thing more
repeat_next : {A : Type 0} (f : ℕ → Reading A) (i p : ℕ) (xs : List A) (t : ℕ) → repeat f i p ≡ found xs t → (y : A) (r : ℕ) → f t ≡ found y r
    → (ys : List A) × (repeat f (suc i) p ≡ found ys r)
unfolding repeat
repeat_next f zero p xs t e y r g = (y ∷ [], rw (ap f (found_inj e).1 ∙ g))
repeat_next f (suc i) p xs t e y r g =
    let a = and_then_found (f p) _ xs t e in
    let b = and_then_found (repeat f i a.1) _ xs t a.3 in
    let n = repeat_next f i a.1 b.0 t (b.2 ∙ ap (found b.0) (found_inj b.3).1) y r g in (
      a.0 ∷ n.0,
      ap (λ x. and_then x (λ z q. and_then (repeat f (suc i) q) (λ zs u. found (z ∷ zs) u))) a.2 ∙ ap (λ x. and_then x (λ zs u. found (a.0 ∷ zs) u)) n.1,
    )

-- the position after what was found
abbrev after : {A : Type 0} → Reading A → ℕ
after (found a q) = q
after (refused r) = 0

-- the commands that a list was read as, from 1 to `end`
module _ (s : List ℕ) (b : Bytes s) (cs : List Command) (end : ℕ) (counted_there : (count 1).parse s (length s) 0 ≡ found (length cs) 1)
    (e : repeat (command.parse s (length s)) (length cs) 1 ≡ found cs end) where
  -- where the i-th one begins: past those before it, by their tags and lengths
  abbrev place_of : ℕ → ℕ
  place_of i = after (repeat ((headed_part 1 2).parse s (length s)) i 1)

  record Nth (d : Command) (i : ℕ) : Type 0 where
    pub ends : ℕ
    pub reads : command.parse s (length s) (place_of i) ≡ found (get_or cs i d) ends
    pub next_begins : place_of (suc i) ≡ ends
    pub part_is : command_part s i ≡ Ok (place_of i, ends - place_of i)

  nth_command : (d : Command) (i : ℕ) → i < length cs → Nth d i
  unfolding command_part nth_of repeat
  nth_command d i h =
      let n = nth_same command (headed_part 1 2) s (length s) (passed s b) d (length cs) i 1 cs end e h in
      let past = rw (lt-ltb i (length cs) h) at n.3 in
      let one = passed s b n.1 (get_or cs i d) n.2 n.4 in
      let here : place_of i ≡ n.1 = ap after past in
      let more = repeat_next ((headed_part 1 2).parse s (length s)) i 1 n.0 n.1 past one.0 n.2 one.1 in
      record {
        ends = n.2;
        reads = rw here n.4;
        next_begins = ap after more.1;
        part_is = rw (counted_there, lt-ltb i (length cs) h, past, one.1);
      }

  none : Command
  unfolding order_of
  none = (0, [])

  commands_asked : CommandsAsked s cs end
  unfolding command_part repeat
  commands_asked =
      record {
        place = place_of;
        begins = refl;
        ends = ap after (all_same command (headed_part 1 2) s (length s) (passed s b) (length cs) 1 cs end e).1;
        command_is = λ i h.
            let n = nth_command none i h in
            let c = command_asked s b (place_of i) (get_or cs i none) n.ends n.reads in
            (n.ends - place_of i, n.part_is, omega (arith, n.next_begins, c.content_holds.ends, c.content_begins));
        command_fields = λ d i h.
            let n = nth_command d i h in
            subst (λ (q : ℕ). CommandAsked s (place_of i) (get_or cs i d) q) (sym n.next_begins) (command_asked s b (place_of i) (get_or cs i d) n.ends n.reads);
        command_past = λ i h. rw (counted_there, nth_past (headed_part 1 2) (length cs) i s (length s) 1 h);
      }

module _ (s : List ℕ) (b : Bytes s) (x : List Command × List ℕ) (q : ℕ) (e : fields.parse s (length s) 0 ≡ found x q) where
  -- where the commands end
  two : (r : ℕ) × ((list_of (count 1) command).parse s (length s) 0 ≡ found x.0 r) × ((opaque 2).parse s (length s) r ≡ found x.1 q)
  unfolding fields
  two = followed_found (list_of (count 1) command) (opaque 2) s (length s) 0 x q e

  commands : ((count 1).parse s (length s) 0 ≡ found (length x.0) 1) × (repeat (command.parse s (length s)) (length x.0) 1 ≡ found x.0 two.0)
  commands =
      let f = list_found (count 1) command s (length s) 0 x.0 two.0 two.1 in
      let z = count_sized 1 s (length s) 0 (length x.0) f.0 f.1 in
      (f.1 ∙ ap (found (length x.0)) z, ap (repeat (command.parse s (length s)) (length x.0)) (sym z) ∙ f.2)

  signed : signature_part s ≡ part_of ((opaque 2).parse s (length s) two.0)
  unfolding signature_part list_of
  signed = rw (commands.0, (all_same command (headed_part 1 2) s (length s) (passed s b) (length x.0) 1 x.0 two.0 commands.1).1)

  table_fields : ConfigurationAsked s (record { commands = x.0; signature = x.1 })
  unfolding command_count number_read
  table_fields =
      record {
        commands_counted = rw commands.0;
        end = two.0;
        commands_are = commands_asked s b x.0 two.0 commands.0 commands.1;
        signature_stands = (opaque_stands 2 s (length s) two.0 x.1 q two.2 (signature_part s) (signed ∙ ap part_of two.2) (two.0 + 2) refl).0;
      }

pub configuration_asked : (kind : ℕ) (s : List ℕ) → Bytes s → (t : Configuration) (q : ℕ) → reading configuration configuration_kind kind s ≡ found t q → ConfigurationAsked s t
unfolding configuration
configuration_asked kind s b t q e =
    let a = trips.accepted configuration configuration_filling configuration_kind kind s b t q e in
    let x = exact_found LeftOver _ s (length s) 0 t q a.2 in
    let v = view_found _ _ fields s (length s) 0 t q x.0 in
    subst (λ (y : Configuration). ConfigurationAsked s y) v.2 (table_fields s b v.0 q v.1)
