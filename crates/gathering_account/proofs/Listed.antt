-- There are such feeds: sections fed one after the other meet what 'arrives whole' asks for, so what our cutter cuts comes back as it was.
use Prim.Native.Nat.{ℕ, zero, suc, ◌+◌, ◌≤◌, ◌<◌}
use mathlib.Core.Path.{◌≡◌, refl, ◌∙◌, ap}
use mathlib.Core.Bool.{Bool, true, false}
use mathlib.Core.List.Memᴰ
use mathlib.Core.List.{List, [], Memᴰ as In}
use mathlib.Core.Logic.{◌⊎◌, inl, inr}
use native.Mathlib.Nat.{zero-add}
use native.Mathlib.Numerals.{add-one}
use native.Mathlib.Omega.{arith}
use lib.ListN.{length}
use Rattle.crc.specs.Crc.{AreBytes}
use Rattle.section_reader.specs.Section.{WellFormed}
use Rattle.section_cutter.specs.Cutting.{section_count, part_carried, cut_heading, section_of, Allowed}
use Rattle.section_reader.specs.declared.Heading.{Heading}
use Rattle.section_cutter.proofs.Counting.{count_most}
use Rattle.section_reader.proofs.Reading.{kind_within}
use Rattle.gathering_state.specs.State.{has_room}
use Rattle.gathering_account.specs.Gathers.{fresh_box, ByteStrings, box_after, HandsOut}
use Rattle.gathering_tables.specs.Tables.{is_newer}
use Rattle.gathering_account.specs.Account.{good_current, heard, account}
use Rattle.gathering_account.specs.Latest.{begins_after}
use Rattle.gathering_account.specs.Arrival.{CutInto, Arrives, sections_listed}
use Rattle.gathering_account.proofs.Standing.{never}
use Rattle.gathering_account.proofs.Growing.{heard_same, own_not_newer}
use Rattle.gathering_account.proofs.Cuts.{cut_count, cutter_cut, cut_arrives}
use Rattle.gathering_account.proofs.Bytes.{part_bytes, printed_bytes}

module _ (sections : ℕ → List ℕ) where
  listed_in : (k n i : ℕ) → i < n → In (sections (k + i)) (sections_listed sections k n)
  unfolding sections_listed
  listed_in k zero i l = absurd (omega arith)
  listed_in k (suc n) zero l = In.head (ap sections (let e : k + 0 ≡ k = omega arith in e))
  listed_in k (suc n) (suc i) l =
      let e : suc k + i ≡ k + suc i = omega arith in
      In.tail (rw e at (listed_in (suc k) n i (omega arith)))

  listed_only : (k n : ℕ) (s : List ℕ) → In s (sections_listed sections k n) → (i : ℕ) × (i < k + n) × (s ≡ sections i)
  unfolding sections_listed
  listed_only k zero s i = absurd (Memᴰ.not-nil i)
  listed_only k (suc n) s i = go (Memᴰ.cases_cons i) (λ j. listed_only (suc k) n s j)
    where
      go : (s ≡ sections k) ⊎ In s (sections_listed sections (suc k) n) → (In s (sections_listed sections (suc k) n) → (i : ℕ) × (i < suc k + n) × (s ≡ sections i))
          → (i : ℕ) × (i < k + suc n) × (s ≡ sections i)
      go (inl e) next = (k, omega arith, e)
      go (inr j) next = let r = next j in (r.0, omega arith, r.2)

  -- none of a table's own sections is ahead of it
  own_behind : (h : Heading) → CutInto h sections → (k : ℕ) → k ≤ h.last → (s : List ℕ) → s ≡ sections k
      → (i : Heading) (p : List ℕ) → heard s ≡ good_current i p → is_newer h i ≡ false
  unfolding CutInto
  own_behind h cut k l s q i p e = ap (is_newer h) (heard_same s _ _ _ _ e (ap heard q ∙ cut k l)).0 ∙ own_not_newer h k

  pub listed_arrives : (room : ℕ → Bool) (h : Heading) → CutInto h sections → room h.last ≡ true
      → Arrives room h sections (sections_listed sections 0 (h.last + 1))
  unfolding sections_listed begins_after account
  listed_arrives room h cut r =
      record {
        roomy = r;
        before = [];
        first = 0;
        after = sections_listed sections 1 h.last;
        of_table = omega arith;
        fed_is = rw (add-one h.last);
        begins = refl;
        all = λ k l. rw (zero-add k, add-one h.last) at (listed_in 0 (h.last + 1) k (omega arith));
        no_stranger = λ s i t p e f. let o = listed_only 1 h.last s i in (o.0, omega arith, o.2);
        none_ahead = λ s i t p e f. let o = listed_only 1 h.last s i in never (is_newer h t) f (own_behind h cut o.0 (omega arith) s o.2 t p e);
      }

-- what our cutter cuts, fed section by section to a fresh state with room in the store, comes back
module _ (body : List ℕ) (kind extension version : ℕ) (bytes : AreBytes body) (allowed : Allowed kind extension version) (some : 0 < length body)
    (most : length body ≤ 1045504) where
  abbrev h : Heading
  h = cut_heading (length body) kind extension version 0

  formed : (number : ℕ) → number < section_count (length body) → WellFormed (cut_heading (length body) kind extension version number)
  unfolding cut_heading
  formed number l =
      let k = kind_within kind allowed.kind_of in
      let m = count_most (length body) most in
      record {
        kind_low = k.0;
        kind_high = k.1;
        extension_high = allowed.extension_high;
        version_high = allowed.version_high;
        number_high = omega arith;
        last_high = omega arith;
      }

  section_bytes : (number : ℕ) → number < section_count (length body) → AreBytes (section_of body kind extension version number)
  unfolding section_of
  section_bytes number l =
      printed_bytes (cut_heading (length body) kind extension version number) (part_carried body number) (formed number l) (part_bytes body number bytes)

  pub comes_back : (store : List ℕ) → has_room (length store) h.last ≡ true → (out : List ℕ) → length body ≤ length out
      → HandsOut (box_after (fresh_box store) (sections_listed (section_of body kind extension version) 0 (section_count (length body)))) out body
  unfolding ByteStrings
  comes_back store room out l =
      cut_arrives body kind extension version allowed some most store (sections_listed (section_of body kind extension version) 0 (section_count (length body)))
      (λ s i. let o = listed_only (section_of body kind extension version) 0 (section_count (length body)) s i in rw o.2 (section_bytes o.0 (omega arith)))
      (rw (cut_count body kind extension version allowed some most) at (listed_arrives (section_of body kind extension version) (has_room (length store)) h
      (cutter_cut body kind extension version allowed some most) room)) out l
