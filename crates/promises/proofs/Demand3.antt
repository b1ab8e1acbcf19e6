-- Demand 3: the theorems of account, and a takeover by the laws of feeding.
use Prim.Native.Nat.{ℕ}
use Rattle.std.specs.Prelude.{Ok}
use mathlib.Core.Path.{◌≡◌, sym, ◌∙◌}
use mathlib.Core.Bool.{true, or-true}
use mathlib.Core.List.{List}
use native.Mathlib.Omega.{arith}
use lib.ListN.{length}
use Rattle.section_reader.specs.Section.{payload_of, read_section}
use Rattle.section_reader.specs.declared.Heading.{Heading}
use Rattle.gathering_state.specs.State.{possible_of, nothing_begun, has_room}
use Rattle.gathering_state.specs.declared.Gathering.{Gathering}
use Rattle.gathering_state.proofs.State.{counts_right, first_counts}
use Rattle.gathering_tables.specs.Tables.{is_newer}
use Rattle.gathering_verdict.specs.Deciding.{fixed_heading, begins, verdict_of}
use Rattle.gathering_feed.specs.Feeding.{answer_by, state_by, store_by, fed_of}
use Rattle.gathering_verdict.specs.declared.Verdict.TheVariants.{Begin}
use Rattle.gathering_verdict.proofs.Verdicts.{good_begins, verdict_good}
use Rattle.gathering_feed.proofs.Steps.{feeds}
use Rattle.gathering_pack.specs.Packing.{packing_of}
use Rattle.gathering_account.proofs.Demand3.{demand_3, handing_answers}
use Rattle.gathering_account.proofs.Answering.{run_possible, feed_answers, run_answers}
use Rattle.gathering_account.proofs.Counts.{stays_possible, counts_stay_right, untaken_counts, whole_counts}
use Rattle.gathering_account.proofs.Growing.{table_room}
use Rattle.gathering_account.proofs.Latest.{latest, first_alone}
use Rattle.gathering_account.proofs.Whole.{arrives_whole, first_arrives}
use Rattle.gathering_account.proofs.Cuts.{printed_arrives, cut_arrives}
use Rattle.gathering_account.proofs.Listed.{comes_back}
use Rattle.gathering_account.proofs.Calls.{calls_serve, feeds_alone}
use Rattle.gathering_pack.proofs.Packing.{packed_fresh, packs_possible, packs_as_handing, packs_counted, packs_long}
use Rattle.gathering_account.specs.Account.{idle}
use Rattle.gathering_account.specs.Gathers.{fresh_box}
use Rattle.promises.specs.Demand3.{fed_to, Demand3}

-- a newer table's section that finds room begins
module _ (g : Gathering) (store s : List ℕ) (h : Heading) (n : ℕ) (p : possible_of g ≡ true) (e : read_section s ≡ Ok (h, n)) (c : h.current ≡ true)
    (newer : is_newer (fixed_heading g) h ≡ true) (r : has_room (length store) h.last ≡ true) where
  first : begins g h ≡ true
  unfolding begins
  first = rw newer (or-true (nothing_begun g))

  over : verdict_of g store s ≡ Ok (Begin h)
  over = verdict_good g store s p h n e ∙ good_begins g store h (payload_of s) (record { current = rw c; known = rw first; roomy = rw r }) first

  new_alone : ((fed_of g store s).state.missing ≡ h.last) × ((fed_of g store s).state.bytes ≡ length (payload_of s))
  unfolding state_by
  new_alone = rw (← (feeds g store s (Ok (Begin h)) over).0) (first_counts h (length (payload_of s)))

pub demand3 : Demand3
unfolding answer_by state_by store_by
demand3 =
    record {
      calls = calls_serve;
      feeds_alone = λ store. feeds_alone (has_room (length store)) (fresh_box store) idle;
      only_when = λ store fed b out. (demand_3 store fed b out).only_when;
      when = λ store fed b out. (demand_3 store fed b out).when;
      body_is = λ store fed b out. (demand_3 store fed b out).body_is;
      answers = handing_answers;
      feeds = feed_answers;
      all_feeds = run_answers;
      possible = run_possible;
      has_room_lem = λ store. table_room (has_room (length store));
      takes_over = λ g store s h n p e c newer r. let f = feeds g store s (Ok (Begin h)) (over g store s h n p e c newer r) in (sym f.0, sym f.1);
      counts_right = λ store fed b. counts_right (fed_to store fed).state (run_possible store fed b);
      stays_possible = stays_possible;
      counts_stay_right = counts_stay_right;
      counts_stay = untaken_counts;
      takeover_counts = new_alone;
      whole_counts = whole_counts;
      latest = λ store. latest (has_room (length store));
      no_takeover = λ store. first_alone (has_room (length store));
      arrives = arrives_whole;
      arrives_first = λ store fed b h sections cut x. arrives_whole store fed b h sections cut (first_arrives (has_room (length store)) h sections cut fed x);
      printed_arrives = printed_arrives;
      cut_arrives = cut_arrives;
      comes_back = comes_back;
      packs_as_handing = λ g store l. packs_as_handing g store (omega arith);
      packs_counted = λ g store n l e. (packed_fresh g store n e, packs_counted g store (omega arith) n e);
      packs_possible = λ g store p. let q = packs_possible g store p in (q, counts_right (packing_of g store).state q);
      packs_long = λ g store l. packs_long g store (omega arith);
    }
