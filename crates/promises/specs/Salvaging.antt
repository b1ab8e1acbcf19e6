-- M-110, sentence by sentence: what is kept of a damaged capture, what is skipped, and that nothing good is passed over.
use Rattle.std.specs.Prelude.{ℕ, ◌+◌, ◌*◌, ◌≤◌, ◌<◌, ◌≡◌, true, List, [], length}
use Rattle.salvage.specs.Runs.{runs_of}
use Rattle.salvage.specs.Salvage.{sections}
use Rattle.salvage.specs.Said.{Follow, holders, apart, kept_bytes, Each, KeepsGood, SkipsNone, joined, AllGood, kept_runs}

pub record Salvaging : Type 0 where
  -- "The runs follow each other [..] and together they cover the capture once"
  pub follow : (capture : List ℕ) → Follow 0 (runs_of capture) (length capture)
  pub covered_once : (capture : List ℕ) (i : ℕ) → i < length capture → holders i (runs_of capture) ≡ 1
  -- "no two skipped runs touch"
  pub apart_all : (capture : List ℕ) → apart (runs_of capture) ≡ true
  -- "It writes the good sections back to back": the bytes of the kept runs, in their order; "What was kept is unchanged"
  pub written : (capture : List ℕ) → sections capture ≡ kept_bytes capture (runs_of capture)
  -- each of them is one good section
  pub kept_good : (capture : List ℕ) → Each (KeepsGood capture) (runs_of capture)
  -- "takes a good section wherever one begins": none begins in a skipped run
  pub none_passed_over : (capture : List ℕ) → Each (SkipsNone capture) (runs_of capture)
  -- "A capture made only of good sections comes out as it was, with one kept run per section"
  pub only_good : (ss : List (List ℕ)) → AllGood ss → (sections (joined ss) ≡ joined ss) × (runs_of (joined ss) ≡ kept_runs 0 ss)
  -- a capture of no bytes has no runs
  pub nothing : runs_of [] ≡ []
  -- so much room is always enough: the header's NW_SALVAGE_BYTES and NW_SALVAGE_RUNS
  pub bytes_most : (capture : List ℕ) → length (sections capture) ≤ length capture
  pub runs_most : (capture : List ℕ) → 13 * length (runs_of capture) ≤ 2 * length capture + 11
