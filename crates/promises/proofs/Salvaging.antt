-- M-110: each promise by the law that crate salvage has of it.
use Rattle.salvage.proofs.Standing.{sections_most, runs_most}
use Rattle.salvage.proofs.Whole.{runs_follow, covered_once, runs_apart, written_are_kept, kept_are_good, none_passed_over, comes_out_as_it_was, no_runs}
use Rattle.promises.specs.Salvaging.{Salvaging}

pub salvaging : Salvaging
salvaging =
    record {
      follow = runs_follow;
      covered_once = covered_once;
      apart_all = runs_apart;
      written = written_are_kept;
      kept_good = kept_are_good;
      none_passed_over = none_passed_over;
      only_good = comes_out_as_it_was;
      nothing = no_runs;
      bytes_most = sections_most;
      runs_most = runs_most;
    }
