use Rattle.driver_tables.proofs.LawLemmas.{lists_tell, answers_once, done_by_its_driver, none_to_older, newest_rises}
use Rattle.driver_tables.proofs.LawLemmas.{block_requests_are_kept}
use Rattle.driver_tables.proofs.laws.runs_keep_requests.Goals as goal

pub returns : goal.returns
returns c =
    record {
      told = lists_tell;
      once = answers_once;
      done = done_by_its_driver;
      living = none_to_older;
      rising = newest_rises;
      kept =
          block_requests_are_kept;
    }
