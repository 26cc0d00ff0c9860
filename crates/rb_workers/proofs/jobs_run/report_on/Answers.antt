use Rattle.std.proofs.Common.{rules}
use Rattle.rb_workers.proofs.jobs_run.report_on.Goals as goal

pub returns-clause-answers : goal.returns-clause-answers
returns-clause-answers g c =
    let gathered = c.gather_answers-results.ensures in
    record {
      answers = gathered.answers;
      one_each = gathered.one_each;
      own_are = gathered.own_are;
      results_are = gathered.results_are;
      strays_are = search rules;
      unlogged_is = gathered.unlogged_is;
    }
