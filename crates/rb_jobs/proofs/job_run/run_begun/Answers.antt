use Rattle.std.proofs.Common.{◌≤◌, ◌∙◌, List, ap, refl, rules, subst}
use Rattle.rb_program.specs.Program.{unit_count}
use Rattle.rb_insn.specs.declared.insn.Insn.{Insn}
use Rattle.rb_jobs.specs.SeatHelpers.{AtSeats}
use Rattle.rb_jobs.proofs.Leading.{leads_seats}
use Rattle.rb_jobs.specs.Jobs.{task_of}
use Rattle.rb_jobs.proofs.Doing.{did_counted, few_unlogged}
use Rattle.rb_jobs.proofs.job_run.run_begun.Goals as goal

pub returns-clause-ran : goal.returns-clause-ran
returns-clause-ran g c =
    let start : AtSeats = c.count_from.new.self in
    let now : AtSeats = c.run_in-result.new.helpers in
    let shows = c.run_in-result.ensures.shows in
    did_counted (task_of c.args.job.now) _ shows.0 start now _ _ _ _ _ _ _ (c.count_from.ensures.same ∙ c.requires.begun) c.unlogged-unlogged.ensures.count refl
    refl (search rules) c.run_in-result.ensures.length shows.1 (c.run_in-result.ensures.never_stray refl) c.run_in-result.ensures.balanced shows.2

pub returns-clause-few : goal.returns-clause-few
returns-clause-few g c =
    let shows = c.run_in-result.ensures.shows in
    few_unlogged c.count_from.new.self c.run_in-result.new.helpers shows.0 c.args.job.now.program.now.program _ _ _ (c.count_from.ensures.same ∙ c.requires.begun) shows.2 c.unlogged-unlogged.ensures.within (subst (λ (p : List Insn). unit_count p ≤ 4096) c.program.ensures c.facts.ensures.bounds.not_too_long)

pub returns-clause-rings : goal.returns-clause-rings
returns-clause-rings g c =
    let shows = c.run_in-result.ensures.shows in
    (leads_seats c.count_from.new.self c.run_in-result.new.helpers shows.0 shows.2).rings_same ∙ ap (λ (h : AtSeats). h.rings) c.count_from.ensures.same
