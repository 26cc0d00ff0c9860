use Rattle.std.proofs.Common.{◌-◌, refl, ap, ◌∙◌, length, arith, rules}
use Rattle.rb_workers.proofs.Merges.{gathered_none, gathered_more}
use Rattle.rb_workers.proofs.job_answers.gather_answers.Goals as goal

pub loop-rest-init : goal.loop-rest-init
loop-rest-init c = (omega (arith, ap length c.requires.empty), refl, gathered_none c.args.jobs.now c.args.workers.now c.args.results.items c.requires.empty c.requires.each)

pub loop-rest-preserved : goal.loop-rest-preserved
loop-rest-preserved c =
    let i = c.loop-rest.invariant in (
      omega arith,
      c.push_reserved.ensures.capacity ∙ i.1,
      gathered_more c.args.jobs.now c.args.workers.now c.loop-rest.rest (c.loop-rest.rest - 1) c.loop-rest.results.items c.push_reserved.new.self.items c.loop-rest.unlogged c.from-unlogged.result c.loop-rest.workers _ c.index-workers-jobs.result c.take_answer-answer.new.self c.take_answer-answer.result
          (omega arith) (omega arith) c.loop-rest.auto.workers (c.requires.known (c.loop-rest.rest - 1) _ (omega arith)) c.take_answer-answer.ensures.one_less (search rules) c.push_reserved.ensures.items c.from-unlogged.ensures i.2,
    )
