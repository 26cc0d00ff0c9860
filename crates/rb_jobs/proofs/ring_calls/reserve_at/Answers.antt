use Rattle.std.proofs.Common.{◌≡◌, ◌≢◌, ◌∙◌, refl, rules, arith, subst}
use Rattle.rb_chapter_ring.specs.Hands.{AreAllOut}
use Rattle.rb_chapter_ring.specs.declared.faults.ReserveFault.TheVariants.{ChapterFull}
use Rattle.rb_jobs.proofs.ChapterTries.{fails-at-last, found-full, gave-up, granted-at-last, none-so-far, one-more-full, still-at}
use Rattle.rb_jobs.proofs.ring_calls.reserve_at.Goals as goal

pub loop-calls-init : goal.loop-calls-init
loop-calls-init g c = (none-so-far c.args.n c.args.seat.now, refl, λ some. absurd (omega (arith, some)))

pub reserve_once-requires-clause-at_ring : goal.reserve_once-requires-clause-at_ring
reserve_once-requires-clause-at_ring g c = still-at _ _ _ c.requires.at_ring c.loop-calls.invariant.0.same

pub returns-in-Ok-clause-answer : goal.returns-in-Ok-clause-answer
returns-in-Ok-clause-answer g c =
    granted-at-last c.args.n c.loop-calls.calls c.args.seat.now c.loop-calls.seat c.loop-calls.invariant.0 c.in-Ok.reservation c.reserve_once.new.seat c.in-Ok.ensures.answer

pub returns-then-not-is_chapter_full-clause-answer : goal.returns-then-not-is_chapter_full-clause-answer
returns-then-not-is_chapter_full-clause-answer g c =
    let other : c.in-Err.fault ≢ ChapterFull = search rules in
    fails-at-last c.args.n c.loop-calls.calls c.args.seat.now c.loop-calls.seat c.loop-calls.invariant.0 c.in-Err.fault c.reserve_once.new.seat c.loop-calls.invariant.2 other c.in-Err.ensures.answer

pub loop-calls-preserved : goal.loop-calls-preserved
loop-calls-preserved g c =
    let full : c.in-Err.fault ≡ ChapterFull = search rules in (
      one-more-full c.args.n c.loop-calls.calls c.args.seat.now c.loop-calls.seat c.reserve_once.new.seat c.loop-calls.invariant.0 c.reserve_once.ensures.seat
          (found-full c.args.n c.in-Err.fault c.loop-calls.seat c.reserve_once.new.seat full c.in-Err.ensures.answer),
      c.in-Err.ensures.handed_back ∙ c.loop-calls.invariant.1,
      λ some. subst (λ hands. ¬ AreAllOut hands) c.loop-calls.invariant.0.hands (c.in-Err.ensures.free full),
    )

pub returns-clause-answer : goal.returns-clause-answer
returns-clause-answer g c =
    gave-up c.args.n c.loop-calls.calls c.args.seat.now c.loop-calls.seat (omega (arith, c.loop-calls-test.false, c.loop-calls.auto.calls-end)) c.loop-calls.invariant.0
