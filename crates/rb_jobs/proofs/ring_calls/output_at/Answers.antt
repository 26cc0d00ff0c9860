use Rattle.std.proofs.Common.{◌≡◌, ◌≢◌, ◌∙◌, length, refl, rules, arith, subst}
use Rattle.rb_chapter_ring.specs.declared.faults.ReserveFault.TheVariants.{ChapterFull, HandsFull}
use Rattle.rb_jobs.specs.SeatCalls.{SeatOutputs}
use Rattle.rb_jobs.specs.inner.CallAnswers.{SeatFailsOnce, is_due_by}
use Rattle.rb_jobs.proofs.ChapterTries.{found-full, gave-up-sending, none-so-far, not-sent-at-last, one-more-full, sent-at-last, still-at}
use Rattle.rb_jobs.proofs.ring_calls.output_at.Goals as goal

pub loop-calls-init : goal.loop-calls-init
loop-calls-init g c = (none-so-far (length c.args.sheet) c.args.seat.now, refl)

pub output_once-requires-clause-at_ring : goal.output_once-requires-clause-at_ring
output_once-requires-clause-at_ring g c = still-at _ _ _ c.requires.at_ring c.loop-calls.invariant.0.same

pub returns-in-Ok-clause-answer : goal.returns-in-Ok-clause-answer
returns-in-Ok-clause-answer g c =
    sent-at-last c.args.sheet c.args.flags c.loop-calls.calls c.args.seat.now c.loop-calls.seat c.loop-calls.invariant.0 _ c.output_once.new.seat
    (subst (λ bytes. SeatOutputs bytes c.args.flags (is_due_by c.in-Ok.notice) c.loop-calls.seat c.output_once.new.seat) c.loop-calls.invariant.1 c.in-Ok.ensures.answer)

pub returns-then-not-is_chapter_full-clause-answer : goal.returns-then-not-is_chapter_full-clause-answer
returns-then-not-is_chapter_full-clause-answer g c =
    let other : c.in-Err.fault ≢ ChapterFull = search rules in
    not-sent-at-last c.args.sheet c.args.flags c.loop-calls.calls c.args.seat.now c.loop-calls.seat c.loop-calls.invariant.0 c.in-Err.fault c.output_once.new.seat other
    (subst (λ bytes. SeatFailsOnce (length bytes) c.in-Err.fault c.loop-calls.seat c.output_once.new.seat × (c.in-Err.fault ≢ HandsFull)) c.loop-calls.invariant.1 c.in-Err.ensures.answer)

pub loop-calls-preserved : goal.loop-calls-preserved
loop-calls-preserved g c =
    let full : c.in-Err.fault ≡ ChapterFull = search rules in
    let fails = subst (λ bytes. SeatFailsOnce (length bytes) c.in-Err.fault c.loop-calls.seat c.output_once.new.seat × (c.in-Err.fault ≢ HandsFull)) c.loop-calls.invariant.1 c.in-Err.ensures.answer in (
      one-more-full (length c.args.sheet) c.loop-calls.calls c.args.seat.now c.loop-calls.seat c.output_once.new.seat c.loop-calls.invariant.0 c.output_once.ensures.seat
          (found-full (length c.args.sheet) c.in-Err.fault c.loop-calls.seat c.output_once.new.seat full fails.0),
      c.in-Err.ensures.handed_back ∙ c.loop-calls.invariant.1,
    )

pub returns-clause-answer : goal.returns-clause-answer
returns-clause-answer g c = gave-up-sending (length c.args.sheet) c.loop-calls.calls c.args.seat.now c.loop-calls.seat (omega (arith, c.loop-calls-test.false, c.loop-calls.auto.calls-end)) c.loop-calls.invariant.0
