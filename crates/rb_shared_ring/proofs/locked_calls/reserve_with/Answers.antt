use Rattle.std.proofs.Common.{rules, ap, ◌∙◌}
use Rattle.rb_chapter_ring.specs.TaggedRing.{TaggedRing}
use Rattle.rb_shared_ring.proofs.AnswersMeet.{meets-reserve}
use Rattle.rb_shared_ring.proofs.HandPassing.{worker-low, hand-free, took-lent}
use Rattle.rb_shared_ring.proofs.SeatPassing.{put-reserve, reserved}
use Rattle.rb_shared_ring.proofs.LockedSteps.{kept-by-facts}
use Rattle.rb_shared_ring.proofs.locked_calls.reserve_with.Goals as goal

pub reserve-answer-requires : goal.reserve-answer-requires
reserve-answer-requires g c =
    let took = took-lent _ _ _ _ (c.set_tag.ensures.same_state ∙ ap (λ (s : TaggedRing). s.state) c.as_mut-state.ensures.value) c.take_out-held.ensures.took in
    record { worker = worker-low c.args.worker _ _ _ c.requires.idle took; hand = hand-free c.args.worker _ _ _ c.requires.idle took c.args.hand c.requires.hand; sized = c.requires.sized }

pub put_back-requires-clause-step : goal.put_back-requires-clause-step
put_back-requires-clause-step g c =
    let took = took-lent _ _ _ _ (c.set_tag.ensures.same_state ∙ ap (λ (s : TaggedRing). s.state) c.as_mut-state.ensures.value) c.take_out-held.ensures.took in
    let e = c.reserve-answer.ensures in
    put-reserve c.args.worker _ _ _ _ c.requires.idle took (kept-by-facts c.reserve-answer.new.self.state c.facts.ensures.kept c.facts.ensures.stands c.facts.ensures.bounded c.facts.ensures.hands) c.args.hand c.args.n c.reserve-answer.result (meets-reserve _ _ _ _ _ c.reserve-answer.result e.granted e.worker e.zeros e.refused e.known_flags e.same_hands)

pub returns : goal.returns
returns g c =
    let took = took-lent _ _ _ _ (c.set_tag.ensures.same_state ∙ ap (λ (s : TaggedRing). s.state) c.as_mut-state.ensures.value) c.take_out-held.ensures.took in
    let e = c.reserve-answer.ensures in
    let told = reserved c.args.worker _ _ _ _ c.requires.idle took (kept-by-facts c.reserve-answer.new.self.state c.facts.ensures.kept c.facts.ensures.stands c.facts.ensures.bounded c.facts.ensures.hands) _ c.put_back.ensures.put c.args.hand c.args.n c.reserve-answer.result c.requires.hand (meets-reserve _ _ _ _ _ c.reserve-answer.result e.granted e.worker e.zeros e.refused e.known_flags e.same_hands) in
    record {
      same = search rules;
      idle = told.idle;
      call = told.call;
      bytes = told.bytes;
      room = told.room;
      hands = told.hands_are;
      holds = told.holds;
      cut = told.cut;
      tag = search rules;
      hand = e.hand;
      handed_back = e.handed_back;
    }
