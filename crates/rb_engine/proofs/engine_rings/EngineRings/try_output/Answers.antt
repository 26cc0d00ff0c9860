use Rattle.std.proofs.Common.{◌<◌, length, refl, ap, arith, rules, inl, inr}
use Rattle.rb_engine.specs.EngineCalls.{RunRings}
use Rattle.rb_engine.specs.RingCalls.{IsNotSent, Outputs}
use Rattle.rb_engine.specs.RingTurns.{AfterTurn}
use Rattle.rb_engine.proofs.OneRing.{at-ring}
use Rattle.rb_history.specs.declared.answers.Notice.{Notice}
use Rattle.rb_engine.proofs.Noting.{again-not-bad, again-not-none, none-not-again, none-not-bad}
use Rattle.rb_engine.proofs.engine_rings.EngineRings.try_output.Goals as goal

pub returns-in_default-clause-answered : goal.returns-in_default-clause-answered
returns-in_default-clause-answered c =
    let below : c.args.ring < length c.self.inside.rings.items = search rules in record {
      answer_is = (((λ e. absurd (again-not-bad e)), (λ many. absurd (omega (arith, many, c.if-flags-gt-KNOWN_FLAGS.false)))), inr (inl refl));
      sent = λ e. absurd (again-not-none e);
      refused = λ e. at-ring (IsNotSent (length c.args.bytes.now)) c.args.self.now.rings c.self.inside.rings.items c.args.ring c.index_mut.result.now c.output.new.self (ap (λ (h : RunRings). h.rings) c.self.view_is) below c.index_mut.ensures.value c.in_default.ensures.not_sent;
      no_step = λ e. absurd (again-not-bad e);
    }

pub returns-clause-answered : goal.returns-clause-answered
returns-clause-answered c =
    let below : c.args.ring < length c.self.inside.rings.items = search rules in record {
      answer_is = (((λ e. absurd (none-not-bad e)), (λ many. absurd (omega (arith, many, c.if-flags-gt-KNOWN_FLAGS.false)))), inl refl);
      sent = λ e. at-ring (λ b a. (notice : Notice) × AfterTurn (Outputs c.args.bytes.now c.args.flags notice) b a) c.args.self.now.rings c.self.inside.rings.items c.args.ring c.index_mut.result.now c.output.new.self (ap (λ (h : RunRings). h.rings) c.self.view_is) below c.index_mut.ensures.value (c.in-Ok.field-0, c.in-Ok.ensures.sent);
      refused = λ e. absurd (none-not-again e);
      no_step = λ e. absurd (none-not-bad e);
    }
