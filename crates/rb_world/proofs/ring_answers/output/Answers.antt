use Rattle.std.proofs.Common.{refl, sym, ap, subst, length, to_z, of_z, w64}
use Rattle.rb_chapter_ring.specs.ChapterCalls.{OutputsByChapter}
use Rattle.rb_world.specs.inner.RingAnswers.{IsOutput, IsWholeAnswer}
use Rattle.rb_world.proofs.WholeCalls.{output-bad, output-unlogged, output-made, output-refused}
use Rattle.rb_world.proofs.ring_answers.output.Goals as goal

pub returns-then-flags-gt-KNOWN_FLAGS-clause-given : goal.returns-then-flags-gt-KNOWN_FLAGS-clause-given
returns-then-flags-gt-KNOWN_FLAGS-clause-given c = output-bad c.args.ring.now.state.ring c.args.ring.now.state.ring c.args.worker c.args.bytes.now c.args.flags c.if-flags-gt-KNOWN_FLAGS.true refl

pub returns-in_default-clause-given : goal.returns-in_default-clause-given
returns-in_default-clause-given c = output-unlogged c.args.ring.now.state.ring c.args.ring.now.state.ring c.args.worker c.args.bytes.now c.args.flags c.if-flags-gt-KNOWN_FLAGS.false refl

pub returns-in-Ok-clause-given : goal.returns-in-Ok-clause-given
returns-in-Ok-clause-given c =
    output-made c.args.ring.now.state.ring c.output.new.self.state.ring c.args.worker c.args.bytes.now c.args.flags c.requires.worker c.in-Ok.ensures.known_flags c.facts.ensures.stands
    (subst (λ sheet. OutputsByChapter c.args.ring.now.state.ring c.output.new.self.state.ring c.args.worker sheet) c.in-Some.ensures.copied c.in-Ok.ensures.granted)

pub returns-in-Err-clause-given : goal.returns-in-Err-clause-given
returns-in-Err-clause-given c =
    subst (λ code. IsWholeAnswer (λ v v'. IsOutput v v' c.args.worker c.args.bytes.now c.args.flags (to_z w64 (of_z w64 code))) c.args.ring.now.state.ring c.output.new.self.state.ring) (sym c.code_of_refusal-code.ensures.code)
    (output-refused c.args.ring.now.state.ring c.output.new.self.state.ring c.args.worker (length c.in-Some.sheet) c.args.bytes.now c.args.flags c.in-Err.fault c.requires.worker c.if-flags-gt-KNOWN_FLAGS.false (ap length c.in-Some.ensures.copied) c.code_of_refusal-code.ensures.stands c.in-Err.ensures.refused)
