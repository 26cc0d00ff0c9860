use Rattle.std.proofs.Common.{◌≡◌, refl, sym, ap, subst, ◌∙◌, to_z, of_z, w64}
use Rattle.std.specs.Prelude.{ℤ}
use Rattle.rb_world.specs.CallsInWorld.{RecordOutcome, BadFlags, NoRoom, Made, answer_to_output, Unlogged}
use Rattle.rb_semantics.specs.declared.pending_call.PendingCall.TheVariants as asked
use Rattle.rb_semantics.specs.HelperCalls.{Code}
use Rattle.rb_chapter_ring.specs.Chapters.{joined}
use Rattle.rb_chapter_ring.specs.ChapterRing.{whole_ring}
use Rattle.rb_world.specs.WorldValue.{KeptRing, world_ring}
use Rattle.rb_world.specs.TurnsDone.{chapters_of}
use Rattle.rb_world.specs.RecordReasons.{OutputsOrHasReason}
use Rattle.rb_world.specs.inner.RingAnswers.{IsOutput}
use Rattle.rb_world.specs.inner.HeldInHands.{hands_shown}
use Rattle.rb_world.proofs.KeptChapters.{kept-of, same-has}
use Rattle.rb_world.proofs.WholeCalls.{same-chapters}
use Rattle.rb_world.proofs.MachineAnswers.{output-answered}
use Rattle.rb_world.proofs.Reasons.{same-some}
use Rattle.rb_world.proofs.consumed_ring.ConsumedRing.answer_output.Goals as goal

-- the return codes of an output survive the conversion through 64 bits
read : (a b : ℤ) → Code a ≡ Code b → to_z w64 (of_z w64 a) ≡ a → to_z w64 (of_z w64 b) ≡ b
read a b e same = let is : a ≡ b = cc in subst (λ n. to_z w64 (of_z w64 n) ≡ n) is same

code-back : (outcome : RecordOutcome) (code : ℤ) → answer_to_output outcome ≡ Code code → to_z w64 (of_z w64 code) ≡ code
code-back BadFlags code e = read _ code e refl
code-back Unlogged code e = read _ code e refl
code-back NoRoom code e = read _ code e refl
code-back (Made p k) code e = read _ code e refl

pub returns-clause-answered : goal.returns-clause-answered
returns-clause-answered c =
    let s : KeptRing = record { ring = c.self.inside.ring; chapters = c.self.inside.chapters.items; taken = c.self.inside.taken.items } in
    let v = whole_ring (joined s.chapters) s.ring.state.ring in
    let v' = whole_ring (joined s.chapters) c.output-code.new.ring.state.ring in
    let code = c.output-code.result in
    let given = (c.output-code.ensures.given (joined s.chapters) (kept-of _ c.self.invariant)).1 in
    let back : to_z w64 (of_z w64 code) ≡ code = code-back given.0 code given.1 in
    output-answered c.args.w (world_ring c.args.self.now) v v' s.taken (ap world_ring c.self.view_is) c.args.machine.now c.answer.new.self c.answer.ensures.program c.args.flags c.output.result.now (to_z w64 (of_z w64 code))
    (subst (λ n. IsOutput v v' c.args.w c.output.result.now c.args.flags n) (sym back) given) c.output.ensures (c.answer.ensures.goes_on asked.Output c.requires.waits) c.answer.ensures.records

pub invariant_of-self : goal.invariant_of-self
invariant_of-self c =
    let s : KeptRing = record { ring = c.self.inside.ring; chapters = c.self.inside.chapters.items; taken = c.self.inside.taken.items } in
    same-has s c.output-code.new.ring s.taken c.self.invariant c.output-code.ensures.same_chapter (c.output-code.ensures.given (joined s.chapters) (kept-of s c.self.invariant)).0

pub returns-clause-chapters : goal.returns-clause-chapters
returns-clause-chapters c =
    let s : KeptRing = record { ring = c.self.inside.ring; chapters = c.self.inside.chapters.items; taken = c.self.inside.taken.items } in
    same-chapters s c.output-code.new.ring s.taken c.output-code.ensures.same_tag c.output-code.ensures.same_chapter ∙ ap chapters_of c.self.view_is

pub returns-clause-hands : goal.returns-clause-hands
returns-clause-hands c = c.output-code.ensures.same_hands ∙ ap hands_shown c.self.view_is

pub returns-clause-reason : goal.returns-clause-reason
returns-clause-reason c = λ bytes lent known.
    let same = same-some c.output.result.now bytes (sym c.output.ensures ∙ lent) in
    subst (λ b. OutputsOrHasReason c.args.w b c.args.self.now.ring.state c.output-code.new.ring.state) same
    (subst (λ (u : KeptRing). OutputsOrHasReason c.args.w c.output.result.now u.ring.state c.output-code.new.ring.state) c.self.view_is (c.output-code.ensures.reason known))
