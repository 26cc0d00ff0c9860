use Rattle.std.proofs.Common.{sym, ap, subst, ◌∙◌}
use Rattle.rb_chapter_ring.specs.Chapters.{joined}
use Rattle.rb_chapter_ring.specs.HandRing.{HasInHand}
use Rattle.rb_semantics.specs.HelperCalls.{Taken, resume}
use Rattle.rb_semantics.specs.declared.pending_call.PendingCall.TheVariants as asked
use Rattle.rb_world.specs.WorldValue.{KeptRing, world_ring, held_by}
use Rattle.rb_world.specs.TurnsDone.{chapters_of}
use Rattle.rb_world.specs.inner.RecordEnds.{WorkerEnds}
use Rattle.rb_world.specs.inner.WorkerTurn.{GoesOnWith}
use Rattle.rb_world.specs.inner.HeldInHands.{KeepsInHand}
use Rattle.rb_world.proofs.HeldInHands.{ended-frees, freed-keeps}
use Rattle.rb_world.proofs.MachineAnswers.{resumed, held-same}
use Rattle.rb_world.proofs.WholeCalls.{ended, end-kept, same-chapters}
use Rattle.rb_world.proofs.KeptChapters.{kept-of, same-has}
use Rattle.rb_world.proofs.consumed_ring.ConsumedRing.answer_given_back.Goals as goal

pub settle-requires : goal.settle-requires
settle-requires c = record { out = subst (λ (v : KeptRing). HasInHand v.ring.state c.args.owned.reservation.hand c.args.owned.reservation.granted) (sym c.self.view_is) c.requires.out }

pub returns-clause-answered : goal.returns-clause-answered
returns-clause-answered c =
    let s : KeptRing = record { ring = c.self.inside.ring; chapters = c.self.inside.chapters.items; taken = c.self.inside.taken.items } in
    let m = c.args.machine.now in
    let new = c.answer.new.self in
    let on : GoesOnWith asked.GiveBack Taken (held_by m) m new = resumed m new (held_by m) (resume asked.GiveBack Taken m.state) (c.answer.ensures.goes_on asked.GiveBack c.requires.waits) (λ no. absurd (cc)) c.answer.ensures.program (held-same m new c.answer.ensures.records) in (
      subst (λ (v : KeptRing). WorkerEnds c.args.ending c.args.owned.reservation.granted Taken (world_ring v) (world_ring (record s { ring = c.settle.new.self }))) c.self.view_is
          (ended s c.settle.new.self (kept-of s c.self.invariant) c.args.ending c.args.owned.reservation.hand c.args.owned.reservation.granted c.facts-2.ensures.stands c.settle.ensures.ended),
      on,
    )

pub invariant_of-self : goal.invariant_of-self
invariant_of-self c =
    let s : KeptRing = record { ring = c.self.inside.ring; chapters = c.self.inside.chapters.items; taken = c.self.inside.taken.items } in
    same-has s c.settle.new.self s.taken c.self.invariant c.settle.ensures.same_chapter
    (end-kept s c.settle.new.self (kept-of s c.self.invariant) c.args.ending c.args.owned.reservation.hand c.args.owned.reservation.granted c.settle.ensures.ended)

pub returns-clause-chapters : goal.returns-clause-chapters
returns-clause-chapters c =
    let s : KeptRing = record { ring = c.self.inside.ring; chapters = c.self.inside.chapters.items; taken = c.self.inside.taken.items } in
    same-chapters s c.settle.new.self s.taken c.settle.ensures.same_tag c.settle.ensures.same_chapter ∙ ap chapters_of c.self.view_is

pub returns-clause-hands : goal.returns-clause-hands
returns-clause-hands c =
    let s : KeptRing = record { ring = c.self.inside.ring; chapters = c.self.inside.chapters.items; taken = c.self.inside.taken.items } in
    let new = c.settle.new.self in
    let r = c.args.owned.reservation in
    let kept = kept-of s c.self.invariant in
    let frees = ended-frees (joined s.chapters) s.ring.state new.state c.args.ending r.hand r.granted kept c.facts.ensures.hands c.settle.ensures.ended in
    subst (λ (v : KeptRing). KeepsInHand v (record s { ring = new })) c.self.view_is
    (freed-keeps s (record s { ring = new }) c.facts.ensures.hands c.facts-2.ensures.hands (end-kept s new kept c.args.ending r.hand r.granted c.settle.ensures.ended) frees)
