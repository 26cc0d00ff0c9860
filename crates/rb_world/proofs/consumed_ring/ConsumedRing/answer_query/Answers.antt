use Rattle.std.proofs.Common.{ap, subst, ◌∙◌}
use Rattle.rb_semantics.specs.HelperCalls.{Told, resume}
use Rattle.rb_semantics.specs.declared.pending_call.PendingCall.TheVariants as asked
use Rattle.rb_history.specs.NoticesAndQueries.{query_answer}
use Rattle.rb_world.specs.WorldValue.{KeptRing, world_ring, held_by}
use Rattle.rb_world.specs.inner.WorkerTurn.{GoesOnWith}
use Rattle.rb_world.proofs.MachineAnswers.{resumed, held-same}
use Rattle.rb_world.proofs.KeptChapters.{kept-of}
use Rattle.rb_world.proofs.WholeCalls.{query-whole}
use Rattle.rb_world.proofs.consumed_ring.ConsumedRing.answer_query.Goals as goal

pub returns-clause-answered : goal.returns-clause-answered
returns-clause-answered c =
    let s : KeptRing = record { ring = c.self.inside.ring; chapters = c.self.inside.chapters.items; taken = c.self.inside.taken.items } in
    let m = c.args.machine.now in
    let new = c.answer.new.self in
    let done : GoesOnWith asked.Query (Told c.query.result) (held_by m) m new = resumed m new (held_by m) (resume asked.Query (Told c.query.result) m.state) (c.answer.ensures.goes_on asked.Query c.requires.waits) (λ no. absurd (cc)) c.answer.ensures.program (held-same m new c.answer.ensures.records) in
    subst (λ n. GoesOnWith asked.Query (Told n) (held_by m) m new) (c.query.ensures.answer ∙ (query-whole s c.args.what (kept-of s c.self.invariant) ∙ ap (λ (v : KeptRing). query_answer (world_ring v).ring.setup (world_ring v).ring.history c.args.what) c.self.view_is)) done
