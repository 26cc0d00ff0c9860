use Rattle.std.proofs.Common.{rules, ◌≡◌, ◌<◌, ◌≤◌, [], length, map, set, get_or, refl, inl, sym, ap, subst, ◌∙◌, arith}
use Rattle.std.specs.Prelude.{◌⊎◌}
use Rattle.rb_chapter_ring.specs.Hands.{hand_at}
use Rattle.rb_semantics.specs.HelperCalls.{Submit, Discard}
use Rattle.rb_semantics.specs.Instructions.{Goes, Ends, Asks, next_step}
use Rattle.rb_semantics.specs.Soundness.{IsLawful}
use Rattle.rb_interp.specs.CodeCalls.{left_by}
use Rattle.rb_interp.specs.MachineState.{StepsTo}
use Rattle.rb_interp.specs.declared.request.Request as request
use Rattle.rb_interp.specs.declared.step.Step.TheVariants.{Call}
use Rattle.rb_interp.specs.declared.step.Phase.TheVariants as phase
use Rattle.rb_world.specs.CallsInWorld.{WorkerSubmits, WorkerDiscards}
use Rattle.rb_world.specs.Turns.{submit_event, discard_event}
use Rattle.rb_chapter_ring.specs.declared.ring_record.RingRecord.{RingRecord}
use Rattle.rb_world.specs.declared.turn_done.TurnDone.TheVariants as turn
use Rattle.rb_world.specs.RecordReasons.{ReservesOrHasReason, OutputsOrHasReason, hands_at}
use Rattle.rb_world.specs.WorldValue.{place_of, worker_of, world_ring}
use Rattle.rb_world.specs.TurnsDone.{chapters_of}
use Rattle.rb_world.specs.inner.WorkerTurn.{IsWorkerTurn}
use Rattle.rb_world.specs.inner.FittingWorlds.{AreOwn}
use Rattle.rb_world.specs.inner.HeldInHands.{HoldsEachOldOrOut, IsOutIn, WasHeld, books_of, hands_shown, mark_of}
use Rattle.rb_world.specs.WorldValue.{no_kept_ring}
use Rattle.rb_world.proofs.Reasons.{runs-ready, hands-there, hands-set, idle-reasons, other-reasons, reserve-reasons, output-reasons, other-call, goes-asks, ends-asks}
use Rattle.rb_world.proofs.ShownWorlds.{at-default, set-get}
use Rattle.rb_world.proofs.HeldByWorkers.{all-given, all-rewritten, held-were, mark-stays}
use Rattle.rb_world.proofs.HeldInHands.{book-at, holds-each, keeps-each-set, same-keeps}
use Rattle.rb_world.proofs.WorkerTurns.{same-shown, went-turn, ended-turn, idle-turn, reserve-turn, output-turn, query-turn, give-turn}
use Rattle.rb_world.proofs.MachineAnswers.{lawful-of, open-at, set-length}
use Rattle.rb_world.proofs.WholeLists.{map-low, map-there, map-set, map-set-same}
use Rattle.rb_world.proofs.worker_turn.work.Goals as goal

pub returns-in_default-clause-turned : goal.returns-in_default-clause-turned
returns-in_default-clause-turned c = idle-turn c.args.w (map world_ring c.args.rings.now.items) c.args.machine.now (λ e. c.in_default.not-Ready (c.phase.ensures ∙ e))

pub returns-in-Went-clause-turned : goal.returns-in-Went-clause-turned
returns-in-Went-clause-turned c =
    let old = c.args.machine.now in
    let mid = c.step.new.self in
    let rings = map world_ring c.args.rings.now.items in
    let ready : old.phase ≡ phase.Ready = sym c.phase.ensures ∙ c.in-Ready.is in
    let st = c.in-Went.ensures.stepped in
    went-turn c.args.w rings old mid ready st.0 st.1 c.in-Went.ensures.program (same-shown place_of _ (λ r w. refl) old.records mid.records c.in-Went.ensures.records)

pub returns-in-Went-clause-own : goal.returns-in-Went-clause-own
returns-in-Went-clause-own c =
    all-rewritten (λ q. (q.ring < length c.args.rings.now.items) × (q.worker ≡ c.args.w)) c.args.machine.now.records c.step.new.self.records (same-shown mark_of _ mark-stays c.args.machine.now.records c.step.new.self.records c.in-Went.ensures.records) c.requires.own

pub returns-in-Exit-clause-turned : goal.returns-in-Exit-clause-turned
returns-in-Exit-clause-turned c =
    let old = c.args.machine.now in
    let mid = c.step.new.self in
    let rings = map world_ring c.args.rings.now.items in
    let ready : old.phase ≡ phase.Ready = sym c.phase.ensures ∙ c.in-Ready.is in
    let st = c.in-Exit.ensures.stepped in
    ended-turn c.args.w rings old mid ready c.in-Exit.n st.0 st.1 c.in-Exit.ensures.program c.in-Exit.ensures.records c.in-Exit.ensures.state

pub index_mut-requires : goal.index_mut-requires
index_mut-requires c =
    let old = c.args.machine.now in
    let mid = c.step.new.self in
    let rings = c.args.rings.now.items in
    let ready : old.phase ≡ phase.Ready = sym c.phase.ensures ∙ c.in-Ready.is in
    let st = subst (λ (q : request.Request RingRecord). StepsTo (λ (x : RingRecord). x.reservation.granted.bytes) (next_step c.args.machine.now.program.program c.args.machine.now.state) c.args.machine.now.records (Call q) c.step.new.self) c.in-Call-Reserve.field-0-is c.in-Call-Reserve.ensures.stepped in
    let lawful = subst (IsLawful old.program) st.2 (lawful-of old st.0 mid.state ready c.facts.ensures st.1) in
    let known : c.in-Call-Reserve.ring < old.program.rings = lawful.0 in
    let there : old.program.rings ≤ length rings = c.requires.program in
    let low : c.in-Call-Reserve.ring < length rings = omega arith in
    search rules

pub index_mut-requires-in-Call-Output : goal.index_mut-requires-in-Call-Output
index_mut-requires-in-Call-Output c =
    let old = c.args.machine.now in
    let mid = c.step.new.self in
    let rings = c.args.rings.now.items in
    let ready : old.phase ≡ phase.Ready = sym c.phase.ensures ∙ c.in-Ready.is in
    let st = subst (λ (q : request.Request RingRecord). StepsTo (λ (x : RingRecord). x.reservation.granted.bytes) (next_step c.args.machine.now.program.program c.args.machine.now.state) c.args.machine.now.records (Call q) c.step.new.self) c.in-Call-Output.field-0-is c.in-Call-Output.ensures.stepped in
    let lawful = subst (IsLawful old.program) st.2.2 (lawful-of old st.0 mid.state ready c.facts.ensures st.1) in
    let known : c.in-Call-Output.ring < old.program.rings = lawful in
    let there : old.program.rings ≤ length rings = c.requires.program in
    let low : c.in-Call-Output.ring < length rings = omega arith in
    search rules

pub index-requires : goal.index-requires
index-requires c =
    let old = c.args.machine.now in
    let mid = c.step.new.self in
    let rings = c.args.rings.now.items in
    let ready : old.phase ≡ phase.Ready = sym c.phase.ensures ∙ c.in-Ready.is in
    let st = subst (λ (q : request.Request RingRecord). StepsTo (λ (x : RingRecord). x.reservation.granted.bytes) (next_step c.args.machine.now.program.program c.args.machine.now.state) c.args.machine.now.records (Call q) c.step.new.self) c.in-Call-Query.field-0-is c.in-Call-Query.ensures.stepped in
    let lawful = subst (IsLawful old.program) st.2 (lawful-of old st.0 mid.state ready c.facts.ensures st.1) in
    let known : c.in-Call-Query.ring < old.program.rings = lawful in
    let there : old.program.rings ≤ length rings = c.requires.program in
    let low : c.in-Call-Query.ring < length rings = omega arith in
    search rules

pub answer_reserve-requires-clause-worker : goal.answer_reserve-requires-clause-worker
answer_reserve-requires-clause-worker c =
    let old = c.args.machine.now in
    let mid = c.step.new.self in
    let rings = c.args.rings.now.items in
    let ready : old.phase ≡ phase.Ready = sym c.phase.ensures ∙ c.in-Ready.is in
    let st = subst (λ (q : request.Request RingRecord). StepsTo (λ (x : RingRecord). x.reservation.granted.bytes) (next_step c.args.machine.now.program.program c.args.machine.now.state) c.args.machine.now.records (Call q) c.step.new.self) c.in-Call-Reserve.field-0-is c.in-Call-Reserve.ensures.stepped in
    let lawful = subst (IsLawful old.program) st.2 (lawful-of old st.0 mid.state ready c.facts.ensures st.1) in
    let known : c.in-Call-Reserve.ring < old.program.rings = lawful.0 in
    let there : old.program.rings ≤ length rings = c.requires.program in
    let low : c.in-Call-Reserve.ring < length rings = omega arith in
    open-at c.args.w (map world_ring rings) c.in-Call-Reserve.ring (world_ring c.index_mut.result.now) c.requires.rings (map-low world_ring rings c.in-Call-Reserve.ring low) (map-there world_ring rings c.in-Call-Reserve.ring c.index_mut.result.now c.index_mut.ensures.value)

pub answer_output-requires-clause-worker : goal.answer_output-requires-clause-worker
answer_output-requires-clause-worker c =
    let old = c.args.machine.now in
    let mid = c.step.new.self in
    let rings = c.args.rings.now.items in
    let ready : old.phase ≡ phase.Ready = sym c.phase.ensures ∙ c.in-Ready.is in
    let st = subst (λ (q : request.Request RingRecord). StepsTo (λ (x : RingRecord). x.reservation.granted.bytes) (next_step c.args.machine.now.program.program c.args.machine.now.state) c.args.machine.now.records (Call q) c.step.new.self) c.in-Call-Output.field-0-is c.in-Call-Output.ensures.stepped in
    let lawful = subst (IsLawful old.program) st.2.2 (lawful-of old st.0 mid.state ready c.facts.ensures st.1) in
    let known : c.in-Call-Output.ring < old.program.rings = lawful in
    let there : old.program.rings ≤ length rings = c.requires.program in
    let low : c.in-Call-Output.ring < length rings = omega arith in
    open-at c.args.w (map world_ring rings) c.in-Call-Output.ring (world_ring c.index_mut-in-Call-Output.result.now) c.requires.rings (map-low world_ring rings c.in-Call-Output.ring low) (map-there world_ring rings c.in-Call-Output.ring c.index_mut-in-Call-Output.result.now c.index_mut-in-Call-Output.ensures.value)

pub returns-in-Call-Reserve-clause-turned : goal.returns-in-Call-Reserve-clause-turned
returns-in-Call-Reserve-clause-turned c =
    let old = c.args.machine.now in
    let mid = c.step.new.self in
    let rings = c.args.rings.now.items in
    let ready : old.phase ≡ phase.Ready = sym c.phase.ensures ∙ c.in-Ready.is in
    let st = subst (λ (q : request.Request RingRecord). StepsTo (λ (x : RingRecord). x.reservation.granted.bytes) (next_step c.args.machine.now.program.program c.args.machine.now.state) c.args.machine.now.records (Call q) c.step.new.self) c.in-Call-Reserve.field-0-is c.in-Call-Reserve.ensures.stepped in
    let lawful = subst (IsLawful old.program) st.2 (lawful-of old st.0 mid.state ready c.facts.ensures st.1) in
    let known : c.in-Call-Reserve.ring < old.program.rings = lawful.0 in
    let there : old.program.rings ≤ length rings = c.requires.program in
    let low : c.in-Call-Reserve.ring < length rings = omega arith in
    subst (IsWorkerTurn c.args.w old (map world_ring rings) turn.Went c.answer_reserve.new.machine) (sym (map-set world_ring rings c.in-Call-Reserve.ring c.answer_reserve.new.self))
    (reserve-turn c.args.w (map world_ring rings) old mid c.answer_reserve.new.machine c.in-Call-Reserve.ring (world_ring c.index_mut.result.now) (world_ring c.answer_reserve.new.self) ready c.in-Call-Reserve.ensures.program (map-low world_ring rings c.in-Call-Reserve.ring low) (map-there world_ring rings c.in-Call-Reserve.ring c.index_mut.result.now c.index_mut.ensures.value)
    c.in-Call-Reserve.len c.in-Call-Reserve.flags st.0 st.1 st.2 st.4 c.answer_reserve.ensures.answered)

pub returns-in-Call-Reserve-clause-own : goal.returns-in-Call-Reserve-clause-own
returns-in-Call-Reserve-clause-own c =
    let old = c.args.machine.now in
    let mid = c.step.new.self in
    let rings = c.args.rings.now.items in
    let ready : old.phase ≡ phase.Ready = sym c.phase.ensures ∙ c.in-Ready.is in
    let st = subst (λ (q : request.Request RingRecord). StepsTo (λ (x : RingRecord). x.reservation.granted.bytes) (next_step c.args.machine.now.program.program c.args.machine.now.state) c.args.machine.now.records (Call q) c.step.new.self) c.in-Call-Reserve.field-0-is c.in-Call-Reserve.ensures.stepped in
    let lawful = subst (IsLawful old.program) st.2 (lawful-of old st.0 mid.state ready c.facts.ensures st.1) in
    let known : c.in-Call-Reserve.ring < old.program.rings = lawful.0 in
    let there : old.program.rings ≤ length rings = c.requires.program in
    let low : c.in-Call-Reserve.ring < length rings = omega arith in
    let records : mid.records ≡ old.records = st.4 ∙ ap (λ call. left_by call old.records) st.2 in
    subst (λ n. AreOwn c.args.w n c.answer_reserve.new.machine.records) (sym (set-length rings c.in-Call-Reserve.ring c.answer_reserve.new.self))
    (c.answer_reserve.ensures.own (length rings) low (subst (AreOwn c.args.w (length rings)) (sym records) c.requires.own))

pub returns-in-Call-Reserve-clause-chapters : goal.returns-in-Call-Reserve-clause-chapters
returns-in-Call-Reserve-clause-chapters c = map-set-same chapters_of c.args.rings.now.items c.in-Call-Reserve.ring c.index_mut.result.now c.answer_reserve.new.self c.index_mut.ensures.value c.answer_reserve.ensures.chapters

pub returns-in-Call-Output-clause-turned : goal.returns-in-Call-Output-clause-turned
returns-in-Call-Output-clause-turned c =
    let old = c.args.machine.now in
    let mid = c.step.new.self in
    let rings = c.args.rings.now.items in
    let ready : old.phase ≡ phase.Ready = sym c.phase.ensures ∙ c.in-Ready.is in
    let st = subst (λ (q : request.Request RingRecord). StepsTo (λ (x : RingRecord). x.reservation.granted.bytes) (next_step c.args.machine.now.program.program c.args.machine.now.state) c.args.machine.now.records (Call q) c.step.new.self) c.in-Call-Output.field-0-is c.in-Call-Output.ensures.stepped in
    let lawful = subst (IsLawful old.program) st.2.2 (lawful-of old st.0 mid.state ready c.facts.ensures st.1) in
    let known : c.in-Call-Output.ring < old.program.rings = lawful in
    let there : old.program.rings ≤ length rings = c.requires.program in
    let low : c.in-Call-Output.ring < length rings = omega arith in
    subst (IsWorkerTurn c.args.w old (map world_ring rings) turn.Went c.answer_output.new.machine) (sym (map-set world_ring rings c.in-Call-Output.ring c.answer_output.new.self))
    (output-turn c.args.w (map world_ring rings) old mid c.answer_output.new.machine c.in-Call-Output.ring (world_ring c.index_mut-in-Call-Output.result.now) (world_ring c.answer_output.new.self) ready c.in-Call-Output.ensures.program (map-low world_ring rings c.in-Call-Output.ring low) (map-there world_ring rings c.in-Call-Output.ring c.index_mut-in-Call-Output.result.now c.index_mut-in-Call-Output.ensures.value)
    c.in-Call-Output.flags st.0 st.2.0 st.1 st.2.1 st.2.2 st.4 c.answer_output.ensures.answered)

pub returns-in-Call-Output-clause-chapters : goal.returns-in-Call-Output-clause-chapters
returns-in-Call-Output-clause-chapters c = map-set-same chapters_of c.args.rings.now.items c.in-Call-Output.ring c.index_mut-in-Call-Output.result.now c.answer_output.new.self c.index_mut-in-Call-Output.ensures.value c.answer_output.ensures.chapters

pub returns-in-Call-Query-clause-turned : goal.returns-in-Call-Query-clause-turned
returns-in-Call-Query-clause-turned c =
    let old = c.args.machine.now in
    let mid = c.step.new.self in
    let rings = c.args.rings.now.items in
    let ready : old.phase ≡ phase.Ready = sym c.phase.ensures ∙ c.in-Ready.is in
    let st = subst (λ (q : request.Request RingRecord). StepsTo (λ (x : RingRecord). x.reservation.granted.bytes) (next_step c.args.machine.now.program.program c.args.machine.now.state) c.args.machine.now.records (Call q) c.step.new.self) c.in-Call-Query.field-0-is c.in-Call-Query.ensures.stepped in
    let lawful = subst (IsLawful old.program) st.2 (lawful-of old st.0 mid.state ready c.facts.ensures st.1) in
    let known : c.in-Call-Query.ring < old.program.rings = lawful in
    let enough : old.program.rings ≤ length rings = c.requires.program in
    let low : c.in-Call-Query.ring < length rings = omega arith in
    let s = c.index.result.now in
    let r = c.in-Call-Query.ring in
    let whole = map world_ring rings in
    let there = map-there world_ring rings r s c.index.ensures in
    let new = c.answer_query.new.machine in
    let same : set whole r (world_ring s) ≡ whole = ap (set whole r) there ∙ set-get whole r (world_ring s) in
    subst (λ l. IsWorkerTurn c.args.w old whole turn.Went new l) same
    (query-turn c.args.w whole old mid new r (world_ring s) (world_ring s) ready c.in-Call-Query.ensures.program (map-low world_ring rings r low) there c.in-Call-Query.what st.0 st.1 st.2 st.4 refl c.answer_query.ensures.answered)

pub returns-in-Call-Submit-clause-turned : goal.returns-in-Call-Submit-clause-turned
returns-in-Call-Submit-clause-turned c =
    let old = c.args.machine.now in
    let mid = c.step.new.self in
    let rings = c.args.rings.now.items in
    let ready : old.phase ≡ phase.Ready = sym c.phase.ensures ∙ c.in-Ready.is in
    let st = subst (λ (q : request.Request RingRecord). StepsTo (λ (x : RingRecord). x.reservation.granted.bytes) (next_step c.args.machine.now.program.program c.args.machine.now.state) c.args.machine.now.records (Call q) c.step.new.self) c.in-Call-Submit.field-0-is c.in-Call-Submit.ensures.stepped in
    let owned = c.in-Call-Submit.owned in
    let flags = c.in-Call-Submit.flags in
    let shows = st.2 in
    let mine = c.requires.own shows.0 owned shows.1 in
    subst (IsWorkerTurn c.args.w old (map world_ring rings) turn.Went c.answer_given_back.new.machine) (sym (map-set world_ring rings owned.ring c.answer_given_back.new.self))
    (give-turn c.args.w (map world_ring rings) old mid c.answer_given_back.new.machine owned (world_ring c.index_mut-in-Call-Submit.result.now) (world_ring c.answer_given_back.new.self) ready c.in-Call-Submit.ensures.program (map-low world_ring rings owned.ring mine.0) (map-there world_ring rings owned.ring c.index_mut-in-Call-Submit.result.now c.index_mut-in-Call-Submit.ensures.value)
    WorkerSubmits (submit_event c.args.w) (Submit shows.0 owned.reservation.granted.bytes flags) shows.0 refl tt shows.1 (st.4 ∙ ap (λ call. left_by call old.records) shows.2) mine.1
    (st.1 ∙ ap (λ call. Asks call mid.state) shows.2) (λ world event after g. g) c.answer_given_back.ensures.answered)

pub returns-in-Call-Submit-clause-own : goal.returns-in-Call-Submit-clause-own
returns-in-Call-Submit-clause-own c =
    let old = c.args.machine.now in
    let rings = c.args.rings.now.items in
    let st = subst (λ (q : request.Request RingRecord). StepsTo (λ (x : RingRecord). x.reservation.granted.bytes) (next_step c.args.machine.now.program.program c.args.machine.now.state) c.args.machine.now.records (Call q) c.step.new.self) c.in-Call-Submit.field-0-is c.in-Call-Submit.ensures.stepped in
    let shows = st.2 in
    subst (λ n. AreOwn c.args.w n c.answer_given_back.new.machine.records) (sym (set-length rings c.in-Call-Submit.owned.ring c.answer_given_back.new.self))
    (subst (AreOwn c.args.w (length rings)) (sym (c.answer_given_back.ensures.records ∙ (st.4 ∙ ap (λ call. left_by call old.records) shows.2))) (all-given (λ q. (q.ring < length rings) × (q.worker ≡ c.args.w)) shows.0 old.records c.requires.own))

pub returns-in-Call-Submit-clause-chapters : goal.returns-in-Call-Submit-clause-chapters
returns-in-Call-Submit-clause-chapters c = map-set-same chapters_of c.args.rings.now.items c.in-Call-Submit.owned.ring c.index_mut-in-Call-Submit.result.now c.answer_given_back.new.self c.index_mut-in-Call-Submit.ensures.value c.answer_given_back.ensures.chapters

pub returns-in-Call-Discard-clause-turned : goal.returns-in-Call-Discard-clause-turned
returns-in-Call-Discard-clause-turned c =
    let old = c.args.machine.now in
    let mid = c.step.new.self in
    let rings = c.args.rings.now.items in
    let ready : old.phase ≡ phase.Ready = sym c.phase.ensures ∙ c.in-Ready.is in
    let st = subst (λ (q : request.Request RingRecord). StepsTo (λ (x : RingRecord). x.reservation.granted.bytes) (next_step c.args.machine.now.program.program c.args.machine.now.state) c.args.machine.now.records (Call q) c.step.new.self) c.in-Call-Discard.field-0-is c.in-Call-Discard.ensures.stepped in
    let owned = c.in-Call-Discard.owned in
    let flags = c.in-Call-Discard.flags in
    let shows = st.2 in
    let mine = c.requires.own shows.0 owned shows.1 in
    subst (IsWorkerTurn c.args.w old (map world_ring rings) turn.Went c.answer_given_back-in-Call-Discard.new.machine) (sym (map-set world_ring rings owned.ring c.answer_given_back-in-Call-Discard.new.self))
    (give-turn c.args.w (map world_ring rings) old mid c.answer_given_back-in-Call-Discard.new.machine owned (world_ring c.index_mut-in-Call-Discard.result.now) (world_ring c.answer_given_back-in-Call-Discard.new.self) ready c.in-Call-Discard.ensures.program (map-low world_ring rings owned.ring mine.0) (map-there world_ring rings owned.ring c.index_mut-in-Call-Discard.result.now c.index_mut-in-Call-Discard.ensures.value)
    WorkerDiscards discard_event (Discard shows.0 owned.reservation.granted.bytes flags) shows.0 refl tt shows.1 (st.4 ∙ ap (λ call. left_by call old.records) shows.2) mine.1
    (st.1 ∙ ap (λ call. Asks call mid.state) shows.2) (λ world event after g. g) c.answer_given_back-in-Call-Discard.ensures.answered)

pub returns-in-Call-Discard-clause-own : goal.returns-in-Call-Discard-clause-own
returns-in-Call-Discard-clause-own c =
    let old = c.args.machine.now in
    let rings = c.args.rings.now.items in
    let st = subst (λ (q : request.Request RingRecord). StepsTo (λ (x : RingRecord). x.reservation.granted.bytes) (next_step c.args.machine.now.program.program c.args.machine.now.state) c.args.machine.now.records (Call q) c.step.new.self) c.in-Call-Discard.field-0-is c.in-Call-Discard.ensures.stepped in
    let shows = st.2 in
    subst (λ n. AreOwn c.args.w n c.answer_given_back-in-Call-Discard.new.machine.records) (sym (set-length rings c.in-Call-Discard.owned.ring c.answer_given_back-in-Call-Discard.new.self))
    (subst (AreOwn c.args.w (length rings)) (sym (c.answer_given_back-in-Call-Discard.ensures.records ∙ (st.4 ∙ ap (λ call. left_by call old.records) shows.2))) (all-given (λ q. (q.ring < length rings) × (q.worker ≡ c.args.w)) shows.0 old.records c.requires.own))

pub returns-in-Call-Discard-clause-chapters : goal.returns-in-Call-Discard-clause-chapters
returns-in-Call-Discard-clause-chapters c = map-set-same chapters_of c.args.rings.now.items c.in-Call-Discard.owned.ring c.index_mut-in-Call-Discard.result.now c.answer_given_back-in-Call-Discard.new.self c.index_mut-in-Call-Discard.ensures.value c.answer_given_back-in-Call-Discard.ensures.chapters

pub answer_given_back-requires-clause-out : goal.answer_given_back-requires-clause-out
answer_given_back-requires-clause-out c =
    let rings = c.args.rings.now.items in
    let st = subst (λ (q : request.Request RingRecord). StepsTo (λ (x : RingRecord). x.reservation.granted.bytes) (next_step c.args.machine.now.program.program c.args.machine.now.state) c.args.machine.now.records (Call q) c.step.new.self) c.in-Call-Submit.field-0-is c.in-Call-Submit.ensures.stepped in
    let owned = c.in-Call-Submit.owned in
    let g = owned.reservation.granted in
    let s = c.index_mut-in-Call-Submit.result.now in
    let mine = c.requires.own st.2.0 owned st.2.1 in
    let here : get_or (books_of rings) owned.ring [] ≡ hands_shown s = book-at rings owned.ring mine.0 ∙ ap hands_shown (sym (at-default rings owned.ring s no_kept_ring mine.0 c.index_mut-in-Call-Submit.ensures.value)) in
    ap (λ book. hand_at book g.worker owned.reservation.hand) (sym here) ∙ c.requires.in_hand st.2.0 owned st.2.1

pub answer_given_back-requires-in-Call-Discard-clause-out : goal.answer_given_back-requires-in-Call-Discard-clause-out
answer_given_back-requires-in-Call-Discard-clause-out c =
    let rings = c.args.rings.now.items in
    let st = subst (λ (q : request.Request RingRecord). StepsTo (λ (x : RingRecord). x.reservation.granted.bytes) (next_step c.args.machine.now.program.program c.args.machine.now.state) c.args.machine.now.records (Call q) c.step.new.self) c.in-Call-Discard.field-0-is c.in-Call-Discard.ensures.stepped in
    let owned = c.in-Call-Discard.owned in
    let g = owned.reservation.granted in
    let s = c.index_mut-in-Call-Discard.result.now in
    let mine = c.requires.own st.2.0 owned st.2.1 in
    let here : get_or (books_of rings) owned.ring [] ≡ hands_shown s = book-at rings owned.ring mine.0 ∙ ap hands_shown (sym (at-default rings owned.ring s no_kept_ring mine.0 c.index_mut-in-Call-Discard.ensures.value)) in
    ap (λ book. hand_at book g.worker owned.reservation.hand) (sym here) ∙ c.requires.in_hand st.2.0 owned st.2.1

pub returns-in-Went-clause-held : goal.returns-in-Went-clause-held
returns-in-Went-clause-held c =
    let old = c.args.machine.now.records in
    let books = books_of c.args.rings.now.items in
    all-rewritten (λ q. WasHeld old q ⊎ IsOutIn books q) old c.step.new.self.records (same-shown mark_of _ mark-stays old c.step.new.self.records c.in-Went.ensures.records) (λ id x e. inl (held-were old id x e))

pub returns-in-Call-Reserve-clause-held : goal.returns-in-Call-Reserve-clause-held
returns-in-Call-Reserve-clause-held c =
    let old = c.args.machine.now in
    let mid = c.step.new.self in
    let rings = c.args.rings.now.items in
    let r = c.in-Call-Reserve.ring in
    let s = c.index_mut.result.now in
    let ready : old.phase ≡ phase.Ready = sym c.phase.ensures ∙ c.in-Ready.is in
    let st = subst (λ (q : request.Request RingRecord). StepsTo (λ (x : RingRecord). x.reservation.granted.bytes) (next_step c.args.machine.now.program.program c.args.machine.now.state) c.args.machine.now.records (Call q) c.step.new.self) c.in-Call-Reserve.field-0-is c.in-Call-Reserve.ensures.stepped in
    let lawful = subst (IsLawful old.program) st.2 (lawful-of old st.0 mid.state ready c.facts.ensures st.1) in
    let known : r < old.program.rings = lawful.0 in
    let enough : old.program.rings ≤ length rings = c.requires.program in
    let low : r < length rings = omega arith in
    let there : s ≡ get_or rings r no_kept_ring = at-default rings r s no_kept_ring low c.index_mut.ensures.value in
    let records : mid.records ≡ old.records = st.4 ∙ ap (λ call. left_by call old.records) st.2 in
    subst (λ rs. HoldsEachOldOrOut (books_of (set rings r c.answer_reserve.new.self)) rs c.answer_reserve.new.machine.records) records
    (holds-each rings r s c.answer_reserve.new.self there low mid.records c.answer_reserve.new.machine.records c.answer_reserve.ensures.held)

pub returns-in-Call-Reserve-clause-hands : goal.returns-in-Call-Reserve-clause-hands
returns-in-Call-Reserve-clause-hands c =
    let old = c.args.machine.now in
    let mid = c.step.new.self in
    let rings = c.args.rings.now.items in
    let r = c.in-Call-Reserve.ring in
    let s = c.index_mut.result.now in
    let ready : old.phase ≡ phase.Ready = sym c.phase.ensures ∙ c.in-Ready.is in
    let st = subst (λ (q : request.Request RingRecord). StepsTo (λ (x : RingRecord). x.reservation.granted.bytes) (next_step c.args.machine.now.program.program c.args.machine.now.state) c.args.machine.now.records (Call q) c.step.new.self) c.in-Call-Reserve.field-0-is c.in-Call-Reserve.ensures.stepped in
    let lawful = subst (IsLawful old.program) st.2 (lawful-of old st.0 mid.state ready c.facts.ensures st.1) in
    let known : r < old.program.rings = lawful.0 in
    let enough : old.program.rings ≤ length rings = c.requires.program in
    let low : r < length rings = omega arith in
    let there : s ≡ get_or rings r no_kept_ring = at-default rings r s no_kept_ring low c.index_mut.ensures.value in
    keeps-each-set rings r s c.answer_reserve.new.self there low c.answer_reserve.ensures.hands

pub returns-in-Call-Output-clause-held : goal.returns-in-Call-Output-clause-held
returns-in-Call-Output-clause-held c =
    let old = c.args.machine.now in
    let rings = c.args.rings.now.items in
    let st = subst (λ (q : request.Request RingRecord). StepsTo (λ (x : RingRecord). x.reservation.granted.bytes) (next_step c.args.machine.now.program.program c.args.machine.now.state) c.args.machine.now.records (Call q) c.step.new.self) c.in-Call-Output.field-0-is c.in-Call-Output.ensures.stepped in
    let records : c.answer_output.new.machine.records ≡ old.records = c.answer_output.ensures.records ∙ (st.4 ∙ ap (λ call. left_by call old.records) st.2.2) in
    subst (HoldsEachOldOrOut (books_of (set rings c.in-Call-Output.ring c.answer_output.new.self)) old.records) (sym records) (λ id x e. inl (held-were old.records id x e))

pub returns-in-Call-Output-clause-hands : goal.returns-in-Call-Output-clause-hands
returns-in-Call-Output-clause-hands c =
    let old = c.args.machine.now in
    let mid = c.step.new.self in
    let rings = c.args.rings.now.items in
    let r = c.in-Call-Output.ring in
    let s = c.index_mut-in-Call-Output.result.now in
    let ready : old.phase ≡ phase.Ready = sym c.phase.ensures ∙ c.in-Ready.is in
    let st = subst (λ (q : request.Request RingRecord). StepsTo (λ (x : RingRecord). x.reservation.granted.bytes) (next_step c.args.machine.now.program.program c.args.machine.now.state) c.args.machine.now.records (Call q) c.step.new.self) c.in-Call-Output.field-0-is c.in-Call-Output.ensures.stepped in
    let lawful = subst (IsLawful old.program) st.2.2 (lawful-of old st.0 mid.state ready c.facts.ensures st.1) in
    let known : r < old.program.rings = lawful in
    let enough : old.program.rings ≤ length rings = c.requires.program in
    let low : r < length rings = omega arith in
    let there : s ≡ get_or rings r no_kept_ring = at-default rings r s no_kept_ring low c.index_mut-in-Call-Output.ensures.value in
    keeps-each-set rings r s c.answer_output.new.self there low (same-keeps s c.answer_output.new.self c.answer_output.ensures.hands)

pub returns-in-Call-Query-clause-held : goal.returns-in-Call-Query-clause-held
returns-in-Call-Query-clause-held c =
    let old = c.args.machine.now in
    let rings = c.args.rings.now.items in
    let st = subst (λ (q : request.Request RingRecord). StepsTo (λ (x : RingRecord). x.reservation.granted.bytes) (next_step c.args.machine.now.program.program c.args.machine.now.state) c.args.machine.now.records (Call q) c.step.new.self) c.in-Call-Query.field-0-is c.in-Call-Query.ensures.stepped in
    let records : c.answer_query.new.machine.records ≡ old.records = c.answer_query.ensures.records ∙ (st.4 ∙ ap (λ call. left_by call old.records) st.2) in
    subst (HoldsEachOldOrOut (books_of rings) old.records) (sym records) (λ id x e. inl (held-were old.records id x e))

pub returns-in-Call-Submit-clause-held : goal.returns-in-Call-Submit-clause-held
returns-in-Call-Submit-clause-held c =
    let old = c.args.machine.now in
    let rings = c.args.rings.now.items in
    let st = subst (λ (q : request.Request RingRecord). StepsTo (λ (x : RingRecord). x.reservation.granted.bytes) (next_step c.args.machine.now.program.program c.args.machine.now.state) c.args.machine.now.records (Call q) c.step.new.self) c.in-Call-Submit.field-0-is c.in-Call-Submit.ensures.stepped in
    let books = books_of (set rings c.in-Call-Submit.owned.ring c.answer_given_back.new.self) in
    let records = c.answer_given_back.ensures.records ∙ (st.4 ∙ ap (λ call. left_by call old.records) st.2.2) in
    subst (HoldsEachOldOrOut books old.records) (sym records) (all-given (λ q. WasHeld old.records q ⊎ IsOutIn books q) st.2.0 old.records (λ id x e. inl (held-were old.records id x e)))

pub returns-in-Call-Submit-clause-hands : goal.returns-in-Call-Submit-clause-hands
returns-in-Call-Submit-clause-hands c =
    let rings = c.args.rings.now.items in
    let st = subst (λ (q : request.Request RingRecord). StepsTo (λ (x : RingRecord). x.reservation.granted.bytes) (next_step c.args.machine.now.program.program c.args.machine.now.state) c.args.machine.now.records (Call q) c.step.new.self) c.in-Call-Submit.field-0-is c.in-Call-Submit.ensures.stepped in
    let owned = c.in-Call-Submit.owned in
    let s = c.index_mut-in-Call-Submit.result.now in
    let mine = c.requires.own st.2.0 owned st.2.1 in
    keeps-each-set rings owned.ring s c.answer_given_back.new.self (at-default rings owned.ring s no_kept_ring mine.0 c.index_mut-in-Call-Submit.ensures.value) mine.0 c.answer_given_back.ensures.hands

pub returns-in-Call-Discard-clause-held : goal.returns-in-Call-Discard-clause-held
returns-in-Call-Discard-clause-held c =
    let old = c.args.machine.now in
    let rings = c.args.rings.now.items in
    let st = subst (λ (q : request.Request RingRecord). StepsTo (λ (x : RingRecord). x.reservation.granted.bytes) (next_step c.args.machine.now.program.program c.args.machine.now.state) c.args.machine.now.records (Call q) c.step.new.self) c.in-Call-Discard.field-0-is c.in-Call-Discard.ensures.stepped in
    let books = books_of (set rings c.in-Call-Discard.owned.ring c.answer_given_back-in-Call-Discard.new.self) in
    let records = c.answer_given_back-in-Call-Discard.ensures.records ∙ (st.4 ∙ ap (λ call. left_by call old.records) st.2.2) in
    subst (HoldsEachOldOrOut books old.records) (sym records) (all-given (λ q. WasHeld old.records q ⊎ IsOutIn books q) st.2.0 old.records (λ id x e. inl (held-were old.records id x e)))

pub returns-in-Call-Discard-clause-hands : goal.returns-in-Call-Discard-clause-hands
returns-in-Call-Discard-clause-hands c =
    let rings = c.args.rings.now.items in
    let st = subst (λ (q : request.Request RingRecord). StepsTo (λ (x : RingRecord). x.reservation.granted.bytes) (next_step c.args.machine.now.program.program c.args.machine.now.state) c.args.machine.now.records (Call q) c.step.new.self) c.in-Call-Discard.field-0-is c.in-Call-Discard.ensures.stepped in
    let owned = c.in-Call-Discard.owned in
    let s = c.index_mut-in-Call-Discard.result.now in
    let mine = c.requires.own st.2.0 owned st.2.1 in
    keeps-each-set rings owned.ring s c.answer_given_back-in-Call-Discard.new.self (at-default rings owned.ring s no_kept_ring mine.0 c.index_mut-in-Call-Discard.ensures.value) mine.0 c.answer_given_back-in-Call-Discard.ensures.hands

pub returns-in_default-clause-reasons : goal.returns-in_default-clause-reasons
returns-in_default-clause-reasons c =
    let old = c.args.machine.now in
    idle-reasons c.args.w (worker_of old) c.args.rings.now.items c.args.rings.now.items (λ runs. c.in_default.not-Ready (c.phase.ensures ∙ runs-ready old.phase runs))

pub returns-in-Went-clause-reasons : goal.returns-in-Went-clause-reasons
returns-in-Went-clause-reasons c =
    let old = c.args.machine.now in
    other-reasons c.args.w (worker_of old) c.args.rings.now.items c.args.rings.now.items (Goes c.step.new.self.state) c.in-Went.ensures.stepped.0 (λ id r n t e. goes-asks _ _ _ e) (λ r flags bytes t e. goes-asks _ _ _ e)

pub returns-in-Exit-clause-reasons : goal.returns-in-Exit-clause-reasons
returns-in-Exit-clause-reasons c =
    let old = c.args.machine.now in
    other-reasons c.args.w (worker_of old) c.args.rings.now.items c.args.rings.now.items (Ends c.in-Exit.n) c.in-Exit.ensures.stepped.0 (λ id r n t e. ends-asks _ _ _ e) (λ r flags bytes t e. ends-asks _ _ _ e)

pub returns-in-Call-Reserve-clause-reasons : goal.returns-in-Call-Reserve-clause-reasons
returns-in-Call-Reserve-clause-reasons c =
    let old = c.args.machine.now in
    let mid = c.step.new.self in
    let rings = c.args.rings.now.items in
    let ready : old.phase ≡ phase.Ready = sym c.phase.ensures ∙ c.in-Ready.is in
    let st = subst (λ (q : request.Request RingRecord). StepsTo (λ (x : RingRecord). x.reservation.granted.bytes) (next_step c.args.machine.now.program.program c.args.machine.now.state) c.args.machine.now.records (Call q) c.step.new.self) c.in-Call-Reserve.field-0-is c.in-Call-Reserve.ensures.stepped in
    let lawful = subst (IsLawful old.program) st.2 (lawful-of old st.0 mid.state ready c.facts.ensures st.1) in
    let known : c.in-Call-Reserve.ring < old.program.rings = lawful.0 in
    let there : old.program.rings ≤ length rings = c.requires.program in
    let low : c.in-Call-Reserve.ring < length rings = omega arith in
    let ring = c.in-Call-Reserve.ring in
    let len = c.in-Call-Reserve.len in
    let is = subst (λ call. next_step old.program.program old.state ≡ Asks call mid.state) st.2 st.1 in
    let was = hands-there rings ring c.index_mut.result.now low c.index_mut.ensures.value in
    let now = hands-set rings ring c.answer_reserve.new.self low in
    reserve-reasons c.args.w (worker_of old) rings (set rings ring c.answer_reserve.new.self) _ ring len c.in-Call-Reserve.flags mid.state is
    (λ none. subst (λ v. ReservesOrHasReason c.args.w len (hands_at rings ring) v) (sym now) (subst (λ v. ReservesOrHasReason c.args.w len v c.answer_reserve.new.self.ring.state) (sym was) (c.answer_reserve.ensures.reason none)))

pub returns-in-Call-Output-clause-reasons : goal.returns-in-Call-Output-clause-reasons
returns-in-Call-Output-clause-reasons c =
    let old = c.args.machine.now in
    let mid = c.step.new.self in
    let rings = c.args.rings.now.items in
    let ready : old.phase ≡ phase.Ready = sym c.phase.ensures ∙ c.in-Ready.is in
    let st = subst (λ (q : request.Request RingRecord). StepsTo (λ (x : RingRecord). x.reservation.granted.bytes) (next_step c.args.machine.now.program.program c.args.machine.now.state) c.args.machine.now.records (Call q) c.step.new.self) c.in-Call-Output.field-0-is c.in-Call-Output.ensures.stepped in
    let lawful = subst (IsLawful old.program) st.2.2 (lawful-of old st.0 mid.state ready c.facts.ensures st.1) in
    let known : c.in-Call-Output.ring < old.program.rings = lawful in
    let there : old.program.rings ≤ length rings = c.requires.program in
    let low : c.in-Call-Output.ring < length rings = omega arith in
    let ring = c.in-Call-Output.ring in
    let bytes = st.2.0 in
    let is = subst (λ call. next_step old.program.program old.state ≡ Asks call mid.state) st.2.2 st.1 in
    let was = hands-there rings ring c.index_mut-in-Call-Output.result.now low c.index_mut-in-Call-Output.ensures.value in
    let now = hands-set rings ring c.answer_output.new.self low in
    output-reasons c.args.w (worker_of old) rings (set rings ring c.answer_output.new.self) ring c.in-Call-Output.flags bytes mid.state is
    (λ few. subst (λ v. OutputsOrHasReason c.args.w bytes (hands_at rings ring) v) (sym now) (subst (λ v. OutputsOrHasReason c.args.w bytes v c.answer_output.new.self.ring.state) (sym was) (c.answer_output.ensures.reason bytes st.2.1 few)))

pub returns-in-Call-Query-clause-reasons : goal.returns-in-Call-Query-clause-reasons
returns-in-Call-Query-clause-reasons c =
    let old = c.args.machine.now in
    let mid = c.step.new.self in
    let rings = c.args.rings.now.items in
    let ready : old.phase ≡ phase.Ready = sym c.phase.ensures ∙ c.in-Ready.is in
    let st = subst (λ (q : request.Request RingRecord). StepsTo (λ (x : RingRecord). x.reservation.granted.bytes) (next_step c.args.machine.now.program.program c.args.machine.now.state) c.args.machine.now.records (Call q) c.step.new.self) c.in-Call-Query.field-0-is c.in-Call-Query.ensures.stepped in
    let is = subst (λ call. next_step old.program.program old.state ≡ Asks call mid.state) st.2 st.1 in
    other-call c.args.w (worker_of old) rings _ _ (λ none. none) mid.state is

pub returns-in-Call-Submit-clause-reasons : goal.returns-in-Call-Submit-clause-reasons
returns-in-Call-Submit-clause-reasons c =
    let old = c.args.machine.now in
    let mid = c.step.new.self in
    let rings = c.args.rings.now.items in
    let ready : old.phase ≡ phase.Ready = sym c.phase.ensures ∙ c.in-Ready.is in
    let st = subst (λ (q : request.Request RingRecord). StepsTo (λ (x : RingRecord). x.reservation.granted.bytes) (next_step c.args.machine.now.program.program c.args.machine.now.state) c.args.machine.now.records (Call q) c.step.new.self) c.in-Call-Submit.field-0-is c.in-Call-Submit.ensures.stepped in
    let is = subst (λ call. next_step old.program.program old.state ≡ Asks call mid.state) st.2.2 st.1 in
    other-call c.args.w (worker_of old) rings _ _ (λ none. none) mid.state is

pub returns-in-Call-Discard-clause-reasons : goal.returns-in-Call-Discard-clause-reasons
returns-in-Call-Discard-clause-reasons c =
    let old = c.args.machine.now in
    let mid = c.step.new.self in
    let rings = c.args.rings.now.items in
    let ready : old.phase ≡ phase.Ready = sym c.phase.ensures ∙ c.in-Ready.is in
    let st = subst (λ (q : request.Request RingRecord). StepsTo (λ (x : RingRecord). x.reservation.granted.bytes) (next_step c.args.machine.now.program.program c.args.machine.now.state) c.args.machine.now.records (Call q) c.step.new.self) c.in-Call-Discard.field-0-is c.in-Call-Discard.ensures.stepped in
    let is = subst (λ call. next_step old.program.program old.state ≡ Asks call mid.state) st.2.2 st.1 in
    other-call c.args.w (worker_of old) rings _ _ (λ none. none) mid.state is
