use Rattle.std.proofs.Common.{◌≡◌, ◌<◌, Option, Some, None, refl, inl, inr, sym, ap, subst, ◌∙◌}
use Rattle.std.specs.Prelude.{◌⊎◌, option_map}
use Rattle.rb_chapter_ring.specs.HandGranted.{HandGranted}
use Rattle.rb_chapter_ring.specs.Hands.{hand_at}
use Rattle.rb_semantics.specs.declared.pending_call.PendingCall.TheVariants as asked
use Rattle.rb_interp.specs.MachineState.{MachineState}
use Rattle.rb_chapter_ring.specs.declared.ring_record.RingRecord.{RingRecord}
use Rattle.rb_world.specs.inner.WorkerTurn.{AnswersReserve}
use Rattle.rb_world.specs.inner.FittingWorlds.{AreOwn}
use Rattle.rb_chapter_ring.specs.Chapters.{joined}
use Rattle.rb_chapter_ring.specs.ChapterRing.{whole_ring}
use Rattle.rb_world.specs.WorldValue.{KeptRing, world_ring}
use Rattle.rb_world.specs.TurnsDone.{chapters_of}
use Rattle.rb_world.specs.RecordReasons.{ReservesOrHasReason}
use Rattle.rb_world.specs.inner.RingAnswers.{IsReserved}
use Rattle.rb_world.specs.inner.HeldInHands.{HoldsOldOrOut, KeepsInHand, WasHeld}
use Rattle.rb_world.proofs.HeldInHands.{filled-keeps}
use Rattle.rb_world.proofs.KeptChapters.{kept-of, same-has}
use Rattle.rb_world.proofs.WholeCalls.{same-chapters}
use Rattle.rb_world.proofs.HeldByWorkers.{all-granted, held-were}
use Rattle.rb_world.proofs.MachineAnswers.{reserve-granted, reserve-refused, given-parts, no-record}
use Rattle.rb_world.proofs.consumed_ring.ConsumedRing.answer_reserve.Goals.{in-Some, in-None}
use Rattle.rb_world.proofs.consumed_ring.ConsumedRing.answer_reserve.Goals as goal

pub returns-clause-answered : goal.returns-clause-answered
returns-clause-answered c = elim c.match-reserve.branch [
  | in-Some w ↦
      let x = w.in-Some.reservation in
      let v = whole_ring (joined c.self.inside.chapters.items) c.self.inside.ring.state.ring in
      let v' = whole_ring (joined c.self.inside.chapters.items) c.reserve.new.ring.state.ring in
      let h : IsReserved v v' c.args.w c.args.len c.args.flags (Some x.granted) = subst (λ (o : Option HandGranted). IsReserved v v' c.args.w c.args.len c.args.flags (option_map (λ (r : HandGranted). r.granted) o)) w.in-Some.is (c.reserve.ensures.reserved (joined c.self.inside.chapters.items) (kept-of _ c.self.invariant)).1 in
      let none = no-record c.args.machine.now c.args.len (record { ring = c.args.r; reservation = x }) c.requires.waits c.facts.ensures c.record_facts.ensures (given-parts v v' c.args.w c.args.len c.args.flags x.granted h).1 in
      subst (λ (m : MachineState RingRecord). AnswersReserve c.args.w c.args.r c.args.len c.args.flags c.args.machine.now (world_ring c.args.self.now) m (record { ring = v'; taken = c.self.inside.taken.items })) (sym w.machine-is)
      (reserve-granted c.args.w (world_ring c.args.self.now) v v' c.self.inside.taken.items (ap world_ring c.self.view_is) c.args.machine.now w.answer.new.self w.answer.ensures.program c.args.r c.args.len c.args.flags x h none (w.answer.ensures.goes_on (asked.Reserve c.args.len) c.requires.waits) w.answer.ensures.records)
  | in-None w ↦
      let v = whole_ring (joined c.self.inside.chapters.items) c.self.inside.ring.state.ring in
      let v' = whole_ring (joined c.self.inside.chapters.items) c.reserve.new.ring.state.ring in
      let h : IsReserved v v' c.args.w c.args.len c.args.flags None = subst (λ (o : Option HandGranted). IsReserved v v' c.args.w c.args.len c.args.flags (option_map (λ (r : HandGranted). r.granted) o)) w.in-None.is (c.reserve.ensures.reserved (joined c.self.inside.chapters.items) (kept-of _ c.self.invariant)).1 in
      subst (λ (m : MachineState RingRecord). AnswersReserve c.args.w c.args.r c.args.len c.args.flags c.args.machine.now (world_ring c.args.self.now) m (record { ring = v'; taken = c.self.inside.taken.items })) (sym w.machine-is)
      (reserve-refused c.args.w (world_ring c.args.self.now) v v' c.self.inside.taken.items (ap world_ring c.self.view_is) c.args.machine.now w.answer-in-None.new.self w.answer-in-None.ensures.program c.args.r c.args.len c.args.flags h (w.answer-in-None.ensures.goes_on (asked.Reserve c.args.len) c.requires.waits) w.answer-in-None.ensures.records)
]

pub returns-clause-own : goal.returns-clause-own
returns-clause-own c rings low own = elim c.match-reserve.branch [
  | in-Some w ↦
      let x = w.in-Some.reservation in
      let v = whole_ring (joined c.self.inside.chapters.items) c.self.inside.ring.state.ring in
      let v' = whole_ring (joined c.self.inside.chapters.items) c.reserve.new.ring.state.ring in
      let h : IsReserved v v' c.args.w c.args.len c.args.flags (Some x.granted) = subst (λ (o : Option HandGranted). IsReserved v v' c.args.w c.args.len c.args.flags (option_map (λ (r : HandGranted). r.granted) o)) w.in-Some.is (c.reserve.ensures.reserved (joined c.self.inside.chapters.items) (kept-of _ c.self.invariant)).1 in
      let parts = given-parts v v' c.args.w c.args.len c.args.flags x.granted h in
      let none = no-record c.args.machine.now c.args.len (record { ring = c.args.r; reservation = x }) c.requires.waits c.facts.ensures c.record_facts.ensures parts.1 in
      subst (λ (m : MachineState RingRecord). AreOwn c.args.w rings m.records) (sym w.machine-is) (subst (AreOwn c.args.w rings) (sym w.answer.ensures.records)
      (all-granted (λ q. (q.ring < rings) × (q.worker ≡ c.args.w)) c.args.machine.now.state.unit (record { ring = c.args.r; reservation = x }) c.args.machine.now.records none (low, parts.0) own))
  | in-None w ↦ subst (λ (m : MachineState RingRecord). AreOwn c.args.w rings m.records) (sym w.machine-is) (subst (AreOwn c.args.w rings) (sym w.answer-in-None.ensures.records) own)
]

pub invariant_of-self : goal.invariant_of-self
invariant_of-self c =
    let s : KeptRing = record { ring = c.self.inside.ring; chapters = c.self.inside.chapters.items; taken = c.self.inside.taken.items } in
    same-has s c.reserve.new.ring s.taken c.self.invariant c.reserve.ensures.same_chapter (c.reserve.ensures.reserved (joined s.chapters) (kept-of s c.self.invariant)).0

pub returns-clause-chapters : goal.returns-clause-chapters
returns-clause-chapters c =
    let s : KeptRing = record { ring = c.self.inside.ring; chapters = c.self.inside.chapters.items; taken = c.self.inside.taken.items } in
    same-chapters s c.reserve.new.ring s.taken c.reserve.ensures.same_tag c.reserve.ensures.same_chapter ∙ ap chapters_of c.self.view_is

pub answer-requires : goal.answer-requires
answer-requires c =
    let x = c.in-Some.reservation in
    let v = whole_ring (joined c.self.inside.chapters.items) c.self.inside.ring.state.ring in
    let v' = whole_ring (joined c.self.inside.chapters.items) c.reserve.new.ring.state.ring in
    (asked.Reserve c.args.len, c.requires.waits, (given-parts v v' c.args.w c.args.len c.args.flags x.granted (c.in-Some.ensures.reserved (joined c.self.inside.chapters.items) (kept-of _ c.self.invariant)).1).1)

pub returns-clause-held : goal.returns-clause-held
returns-clause-held c = elim c.match-reserve.branch [
  | in-Some w ↦
      let x = w.in-Some.reservation in
      let v = whole_ring (joined c.self.inside.chapters.items) c.self.inside.ring.state.ring in
      let v' = whole_ring (joined c.self.inside.chapters.items) c.reserve.new.ring.state.ring in
      let h : IsReserved v v' c.args.w c.args.len c.args.flags (Some x.granted) = subst (λ (o : Option HandGranted). IsReserved v v' c.args.w c.args.len c.args.flags (option_map (λ (r : HandGranted). r.granted) o)) w.in-Some.is (c.reserve.ensures.reserved (joined c.self.inside.chapters.items) (kept-of _ c.self.invariant)).1 in
      let parts = given-parts v v' c.args.w c.args.len c.args.flags x.granted h in
      let none = no-record c.args.machine.now c.args.len (record { ring = c.args.r; reservation = x }) c.requires.waits c.facts.ensures c.record_facts.ensures parts.1 in
      let old = c.args.machine.now.records in
      let book = c.reserve.new.ring.state.hands in
      subst (λ (m : MachineState RingRecord). HoldsOldOrOut c.args.r book old m.records) (sym w.machine-is) (subst (HoldsOldOrOut c.args.r book old) (sym w.answer.ensures.records)
      (all-granted (λ q. WasHeld old q ⊎ ((q.ring ≡ c.args.r) × (hand_at book q.worker q.hand ≡ Some q.out))) c.args.machine.now.state.unit (record { ring = c.args.r; reservation = x }) old none (inr (refl, w.in-Some.ensures.in_hand)) (λ id y e. inl (held-were old id y e))))
  | in-None w ↦
      let old = c.args.machine.now.records in
      let book = c.reserve.new.ring.state.hands in
      subst (λ (m : MachineState RingRecord). HoldsOldOrOut c.args.r book old m.records) (sym w.machine-is) (subst (HoldsOldOrOut c.args.r book old) (sym w.answer-in-None.ensures.records) (λ id y e. inl (held-were old id y e)))
]

pub returns-clause-hands : goal.returns-clause-hands
returns-clause-hands c =
    let s : KeptRing = record { ring = c.self.inside.ring; chapters = c.self.inside.chapters.items; taken = c.self.inside.taken.items } in
    let s' : KeptRing = record { ring = c.reserve.new.ring; chapters = c.self.inside.chapters.items; taken = c.self.inside.taken.items } in
    subst (λ (u : KeptRing). KeepsInHand u s') c.self.view_is (filled-keeps s s' c.reserve.ensures.others)

pub returns-clause-reason : goal.returns-clause-reason
returns-clause-reason c = λ none. subst (λ (u : KeptRing). ReservesOrHasReason c.args.w c.args.len u.ring.state c.reserve.new.ring.state) c.self.view_is (c.reserve.ensures.reason none)
