use Rattle.std.proofs.Common.{◌≡◌, ◌+◌, ◌%◌, ◌<◌, [], length, get_or, set, refl, sym, ap, ◌∙◌, subst, arith}
use Rattle.std.proofs.lemmas.List.{length-map}
use Rattle.rb_history.specs.declared.answers.Taken.TheVariants.{Event, Skipped, BusyFront, Empty}
use Rattle.rb_history.specs.History.{Shown}
use Rattle.rb_history.proofs.Row.{get_or-default}
use Rattle.rb_chapter_ring.specs.Snapshot.{Snapshot, no_record, record_in}
use Rattle.rb_chapter_ring.specs.UntakenRecords.{status_shown, untaken_shown}
use Rattle.rb_chapter_ring.specs.Chapters.{closing_of}
use Rattle.rb_chapter_ring.specs.HandRing.{hand_ring}
use Rattle.rb_chapter_ring.specs.TaggedRing.{TaggedRing}
use Rattle.rb_chapter_ring.specs.inner.Ordinals.{taken_before}
use Rattle.rb_chapter_ring.specs.inner.RingBody.{parts_of, ring_in}
use Rattle.rb_chapter_ring.proofs.Fronts.{none-front, busy-front}
use Rattle.rb_chapter_ring.proofs.RingSteps.{TakesParts, after_take, takes-waiting, takes-discarded}
use Rattle.rb_chapter_ring.proofs.StateSteps.{taken-holds}
use Rattle.rb_chapter_ring.proofs.TakesOne.{TakesAs}
use Rattle.rb_chapter_ring.proofs.ring.RingState.take.Goals as goal
use Rattle.rb_chapter_ring.proofs.ring.RingState.take.Goals.{After-log_take, After-log_take-in-Discarded}

-- ---- nothing is taken

pub returns-in_default-clause-takes : goal.returns-in_default-clause-takes
returns-in_default-clause-takes c =
    let a = c.self.inside in
    let i = c.self.invariant.parts in
    let recs = c.records.ensures.records ∙ ap (λ (o : Snapshot). o.records) c.closing-closing.ensures.closing in
    let none : length (closing_of a.chapter).records ≡ 0 = omega (arith, c.in_default.ensures.none, ap length recs, length-map c.records.result.now untaken_shown) in
    (subst (λ (s : TaggedRing). TakesAs s.state.ring s.state.ring Empty) c.self.view_is (none-front i.earlier a.chapter a.sheets.items i.counts i.ring none)).takes

pub returns-in_default-clause-busy_front : goal.returns-in_default-clause-busy_front
returns-in_default-clause-busy_front c =
    let a = c.self.inside in
    let i = c.self.invariant.parts in
    let recs = c.records.ensures.records ∙ ap (λ (o : Snapshot). o.records) c.closing-closing.ensures.closing in
    let none : length (closing_of a.chapter).records ≡ 0 = omega (arith, c.in_default.ensures.none, ap length recs, length-map c.records.result.now untaken_shown) in
    (subst (λ (s : TaggedRing). TakesAs s.state.ring s.state.ring Empty) c.self.view_is (none-front i.earlier a.chapter a.sheets.items i.counts i.ring none)).busy_front

pub returns-in_default-clause-empty : goal.returns-in_default-clause-empty
returns-in_default-clause-empty c =
    let a = c.self.inside in
    let i = c.self.invariant.parts in
    let recs = c.records.ensures.records ∙ ap (λ (o : Snapshot). o.records) c.closing-closing.ensures.closing in
    let none : length (closing_of a.chapter).records ≡ 0 = omega (arith, c.in_default.ensures.none, ap length recs, length-map c.records.result.now untaken_shown) in
    (subst (λ (s : TaggedRing). TakesAs s.state.ring s.state.ring Empty) c.self.view_is (none-front i.earlier a.chapter a.sheets.items i.counts i.ring none)).empty

pub returns-in-Busy-clause-takes : goal.returns-in-Busy-clause-takes
returns-in-Busy-clause-takes c =
    let a = c.self.inside in
    let i = c.self.invariant.parts in
    let recs = c.records.ensures.records ∙ ap (λ (o : Snapshot). o.records) c.closing-closing.ensures.closing in
    let found = c.in-Some.ensures.front in
    let some : 0 < length (closing_of a.chapter).records = omega (arith, found.0, ap length recs, length-map c.records.result.now untaken_shown) in
    let shown : untaken_shown c.in-Some.front ≡ record_in (closing_of a.chapter) 0 = found.1 ∙ ap (λ ss. get_or ss 0 no_record) recs in
    let status = ap (λ (s : Shown). s.status) (sym shown) ∙ ap status_shown c.in-Busy.is in
    (subst (λ (s : TaggedRing). TakesAs s.state.ring s.state.ring BusyFront) c.self.view_is (busy-front i.earlier a.chapter a.sheets.items i.counts i.ring some status)).takes

pub returns-in-Busy-clause-busy_front : goal.returns-in-Busy-clause-busy_front
returns-in-Busy-clause-busy_front c =
    let a = c.self.inside in
    let i = c.self.invariant.parts in
    let recs = c.records.ensures.records ∙ ap (λ (o : Snapshot). o.records) c.closing-closing.ensures.closing in
    let found = c.in-Some.ensures.front in
    let some : 0 < length (closing_of a.chapter).records = omega (arith, found.0, ap length recs, length-map c.records.result.now untaken_shown) in
    let shown : untaken_shown c.in-Some.front ≡ record_in (closing_of a.chapter) 0 = found.1 ∙ ap (λ ss. get_or ss 0 no_record) recs in
    let status = ap (λ (s : Shown). s.status) (sym shown) ∙ ap status_shown c.in-Busy.is in
    (subst (λ (s : TaggedRing). TakesAs s.state.ring s.state.ring BusyFront) c.self.view_is (busy-front i.earlier a.chapter a.sheets.items i.counts i.ring some status)).busy_front

pub returns-in-Busy-clause-empty : goal.returns-in-Busy-clause-empty
returns-in-Busy-clause-empty c =
    let a = c.self.inside in
    let i = c.self.invariant.parts in
    let recs = c.records.ensures.records ∙ ap (λ (o : Snapshot). o.records) c.closing-closing.ensures.closing in
    let found = c.in-Some.ensures.front in
    let some : 0 < length (closing_of a.chapter).records = omega (arith, found.0, ap length recs, length-map c.records.result.now untaken_shown) in
    let shown : untaken_shown c.in-Some.front ≡ record_in (closing_of a.chapter) 0 = found.1 ∙ ap (λ ss. get_or ss 0 no_record) recs in
    let status = ap (λ (s : Shown). s.status) (sym shown) ∙ ap status_shown c.in-Busy.is in
    (subst (λ (s : TaggedRing). TakesAs s.state.ring s.state.ring BusyFront) c.self.view_is (busy-front i.earlier a.chapter a.sheets.items i.counts i.ring some status)).empty

-- ---- a record that waits

waited : (c : After-log_take) → TakesParts (parts_of c.self.inside) (after_take (parts_of c.self.inside) c.log_take.new.self (set c.self.inside.sheets.items c.slot_in-slot.result c.hand_out-sheet.new.self)) (Event c.in-Some.front.pos c.in-Some.front.worker c.in-Some.front.serial c.hand_out-sheet.result)
waited c =
    let a = c.self.inside in
    let recs = c.records.ensures.records ∙ ap (λ (o : Snapshot). o.records) c.closing-closing.ensures.closing in
    let found = c.in-Some.ensures.front in
    let some : 0 < length (closing_of a.chapter).records = omega (arith, found.0, ap length recs, length-map c.records.result.now untaken_shown) in
    let shown : untaken_shown c.in-Some.front ≡ record_in (closing_of a.chapter) 0 = found.1 ∙ ap (λ ss. get_or ss 0 no_record) recs in
    let consumed = c.numbers-numbers.ensures.consumed ∙ ap (λ (o : Snapshot). o.consumed) c.closing-closing.ensures.closing in
    let skipped = c.numbers-numbers.ensures.skipped ∙ ap (λ (o : Snapshot). o.skipped) c.closing-closing.ensures.closing in
    let many = c.len.ensures ∙ a.sheets.ok.0 in
    let slot : c.slot_in-slot.result ≡ taken_before (closing_of a.chapter) % length a.sheets.items = c.slot_in-slot.ensures.value ∙ (λ j. (consumed j + skipped j) % many j) in
    let low : c.slot_in-slot.result < length a.sheets.items = omega (arith, c.slot_in-slot.ensures.within, many) in
    let bytes : c.hand_out-sheet.result ≡ get_or a.sheets.items c.slot_in-slot.result [] = c.hand_out-sheet.ensures.value ∙ c.index_mut.ensures.value ∙ get_or-default a.sheets.items c.slot_in-slot.result c.index_mut.result.now [] low in
    takes-waiting (parts_of a) c.self.invariant.parts some (untaken_shown c.in-Some.front) shown c.log_take.new.self c.log_take.ensures.logged (ap status_shown c.in-Waiting.is) c.slot_in-slot.result slot c.hand_out-sheet.result c.hand_out-sheet.new.self bytes

pub invariant_of-self : goal.invariant_of-self
invariant_of-self c =
    let a = c.self.inside in
    let p = parts_of a in
    let q = after_take p c.log_take.new.self (set a.sheets.items c.slot_in-slot.result c.hand_out-sheet.new.self) in
    let i = c.self.invariant in
    let done = waited c in
    record { parts = done.keeps.parts; hands = taken-holds i.parts.earlier (hand_ring (ring_in p) a.hands.items) (hand_ring (ring_in q) a.hands.items) a.ordinals.items i.parts.ring.kept i.hands done.keeps.numbers (Event c.in-Some.front.pos c.in-Some.front.worker c.in-Some.front.serial c.hand_out-sheet.result) done.taken.takes refl }

pub returns-in-Waiting-clause-takes : goal.returns-in-Waiting-clause-takes
returns-in-Waiting-clause-takes c =
    let q = after_take (parts_of c.self.inside) c.log_take.new.self (set c.self.inside.sheets.items c.slot_in-slot.result c.hand_out-sheet.new.self) in
    (subst (λ (s : TaggedRing). TakesAs s.state.ring (ring_in q) (Event c.in-Some.front.pos c.in-Some.front.worker c.in-Some.front.serial c.hand_out-sheet.result)) c.self.view_is (waited c).taken).takes

pub returns-in-Waiting-clause-busy_front : goal.returns-in-Waiting-clause-busy_front
returns-in-Waiting-clause-busy_front c =
    let q = after_take (parts_of c.self.inside) c.log_take.new.self (set c.self.inside.sheets.items c.slot_in-slot.result c.hand_out-sheet.new.self) in
    (subst (λ (s : TaggedRing). TakesAs s.state.ring (ring_in q) (Event c.in-Some.front.pos c.in-Some.front.worker c.in-Some.front.serial c.hand_out-sheet.result)) c.self.view_is (waited c).taken).busy_front

pub returns-in-Waiting-clause-empty : goal.returns-in-Waiting-clause-empty
returns-in-Waiting-clause-empty c =
    let q = after_take (parts_of c.self.inside) c.log_take.new.self (set c.self.inside.sheets.items c.slot_in-slot.result c.hand_out-sheet.new.self) in
    (subst (λ (s : TaggedRing). TakesAs s.state.ring (ring_in q) (Event c.in-Some.front.pos c.in-Some.front.worker c.in-Some.front.serial c.hand_out-sheet.result)) c.self.view_is (waited c).taken).empty

-- ---- a record that was discarded

skipped : (c : After-log_take-in-Discarded) → TakesParts (parts_of c.self.inside) (after_take (parts_of c.self.inside) c.log_take-in-Discarded.new.self c.self.inside.sheets.items) (Skipped c.in-Some.front.pos c.in-Some.front.len)
skipped c =
    let a = c.self.inside in
    let recs = c.records.ensures.records ∙ ap (λ (o : Snapshot). o.records) c.closing-closing.ensures.closing in
    let found = c.in-Some.ensures.front in
    let some : 0 < length (closing_of a.chapter).records = omega (arith, found.0, ap length recs, length-map c.records.result.now untaken_shown) in
    let shown : untaken_shown c.in-Some.front ≡ record_in (closing_of a.chapter) 0 = found.1 ∙ ap (λ ss. get_or ss 0 no_record) recs in
    takes-discarded (parts_of a) c.self.invariant.parts some (untaken_shown c.in-Some.front) shown c.log_take-in-Discarded.new.self c.log_take-in-Discarded.ensures.logged (ap status_shown c.in-Discarded.is)

pub invariant_of-self-in-Discarded : goal.invariant_of-self-in-Discarded
invariant_of-self-in-Discarded c =
    let a = c.self.inside in
    let p = parts_of a in
    let q = after_take p c.log_take-in-Discarded.new.self a.sheets.items in
    let i = c.self.invariant in
    let done = skipped c in
    record { parts = done.keeps.parts; hands = taken-holds i.parts.earlier (hand_ring (ring_in p) a.hands.items) (hand_ring (ring_in q) a.hands.items) a.ordinals.items i.parts.ring.kept i.hands done.keeps.numbers (Skipped c.in-Some.front.pos c.in-Some.front.len) done.taken.takes refl }

pub returns-in-Discarded-clause-takes : goal.returns-in-Discarded-clause-takes
returns-in-Discarded-clause-takes c =
    let q = after_take (parts_of c.self.inside) c.log_take-in-Discarded.new.self c.self.inside.sheets.items in
    (subst (λ (s : TaggedRing). TakesAs s.state.ring (ring_in q) (Skipped c.in-Some.front.pos c.in-Some.front.len)) c.self.view_is (skipped c).taken).takes

pub returns-in-Discarded-clause-busy_front : goal.returns-in-Discarded-clause-busy_front
returns-in-Discarded-clause-busy_front c =
    let q = after_take (parts_of c.self.inside) c.log_take-in-Discarded.new.self c.self.inside.sheets.items in
    (subst (λ (s : TaggedRing). TakesAs s.state.ring (ring_in q) (Skipped c.in-Some.front.pos c.in-Some.front.len)) c.self.view_is (skipped c).taken).busy_front

pub returns-in-Discarded-clause-empty : goal.returns-in-Discarded-clause-empty
returns-in-Discarded-clause-empty c =
    let q = after_take (parts_of c.self.inside) c.log_take-in-Discarded.new.self c.self.inside.sheets.items in
    (subst (λ (s : TaggedRing). TakesAs s.state.ring (ring_in q) (Skipped c.in-Some.front.pos c.in-Some.front.len)) c.self.view_is (skipped c).taken).empty
