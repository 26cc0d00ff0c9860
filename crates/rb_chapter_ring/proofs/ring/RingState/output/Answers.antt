use Rattle.std.proofs.Common.{◌-◌, ◌≡◌, ◌+◌, ◌%◌, ◌<◌, ◌^◌, ◌↔◌, length, refl, sym, ap, ◌∙◌, subst, arith}
use Rattle.std.proofs.lemmas.List.{length-map}
use Rattle.rb_history.specs.declared.answers.Notice.TheVariants.{Due}
use Rattle.rb_history.specs.NoticesAndQueries.{IsDue}
use Rattle.rb_chapter_ring.specs.Snapshot.{Snapshot}
use Rattle.rb_chapter_ring.specs.UntakenRecords.{untaken_shown}
use Rattle.rb_chapter_ring.specs.Chapters.{closing_of}
use Rattle.rb_chapter_ring.specs.ChapterCalls.{OutputsByChapter, consumer_by_chapter, producer_by_chapter}
use Rattle.rb_chapter_ring.specs.HandRing.{hand_ring}
use Rattle.rb_chapter_ring.specs.RingFaults.{RefusesInChapter}
use Rattle.rb_chapter_ring.specs.TaggedRing.{TaggedRing}
use Rattle.rb_chapter_ring.specs.inner.ChapterSteps.{GrantsRecord, RefusesRecord}
use Rattle.rb_chapter_ring.specs.inner.RingBody.{parts_of, ring_in}
use Rattle.rb_chapter_ring.proofs.RingSteps.{RefusesParts, OutputsParts, after_request, after_end, refuses, granted-is-busy, granted-many, granted-ordinal, outputs}
use Rattle.rb_chapter_ring.proofs.StateSteps.{refused-holds, output-holds}
use Rattle.rb_chapter_ring.proofs.ring.RingState.output.Goals as goal
use Rattle.rb_chapter_ring.proofs.ring.RingState.output.Goals.{In-Err, After-log_end}

refused : (c : In-Err) → RefusesParts (parts_of c.self.inside) (after_request (parts_of c.self.inside) c.grant.new.self c.grant.new.refused) c.args.worker (length c.args.sheet) c.in-Err.fault
refused c =
    let p = parts_of c.self.inside in
    let low = subst (λ (s : TaggedRing). c.args.worker < s.state.ring.chapter.opening.setup.workers) (sym c.self.view_is) c.requires.worker in
    let is = subst (λ n. RefusesRecord p.chapter c.grant.new.self c.args.worker n c.in-Err.fault) c.len.ensures c.in-Err.ensures.refused in
    refuses p c.self.invariant.parts c.args.worker (length c.args.sheet) low c.grant.new.self c.grant.new.refused c.in-Err.fault is c.in-Err.ensures.counted

pub invariant_of-self : goal.invariant_of-self
invariant_of-self c =
    let a = c.self.inside in
    let p = parts_of a in
    let q = after_request p c.grant.new.self c.grant.new.refused in
    let i = c.self.invariant in
    let done = refused c in
    let low = subst (λ (s : TaggedRing). c.args.worker < s.state.ring.chapter.opening.setup.workers) (sym c.self.view_is) c.requires.worker in
    record {
      parts = done.keeps.parts;
      hands = refused-holds i.parts.earlier (hand_ring (ring_in p) a.hands.items) (hand_ring (ring_in q) a.hands.items) a.ordinals.items i.parts.ring.kept i.hands done.keeps.numbers c.args.worker (length c.args.sheet) low c.in-Err.fault done.refused refl;
    }

pub returns-in-Err-clause-refused : goal.returns-in-Err-clause-refused
returns-in-Err-clause-refused c =
    let q = after_request (parts_of c.self.inside) c.grant.new.self c.grant.new.refused in
    subst (λ (s : TaggedRing). RefusesInChapter s.state.ring (ring_in q) c.args.worker (length c.args.sheet) c.in-Err.fault) c.self.view_is (refused c).refused

pub overflow_sub-index : goal.overflow_sub-index
overflow_sub-index c =
    let p = parts_of c.self.inside in
    let low = subst (λ (s : TaggedRing). c.args.worker < s.state.ring.chapter.opening.setup.workers) (sym c.self.view_is) c.requires.worker in
    let is = subst (λ n. GrantsRecord p.chapter c.grant.new.self c.args.worker n c.in-Ok.field-0.0 c.in-Ok.field-0.1) c.len.ensures c.in-Ok.ensures.granted in
    let many = granted-many p c.self.invariant.parts c.args.worker c.args.sheet low c.grant.new.self c.grant.new.refused c.in-Ok.ensures.uncounted c.in-Ok.field-0.0 c.in-Ok.field-0.1 is in
    let recs = c.records.ensures.records ∙ ap (λ (o : Snapshot). o.records) c.closing-closing.ensures.closing in
    omega (arith, many, ap length recs, length-map c.records.result.now untaken_shown)

pub log_end-requires : goal.log_end-requires
log_end-requires c =
    let p = parts_of c.self.inside in
    let low = subst (λ (s : TaggedRing). c.args.worker < s.state.ring.chapter.opening.setup.workers) (sym c.self.view_is) c.requires.worker in
    let is = subst (λ n. GrantsRecord p.chapter c.grant.new.self c.args.worker n c.in-Ok.field-0.0 c.in-Ok.field-0.1) c.len.ensures c.in-Ok.ensures.granted in
    let many = granted-many p c.self.invariant.parts c.args.worker c.args.sheet low c.grant.new.self c.grant.new.refused c.in-Ok.ensures.uncounted c.in-Ok.field-0.0 c.in-Ok.field-0.1 is in
    let recs = c.records.ensures.records ∙ ap (λ (o : Snapshot). o.records) c.closing-closing.ensures.closing in
    let last : length c.records.result.now - 1 + 1 ≡ length (closing_of c.grant.new.self).records = omega (arith, many, ap length recs, length-map c.records.result.now untaken_shown) in
    record { busy = granted-is-busy p c.self.invariant.parts c.args.worker c.args.sheet low c.grant.new.self c.grant.new.refused c.in-Ok.ensures.uncounted c.in-Ok.field-0.0 c.in-Ok.field-0.1 is (length c.records.result.now - 1) last }

pub overflow_add-ordinal : goal.overflow_add-ordinal
overflow_add-ordinal c =
    let p = parts_of c.self.inside in
    let low = subst (λ (s : TaggedRing). c.args.worker < s.state.ring.chapter.opening.setup.workers) (sym c.self.view_is) c.requires.worker in
    let is = subst (λ n. GrantsRecord p.chapter c.grant.new.self c.args.worker n c.in-Ok.field-0.0 c.in-Ok.field-0.1) c.len.ensures c.in-Ok.ensures.granted in
    let many = granted-many p c.self.invariant.parts c.args.worker c.args.sheet low c.grant.new.self c.grant.new.refused c.in-Ok.ensures.uncounted c.in-Ok.field-0.0 c.in-Ok.field-0.1 is in
    let recs = c.records.ensures.records ∙ ap (λ (o : Snapshot). o.records) c.closing-closing.ensures.closing in
    let last : length c.records.result.now - 1 + 1 ≡ length (closing_of c.grant.new.self).records = omega (arith, many, ap length recs, length-map c.records.result.now untaken_shown) in
    let below = granted-ordinal p c.self.invariant.parts c.args.worker c.args.sheet low c.grant.new.self c.grant.new.refused c.in-Ok.ensures.uncounted c.in-Ok.field-0.0 c.in-Ok.field-0.1 is (length c.records.result.now - 1) last in
    let consumed = c.numbers-numbers-in-Ok.ensures.consumed ∙ ap (λ (o : Snapshot). o.consumed) c.closing-closing.ensures.closing in
    let skipped = c.numbers-numbers-in-Ok.ensures.skipped ∙ ap (λ (o : Snapshot). o.skipped) c.closing-closing.ensures.closing in
    let fits : c.numbers-numbers-in-Ok.result.consumed + c.numbers-numbers-in-Ok.result.skipped + (length c.records.result.now - 1) < 2 ^ 64 = omega (arith, below, consumed, skipped) in
    omega (arith, fits)

pub overflow_add-ordinal-in-Ok : goal.overflow_add-ordinal-in-Ok
overflow_add-ordinal-in-Ok c =
    let p = parts_of c.self.inside in
    let low = subst (λ (s : TaggedRing). c.args.worker < s.state.ring.chapter.opening.setup.workers) (sym c.self.view_is) c.requires.worker in
    let is = subst (λ n. GrantsRecord p.chapter c.grant.new.self c.args.worker n c.in-Ok.field-0.0 c.in-Ok.field-0.1) c.len.ensures c.in-Ok.ensures.granted in
    let many = granted-many p c.self.invariant.parts c.args.worker c.args.sheet low c.grant.new.self c.grant.new.refused c.in-Ok.ensures.uncounted c.in-Ok.field-0.0 c.in-Ok.field-0.1 is in
    let recs = c.records.ensures.records ∙ ap (λ (o : Snapshot). o.records) c.closing-closing.ensures.closing in
    let last : length c.records.result.now - 1 + 1 ≡ length (closing_of c.grant.new.self).records = omega (arith, many, ap length recs, length-map c.records.result.now untaken_shown) in
    let below = granted-ordinal p c.self.invariant.parts c.args.worker c.args.sheet low c.grant.new.self c.grant.new.refused c.in-Ok.ensures.uncounted c.in-Ok.field-0.0 c.in-Ok.field-0.1 is (length c.records.result.now - 1) last in
    let consumed = c.numbers-numbers-in-Ok.ensures.consumed ∙ ap (λ (o : Snapshot). o.consumed) c.closing-closing.ensures.closing in
    let skipped = c.numbers-numbers-in-Ok.ensures.skipped ∙ ap (λ (o : Snapshot). o.skipped) c.closing-closing.ensures.closing in
    let fits : c.numbers-numbers-in-Ok.result.consumed + c.numbers-numbers-in-Ok.result.skipped + (length c.records.result.now - 1) < 2 ^ 64 = omega (arith, below, consumed, skipped) in
    omega (arith, fits)

output : (c : After-log_end) → OutputsParts (parts_of c.self.inside) (after_end (after_request (parts_of c.self.inside) c.grant.new.self c.grant.new.refused) c.log_end.new.self c.keep_bytes.new.sheets.items c.self.inside.discarded) c.args.worker c.args.sheet
output c =
    let a = c.self.inside in
    let p = parts_of a in
    let i = c.self.invariant.parts in
    let low = subst (λ (s : TaggedRing). c.args.worker < s.state.ring.chapter.opening.setup.workers) (sym c.self.view_is) c.requires.worker in
    let is = subst (λ n. GrantsRecord p.chapter c.grant.new.self c.args.worker n c.in-Ok.field-0.0 c.in-Ok.field-0.1) c.len.ensures c.in-Ok.ensures.granted in
    let many = granted-many p c.self.invariant.parts c.args.worker c.args.sheet low c.grant.new.self c.grant.new.refused c.in-Ok.ensures.uncounted c.in-Ok.field-0.0 c.in-Ok.field-0.1 is in
    let recs = c.records.ensures.records ∙ ap (λ (o : Snapshot). o.records) c.closing-closing.ensures.closing in
    let last : length c.records.result.now - 1 + 1 ≡ length (closing_of c.grant.new.self).records = omega (arith, many, ap length recs, length-map c.records.result.now untaken_shown) in
    let consumed = c.numbers-numbers-in-Ok.ensures.consumed ∙ ap (λ (o : Snapshot). o.consumed) c.closing-closing.ensures.closing in
    let skipped = c.numbers-numbers-in-Ok.ensures.skipped ∙ ap (λ (o : Snapshot). o.skipped) c.closing-closing.ensures.closing in
    let many = c.len-in-Ok.ensures ∙ a.sheets.ok.0 in
    let slot = c.slot_in-slot.ensures.value ∙ (λ j. (consumed j + skipped j + (length c.records.result.now - 1)) % many j) in
    outputs p i c.args.worker c.args.sheet low c.grant.new.self c.grant.new.refused c.in-Ok.ensures.uncounted c.in-Ok.field-0.0 c.in-Ok.field-0.1 is (length c.records.result.now - 1) last c.slot_in-slot.result slot (omega (arith, c.slot_in-slot.ensures.within, many))
    c.log_end.new.self c.log_end.ensures.logged c.keep_bytes.new.sheets.items c.keep_bytes.ensures.kept

pub invariant_of-self-in-Ok : goal.invariant_of-self-in-Ok
invariant_of-self-in-Ok c =
    let a = c.self.inside in
    let p = parts_of a in
    let q = after_end (after_request p c.grant.new.self c.grant.new.refused) c.log_end.new.self c.keep_bytes.new.sheets.items a.discarded in
    let i = c.self.invariant in
    let done = output c in
    let low = subst (λ (s : TaggedRing). c.args.worker < s.state.ring.chapter.opening.setup.workers) (sym c.self.view_is) c.requires.worker in
    record {
      parts = done.keeps.parts;
      hands = output-holds i.parts.earlier (hand_ring (ring_in p) a.hands.items) (hand_ring (ring_in q) a.hands.items) a.ordinals.items i.parts.ring.kept i.hands done.keeps.numbers c.args.worker c.args.sheet low done.outputs refl;
    }

pub returns-in-Ok-clause-granted : goal.returns-in-Ok-clause-granted
returns-in-Ok-clause-granted c =
    let q = after_end (after_request (parts_of c.self.inside) c.grant.new.self c.grant.new.refused) c.log_end.new.self c.keep_bytes.new.sheets.items c.self.inside.discarded in
    subst (λ (s : TaggedRing). OutputsByChapter s.state.ring (ring_in q) c.args.worker c.args.sheet) c.self.view_is (output c).outputs

pub returns-in-Ok-clause-notice : goal.returns-in-Ok-clause-notice
returns-in-Ok-clause-notice c =
    let consumer = c.numbers-numbers.ensures.consumer ∙ ap (λ (o : Snapshot). o.consumer) c.closing.ensures.closing ∙ ap (λ (s : TaggedRing). consumer_by_chapter s.state.ring) c.self.view_is in
    let producer = c.numbers-numbers.ensures.producer ∙ ap (λ (o : Snapshot). o.producer) c.closing.ensures.closing ∙ ap (λ (s : TaggedRing). producer_by_chapter s.state.ring) c.self.view_is in
    subst (λ p. (c.notice_for-notice.result ≡ Due) ↔ IsDue (consumer_by_chapter c.args.self.now.state.ring) p c.args.flags) producer
    (subst (λ n. (c.notice_for-notice.result ≡ Due) ↔ IsDue n c.numbers-numbers.result.producer c.args.flags) consumer c.notice_for-notice.ensures.due)
