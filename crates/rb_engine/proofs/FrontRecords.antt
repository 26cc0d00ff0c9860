-- The record that a take returns is the one that waits at the front.
use Rattle.std.proofs.Common.{◌≡◌, ℕ, zero, suc, ◌+◌, ◌<◌, ◌≤◌, false, List, [], ◌∷◌, ◌++◌, length, get_or, refl, sym, ap, ◌∙◌, subst, arith}
use Rattle.std.specs.List.{Contains}
use Rattle.std.proofs.lemmas.Bool.{false_from_ne_true}
use Rattle.rb_history.specs.declared.entries.Entry.{Entry}
use Rattle.rb_history.specs.declared.answers.Taken.{Taken}
use Rattle.rb_history.specs.declared.answers.Taken.TheVariants.{Event, Skipped, BusyFront, Empty}
use Rattle.rb_history.specs.History.{Shown, records, status_by, is_submitted_at, is_discarded_at, is_taken_at, producer_of, consumer_of}
use Rattle.rb_history.specs.History.Status.{Waiting}
use Rattle.rb_history.specs.Span.{span}
use Rattle.rb_history.specs.inner.RecordRows.{InRow}
use Rattle.rb_history.proofs.Laws.{KeptAs, kept-from-legal}
use Rattle.rb_history.proofs.Row.{get_or-default}
use Rattle.rb_history.proofs.Steps.{shown-contains}
use Rattle.rb_chapter_ring.specs.Snapshot.{Snapshot, no_record}
use Rattle.rb_chapter_ring.specs.ChapterCalls.{TakesByChapter}
use Rattle.rb_chapter_ring.specs.ChapterRing.{ChapterRing}
use Rattle.rb_chapter_ring.specs.ChapterRoom.{record_now}
use Rattle.rb_chapter_ring.specs.CountedFrom.{records_from}
use Rattle.rb_chapter_ring.specs.HandRing.{HandRing}
use Rattle.rb_chapter_ring.specs.WholeHistory.{IsKept}
use Rattle.rb_chapter_ring.proofs.Alike.{calls-alike}
use Rattle.rb_chapter_ring.proofs.Logging.{ends}
use Rattle.rb_chapter_ring.proofs.Stands.{goes-on}
use Rattle.rb_engine.specs.RingCalls.{HasWaitingFront, WasFront}

-- each record of a row begins at the row's start or later
from-row : (c : ℕ) (ss : List Shown) (p i : ℕ) (d : Shown) → InRow c ss p → i < length ss → c ≤ (get_or ss i d).pos
from-row c [] p i d row low = absurd (omega arith)
from-row c (s ∷ ss) p zero d row low = omega (arith, row.0)
from-row c (s ∷ ss) p (suc i) d row low = omega (arith, from-row (c + span s.len) ss p i d row.1 (omega arith))

-- only the first record of a row begins at the row's start
first-alone : (c : ℕ) (ss : List Shown) (p i : ℕ) (d : Shown) → InRow c ss p → i < length ss → (get_or ss i d).pos ≡ c → get_or ss i d ≡ get_or ss 0 d
first-alone c [] p i d row low at = absurd (omega arith)
first-alone c (s ∷ ss) p zero d row low at = refl
first-alone c (s ∷ ss) p (suc i) d row low at = absurd (omega (arith, at, from-row (c + span s.len) ss p i d row.1 (omega arith)))

pub front-waits : (earlier : List Entry) (v : HandRing) (new : ChapterRing) (p w k : ℕ) (bytes : List ℕ) → IsKept earlier v.ring.chapter → TakesByChapter v.ring new (Event p w k bytes) → HasWaitingFront v (length bytes)
front-waits earlier v new p w k bytes kept takes =
    let c = v.ring.chapter in
    let r = c.opening.setup in
    let h = earlier ++ c.entries in
    let event = (((calls-alike earlier v.ring new kept.continues).takes (Event p w k bytes)).0 takes).1 in
    let facts : KeptAs r h = kept-from-legal r h ((goes-on r earlier c.opening kept.continues.earlier_legal kept.continues.opened c.entries).0.0 kept.continues.legal) in
    let shown : records_from c.opening c.entries ≡ records h = ap (λ (o : Snapshot). o.records) (ends earlier c kept.continues) in
    let at : p ≡ consumer_of r.start h = event.front in
    let free : is_taken_at h p ≡ false = false_from_ne_true (is_taken_at h p) (λ t. omega (arith, facts.passed p t, at)) in
    let x : Shown = record { pos = p; len = length bytes; worker = w; serial = k; status = status_by (is_submitted_at h p) (is_discarded_at h p) false } in
    let there : Contains (records h) x = shown-contains h h w k (length bytes) p free event.granted_is in
    let some : 0 < length (records h) = omega (arith, there.1) in
    let first : get_or (records h) 0 x ≡ x = sym (first-alone (consumer_of r.start h) (records h) (producer_of r.start h) there.0 x facts.in_row there.1 (ap (λ (s : Shown). s.pos) there.2 ∙ at)) ∙ there.2 in
    let now : record_now c 0 ≡ x = ap (λ ss. get_or ss 0 no_record) shown ∙ get_or-default (records h) 0 no_record x some ∙ first in
    record {
      there = subst (λ ss. 0 < length ss) (sym shown) some;
      waiting = ap (λ (s : Shown). s.status) now ∙ subst (λ b. status_by (is_submitted_at h p) (is_discarded_at h p) b ≡ Waiting) free event.waiting;
      len_is = ap (λ (s : Shown). s.len) now;
    }

pub was-front : (earlier : List Entry) (v : HandRing) (new : ChapterRing) (taken : Taken) → IsKept earlier v.ring.chapter → TakesByChapter v.ring new taken → WasFront taken v
was-front earlier v new (Event p w k bytes) kept takes = front-waits earlier v new p w k bytes kept takes
was-front earlier v new (Skipped p n) kept takes = tt
was-front earlier v new BusyFront kept takes = tt
was-front earlier v new Empty kept takes = tt
