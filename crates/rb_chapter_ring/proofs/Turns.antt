-- The ring continues in another chapter.
use Rattle.std.proofs.Common.{◌≡◌, ◌+◌, ◌<◌, ◌^◌, ◌↔◌, Bool, IsTrue, List, [], ◌∷◌, ◌++◌, length, arith, refl, sym, ap, ◌∙◌, subst, append-nil}
use Rattle.rb_history.specs.declared.entries.Entry.{Entry}
use Rattle.rb_history.specs.declared.answers.Counts.{Counts}
use Rattle.rb_history.specs.declared.stored_records.StoredRecord.{StoredRecord}
use Rattle.rb_history.specs.Counting.{counts_of}
use Rattle.rb_history.specs.RingModel.{IsRingSize, IsStartPosition, IsWorkerCount}
use Rattle.rb_chapter_ring.specs.Snapshot.{Snapshot}
use Rattle.rb_chapter_ring.specs.Chapters.{Chapter, IsChapterRoom, closing_of, Meets}
use Rattle.rb_chapter_ring.specs.ChapterRing.{ChapterRing}
use Rattle.rb_chapter_ring.specs.ChapterCalls.{HandsOut}
use Rattle.rb_chapter_ring.proofs.Running.{closing-none}
use Rattle.rb_chapter_ring.proofs.Room.{next-room}
use Rattle.rb_chapter_ring.specs.OpenedRing.{capped_counts, MayGoOnIn}
use Rattle.rb_chapter_ring.specs.inner.Ordinals.{taken_before}
use Rattle.rb_chapter_ring.specs.inner.RingBody.{ring_of, IsStored, IsRingOf}

module _ (earlier : List Entry) (c : Chapter) (stored : List StoredRecord) (counts : Counts) (g : IsRingOf earlier c stored counts) (d : Chapter) (meets : Meets c d) (none : d.entries ≡ []) (room : d.room ≡ c.room) where
  -- the summary does not change
  pub closing-same : closing_of d ≡ closing_of c
  closing-same = closing-none (earlier ++ c.entries) d (next-room earlier c d g.kept.continues g.kept.room meets none room).1 none ∙ meets.goes_on

  setup-same : d.opening.setup ≡ c.opening.setup
  setup-same = ap (λ (o : Snapshot). o.setup) meets.goes_on

  pub turn-keeps : IsRingOf (earlier ++ c.entries) d stored counts
  turn-keeps =
      let next = next-room earlier c d g.kept.continues g.kept.room meets none room in
      let size = ap (λ s. s.size) setup-same in
      record {
        kept = record { continues = next.1; room = next.0 };
        size = subst IsRingSize (sym size) g.size;
        start = subst IsStartPosition (sym (ap (λ s. s.start) setup-same)) g.start;
        workers = subst IsWorkerCount (sym (ap (λ s. s.workers) setup-same)) g.workers;
        chapter_room = subst IsChapterRoom (sym room) g.chapter_room;
        stands = subst (λ o. IsStored d.opening.setup.size o stored) (sym closing-same) (subst (λ n. IsStored n (closing_of c) stored) (sym size) g.stands);
        sized = g.sized;
        granted = subst (λ o. counts.made ≡ taken_before o + length stored) (sym closing-same) g.granted;
        counted = g.counted ∙ ap (λ h. capped_counts (counts_of h)) (sym (ap (λ es. (earlier ++ c.entries) ++ es) none ∙ append-nil (earlier ++ c.entries)));
      }

  pub hands-out : HandsOut (ring_of c stored) (ring_of d stored) c
  hands-out = record {
    next = record { out_is = refl; next_is = meets; no_entries = none; room_same = room };
    contents_same = refl;
    shown_same = refl;
    producer_same = ap (λ (o : Snapshot). o.producer) closing-same;
    consumer_same = ap (λ (o : Snapshot). o.consumer) closing-same;
  }

-- ---- the chapters in which it may continue

nil-of : (es : List Entry) → length es ≡ 0 → es ≡ []
nil-of [] e = refl
nil-of (x ∷ es) e = absurd (omega (arith, e))

pub fit-exact : (v : ChapterRing) (d : Chapter) (b : Bool) → IsTrue b ↔ ((length d.entries ≡ 0) × (d.room ≡ v.chapter.room) × (d.opening.setup.workers ≡ v.chapter.opening.setup.workers) × (v.chapter.number < 2 ^ 62)) → IsTrue b ↔ MayGoOnIn v d
fit-exact v d b exact = (
  (λ t. let q = exact.0 t in record { no_entries = nil-of d.entries q.0; room_same = q.1; workers_same = q.2; numbered = q.3 }),
  (λ m. exact.1 (ap length m.no_entries, m.room_same, m.workers_same, m.numbered)),
)
