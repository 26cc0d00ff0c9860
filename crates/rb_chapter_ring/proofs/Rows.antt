-- Facts about a ring's parts.
use Rattle.std.proofs.Common.{List, ◌++◌, map, refl, sym, subst}
use Rattle.rb_history.specs.declared.entries.Entry.{Entry}
use Rattle.rb_history.specs.declared.answers.Counts.{Counts}
use Rattle.rb_history.specs.declared.stored_records.StoredRecord.{StoredRecord}
use Rattle.rb_history.specs.Legal.{IsLegal}
use Rattle.rb_history.specs.inner.RecordRows.{HistoryFacts}
use Rattle.rb_history.specs.StoredRecords.{shown_record}
use Rattle.rb_history.proofs.Laws.{kept-from-legal}
use Rattle.rb_history.proofs.Standing.{contents-stand, contents-sized}
use Rattle.rb_chapter_ring.specs.Snapshot.{Snapshot}
use Rattle.rb_chapter_ring.specs.Chapters.{Chapter, closing_of}
use Rattle.rb_chapter_ring.specs.ChapterRing.{StandsForChapter}
use Rattle.rb_chapter_ring.specs.WholeHistory.{IsSameFrom}
use Rattle.rb_chapter_ring.proofs.Alike.{stands-alike}
use Rattle.rb_chapter_ring.proofs.Logging.{ends}
use Rattle.rb_chapter_ring.proofs.Settling.{whole-legal}
use Rattle.rb_chapter_ring.proofs.Stands.{goes-on}
use Rattle.rb_chapter_ring.specs.inner.RingBody.{IsRingOf, ring_of}

module _ (earlier : List Entry) (c : Chapter) (stored : List StoredRecord) (counts : Counts) (g : IsRingOf earlier c stored counts) where
  -- the whole history
  pub legal : IsLegal c.opening.setup (earlier ++ c.entries)
  legal = whole-legal earlier c g.kept (closing_of c) refl

  pub said : IsSameFrom c.opening.setup earlier c.opening c.entries
  said = (goes-on c.opening.setup earlier c.opening g.kept.continues.earlier_legal g.kept.continues.opened c.entries).1 g.kept.continues.legal

  pub rows : HistoryFacts c.opening.setup (earlier ++ c.entries) (map shown_record stored) (closing_of c).producer (closing_of c).consumer
  rows =
      let r = c.opening.setup in
      let h = earlier ++ c.entries in
      let k = subst (λ (o : Snapshot). HistoryFacts r h o.records o.producer o.consumer) (sym (ends earlier c g.kept.continues)) (kept-from-legal r h legal) in
      subst (λ ss. HistoryFacts r h ss (closing_of c).producer (closing_of c).consumer) (sym g.stands.shown) k

  pub stands-for : StandsForChapter (ring_of c stored)
  stands-for =
      let r = c.opening.setup in
      let h = earlier ++ c.entries in
      (stands-alike earlier (ring_of c stored) g.kept.continues).1 (record {
        shown = rows.shown;
        producer_is = rows.producer_is;
        consumer_is = rows.consumer_is;
        contents = contents-stand r h stored (closing_of c).producer (closing_of c).consumer rows;
        sized = contents-sized r h stored (closing_of c).producer (closing_of c).consumer rows g.sized;
      })
