use Rattle.std.proofs.Common.{◌+◌, ◌∙◌, ap, drop, get_or, map}
use Rattle.rb_history.specs.Span.{span}
use Rattle.rb_history.specs.History.{Shown}
use Rattle.rb_chapter_ring.specs.SnapshotValue.{SnapshotValue}
use Rattle.rb_chapter_ring.specs.Snapshot.{no_record}
use Rattle.rb_chapter_ring.specs.UntakenRecords.{untaken_shown}
use Rattle.rb_chapter_ring.specs.inner.SnapshotSteps.{with_take, events_by, skips_by}
use Rattle.rb_chapter_ring.proofs.Places.{one-dropped}
use Rattle.rb_chapter_ring.proofs.snapshot.Snapshot.add_take.Goals as goal

pub returns-clause-taken : goal.returns-clause-taken
returns-clause-taken c =
    let a = c.self.inside in
    let at = c.front_of-record.ensures.record ∙ ap (λ rs. get_or (map untaken_shown (drop a.first rs)) 0 no_record) c.as_slice.ensures.value in
    let consumer = ap (λ n. a.numbers.consumer + n) (c.span.ensures.value ∙ ap (λ (s : Shown). span s.len) at) in
    let rows = one-dropped a.records.items a.first in
    let counted = c.count_take.ensures.counted in
    let consumed = ap (λ (s : Shown). a.numbers.consumed + events_by s.status) at in
    let skipped = ap (λ (s : Shown). a.numbers.skipped + skips_by s.status) at in
    (λ i. record {
      setup = record { size = (counted i).size; start = (counted i).start; workers = (counted i).workers };
      producer = (counted i).producer;
      consumer = (counted i).consumer;
      records = rows i;
      tallies = a.tallies.items;
      consumed = (counted i).consumed;
      skipped = (counted i).skipped;
    })
    ∙ (λ i. record {
      setup = record { size = a.numbers.size; start = a.numbers.start; workers = a.numbers.workers };
      producer = a.numbers.producer;
      consumer = consumer i;
      records = drop 1 (map untaken_shown (drop a.first a.records.items));
      tallies = a.tallies.items;
      consumed = consumed i;
      skipped = skipped i;
    })
    ∙ ap (λ (v : SnapshotValue). with_take v.opening) c.self.view_is
