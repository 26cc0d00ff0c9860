use Rattle.std.proofs.Common.{◌≤◌, [], length, sym, ap, ◌∙◌, subst, arith}
use Rattle.rb_history.specs.RingModel.{IsWorkerCount}
use Rattle.rb_chapter_ring.specs.Snapshot.{Snapshot}
use Rattle.rb_chapter_ring.specs.Chapters.{empty_ring}
use Rattle.rb_chapter_ring.specs.inner.ChapterBody.{entries_in, IsBehindTakes}
use Rattle.rb_chapter_ring.proofs.Empty.{empty-as}
use Rattle.rb_chapter_ring.proofs.Running.{runs-from-none}
use Rattle.rb_chapter_ring.proofs.chapter.Chapter.open_first.Goals as goal

pub invariant_of-self : goal.invariant_of-self
invariant_of-self c =
    let was = c.self.invariant in
    let first = c.begin.ensures.first in
    let o = c.begin.new.self.opening in
    let none = ap (entries_in o) c.clear.ensures.items in
    let kept = empty-as c.self.inside.room _ o (entries_in o c.clear.new.self.items) first none in
    let workers = ap (λ (o : Snapshot). empty_ring (record { size = c.args.size; start = c.args.start; workers = o.setup.workers })) was.closing_is in
    let runs = runs-from-none [] _ c.begin-2.new.self.opening _ kept none first (c.begin-2.ensures.first ∙ workers) in
    record {
      room = was.room;
      workers = subst IsWorkerCount (sym (ap (λ (o : Snapshot). o.setup.workers) first)) was.workers;
      space = subst (λ n. c.self.inside.room ≤ n) (sym c.clear.ensures.capacity) was.space;
      opening_space = subst (λ n. c.self.inside.room ≤ n) (sym c.begin.ensures.room) was.opening_space;
      closing_space = subst (λ n. c.self.inside.room ≤ n) (sym c.begin-2.ensures.room) was.closing_space;
      passed = omega (arith, c.begin-2.ensures.passed, ap (λ (o : Snapshot). length o.records) c.begin-2.ensures.first);
      takes = subst IsBehindTakes (sym c.begin-2.ensures.first) (omega arith);
      closing_is = runs.closing_is;
      owed_is = runs.owed_is;
      earlier = [];
      kept = kept;
    }
