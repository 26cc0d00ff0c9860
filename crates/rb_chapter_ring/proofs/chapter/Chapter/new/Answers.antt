use Rattle.std.proofs.Common.{[], length, sym, ap, subst, arith}
use Rattle.rb_history.specs.RingModel.{IsWorkerCount}
use Rattle.rb_chapter_ring.specs.Snapshot.{Snapshot}
use Rattle.rb_chapter_ring.specs.inner.ChapterBody.{entries_in, IsBehindTakes}
use Rattle.rb_chapter_ring.proofs.Empty.{empty-as}
use Rattle.rb_chapter_ring.proofs.Running.{runs-from-none}
use Rattle.rb_chapter_ring.proofs.chapter.Chapter.new.Goals as goal

pub invariant_of-result : goal.invariant_of-result
invariant_of-result c =
    let zeros = c.in_ok-of_zeros.ensures.zeros in
    let space = c.in_ok-with_capacity.ensures.capacity in
    let o = c.in_ok-of_zeros.field-0.opening in
    let none = ap (entries_in o) c.in_ok-with_capacity.ensures.items in
    let kept = empty-as c.args.room _ o (entries_in o c.in_ok-with_capacity.field-0.items) zeros none in
    let runs = runs-from-none [] _ c.in_ok-of_zeros-2.field-0.opening _ kept none zeros c.in_ok-of_zeros-2.ensures.zeros in
    record {
      room = c.requires.room;
      workers = subst IsWorkerCount (sym (ap (λ (o : Snapshot). o.setup.workers) zeros)) c.requires.workers;
      space = omega (arith, space);
      opening_space = omega (arith, c.in_ok-of_zeros.ensures.room);
      closing_space = omega (arith, c.in_ok-of_zeros-2.ensures.room);
      passed = omega (arith, c.in_ok-of_zeros-2.ensures.passed, ap (λ (o : Snapshot). length o.records) c.in_ok-of_zeros-2.ensures.zeros);
      takes = subst IsBehindTakes (sym c.in_ok-of_zeros-2.ensures.zeros) (omega arith);
      closing_is = runs.closing_is;
      owed_is = runs.owed_is;
      earlier = [];
      kept = kept;
    }
