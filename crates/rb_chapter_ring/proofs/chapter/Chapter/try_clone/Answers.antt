use Rattle.std.proofs.Common.{◌≡◌, length, sym, ap, ◌∙◌, subst, arith, rules}
use Rattle.rb_history.specs.RingModel.{IsWorkerCount}
use Rattle.rb_chapter_ring.specs.Snapshot.{Snapshot}
use Rattle.rb_chapter_ring.specs.Chapters.{Chapter, closing_of}
use Rattle.rb_chapter_ring.specs.ChapterRoom.{owed}
use Rattle.rb_chapter_ring.specs.WholeHistory.{IsKept}
use Rattle.rb_chapter_ring.specs.inner.ChapterBody.{chapter_shown, entries_in, IsBehindTakes}
use Rattle.rb_chapter_ring.proofs.chapter.Chapter.try_clone.Goals as goal

pub invariant_of-result : goal.invariant_of-result
invariant_of-result c =
    let was = c.self.invariant in
    let old = chapter_shown c.self.inside in
    let opening = c.in_ok-opening.ensures in
    let closing = c.in_ok-closing.ensures in
    let new : Chapter = record { number = c.self.inside.number; room = c.self.inside.room; opening = c.in_ok-opening.opening.opening; entries = entries_in c.in_ok-opening.opening.opening c.extend_from_slice.new.self.items } in
    let words : c.extend_from_slice.new.self.items ≡ c.self.inside.words.items = search rules in
    let same : new ≡ old = λ i. record { number = c.self.inside.number; room = c.self.inside.room; opening = opening.same i; entries = entries_in (opening.same i) (words i) } in
    record {
      room = was.room;
      workers = subst (λ (o : Snapshot). IsWorkerCount o.setup.workers) (sym opening.same) was.workers;
      space = search rules;
      opening_space = opening.room;
      closing_space = closing.room;
      passed = omega (
        arith,
        was.passed,
        closing.passed,
        ap (λ (o : Snapshot). length o.records) closing.same,
        ap length words,
      );
      takes = subst IsBehindTakes (sym closing.same) was.takes;
      closing_is = closing.same ∙ (was.closing_is ∙ ap closing_of (sym same));
      owed_is = was.owed_is ∙ ap owed (sym same);
      earlier = was.earlier;
      kept = subst (IsKept was.earlier) (sym same) was.kept;
    }
