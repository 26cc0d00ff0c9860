use Rattle.std.proofs.Common.{◌≡◌, ◌+◌, ◌++◌, length, refl, sym, ap, ◌∙◌, subst, arith}
use Rattle.rb_history.specs.RingModel.{IsWorkerCount}
use Rattle.rb_chapter_ring.specs.Snapshot.{Snapshot}
use Rattle.rb_chapter_ring.specs.Chapters.{Chapter, Meets, closing_of}
use Rattle.rb_chapter_ring.specs.inner.ChapterBody.{chapter_shown, entries_in, IsBehindTakes}
use Rattle.rb_chapter_ring.proofs.Running.{closing-fits, records-owe, runs-on}
use Rattle.rb_chapter_ring.proofs.EntryWords.{no-words}
use Rattle.rb_chapter_ring.proofs.chapter.Chapter.open_after.Goals as goal

pub copy_from-requires-clause-room : goal.copy_from-requires-clause-room
copy_from-requires-clause-room c =
    let same : c.self.inside.room ≡ c.earlier.inside.room = ap (λ (x : Chapter). x.room) c.self.view_is ∙ c.requires.room ∙ sym (ap (λ (x : Chapter). x.room) c.earlier.view_is) in
    let was = c.earlier.invariant in
    omega (arith, same, closing-fits was.earlier (chapter_shown c.earlier.inside) c.earlier.inside.closing.opening was.kept was.closing_is, c.self.invariant.opening_space)

pub copy_from-requires-2-clause-room : goal.copy_from-requires-2-clause-room
copy_from-requires-2-clause-room c =
    let same : c.self.inside.room ≡ c.earlier.inside.room = ap (λ (x : Chapter). x.room) c.self.view_is ∙ c.requires.room ∙ sym (ap (λ (x : Chapter). x.room) c.earlier.view_is) in
    let was = c.earlier.invariant in
    omega (arith, same, closing-fits was.earlier (chapter_shown c.earlier.inside) c.earlier.inside.closing.opening was.kept was.closing_is, c.self.invariant.closing_space)

pub invariant_of-self : goal.invariant_of-self
invariant_of-self c =
    let was = c.earlier.invariant in
    let old = chapter_shown c.earlier.inside in
    let new : Chapter = record { number = c.earlier.inside.number + 1; room = c.self.inside.room; opening = c.copy_from.new.self.opening; entries = entries_in c.copy_from.new.self.opening c.self.inside.words.items } in
    let same : c.self.inside.room ≡ c.earlier.inside.room = ap (λ (x : Chapter). x.room) c.self.view_is ∙ c.requires.room ∙ sym (ap (λ (x : Chapter). x.room) c.earlier.view_is) in
    let o = c.self.inside.opening.opening in
    let none = ap (entries_in c.copy_from.new.self.opening) (no-words o.tallies o.producer c.self.inside.words.items (ap (λ (x : Chapter). x.entries) c.self.view_is ∙ c.requires.empty)) in
    let meets : Meets old new = record { next_number = refl; goes_on = c.copy_from.ensures.same ∙ was.closing_is } in
    let runs = runs-on was.earlier old new c.copy_from-2.new.self.opening was.kept meets none same (c.copy_from-2.ensures.same ∙ sym c.copy_from.ensures.same) in
    record {
      room = c.self.invariant.room;
      workers = subst IsWorkerCount (sym (ap (λ (o : Snapshot). o.setup.workers) meets.goes_on)) was.workers;
      space = c.self.invariant.space;
      opening_space = omega (arith, c.self.invariant.opening_space, c.copy_from.ensures.room);
      closing_space = omega (arith, c.self.invariant.closing_space, c.copy_from-2.ensures.room);
      passed = omega (
        arith,
        c.copy_from-2.ensures.passed,
        ap (λ (o : Snapshot). length o.records) c.copy_from-2.ensures.same,
        ap (λ (o : Snapshot). length o.records) was.closing_is,
        records-owe (closing_of old).records,
        was.owed_is,
      );
      takes = subst IsBehindTakes (sym c.copy_from-2.ensures.same) was.takes;
      closing_is = runs.closing_is;
      owed_is = was.owed_is ∙ runs.owed_is;
      earlier = was.earlier ++ old.entries;
      kept = runs.kept;
    }

pub returns-clause-meets : goal.returns-clause-meets
returns-clause-meets c =
    subst (λ x. Meets x (record { number = c.earlier.inside.number + 1; room = c.self.inside.room; opening = c.copy_from.new.self.opening; entries = entries_in c.copy_from.new.self.opening c.self.inside.words.items })) c.earlier.view_is
    (record { next_number = refl; goes_on = c.copy_from.ensures.same ∙ c.earlier.invariant.closing_is })

pub returns-clause-empty : goal.returns-clause-empty
returns-clause-empty c =
    let o = c.self.inside.opening.opening in
    ap (entries_in c.copy_from.new.self.opening) (no-words o.tallies o.producer c.self.inside.words.items (ap (λ (x : Chapter). x.entries) c.self.view_is ∙ c.requires.empty))
