use Rattle.std.proofs.Common.{◌≡◌, ◌+◌, ◌<◌, ◌↔◌, IsTrue, length, ap, sym, ◌∙◌, subst, arith}
use Rattle.rb_chapter_ring.specs.Chapters.{Chapter}
use Rattle.rb_chapter_ring.specs.ChapterRoom.{used, owed, MayRefuse}
use Rattle.rb_chapter_ring.specs.inner.ChapterBody.{chapter_shown}
use Rattle.rb_chapter_ring.proofs.Logging.{refusal-exact}
use Rattle.rb_chapter_ring.proofs.chapter.Chapter.may_refuse.Goals as goal

pub returns : goal.returns
returns c =
    let was = c.self.invariant in
    let old = chapter_shown c.self.inside in
    let low = subst (λ (x : Chapter). c.args.worker < x.opening.setup.workers) (sym c.self.view_is) c.requires.worker in
    let counted : c.used.result ≡ used old = c.used.ensures.used ∙ ap used (sym c.self.view_is) in
    let taken : c.used.result + c.self.inside.owed ≡ length old.entries + owed old = omega (arith, counted, was.owed_is) in
    let exact = refusal-exact was.earlier old was.kept c.self.inside.closing.opening was.closing_is c.is_countable.result c.args.worker (c.used.result + c.self.inside.owed) c.tally-refused.result low taken
    c.tally-refused.ensures.tally c.is_countable.ensures.exact in
    record { exact = subst (λ x. IsTrue c.is_countable.result ↔ MayRefuse x c.args.worker) c.self.view_is exact }
