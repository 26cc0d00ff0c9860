use Rattle.std.proofs.Common.{◌≡◌, ◌+◌, ◌↔◌, IsTrue, subst, arith}
use Rattle.rb_chapter_ring.specs.Chapters.{Meets}
use Rattle.rb_chapter_ring.specs.inner.ChapterBody.{chapter_shown}
use Rattle.rb_chapter_ring.proofs.Running.{meets-exact}
use Rattle.rb_chapter_ring.proofs.chapter.Chapter.meets.Goals as goal

pub returns : goal.returns
returns c =
    let next : c.next.inside.number ≡ c.self.inside.number + 1 = omega (arith, c.if-next-self.false, c.if-next-self-ne1.false) in
    let exact = meets-exact (chapter_shown c.self.inside) (chapter_shown c.next.inside) c.is_same.result c.self.inside.closing.opening c.self.invariant.closing_is c.is_same.ensures.exact next in
    record {
      exact =
          subst (λ x. IsTrue c.is_same.result ↔ Meets x c.args.next.now) c.self.view_is
          (subst (λ x. IsTrue c.is_same.result ↔ Meets (chapter_shown c.self.inside) x) c.next.view_is exact);
    }
