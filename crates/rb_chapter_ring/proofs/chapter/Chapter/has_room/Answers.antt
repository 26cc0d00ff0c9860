use Rattle.std.proofs.Common.{◌↔◌, IsTrue, subst, arith}
use Rattle.rb_chapter_ring.specs.Chapters.{Chapter}
use Rattle.rb_chapter_ring.specs.CountedFrom.{HasRoomFrom}
use Rattle.rb_chapter_ring.specs.inner.ChapterBody.{chapter_shown}
use Rattle.rb_chapter_ring.proofs.Logging.{consumer-low, room-exact}
use Rattle.rb_chapter_ring.proofs.chapter.Chapter.has_room.Goals as goal

pub fits-requires : goal.fits-requires
fits-requires c =
    let was = c.self.invariant in
    let low = consumer-low was.earlier (chapter_shown c.self.inside) was.kept c.self.inside.closing.opening was.closing_is in
    record { positions = omega (arith, low, c.numbers-numbers.ensures.producer, c.numbers-numbers.ensures.consumer) }

pub returns : goal.returns
returns c =
    let was = c.self.invariant in
    let exact = room-exact was.earlier (chapter_shown c.self.inside) was.kept c.self.inside.closing.opening was.closing_is c.fits.result c.args.len c.numbers-numbers.result.producer c.numbers-numbers.result.consumer c.numbers-numbers.result.size
    c.numbers-numbers.ensures.producer c.numbers-numbers.ensures.consumer c.numbers-numbers.ensures.size c.fits.ensures.exact in
    record { exact = subst (λ (x : Chapter). IsTrue c.fits.result ↔ HasRoomFrom x.opening x.entries c.args.len) c.self.view_is exact }
