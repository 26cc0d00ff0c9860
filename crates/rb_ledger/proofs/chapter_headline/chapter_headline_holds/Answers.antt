use Rattle.rb_ledger.proofs.ChapterGathers.{whenever-free-by-chapter, closed-where-gathered}
use Rattle.rb_ledger.proofs.BoundChapters.{gathered-once-bound}
use Rattle.rb_ledger.proofs.chapter_headline.chapter_headline_holds.Goals as goal

pub returns : goal.returns
returns c = record { whenever_free = whenever-free-by-chapter; closed = closed-where-gathered; once_bound = gathered-once-bound }
