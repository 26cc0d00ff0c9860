use Rattle.std.proofs.Common.{length, sym, ap, ◌∙◌}
use Rattle.rb_chapter_ring.proofs.EntryWords.{length-entries}
use Rattle.rb_chapter_ring.proofs.entries.Entries.len.Goals as goal

pub returns : goal.returns
returns c =
    let e = c.self.inside in
    record { many = sym (length-entries e.tallies.now e.producer e.words.now) ∙ ap length c.self.view_is }
