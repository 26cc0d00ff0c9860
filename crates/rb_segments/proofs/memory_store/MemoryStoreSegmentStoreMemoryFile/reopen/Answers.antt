use Rattle.std.proofs.Common.{[], ◌∷◌, refl, ap, ◌∙◌}
use Rattle.std.specs.Prelude.{map, Some}
use Rattle.std.proofs.lemmas.List.{map-append}
use Rattle.rb_segments.specs.MemorySegments.{memory_segment}
use Rattle.rb_segments.proofs.memory_store.MemoryStoreSegmentStoreMemoryFile.reopen.Goals as goal

pub returns-clause-reopened : goal.returns-clause-reopened
returns-clause-reopened c =
    let left = c.pop_back.new.self.items in
    let newest = c.in-Some.newest in
    (map memory_segment left, memory_segment newest, ap (map memory_segment) c.in-Some.ensures.items ∙ map-append memory_segment left (newest ∷ []), refl, ap Some c.truncate.ensures.items)
