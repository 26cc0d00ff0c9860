use Rattle.std.proofs.Common.{◌≡◌, ◌<◌, ◌-◌, [], ◌∷◌, get_or, length, take, refl, ap, ◌∙◌, subst}
use Rattle.std.specs.Prelude.{map}
use Rattle.std.proofs.lemmas.List.{map-append}
use Rattle.rb_segments.specs.MemorySegments.{memory_segment}
use Rattle.rb_segments.proofs.InMemory.{last_of}
use Rattle.rb_segments.proofs.memory_store.MemoryStoreSegmentStoreMemoryFile.read_newest.Goals as goal

pub returns-in-Ok-clause-bytes : goal.returns-in-Ok-clause-bytes
returns-in-Ok-clause-bytes c =
    let items = c.args.self.now.closed.items in
    let newest = c.in-Some.newest.now in
    let len = c.args.self.now.closed.ok.0 in
    let some = subst (λ n. 0 < n) len (c.in-Some.ensures.variant.0 refl) in
    let last = subst (λ n. newest ≡ get_or items (n - 1) newest) len c.in-Some.ensures.lookup in (
      map memory_segment (take (length items - 1) items),
      memory_segment newest,
      ap (map memory_segment) (last_of items newest some last) ∙ map-append memory_segment (take (length items - 1) items) (newest ∷ []),
      c.in-Ok.ensures ∙ c.as_slice.ensures.value,
    )
