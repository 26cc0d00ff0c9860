-- Lists of segments in memory.
use Rattle.std.proofs.Common.{◌≡◌, ℕ, ◌+◌, ◌-◌, ◌<◌, List, [], ◌∷◌, ◌++◌, length, get_or, take, sym, ap, ◌∙◌, arith}
use Rattle.std.specs.Prelude.{map}
use Rattle.std.proofs.lemmas.List.{map-append, take_all, take_more}
use Rattle.rb_segments.specs.Known.{stored}
use Rattle.rb_segments.specs.MemorySegments.{memory_segment}
use Rattle.rb_segments.specs.declared.memory_store.MemorySegment.{MemorySegment}
use Rattle.rb_segments.specs.declared.stored_segment.StoredSegment.{StoredSegment}

-- a list ends with its last element
pub last_of : {X : Type 0} (xs : List X) (x : X) → 0 < length xs → x ≡ get_or xs (length xs - 1) x → xs ≡ take (length xs - 1) xs ++ x ∷ []
last_of xs x some is =
    let all : take (length xs - 1 + 1) xs ≡ xs = take_all (length xs - 1 + 1) xs (omega arith) in
    let within : length xs - 1 < length xs = omega arith in
    sym all ∙ (take_more xs (length xs - 1) x within ∙ ap (λ y. take (length xs - 1) xs ++ y ∷ []) (sym is))

-- one more segment in a listing
pub one_listed : (items : List MemorySegment) (at : ℕ) (x : MemorySegment) (list : List StoredSegment) → at < length items → x ≡ get_or items at x → list ≡ map stored (map memory_segment (take at items))
    → list ++ stored (memory_segment x) ∷ [] ≡ map stored (map memory_segment (take (at + 1) items))
one_listed items at x list within is listed =
    let more : take (at + 1) items ≡ take at items ++ x ∷ [] = take_more items at x within ∙ ap (λ y. take at items ++ y ∷ []) (sym is) in
    let inner = ap (map memory_segment) more ∙ map-append memory_segment (take at items) (x ∷ []) in
    sym (ap (map stored) inner ∙ (map-append stored (map memory_segment (take at items)) (memory_segment x ∷ []) ∙ ap (λ l. l ++ stored (memory_segment x) ∷ []) (sym listed)))
