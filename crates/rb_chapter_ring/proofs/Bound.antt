-- Chapters that are bound.
use Rattle.std.proofs.Common.{◌≡◌, List, [], ◌∷◌, ◌++◌, refl, sym, ap, ◌∙◌, subst, append_assoc, append-nil}
use Rattle.rb_history.specs.Legal.{IsLegal}
use Rattle.rb_chapter_ring.specs.Snapshot.{snapshot_of}
use Rattle.rb_chapter_ring.specs.Chapters.{Chapter, closing_of, joined, last_of}
use Rattle.rb_chapter_ring.specs.WholeHistory.{OnceBound}
use Rattle.rb_chapter_ring.proofs.Join.{chapters-join}

joined-last : (cs : List Chapter) (d : Chapter) → joined (cs ++ d ∷ []) ≡ joined cs ++ d.entries
joined-last [] d = append-nil d.entries
joined-last (c ∷ cs) d = ap (λ t. c.entries ++ t) (joined-last cs d) ∙ sym (append_assoc c.entries (joined cs) d.entries)

last-or : Chapter → List Chapter → Chapter
last-or c [] = c
last-or c (d ∷ ds) = last-or d ds

last-is : (c : Chapter) (cs : List Chapter) → last_of c cs ≡ last-or c (c ∷ cs)
unfolding last-or
last-is c [] = refl
last-is c (d ∷ ds) = last-is d ds

last-push : (c : Chapter) (cs : List Chapter) (d : Chapter) → last-or c (cs ++ d ∷ []) ≡ d
unfolding last-or
last-push c [] d = refl
last-push c (x ∷ cs) d = last-push x cs d

pub once-bound : OnceBound
once-bound cs last b =
    let j = chapters-join last.opening.setup b.first b.rest b.are in
    let at : last_of b.first b.rest ≡ last = last-is b.first b.rest ∙ ap (last-or b.first) b.all ∙ last-push b.first cs last in
    record {
      entries = joined-last cs last;
      legal = subst (λ x. IsLegal last.opening.setup (joined x)) b.all j.legal;
      stands = ap closing_of (sym at) ∙ j.stands ∙ ap (λ x. snapshot_of last.opening.setup (joined x)) b.all;
    }
