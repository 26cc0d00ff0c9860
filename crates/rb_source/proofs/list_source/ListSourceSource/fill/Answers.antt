use Rattle.std.proofs.Common.{◌≡◌, ℕ, ◌-◌, List, ◌++◌, length, take, drop, map, sym, ap, ◌∙◌, arith, take-append-drop}
use Rattle.std.proofs.lemmas.List.{length-drop, take_all, map-append}
use Rattle.rb_source.specs.Given.{ListedContexts}
use Rattle.rb_source.specs.Piece.{PieceContents}
use Rattle.rb_source.proofs.list_source.ListSourceSource.fill.Goals as goal

-- the front of a list, and the rest of it
splits : {A B : Type 0} (f : A → B) (n : ℕ) (xs : List A) → map f xs ≡ map f (take n xs) ++ map f (take (length xs - n) (drop n xs))
splits f n xs =
    ap (map f) (sym (take-append-drop n xs)) ∙ map-append f (take n xs) (drop n xs)
    ∙ ap (λ r. map f (take n xs) ++ map f r) (sym (take_all (length xs - n) (drop n xs) (omega (arith, length-drop n xs))))

pub returns-clause-gave : goal.returns-clause-gave
returns-clause-gave c =
    let given = ap (λ (p : PieceContents). p.contexts) c.append-count.ensures.appended ∙ ap (λ (p : PieceContents). p.contexts ++ map (λ v. v.items) (take c.append-count.result c.self.inside.rest.now)) c.requires.empty in
    let was = ap (λ (s : ListedContexts). s.rest) c.self.view_is in
    let parts = splits (λ v. v.items) c.append-count.result c.self.inside.rest.now in
    cc
