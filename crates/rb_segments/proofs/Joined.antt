-- Segments that are joined.
use Rattle.std.proofs.Common.{◌≡◌, ℕ, List, [], ◌∷◌, ◌++◌, sym, ap, ◌∙◌}
use Rattle.rb_history.specs.TapeBytes.{Item, end_of, tape}
use Rattle.rb_history.proofs.HeaderLaws.{tape-append}
use Rattle.rb_segments.specs.Segments.{AreSegmentsOf, joined, Segment}

pub joins : (size start : ℕ) (segments : List Segment) (items : List Item) → AreSegmentsOf size start segments items → joined segments ≡ tape size items
joins size start [] items none = sym (ap (tape size) none)
joins size start (segment ∷ more) items are =
    ap (λ l. l ++ joined more) are.4.text
    ∙ (ap (λ l. tape size are.0 ++ l) (joins size (end_of start are.0) more are.1 are.5) ∙ (sym (tape-append size are.0 are.1) ∙ sym (ap (tape size) are.2)))
