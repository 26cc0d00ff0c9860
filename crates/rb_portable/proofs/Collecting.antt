-- Lemmas for loops that append one finding, or one line, at each turn.
use Rattle.std.proofs.Common.{◌≡◌, ℕ, suc, ◌+◌, ◌<◌, List, [], ◌++◌, ap, sym, ◌∙◌, arith, get_or, take, length}
use Rattle.std.specs.List.{flat_map}
use Rattle.std.proofs.lemmas.List.{flat_map_more, take_more}
use Rattle.rb_insn.specs.declared.insn.Insn.{Insn}
use Rattle.rb_verifier.specs.Annotation.{Annotation}
use Rattle.rb_portable.specs.Findings.{found_at, found_below}
use Rattle.rb_portable.specs.declared.finding.Finding.{Finding}

-- if a loop has the findings of the units below `unit` and appends that of `unit`, it has those below `unit + 1`
pub finds : (program : List Insn) (a : Annotation) (unit : ℕ) (before after : List Finding) → before ≡ found_below program a unit
    → after ≡ before ++ found_at program a unit → after ≡ found_below program a (unit + 1)
finds program a unit before after was is =
    let next : suc unit ≡ unit + 1 = omega arith in
    is ∙ ap (λ x. x ++ found_at program a unit) was ∙ ap (found_below program a) next

-- if a loop has the lines of the first `n` findings and appends that of the next, it has those of the first `n + 1`
pub tells : (text : Finding → List ℕ) (items : List Finding) (n : ℕ) (item : Finding) (before after : List ℕ) → n < length items
    → before ≡ flat_map text (take n items) → after ≡ before ++ text (get_or items n item)
    → after ≡ flat_map text (take (n + 1) items)
tells text items n item before after inside was is =
    is ∙ ap (λ x. x ++ text (get_or items n item)) was ∙ flat_map_more text [] (take n items) (get_or items n item)
    ∙ ap (λ xs. flat_map text xs) (sym (take_more items n item inside))
