use Rattle.std.proofs.Common.{ℕ, List, [], ◌∷◌, ◌++◌, ◌∙◌, ap, append_assoc, arith, get_or, subst, sym, take}
use Rattle.std.proofs.lemmas.List.{take_all, take_more}
use Rattle.rb_loader.specs.inner.Digits.{KeepsOf}
use Rattle.rb_loader.proofs.KeptDigits.{keeps_digit}
use Rattle.rb_loader.proofs.digits.Digits.add.Goals as goal

pub loop-byte-preserved : goal.loop-byte-preserved
loop-byte-preserved c = λ text keeps.
    let piece = c.args.piece.now in
    let at = c.loop-byte.byte-index in
    let byte = get_or piece at 0 in
    let more = keeps_digit (text ++ take at piece) c.loop-byte.self byte (sym c.if-not-is_ascii_hexdigit.ensures.value) (c.loop-byte.invariant text keeps) in
    subst (λ (t : List ℕ). KeepsOf t c.push.new.self) (sym (ap (λ (l : List ℕ). text ++ l) (take_more piece at 0 c.loop-byte-test.true) ∙ sym (append_assoc text (take at piece) (byte ∷ []))))
    (subst (KeepsOf ((text ++ take at piece) ++ byte ∷ [])) (sym c.in_ok-push.ensures.more) more)

pub returns-clause-kept : goal.returns-clause-kept
returns-clause-kept c = λ _ text keeps.
    subst (λ (l : List ℕ). KeepsOf (text ++ l) c.loop-byte.self) (take_all c.loop-byte.byte-index c.args.piece.now (omega arith)) (c.loop-byte.invariant text keeps)
