use Rattle.std.proofs.Common.{ap, subst, ◌∙◌}
use Rattle.rb_program.specs.Text.{without_white_space}
use Rattle.rb_program.proofs.Texts.{IsTextAnswer, only_hex, text_program, text_fault}
use Rattle.rb_program.proofs.text.from_text.Goals as goal

pub returns-clause-only_hex : goal.returns-clause-only_hex
returns-clause-only_hex c =
    let at = c.deref.ensures.value ∙ c.in_ok-digits.ensures ∙ ap without_white_space c.as_bytes.ensures.value in
    let answer = subst (λ d. IsTextAnswer d c.decode_digits.result) at (record { bounds = c.decode_digits.ensures.bounds; spelled = c.decode_digits.ensures.spelled; fault = c.decode_digits.ensures.fault }) in
    only_hex (without_white_space c.args.text.now) c.decode_digits.result answer

pub returns-clause-only_program : goal.returns-clause-only_program
returns-clause-only_program c =
    let at = c.deref.ensures.value ∙ c.in_ok-digits.ensures ∙ ap without_white_space c.as_bytes.ensures.value in
    let answer = subst (λ d. IsTextAnswer d c.decode_digits.result) at (record { bounds = c.decode_digits.ensures.bounds; spelled = c.decode_digits.ensures.spelled; fault = c.decode_digits.ensures.fault }) in
    text_program (without_white_space c.args.text.now) c.decode_digits.result answer

pub returns-clause-only_fault : goal.returns-clause-only_fault
returns-clause-only_fault c =
    let at = c.deref.ensures.value ∙ c.in_ok-digits.ensures ∙ ap without_white_space c.as_bytes.ensures.value in
    let answer = subst (λ d. IsTextAnswer d c.decode_digits.result) at (record { bounds = c.decode_digits.ensures.bounds; spelled = c.decode_digits.ensures.spelled; fault = c.decode_digits.ensures.fault }) in
    text_fault (without_white_space c.args.text.now) c.decode_digits.result answer
