use Rattle.std.proofs.Common.{◌≡◌, codes, rules}
use Rattle.rb_script.proofs.ScriptWords.{keeper-says, no-keeper}
use Rattle.rb_script.proofs.script_line.line_with.Goals as goal

pub returns-in_default-number_of : goal.returns-in_default-number_of
returns-in_default-number_of c =
    let word : c.args.word.now ≡ codes "k" = search rules in record { line = no-keeper c.args.word.now c.args.words.now word c.in_default-number_of.ensures.number }

pub returns-then-eq-5 : goal.returns-then-eq-5
returns-then-eq-5 c =
    let word : c.args.word.now ≡ codes "k" = search rules in record { line = (word, keeper-says c.args.words.now c.in-Some-number_of.number c.in-Some-number_of.ensures.number) }
