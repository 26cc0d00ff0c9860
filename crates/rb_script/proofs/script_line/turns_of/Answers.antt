use Rattle.std.proofs.Common.{Some, None}
use Rattle.rb_script.specs.ScriptText.{words_of}
use Rattle.rb_script.proofs.ScriptWords.{cut, turns-of-one, no-turns-of-one, turns-of-two, no-turns-of-two}
use Rattle.rb_script.proofs.script_line.turns_of.Goals as goal

pub returns-in_default-number_of : goal.returns-in_default-number_of
returns-in_default-number_of c = record { turns = no-turns-of-one (words_of c.args.words.now) c.args.words.now (cut c.args.words.now None c.in_default.ensures.cases) c.in_default-number_of.ensures.number }

pub returns-in_default : goal.returns-in_default
returns-in_default c = record { turns = turns-of-one (words_of c.args.words.now) c.args.words.now c.in-Some-number_of.number (cut c.args.words.now None c.in_default.ensures.cases) c.in-Some-number_of.ensures.number }

pub returns-in_default-2 : goal.returns-in_default-2
returns-in_default-2 c = record {
  turns =
      no-turns-of-two (words_of c.args.words.now) c.in-Some.word.now c.in-Some.times.now c.number_of-2.result c.decimal.result (cut c.args.words.now (Some (c.in-Some.word, c.in-Some.times)) c.in-Some.ensures.cases) c.number_of-2.ensures.number
      c.decimal.ensures.number (λ n count a b. let none = c.in_default-2.is-1 in cc);
}

pub returns-in_default-2-2 : goal.returns-in_default-2-2
returns-in_default-2-2 c = record {
  turns =
      no-turns-of-two (words_of c.args.words.now) c.in-Some.word.now c.in-Some.times.now c.number_of-2.result c.decimal.result (cut c.args.words.now (Some (c.in-Some.word, c.in-Some.times)) c.in-Some.ensures.cases) c.number_of-2.ensures.number
      c.decimal.ensures.number (λ n count a b. let none = c.in_default-2.is-0 in cc);
}

pub returns : goal.returns
returns c = record {
  turns =
      turns-of-two (words_of c.args.words.now) c.in-Some.word.now c.in-Some.times.now c.in-Some-Some.number c.in-Some-Some.count (cut c.args.words.now (Some (c.in-Some.word, c.in-Some.times)) c.in-Some.ensures.cases) c.in-Some-Some.ensures.number
      c.in-Some-Some.ensures'.number;
}
