use Rattle.std.proofs.Common.{Some, None, sym, ap, ◌∙◌}
use Rattle.rb_script.specs.ScriptText.{words_of}
use Rattle.rb_script.proofs.ScriptWords.{cut}
use Rattle.rb_script.proofs.ScriptLines.{plain-utf8, one-word-none, line-is}
use Rattle.rb_script.proofs.script_line.line_of.Goals as goal

pub returns-in_default : goal.returns-in_default
returns-in_default c = record { line = λ statement says numbered. c.in_default.ensures.cases.0 (plain-utf8 c.args.bytes.now says.plain) }

pub returns-in_default-split_once : goal.returns-in_default-split_once
returns-in_default-split_once c = record {
  line = one-word-none c.args.bytes.now c.in-Ok.text.now (ap words_of (sym c.in-Ok.ensures.cases.0) ∙ cut c.in-Ok.text.now None c.in_default-split_once.ensures.cases);
}

pub returns : goal.returns
returns c = record {
  line =
      line-is c.args.bytes.now _ (ap words_of (sym c.in-Ok.ensures.cases.0) ∙ cut c.in-Ok.text.now (Some (c.in-Some.word, c.in-Some.words)) c.in-Some.ensures.cases) (c.is_plain.ensures.0 c.if-not-is_plain.false) c.line_with.result
      c.line_with.ensures.line;
}
