use Rattle.std.proofs.Common.{Some, None, sym, ◌∙◌}
use Rattle.rb_script.specs.ScriptText.{words_of}
use Rattle.rb_script.proofs.ScriptWords.{cut, worker-of-one, worker-of-two, no-hex}
use Rattle.rb_script.proofs.script_line.worker_of.Goals as goal

pub returns-in_default : goal.returns-in_default
returns-in_default c = record { worker = worker-of-one (words_of c.args.words.now) c.args.words.now (cut c.args.words.now None c.in_default.ensures.cases) (sym c.is_empty.ensures ∙ c.if-is_empty.false) }

pub returns-then-is_empty-3 : goal.returns-then-is_empty-3
returns-then-is_empty-3 c = record {
  worker =
      no-hex (words_of c.args.words.now) c.in-Some.program.now c.in-Some.context.now (cut c.args.words.now (Some (c.in-Some.program, c.in-Some.context)) c.in-Some.ensures.cases) (sym c.is_empty-3.ensures ∙ c.if-is_empty-3.true);
}

pub returns : goal.returns
returns c = record {
  worker =
      worker-of-two (words_of c.args.words.now) c.in-Some.program.now c.in-Some.context.now (cut c.args.words.now (Some (c.in-Some.program, c.in-Some.context)) c.in-Some.ensures.cases) (sym c.is_empty-2.ensures ∙ c.if-is_empty-2.false)
      (sym c.is_empty-3.ensures ∙ c.if-is_empty-3.false);
}
