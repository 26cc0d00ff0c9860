use Rattle.std.proofs.Common.{◌∷◌, Some, None, ap, ◌∙◌}
use Rattle.rb_script.specs.ScriptText.{words_of}
use Rattle.rb_script.proofs.ScriptWords.{cut, no-ring, ring-of-two, ring-of-three}
use Rattle.rb_script.proofs.script_line.ring_of.Goals as goal

pub returns-in_default : goal.returns-in_default
returns-in_default c = record { ring = no-ring (words_of c.args.words.now) c.args.words.now (cut c.args.words.now None c.in_default.ensures.cases) }

pub returns-in-Some-split_once : goal.returns-in-Some-split_once
returns-in-Some-split_once c =
    let first = cut c.args.words.now (Some (c.in-Some.size, c.in-Some.rest)) c.in-Some.ensures.cases in
    let second = cut c.in-Some.rest.now (Some (c.in-Some-split_once.start, c.in-Some-split_once.room)) c.in-Some-split_once.ensures.cases in record {
      ring =
          ring-of-three (words_of c.args.words.now) c.in-Some.size.now c.in-Some-split_once.start.now c.decimal.result c.decimal-in-Some-split_once.result c.decimal.ensures.number c.decimal-in-Some-split_once.ensures.number
          c.in-Some-split_once.room.now c.decimal-in-Some-split_once-2.result c.setup_of.result (first ∙ ap (λ l. c.in-Some.size.now ∷ l) second) c.decimal-in-Some-split_once-2.ensures.number c.setup_of.ensures.ring;
    }

pub returns-in-None : goal.returns-in-None
returns-in-None c =
    let first = cut c.args.words.now (Some (c.in-Some.size, c.in-Some.rest)) c.in-Some.ensures.cases in
    let second = cut c.in-Some.rest.now None c.in-None.ensures.cases in record {
      ring =
          ring-of-two (words_of c.args.words.now) c.in-Some.size.now c.in-Some.rest.now c.decimal-in-None.result c.decimal-in-None-2.result c.decimal-in-None.ensures.number c.decimal-in-None-2.ensures.number
          c.setup_of-in-None.result (first ∙ ap (λ l. c.in-Some.size.now ∷ l) second) c.setup_of-in-None.ensures.ring;
    }
