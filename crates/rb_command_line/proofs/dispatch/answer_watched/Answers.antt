use Rattle.rb_command_line.proofs.CommandEndings.{and_told}
use Rattle.rb_command_line.proofs.dispatch.answer_watched.Goals as goal

pub returns : goal.returns
returns g c = record {
  carried_out = and_told _ _ _ g.row.F.Denot g.F.Write.contents c.args.asked.now.request c.new-told.result.items c.answer-answer.new.told.items c.as_slice.result.now _ _ c.answer-answer.result c.and_told.result
      c.new-told.ensures.items c.as_slice.ensures.value c.answer-answer.ensures.ended c.and_told.ensures.told;
}
