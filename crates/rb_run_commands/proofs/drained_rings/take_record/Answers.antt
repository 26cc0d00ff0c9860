use Rattle.std.proofs.Common.{rules}
use Rattle.rb_run_commands.proofs.drained_rings.take_record.Goals as goal

pub returns-in-Ok-clause-taken : goal.returns-in-Ok-clause-taken
returns-in-Ok-clause-taken g c = record {
  is_record = search rules;
  call = c.in-Ok.ensures.call;
  place = c.in-Ok.ensures.place;
  moved = c.in-Ok.ensures.position;
  got = c.in-Ok.ensures.got;
  chapters_same = c.take.ensures.chapters;
}
