use Rattle.rb_history.proofs.Masks.{mask-is}
use Rattle.rb_chapter_ring.proofs.record_slots.slot_in.Goals as goal

pub returns-clause-value : goal.returns-clause-value
returns-clause-value c = mask-is c.args.slots c.args.ordinal c.requires.slots
