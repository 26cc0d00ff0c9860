-- What is promised about kept records follows from what each call does with the seats.
use Rattle.std.specs.Prelude.{is_ok}
use Rattle.rb_chapter_ring.specs.declared.record_end.RecordEnd.TheVariants.{Submit, Discard}
use Rattle.rb_jobs.proofs.KeptRecords.{reserved-keeps, reserved-kept, ended-keeps, ended-taken, ended-frees, sent-keeps, queried-keeps}
use Rattle.rb_jobs.proofs.seat_helpers.SeatHelpersHelpers.TheImpl.Goals as goal

pub reserve-tells : goal.reserve-tells
reserve-tells g x c = record {
  trace = c.ensures.trace;
  room = c.ensures.room;
  rings = c.ensures.rings;
  called = c.ensures.called;
  kept = λ keeper. reserved-kept c.args.self.now c.new.self.now c.args.ring c.args.n c.args.flags c.result c.ensures.call;
  still_kept = reserved-keeps c.args.self.now c.new.self.now c.args.ring c.args.n c.args.flags c.result c.ensures.call;
  zeros = c.ensures.zeros;
}

pub submit-tells : goal.submit-tells
submit-tells g x c = record {
  trace = c.ensures.trace;
  room = c.ensures.room;
  rings = c.ensures.rings;
  called = c.ensures.called;
  never_back = ended-taken c.args.self.now c.new.self.now Submit c.args.owned c.args.flags (is_ok c.result) c.ensures.call;
  let_go = ended-frees c.args.self.now c.new.self.now Submit c.args.owned c.args.flags (is_ok c.result) c.ensures.call;
  still_kept = ended-keeps c.args.self.now c.new.self.now Submit c.args.owned c.args.flags (is_ok c.result) c.ensures.call;
  handed_back = c.ensures.handed_back;
}

pub discard-tells : goal.discard-tells
discard-tells g x c = record {
  trace = c.ensures.trace;
  room = c.ensures.room;
  rings = c.ensures.rings;
  called = c.ensures.called;
  never_back = ended-taken c.args.self.now c.new.self.now Discard c.args.owned c.args.flags (is_ok c.result) c.ensures.call;
  let_go = ended-frees c.args.self.now c.new.self.now Discard c.args.owned c.args.flags (is_ok c.result) c.ensures.call;
  still_kept = ended-keeps c.args.self.now c.new.self.now Discard c.args.owned c.args.flags (is_ok c.result) c.ensures.call;
  handed_back = c.ensures.handed_back;
}

pub output-tells : goal.output-tells
output-tells g x c = record {
  trace = c.ensures.trace;
  room = c.ensures.room;
  rings = c.ensures.rings;
  still_kept = sent-keeps c.args.self.now c.new.self.now c.args.ring c.args.bytes.now c.args.flags c.result c.ensures.call;
  called = c.ensures.called;
}

pub query-tells : goal.query-tells
query-tells g x c = record {
  trace = c.ensures.trace;
  room = c.ensures.room;
  rings = c.ensures.rings;
  still_kept = queried-keeps c.args.self.now c.new.self.now c.args.ring c.args.what c.result c.ensures.call;
  called = c.ensures.called;
}
