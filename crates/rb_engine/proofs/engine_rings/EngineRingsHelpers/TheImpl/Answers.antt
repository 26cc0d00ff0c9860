-- The laws of kept records follow from the effect of each call at the rings.
use Rattle.std.specs.Prelude.{is_ok}
use Rattle.rb_chapter_ring.specs.declared.record_end.RecordEnd.TheVariants.{Submit, Discard}
use Rattle.rb_engine.proofs.KeptRecords.{reserve-keeps, reserve-kept, end-keeps, end-frees, output-keeps, query-keeps}
use Rattle.rb_engine.proofs.engine_rings.EngineRingsHelpers.TheImpl.Goals as goal

pub reserve-tells : goal.reserve-tells
reserve-tells x c = record {
  trace = c.ensures.trace;
  room = c.ensures.room;
  rings = c.ensures.rings;
  called = c.ensures.called;
  kept = λ keeper. reserve-kept c.args.self.now.rings c.new.self.now.rings c.args.ring c.args.n c.args.flags c.result c.ensures.call.did;
  still_kept = reserve-keeps c.args.self.now.rings c.new.self.now.rings c.args.ring c.args.n c.args.flags c.result c.ensures.call.did;
  zeros = c.ensures.zeros;
}

pub submit-tells : goal.submit-tells
submit-tells x c = record {
  trace = c.ensures.trace;
  room = c.ensures.room;
  rings = c.ensures.rings;
  called = c.ensures.called;
  never_back = c.ensures.call.did.exact.1;
  let_go = end-frees c.args.self.now.rings c.new.self.now.rings Submit c.args.owned (is_ok c.result) c.ensures.call.did;
  still_kept = end-keeps c.args.self.now.rings c.new.self.now.rings Submit c.args.owned (is_ok c.result) c.ensures.call.did;
  handed_back = c.ensures.handed_back;
}

pub discard-tells : goal.discard-tells
discard-tells x c = record {
  trace = c.ensures.trace;
  room = c.ensures.room;
  rings = c.ensures.rings;
  called = c.ensures.called;
  never_back = c.ensures.call.did.exact.1;
  let_go = end-frees c.args.self.now.rings c.new.self.now.rings Discard c.args.owned (is_ok c.result) c.ensures.call.did;
  still_kept = end-keeps c.args.self.now.rings c.new.self.now.rings Discard c.args.owned (is_ok c.result) c.ensures.call.did;
  handed_back = c.ensures.handed_back;
}

pub output-tells : goal.output-tells
output-tells x c = record {
  trace = c.ensures.trace;
  room = c.ensures.room;
  rings = c.ensures.rings;
  still_kept = output-keeps c.args.self.now.rings c.new.self.now.rings c.args.ring c.args.bytes.now c.args.flags c.result c.ensures.call.did;
  called = c.ensures.called;
}

pub query-tells : goal.query-tells
query-tells x c = record {
  trace = c.ensures.trace;
  room = c.ensures.room;
  rings = c.ensures.rings;
  still_kept = query-keeps c.args.self.now.rings c.new.self.now.rings c.args.ring c.args.what c.result c.ensures.call.did;
  called = c.ensures.called;
}
