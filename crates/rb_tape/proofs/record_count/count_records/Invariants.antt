use Rattle.rb_tape.proofs.RecordsCounted.{CountedSoFar}
use Rattle.rb_tape.proofs.record_count.count_records.Given as goal

abbrev pub invariant-loop-answer : goal.invariant-loop-answer
invariant-loop-answer l = CountedSoFar l.size l.start l.bytes l.count l.tape
