use Rattle.std.proofs.Common.{◌≡◌, ap, ◌∙◌, subst}
use Rattle.std.specs.Prelude.{◌&&◌, Bool, not}
use Rattle.std.specs.Io.KnownBytes.{Keeps}
use Rattle.rb_run_commands.proofs.TapeGiven.{ring_taped}
use Rattle.rb_run_commands.proofs.written_tape.finish_tape.Goals as goal

pub returns-clause-taped : goal.returns-clause-taped
returns-clause-taped g c =
    let contents = g.F.Write.contents in
    let writes_out = g.F.Outgoing.writes_out in
    let handed = c.write_out_all-is_whole.ensures in
    let left = c.write_out_all-is_whole.new.writer in
    let whole = c.write_out_all-is_whole.result in
    let kept = subst (λ w. Keeps (contents w) (contents left)) c.into_writer-writer.ensures.value handed.bytes in
    let called = subst (λ w. writes_out w handed.called.0 left) c.into_writer-writer.ensures.value handed.called.1 in
    let told : whole ≡ (handed.called.0 && not c.in-Some.ended.sink.failed) = handed.called.2 ∙ ap (λ (failed : Bool). handed.called.0 && not failed) c.failed-is_out.ensures.value in
    λ writer subject request ran. ring_taped contents writes_out writer left subject request c.args.report ran c.pop.new.self.items c.in-Some.ended whole handed.called.0 c.in-Some.ensures.items told kept called
