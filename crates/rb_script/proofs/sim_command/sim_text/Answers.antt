use Rattle.std.proofs.Common.{◌≡◌, length, map, refl, inl, inr, subst}
use Rattle.rb_script.specs.ScriptText.{lines_of}
use Rattle.rb_script.specs.Programs.{IsProgramsFault}
use Rattle.rb_script.specs.Scripts.{IsFaultOf, worker_text}
use Rattle.rb_script.proofs.PrintedRuns.{prints_run}
use Rattle.rb_script.specs.declared.sim_command.SimFault.TheVariants.{Memory}
use Rattle.rb_script.proofs.ToldLines.{told-fault, told-refused, told-else, none-told, broken-off, keeps-all, device-only, else-fault, no-line}
use Rattle.rb_script.proofs.sim_command.sim_text.Goals as goal

pub returns-in-Err-Line-simulate-clause-refused : goal.returns-in-Err-Line-simulate-clause-refused
returns-in-Err-Line-simulate-clause-refused g c =
    let script = c.in-Ok.script in
    let told = c.in-Err-Line-simulate in
    inr (record {
      script = script;
      stands = c.in-Ok.ensures.script;
      first = subst (IsProgramsFault (length script.rings.items) (map worker_text script.workers.items)) told.field-0-is told.ensures.refused;
    })

pub returns-clause-printed : goal.returns-clause-printed
returns-clause-printed g c =
    prints_run c.args.form c.args.draw c.args.text.now c.in-Ok.script _ c.simulate.new.text.items c.in-Ok-simulate.ends.items _ _ _ (g.W.Write.contents c.print.new.out) _ c.print-2.result c.in-Ok.ensures.script c.new-turns.ensures.items c.in-Ok-simulate.ensures.ran c.as_slice-2.ensures.value c.as_slice-3.ensures.value c.in_default.ensures.printed c.print-2.ensures.printed

pub returns-in-Err-Line-clause-told : goal.returns-in-Err-Line-clause-told
returns-in-Err-Line-clause-told g c = rw c.in-Err-Line.field-0-is (told-fault c.args.text.now c.in-Err-Line.line (subst (IsFaultOf (lines_of c.args.text.now)) c.in-Err-Line.field-0-is c.in-Err-Line.ensures.fault))

pub returns-in-Err-Memory-clause-told : goal.returns-in-Err-Memory-clause-told
returns-in-Err-Memory-clause-told g c = λ line h. inr (inl refl)

pub returns-in-Err-Memory-clause-broken_off : goal.returns-in-Err-Memory-clause-broken_off
returns-in-Err-Memory-clause-broken_off g c = λ is. inl (keeps-all _)

pub returns-in-Err-Line-simulate-clause-told : goal.returns-in-Err-Line-simulate-clause-told
returns-in-Err-Line-simulate-clause-told g c =
    let script = c.in-Ok.script in
    let told = c.in-Err-Line-simulate in
    told-refused c.args.text.now script c.in-Ok.ensures.script c.in-Ok.ensures.worker told.refused (subst (IsProgramsFault (length script.rings.items) (map worker_text script.workers.items)) told.field-0-is told.ensures.refused)

pub returns-in-Err-Memory-simulate-clause-told : goal.returns-in-Err-Memory-simulate-clause-told
returns-in-Err-Memory-simulate-clause-told g c = λ line h. told-else line c.print_beginning.result c.print_beginning.ensures.fault

pub returns-in-Err-Memory-simulate-clause-broken_off : goal.returns-in-Err-Memory-simulate-clause-broken_off
returns-in-Err-Memory-simulate-clause-broken_off g c = λ is.
    let memory : c.print_beginning.result ≡ Memory = cc in
    broken-off c.args.text.now c.args.form c.args.draw c.in-Ok.script c.in-Ok.ensures.script _ c.simulate.new.text.items _ _ _ c.new-turns.ensures.items c.in-Err-Memory-simulate.ensures.begun c.as_slice.ensures.value (c.print_beginning.ensures.printed memory)

pub returns-in-Err-Memory-simulate-clause-refused : goal.returns-in-Err-Memory-simulate-clause-refused
returns-in-Err-Memory-simulate-clause-refused g c = else-fault c.args.text.now c.print_beginning.result c.print_beginning.ensures.fault

pub returns-in-Err-Memory-simulate-clause-unprinted : goal.returns-in-Err-Memory-simulate-clause-unprinted
returns-in-Err-Memory-simulate-clause-unprinted g c = λ line is. absurd (no-line c.print_beginning.result line c.print_beginning.ensures.fault is)

pub returns-in-Err-clause-told : goal.returns-in-Err-clause-told
returns-in-Err-clause-told g c = λ line h. absurd (none-told c.args.text.now c.in-Ok.script c.in-Ok.ensures.script c.in-Ok.ensures.worker _ _ _ _ _ c.in-Ok-simulate.ensures.ran line h)

pub returns-in-Err-clause-broken_off : goal.returns-in-Err-clause-broken_off
returns-in-Err-clause-broken_off g c = λ is. absurd (device-only _ c.in-Err.ensures.fault is)

pub returns-clause-told : goal.returns-clause-told
returns-clause-told g c = λ line h. absurd (none-told c.args.text.now c.in-Ok.script c.in-Ok.ensures.script c.in-Ok.ensures.worker _ _ _ _ _ c.in-Ok-simulate.ensures.ran line h)

pub returns-clause-broken_off : goal.returns-clause-broken_off
returns-clause-broken_off g c = λ is. absurd (device-only _ c.print-2.ensures.fault is)
