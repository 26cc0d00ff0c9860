use Rattle.std.proofs.Common.{◌≡◌, ◌≤◌, ◌+◌, ◌==◌, true, length, rules, arith}
use Rattle.rb_script.specs.declared.script_fault.ScriptFault.TheVariants.{Line}
use Rattle.rb_script.specs.ScriptText.{lines_of}
use Rattle.rb_script.proofs.ScriptWords.{is-empty}
use Rattle.rb_script.proofs.ScriptParts.{read-none, read-more, read-fault, read-all, no-worker, no-script-of-fault, no-fault-of-script, only-fault}
use Rattle.rb_script.proofs.RunnableScripts.{may-run}
use Rattle.rb_script.proofs.script.Script.read.Goals as goal

pub loop-rest-init : goal.loop-rest-init
loop-rest-init c = record { lines = omega arith; limits = search rules; read = read-none c.args.input.now _ c.new.ensures.items c.new-2.ensures.items c.new-3.ensures.items }

pub loop-rest-preserved : goal.loop-rest-preserved
loop-rest-preserved c = record {
  lines = omega arith;
  limits = search rules;
  read = read-more c.args.input.now c.loop-rest.rest.now c.loop-rest.number c.loop-rest.script c.loop-rest.invariant.read c.first_line.result.0.now c.first_line.result.1.now c.first_line.ensures.parted c.add.new.self c.in_default.ensures.added;
}

pub returns-in-Err-clause-fault : goal.returns-in-Err-clause-fault
returns-in-Err-clause-fault c = read-fault c.args.input.now c.loop-rest.rest.now c.loop-rest.number c.loop-rest.script c.loop-rest.invariant.read c.first_line.result.0.now c.first_line.result.1.now c.first_line.ensures.parted c.in-Err.fault c.in-Err.ensures.fault

pub returns-in-Err-clause-only_script : goal.returns-in-Err-clause-only_script
returns-in-Err-clause-only_script c = no-script-of-fault (lines_of c.args.input.now) c.in-Err.fault (read-fault c.args.input.now c.loop-rest.rest.now c.loop-rest.number c.loop-rest.script c.loop-rest.invariant.read c.first_line.result.0.now c.first_line.result.1.now c.first_line.ensures.parted c.in-Err.fault c.in-Err.ensures.fault)

pub returns-in-Err-clause-only_fault : goal.returns-in-Err-clause-only_fault
returns-in-Err-clause-only_fault c = only-fault (lines_of c.args.input.now) c.in-Err.fault (read-fault c.args.input.now c.loop-rest.rest.now c.loop-rest.number c.loop-rest.script c.loop-rest.invariant.read c.first_line.result.0.now c.first_line.result.1.now c.first_line.ensures.parted c.in-Err.fault c.in-Err.ensures.fault)

pub returns-then-is_empty-clause-fault : goal.returns-then-is_empty-clause-fault
returns-then-is_empty-clause-fault c =
    let ended : (length c.loop-rest.rest.now == 0) ≡ true = search rules in
    let none : length c.loop-rest.script.workers.items ≡ 0 = search rules in
    no-worker c.args.input.now c.loop-rest.rest.now c.loop-rest.number c.loop-rest.script c.loop-rest.invariant.read (is-empty c.loop-rest.rest.now ended) none

pub returns-then-is_empty-clause-only_script : goal.returns-then-is_empty-clause-only_script
returns-then-is_empty-clause-only_script c =
    let ended : (length c.loop-rest.rest.now == 0) ≡ true = search rules in
    let none : length c.loop-rest.script.workers.items ≡ 0 = search rules in
    no-script-of-fault (lines_of c.args.input.now) (Line (c.loop-rest.number + 1)) (no-worker c.args.input.now c.loop-rest.rest.now c.loop-rest.number c.loop-rest.script c.loop-rest.invariant.read (is-empty c.loop-rest.rest.now ended) none)

pub returns-then-is_empty-clause-only_fault : goal.returns-then-is_empty-clause-only_fault
returns-then-is_empty-clause-only_fault c =
    let ended : (length c.loop-rest.rest.now == 0) ≡ true = search rules in
    let none : length c.loop-rest.script.workers.items ≡ 0 = search rules in
    only-fault (lines_of c.args.input.now) (Line (c.loop-rest.number + 1)) (no-worker c.args.input.now c.loop-rest.rest.now c.loop-rest.number c.loop-rest.script c.loop-rest.invariant.read (is-empty c.loop-rest.rest.now ended) none)

pub returns-clause-only_fault : goal.returns-clause-only_fault
returns-clause-only_fault c =
    let ended : (length c.loop-rest.rest.now == 0) ≡ true = search rules in
    let some : 1 ≤ length c.loop-rest.script.workers.items = search rules in
    λ line first. absurd (no-fault-of-script (lines_of c.args.input.now) c.loop-rest.script (read-all c.args.input.now c.loop-rest.rest.now c.loop-rest.number c.loop-rest.script c.loop-rest.invariant.read (is-empty c.loop-rest.rest.now ended)) some line first)

pub returns-clause-runs : goal.returns-clause-runs
returns-clause-runs c =
    let ended : (length c.loop-rest.rest.now == 0) ≡ true = search rules in
    let some : 1 ≤ length c.loop-rest.script.workers.items = search rules in
    may-run (lines_of c.args.input.now) c.loop-rest.script (read-all c.args.input.now c.loop-rest.rest.now c.loop-rest.number c.loop-rest.script c.loop-rest.invariant.read (is-empty c.loop-rest.rest.now ended)) c.loop-rest.invariant.limits some
