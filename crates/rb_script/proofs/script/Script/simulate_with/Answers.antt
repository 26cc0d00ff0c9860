use Rattle.std.proofs.Common.{◌≡◌, ◌≤◌, ℕ, length, Vec, Global, Err, refl, ap, inr, arith}
use Rattle.std.proofs.lemmas.Result.{IfOk-weaker}
use Rattle.rb_script.specs.Simulation.{SimulatesWith, world_text}
use Rattle.rb_script.proofs.RunnableScripts.{may-open-lent, memory-only, there-lent, began-with, ran-with, all-begun, on-err}
use Rattle.rb_script.proofs.WorkerPrograms.{programs-long}
use Rattle.rb_script.proofs.WorldEnds.{few-machines, few-rings}
use Rattle.rb_script.proofs.script.Script.simulate_with.Goals as goal

pub setups_of-requires : goal.setups_of-requires
setups_of-requires g c =
    let long = programs-long (length c.args.self.now.rings.items) c.args.self.now.workers.items c.args.programs.now c.requires.accepted in
    record { alike = omega (arith, long, ap length c.as_slice.ensures.value) }

pub want_of_memory-requires : goal.want_of_memory-requires
want_of_memory-requires g c =
    let told = c.in-Err.ensures in
    record { memory = memory-only c.as_slice-2.result.now c.as_slice-3.result.now (Err c.in-Err.fault) c.in-Err.fault refl (may-open-lent c.args.self.now c.args.programs.now c.in_ok-setups.setups.items c.as_slice.result.now c.as_slice-2.result.now c.as_slice-3.result.now c.as_slice.ensures.value c.as_slice-2.ensures.value c.as_slice-3.ensures.value c.requires.may_run c.requires.accepted c.in_ok-setups.ensures.setups) told.ring told.context_length told.ring_count told.worker_count told.chapter }

pub run-requires : goal.run-requires
run-requires g c = record { there = there-lent c.args.self.now c.args.programs.now c.in_ok-setups.setups.items c.as_slice.result.now c.as_slice-2.result.now c.as_slice-3.result.now c.as_slice.ensures.value c.as_slice-2.ensures.value c.as_slice-3.ensures.value c.requires.may_run c.requires.accepted c.in_ok-setups.ensures.setups c.in-Ok.world c.in-Ok.ensures.opened c.as_slice-4.result.now c.as_slice-4.ensures.value; few = few-rings _ _ _ c.in-Ok.ensures.opened c.in-Ok.ensures.allowed }

pub ends_of-requires-clause-workers : goal.ends_of-requires-clause-workers
ends_of-requires-clause-workers g c = let few : length c.in-Ok.world.machines ≤ 256 = few-machines _ _ _ c.in-Ok.ensures.opened c.in-Ok.ensures.allowed in omega arith

pub ends_of-requires-clause-rings : goal.ends_of-requires-clause-rings
ends_of-requires-clause-rings g c = let few : length c.in-Ok.world.rings ≤ 16 = few-rings _ _ _ c.in-Ok.ensures.opened c.in-Ok.ensures.allowed in omega (arith, few, c.in_ok-run.ensures.rings)

pub returns-in_err-run-clause-begun : goal.returns-in_err-run-clause-begun
returns-in_err-run-clause-begun g c = on-err c.from_residual-in_err-run.result (inr (began-with c.args.self.now c.args.programs.now c.in_ok-setups.setups.items c.as_slice.result.now c.as_slice-2.result.now c.as_slice-3.result.now c.as_slice.ensures.value c.as_slice-2.ensures.value c.as_slice-3.ensures.value c.requires.may_run c.requires.accepted c.in_ok-setups.ensures.setups c.in-Ok.world c.in-Ok.ensures.opened c.as_slice-4.result.now c.as_slice-4.ensures.value c.args.form c.args.draw c.args.text.now.items c.run.new.text.items c.in_err-run.ensures.begun))

pub returns-clause-ran : goal.returns-clause-ran
returns-clause-ran g c =
    IfOk-weaker c.ends_of.result (λ (ends : Vec ℕ Global). ends.items ≡ world_text c.args.form c.run.new.world) (λ (ends : Vec ℕ Global). SimulatesWith c.args.form c.args.draw c.args.self.now c.args.programs.now c.args.text.now.items c.run.new.text.items ends.items)
    (λ ends is. ran-with c.args.self.now c.args.programs.now c.in_ok-setups.setups.items c.as_slice.result.now c.as_slice-2.result.now c.as_slice-3.result.now c.as_slice.ensures.value c.as_slice-2.ensures.value c.as_slice-3.ensures.value c.requires.may_run c.requires.accepted c.in_ok-setups.ensures.setups c.in-Ok.world c.in-Ok.ensures.opened c.as_slice-4.result.now c.as_slice-4.ensures.value c.args.form c.args.draw c.run.new.world c.args.text.now.items c.run.new.text.items ends.items c.in_ok-run.ensures.written is) c.ends_of.ensures.lines

pub returns-clause-begun : goal.returns-clause-begun
returns-clause-begun g c = on-err c.ends_of.result (inr (began-with c.args.self.now c.args.programs.now c.in_ok-setups.setups.items c.as_slice.result.now c.as_slice-2.result.now c.as_slice-3.result.now c.as_slice.ensures.value c.as_slice-2.ensures.value c.as_slice-3.ensures.value c.requires.may_run c.requires.accepted c.in_ok-setups.ensures.setups c.in-Ok.world c.in-Ok.ensures.opened c.as_slice-4.result.now c.as_slice-4.ensures.value c.args.form c.args.draw c.args.text.now.items c.run.new.text.items (all-begun _ _ _ _ _ _ _ c.in_ok-run.ensures.written)))
