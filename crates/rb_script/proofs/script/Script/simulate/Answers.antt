use Rattle.std.proofs.Common.{◌≡◌, length, map, refl, inl, rules, arith}
use Rattle.std.specs.List.{AllZip}
use Rattle.std.proofs.lemmas.Grind.{common_steps}
use Rattle.rb_script.specs.Programs.{IsWorkersProgram, IsProgramsFault}
use Rattle.rb_script.specs.Scripts.{worker_text}
use Rattle.rb_script.proofs.WorkerPrograms.{only-refused, none-refused}
use Rattle.rb_script.proofs.RunnableScripts.{breaks-off}
use Rattle.rb_script.proofs.script.Script.simulate.Goals as goal

pub simulate_with-requires : goal.simulate_with-requires
simulate_with-requires g c =
    let accepted : AllZip (IsWorkersProgram (length c.args.self.now.rings.items)) (map worker_text c.args.self.now.workers.items) c.as_slice-2.result.now = first_of (search rules, grind (arith, common_steps)) in
    record { may_run = c.requires.may_run; accepted = accepted }

pub returns-in-Err-clause-only_refused : goal.returns-in-Err-clause-only_refused
returns-in-Err-clause-only_refused g c =
    let fault : IsProgramsFault (length c.args.self.now.rings.items) (map worker_text c.args.self.now.workers.items) c.in-Err.fault = first_of (search rules, grind (arith, common_steps)) in
    only-refused (length c.args.self.now.rings.items) (map worker_text c.args.self.now.workers.items) c.in-Err.fault fault

pub returns-in-Ok-simulate_with-clause-only_refused : goal.returns-in-Ok-simulate_with-clause-only_refused
returns-in-Ok-simulate_with-clause-only_refused g c =
    let accepted : AllZip (IsWorkersProgram (length c.args.self.now.rings.items)) (map worker_text c.args.self.now.workers.items) c.in-Ok.programs.items = first_of (search rules, grind (arith, common_steps)) in
    λ line first. absurd (none-refused (length c.args.self.now.rings.items) (map worker_text c.args.self.now.workers.items) c.in-Ok.programs.items accepted line first)

pub returns-in-Err-clause-begun : goal.returns-in-Err-clause-begun
returns-in-Err-clause-begun g c = inl refl

pub returns-clause-begun : goal.returns-clause-begun
returns-clause-begun g c =
    let accepted : AllZip (IsWorkersProgram (length c.args.self.now.rings.items)) (map worker_text c.args.self.now.workers.items) c.in-Ok.programs.items = first_of (search rules, grind (arith, common_steps)) in
    let same : c.as_slice-2.result.now ≡ c.in-Ok.programs.items = search rules in
    breaks-off c.args.form c.args.draw c.args.self.now c.as_slice-2.result.now c.in-Ok.programs.items c.args.text.now.items c.simulate_with.new.text.items same accepted c.in-Err-simulate_with.ensures.begun
