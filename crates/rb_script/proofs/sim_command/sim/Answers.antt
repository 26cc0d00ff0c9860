use Rattle.std.proofs.Common.{◌≡◌, ℕ, refl, inl, inr}
use Rattle.rb_script.specs.declared.sim_command.SimFault.TheVariants.{Line, Memory}
use Rattle.rb_script.specs.Simulated.{IsSimFaultOf, IsTold, BreaksOffSim}
use Rattle.rb_script.proofs.ToldLines.{err, for-every, for-read, keeps-all}
use Rattle.rb_script.proofs.sim_command.sim.Goals as goal

pub returns-in-Err-Memory-clause-told : goal.returns-in-Err-Memory-clause-told
returns-in-Err-Memory-clause-told g c = for-every _ (λ text. (line : ℕ) → IsSimFaultOf text (Line line) → IsTold line (err Memory)) (λ text line h. inr (inl refl))

pub returns-in-Err-Memory-clause-broken_off : goal.returns-in-Err-Memory-clause-broken_off
returns-in-Err-Memory-clause-broken_off g c =
    for-every _ (λ text. err Memory ≡ err Memory → BreaksOffSim c.args.form c.args.draw text (g.W.Write.contents c.args.out.now) (g.W.Write.contents c.args.out.now)) (λ text is. inl (keeps-all (g.W.Write.contents c.args.out.now)))

pub returns-clause-told : goal.returns-clause-told
returns-clause-told g c =
    for-read _ (λ text. (line : ℕ) → IsSimFaultOf text (Line line) → IsTold line c.sim_text.result) c.in-Ok.bytes.items c.as_slice.result.now c.as_slice.ensures.value c.in-Ok.ensures.bytes c.sim_text.ensures.told
