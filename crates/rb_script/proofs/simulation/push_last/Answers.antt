use Rattle.std.proofs.Common.{◌≡◌, ◌++◌, sym, subst}
use Rattle.std.specs.Prelude.{OnOk}
use Rattle.rb_script.proofs.TurnLines.{last-found}
use Rattle.rb_script.proofs.simulation.push_last.Goals as goal

pub returns-in-Some : goal.returns-in-Some
returns-in-Some c = record {
  line = subst (λ l. OnOk c.push_take.result (c.push_take.new.text.items ≡ c.args.text.now.items ++ l)) (sym (last-found c.args.form c.args.r c.args.taken.now c.in-Some.found.now c.in-Some.ensures.value)) c.push_take.ensures.line;
}
