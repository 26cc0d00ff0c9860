use Rattle.std.proofs.Common.{◌≡◌, ◌<◌, get_or, length, rules, arith}
use Rattle.std.proofs.lemmas.Grind.{common_steps}
use Rattle.rb_run_commands.proofs.Printing.{rings_more}
use Rattle.rb_run_commands.proofs.report_json.push_rings.Goals as goal

pub loop-ring-preserved : goal.loop-ring-preserved
loop-ring-preserved g c =
    let below : c.loop-ring.ring < length c.args.rings.now = first_of (search rules, grind (arith, common_steps)) in
    rings_more c.args.rings.now c.loop-ring.ring c.index-rings-ring.result _ _ _ below c.index-rings-ring.is c.loop-ring.invariant c.in_ok-push_ended.ensures.objects
