use Rattle.rb_explain.proofs.Pieces.{fault_written}
use Rattle.rb_explain.proofs.objects.push_fault_object.Goals as goal

pub returns : goal.returns
returns c = record { added = fault_written c.write.result _ _ c.args.layer.now c.args.name.now c.args.unit c.args.advice.now c.write.ensures.bytes }
