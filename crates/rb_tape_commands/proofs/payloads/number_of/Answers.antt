use Rattle.std.proofs.lemmas.Nat.{le_bytes_4}
use Rattle.rb_tape_commands.proofs.payloads.number_of.Goals as goal

pub returns : goal.returns
returns c = le_bytes_4 c.args.field.now _ c.told-field c.fits-field c.from_le_bytes.ensures
