use Rattle.rb_ledger.proofs.HandedOut.{handed-out-is-known, handing-out-makes-room}
use Rattle.rb_ledger.proofs.handed_out_laws.handing_out_makes_room.Goals as goal

pub returns : goal.returns
returns c = record { known = handed-out-is-known; room = handing-out-makes-room }
