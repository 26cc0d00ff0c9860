use Rattle.rb_ledger.proofs.NoStranger.{no-stranger, taken-as-shown, stays-shown}
use Rattle.rb_ledger.proofs.no_stranger.no_reservation_is_a_stranger.Goals as goal

pub returns : goal.returns
returns c = record { at_every_moment = no-stranger; where_taken_out = taken-as-shown; once_put_back = stays-shown }
