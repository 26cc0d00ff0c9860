use Rattle.rb_ledger.proofs.HeldRecords.{held-until-given-back}
use Rattle.rb_ledger.proofs.no_stranger.seats_hold_what_they_granted.Goals as goal

pub returns : goal.returns
returns c = record { law = held-until-given-back }
