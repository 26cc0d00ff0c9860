-- The value owns nothing, so any thread may share it.
use denote.Param.Send.{IsSync, part_keyless}
use Rattle.rb_tape.specs.contracts.begun_record.Begun.{the_row}
use Rattle.rb_tape.proofs.begun_record.Begun.TheSendSync.Send.{send}

pub sync : IsSync the_row
sync = record { shared = λ d b o κ q. part_keyless the_row send q d b o }
