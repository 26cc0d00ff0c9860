-- The value owns nothing, so it may be sent to any thread.
use denote.Param.Send.{IsSend, owning_send}
use Rattle.rb_tape.specs.contracts.begun_record.Begun.{the_row, the_type}

pub send : IsSend the_row
send = owning_send the_type tt (λ d. tt) (λ k x w. tt)
