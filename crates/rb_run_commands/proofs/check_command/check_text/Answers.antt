use Rattle.rb_run_commands.proofs.Checking.{consumers_at, seats_at}
use Rattle.rb_run_commands.proofs.check_command.check_text.Goals as goal

pub run_once-requires-clause-seats : goal.run_once-requires-clause-seats
run_once-requires-clause-seats g c = seats_at c.in_ok-rings.field-0.rings.items _ _ c.as_slice.ensures.value c.in_ok-rings.ensures.seats

pub drain_rings-requires-clause-consumers : goal.drain_rings-requires-clause-consumers
drain_rings-requires-clause-consumers g c =
    consumers_at c.in_ok-rings.field-0.rings.items _ c.in_ok-rings.field-0.consumers.items _ c.as_slice-2.ensures.value c.as_mut_slice-2.ensures.value c.in_ok-rings.ensures.consumers
