-- The fault of a run for each error of opening a ring.
use Rattle.rb_history.specs.declared.bounds.SetupFault.{SetupFault}
use Rattle.rb_history.specs.declared.bounds.SetupFault.TheVariants as setup
use Rattle.rb_run_commands.specs.declared.jobs_fault.JobsFault.{JobsFault}
use Rattle.rb_run_commands.specs.declared.jobs_fault.JobsFault.TheVariants.{Size, Start, Workers}

abbrev pub fault_of_opening : SetupFault → JobsFault
fault_of_opening setup.Size = Size
fault_of_opening setup.Start = Start
fault_of_opening setup.Workers = Workers
