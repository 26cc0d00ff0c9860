-- Laws for the crates above: which rings may be run together, and when their seats are settled.
pub use Rattle.rb_workers.proofs.Fresh.{all_opened}
pub use Rattle.rb_workers.proofs.Settling.{settled_together}
