-- A seat commits at most as many records as it was granted.
use Rattle.std.proofs.Common.{ℕ, ◌+◌, ◌≤◌, sym, subst}
use Rattle.rb_history.specs.declared.tally.Tally.{Tally}
use Rattle.rb_history.proofs.Settled.{settled-most}
use Rattle.rb_ledger.specs.Seats.{Ties, IsBook}
use Rattle.rb_ledger.specs.Roles.{Book}

-- a seat submitted and discarded at most as many records as it was granted
pub settles-most : (w : ℕ) (t : Tally) (b : Book) → IsBook b → Ties w t b → t.submitted + t.discarded ≤ t.made
settles-most w t b book ties = subst (λ (x : Tally). x.submitted + x.discarded ≤ x.made) (sym ties.counted) (settled-most b.setup b.history book.legal w)
