-- The lock as it is opened, and the roles that are split off.
use Rattle.std.specs.Prelude.{◌≡◌, ℕ, zero, suc, ◌+◌, List, [], ◌∷◌, None}
use Rattle.std.specs.FinMap.{empty}
use Rattle.rb_history.specs.RingModel.{Ring, fresh}
use Rattle.rb_ledger.specs.Roles.{Book, book_of}
use Rattle.rb_ledger.specs.Roles.Role.{Consumer, Worker}
use Rattle.rb_ledger.specs.RoleKnowledge.{RoleKnowledge, PassView, role_knowledge, pass_view}

-- ---- the lock is opened

-- the state that a pass holds before the lock is opened; no role's knowledge fits it
abbrev pub unopened_ring : Ring
unopened_ring = fresh 0 0 0

-- the roles of the workers from `first` on, which have seen the ring and sent nothing
abbrev pub worker_roles : Book → ℕ → ℕ → List RoleKnowledge
worker_roles seen first zero = []
worker_roles seen first (suc n) = role_knowledge (Worker first) seen empty ∷ worker_roles seen (first + 1) n

-- the first state is put in, and the pass has all roles
abbrev pub OpensState : PassView → Ring → PassView → Type 0
OpensState v r w = w ≡ pass_view (role_knowledge Consumer (book_of r) empty ∷ worker_roles (book_of r) 0 r.setup.workers) None

-- ---- a role is split off

abbrev pub first_role : List RoleKnowledge → List RoleKnowledge
first_role [] = []
first_role (k ∷ ks) = k ∷ []

abbrev pub other_roles : List RoleKnowledge → List RoleKnowledge
other_roles [] = []
other_roles (k ∷ ks) = ks
