-- What a role and a pass know about the ring under the lock (own).
use Rattle.std.specs.Prelude.{ℕ, ◌+◌, ◌==◌, Bool, true, false, List, [], ◌∷◌, ◌++◌, cond, Option, Some, None}
use Rattle.rb_history.specs.RingModel.{Ring, Contents}
use Rattle.rb_ledger.specs.Roles.{Role, Book}
use Rattle.rb_ledger.specs.Roles.Role.{Consumer, Worker}

-- a role, the book as it last saw it, and the bytes that it sent or received, by position
pub record RoleKnowledge : Type 0 where
  pub role : Role
  pub seen : Book
  pub bytes : Contents

-- a pass, which is the right to use the lock: its roles with what each knows, and the state if the pass holds it
pub record PassView : Type 0 where
  pub knows : List RoleKnowledge
  pub out : Option Ring

abbrev pub role_knowledge : Role → Book → Contents → RoleKnowledge
role_knowledge role seen bytes = record { role = role; seen = seen; bytes = bytes }

abbrev pub pass_view : List RoleKnowledge → Option Ring → PassView
pass_view knows out = record { knows = knows; out = out }

-- ---- over all roles of a pass, and over all passes

abbrev pub same_role : Role → Role → Bool
same_role Consumer Consumer = true
same_role (Worker a) (Worker b) = a == b
same_role Consumer (Worker b) = false
same_role (Worker a) Consumer = false

-- how often the role is among those of one pass
abbrev pub role_count : Role → List RoleKnowledge → ℕ
role_count role [] = 0
role_count role (k ∷ ks) = cond (same_role role k.role) 1 0 + role_count role ks

-- the sum of a number over all passes
abbrev pub total : (PassView → ℕ) → List PassView → ℕ
total f [] = 0
total f (v ∷ vs) = f v + total f vs

abbrev pub state_list : Option Ring → List Ring
state_list None = []
state_list (Some r) = r ∷ []

-- the states that the passes hold
abbrev pub states_out : List PassView → List Ring
states_out [] = []
states_out (v ∷ vs) = state_list v.out ++ states_out vs
