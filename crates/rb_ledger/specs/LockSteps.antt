-- The steps of a pass at the lock: the state is taken out, and put back after one call of the pass's role (own).
use Rattle.std.specs.Prelude.{◌≡◌, ◌≤◌, false, Some, drop, length}
use Rattle.rb_history.specs.RingModel.{Ring}
use Rattle.rb_ledger.specs.Roles.{Role, book_of}
use Rattle.rb_ledger.specs.RoleKnowledge.{RoleKnowledge, PassView, role_knowledge, pass_view, same_role, role_count}
use Rattle.rb_ledger.specs.Ledger.{Ledger, FitsLedger}
use Rattle.rb_ledger.specs.LockRule.{AllFit}
use Rattle.rb_ledger.specs.AddedBytes.{bytes_after}

-- the pass then holds the state; it fits all roles of the pass, each of which the pass has once
abbrev pub TakesState : PassView → Ring → PassView → Type 0
TakesState v r w =
    (w ≡ pass_view v.knows (Some r)) × ((s : Ledger) × (s.ring ≡ r) × AllFit s v.knows) × ((role : Role) → role_count role v.knows ≤ 1)

-- from the ring r to the ring new, one role's knowledge becomes `after`, and what all others know still agrees with the
-- ledger
abbrev pub RoleStep : RoleKnowledge → Ring → Ring → RoleKnowledge → Type 0
RoleStep me r new after =
    (s : Ledger) → s.ring ≡ r → FitsLedger s me
    → (t : Ledger) × (t.ring ≡ new) × FitsLedger t after × ((k : RoleKnowledge) → same_role me.role k.role ≡ false → FitsLedger s k → FitsLedger t k)

-- what a role knows after it has put back a state
abbrev pub knowledge_after : Ring → Ring → RoleKnowledge → RoleKnowledge
knowledge_after old new k = role_knowledge k.role (book_of new) (bytes_after k.role old new (drop (length old.history) new.history) k.bytes)
