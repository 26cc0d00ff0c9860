-- What a seat's pass knows between calls.
use Rattle.std.specs.Prelude.{◌≡◌, List, [], ◌∷◌, None}
use Rattle.std.specs.FinMap.{empty}
use Rattle.rb_history.specs.RingModel.{Contents}
use Rattle.rb_ledger.specs.Roles.{Role, Book}
use Rattle.rb_ledger.specs.RoleKnowledge.{RoleKnowledge, PassView, role_knowledge, pass_view}
use Rattle.rb_ledger.specs.Seats.{fresh_book}

abbrev pub unseen : Book
unseen = fresh_book 0 0 0

-- what the first role of a pass has seen, and its bytes
abbrev pub first_seen : List RoleKnowledge → Book
first_seen [] = unseen
first_seen (k ∷ ks) = k.seen

abbrev pub first_bytes : List RoleKnowledge → Contents
first_bytes [] = empty
first_bytes (k ∷ ks) = k.bytes

abbrev pub seen_in : PassView → Book
seen_in v = first_seen v.knows

abbrev pub pass_bytes : PassView → Contents
pass_bytes v = first_bytes v.knows

-- the pass has this one role, and does not hold the state
abbrev pub IsIdle : Role → PassView → Type 0
IsIdle role v = v ≡ pass_view (role_knowledge role (seen_in v) (pass_bytes v) ∷ []) None
