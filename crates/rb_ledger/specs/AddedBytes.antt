-- What the entries of a step add to the bytes that a role sent or received (own).
use Rattle.std.specs.Prelude.{ℕ, List, [], ◌∷◌, Option, Some, None}
use Rattle.std.specs.FinMap.{get, insert}
use Rattle.rb_history.specs.declared.entries.Entry.{Entry}
use Rattle.rb_history.specs.declared.entries.Entry.TheVariants.{Sub, Take}
use Rattle.rb_history.specs.RingModel.{Ring, Contents}
use Rattle.rb_ledger.specs.Roles.{Role}
use Rattle.rb_ledger.specs.Roles.Role.{Consumer, Worker}

abbrev pub put_at : ℕ → Option (List ℕ) → Contents → Contents
put_at p None m = m
put_at p (Some bytes) m = insert m p bytes

-- a submit adds its record's bytes, which `from` has, to what was sent
abbrev pub sent_with : Contents → List Entry → Contents → Contents
sent_with from [] m = m
sent_with from (Sub p ∷ es) m = sent_with from es (put_at p (get from p) m)
sent_with from (_ ∷ es) m = sent_with from es m

-- a take adds its record's bytes, if `from` has any, to what was received
abbrev pub got_with : Contents → List Entry → Contents → Contents
got_with from [] m = m
got_with from (Take p ∷ es) m = got_with from es (put_at p (get from p) m)
got_with from (_ ∷ es) m = got_with from es m

-- what a role has sent or received after it took out the old ring and put the new one in its place, with these entries
-- added
abbrev pub bytes_after : Role → Ring → Ring → List Entry → Contents → Contents
bytes_after Consumer old new added m = got_with old.contents added m
bytes_after (Worker w) old new added m = sent_with new.contents added m
