use Rattle.rb_ledger.proofs.HandLock.{begins, opens, takes, puts, away, forks, merges, one-hand-leaves}
use Rattle.rb_ledger.proofs.hand_lock_laws.hand_lock_rule_is_kept.Goals as goal

pub returns : goal.returns
returns c = record { first = begins; opened = opens; taken_out = takes; put_back = puts; away = away; split = forks; joined = merges; others = one-hand-leaves }
