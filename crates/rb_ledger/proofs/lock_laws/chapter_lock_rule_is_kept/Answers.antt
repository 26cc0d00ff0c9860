use Rattle.rb_ledger.proofs.ChapterLock.{begins, opens, takes, puts, away, forks, merges}
use Rattle.rb_ledger.proofs.lock_laws.chapter_lock_rule_is_kept.Goals as goal

pub returns : goal.returns
returns c = record { first = begins; opened = opens; taken_out = takes; put_back = puts; away = away; split = forks; joined = merges }
