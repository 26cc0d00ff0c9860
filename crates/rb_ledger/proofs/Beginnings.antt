-- How histories continue one another.
use Rattle.std.proofs.Common.{◌≡◌, List, [], ◌++◌, refl, ap, sym, ◌∙◌, subst, append-nil, append_assoc}
use Rattle.rb_history.specs.declared.entries.Entry.{Entry}
use Rattle.rb_history.specs.RingModel.{Ring}
use Rattle.rb_history.specs.Calls.{Logs}
use Rattle.rb_ledger.specs.Roles.{Role, Book, BeginsWith, ExtendsSeen, book_of}
use Rattle.rb_ledger.specs.LockedCalls.{LockedCall}

pub begins_with_all : (b : Book) → BeginsWith b b
begins_with_all b = record { setup_same = refl; behind = []; history_is = sym (append-nil b.history) }

pub begins_through : (a b c : Book) → BeginsWith b a → BeginsWith c b → BeginsWith c a
begins_through a b c first second =
    record {
      setup_same = second.setup_same ∙ first.setup_same;
      behind = first.behind ++ second.behind;
      history_is = second.history_is ∙ (ap (λ h. h ++ second.behind) first.history_is ∙ append_assoc a.history first.behind second.behind);
    }

-- it continues with entries of others only
pub extended_begins : (role : Role) (b c : Book) → ExtendsSeen role b c → BeginsWith c b
extended_begins role b c extends = record { setup_same = extends.setup_same; behind = extends.behind; history_is = extends.history_is }

-- it continues with entries that a call logged
pub logged_begins : (old new : Ring) (entries : List Entry) → Logs old new entries → BeginsWith (book_of new) (book_of old)
logged_begins old new entries logged = record { setup_same = logged.setup_same; behind = entries; history_is = logged.history_is }

-- the ring is the same
pub same_begins : (old new : Ring) → new ≡ old → BeginsWith (book_of new) (book_of old)
same_begins old new same = subst (λ r. BeginsWith (book_of r) (book_of old)) (sym same) (begins_with_all (book_of old))

-- what a role has seen after a call begins with what it had seen before
pub call_begins : (role : Role) (before after : Book) (Called : Ring → Ring → Type 0) → ((old new : Ring) → Called old new → BeginsWith (book_of new) (book_of old))
    → LockedCall role before after Called → BeginsWith after before
call_begins role before after Called goes_on call =
    subst (λ (x : Book). BeginsWith x before) (sym call.seen)
    (begins_through before (book_of call.point) (book_of call.left) (extended_begins role before (book_of call.point) call.goes_on) (goes_on call.point call.left call.called))
