-- A call, from the pass that takes the state out to the pass that has put it back.
use Rattle.std.proofs.Common.{◌≡◌, ℕ, List, [], ◌∷◌, ◌++◌, Some, length, drop, sym, ap, ◌∙◌, subst, append-nil, Result, Ok, Err}
use Rattle.std.proofs.lemmas.List.Prefix.{front_rest}
use Rattle.rb_history.specs.declared.entries.Entry.{Entry}
use Rattle.rb_history.specs.declared.entries.Entry.TheVariants.{Res, Full, Sub, Dis, Take}
use Rattle.rb_history.specs.declared.answers.Notice.{Notice}
use Rattle.rb_history.specs.declared.answers.Taken.{Taken}
use Rattle.rb_history.specs.declared.answers.Taken.TheVariants.{Event, Skipped, BusyFront, Empty}
use Rattle.rb_history.specs.declared.answers.NoGrant.{NoGrant}
use Rattle.rb_history.specs.declared.answers.NoGrant.TheVariants.{Full as FaultFull, Memory, Flags}
use Rattle.rb_history.specs.ReservationModel.{Granted}
use Rattle.rb_history.specs.RingModel.{Ring, Contents}
use Rattle.rb_history.specs.Calls.{Refuses, producer_now}
use Rattle.rb_chapter_ring.specs.declared.record_end.RecordEnd.{RecordEnd}
use Rattle.rb_chapter_ring.specs.declared.record_end.RecordEnd.TheVariants.{Submit, Discard}
use Rattle.rb_ledger.specs.Roles.{Role, Book, book_of, ExtendsSeen}
use Rattle.rb_ledger.specs.Roles.Role.{Consumer, Worker}
use Rattle.rb_ledger.specs.AddedBytes.{bytes_after, put_at}
use Rattle.rb_ledger.specs.RoleKnowledge.{PassView, role_knowledge, pass_view}
use Rattle.rb_ledger.specs.Ledger.{IsRing, IsRoleIn, FitsLedger}
use Rattle.rb_ledger.specs.LockRule.{AllFit}
use Rattle.rb_ledger.specs.LockSteps.{TakesState}
use Rattle.rb_ledger.specs.inner.SeatPasses.{seen_in, pass_bytes, IsIdle}
use Rattle.rb_ledger.specs.LockedCalls.{Reserves, OutputsAt, TakesAt, sent_by_output, got_by}
use Rattle.rb_ledger.specs.RecordEnds.{EndsAt, sent_by_end}
use Rattle.rb_ledger.proofs.Calls.{no-bytes, sent-there, skipped-none}

-- what a pass with one role knows while it holds the state
pub record Held (role : Role) (v : PassView) (r : Ring) (w : PassView) : Type 0 where
  pub now : w ≡ pass_view (role_knowledge role (seen_in v) (pass_bytes v) ∷ []) (Some r)
  pub goes_on : ExtendsSeen role (seen_in v) (book_of r)
  pub is_ring : IsRing r
  pub is_role : IsRoleIn r.setup role

pub held : (role : Role) (v : PassView) (r : Ring) (w : PassView) → IsIdle role v → TakesState v r w → Held role v r w
held role v r w idle took =
    let me = role_knowledge role (seen_in v) (pass_bytes v) in
    let s = took.1.0 in
    let fit : FitsLedger s me = (subst (λ (x : PassView). AllFit s x.knows) idle took.1.2).0 in
    record {
      now = took.0 ∙ ap (λ (x : PassView). pass_view x.knows (Some r)) idle;
      goes_on = subst (λ x. ExtendsSeen role (seen_in v) (book_of x)) took.1.1 fit.goes_on;
      is_ring = subst IsRing took.1.1 fit.sound.is_ring;
      is_role = subst (λ (x : Ring). IsRoleIn x.setup role) took.1.1 fit.is_role;
    }

-- ---- the bytes after each call

module _ (seen : Book) (m : Contents) (old new : Ring) where
  cut : (added : List Entry) → new.history ≡ old.history ++ added → drop (length old.history) new.history ≡ added
  cut added is = front_rest new.history old.history added is

  abbrev after_of : Role → Contents
  after_of role = bytes_after role old new (drop (length old.history) new.history) m

  after-entries : (role : Role) (added : List Entry) → new.history ≡ old.history ++ added → after_of role ≡ bytes_after role old new added m
  after-entries role added is = ap (λ es. bytes_after role old new es m) (cut added is)

  pub after-same : (role : Role) → new ≡ old → after_of role ≡ m
  after-same role same = after-entries role [] (ap (λ (r : Ring). r.history) same ∙ sym (append-nil old.history)) ∙ no-bytes role old new m

  module _ (w : ℕ) where
    after-refused : (n : ℕ) (f : NoGrant) → Refuses old new w n f → after_of (Worker w) ≡ m
    after-refused n FaultFull refused = after-entries (Worker w) (Full w n ∷ []) refused.logged.history_is
    after-refused n Memory refused = after-same (Worker w) refused
    after-refused n Flags refused = after-same (Worker w) refused

    pub after-reserve : (n : ℕ) (answer : Result Granted (NoGrant × List ℕ)) → Reserves w n answer old new → after_of (Worker w) ≡ m
    after-reserve n (Ok r) call = after-entries (Worker w) (Res w r.serial n r.pos ∷ []) call.0.logged.history_is
    after-reserve n (Err e) call = after-refused n e.0 call.0

    pub after-end : (end : RecordEnd) (r : Granted) (flags : ℕ) (notice : Notice) → EndsAt end r flags notice old new → after_of (Worker w) ≡ sent_by_end end r m
    after-end Submit r flags n call = after-entries (Worker w) (Sub r.pos ∷ []) call.0.logged.history_is ∙ ap (λ o. put_at r.pos o m) (sent-there old new r.pos r.bytes call.0.contents_are)
    after-end Discard r flags n call = after-entries (Worker w) (Dis r.pos ∷ []) call.0.logged.history_is

    pub after-output : (b : List ℕ) (flags : ℕ) (answer : Result Notice (NoGrant × List ℕ)) → OutputsAt w b flags answer old new → after_of (Worker w) ≡ sent_by_output m (producer_now old) b answer
    after-output b flags (Ok _) call = after-entries (Worker w) (_ ∷ Sub (producer_now old) ∷ []) call.0.logged.history_is ∙ ap (λ o. put_at (producer_now old) o m) (sent-there old new (producer_now old) b call.0.contents_are)
    after-output b flags (Err e) call = after-refused (length b) e.0 call.0

  pub after-take : (t : Taken) → IsRing old → TakesAt t old new → after_of Consumer ≡ got_by m t
  after-take (Event p w k b) is_ring call = after-entries Consumer (Take p ∷ []) call.0.logged.history_is ∙ ap (λ o. put_at p o m) call.0.bytes_are
  after-take (Skipped p n) is_ring call = after-entries Consumer (Take p ∷ []) call.0.logged.history_is ∙ ap (λ o. put_at p o m) (skipped-none old p is_ring.stands call.0.discarded)
  after-take BusyFront is_ring call = after-same Consumer call.0.same
  after-take Empty is_ring call = after-same Consumer call.0.same
