-- After each call on the state that it holds, a role may put the state back.
use Rattle.std.proofs.Common.{◌≡◌, ℕ, ◌||◌, Bool, true, false, List, [], ◌∷◌, ◌++◌, Option, Some, None, is_some, inl, inr, length, refl, sym, ap, ◌∙◌, subst, append_assoc, append-nil, arith, Result, Ok, Err}
use Rattle.std.specs.FinMap.{get, insert}
use Rattle.std.proofs.lemmas.Bool.{eq-eqb, false_from_ne_true}
use Rattle.std.proofs.lemmas.List.Elements.{Contains-push}
use Rattle.rb_history.specs.declared.entries.Entry.{Entry}
use Rattle.rb_history.specs.declared.entries.Entry.TheVariants.{Res, Full, Sub, Dis, Take}
use Rattle.rb_history.specs.declared.answers.Notice.{Notice}
use Rattle.rb_history.specs.declared.answers.Taken.{Taken}
use Rattle.rb_history.specs.declared.answers.Taken.TheVariants.{Event, Skipped, BusyFront, Empty}
use Rattle.rb_history.specs.declared.answers.NoGrant.{NoGrant}
use Rattle.rb_history.specs.declared.answers.NoGrant.TheVariants.{Full as FaultFull, Memory, Flags}
use Rattle.rb_history.specs.ReservationModel.{Granted}
use Rattle.rb_history.specs.History.{status_by, status_of, is_submitted_at, is_discarded_at, is_taken_at, is_submit, grants, producer_of}
use Rattle.rb_history.specs.History.Status.{Busy, Waiting, Discarded}
use Rattle.rb_history.specs.RingModel.{Ring, Contents, StandsFor}
use Rattle.rb_history.specs.Calls.{Logs, FindsFull, Refuses, Outputs, Submits, TakesEvent, Skips, Takes, producer_now}
use Rattle.rb_history.proofs.Laws.{kept-from-legal}
use Rattle.rb_history.proofs.Exact.{granted-below}
use Rattle.rb_chapter_ring.specs.declared.record_end.RecordEnd.{RecordEnd}
use Rattle.rb_chapter_ring.specs.declared.record_end.RecordEnd.TheVariants.{Submit, Discard}
use Rattle.rb_ledger.specs.Roles.{Role, Book}
use Rattle.rb_history.specs.WorkerCounts.{is_record_of}
use Rattle.rb_ledger.specs.Roles.Role.{Consumer, Worker}
use Rattle.rb_ledger.specs.SentBytes.{IsWithin}
use Rattle.rb_ledger.specs.AddedBytes.{bytes_after, put_at}
use Rattle.rb_ledger.specs.RoleKnowledge.{RoleKnowledge, role_knowledge}
use Rattle.rb_ledger.specs.Ledger.{Ledger, IsRing, FitsLedger}
use Rattle.rb_ledger.specs.LockSteps.{RoleStep, knowledge_after}
use Rattle.rb_ledger.specs.LockedCalls.{Reserves, OutputsAt}
use Rattle.rb_ledger.specs.RecordEnds.{EndsAt}
use Rattle.rb_history.proofs.RecordWorkers.{record-from, back-any, front-any}
use Rattle.rb_history.proofs.WorkerCounts.{submitted-granted}
use Rattle.rb_ledger.proofs.Histories.{AllOwn}
use Rattle.rb_ledger.proofs.Steps.{get-same, get-cases, left-out, Done, done, step-from, quiet, quiet-bytes, sends, sends-bytes}

abbrev pub StepIn : RoleKnowledge → Ring → Ring → RoleKnowledge → Type 0
StepIn = RoleStep

pub same-contents : (a b : Contents) → b ≡ a → IsWithin b a
same-contents a b e p bytes is = ap (λ (m : Contents). get m p) (sym e) ∙ is

-- the ring continues with entries that submit nothing, and the role's bytes do not change
quiet-done : (s : Ledger) (new : Ring) (role : Role) (seen : Book) (bytes : Contents) (added : List Entry) → Logs s.ring new added → IsWithin new.contents s.ring.contents → AllOwn role s.ring.history added → IsRing new
    → bytes_after role s.ring new added bytes ≡ bytes → FitsLedger s (role_knowledge role seen bytes) → Done s new (role_knowledge role seen bytes)
quiet-done s new role seen bytes added logs contents own is_ring same fit =
    done s (record { ring = new; sent = s.sent }) (role_knowledge role seen bytes) bytes added
    (quiet s new added logs.setup_same logs.history_is fit.sound is_ring role own contents) fit same
    (quiet-bytes s new added logs.setup_same logs.history_is fit.sound is_ring role bytes fit.bytes_fit)

pub same-logs : (old new : Ring) → new ≡ old → Logs old new []
same-logs old new e = record { setup_same = ap (λ (r : Ring). r.setup) e; history_is = ap (λ (r : Ring). r.history) e ∙ sym (append-nil old.history) }

pub no-bytes : (role : Role) (old new : Ring) (bytes : Contents) → bytes_after role old new [] bytes ≡ bytes
no-bytes Consumer old new bytes = refl
no-bytes (Worker w) old new bytes = refl

-- the ring is unchanged
pub put-same : (role : Role) (seen : Book) (bytes : Contents) (old new : Ring) → new ≡ old → IsRing new → StepIn (role_knowledge role seen bytes) old new (knowledge_after old new (role_knowledge role seen bytes))
put-same role seen bytes old new same is_ring =
    step-from (role_knowledge role seen bytes) old new (λ r. new ≡ r) same
    (λ s e fit. quiet-done s new role seen bytes [] (same-logs s.ring new e) (same-contents s.ring.contents new.contents (ap (λ (r : Ring). r.contents) e)) tt is_ring (no-bytes role s.ring new bytes) fit)

pub sent-there : (old new : Ring) (p : ℕ) (b : List ℕ) → new.contents ≡ insert old.contents p b → get new.contents p ≡ Some b
sent-there old new p b is = ap (λ (m : Contents). get m p) is ∙ get-same old.contents p b

none-there : (o : Option (List ℕ)) → (is_some o ≡ true → ⊥) → o ≡ None
none-there None off = refl
none-there (Some b) off = absurd (off refl)

-- a discarded record has no bytes
pub skipped-none : (r : Ring) (p : ℕ) → StandsFor r → status_of r.history p ≡ Discarded → get r.contents p ≡ None
skipped-none r p stands gone = none-there (get r.contents p) (λ is. let no_way : Waiting ≡ Discarded = sym ((stands.contents p).0 is) ∙ gone in cc)

module _ (w : ℕ) (seen : Book) (bytes : Contents) where
  -- one entry of the worker's own that submits nothing
  put-quiet : (old new : Ring) (e : Entry) → ((h : List Entry) → h ≡ old.history → AllOwn (Worker w) h (e ∷ [])) → ((r : Ring) → bytes_after (Worker w) r new (e ∷ []) bytes ≡ bytes) → Logs old new (e ∷ []) → new.contents ≡ old.contents → IsRing new
      → StepIn (role_knowledge (Worker w) seen bytes) old new (knowledge_after old new (role_knowledge (Worker w) seen bytes))
  put-quiet old new e own still logs contents is_ring =
      step-from (role_knowledge (Worker w) seen bytes) old new (λ r. Logs r new (e ∷ []) × (new.contents ≡ r.contents) × (r.history ≡ old.history)) (logs, contents, refl)
      (λ s c fit. quiet-done s new (Worker w) seen bytes (e ∷ []) c.0 (same-contents s.ring.contents new.contents c.1) (own s.ring.history c.2) is_ring (still s.ring) fit)

  put-full : (old new : Ring) (n : ℕ) → FindsFull old new w n → IsRing new → StepIn (role_knowledge (Worker w) seen bytes) old new (knowledge_after old new (role_knowledge (Worker w) seen bytes))
  put-full old new n f is_ring = put-quiet old new (Full w n) (λ h e. (eq-eqb w w refl, tt)) (λ r. refl) f.logged f.contents_same is_ring

  put-refused : (old new : Ring) (n : ℕ) (f : NoGrant) → Refuses old new w n f → IsRing new → StepIn (role_knowledge (Worker w) seen bytes) old new (knowledge_after old new (role_knowledge (Worker w) seen bytes))
  put-refused old new n FaultFull refused is_ring = put-full old new n refused is_ring
  put-refused old new n Memory refused is_ring = put-same (Worker w) seen bytes old new refused is_ring
  put-refused old new n Flags refused is_ring = put-same (Worker w) seen bytes old new refused is_ring

  pub put-reserved : (old new : Ring) (n : ℕ) (answer : Result Granted (NoGrant × List ℕ)) → Reserves w n answer old new → IsRing new → StepIn (role_knowledge (Worker w) seen bytes) old new (knowledge_after old new (role_knowledge (Worker w) seen bytes))
  put-reserved old new n (Ok r) call is_ring = put-quiet old new (Res w r.serial n r.pos) (λ h e. (eq-eqb w w refl, tt)) (λ r. refl) call.0.logged call.0.contents_same is_ring
  put-reserved old new n (Err e) call is_ring = put-refused old new n e.0 call.0 is_ring

  busy-not : (s d t : Bool) → status_by s d t ≡ Busy → s ≡ false
  busy-not true true t e = absurd (cc)
  busy-not true false true e = absurd (cc)
  busy-not true false false e = absurd (cc)
  busy-not false d t e = refl

  sent-once : (new : Ring) (p : ℕ) (b : List ℕ) → get new.contents p ≡ Some b → put_at p (get new.contents p) bytes ≡ insert bytes p b
  sent-once new p b found = ap (λ o. put_at p o bytes) found

  submits-done : (s : Ledger) (new : Ring) (r : Granted) → r.worker ≡ w → Submits s.ring new r → IsRing new → FitsLedger s (role_knowledge (Worker w) seen bytes) → Done s new (role_knowledge (Worker w) seen bytes)
  submits-done s new r mine call is_ring fit =
      let h = s.ring.history in
      let p = r.pos in
      let before : is_record_of w h p ≡ true = subst (λ v. is_record_of v h p ≡ true) mine (record-from h r.worker r.serial (length r.bytes) p call.was_busy.granted_is) in
      let after : is_record_of w new.history p ≡ true = subst (λ x. is_record_of w x p ≡ true) (sym call.logged.history_is) (front-any _ h (Sub p ∷ []) before) in
      let was_not : is_submitted_at h p ≡ false = busy-not (is_submitted_at h p) (is_discarded_at h p) (is_taken_at h p) call.was_busy.busy in
      let is_now : is_submitted_at new.history p ≡ true = subst (λ x. is_submitted_at x p ≡ true) (sym call.logged.history_is) (back-any (is_submit p) h (Sub p ∷ []) (ap (λ b. b || false) (eq-eqb p p refl))) in
      let c = sends s new (Sub p ∷ []) call.logged.setup_same call.logged.history_is fit.sound is_ring w p r.bytes (before, tt) call.contents_are after was_not is_now in
      done s (record { ring = new; sent = insert s.sent p r.bytes }) (role_knowledge (Worker w) seen bytes) (insert bytes p r.bytes) (Sub p ∷ []) c fit
      (sent-once new p r.bytes (sent-there s.ring new p r.bytes call.contents_are))
      (sends-bytes s new (Sub p ∷ []) call.logged.setup_same call.logged.history_is fit.sound is_ring w p r.bytes (before, tt) call.contents_are after was_not is_now bytes fit.bytes_fit)

  pub put-ended : (end : RecordEnd) (old new : Ring) (r : Granted) (flags : ℕ) (notice : Notice) → r.worker ≡ w → EndsAt end r flags notice old new → IsRing new → StepIn (role_knowledge (Worker w) seen bytes) old new (knowledge_after old new (role_knowledge (Worker w) seen bytes))
  put-ended Submit old new r flags n mine call is_ring = step-from (role_knowledge (Worker w) seen bytes) old new (λ x. Submits x new r) call.0 (λ s c fit. submits-done s new r mine c is_ring fit)
  put-ended Discard old new r flags n mine call is_ring =
      put-quiet old new (Dis r.pos)
      (λ h e. (subst (λ v. is_record_of v h r.pos ≡ true) mine (subst (λ x. is_record_of r.worker x r.pos ≡ true) (sym e) (record-from old.history r.worker r.serial (length r.bytes) r.pos call.0.was_busy.granted_is)), tt))
      (λ x. refl) call.0.logged call.0.contents_same is_ring

  outputs-done : (s : Ledger) (new : Ring) (b : List ℕ) → Outputs s.ring new w b → IsRing new → FitsLedger s (role_knowledge (Worker w) seen bytes) → Done s new (role_knowledge (Worker w) seen bytes)
  outputs-done s new b call is_ring fit =
      let h = s.ring.history in
      let setup = s.ring.setup in
      let p = producer_now s.ring in
      let grant = Res w (grants w h) (length b) p in
      let two = grant ∷ Sub p ∷ [] in
      let kept = kept-from-legal setup h fit.sound.is_ring.legal in
      let new_here : is_record_of w (h ++ grant ∷ []) p ≡ true = record-from (h ++ grant ∷ []) w (grants w h) (length b) p (Contains-push h grant) in
      let after : is_record_of w new.history p ≡ true = subst (λ x. is_record_of w x p ≡ true) (sym (call.logged.history_is ∙ sym (append_assoc h (grant ∷ []) (Sub p ∷ [])))) (front-any _ (h ++ grant ∷ []) (Sub p ∷ []) new_here) in
      let was_not : is_submitted_at h p ≡ false = false_from_ne_true (is_submitted_at h p) (λ is. omega (arith, granted-below h (producer_of setup.start h) p kept.below (submitted-granted setup h p fit.sound.is_ring.legal is))) in
      let is_now : is_submitted_at new.history p ≡ true = subst (λ x. is_submitted_at x p ≡ true) (sym call.logged.history_is) (back-any (is_submit p) h two (ap (λ b. b || false) (eq-eqb p p refl))) in
      let own : AllOwn (Worker w) h two = (eq-eqb w w refl, (new_here, tt)) in
      let c = sends s new two call.logged.setup_same call.logged.history_is fit.sound is_ring w p b own call.contents_are after was_not is_now in
      done s (record { ring = new; sent = insert s.sent p b }) (role_knowledge (Worker w) seen bytes) (insert bytes p b) two c fit
      (sent-once new p b (sent-there s.ring new p b call.contents_are))
      (sends-bytes s new two call.logged.setup_same call.logged.history_is fit.sound is_ring w p b own call.contents_are after was_not is_now bytes fit.bytes_fit)

  pub put-output : (old new : Ring) (b : List ℕ) (flags : ℕ) (answer : Result Notice (NoGrant × List ℕ)) → OutputsAt w b flags answer old new → IsRing new → StepIn (role_knowledge (Worker w) seen bytes) old new (knowledge_after old new (role_knowledge (Worker w) seen bytes))
  put-output old new b flags (Ok _) call is_ring = step-from (role_knowledge (Worker w) seen bytes) old new (λ x. Outputs x new w b) call.0 (λ s c fit. outputs-done s new b c is_ring fit)
  put-output old new b flags (Err e) call is_ring = put-refused old new (length b) e.0 call.0 is_ring

-- what was received is still within, with the bytes at one more position
pub within-more : (got all : Contents) (p : ℕ) (b : List ℕ) → IsWithin got all → get all p ≡ Some b → IsWithin (insert got p b) all
within-more got all p b old here q c is = elim (get-cases got p q b c is) [
  | inl now ↦ ap (get all) now.0 ∙ here ∙ ap Some now.1
  | inr before ↦ old q c before.1
]

module _ (seen : Book) (got : Contents) where
  event-done : (s : Ledger) (new : Ring) (p w k : ℕ) (b : List ℕ) → TakesEvent s.ring new p w k b → IsRing new → FitsLedger s (role_knowledge Consumer seen got) → Done s new (role_knowledge Consumer seen got)
  event-done s new p w k b call is_ring fit =
      let fewer : IsWithin new.contents s.ring.contents = λ q c is. left-out s.ring.contents p q c (ap (λ (m : Contents). get m q) (sym call.contents_are) ∙ is) in
      done s (record { ring = new; sent = s.sent }) (role_knowledge Consumer seen got) (insert got p b) (Take p ∷ [])
      (quiet s new (Take p ∷ []) call.logged.setup_same call.logged.history_is fit.sound is_ring Consumer (refl, tt) fewer) fit
      (ap (λ o. put_at p o got) call.bytes_are)
      (within-more got s.sent p b fit.bytes_fit (fit.sound.within p b call.bytes_are))

  skip-done : (s : Ledger) (new : Ring) (p n : ℕ) → Skips s.ring new p n → IsRing new → FitsLedger s (role_knowledge Consumer seen got) → Done s new (role_knowledge Consumer seen got)
  skip-done s new p n call is_ring fit =
      quiet-done s new Consumer seen got (Take p ∷ []) call.logged (same-contents s.ring.contents new.contents call.contents_same) (refl, tt) is_ring
      (ap (λ o. put_at p o got) (skipped-none s.ring p fit.sound.is_ring.stands call.discarded)) fit

  pub put-taken : (old new : Ring) (t : Taken) → Takes old new t → IsRing new → StepIn (role_knowledge Consumer seen got) old new (knowledge_after old new (role_knowledge Consumer seen got))
  put-taken old new (Event p w k b) call is_ring = step-from (role_knowledge Consumer seen got) old new (λ x. TakesEvent x new p w k b) call (λ s c fit. event-done s new p w k b c is_ring fit)
  put-taken old new (Skipped p n) call is_ring = step-from (role_knowledge Consumer seen got) old new (λ x. Skips x new p n) call (λ s c fit. skip-done s new p n c is_ring fit)
  put-taken old new BusyFront call is_ring = put-same Consumer seen got old new call.same is_ring
  put-taken old new Empty call is_ring = put-same Consumer seen got old new call.same is_ring
