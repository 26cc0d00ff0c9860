-- A legal history is one thread's run of the sequential ring, and the headline.
use Rattle.std.proofs.Common.{◌≡◌, ◌≢◌, ℕ, true, true≢false, List, [], ◌∷◌, ◌++◌, Some, None, is_some, nat_cmp, inl, inr, refl, sym, ap, ◌∙◌, subst, append_assoc, add-zero}
use Rattle.std.specs.List.{All}
use Rattle.std.proofs.lemmas.List.Elements.{All-weaker}
use Rattle.std.specs.FinMap.{get, get-empty}
use Rattle.rb_history.specs.declared.entries.Entry.{Entry}
use Rattle.rb_history.specs.declared.entries.Entry.TheVariants.{Res, Full, Sub, Dis, Take}
use Rattle.rb_history.specs.History.Status.{Busy, Waiting}
use Rattle.rb_history.specs.RoomRule.{Setup}
use Rattle.rb_history.specs.Legal.{IsLegal}
use Rattle.rb_history.specs.OneCall.{IsStepOf}
use Rattle.rb_history.specs.RingModel.{Ring, StandsFor, fresh}
use Rattle.rb_history.proofs.Laws.{legal-front}
use Rattle.rb_history.proofs.OneCall.{each-entry}
use Rattle.rb_ledger.specs.Roles.{Book, book_of}
use Rattle.rb_history.specs.WorkerCounts.{serials_of, numbers_below}
use Rattle.rb_ledger.specs.RoleKnowledge.{RoleKnowledge, states_out}
use Rattle.rb_ledger.specs.Ledger.{Ledger, IsRing}
use Rattle.rb_ledger.specs.LockRule.{AllFit}
use Rattle.rb_ledger.specs.Seats.{WorkerSeat}
use Rattle.rb_ledger.specs.Headline.{Accounts, IsRunFrom, IsOneRun, IsSequential, WheneverFree, OnceGathered}

no-bytes : (size start workers p : ℕ) → is_some (get (fresh size start workers).contents p) ≡ true → ⊥
no-bytes size start workers p is = true≢false (sym is ∙ ap (λ o. is_some o) (get-empty nat_cmp p))

fresh-stands : (size start workers : ℕ) → StandsFor (fresh size start workers)
fresh-stands size start workers = record {
  shown = refl;
  producer_is = sym (add-zero start);
  consumer_is = sym (add-zero start);
  contents = λ p. (λ is. absurd (no-bytes size start workers p is), λ w. let no_way : Busy ≡ Waiting = w in cc);
  sized = λ p bytes is. let none : None ≡ Some bytes = sym (get-empty nat_cmp p) ∙ is in absurd (cc);
}

-- a call preserves the ring's setup
step-setup : (old new : Ring) (e : Entry) → IsStepOf old new e → new.setup ≡ old.setup
step-setup old new (Res w k n p) s = s.1.logged.setup_same
step-setup old new (Full w n) s = s.1.logged.setup_same
step-setup old new (Sub p) s = s.1.1.logged.setup_same
step-setup old new (Dis p) s = s.1.1.logged.setup_same
step-setup old new (Take p) (inl s) = s.1.1.1.logged.setup_same
step-setup old new (Take p) (inr s) = s.1.logged.setup_same

run-from : (old : Ring) (es : List Entry) → StandsFor old → IsLegal old.setup (old.history ++ es) → IsRunFrom old es
run-from old [] stands l = tt
run-from old (e ∷ es) stands l =
    let cut : (old.history ++ e ∷ []) ++ es ≡ old.history ++ e ∷ es = append_assoc old.history (e ∷ []) es in
    let l' : IsLegal old.setup ((old.history ++ e ∷ []) ++ es) = subst (IsLegal old.setup) (sym cut) l in
    let one = each-entry old e stands (legal-front old.setup (old.history ++ e ∷ []) es l') in
    let new = one.0 in
    let next : IsLegal new.setup (new.history ++ es) = subst (λ s. IsLegal s (new.history ++ es)) (sym (step-setup old new e one.1.step)) (subst (λ h. IsLegal old.setup (h ++ es)) (sym one.1.history_is) l') in
    (new, one.1, run-from new es one.1.stands next)

-- a legal history is a run
pub one-run : (setup : Setup) (h : List Entry) → IsLegal setup h → IsOneRun setup h
one-run setup h l = run-from (fresh setup.size setup.start setup.workers) h (fresh-stands setup.size setup.start setup.workers) l

pub sequential : (r : Ring) → IsRing r → IsSequential r
sequential r i = record { legal = i.legal; one_run = one-run r.setup r.history i.legal; stands_for = i.stands }

some-fits : (l : Ledger) (ks : List RoleKnowledge) → ks ≢ [] → AllFit l ks → IsRing l.ring
some-fits l [] known fit = absurd (known refl)
some-fits l (k ∷ ks) known fit = fit.0.sound.is_ring

pub whenever-free : WheneverFree
whenever-free r views kept pass v at known =
    let same : r ≡ kept.ledger.ring = first r (states_out views) kept.ledger.ring kept.one_state in
    sequential r (subst IsRing (sym same) (some-fits kept.ledger v.knows known (kept.each_saw_a_beginning pass v at)))
  where
    first : (x : Ring) (xs : List Ring) (y : Ring) → x ∷ xs ≡ y ∷ [] → x ≡ y
    first x xs y e = cc

in-order : (b : Book) (ss : List WorkerSeat) → All (Accounts b) ss → All (λ s. serials_of s.worker b.history ≡ numbers_below s.tally.made) ss
in-order b ss each = All-weaker (Accounts b) (λ s. serials_of s.worker b.history ≡ numbers_below s.tally.made) (λ s a. a.in_order) ss each

pub once-gathered : OnceGathered
once-gathered r seats consumer c = record {
  sequential = sequential r c.is_ring;
  once_each_in_order = record { one_seat = c.each_once; in_order = in-order (book_of r) seats c.seats_tie };
  taken_is_submitted = c.got_is_sent;
  reservations_equal = c.balanced;
  any_number = c.is_ring.bounded.workers;
}
