-- Histories that continue what was seen.
use Rattle.std.proofs.Common.{◌≡◌, ℕ, ◌==◌, true, false, List, [], ◌∷◌, ◌++◌, refl, sym, ap, ◌∙◌, subst, append_assoc, append-nil}
use Rattle.std.proofs.lemmas.Bool.{true≢false, eqb-true, eq-eqb, false_from_ne_true}
use Rattle.rb_history.specs.declared.entries.Entry.{Entry}
use Rattle.rb_history.specs.declared.entries.Entry.TheVariants.{Res, Full, Sub, Dis, Take}
use Rattle.rb_history.specs.RoomRule.{Setup}
use Rattle.rb_history.specs.Legal.{IsLegal}
use Rattle.rb_history.proofs.Laws.{legal-front}
use Rattle.rb_ledger.specs.Roles.{Role, is_own, NoneOwn, Book, ExtendsSeen}
use Rattle.rb_history.specs.WorkerCounts.{is_record_of}
use Rattle.rb_ledger.specs.Roles.Role.{Consumer, Worker}
use Rattle.rb_ledger.specs.RoleKnowledge.{same_role}
use Rattle.rb_history.proofs.RecordWorkers.{record-unique}

-- all of the entries that follow `before` are the role's own
abbrev pub AllOwn : Role → List Entry → List Entry → Type 0
AllOwn role before [] = Unit {0}
AllOwn role before (e ∷ es) = (is_own role before e ≡ true) × AllOwn role (before ++ e ∷ []) es

pub none-append : (role : Role) (before xs ys : List Entry) → NoneOwn role before xs → NoneOwn role (before ++ xs) ys → NoneOwn role before (xs ++ ys)
none-append role before [] ys a b = subst (λ h. NoneOwn role h ys) (append-nil before) b
none-append role before (x ∷ xs) ys a b = (a.0, none-append role (before ++ x ∷ []) xs ys a.1 (subst (λ h. NoneOwn role h ys) (sym (append_assoc before (x ∷ []) xs)) b))

other-worker : (a b v : ℕ) → (a == b) ≡ false → (v == a) ≡ true → (v == b) ≡ false
other-worker a b v apart is = ap (λ x. x == b) (eqb-true v a is) ∙ apart

module _ (r : Setup) where
  -- an entry that is one role's own is not another's
  own-apart : (mine role : Role) (h : List Entry) (e : Entry) → IsLegal r h → same_role mine role ≡ false → is_own mine h e ≡ true → is_own role h e ≡ false
  own-apart Consumer Consumer h e l apart is = absurd (true≢false apart)
  own-apart Consumer (Worker b) h (Take p) l apart is = refl
  own-apart Consumer (Worker b) h (Res v k n p) l apart is = absurd (true≢false (sym is))
  own-apart Consumer (Worker b) h (Full v n) l apart is = absurd (true≢false (sym is))
  own-apart Consumer (Worker b) h (Sub p) l apart is = absurd (true≢false (sym is))
  own-apart Consumer (Worker b) h (Dis p) l apart is = absurd (true≢false (sym is))
  own-apart (Worker a) Consumer h (Take p) l apart is = absurd (true≢false (sym is))
  own-apart (Worker a) Consumer h (Res v k n p) l apart is = refl
  own-apart (Worker a) Consumer h (Full v n) l apart is = refl
  own-apart (Worker a) Consumer h (Sub p) l apart is = refl
  own-apart (Worker a) Consumer h (Dis p) l apart is = refl
  own-apart (Worker a) (Worker b) h (Take p) l apart is = refl
  own-apart (Worker a) (Worker b) h (Res v k n p) l apart is = other-worker a b v apart is
  own-apart (Worker a) (Worker b) h (Full v n) l apart is = other-worker a b v apart is
  own-apart (Worker a) (Worker b) h (Sub p) l apart is = false_from_ne_true (is_record_of b h p) (λ his. true≢false (sym (eq-eqb a b (record-unique r a b p h l is his)) ∙ apart))
  own-apart (Worker a) (Worker b) h (Dis p) l apart is = false_from_ne_true (is_record_of b h p) (λ his. true≢false (sym (eq-eqb a b (record-unique r a b p h l is his)) ∙ apart))

  pub others : (mine role : Role) (h es : List Entry) → IsLegal r (h ++ es) → same_role mine role ≡ false → AllOwn mine h es → NoneOwn role h es
  others mine role h [] l apart own = tt
  others mine role h (e ∷ es) l apart own =
      let l' : IsLegal r ((h ++ e ∷ []) ++ es) = subst (IsLegal r) (sym (append_assoc h (e ∷ []) es)) l in
      (own-apart mine role h e (legal-front r h (e ∷ es) l) apart own.0, others mine role (h ++ e ∷ []) es l' apart own.1)

-- a role has seen everything
pub all-seen : (role : Role) (b : Book) → ExtendsSeen role b b
all-seen role b = record { setup_same = refl; behind = []; history_is = sym (append-nil b.history); none_own = tt }

-- a book that continues for a role continues with entries that are not its own
pub goes-further : (role : Role) (seen b new : Book) (added : List Entry) → ExtendsSeen role seen b → new.setup ≡ b.setup → new.history ≡ b.history ++ added → NoneOwn role b.history added → ExtendsSeen role seen new
goes-further role seen b new added goes setup history none = record {
  setup_same = setup ∙ goes.setup_same;
  behind = goes.behind ++ added;
  history_is = history ∙ ap (λ h. h ++ added) goes.history_is ∙ append_assoc seen.history goes.behind added;
  none_own = none-append role seen.history goes.behind added goes.none_own (subst (λ h. NoneOwn role h added) goes.history_is none);
}
