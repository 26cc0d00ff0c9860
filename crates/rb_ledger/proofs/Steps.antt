-- Each call of a role preserves the agreement of every role with the ledger.
use Rattle.std.proofs.Common.{◌≡◌, ◌≢◌, ℕ, ◌<◌, true, false, cond, List, ◌++◌, ◌⊎◌, Some, None, inl, inr, length, drop, refl, sym, ap, ◌∙◌, subst}
use Rattle.std.specs.Cmp.{nat_cmp_total}
use Rattle.std.specs.FinMap.{get, insert, remove, get-insert, get-remove}
use Rattle.std.proofs.lemmas.Bool.{true≢false, eq-eqb, cases_eq}
use Rattle.std.proofs.lemmas.List.Prefix.{front_rest}
use Rattle.rb_history.specs.declared.entries.Entry.{Entry}
use Rattle.rb_history.specs.History.{is_granted_at, is_submitted_at, is_submit}
use Rattle.rb_history.specs.RoomRule.{Setup}
use Rattle.rb_history.specs.Legal.{IsLegal}
use Rattle.rb_history.specs.RingModel.{Ring, Contents}
use Rattle.rb_history.proofs.Contents.{hit-yes, hit-no}
use Rattle.rb_ledger.specs.Roles.{Role, book_of}
use Rattle.rb_history.specs.WorkerCounts.{is_record_of}
use Rattle.rb_ledger.specs.Roles.Role.{Consumer, Worker}
use Rattle.rb_ledger.specs.SentBytes.{IsWithin, IsAllSentBy}
use Rattle.rb_ledger.specs.AddedBytes.{bytes_after}
use Rattle.rb_ledger.specs.RoleKnowledge.{RoleKnowledge, role_knowledge, same_role}
use Rattle.rb_ledger.specs.Ledger.{Ledger, IsRing, IsSoundLedger, IsRoleIn, BytesFit, FitsLedger}
use Rattle.rb_ledger.specs.LockSteps.{RoleStep, knowledge_after}
use Rattle.rb_history.proofs.RecordWorkers.{front-any, record-unique, record-stays}
use Rattle.rb_history.proofs.WorkerCounts.{submitted-granted}
use Rattle.rb_ledger.proofs.Histories.{AllOwn, others, all-seen, goes-further}

-- ---- maps

pub get-same : (m : Contents) (p : ℕ) (b : List ℕ) → get (insert m p b) p ≡ Some b
get-same m p b = get-insert nat_cmp_total m p b p ∙ ap (λ t. cond t (Some b) (get m p)) (hit-yes p p refl)

pub get-other : (m : Contents) (p q : ℕ) (b : List ℕ) → q ≢ p → get (insert m p b) q ≡ get m q
get-other m p q b apart = get-insert nat_cmp_total m p b q ∙ ap (λ t. cond t (Some b) (get m q)) (hit-no q p apart)

-- an element of a map after an insertion is the new one, or was in it before
pub get-cases : (m : Contents) (p q : ℕ) (b c : List ℕ) → get (insert m p b) q ≡ Some c → ((q ≡ p) × (b ≡ c)) ⊎ ((q ≢ p) × (get m q ≡ Some c))
get-cases m p q b c is = elim (cases_eq q p) [
  | inl same ↦
      let found : Some b ≡ Some c = sym (ap (get (insert m p b)) same ∙ get-same m p b) ∙ is in
      inl (same, cc)
  | inr apart ↦ inr (apart, sym (get-other m p q b apart) ∙ is)
]

pub left-out : (m : Contents) (p q : ℕ) (c : List ℕ) → get (remove m p) q ≡ Some c → get m q ≡ Some c
left-out m p q c is = elim (cases_eq q p) [
  | inl same ↦
      let none : None ≡ Some c = sym (get-remove nat_cmp_total m p q ∙ ap (λ t. cond t None (get m q)) (hit-yes q p same)) ∙ is in
      absurd (cc)
  | inr apart ↦ sym (get-remove nat_cmp_total m p q ∙ ap (λ t. cond t None (get m q)) (hit-no q p apart)) ∙ is
]

-- ---- from one ledger to the next, by entries of one role

pub record Carries (s t : Ledger) (mine : Role) (added : List Entry) : Type 0 where
  pub sound : IsSoundLedger t
  pub setup_same : t.ring.setup ≡ s.ring.setup
  pub history_is : t.ring.history ≡ s.ring.history ++ added
  pub own : AllOwn mine s.ring.history added
  pub within : IsWithin s.sent t.sent
  pub of_others : (v : ℕ) (bytes : Contents) → same_role mine (Worker v) ≡ false → IsAllSentBy v s.ring.history s.sent bytes → IsAllSentBy v t.ring.history t.sent bytes

role-in : (a b : Setup) (role : Role) → b ≡ a → IsRoleIn a role → IsRoleIn b role
role-in a b Consumer e is = tt
role-in a b (Worker w) e is = subst (λ (x : Setup). w < x.workers) (sym e) is

carried-bytes : (s t : Ledger) (mine role : Role) (added : List Entry) (bytes : Contents) → Carries s t mine added → same_role mine role ≡ false → BytesFit s role bytes → BytesFit t role bytes
carried-bytes s t mine Consumer added bytes c apart fit = λ p b is. c.within p b (fit p b is)
carried-bytes s t mine (Worker v) added bytes c apart fit = c.of_others v bytes apart fit

-- the other roles still agree
carried : (s t : Ledger) (mine : Role) (added : List Entry) → Carries s t mine added → (k : RoleKnowledge) → same_role mine k.role ≡ false → FitsLedger s k → FitsLedger t k
carried s t mine added c k apart fit =
    let legal : IsLegal s.ring.setup (s.ring.history ++ added) = subst (IsLegal s.ring.setup) c.history_is (subst (λ x. IsLegal x t.ring.history) c.setup_same c.sound.is_ring.legal) in
    record {
      sound = c.sound;
      is_role = role-in s.ring.setup t.ring.setup k.role c.setup_same fit.is_role;
      goes_on = goes-further k.role k.seen (book_of s.ring) (book_of t.ring) added fit.goes_on c.setup_same c.history_is (others s.ring.setup mine k.role s.ring.history added legal apart c.own);
      bytes_fit = carried-bytes s t mine k.role added k.bytes c apart fit.bytes_fit;
    }

-- what the call of `me` left, if the ledger was s
abbrev pub Done : Ledger → Ring → RoleKnowledge → Type 0
Done s new me =
    (t : Ledger) × (t.ring ≡ new) × FitsLedger t (knowledge_after s.ring new me) × ((k : RoleKnowledge) → same_role me.role k.role ≡ false → FitsLedger s k → FitsLedger t k)

pub done : (s t : Ledger) (me : RoleKnowledge) (bytes : Contents) (added : List Entry) → Carries s t me.role added → FitsLedger s me → bytes_after me.role s.ring t.ring added me.bytes ≡ bytes → BytesFit t me.role bytes → Done s t.ring me
done s t me bytes added c fit is bytes_fit =
    let cut : drop (length s.ring.history) t.ring.history ≡ added = front_rest t.ring.history s.ring.history added c.history_is in
    let after : knowledge_after s.ring t.ring me ≡ role_knowledge me.role (book_of t.ring) bytes = ap (λ b. role_knowledge me.role (book_of t.ring) b) (ap (λ es. bytes_after me.role s.ring t.ring es me.bytes) cut ∙ is) in (
      t,
      refl,
      subst (FitsLedger t) (sym after) (record {
        sound = c.sound;
        is_role = role-in s.ring.setup t.ring.setup me.role c.setup_same fit.is_role;
        goes_on = all-seen me.role (book_of t.ring);
        bytes_fit = bytes_fit;
      }),
      carried s t me.role added c,
    )

-- a step, from what holds between the ring that is out and the one that is put back
pub step-from : (me : RoleKnowledge) (r new : Ring) (Call : Ring → Type 0) → Call r → ((s : Ledger) → Call s.ring → FitsLedger s me → Done s new me) → RoleStep me r new (knowledge_after r new me)
step-from me r new Call call does s e fit =
    let d = does s (subst Call (sym e) call) fit in
    (d.0, d.1, subst (λ x. FitsLedger d.0 (knowledge_after x new me)) e d.2, d.3)

module _ (s : Ledger) (new : Ring) (added : List Entry) (setup_same : new.setup ≡ s.ring.setup) (history_is : new.history ≡ s.ring.history ++ added) (sound : IsSoundLedger s) (is_ring : IsRing new) where
  h : List Entry
  h = s.ring.history

  longer-legal : IsLegal s.ring.setup (s.ring.history ++ added)
  longer-legal = subst (IsLegal s.ring.setup) history_is (subst (λ x. IsLegal x new.history) setup_same is_ring.legal)

  still-submitted : (p : ℕ) → is_submitted_at s.ring.history p ≡ true → is_submitted_at new.history p ≡ true
  still-submitted p is = subst (λ x. is_submitted_at x p ≡ true) (sym history_is) (front-any (is_submit p) s.ring.history added is)

  -- a record that was submitted before was the worker's before
  was-record : (v p : ℕ) (b : List ℕ) → get s.sent p ≡ Some b → is_record_of v new.history p ≡ true → is_record_of v s.ring.history p ≡ true
  was-record v p b found his =
      let g : is_granted_at s.ring.history p ≡ true = submitted-granted s.ring.setup s.ring.history p sound.is_ring.legal (sound.submitted p b found) in
      sym (record-stays s.ring.setup v p s.ring.history added longer-legal g) ∙ subst (λ x. is_record_of v x p ≡ true) history_is his

  all-sent-still : (v : ℕ) (bytes : Contents) → IsAllSentBy v s.ring.history s.sent bytes → IsAllSentBy v new.history s.sent bytes
  all-sent-still v bytes all p b found his = all p b found (was-record v p b found his)

  -- nothing is submitted
  pub quiet : (mine : Role) → AllOwn mine s.ring.history added → IsWithin new.contents s.ring.contents → Carries s (record { ring = new; sent = s.sent }) mine added
  quiet mine own fewer = record {
    sound = record { is_ring = is_ring; within = λ p b is. sound.within p b (fewer p b is); submitted = λ p b is. still-submitted p (sound.submitted p b is) };
    setup_same = setup_same;
    history_is = history_is;
    own = own;
    within = λ p b is. is;
    of_others = λ v bytes apart all. all-sent-still v bytes all;
  }

  pub quiet-bytes : (role : Role) (bytes : Contents) → BytesFit s role bytes → BytesFit (record { ring = new; sent = s.sent }) role bytes
  quiet-bytes Consumer bytes fit = fit
  quiet-bytes (Worker v) bytes fit = all-sent-still v bytes fit

  -- worker w's record at p is submitted with the bytes b
  module _ (w p : ℕ) (b : List ℕ) (own : AllOwn (Worker w) s.ring.history added) (contents : new.contents ≡ insert s.ring.contents p b) (mine : is_record_of w new.history p ≡ true) (was_not : is_submitted_at s.ring.history p ≡ false) (is_now : is_submitted_at new.history p ≡ true) where
    other-place : (q : ℕ) (c : List ℕ) → get s.sent q ≡ Some c → q ≢ p
    other-place q c found same = true≢false (sym (sound.submitted q c found) ∙ ap (is_submitted_at s.ring.history) same ∙ was_not)

    kept-sent : IsWithin s.sent (insert s.sent p b)
    kept-sent q c found = get-other s.sent p q b (other-place q c found) ∙ found

    pub sends : Carries s (record { ring = new; sent = insert s.sent p b }) (Worker w) added
    sends = record {
      sound = record {
        is_ring = is_ring;
        within = λ q c is. elim (get-cases s.ring.contents p q b c (ap (λ (m : Contents). get m q) (sym contents) ∙ is)) [
          | inl here ↦ ap (get (insert s.sent p b)) here.0 ∙ get-same s.sent p b ∙ ap Some here.1
          | inr there ↦ kept-sent q c (sound.within q c there.1)
        ];
        submitted = λ q c is. elim (get-cases s.sent p q b c is) [
          | inl here ↦ ap (is_submitted_at new.history) here.0 ∙ is_now
          | inr there ↦ still-submitted q (sound.submitted q c there.1)
        ];
      };
      setup_same = setup_same;
      history_is = history_is;
      own = own;
      within = kept-sent;
      of_others = λ v bytes apart all q c is his. elim (get-cases s.sent p q b c is) [
        | inl here ↦
            let same : w ≡ v = record-unique new.setup w v p new.history is_ring.legal mine (ap (is_record_of v new.history) (sym here.0) ∙ his) in
            absurd (true≢false (sym (eq-eqb w v same) ∙ apart))
        | inr there ↦ all-sent-still v bytes all q c there.1 his
      ];
    }

    pub sends-bytes : (bytes : Contents) → IsAllSentBy w s.ring.history s.sent bytes → IsAllSentBy w new.history (insert s.sent p b) (insert bytes p b)
    sends-bytes bytes all q c is his = elim (get-cases s.sent p q b c is) [
      | inl here ↦ ap (get (insert bytes p b)) here.0 ∙ get-same bytes p b ∙ ap Some here.1
      | inr there ↦ get-other bytes p q b there.0 ∙ all-sent-still w bytes all q c there.1 his
    ]
