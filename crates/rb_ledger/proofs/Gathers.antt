-- All seats and the consumer are gathered.
use Rattle.std.proofs.Common.{◌≡◌, ℕ, suc, ◌+◌, ◌<◌, ◌≤◌, ◌==◌, ◌||◌, Bool, true, false, true≢false, List, [], ◌∷◌, ◌++◌, Some, None, inl, inr, sym, refl, ap, ◌∙◌, subst, append_assoc, eqb-true, arith}
use Rattle.std.specs.List.{All, Any}
use Rattle.std.proofs.lemmas.List.Elements.{All-nil, All-cons, All-head, All-tail, All-push, All-pop}
use Rattle.std.specs.FinMap.{get}
use Rattle.std.proofs.lemmas.Bool.{and_parts, or_cases}
use Rattle.atomic_table.specs.Seated.{TableId}
use Rattle.rb_history.specs.RoomRule.{Setup}
use Rattle.rb_history.specs.RingModel.{Ring}
use Rattle.rb_history.proofs.Counting.{made-split}
use Rattle.rb_history.proofs.Lists.{sum_by-cons}
use Rattle.rb_history.proofs.Standing.{grant-stands}
use Rattle.rb_history.specs.declared.tally.Tally.{Tally}
use Rattle.rb_ledger.specs.Roles.{Role, book_of}
use Rattle.rb_history.specs.WorkerCounts.{is_record_of, numbers_below}
use Rattle.rb_ledger.specs.Roles.Role.{Consumer, Worker}
use Rattle.rb_ledger.specs.SentBytes.{IsAllSentBy}
use Rattle.rb_ledger.specs.RoleKnowledge.{RoleKnowledge, PassView, role_knowledge, pass_view, role_count}
use Rattle.rb_ledger.specs.Ledger.{Ledger, IsRing, FitsLedger}
use Rattle.rb_ledger.specs.LockRule.{AllFit}
use Rattle.rb_ledger.specs.LockSteps.{TakesState}
use Rattle.rb_ledger.specs.Seats.{WorkerSeat, ConsumerSeatValue, ConsumerTies, are_tagged, has_seat, HasAll, seats_of}
use Rattle.rb_ledger.specs.Headline.{Accounts, AreSent, IsClosed}
use Rattle.rb_ledger.specs.SeatRoles.{roles_of, HasOwnCounts}
use Rattle.rb_history.proofs.RecordWorkers.{bit, record-from}
use Rattle.rb_history.proofs.WorkerCounts.{submitted-granted}
use Rattle.rb_ledger.proofs.Seated.{ties-goes, taker-goes-on}
use Rattle.rb_history.proofs.Serials.{serials-ordered, worker-in}
use Rattle.rb_ledger.proofs.Sums.{eqb-sym, made-is}

-- ---- one seat after another

roles-snoc : (ss : List WorkerSeat) (s : WorkerSeat) → roles_of (ss ++ s ∷ []) ≡ roles_of ss ++ role_knowledge (Worker s.worker) s.seen s.sent ∷ []
roles-snoc [] s = refl
roles-snoc (x ∷ ss) s = ap (λ ks. role_knowledge (Worker x.worker) x.seen x.sent ∷ ks) (roles-snoc ss s)

pub gather-step : (items rest : List WorkerSeat) (s : WorkerSeat) (v after own : PassView) → items ≡ rest ++ s ∷ [] → own ≡ pass_view (role_knowledge (Worker s.worker) s.seen s.sent ∷ []) None → after ≡ pass_view (own.knows ++ v.knows) v.out
    → pass_view (roles_of rest ++ after.knows) after.out ≡ pass_view (roles_of items ++ v.knows) v.out
gather-step items rest s v after own cut is_own is_after =
    let k = role_knowledge (Worker s.worker) s.seen s.sent in
    ap (λ (y : PassView). pass_view (roles_of rest ++ y.knows) y.out) is_after
    ∙ ap (λ (y : PassView). pass_view (roles_of rest ++ (y.knows ++ v.knows)) v.out) is_own
    ∙ ap (λ ks. pass_view ks v.out) (sym (ap (λ l. l ++ v.knows) (roles-snoc rest s) ∙ append_assoc (roles_of rest) (k ∷ []) v.knows))
    ∙ ap (λ l. pass_view (roles_of l ++ v.knows) v.out) (sym cut)

pub rest-rings : (at : TableId) (items rest : List WorkerSeat) (s : WorkerSeat) → items ≡ rest ++ s ∷ [] → All (λ x. x.ring ≡ at) items → All (λ x. x.ring ≡ at) rest
rest-rings at items rest s cut all = (All-pop (λ (x : WorkerSeat). x.ring ≡ at) items rest (Some s) cut all).0

pub all-each : (P : WorkerSeat → Type 0) (items rest : List WorkerSeat) (s : WorkerSeat) → items ≡ rest ++ s ∷ [] → P s → All P rest → All P items
all-each P items rest s cut last all = subst (λ l. All P l) (sym cut) (All-push P rest s all last)

pub tagged-rings : (tag : ℕ) (ring at : TableId) (ss : List WorkerSeat) → ring ≡ at → are_tagged tag ss ≡ true → All (λ s. s.tag ≡ tag → s.ring ≡ ring) ss → All (λ s. s.ring ≡ at) ss
tagged-rings tag ring at [] same tagged given = All-nil _
tagged-rings tag ring at (s ∷ ss) same tagged given =
    let both = and_parts (s.tag == tag) (are_tagged tag ss) tagged in
    let P : WorkerSeat → Type 0 = λ x. x.tag ≡ tag → x.ring ≡ ring in
    All-cons (λ (x : WorkerSeat). x.ring ≡ at) s ss (All-head P s ss given (eqb-true s.tag tag both.0) ∙ same) (tagged-rings tag ring at ss same both.1 (All-tail P s ss given))

-- ---- each worker has one seat

seats-times : (w : ℕ) (ss : List WorkerSeat) (more : List RoleKnowledge) → seats_of w ss ≤ role_count (Worker w) (roles_of ss ++ more)
seats-times w [] more = omega arith
seats-times w (s ∷ ss) more =
    let e = seats-times w ss more in
    let f : bit (s.worker == w) ≡ bit (w == s.worker) = ap bit (eqb-sym s.worker w) in
    omega (arith, f, sum_by-cons (λ (x : WorkerSeat). bit (x.worker == w)) s ss)

has-first : (n : ℕ) (b c : Bool) → (c ≡ true → 1 ≤ n) → (b || c) ≡ true → 1 ≤ bit b + n
has-first n true c more has = omega arith
has-first n false c more has = let e = more has in omega arith

has-one : (w : ℕ) (ss : List WorkerSeat) → has_seat w ss ≡ true → 1 ≤ seats_of w ss
has-one w [] has = absurd (true≢false (sym has))
has-one w (s ∷ ss) has =
    let first = has-first (seats_of w ss) (s.worker == w) (has_seat w ss) (has-one w ss) has in
    omega (arith, sum_by-cons (λ (x : WorkerSeat). bit (x.worker == w)) s ss)

-- the seat of a worker that has one
some-seat : (P Q : WorkerSeat → Type 0) (w : ℕ) (ss : List WorkerSeat) → All P ss → has_seat w ss ≡ true → ((s : WorkerSeat) → P s → s.worker ≡ w → Q s) → Any Q ss
some-seat P Q w [] each has give = absurd (true≢false (sym has))
some-seat P Q w (s ∷ ss) each has give = elim (or_cases (s.worker == w) (has_seat w ss) has) [
  | inl here ↦ (0, s, omega arith, refl, give s (All-head P s ss each) (eqb-true s.worker w here))
  | inr there ↦ let x = some-seat P Q w ss (All-tail P s ss each) there give in (suc x.0, x.1, omega (arith, x.2), x.3, x.4)
]

-- ---- what agrees with all roles

module _ (l : Ledger) where
  abbrev FitAll : List RoleKnowledge → Type 0
  FitAll = AllFit l

  behind : (ss : List WorkerSeat) (more : List RoleKnowledge) → FitAll (roles_of ss ++ more) → FitAll more
  behind [] more fit = fit
  behind (s ∷ ss) more fit = behind ss more fit.1

  pub accounts : (ss : List WorkerSeat) (more : List RoleKnowledge) → IsRing l.ring → FitAll (roles_of ss ++ more) → All HasOwnCounts ss → All (Accounts (book_of l.ring)) ss
  accounts [] more is_ring fit tied = All-nil _
  accounts (s ∷ ss) more is_ring fit tied =
      let ties = ties-goes s.worker s.tally s.seen (book_of l.ring) fit.0.goes_on is_ring.legal (All-head HasOwnCounts s ss tied) in
      All-cons (Accounts (book_of l.ring)) s ss
      (record {
        goes_on = fit.0.goes_on;
        ties = ties;
        in_order = serials-ordered l.ring.setup s.worker l.ring.history is_ring.legal ∙ ap numbers_below (ap (λ (t : Tally). t.made) (sym ties.counted));
      })
      (accounts ss more is_ring fit.1 (All-tail HasOwnCounts s ss tied))

  -- each seat has sent what was sent of its records
  all-sent : (ss : List WorkerSeat) (more : List RoleKnowledge) → FitAll (roles_of ss ++ more) → All (λ s. IsAllSentBy s.worker l.ring.history l.sent s.sent) ss
  all-sent [] more fit = All-nil _
  all-sent (s ∷ ss) more fit = All-cons (λ (x : WorkerSeat). IsAllSentBy x.worker l.ring.history l.sent x.sent) s ss fit.0.bytes_fit (all-sent ss more fit.1)

  -- what was sent was sent by the seat of the record's worker
  sent-by : (ss : List WorkerSeat) (more : List RoleKnowledge) (k : RoleKnowledge) → FitsLedger l k → FitAll (roles_of ss ++ more) → HasAll l.ring.setup.workers ss → AreSent ss (book_of l.ring) l.sent
  sent-by ss more k sound fit has p bytes is =
      let h = l.ring.history in
      let legal = sound.sound.is_ring.legal in
      let g = grant-stands h p (submitted-granted l.ring.setup h p legal (sound.sound.submitted p bytes is)) in
      let w = g.0 in
      let mine : is_record_of w h p ≡ true = record-from h w g.1.0 g.1.1.0 p g.1.1.1 in
      some-seat (λ s. IsAllSentBy s.worker h l.sent s.sent) (λ s. (is_record_of s.worker h p ≡ true) × (get s.sent p ≡ Some bytes)) w ss (all-sent ss more fit) (has w (worker-in l.ring.setup w g.1.0 g.1.1.0 p h legal g.1.1.1))
      (λ s all same. let his : is_record_of s.worker h p ≡ true = subst (λ v. is_record_of v h p ≡ true) (sym same) mine in (his, all p bytes is his))

  pub closed : (ss : List WorkerSeat) (c : ConsumerSeatValue) → FitAll (roles_of ss ++ role_knowledge Consumer c.seen c.got ∷ []) → ((role : Role) → role_count role (roles_of ss ++ role_knowledge Consumer c.seen c.got ∷ []) ≤ 1)
      → All HasOwnCounts ss → ConsumerTies c.consumed c.skipped c.position c.seen → HasAll c.seen.setup.workers ss → IsClosed l.ring ss c
  closed ss c fit once tied taker has =
      let more = role_knowledge Consumer c.seen c.got ∷ [] in
      let mine = (behind ss more fit).0 in
      let is_ring = mine.sound.is_ring in
      let has_all : HasAll l.ring.setup.workers ss = subst (λ (x : Setup). HasAll x.workers ss) (sym mine.goes_on.setup_same) has in
      let each : (w : ℕ) → w < l.ring.setup.workers → seats_of w ss ≡ 1 = λ w low. let least = has-one w ss (has_all w low) in let most = once (Worker w) in omega (arith, seats-times w ss more) in
      let tie = accounts ss more is_ring fit tied in
      let sent = sent-by ss more (role_knowledge Consumer c.seen c.got) mine fit has_all in
      let all = made-is (book_of l.ring) is_ring.legal ss each tie in
      let parts = made-split l.ring.history in
      record {
        is_ring = is_ring;
        each_once = each;
        seats_tie = tie;
        consumer_goes_on = mine.goes_on;
        consumer_ties = taker-goes-on c.consumed c.skipped c.position c.seen (book_of l.ring) mine.goes_on is_ring.legal taker;
        got_is_sent = λ p bytes is. sent p bytes (mine.bytes_fit p bytes is);
        waiting_is_sent = λ p bytes is. sent p bytes (mine.sound.within p bytes is);
        balanced = omega arith;
      }

-- what follows from the state that the gathering pass took out
pub collected : (ss : List WorkerSeat) (c : ConsumerSeatValue) (own gathered after : PassView) (r : Ring) → own ≡ pass_view (role_knowledge Consumer c.seen c.got ∷ []) None → gathered ≡ pass_view (roles_of ss ++ own.knows) own.out → TakesState gathered r after
    → All HasOwnCounts ss → ConsumerTies c.consumed c.skipped c.position c.seen → HasAll c.seen.setup.workers ss → IsClosed r ss c
collected ss c own gathered after r is_own knows took tied taker has =
    let more = role_knowledge Consumer c.seen c.got ∷ [] in
    let all : gathered.knows ≡ roles_of ss ++ more = ap (λ (y : PassView). y.knows) knows ∙ ap (λ (y : PassView). roles_of ss ++ y.knows) is_own in
    let l = took.1.0 in
    let fit = subst (λ ks. AllFit l ks) all took.1.2 in
    let once : (role : Role) → role_count role (roles_of ss ++ more) ≤ 1 = λ role. subst (λ ks. role_count role ks ≤ 1) all (took.2 role) in
    subst (λ x. IsClosed x ss c) took.1.1 (closed l ss c fit once tied taker has)
