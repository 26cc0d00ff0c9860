-- The first state is put in, and each later one is put back.
use Rattle.std.proofs.Common.{◌≡◌, ℕ, zero, suc, ◌+◌, ◌-◌, ◌<◌, ◌≤◌, nat_cmp, List, [], ◌∷◌, ◌++◌, Some, None, sym, refl, ap, ◌∙◌, subst, append_assoc, arith}
use Rattle.std.specs.FinMap.{get, empty, get-empty}
use Rattle.crossbeam_queue.specs.Fifo.{Pushes, Learns}
use Rattle.atomic_table.specs.Seated.{TableId}
use Rattle.rb_history.specs.RingModel.{Ring, Contents}
use Rattle.rb_ledger.specs.Roles.{Role, Book, book_of}
use Rattle.rb_ledger.specs.Roles.Role.{Consumer, Worker}
use Rattle.rb_ledger.specs.SentBytes.{IsWithin}
use Rattle.rb_ledger.specs.RoleKnowledge.{RoleKnowledge, PassView, role_knowledge, pass_view, role_count}
use Rattle.rb_ledger.specs.Ledger.{IsRoleIn, BytesFit, Ledger, IsRing, FitsLedger}
use Rattle.rb_ledger.specs.LockRule.{AllFit, KeepsLockRule}
use Rattle.rb_ledger.specs.inner.OpenedLock.{OpensState, unopened_ring, worker_roles}
use Rattle.rb_ledger.specs.Seats.{WorkerSeat, fresh_seat, fresh_seats}
use Rattle.rb_ledger.proofs.LockRule.{away, opens}
use Rattle.rb_ledger.proofs.Histories.{all-seen}

nothing : (all : Contents) → IsWithin empty all
nothing all p bytes is = let none : None ≡ Some bytes = sym (get-empty nat_cmp p) ∙ is in absurd (cc)

nobody : (s : Ledger) → s.ring ≡ unopened_ring → (k : RoleKnowledge) → FitsLedger s k → ⊥
nobody s e k fit = let size = fit.sound.is_ring.bounded.size.1 in let none = ap (λ (r : Ring). r.setup.size) e in omega arith

module _ (r : Ring) (is_ring : IsRing r) (none : r.contents ≡ empty) where
  first : Ledger
  first = record { ring = r; sent = empty }

  bytes-fit : (role : Role) → BytesFit (record { ring = r; sent = empty }) role empty
  bytes-fit Consumer = nothing empty
  bytes-fit (Worker w) = λ p bytes is his. is

  first-fits : (role : Role) → IsRoleIn r.setup role → FitsLedger (record { ring = r; sent = empty }) (role_knowledge role (book_of r) empty)
  first-fits role is_role = record {
    sound = record {
      is_ring = is_ring;
      within = λ p bytes is. nothing empty p bytes (ap (λ (m : Contents). get m p) (sym none) ∙ is);
      submitted = λ p bytes is. let no_bytes : None ≡ Some bytes = sym (get-empty nat_cmp p) ∙ is in absurd (cc);
    };
    is_role = is_role;
    goes_on = all-seen role (book_of r);
    bytes_fit = bytes-fit role;
  }

  crew-fits : (from n : ℕ) → from + n ≤ r.setup.workers → AllFit (record { ring = r; sent = empty }) (worker_roles (book_of r) from n)
  crew-fits from zero short = tt
  crew-fits from (suc n) short = (first-fits (Worker from) (omega arith), crew-fits (from + 1) n (omega arith))

crew-workers : (b : Book) (w from n : ℕ) → (role_count (Worker w) (worker_roles b from n) ≤ 1) × (w < from → role_count (Worker w) (worker_roles b from n) ≡ 0)
crew-workers b w from zero = (omega arith, λ _. refl)
crew-workers b w from (suc n) = let more = crew-workers b w (from + 1) n in (grind arith, grind arith)

crew-consumer : (b : Book) (from n : ℕ) → role_count Consumer (worker_roles b from n) ≡ 0
crew-consumer b from zero = refl
crew-consumer b from (suc n) = let e = crew-consumer b (from + 1) n in omega arith

once : (b : Book) (n : ℕ) (role : Role) → role_count role (role_knowledge Consumer b empty ∷ worker_roles b 0 n) ≤ 1
once b n Consumer = let e = crew-consumer b 0 n in omega arith
once b n (Worker w) = let e = (crew-workers b w 0 n).0 in omega arith

pub open-step : (n pass : ℕ) (v : PassView) (r : Ring) → v ≡ pass_view [] (Some unopened_ring) → IsRing r → r.contents ≡ empty → Pushes KeepsLockRule n pass v r (OpensState v r) × Learns KeepsLockRule pass v (λ items. items ≡ [])
open-step n pass v r e is_ring none =
    let ks = role_knowledge Consumer (book_of r) empty ∷ worker_roles (book_of r) 0 r.setup.workers in
    let one = opens n pass unopened_ring r (record { ring = r; sent = empty }) ks nobody refl (first-fits r is_ring none Consumer tt, crew-fits r is_ring none 0 r.setup.workers (omega arith)) (once (book_of r) r.setup.workers) in
    let P : PassView → Type 0 = λ y. Pushes KeepsLockRule n pass y r (OpensState y r) in
    (subst P (sym e) one, away pass v unopened_ring (ap (λ (y : PassView). y.out) e))

-- ---- the seats that are split off

seats-step : (tag : ℕ) (ring : TableId) (room : ℕ) (b : Book) (i n : ℕ) → i < n → fresh_seats tag ring room b i (n - i) ≡ fresh_seat tag ring room i b ∷ fresh_seats tag ring room b (i + 1) (n - (i + 1))
seats-step tag ring room b i n h = let e : n - i ≡ suc (n - (i + 1)) = omega arith in ap (fresh_seats tag ring room b i) e

-- one more seat
pub seats-more : (tag : ℕ) (ring ring' : TableId) (room : ℕ) (b : Book) (i n : ℕ) (items more : List WorkerSeat) (s : WorkerSeat) (all : List WorkerSeat) → i < n → ring' ≡ ring → s ≡ fresh_seat tag ring room i b → more ≡ items ++ s ∷ []
    → items ++ fresh_seats tag ring room b i (n - i) ≡ all → more ++ fresh_seats tag ring' room b (i + 1) (n - (i + 1)) ≡ all
seats-more tag ring ring' room b i n items more s all h same is e before =
    ap (λ m. m ++ fresh_seats tag ring' room b (i + 1) (n - (i + 1))) e
    ∙ append_assoc items (s ∷ []) (fresh_seats tag ring' room b (i + 1) (n - (i + 1)))
    ∙ ap (λ (y : WorkerSeat × TableId). items ++ y.0 ∷ fresh_seats tag y.1 room b (i + 1) (n - (i + 1))) (λ k. (is k, same k))
    ∙ ap (λ ss. items ++ ss) (sym (seats-step tag ring room b i n h))
    ∙ before
