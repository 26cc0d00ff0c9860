-- The seats that are split off a lock that was just opened.
use Rattle.std.proofs.Common.{◌≡◌, ℕ, zero, suc, ◌+◌, ◌-◌, ◌<◌, [], ◌∷◌, Some, None, refl, sym, ap, ◌∙◌, subst, arith}
use Rattle.std.specs.FinMap.{empty}
use Rattle.rb_history.specs.RoomRule.{Setup}
use Rattle.rb_chapter_ring.specs.Chapters.{empty_ring}
use Rattle.rb_chapter_ring.specs.ChapterRing.{ChapterRing}
use Rattle.rb_chapter_ring.specs.OpenedRing.{opened_ring}
use Rattle.rb_ledger.specs.Roles.{Book, book_of}
use Rattle.rb_ledger.specs.Roles.Role.{Consumer, Worker}
use Rattle.rb_ledger.specs.Seats.{IsBook, fresh_book}
use Rattle.rb_ledger.proofs.Seated.{ring-book}
use Rattle.rb_ledger.specs.ChapteredRing.{chaptered_ring, whole_of, IsChapteredRing}
use Rattle.rb_ledger.specs.ChapterLockSteps.{opening_role}
use Rattle.rb_chapter_ring.proofs.Chain.{handed-out-bind}
use Rattle.rb_ledger.proofs.ChapterSteps.{facts-make-ring}
use Rattle.rb_history.specs.Calls.{IsBusy}
use Rattle.rb_chapter_ring.specs.declared.out_record.OutRecord.{OutRecord}
use Rattle.rb_chapter_ring.specs.Hands.{in_hand, free_hands}
use Rattle.rb_chapter_ring.specs.HandRing.{HandRing, hand_ring}
use Rattle.rb_ledger.specs.HandKnowledge.{HandPassView, hand_view}
use Rattle.rb_ledger.specs.HandLockSteps.{OpensHandState, opening_hands, opening_worker_hands, first_hand_role, other_hand_roles}
use Rattle.rb_ledger.specs.NoStranger.{HoldsOwnBusy}
use Rattle.rb_shared_ring.specs.inner.HandPasses.{seen_with, room_with}
use Rattle.rb_shared_ring.specs.inner.LentState.{IsKeptRing}

-- a new ring is one with its first chapter, and its contents are empty
pub first-ring : (r : ChapterRing) (room : ℕ) (s : Setup) → r ≡ opened_ring room s → IsKeptRing r → IsChapteredRing (chaptered_ring [] r) × (r.contents ≡ empty)
first-ring r room s is kept =
    let opening : r.chapter.opening ≡ empty_ring r.chapter.opening.setup =
    ap (λ (x : ChapterRing). x.chapter.opening) is ∙ ap empty_ring (sym (ap (λ (x : ChapterRing). x.chapter.opening.setup) is)) in
    let b = kept.bounded in (
      facts-make-ring (chaptered_ring [] r) (handed-out-bind [] r.chapter (ap (λ (x : ChapterRing). x.chapter.number) is, opening, kept.legal)) kept.room b.chapter_room kept.stands
          (record { size = b.size; start = b.start; workers = b.workers; consumer = b.consumer; producer = b.producer; room = b.room }),
      ap (λ (x : ChapterRing). x.contents) is,
    )

-- what the pass of `open` knows when the consumer's seat is next
pub record NextConsumer (b : Book) (room workers : ℕ) (v : HandPassView) : Type 0 where
  pub first_is : first_hand_role v.knows ≡ opening_hands (opening_role Consumer (seen_with v) (room_with v)) ∷ []
  pub seen_is : seen_with v ≡ b
  pub room_is : room_with v ≡ room
  pub rest_is : hand_view (other_hand_roles v.knows) v.out ≡ hand_view (opening_worker_hands b room 0 workers) None

pub next-consumer : (r : HandRing) (room size start workers : ℕ) (w v : HandPassView) → r.ring ≡ opened_ring room (record { size = size; start = start; workers = workers }) → OpensHandState w r v → NextConsumer (fresh_book size start workers) room workers v
next-consumer r room size start workers w v is opens =
    let here : v ≡ hand_view (opening_hands (opening_role Consumer (fresh_book size start workers) room) ∷ opening_worker_hands (fresh_book size start workers) room 0 workers) None =
    subst (λ x. OpensHandState w (hand_ring x r.hands) v) is opens in
    subst (NextConsumer (fresh_book size start workers) room workers) (sym here) (record { first_is = refl; seen_is = refl; room_is = refl; rest_is = refl })

pub opened-book : (r : ChapterRing) (room size start workers : ℕ) → r ≡ opened_ring room (record { size = size; start = start; workers = workers }) → IsChapteredRing (chaptered_ring [] r) → IsBook (fresh_book size start workers)
opened-book r room size start workers is ring = subst (λ x. IsBook (book_of (whole_of (chaptered_ring [] x)))) is (ring-book (whole_of (chaptered_ring [] r)) ring.is_ring)

-- what it knows when the seat of worker i is next
pub record NextWorker (b : Book) (room i n : ℕ) (v : HandPassView) : Type 0 where
  pub first_is : first_hand_role v.knows ≡ opening_hands (opening_role (Worker i) (seen_with v) (room_with v)) ∷ []
  pub seen_is : seen_with v ≡ b
  pub room_is : room_with v ≡ room
  pub rest_is : hand_view (other_hand_roles v.knows) v.out ≡ hand_view (opening_worker_hands b room (i + 1) (n - (i + 1))) None

pub next-worker : (b : Book) (room i n : ℕ) (v : HandPassView) → i < n → v ≡ hand_view (opening_worker_hands b room i (n - i)) None → NextWorker b room i n v
next-worker b room i n v low is =
    let more : n - i ≡ suc (n - (i + 1)) = omega arith in
    let here : v ≡ hand_view (opening_hands (opening_role (Worker i) b room) ∷ opening_worker_hands b room (i + 1) (n - (i + 1))) None = is ∙ ap (λ k. hand_view (opening_worker_hands b room i k) None) more in
    subst (NextWorker b room i n) (sym here) (record { first_is = refl; seen_is = refl; room_is = refl; rest_is = refl })

-- free hands hold the busy records of a history without entries
free-holds : (w : ℕ) → HoldsOwnBusy free_hands w []
free-holds w = record {
  out_is_busy = λ g o at. absurd (none-there g o at);
  busy_is_out = λ p k n b. absurd (not-busy p k n b);
  each_once = λ f g x y a c same. absurd (none-there f x a);
}
  where
    none-there : (g : ℕ) (o : OutRecord) → in_hand free_hands g ≡ Some o → ⊥
    none-there zero o at = cc
    none-there (suc zero) o at = cc
    none-there (suc (suc zero)) o at = cc
    none-there (suc (suc (suc zero))) o at = cc
    none-there (suc (suc (suc (suc g)))) o at = cc

    not-busy : (p k n : ℕ) → IsBusy [] p w k n → ⊥
    not-busy p k n b = let none : b.granted_is.0 < 0 = b.granted_is.1 in absurd (omega arith)

pub free-holds-of : (w : ℕ) (b : Book) → b.history ≡ [] → HoldsOwnBusy free_hands w b.history
free-holds-of w b none = subst (HoldsOwnBusy free_hands w) (sym none) (free-holds w)
