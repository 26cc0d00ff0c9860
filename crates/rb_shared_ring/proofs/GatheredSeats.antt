-- All seats and the consumer are gathered.
use Rattle.std.proofs.Common.{◌≡◌, ℕ, List, [], ◌∷◌, ◌++◌, None, length, refl, ap, ◌∙◌, subst}
use Rattle.rb_chapter_ring.specs.Chapters.{Chapter}
use Rattle.rb_chapter_ring.specs.Hands.{HandBook}
use Rattle.rb_ledger.specs.Roles.{Book}
use Rattle.rb_ledger.specs.Roles.Role.{Worker}
use Rattle.rb_ledger.specs.RoleKnowledge.{RoleKnowledge, PassView, role_knowledge, pass_view}
use Rattle.rb_ledger.specs.Seats.{WorkerSeat}
use Rattle.rb_ledger.specs.SeatRoles.{roles_of}
use Rattle.rb_ledger.proofs.Gathers.{all-each, gather-step}
use Rattle.rb_ledger.specs.ChapterKnowledge.{ChapterKnowledge, chapter_view, whole_knowledge}
use Rattle.rb_ledger.specs.HandKnowledge.{HandPassView, hand_view, without_hands, chapters_known, chapters_out, AllKnowHands}
use Rattle.rb_ledger.specs.HandedOut.{IsCutOf, KnewHandedOut}
use Rattle.rb_shared_ring.specs.inner.SeatPasses.{known_as}
use Rattle.rb_shared_ring.specs.inner.HandPasses.{seen_with, bytes_with, cut_by, known_with}

-- the pass has the roles of the seats that were moved into it, before those that it had initially; with the roles of
-- the remaining seats they are all roles
abbrev pub HasGathered : List WorkerSeat → HandPassView → HandPassView → List RoleKnowledge → Type 0
HasGathered items v first all =
    (ks : List ChapterKnowledge) × (without_hands v ≡ chapter_view (ks ++ (without_hands first).knows) (without_hands first).out) × (roles_of items ++ whole_knowledge ks ≡ all)

pub gather-more : (items rest : List WorkerSeat) (s : WorkerSeat) (v own after first : HandPassView) (all : List RoleKnowledge) → items ≡ rest ++ s ∷ [] → own ≡ hand_view (known_with (Worker s.worker) own ∷ []) None
    → seen_with own ≡ s.seen → bytes_with own ≡ s.sent → after ≡ hand_view (own.knows ++ v.knows) v.out → HasGathered items v first all → HasGathered rest after first all
gather-more items rest s v own after first all cut is_own seen bytes is_after old =
    let ks = old.0 in
    let k = known_as (Worker s.worker) (without_hands own) in
    let whole = pass_view (whole_knowledge old.0) None in
    let one = pass_view (role_knowledge (Worker s.worker) s.seen s.sent ∷ []) None in
    let step = gather-step items rest s whole (pass_view (one.knows ++ whole.knows) None) one cut refl refl in
    let chapters : without_hands after ≡ chapter_view (k ∷ (without_hands v).knows) (without_hands v).out =
    ap without_hands is_after ∙ ap (λ (x : HandPassView). chapter_view (chapters_known (x.knows ++ v.knows)) (chapters_out v.out)) is_own in (
      k ∷ ks,
      chapters ∙ (λ i. chapter_view (k ∷ (old.1 i).knows) (old.1 i).out),
      (λ i. roles_of rest ++ role_knowledge (Worker s.worker) (seen i) (bytes i) ∷ whole_knowledge ks) ∙ ap (λ (y : PassView). y.knows) step ∙ old.2,
    )

-- if the entries that the remaining seats knew to be handed out had been, so had those of the seats in the pass, by
-- what all roles of the pass know
abbrev pub HasKnown : List WorkerSeat → HandPassView → List WorkerSeat → Type 0
HasKnown items v all = (room : ℕ) (handed_out : List Chapter) (book : HandBook) → AllKnowHands room handed_out book v.knows → KnewHandedOut handed_out items → KnewHandedOut handed_out all

pub knew-more : (items rest : List WorkerSeat) (s : WorkerSeat) (v own after : HandPassView) (all : List WorkerSeat) → items ≡ rest ++ s ∷ [] → own ≡ hand_view (known_with (Worker s.worker) own ∷ []) None
    → seen_with own ≡ s.seen → cut_by own ≡ s.cut → after ≡ hand_view (own.knows ++ v.knows) v.out → HasKnown items v all → HasKnown rest after all
knew-more items rest s v own after all split is_own seen cut is_after old room handed_out book known rest_knew =
    let knows : after.knows ≡ known_with (Worker s.worker) own ∷ v.knows = ap (λ (x : HandPassView). x.knows) is_after ∙ ap (λ (x : HandPassView). x.knows ++ v.knows) is_own in
    let each = subst (AllKnowHands room handed_out book) knows known in
    let mine : IsCutOf handed_out s.cut (length s.seen.history) = subst (λ (b : Book). IsCutOf handed_out s.cut (length b.history)) seen (subst (λ n. IsCutOf handed_out n (length (seen_with own).history)) cut each.0.cut_is) in
    old room handed_out book each.1 (all-each (λ x. IsCutOf handed_out x.cut (length x.seen.history)) items rest s split mine rest_knew)
