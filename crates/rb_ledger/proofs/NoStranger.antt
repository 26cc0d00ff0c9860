-- What a seat's hand shows is busy.
use Rattle.std.proofs.Common.{◌≡◌, ◌↔◌, ℕ, zero, suc, ◌==◌, false, true≢false, List, [], ◌∷◌, ◌++◌, Some, length, refl, sym, ap, ◌∙◌, subst, append_assoc, append-nil, inl, inr, arith}
use Rattle.std.specs.List.{Contains}
use Rattle.std.proofs.lemmas.Bool.{eq-eqb, ne_eqb}
use Rattle.std.proofs.lemmas.List.Elements.{Contains-push_cases}
use Rattle.rb_history.specs.declared.entries.Entry.{Entry}
use Rattle.rb_history.specs.declared.entries.Entry.TheVariants.{Res, Full, Sub, Dis, Take}
use Rattle.rb_history.specs.WorkerCounts.{is_record_of}
use Rattle.rb_history.specs.Calls.{IsBusy}
use Rattle.rb_chapter_ring.specs.Chapters.{Chapter}
use Rattle.rb_ledger.specs.Roles.{NoneOwn, is_own}
use Rattle.rb_ledger.specs.Roles.Role.{Worker}
use Rattle.rb_chapter_ring.specs.declared.out_record.OutRecord.{OutRecord}
use Rattle.rb_chapter_ring.specs.Hands.{out_record, HandBook, in_hand, hands_of, hand_at}
use Rattle.rb_chapter_ring.specs.HandRing.{HandRing, HasHands}
use Rattle.rb_chapter_ring.proofs.BusyEntries.{entry-worker, busy-before, busy-after, is-record}
use Rattle.rb_ledger.specs.HandKnowledge.{HandKnowledge, hand_ring_of, HandPassView, AllKnowHands}
use Rattle.rb_ledger.specs.LockRule.{HasBook, AllHaveBook, HasBookWhereOut}
use Rattle.rb_ledger.specs.HandLockSteps.{hand_knowledge_after, hands_known_by}
use Rattle.rb_ledger.specs.NoStranger.{IsOutAt, ShowsOut, NoStranger, TakenAsShown, StaysShown, OwnBusyIsSeen, HandsAreSeen, SeenHandsAreBusy}

-- ---- by the lock's rule

known-of : (room : ℕ) (handed_out : List Chapter) (book : HandBook) (ks : List HandKnowledge) (k : HandKnowledge) (w : ℕ) → AllKnowHands room handed_out book ks → Contains ks k → k.chapter.whole.role ≡ Worker w → k.hands ≡ hands_of book w
known-of room handed_out book [] k w all (i, l, is) role = absurd (omega arith)
known-of room handed_out book (x ∷ ks) k w all (zero, l, is) role = ap (λ (y : HandKnowledge). y.hands) (sym is) ∙ all.0.hands_are w (ap (λ (y : HandKnowledge). y.chapter.whole.role) is ∙ role)
known-of room handed_out book (x ∷ ks) k w all (suc i, l, is) role = known-of room handed_out book ks k w all.1 (i, omega arith, is) role

has-of : (book : HandBook) (vs : List HandRing) (v : HandRing) → AllHaveBook book vs → Contains vs v → HasBook book v
has-of book [] v all (i, l, is) = absurd (omega arith)
has-of book (x ∷ vs) v all (zero, l, is) = subst (HasBook book) is all.0
has-of book (x ∷ vs) v all (suc i, l, is) = has-of book vs v all.1 (i, omega arith, is)

-- a ring with this book has what a pass shows of it
out-at : (room : ℕ) (handed_out : List Chapter) (book : HandBook) (v : HandRing) (x : HandPassView) (w h : ℕ) (o : OutRecord) → v.hands ≡ book → HasHands v → AllKnowHands room handed_out book x.knows → ShowsOut x w h o → IsOutAt v w h o
out-at room handed_out book v x w h o same has known shows =
    let k = known-of room handed_out book x.knows shows.knowledge w known shows.among shows.role_is in
    let there : hand_at v.hands w h ≡ Some o = ap (λ b. hand_at b w h) same ∙ ap (λ hs. in_hand hs h) (sym k) ∙ shows.out_is in
    record { in_book = there; busy = has.holds.out_is_busy w h o there }

pub no-stranger : NoStranger
no-stranger queued views kept pass v at w h o shows =
    let mine = (kept.each_shows pass v at).known in
    let room = kept.chapters.room in
    let handed_out = kept.chapters.handed_out in
    record {
      in_queue = λ r is. let b = has-of kept.book queued r kept.queued_has is in out-at room handed_out kept.book r v w h o b.same b.has mine shows;
      with_pass = λ j u c e has.
          let b : HasBook kept.book (hand_ring_of c) = subst (HasBookWhereOut kept.book) has (kept.each_shows j u e).where_out in
          out-at room handed_out kept.book (hand_ring_of c) v w h o b.same b.has mine shows;
    }

pub taken-as-shown : TakenAsShown
taken-as-shown v w r took g h shows =
    let c = took.taken in
    let out = subst (λ x. IsOutAt x g.worker h (out_record g.pos g.serial (length g.bytes))) took.ring_is
    (out-at c.chaptered.ring.chapter.room c.chaptered.handed_out c.hands (hand_ring_of c) v g.worker h (out_record g.pos g.serial (length g.bytes)) refl took.has took.known shows) in
    (out.in_book, out.busy)

pub stays-shown : StaysShown
stays-shown me out new w put u h o role was same = record {
  knowledge = hand_knowledge_after out new me;
  among = subst (λ (x : HandPassView). Contains x.knows (hand_knowledge_after out new me)) (sym put) (0, omega arith, refl);
  role_is = role;
  out_is = ap (λ r. in_hand (hands_known_by r new.hands me.hands) h) role ∙ same ∙ was;
}

-- ---- by the history that a seat has seen

not-res : (p w k n q v j m : ℕ) → (v == w) ≡ false → Res w k n p ≡ Res v j m q → ⊥
not-res p w k n q v j m apart e = true≢false (sym (eq-eqb v w (sym (ap entry-worker e))) ∙ apart)

module _ (w : ℕ) where
  -- a record that is committed there is not the worker's
  mine : (h : List Entry) (p k n q : ℕ) → is_record_of w h q ≡ false → q ≡ p → Contains h (Res w k n p) → ⊥
  mine h p k n q apart same there = true≢false (sym (is-record h w k n p there) ∙ ap (is_record_of w h) (sym same) ∙ apart)

  was : (h : List Entry) (e : Entry) (p k n : ℕ) → (e ≡ Res w k n p → ⊥) → Contains (h ++ e ∷ []) (Res w k n p) → Contains h (Res w k n p)
  was h e p k n other there = elim (Contains-push_cases h e (Res w k n p) there) [
    | inl old ↦ old
    | inr new ↦ absurd (other new)
  ]

  one : (h : List Entry) (e : Entry) → is_own (Worker w) h e ≡ false → (p k n : ℕ) → IsBusy h p w k n ↔ IsBusy (h ++ e ∷ []) p w k n
  one h (Res v j m q) apart p k n = (busy-after h (Res v j m q) p w k n refl refl, busy-before h (Res v j m q) p w k n (not-res p w k n q v j m apart) refl refl)
  one h (Full v m) apart p k n = (busy-after h (Full v m) p w k n refl refl, busy-before h (Full v m) p w k n (λ e. cc) refl refl)
  one h (Take q) apart p k n = (busy-after h (Take q) p w k n refl refl, busy-before h (Take q) p w k n (λ e. cc) refl refl)
  one h (Sub q) apart p k n = (
    (λ b. busy-after h (Sub q) p w k n (ne_eqb q p (λ same. mine h p k n q apart same b.granted_is)) refl b),
    λ b. let there = was h (Sub q) p k n (λ e. cc) b.granted_is in busy-before h (Sub q) p w k n (λ e. cc) (ne_eqb q p (λ same. mine h p k n q apart same there)) refl b,
  )
  one h (Dis q) apart p k n = (
    (λ b. busy-after h (Dis q) p w k n refl (ne_eqb q p (λ same. mine h p k n q apart same b.granted_is)) b),
    λ b. let there = was h (Dis q) p k n (λ e. cc) b.granted_is in busy-before h (Dis q) p w k n (λ e. cc) refl (ne_eqb q p (λ same. mine h p k n q apart same there)) b,
  )

  rest : (h es : List Entry) → NoneOwn (Worker w) h es → (p k n : ℕ) → IsBusy h p w k n ↔ IsBusy (h ++ es) p w k n
  rest h [] none p k n = subst (λ x. IsBusy h p w k n ↔ IsBusy x p w k n) (sym (append-nil h)) ((λ b. b), λ b. b)
  rest h (e ∷ es) none p k n =
      let first = one h e none.0 p k n in
      let more = subst (λ x. IsBusy (h ++ e ∷ []) p w k n ↔ IsBusy x p w k n) (append_assoc h (e ∷ []) es) (rest (h ++ e ∷ []) es none.1 p k n) in
      ((λ b. more.0 (first.0 b)), λ b. first.1 (more.1 b))

pub own-busy-is-seen : OwnBusyIsSeen
own-busy-is-seen w seen b goes p k n = subst (λ x. IsBusy seen.history p w k n ↔ IsBusy x p w k n) (sym goes.history_is) (rest w seen.history goes.behind goes.none_own p k n)

pub hands-are-seen : HandsAreSeen
hands-are-seen w seen b book goes is = record {
  out_is_busy = λ g o at. (own-busy-is-seen w seen b goes o.pos o.serial o.len).1 (is.out_is_busy w g o at);
  busy_is_out = λ p k n busy. is.busy_is_out p w k n ((own-busy-is-seen w seen b goes p k n).0 busy);
  each_once = λ f g x y a c same. (is.each_once w w f g x y a c same).1;
}

pub seen-hands-are-busy : SeenHandsAreBusy
seen-hands-are-busy w seen b hands goes own = record {
  out_is_busy = λ g o at. (own-busy-is-seen w seen b goes o.pos o.serial o.len).0 (own.out_is_busy g o at);
  busy_is_out = λ p k n busy. own.busy_is_out p k n ((own-busy-is-seen w seen b goes p k n).1 busy);
  each_once = own.each_once;
}
