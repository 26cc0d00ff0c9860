-- Each step at the lock preserves the rule with hands.
use Rattle.std.specs.Prelude.{◌==◌, if◌then◌else◌}
use Rattle.std.proofs.Common.{◌≡◌, ◌≢◌, ℕ, zero, suc, ◌+◌, ◌<◌, ◌≤◌, Bool, true, false, true≢false, cond, List, [], ◌∷◌, ◌++◌, set, map, length, Option, Some, None, inl, inr, sym, refl, ap, ◌∙◌, subst, ⊎_elim, append_assoc, append-nil, length-append, arith}
use Rattle.std.proofs.lemmas.List.{map-set, map-append, length-map, get_or-replicate}
use Rattle.std.proofs.lemmas.Grind.{flat_map-append}
use Rattle.std.proofs.lemmas.Bool.{eq-eqb}
use mathlib.Core.Option.{some, some-injective, some-ne-none}
use lib.ListN.{get_elem?}
use Rattle.std.specs.FinMap.{empty}
use Rattle.crossbeam_queue.specs.Fifo.{Pushes, Pops, Forks, Merges, Learns}
use Rattle.crossbeam_queue.proofs.Lists.{at_set, at_snoc}
use Rattle.rb_history.specs.RingModel.{Ring}
use Rattle.rb_chapter_ring.specs.Chapters.{Chapter, joined, empty_ring}
use Rattle.rb_chapter_ring.specs.ChapterRing.{ChapterRing, IsGranted, whole_ring}
use Rattle.rb_ledger.specs.Roles.{Role, Book, book_of}
use Rattle.rb_ledger.specs.Roles.Role.{Consumer, Worker}
use Rattle.rb_ledger.specs.RoleKnowledge.{RoleKnowledge, PassView, pass_view, same_role, role_count, total, states_out, state_list}
use Rattle.rb_ledger.specs.Ledger.{Ledger, IsRing, FitsLedger}
use Rattle.rb_ledger.specs.LockRule.{AllFit, KeepsChapterLockRule, GoesOnFrom, HasBook, AllHaveBook, HasBookWhereOut, ShowsHands, KeepsHandLockRule}
use Rattle.rb_ledger.specs.inner.OpenedLock.{unopened_ring}
use Rattle.rb_ledger.proofs.Views.{total_two, outs_take, single, same_role-refl}
use Rattle.rb_ledger.specs.ChapteredRing.{ChapteredRing, chaptered_ring, whole_of, HasChapters}
use Rattle.rb_ledger.specs.ChapterKnowledge.{ChapterPassView, chapter_view, whole_out, whole_knowledge, whole_view}
use Rattle.rb_ledger.specs.ChapterLockSteps.{TakesChapterState, MayPutChapter, handed_out_after, chaptered_after, opening_role, opening_workers, first_chapter_role, other_chapter_roles}
use Rattle.rb_ledger.proofs.ChapterLock as old
use Rattle.rb_chapter_ring.specs.declared.out_record.OutRecord.{OutRecord}
use Rattle.rb_chapter_ring.specs.Hands.{Hands, HandBook, free_hands, free_book, hands_of, hand_at}
use Rattle.rb_chapter_ring.specs.HandRing.{HandRing, HasHands}
use Rattle.rb_chapter_ring.proofs.ChangedHands.{other-hands}
use Rattle.rb_ledger.specs.HandKnowledge.{ChapteredHandRing, hand_ring_of, HandKnowledge, HandPassView, hand_view, chapters_out, chapters_known, without_hands, rings_of, KnowsHands, AllKnowHands}
use Rattle.rb_ledger.specs.HandedOut.{IsCutOf}
use Rattle.rb_ledger.proofs.HandedOut.{cut-behind, cut-now-is}
use Rattle.rb_ledger.specs.HandLockSteps.{TakesHandState, hands_known_by, hand_knowledge_after, MayPutHands, PutsHandState, LeavesOtherHands, unopened_hands, opening_hands, opening_worker_hands, opening_hand_roles, OpensHandState, first_hand_role, other_hand_roles}
use Rattle.rb_ledger.specs.HandLockLaws.{OneHandLeavesOthers}

-- ---- lists of views

abbrev Everyone : (HandPassView → Type 0) → List HandPassView → Type 0
Everyone P views = (pass : ℕ) (v : HandPassView) → get_elem? views pass ≡ some v → P v

everyone-set : (P : HandPassView → Type 0) (views : List HandPassView) (pass : ℕ) (w : HandPassView) → P w → ((j : ℕ) (u : HandPassView) → j ≢ pass → get_elem? views j ≡ some u → P u) → Everyone P (set views pass w)
everyone-set P views pass w mine theirs j u e = ⊎_elim (λ (x : (j ≡ pass) × (w ≡ u)). subst P x.1 mine) (λ (x : (j ≢ pass) × (get_elem? views j ≡ some u)). theirs j u x.0 x.1) (at_set views pass j w u e)

pub get-map : (views : List HandPassView) (pass : ℕ) (v : HandPassView) → get_elem? views pass ≡ some v → get_elem? (map without_hands views) pass ≡ some (without_hands v)
get-map [] pass v at = absurd (some-ne-none v (sym at))
get-map (x ∷ xs) zero v at = ap (λ y. some (without_hands y)) (some-injective x v at)
get-map (x ∷ xs) (suc n) v at = get-map xs n v at

map-nil : (xs : List HandRing) → rings_of xs ≡ [] → xs ≡ []
map-nil [] e = refl
map-nil (x ∷ xs) e = absurd (cc)

-- the rule without hands, for views of which one was replaced
set-chapters : (room : ℕ) (handed_out : List Chapter) (items : List ChapterRing) (views : List HandPassView) (pass : ℕ) (w : HandPassView) (x : ChapterPassView) → x ≡ without_hands w
    → old.KeepsRuleOf room handed_out items (set (map without_hands views) pass x) → old.KeepsRuleOf room handed_out items (map without_hands (set views pass w))
set-chapters room handed_out items views pass w x is kept = subst (old.KeepsRuleOf room handed_out items) (ap (λ y. set (map without_hands views) pass y) is ∙ sym (map-set without_hands views pass w)) kept

-- the rule with hands, if the rule without them holds for this ring
with-book : (room : ℕ) (handed_out : List Chapter) (book : HandBook) (items : List HandRing) (views : List HandPassView) → old.KeepsRuleOf room handed_out (rings_of items) (map without_hands views) → AllHaveBook book items
    → Everyone (ShowsHands room handed_out book) views → KeepsHandLockRule items views
with-book room handed_out book items views kept has shows = record {
  book = book;
  chapters = kept.rule;
  queued_has = has;
  each_shows = subst (λ r. Everyone (ShowsHands r kept.rule.handed_out book) views) (sym kept.room_is)
      (subst (λ hs. Everyone (ShowsHands room hs book) views) (sym kept.handed_out_is) shows);
}

-- ---- what passes show

module _ (room : ℕ) (handed_out : List Chapter) (book : HandBook) where
  known-append : (xs ys : List HandKnowledge) → AllKnowHands room handed_out book xs → AllKnowHands room handed_out book ys → AllKnowHands room handed_out book (xs ++ ys)
  known-append [] ys a b = b
  known-append (x ∷ xs) ys a b = (a.0, known-append xs ys a.1 b)

  known-first : (ks : List HandKnowledge) → AllKnowHands room handed_out book ks → AllKnowHands room handed_out book (first_hand_role ks)
  known-first [] a = tt
  known-first (k ∷ ks) a = (a.0, tt)

  known-rest : (ks : List HandKnowledge) → AllKnowHands room handed_out book ks → AllKnowHands room handed_out book (other_hand_roles ks)
  known-rest [] a = tt
  known-rest (k ∷ ks) a = a.1

apart : (b : Bool) (n : ℕ) → cond b 1 0 + n ≡ 0 → (b ≡ false) × (n ≡ 0)
apart true n e = absurd (omega arith)
apart false n e = (refl, omega arith)

-- what a role has seen is no longer than the history
seen-within : (l : Ledger) (k : RoleKnowledge) → FitsLedger l k → length k.seen.history ≤ length l.ring.history
seen-within l k fit =
    let is = ap length fit.goes_on.history_is in
    let sums = length-append k.seen.history fit.goes_on.behind in
    omega arith

-- what was known of these chapters to be handed out, from at most this many entries, remains known
abbrev StaysCut : List Chapter → List Chapter → ℕ → Type 0
StaysCut old new long = (cut seen : ℕ) → seen ≤ long → IsCutOf old cut seen → IsCutOf new cut seen

-- roles other than this one still know their hands
known-still : (role : Role) (room : ℕ) (old_out new_out : List Chapter) (book new : HandBook) (l : Ledger) → StaysCut old_out new_out (length l.ring.history) → LeavesOtherHands role book new → (ks : List HandKnowledge)
    → role_count role (whole_knowledge (chapters_known ks)) ≡ 0 → AllFit l (whole_knowledge (chapters_known ks)) → AllKnowHands room old_out book ks → AllKnowHands room new_out new ks
known-still role room old_out new_out book new l stays leaves [] none fit a = tt
known-still role room old_out new_out book new l stays leaves (k ∷ ks) none fit a =
    let parts = apart (same_role role k.chapter.whole.role) (role_count role (whole_knowledge (chapters_known ks))) none in (
      record {
        room_is = a.0.room_is;
        cut_is = stays k.cut (length k.chapter.whole.seen.history) (seen-within l k.chapter.whole fit.0) a.0.cut_is;
        hands_are = λ w is. a.0.hands_are w is ∙ sym (leaves w (subst (λ x. same_role role x ≡ false) is parts.0));
      },
      known-still role room old_out new_out book new l stays leaves ks parts.1 fit.1 a.1,
    )

-- ---- a pass without the state takes it out

pub takes : (pass : ℕ) (v : HandPassView) → v.out ≡ None → Pops KeepsHandLockRule pass v (TakesHandState v)
takes pass v none x items views kept at =
    let done = old.takes-of pass (without_hands v) (ap chapters_out none) x.ring (rings_of items) (map without_hands views) kept.chapters (get-map views pass v at) in
    let step = done.2.0 in
    let room = kept.chapters.room in
    let handed_out = kept.chapters.handed_out in
    let c : ChapteredHandRing = record { chaptered = step.taken; hands = x.hands } in
    let w = hand_view v.knows (Some c) in
    let mine = kept.each_shows pass v at in
    let has = kept.queued_has.0 in
    let is : hand_ring_of c ≡ x = λ i. record { ring = step.ring_is i; hands = x.hands } in
    let has_book : HasBook kept.book (hand_ring_of c) = record { same = has.same; has = subst HasHands (sym is) has.has } in
    let shows : Everyone (ShowsHands room handed_out kept.book) (set views pass w) = everyone-set (ShowsHands room handed_out kept.book) views pass w (record { where_out = has_book; known = mine.known }) (λ j u _ e. kept.each_shows j u e) in
    let room_is : step.taken.ring.chapter.room ≡ room = ap (λ (r : ChapterRing). r.chapter.room) step.ring_is ∙ kept.chapters.queued_goes_on.0.room_same in (
      w,
      with-book room handed_out kept.book items (set views pass w) (set-chapters room handed_out (rings_of items) views pass w done.0 step.out_is done.1) kept.queued_has.1 shows,
      record {
        taken = c;
        ring_is = is;
        has = has_book.has;
        known = subst (λ r. AllKnowHands r c.chaptered.handed_out x.hands v.knows) (sym room_is)
            (subst (λ hs. AllKnowHands room hs x.hands v.knows) (sym done.2.1) (subst (λ b. AllKnowHands room handed_out b v.knows) (sym has.same) mine.known));
        out_is = refl;
        chapters = subst (TakesChapterState (without_hands v) x.ring) step.out_is step;
      },
    )

-- while one pass holds the state, the queue is empty
pub away : (pass : ℕ) (v : HandPassView) (c : ChapteredHandRing) → v.out ≡ Some c → Learns KeepsHandLockRule pass v (λ items. items ≡ [])
away pass v c has items views kept at = map-nil items (old.away pass (without_hands v) c.chaptered (ap chapters_out has) (rings_of items) (map without_hands views) kept.chapters (get-map views pass v at))

-- ---- while one pass holds the state, no other does

abbrev whole_views : List HandPassView → List PassView
whole_views views = map whole_view (map without_hands views)

get-whole : (views : List HandPassView) (pass : ℕ) (v : HandPassView) → get_elem? views pass ≡ some v → get_elem? (whole_views views) pass ≡ some (whole_view (without_hands v))
get-whole views pass v at = old.get-map (map without_hands views) pass (without_hands v) (get-map views pass v at)

state-count : (views : List PassView) → length (states_out views) ≡ total (λ v. length (state_list v.out)) views
state-count [] = refl
state-count (v ∷ views) = length-append (state_list v.out) (states_out views) ∙ ap (λ n. length (state_list v.out) + n) (state-count views)

none-counted : (o : Option ChapteredHandRing) → length (state_list (whole_out (chapters_out o))) ≡ 0 → o ≡ None
none-counted None e = refl
none-counted (Some c) e = absurd (omega arith)

none-out : (items : List ChapterRing) (views : List HandPassView) (pass : ℕ) (v : HandPassView) (c : ChapteredHandRing) → KeepsChapterLockRule items (map without_hands views) → v.out ≡ Some c → get_elem? views pass ≡ some v
    → (j : ℕ) (u : HandPassView) → j ≢ pass → get_elem? views j ≡ some u → u.out ≡ None
none-out items views pass v c kept has at j u other e =
    let queued = map (whole_ring (joined kept.handed_out)) items in
    let one : length (queued ++ states_out (whole_views views)) ≡ 1 = ap length kept.whole.one_state in
    let front = length-append queued (states_out (whole_views views)) in
    let mine : length (state_list (whole_out (chapters_out v.out))) ≡ 1 = ap (λ o. length (state_list (whole_out (chapters_out o)))) has in
    let two = total_two (λ y. length (state_list y.out)) (whole_views views) pass j (whole_view (without_hands v)) (whole_view (without_hands u)) other (get-whole views pass v at) (get-whole views j u e) in
    let all = state-count (whole_views views) in
    none-counted u.out (omega arith)

-- ---- a pass with one role puts a state back

same-out : (a b : ChapteredRing) → ◌≡◌ {A = Option ChapteredRing} (Some a) (Some b) → a ≡ b
same-out a b e = cc

-- what was known to be handed out before a state was put back remains known
stays-cut : (out : ChapteredRing) (new : ChapterRing) → StaysCut out.handed_out (handed_out_after out new) (length (whole_of out).history)
stays-cut out new = by_test (new.chapter.number == out.ring.chapter.number)
  where
    whole : joined (out.handed_out ++ out.ring.chapter ∷ []) ≡ (whole_of out).history
    whole = flat_map-append (λ (c : Chapter). c.entries) out.handed_out (out.ring.chapter ∷ []) ∙ ap (λ es. joined out.handed_out ++ es) (append-nil out.ring.chapter.entries)

    by_test : (b : Bool) → StaysCut out.handed_out (if b then out.handed_out else out.handed_out ++ out.ring.chapter ∷ []) (length (whole_of out).history)
    by_test true cut seen low is = is
    by_test false cut seen low is = cut-behind out.handed_out out.ring.chapter cut seen (subst (λ es. seen ≤ length es) (sym whole) low) is

module _ (n pass : ℕ) (me : HandKnowledge) (out : ChapteredHandRing) (new : HandRing) (may : MayPutChapter (without_hands (hand_view (me ∷ []) (Some out))) new.ring) (has : HasHands new)
    (others : LeavesOtherHands me.chapter.whole.role out.hands new.hands)
    (items : List HandRing) (views : List HandPassView) (kept : KeepsHandLockRule items views) (at : get_elem? views pass ≡ some (hand_view (me ∷ []) (Some out))) where
  was : HasBook kept.book (hand_ring_of out)
  was = (kept.each_shows pass (hand_view (me ∷ []) (Some out)) at).where_out

  -- the earlier book
  leaves : LeavesOtherHands me.chapter.whole.role kept.book new.hands
  leaves w is = others w is ∙ ap (λ b. hands_of b w) was.same

  -- another pass has other roles
  none-mine : (j : ℕ) (u : HandPassView) → j ≢ pass → get_elem? views j ≡ some u → role_count me.chapter.whole.role (whole_knowledge (chapters_known u.knows)) ≡ 0
  none-mine j u other e =
      let role = me.chapter.whole.role in
      let two = total_two (λ v. role_count role v.knows) (whole_views views) pass j (whole_view (without_hands (hand_view (me ∷ []) (Some out)))) (whole_view (without_hands u)) other (get-whole views pass (hand_view (me ∷ []) (Some out)) at) (get-whole views j u e) in
      let mine : cond (same_role role role) 1 0 + 0 ≡ 1 = ap (λ b. cond b 1 0 + 0) (same_role-refl role) in
      let once = kept.chapters.whole.each_role_once role in
      omega arith

  -- what was handed out remains so
  abbrev out-now : List Chapter
  out-now = handed_out_after out.chaptered new.ring

  was-on : GoesOnFrom kept.chapters.room kept.chapters.handed_out out.chaptered
  was-on = (kept.chapters.each_knows pass (without_hands (hand_view (me ∷ []) (Some out))) (get-map views pass (hand_view (me ∷ []) (Some out)) at)).goes_on

  -- the ring of the ledger is the one that is out
  whole-is : kept.chapters.whole.ledger.ring ≡ whole_of out.chaptered
  whole-is =
      let v = hand_view (me ∷ []) (Some out) in
      let queued = map (whole_ring (joined kept.chapters.handed_out)) (rings_of items) in
      let o = outs_take (whole_views views) pass (whole_view (without_hands v)) (pass_view [] None) (whole_of out.chaptered) (get-whole views pass v at) refl refl in
      sym (single (queued ++ o.0) o.1 (whole_of out.chaptered) kept.chapters.whole.ledger.ring (append_assoc queued o.0 (whole_of out.chaptered ∷ o.1) ∙ ap (λ os. queued ++ os) (sym o.2) ∙ kept.chapters.whole.one_state)).1

  stays : StaysCut kept.chapters.handed_out out-now (length kept.chapters.whole.ledger.ring.history)
  stays =
      subst (λ hs. StaysCut hs out-now (length kept.chapters.whole.ledger.ring.history)) was-on.handed_out_same
      (subst (λ (r : Ring). StaysCut out.chaptered.handed_out out-now (length r.history)) (sym whole-is) (stays-cut out.chaptered new.ring))

  mine-now : KnowsHands kept.chapters.room out-now new.hands (hand_knowledge_after out new me)
  mine-now = record {
    room_is = (kept.each_shows pass (hand_view (me ∷ []) (Some out)) at).known.0.room_is;
    cut_is = cut-now-is out-now (length (whole_of (chaptered_after out.chaptered new.ring)).history);
    hands_are = λ w is. known-now me.chapter.whole.role new.hands me.hands w is;
  }
    where
      known-now : (role : Role) (book : HandBook) (known : Hands) (v : ℕ) → role ≡ Worker v → hands_known_by role book known ≡ hands_of book v
      known-now Consumer book known v same = absurd (cc)
      known-now (Worker w) book known v same = ap (hands_of book) (worker-same w v same)
        where
          worker-same : (a b : ℕ) → Worker a ≡ Worker b → a ≡ b
          worker-same a b e = cc

  put-back : length items < n → (w : HandPassView) × KeepsHandLockRule (items ++ new ∷ []) (set views pass w) × PutsHandState (hand_view (me ∷ []) (Some out)) new w
  put-back room =
      let v = hand_view (me ∷ []) (Some out) in
      let w = hand_view (hand_knowledge_after out new me ∷ []) None in
      let handed_out = handed_out_after out.chaptered new.ring in
      let none : items ≡ [] = away pass v out refl items views kept at in
      let fewer : length (rings_of items) < n = subst (λ l. l < n) (sym (length-map items (λ (x : HandRing). x.ring))) room in
      let taken : may.out ≡ out.chaptered = same-out may.out out.chaptered (sym (ap (λ (y : ChapterPassView). y.out) may.view_is)) in
      let done = subst (λ o. old.PutsOf n pass o new.ring (without_hands v)) taken (old.puts-of n pass (without_hands v) new.ring may) (rings_of items) (map without_hands views) kept.chapters (get-map views pass v at) fewer in
      let same : done.0 ≡ without_hands w = done.2 in
      let queue : rings_of items ++ new.ring ∷ [] ≡ rings_of (items ++ new ∷ []) = sym (map-append (λ (x : HandRing). x.ring) items (new ∷ [])) in
      let rule = subst (λ q. old.KeepsRuleOf kept.chapters.room handed_out q (map without_hands (set views pass w))) queue (set-chapters kept.chapters.room handed_out (rings_of items ++ new.ring ∷ []) views pass w done.0 same done.1) in
      let has_all : AllHaveBook new.hands (items ++ new ∷ []) = subst (λ l. AllHaveBook new.hands (l ++ new ∷ [])) (sym none) (record { same = refl; has = has }, tt) in
      let shows : Everyone (ShowsHands kept.chapters.room out-now new.hands) (set views pass w) = everyone-set (ShowsHands kept.chapters.room out-now new.hands) views pass w (record { where_out = tt; known = (mine-now, tt) })
      (λ j u other e. record {
        where_out = subst (HasBookWhereOut new.hands) (sym (none-out (rings_of items) views pass v out kept.chapters refl at j u other e)) tt;
        known = known-still me.chapter.whole.role kept.chapters.room kept.chapters.handed_out out-now kept.book new.hands kept.chapters.whole.ledger stays leaves u.knows (none-mine j u other e)
            (kept.chapters.whole.each_saw_a_beginning j (whole_view (without_hands u)) (get-whole views j u e)) (kept.each_shows j u e).known;
      }) in
      (w, with-book kept.chapters.room handed_out new.hands (items ++ new ∷ []) (set views pass w) rule has_all shows, refl)

pub puts : (n pass : ℕ) (v : HandPassView) (new : HandRing) → MayPutHands v new → Pushes KeepsHandLockRule n pass v new (PutsHandState v new)
puts n pass v new m =
    subst (λ y. Pushes KeepsHandLockRule n pass y new (PutsHandState y new)) (sym m.view_is)
    (λ items views room kept at. put-back n pass m.me m.out new (subst (λ y. MayPutChapter (without_hands y) new.ring) m.view_is m.chapters) m.has m.others items views kept at room)

-- ---- roles are split off, and joined

rest-known : (ks : List HandKnowledge) → other_chapter_roles (chapters_known ks) ≡ chapters_known (other_hand_roles ks)
rest-known [] = refl
rest-known (k ∷ ks) = refl

first-known : (ks : List HandKnowledge) → first_chapter_role (chapters_known ks) ≡ chapters_known (first_hand_role ks)
first-known [] = refl
first-known (k ∷ ks) = refl

pub forks : (pass : ℕ) (v : HandPassView) → Forks KeepsHandLockRule pass v (hand_view (other_hand_roles v.knows) v.out) (hand_view (first_hand_role v.knows) None)
forks pass v items views kept at =
    let left = hand_view (other_hand_roles v.knows) v.out in
    let right = hand_view (first_hand_role v.knows) None in
    let vs = set views pass left in
    let mine = kept.each_shows pass v at in
    let done = old.forks-of pass (without_hands v) (rings_of items) (map without_hands views) kept.chapters (get-map views pass v at) in
    let split : set (map without_hands views) pass (chapter_view (other_chapter_roles (chapters_known v.knows)) (chapters_out v.out)) ++ chapter_view (first_chapter_role (chapters_known v.knows)) None ∷ [] ≡ map without_hands (vs ++ right ∷ []) =
    (λ i. set (map without_hands views) pass (chapter_view (rest-known v.knows i) (chapters_out v.out)) ++ chapter_view (first-known v.knows i) None ∷ [])
    ∙ ap (λ l. l ++ without_hands right ∷ []) (sym (map-set without_hands views pass left)) ∙ sym (map-append without_hands vs (right ∷ [])) in
    let room = kept.chapters.room in
    let handed_out = kept.chapters.handed_out in
    let P = ShowsHands room handed_out kept.book in
    let shows : Everyone P vs = everyone-set P views pass left (record { where_out = mine.where_out; known = known-rest room handed_out kept.book v.knows mine.known }) (λ j u _ e. kept.each_shows j u e) in
    with-book room kept.chapters.handed_out kept.book items (vs ++ right ∷ []) (subst (old.KeepsRuleOf room kept.chapters.handed_out (rings_of items)) split done) kept.queued_has
    (λ j u e. ⊎_elim (λ h. shows j u h) (λ (same : right ≡ u). subst P same (record { where_out = tt; known = known-first room handed_out kept.book v.knows mine.known })) (at_snoc vs right u j e))

pub merges : (pass : ℕ) (v : HandPassView) (other : ℕ) (u : HandPassView) → u.out ≡ None → Merges KeepsHandLockRule pass v other u (hand_view (u.knows ++ v.knows) v.out) (hand_view [] None)
merges pass v other u none items views kept at ne at' =
    let both = hand_view (u.knows ++ v.knows) v.out in
    let spent = hand_view [] None in
    let vs = set views pass both in
    let joint = chapter_view (chapters_known u.knows ++ chapters_known v.knows) (chapters_out v.out) in
    let both_is : without_hands both ≡ joint = ap (λ ks. chapter_view ks (chapters_out v.out)) (map-append (λ (k : HandKnowledge). k.chapter) u.knows v.knows) in
    let vs_is : map without_hands vs ≡ set (map without_hands views) pass joint = map-set without_hands views pass both ∙ ap (λ y. set (map without_hands views) pass y) both_is in
    let there : get_elem? (set (map without_hands views) pass joint) other ≡ some (without_hands u) = subst (λ l. get_elem? l other ≡ some (without_hands u)) vs_is (get-map vs other u at') in
    let was : get_elem? views other ≡ some u = ⊎_elim (λ x. absurd (ne x.0)) (λ x. x.1) (at_set views pass other both u at') in
    let done = old.merges-of pass (without_hands v) other (without_hands u) (ap chapters_out none) (rings_of items) (map without_hands views) kept.chapters (get-map views pass v at) ne there in
    let all : set (set (map without_hands views) pass joint) other (chapter_view [] None) ≡ map without_hands (set vs other spent) = ap (λ l. set l other (chapter_view [] None)) (sym vs_is) ∙ sym (map-set without_hands vs other spent) in
    let mine = kept.each_shows pass v at in
    let theirs = kept.each_shows other u was in
    let room = kept.chapters.room in
    let handed_out = kept.chapters.handed_out in
    let P = ShowsHands room handed_out kept.book in
    let shows : Everyone P vs = everyone-set P views pass both (record { where_out = mine.where_out; known = known-append room handed_out kept.book u.knows v.knows theirs.known mine.known }) (λ j y _ e. kept.each_shows j y e) in
    with-book room kept.chapters.handed_out kept.book items (set vs other spent) (subst (old.KeepsRuleOf room kept.chapters.handed_out (rings_of items)) all done) kept.queued_has
    (everyone-set P vs other spent (record { where_out = tt; known = tt }) (λ j y _ e. shows j y e))

-- ---- the lock is opened

workers-chapters : (b : Book) (room first n : ℕ) → chapters_known (opening_worker_hands b room first n) ≡ opening_workers b room first n
workers-chapters b room first zero = refl
workers-chapters b room first (suc n) = ap (λ ks. opening_role (Worker first) b room ∷ ks) (workers-chapters b room (first + 1) n)

free-there : (workers w : ℕ) → w < workers → hands_of (free_book workers) w ≡ free_hands
free-there workers w low = get_or-replicate workers w free_hands [] low

workers-free : (b : Book) (room workers first n : ℕ) → first + n ≤ workers → AllKnowHands room [] (free_book workers) (opening_worker_hands b room first n)
workers-free b room workers first zero le = tt
workers-free b room workers first (suc n) le =
    (record { room_is = refl; cut_is = cut-now-is [] (length b.history); hands_are = λ w is. sym (ap (hands_of (free_book workers)) (worker-is first w is) ∙ free-there workers first (omega arith)) }, workers-free b room workers (first + 1) n (omega arith))
  where
    worker-is : (a b : ℕ) → Worker a ≡ Worker b → b ≡ a
    worker-is a b e = cc

nobody-fits : (l : Ledger) (k : RoleKnowledge) → l.ring ≡ unopened_ring → FitsLedger l k → ⊥
nobody-fits l k is fit = let size = fit.sound.is_ring.bounded.size.1 in let none = ap (λ (r : Ring). r.setup.size) is in omega arith

no-roles : (l : Ledger) (ks : List HandKnowledge) → l.ring ≡ unopened_ring → AllFit l (whole_knowledge (chapters_known ks)) → ks ≡ []
no-roles l [] is fit = refl
no-roles l (k ∷ ks) is fit = absurd (nobody-fits l k.chapter.whole is fit.0)

module _ (n pass : ℕ) (r : HandRing) (is_ring : IsRing (whole_of (chaptered_ring [] r.ring))) (has_chapters : HasChapters (chaptered_ring [] r.ring)) (nothing : r.ring.contents ≡ empty) (has : HasHands r) (free : r.hands ≡ free_book r.ring.chapter.opening.setup.workers)
    (items : List HandRing) (views : List HandPassView) (kept : KeepsHandLockRule items views) (at : get_elem? views pass ≡ some (hand_view [] (Some unopened_hands))) where
  unopened-is : kept.chapters.whole.ledger.ring ≡ unopened_ring
  unopened-is =
      let v = hand_view [] (Some unopened_hands) in
      let queued = map (whole_ring (joined kept.chapters.handed_out)) (rings_of items) in
      let o = outs_take (whole_views views) pass (whole_view (without_hands v)) (pass_view [] None) unopened_ring (get-whole views pass v at) refl refl in
      sym (single (queued ++ o.0) o.1 unopened_ring kept.chapters.whole.ledger.ring (append_assoc queued o.0 (unopened_ring ∷ o.1) ∙ ap (λ os. queued ++ os) (sym o.2) ∙ kept.chapters.whole.one_state)).1

  put-first : length items < n → (w : HandPassView) × KeepsHandLockRule (items ++ r ∷ []) (set views pass w) × OpensHandState (hand_view [] (Some unopened_hands)) r w
  put-first room =
      let v = hand_view [] (Some unopened_hands) in
      let b = book_of (whole_of (chaptered_ring [] r.ring)) in
      let m = r.ring.chapter.room in
      let workers = r.ring.chapter.opening.setup.workers in
      let w = hand_view (opening_hand_roles r) None in
      let none : items ≡ [] = away pass v unopened_hands refl items views kept at in
      let fewer : length (rings_of items) < n = subst (λ l. l < n) (sym (length-map items (λ (x : HandRing). x.ring))) room in
      let done = old.put-first n pass r.ring is_ring has_chapters nothing (rings_of items) (map without_hands views) kept.chapters (get-map views pass v at) fewer in
      let roles : done.0 ≡ without_hands w = done.2 ∙ ap (λ ks. chapter_view (opening_role Consumer b m ∷ ks) None) (sym (workers-chapters b m 0 workers)) in
      let queue : rings_of items ++ r.ring ∷ [] ≡ rings_of (items ++ r ∷ []) = sym (map-append (λ (x : HandRing). x.ring) items (r ∷ [])) in
      let all_free : AllKnowHands m [] r.hands (opening_worker_hands b m 0 workers) = subst (λ x. AllKnowHands m [] x (opening_worker_hands b m 0 workers)) (sym free) (workers-free b m workers 0 workers (omega arith)) in
      let consumer : KnowsHands m [] r.hands (opening_hands (opening_role Consumer b m)) = record { room_is = refl; cut_is = cut-now-is [] (length b.history); hands_are = λ x is. absurd (cc) } in
      let rule = subst (λ q. old.KeepsRuleOf m [] q (map without_hands (set views pass w))) queue (set-chapters m [] (rings_of items ++ r.ring ∷ []) views pass w done.0 roles done.1) in
      let has_all : AllHaveBook r.hands (items ++ r ∷ []) = subst (λ l. AllHaveBook r.hands (l ++ r ∷ [])) (sym none) (record { same = refl; has = has }, tt) in
      let shows : Everyone (ShowsHands m [] r.hands) (set views pass w) = everyone-set (ShowsHands m [] r.hands) views pass w (record { where_out = tt; known = (consumer, all_free) })
      (λ j u other e. record {
        where_out = subst (HasBookWhereOut r.hands) (sym (none-out (rings_of items) views pass v unopened_hands kept.chapters refl at j u other e)) tt;
        known = subst (AllKnowHands m [] r.hands) (sym (no-roles kept.chapters.whole.ledger u.knows unopened-is (kept.chapters.whole.each_saw_a_beginning j (whole_view (without_hands u)) (get-whole views j u e)))) tt;
      }) in
      (w, with-book m [] r.hands (items ++ r ∷ []) (set views pass w) rule has_all shows, refl)

pub opens : (n pass : ℕ) (v : HandPassView) (r : HandRing) → v ≡ hand_view [] (Some unopened_hands) → IsRing (whole_of (chaptered_ring [] r.ring)) → HasChapters (chaptered_ring [] r.ring) → r.ring.contents ≡ empty
    → HasHands r → r.hands ≡ free_book r.ring.chapter.opening.setup.workers → Pushes KeepsHandLockRule n pass v r (OpensHandState v r)
opens n pass v r is is_ring has_chapters nothing has free =
    subst (λ y. Pushes KeepsHandLockRule n pass y r (OpensHandState y r)) (sym is) (λ items views room kept at. put-first n pass r is_ring has_chapters nothing has free items views kept at room)

-- in a ring that was not opened no hand holds a record
no-out : (w h : ℕ) (o : OutRecord) → hand_at [] w h ≡ Some o → ⊥
no-out w h o at = absurd (cc)

unopened-has : HasHands (hand_ring_of unopened_hands)
unopened-has = record {
  shaped = record { each_worker = refl; four = λ w low. absurd (omega arith) };
  holds = record {
    out_is_busy = λ w h o at. absurd (no-out w h o at);
    busy_is_out = λ p w k n b. absurd (not-busy p w k n b.granted_is);
    each_once = λ v w g h x y a b same. absurd (no-out v g x a);
  };
}
  where
    not-busy : (p w k n : ℕ) → IsGranted (empty_ring (record { size = 0; start = 0; workers = 0 })) [] w k n p → ⊥
    not-busy p w k n g = elim g [
      | inl shown ↦ absurd (omega (arith, shown.1.1))
      | inr more ↦ absurd (omega (arith, more.1))
    ]

-- initially there is one pass, which holds the unopened state
pub begins : KeepsHandLockRule [] (hand_view [] (Some unopened_hands) ∷ [])
begins =
    with-book 8 [] [] [] (hand_view [] (Some unopened_hands) ∷ []) old.begins-of tt
    (λ j u e. elim j as (λ k. get_elem? (hand_view [] (Some unopened_hands) ∷ []) k ≡ some u → ShowsHands 8 [] [] u) [
      | zero ↦ (λ h. subst (ShowsHands 8 [] []) (some-injective (hand_view [] (Some unopened_hands)) u h) (record { where_out = record { same = refl; has = unopened-has }; known = tt }))
      | suc k ↦ (λ h. absurd (some-ne-none u (sym h)))
    ] e)

pub one-hand-leaves : OneHandLeavesOthers
one-hand-leaves w h x book new is v apart_is = ap (λ b. hands_of b v) is ∙ other-hands book w h x v (λ same. true≢false (sym (eq-eqb w v (sym same)) ∙ apart_is))
