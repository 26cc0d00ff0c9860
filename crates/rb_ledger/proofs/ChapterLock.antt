-- Each step at the lock of a ring with chapters preserves its rule, since it preserves the lock's rule over the whole
-- history.
use Rattle.std.proofs.Common.{◌≡◌, ◌≢◌, ◌⊎◌, ℕ, zero, suc, ◌+◌, ◌<◌, Bool, true, false, true≢false, cond, List, [], ◌∷◌, ◌++◌, set, map, length, Option, Some, None, inl, inr, sym, refl, ap, ◌∙◌, subst, ⊎_elim, append_assoc, arith}
use Rattle.std.proofs.lemmas.List.{map-set, map-append}
use mathlib.Core.Option.{some, some-injective, some-ne-none}
use lib.ListN.{get_elem?}
use Rattle.crossbeam_queue.specs.Fifo.{Pushes, Pops, Forks, Merges, Learns}
use Rattle.crossbeam_queue.proofs.Lists.{at_set, at_snoc}
use Rattle.rb_history.specs.RoomRule.{Setup}
use Rattle.rb_history.specs.RingModel.{Ring}
use Rattle.rb_chapter_ring.specs.Chapters.{Chapter, joined}
use Rattle.rb_chapter_ring.specs.ChapterRing.{ChapterRing, whole_ring}
use Rattle.rb_ledger.specs.Roles.{Role, Book, book_of}
use Rattle.rb_ledger.specs.Roles.Role.{Consumer, Worker}
use Rattle.rb_ledger.specs.RoleKnowledge.{RoleKnowledge, PassView, role_knowledge, pass_view, same_role, role_count, states_out, state_list, total}
use Rattle.rb_ledger.specs.Ledger.{Ledger, IsRing, FitsLedger}
use Rattle.rb_ledger.specs.LockRule.{AllFit, KeepsLockRule, GoesOnFrom, AllGoOn, GoesOnWhereOut, KnowsChapters, KeepsChapterLockRule}
use Rattle.rb_ledger.specs.LockSteps.{TakesState, RoleStep, knowledge_after}
use Rattle.rb_ledger.specs.inner.OpenedLock.{unopened_ring, worker_roles, first_role, other_roles}
use Rattle.rb_ledger.proofs.Views.{total_two, outs_take, single}
use Rattle.rb_ledger.proofs.Opens.{open-step}
use Rattle.rb_ledger.proofs.LockRule as old
use Rattle.rb_ledger.specs.ChapteredRing.{ChapteredRing, chaptered_ring, whole_of, HasChapters}
use Rattle.rb_ledger.specs.ChapterKnowledge.{ChapterKnowledge, ChapterPassView, chapter_view, whole_out, whole_knowledge, whole_view, KnowsHandedOut, AllKnowHandedOut}
use Rattle.rb_ledger.specs.ChapterLockSteps.{TakesChapterState, handed_out_after, chaptered_after, handed_out_known_by, chapter_knowledge_after, MayPutChapter, PutsChapterState, unopened_chapters, opening_role, opening_workers, OpensChapterState, first_chapter_role, other_chapter_roles}
use Rattle.rb_chapter_ring.proofs.Chain.{handed-out-bind}
use Rattle.rb_chapter_ring.specs.Chapters.{first_chapter}
use Rattle.rb_chapter_ring.proofs.Empty.{empty-kept}
use Rattle.std.specs.FinMap.{empty}

-- the rule, for this room and these chapters
pub record KeepsRuleOf (room : ℕ) (handed_out : List Chapter) (queued : List ChapterRing) (views : List ChapterPassView) : Type 0 where
  pub rule : KeepsChapterLockRule queued views
  pub room_is : rule.room ≡ room
  pub handed_out_is : rule.handed_out ≡ handed_out

-- ---- lists of views

abbrev Everyone : (ChapterPassView → Type 0) → List ChapterPassView → Type 0
Everyone P views = (pass : ℕ) (v : ChapterPassView) → get_elem? views pass ≡ some v → P v

everyone-set : (P : ChapterPassView → Type 0) (views : List ChapterPassView) (pass : ℕ) (w : ChapterPassView) → P w → ((j : ℕ) (u : ChapterPassView) → j ≢ pass → get_elem? views j ≡ some u → P u) → Everyone P (set views pass w)
everyone-set P views pass w mine theirs j u e = ⊎_elim (λ (x : (j ≡ pass) × (w ≡ u)). subst P x.1 mine) (λ (x : (j ≢ pass) × (get_elem? views j ≡ some u)). theirs j u x.0 x.1) (at_set views pass j w u e)

pub get-map : (views : List ChapterPassView) (pass : ℕ) (v : ChapterPassView) → get_elem? views pass ≡ some v → get_elem? (map whole_view views) pass ≡ some (whole_view v)
get-map [] pass v at = absurd (some-ne-none v (sym at))
get-map (x ∷ xs) zero v at = ap (λ y. some (whole_view y)) (some-injective x v at)
get-map (x ∷ xs) (suc n) v at = get-map xs n v at

pub map-nil : {A B : Type 0} (f : A → B) (xs : List A) → map f xs ≡ [] → xs ≡ []
map-nil f [] e = refl
map-nil f (x ∷ xs) e = absurd (cc)

-- the rule over the whole history, for views of which one was replaced
set-whole : (items : List Ring) (views : List ChapterPassView) (pass : ℕ) (w : ChapterPassView) (x : PassView) → x ≡ whole_view w → KeepsLockRule items (set (map whole_view views) pass x) → KeepsLockRule items (map whole_view (set views pass w))
set-whole items views pass w x is kept = subst (KeepsLockRule items) (ap (λ y. set (map whole_view views) pass y) is ∙ sym (map-set whole_view views pass w)) kept

-- ---- while one pass holds the state, no other does

state-count : (views : List PassView) → length (states_out views) ≡ total (λ v. length (state_list v.out)) views
state-count [] = refl
state-count (v ∷ views) = length-append-of v.out (states_out views) ∙ ap (λ n. length (state_list v.out) + n) (state-count views)
  where
    length-append-of : (o : Option Ring) (rs : List Ring) → length (state_list o ++ rs) ≡ length (state_list o) + length rs
    length-append-of None rs = omega arith
    length-append-of (Some r) rs = omega arith

none-counted : (o : Option ChapteredRing) → length (state_list (whole_out o)) ≡ 0 → o ≡ None
none-counted None e = refl
none-counted (Some c) e = absurd (omega arith)

apart : (b : Bool) (n : ℕ) → cond b 1 0 + n ≡ 0 → (b ≡ false) × (n ≡ 0)
apart true n e = absurd (omega arith)
apart false n e = (refl, omega arith)

-- if the consumer is not among the roles, they may know any chapters
known-none : (room : ℕ) (handed_out : List Chapter) (ks : List ChapterKnowledge) → role_count Consumer (whole_knowledge ks) ≡ 0 → AllKnowHandedOut room handed_out ks
known-none room handed_out [] none = tt
known-none room handed_out (k ∷ ks) none =
    let a = apart (same_role Consumer k.whole.role) (role_count Consumer (whole_knowledge ks)) none in
    ((λ is. absurd (true≢false (subst (λ x. same_role Consumer x ≡ false) is a.0))), known-none room handed_out ks a.1)

known-append : (room : ℕ) (handed_out : List Chapter) (xs ys : List ChapterKnowledge) → AllKnowHandedOut room handed_out xs → AllKnowHandedOut room handed_out ys → AllKnowHandedOut room handed_out (xs ++ ys)
known-append room handed_out [] ys a b = b
known-append room handed_out (x ∷ xs) ys a b = (a.0, known-append room handed_out xs ys a.1 b)

known-first : (room : ℕ) (handed_out : List Chapter) (ks : List ChapterKnowledge) → AllKnowHandedOut room handed_out ks → AllKnowHandedOut room handed_out (first_chapter_role ks)
known-first room handed_out [] a = tt
known-first room handed_out (k ∷ ks) a = (a.0, tt)

known-rest : (room : ℕ) (handed_out : List Chapter) (ks : List ChapterKnowledge) → AllKnowHandedOut room handed_out ks → AllKnowHandedOut room handed_out (other_chapter_roles ks)
known-rest room handed_out [] a = tt
known-rest room handed_out (k ∷ ks) a = a.1

known-now : (role : Role) (now known : List Chapter) → role ≡ Consumer → handed_out_known_by role now known ≡ now
known-now Consumer now known is = refl
known-now (Worker w) now known is = absurd (cc)

-- ---- a pass without the state takes it out

pub takes-of : (pass : ℕ) (v : ChapterPassView) → v.out ≡ None → (x : ChapterRing) (items : List ChapterRing) (views : List ChapterPassView) (kept : KeepsChapterLockRule (x ∷ items) views) → get_elem? views pass ≡ some v
    → (w : ChapterPassView) × KeepsRuleOf kept.room kept.handed_out items (set views pass w) × ((t : TakesChapterState v x w) × (t.taken.handed_out ≡ kept.handed_out))
takes-of pass v none x items views kept at =
    let c = chaptered_ring kept.handed_out x in
    let w = chapter_view v.knows (Some c) in
    let mine = kept.each_knows pass v at in
    let goes_on = kept.queued_goes_on.0 in
    let whole = whole_ring (joined kept.handed_out) in
    let done = old.takes pass (whole_view v) (ap whole_out none) (whole x) (map whole items) (map whole_view views) kept.whole (get-map views pass v at) in (
      w,
      record {
        rule = record {
          room = kept.room;
          handed_out = kept.handed_out;
          whole = set-whole (map whole items) views pass w done.0 done.2.0 done.1;
          queued_goes_on = kept.queued_goes_on.1;
          each_knows = everyone-set (KnowsChapters kept.room kept.handed_out) views pass w (record { goes_on = goes_on; handed_out_known = mine.handed_out_known }) (λ j u _ e. kept.each_knows j u e);
        };
        room_is = refl;
        handed_out_is = refl;
      },
      (
        record {
          taken = c;
          ring_is = refl;
          has_chapters = goes_on.has_chapters;
          known = subst (λ r. AllKnowHandedOut r kept.handed_out v.knows) (sym goes_on.room_same) mine.handed_out_known;
          out_is = refl;
          whole = subst (TakesState (whole_view v) (whole_of c)) done.2.0 done.2;
        },
        refl,
      ),
    )

pub takes : (pass : ℕ) (v : ChapterPassView) → v.out ≡ None → Pops KeepsChapterLockRule pass v (TakesChapterState v)
takes pass v none x items views kept at = let done = takes-of pass v none x items views kept at in (done.0, done.1.rule, done.2.0)

-- while one pass holds the state, the queue is empty
pub away : (pass : ℕ) (v : ChapterPassView) (c : ChapteredRing) → v.out ≡ Some c → Learns KeepsChapterLockRule pass v (λ items. items ≡ [])
away pass v c has items views kept at =
    map-nil (whole_ring (joined kept.handed_out)) items (old.away pass (whole_view v) (whole_of c) (ap whole_out has) (map (whole_ring (joined kept.handed_out)) items) (map whole_view views) kept.whole (get-map views pass v at))

-- and no other pass holds a state
none-out : (queued : List Ring) (views : List ChapterPassView) (pass : ℕ) (v : ChapterPassView) (c : ChapteredRing) → KeepsLockRule queued (map whole_view views) → v.out ≡ Some c → get_elem? views pass ≡ some v
    → (j : ℕ) (u : ChapterPassView) → j ≢ pass → get_elem? views j ≡ some u → u.out ≡ None
none-out queued views pass v c kept has at j u other e =
    let empty_queue : queued ≡ [] = old.away pass (whole_view v) (whole_of c) (ap whole_out has) queued (map whole_view views) kept (get-map views pass v at) in
    let one : length (states_out (map whole_view views)) ≡ 1 = ap length (ap (λ l. l ++ states_out (map whole_view views)) (sym empty_queue) ∙ kept.one_state) in
    let mine : length (state_list (whole_out v.out)) ≡ 1 = ap (λ o. length (state_list (whole_out o))) has in
    let two = total_two (λ y. length (state_list y.out)) (map whole_view views) pass j (whole_view v) (whole_view u) other (get-map views pass v at) (get-map views j u e) in
    let all = state-count (map whole_view views) in
    none-counted u.out (omega arith)

-- ---- a pass with one role puts a state back

module _ (n pass : ℕ) (me : ChapterKnowledge) (out : ChapteredRing) (new : ChapterRing) (has : HasChapters (chaptered_after out new)) (room_same : new.chapter.room ≡ out.ring.chapter.room)
    (by_consumer : (me.whole.role ≡ Consumer) ⊎ (handed_out_after out new ≡ out.handed_out))
    (step : RoleStep me.whole (whole_of out) (whole_of (chaptered_after out new)) (knowledge_after (whole_of out) (whole_of (chaptered_after out new)) me.whole))
    (items : List ChapterRing) (views : List ChapterPassView) (kept : KeepsChapterLockRule items views) (at : get_elem? views pass ≡ some (chapter_view (me ∷ []) (Some out))) where
  mine : KnowsChapters kept.room kept.handed_out (chapter_view (me ∷ []) (Some out))
  mine = kept.each_knows pass (chapter_view (me ∷ []) (Some out)) at

  was : GoesOnFrom kept.room kept.handed_out out
  was = (kept.each_knows pass (chapter_view (me ∷ []) (Some out)) at).goes_on

  -- another pass still knows the chapters: it has the consumer's role, or the chapters are the same
  other-known : (j : ℕ) (u : ChapterPassView) → j ≢ pass → get_elem? views j ≡ some u → AllKnowHandedOut kept.room (handed_out_after out new) u.knows
  other-known j u other e = elim by_consumer [
    | inl consumer ↦
        let two = total_two (λ v. role_count Consumer v.knows) (map whole_view views) pass j (whole_view (chapter_view (me ∷ []) (Some out))) (whole_view u) other (get-map views pass (chapter_view (me ∷ []) (Some out)) at) (get-map views j u e) in
        let mine_once : role_count Consumer (whole_knowledge (me ∷ [])) ≡ 1 = ap (λ role. cond (same_role Consumer role) 1 0 + 0) consumer in
        let once = kept.whole.each_role_once Consumer in
        known-none kept.room (handed_out_after out new) u.knows (omega arith)
    | inr same ↦ subst (λ hs. AllKnowHandedOut kept.room hs u.knows) (sym (same ∙ was.handed_out_same)) (kept.each_knows j u e).handed_out_known
  ]

  after-known : KnowsHandedOut kept.room (handed_out_after out new) (chapter_knowledge_after out new me)
  after-known = λ is. ((mine.handed_out_known.0 is).0, known-now me.whole.role (handed_out_after out new) me.handed_out is)

  put-back : length items < n → (w : ChapterPassView) × KeepsRuleOf kept.room (handed_out_after out new) (items ++ new ∷ []) (set views pass w) × PutsChapterState (chapter_view (me ∷ []) (Some out)) new w
  put-back room =
      let v = chapter_view (me ∷ []) (Some out) in
      let w = chapter_view (chapter_knowledge_after out new me ∷ []) None in
      let f = whole_ring (joined kept.handed_out) in
      let g = whole_ring (joined (handed_out_after out new)) in
      let left = whole_of (chaptered_after out new) in
      let none : items ≡ [] = away pass v out refl items views kept at in
      let no_item : length (map f items) ≡ length items = ap (λ l. length (map f l)) none ∙ sym (ap length none) in
      let done = old.puts n pass me.whole (knowledge_after (whole_of out) left me.whole) (whole_of out) left refl step (map f items) (map whole_view views) (omega (arith, room, no_item)) kept.whole (get-map views pass v at) in
      let queue : map f items ++ left ∷ [] ≡ map g (items ++ new ∷ []) = ap (λ l. map f l ++ left ∷ []) none ∙ sym (ap (λ l. map g (l ++ new ∷ [])) none) in (
        w,
        record {
          rule = record {
            room = kept.room;
            handed_out = handed_out_after out new;
            whole = subst (λ q. KeepsLockRule q (map whole_view (set views pass w))) queue (set-whole (map f items ++ left ∷ []) views pass w done.0 done.2 done.1);
            queued_goes_on = subst (λ l. AllGoOn kept.room (handed_out_after out new) (l ++ new ∷ [])) (sym none) (record { handed_out_same = refl; room_same = room_same ∙ was.room_same; has_chapters = has }, tt);
            each_knows = everyone-set (KnowsChapters kept.room (handed_out_after out new)) views pass w
                (record { goes_on = tt; handed_out_known = (after-known, tt) })
                (λ j u other e. record {
                  goes_on = subst (GoesOnWhereOut kept.room (handed_out_after out new)) (sym (none-out (map f items) views pass v out kept.whole refl at j u other e)) tt;
                  handed_out_known = other-known j u other e;
                });
          };
          room_is = refl;
          handed_out_is = refl;
        },
        refl,
      )

abbrev pub PutsOf : ℕ → ℕ → ChapteredRing → ChapterRing → ChapterPassView → Type 0
PutsOf n pass out new v =
    (items : List ChapterRing) (views : List ChapterPassView) (kept : KeepsChapterLockRule items views) → get_elem? views pass ≡ some v → length items < n
    → (w : ChapterPassView) × KeepsRuleOf kept.room (handed_out_after out new) (items ++ new ∷ []) (set views pass w) × PutsChapterState v new w

pub puts-of : (n pass : ℕ) (v : ChapterPassView) (new : ChapterRing) (m : MayPutChapter v new) → PutsOf n pass m.out new v
puts-of n pass v new m = subst (PutsOf n pass m.out new) (sym m.view_is) (λ items views kept at room. put-back n pass m.me m.out new m.has_chapters m.room_same m.by_consumer m.whole items views kept at room)

pub puts : (n pass : ℕ) (v : ChapterPassView) (new : ChapterRing) → MayPutChapter v new → Pushes KeepsChapterLockRule n pass v new (PutsChapterState v new)
puts n pass v new m items views room kept at = let done = puts-of n pass v new m items views kept at room in (done.0, done.1.rule, done.2)

-- ---- roles are split off, and joined

rest-whole : (ks : List ChapterKnowledge) → other_roles (whole_knowledge ks) ≡ whole_knowledge (other_chapter_roles ks)
rest-whole [] = refl
rest-whole (k ∷ ks) = refl

first-whole : (ks : List ChapterKnowledge) → first_role (whole_knowledge ks) ≡ whole_knowledge (first_chapter_role ks)
first-whole [] = refl
first-whole (k ∷ ks) = refl

pub forks-of : (pass : ℕ) (v : ChapterPassView) (items : List ChapterRing) (views : List ChapterPassView) (kept : KeepsChapterLockRule items views) → get_elem? views pass ≡ some v
    → KeepsRuleOf kept.room kept.handed_out items (set views pass (chapter_view (other_chapter_roles v.knows) v.out) ++ chapter_view (first_chapter_role v.knows) None ∷ [])
forks-of pass v items views kept at =
    let left = chapter_view (other_chapter_roles v.knows) v.out in
    let right = chapter_view (first_chapter_role v.knows) None in
    let vs = set views pass left in
    let f = whole_ring (joined kept.handed_out) in
    let mine = kept.each_knows pass v at in
    let done = old.forks pass (whole_view v) (map f items) (map whole_view views) kept.whole (get-map views pass v at) in
    let split : set (map whole_view views) pass (pass_view (other_roles (whole_knowledge v.knows)) (whole_out v.out)) ++ pass_view (first_role (whole_knowledge v.knows)) None ∷ [] ≡ map whole_view (vs ++ right ∷ []) =
    (λ i. set (map whole_view views) pass (pass_view (rest-whole v.knows i) (whole_out v.out)) ++ pass_view (first-whole v.knows i) None ∷ [])
    ∙ ap (λ l. l ++ whole_view right ∷ []) (sym (map-set whole_view views pass left)) ∙ sym (map-append whole_view vs (right ∷ [])) in
    let knows : Everyone (KnowsChapters kept.room kept.handed_out) vs = everyone-set (KnowsChapters kept.room kept.handed_out) views pass left
    (record { goes_on = mine.goes_on; handed_out_known = known-rest kept.room kept.handed_out v.knows mine.handed_out_known })
    (λ j u _ e. kept.each_knows j u e) in
    record {
      rule = record {
        room = kept.room;
        handed_out = kept.handed_out;
        whole = subst (KeepsLockRule (map f items)) split done;
        queued_goes_on = kept.queued_goes_on;
        each_knows = λ j u e. ⊎_elim (λ h. knows j u h)
            (λ (same : right ≡ u). subst (KnowsChapters kept.room kept.handed_out) same (record { goes_on = tt; handed_out_known = known-first kept.room kept.handed_out v.knows mine.handed_out_known }))
            (at_snoc vs right u j e);
      };
      room_is = refl;
      handed_out_is = refl;
    }

pub forks : (pass : ℕ) (v : ChapterPassView) → Forks KeepsChapterLockRule pass v (chapter_view (other_chapter_roles v.knows) v.out) (chapter_view (first_chapter_role v.knows) None)
forks pass v items views kept at = (forks-of pass v items views kept at).rule

pub merges-of : (pass : ℕ) (v : ChapterPassView) (other : ℕ) (u : ChapterPassView) → u.out ≡ None → (items : List ChapterRing) (views : List ChapterPassView) (kept : KeepsChapterLockRule items views) → get_elem? views pass ≡ some v
    → (other ≡ pass → ⊥) → get_elem? (set views pass (chapter_view (u.knows ++ v.knows) v.out)) other ≡ some u
    → KeepsRuleOf kept.room kept.handed_out items (set (set views pass (chapter_view (u.knows ++ v.knows) v.out)) other (chapter_view [] None))
merges-of pass v other u none items views kept at ne at' =
    let both = chapter_view (u.knows ++ v.knows) v.out in
    let spent = chapter_view [] None in
    let vs = set views pass both in
    let f = whole_ring (joined kept.handed_out) in
    let joint = pass_view (whole_knowledge u.knows ++ whole_knowledge v.knows) (whole_out v.out) in
    let both_is : whole_view both ≡ joint = ap (λ ks. pass_view ks (whole_out v.out)) (map-append (λ (k : ChapterKnowledge). k.whole) u.knows v.knows) in
    let vs_is : map whole_view vs ≡ set (map whole_view views) pass joint = map-set whole_view views pass both ∙ ap (λ y. set (map whole_view views) pass y) both_is in
    let there : get_elem? (set (map whole_view views) pass joint) other ≡ some (whole_view u) = subst (λ l. get_elem? l other ≡ some (whole_view u)) vs_is (get-map vs other u at') in
    let was : get_elem? views other ≡ some u = ⊎_elim (λ x. absurd (ne x.0)) (λ x. x.1) (at_set views pass other both u at') in
    let done = old.merges pass (whole_view v) other (whole_view u) (ap whole_out none) (map f items) (map whole_view views) kept.whole (get-map views pass v at) ne there in
    let all : set (set (map whole_view views) pass joint) other (pass_view [] None) ≡ map whole_view (set vs other spent) = ap (λ l. set l other (pass_view [] None)) (sym vs_is) ∙ sym (map-set whole_view vs other spent) in
    let mine = kept.each_knows pass v at in
    let theirs = kept.each_knows other u was in
    let knows : Everyone (KnowsChapters kept.room kept.handed_out) vs = everyone-set (KnowsChapters kept.room kept.handed_out) views pass both
    (record { goes_on = mine.goes_on; handed_out_known = known-append kept.room kept.handed_out u.knows v.knows theirs.handed_out_known mine.handed_out_known })
    (λ j y _ e. kept.each_knows j y e) in
    record {
      rule = record {
        room = kept.room;
        handed_out = kept.handed_out;
        whole = subst (KeepsLockRule (map f items)) all done;
        queued_goes_on = kept.queued_goes_on;
        each_knows = everyone-set (KnowsChapters kept.room kept.handed_out) vs other spent (record { goes_on = tt; handed_out_known = tt }) (λ j y _ e. knows j y e);
      };
      room_is = refl;
      handed_out_is = refl;
    }

pub merges : (pass : ℕ) (v : ChapterPassView) (other : ℕ) (u : ChapterPassView) → u.out ≡ None → Merges KeepsChapterLockRule pass v other u (chapter_view (u.knows ++ v.knows) v.out) (chapter_view [] None)
merges pass v other u none items views kept at ne at' = (merges-of pass v other u none items views kept at ne at').rule

-- ---- the lock is opened

workers-whole : (b : Book) (room first n : ℕ) → whole_knowledge (opening_workers b room first n) ≡ worker_roles b first n
workers-whole b room first zero = refl
workers-whole b room first (suc n) = ap (λ ks. role_knowledge (Worker first) b empty ∷ ks) (workers-whole b room (first + 1) n)

workers-know : (b : Book) (room first n : ℕ) → AllKnowHandedOut room [] (opening_workers b room first n)
workers-know b room first zero = tt
workers-know b room first (suc n) = ((λ is. (refl, refl)), workers-know b room (first + 1) n)

nobody-fits : (l : Ledger) (k : RoleKnowledge) → l.ring ≡ unopened_ring → FitsLedger l k → ⊥
nobody-fits l k is fit = let size = fit.sound.is_ring.bounded.size.1 in let none = ap (λ (r : Ring). r.setup.size) is in omega arith

no-roles : (l : Ledger) (ks : List ChapterKnowledge) → l.ring ≡ unopened_ring → AllFit l (whole_knowledge ks) → ks ≡ []
no-roles l [] is fit = refl
no-roles l (k ∷ ks) is fit = absurd (nobody-fits l k.whole is fit.0)

module _ (n pass : ℕ) (r : ChapterRing) (is_ring : IsRing (whole_of (chaptered_ring [] r))) (has : HasChapters (chaptered_ring [] r)) (nothing : r.contents ≡ empty)
    (items : List ChapterRing) (views : List ChapterPassView) (kept : KeepsChapterLockRule items views) (at : get_elem? views pass ≡ some (chapter_view [] (Some unopened_chapters))) where
  unopened-is : kept.whole.ledger.ring ≡ unopened_ring
  unopened-is =
      let v = chapter_view [] (Some unopened_chapters) in
      let queued = map (whole_ring (joined kept.handed_out)) items in
      let o = outs_take (map whole_view views) pass (whole_view v) (pass_view [] None) unopened_ring (get-map views pass v at) refl refl in
      sym (single (queued ++ o.0) o.1 unopened_ring kept.whole.ledger.ring (append_assoc queued o.0 (unopened_ring ∷ o.1) ∙ ap (λ os. queued ++ os) (sym o.2) ∙ kept.whole.one_state)).1

  pub put-first : length items < n → (w : ChapterPassView) × KeepsRuleOf r.chapter.room [] (items ++ r ∷ []) (set views pass w) × OpensChapterState (chapter_view [] (Some unopened_chapters)) r w
  put-first room =
      let v = chapter_view [] (Some unopened_chapters) in
      let whole = whole_of (chaptered_ring [] r) in
      let b = book_of whole in
      let m = r.chapter.room in
      let workers = r.chapter.opening.setup.workers in
      let w = chapter_view (opening_role Consumer b m ∷ opening_workers b m 0 workers) None in
      let f = whole_ring (joined kept.handed_out) in
      let none : items ≡ [] = away pass v unopened_chapters refl items views kept at in
      let no_item : length (map f items) ≡ length items = ap (λ l. length (map f l)) none ∙ sym (ap length none) in
      let done = (open-step n pass (whole_view v) whole refl is_ring nothing).0 (map f items) (map whole_view views) (omega (arith, room, no_item)) kept.whole (get-map views pass v at) in
      let queue : map f items ++ whole ∷ [] ≡ map (whole_ring []) (items ++ r ∷ []) = ap (λ l. map f l ++ whole ∷ []) none ∙ sym (ap (λ l. map (whole_ring []) (l ++ r ∷ [])) none) in
      let roles : done.0 ≡ whole_view w = done.2 ∙ ap (λ ks. pass_view (role_knowledge Consumer b empty ∷ ks) None) (sym (workers-whole b m 0 workers)) in (
        w,
        record {
          rule = record {
            room = m;
            handed_out = [];
            whole = subst (λ q. KeepsLockRule q (map whole_view (set views pass w))) queue (set-whole (map f items ++ whole ∷ []) views pass w done.0 roles done.1);
            queued_goes_on = subst (λ l. AllGoOn m [] (l ++ r ∷ [])) (sym none) (record { handed_out_same = refl; room_same = refl; has_chapters = has }, tt);
            each_knows = everyone-set (KnowsChapters m []) views pass w
                (record { goes_on = tt; handed_out_known = ((λ is. (refl, refl)), workers-know b m 0 workers) })
                (λ j u other e. record {
                  goes_on = subst (GoesOnWhereOut m []) (sym (none-out (map f items) views pass v unopened_chapters kept.whole refl at j u other e)) tt;
                  handed_out_known = subst (AllKnowHandedOut m []) (sym (no-roles kept.whole.ledger u.knows unopened-is (kept.whole.each_saw_a_beginning j (whole_view u) (get-map views j u e)))) tt;
                });
          };
          room_is = refl;
          handed_out_is = refl;
        },
        refl,
      )

-- the pass that holds the unopened state puts the first state in, and gets its roles
pub opens : (n pass : ℕ) (v : ChapterPassView) (r : ChapterRing) → v ≡ chapter_view [] (Some unopened_chapters) → IsRing (whole_of (chaptered_ring [] r)) → HasChapters (chaptered_ring [] r) → r.contents ≡ empty
    → Pushes KeepsChapterLockRule n pass v r (OpensChapterState v r)
opens n pass v r is is_ring has nothing =
    subst (λ y. Pushes KeepsChapterLockRule n pass y r (OpensChapterState y r)) (sym is) (λ items views room kept at. let done = put-first n pass r is_ring has nothing items views kept at room in (done.0, done.1.rule, done.2))

unopened-has : HasChapters unopened_chapters
unopened-has =
    let nobody : Setup = record { size = 0; start = 0; workers = 0 } in
    let kept = empty-kept 8 nobody in
    record { binds = handed-out-bind [] (first_chapter 8 nobody) (refl, refl, kept.continues.legal); room = kept.room; within = (omega arith, omega arith) }

-- initially there is one pass, which holds the unopened state
pub begins-of : KeepsRuleOf 8 [] [] (chapter_view [] (Some unopened_chapters) ∷ [])
begins-of = record {
  rule = record {
    room = 8;
    handed_out = [];
    whole = old.begins (record { ring = unopened_ring; sent = empty });
    queued_goes_on = tt;
    each_knows = λ j u e. elim j as (λ k. get_elem? (chapter_view [] (Some unopened_chapters) ∷ []) k ≡ some u → KnowsChapters 8 [] u) [
      | zero ↦ (λ h. subst (KnowsChapters 8 []) (some-injective (chapter_view [] (Some unopened_chapters)) u h) (record { goes_on = record { handed_out_same = refl; room_same = refl; has_chapters = unopened-has }; handed_out_known = tt }))
      | suc k ↦ (λ h. absurd (some-ne-none u (sym h)))
    ] e;
  };
  room_is = refl;
  handed_out_is = refl;
}

pub begins : KeepsChapterLockRule [] (chapter_view [] (Some unopened_chapters) ∷ [])
begins = begins-of.rule
