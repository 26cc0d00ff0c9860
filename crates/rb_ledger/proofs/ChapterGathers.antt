-- The ring under the lock, and the one for which all seats and the consumer were gathered.
use Rattle.std.proofs.Common.{◌≡◌, ℕ, List, [], ◌∷◌, ◌++◌, map, None, refl, sym, ap, ◌∙◌, subst}
use Rattle.std.proofs.lemmas.List.{map-append}
use Rattle.rb_history.specs.declared.entries.Entry.{Entry}
use Rattle.rb_history.specs.RingModel.{Ring}
use Rattle.rb_chapter_ring.specs.Chapters.{Chapter, joined}
use Rattle.rb_chapter_ring.specs.ChapterRing.{whole_ring}
use Rattle.rb_chapter_ring.proofs.Alike.{stands-alike}
use Rattle.rb_ledger.specs.Roles.Role.{Consumer}
use Rattle.rb_ledger.specs.RoleKnowledge.{PassView, role_knowledge, pass_view}
use Rattle.rb_ledger.specs.SeatRoles.{roles_of}
use Rattle.rb_ledger.specs.Headline.{IsRunFrom, IsClosed}
use Rattle.rb_ledger.proofs.Runs.{whenever-free, once-gathered}
use Rattle.rb_ledger.proofs.Gathers.{collected}
use Rattle.rb_ledger.specs.ChapteredRing.{ChapteredRing, chaptered_ring, whole_of, HasChapters}
use Rattle.rb_ledger.specs.ChapterKnowledge.{ChapterKnowledge, chapter_view, whole_knowledge, whole_view, AllKnowHandedOut}
use Rattle.rb_ledger.specs.ChapterSeats.{whole_consumer}
use Rattle.rb_ledger.specs.ChapterClosing.{consumer_knowledge, ClosedWhereGathered}
use Rattle.rb_ledger.specs.ChapterHeadline.{IsRunTo, WheneverFreeByChapter}
use Rattle.rb_chapter_ring.proofs.Chain.{binds-continue}
use Rattle.rb_ledger.proofs.ChapterLock.{get-map, map-nil}
use Rattle.rb_ledger.proofs.BoundChapters.{handed-out-may-bind, closed-ties}

-- a run can be split at any entry
run-cut : (old : Ring) (earlier entries : List Entry) → IsRunFrom old (earlier ++ entries) → (p : Ring) × IsRunTo old earlier p × IsRunFrom p entries
run-cut old [] entries run = (old, refl, run)
run-cut old (e ∷ earlier) entries run = let rest = run-cut run.0 earlier entries run.2 in (rest.0, (run.0, run.1, rest.1), rest.2)

pub whenever-free-by-chapter : WheneverFreeByChapter
whenever-free-by-chapter v views kept pass u at known =
    let hs = kept.handed_out in
    let goes = kept.queued_goes_on.0 in
    let is = binds-continue hs v.chapter goes.has_chapters.binds in
    let whole = whenever-free (whole_ring (joined hs) v) (map whole_view views) kept.whole pass (whole_view u) (get-map views pass u at) (λ none. known (map-nil (λ (k : ChapterKnowledge). k.whole) u.knows none)) in
    let run = run-cut _ (joined hs) v.chapter.entries whole.one_run in (
      hs,
      record {
        goes_on = goes.has_chapters.binds;
        opening_is = is.opened;
        legal = is.legal;
        one_run = record { at_opening = run.0; earlier_run = run.1; run = run.2 };
        stands_for = (stands-alike (joined hs) v is).1 whole.stands_for;
      },
      subst (λ room. AllKnowHandedOut room hs u.knows) (sym goes.room_same) (kept.each_knows pass u at).handed_out_known,
    )

-- what the last of several roles knows
pub known-last : (room : ℕ) (handed_out : List Chapter) (ks : List ChapterKnowledge) (k : ChapterKnowledge) → AllKnowHandedOut room handed_out (ks ++ k ∷ []) → k.whole.role ≡ Consumer → k.handed_out ≡ handed_out
known-last room handed_out [] k known is = (known.0 is).1
known-last room handed_out (x ∷ ks) k known is = known-last room handed_out ks k known.1 is

pub closed-where-gathered : ClosedWhereGathered
closed-where-gathered seats c workers r after roles took tied taker has =
    let v = chapter_view (workers ++ consumer_knowledge c ∷ []) None in
    let own : PassView = pass_view (role_knowledge Consumer c.seen c.got ∷ []) None in
    let knows : whole_knowledge (workers ++ consumer_knowledge c ∷ []) ≡ roles_of seats ++ role_knowledge Consumer c.seen c.got ∷ [] =
    map-append (λ (k : ChapterKnowledge). k.whole) workers (consumer_knowledge c ∷ []) ∙ ap (λ ks. ks ++ role_knowledge Consumer c.seen c.got ∷ []) roles in
    let handed : c.handed_out ≡ took.taken.handed_out = known-last took.taken.ring.chapter.room took.taken.handed_out workers (consumer_knowledge c) took.known refl in
    let ring : took.taken ≡ chaptered_ring c.handed_out r = λ i. chaptered_ring (sym handed i) (took.ring_is i) in
    let closed : IsClosed (whole_of took.taken) seats (whole_consumer c) = collected seats (whole_consumer c) own (whole_view v) (whole_view after) (whole_of took.taken) refl (ap (λ ks. pass_view ks None) knows) took.whole tied taker has in
    let has_chapters : HasChapters (chaptered_ring c.handed_out r) = subst HasChapters ring took.has_chapters in
    let whole : IsClosed (whole_of (chaptered_ring c.handed_out r)) seats (whole_consumer c) = subst (λ (x : ChapteredRing). IsClosed (whole_of x) seats (whole_consumer c)) ring closed in
    record {
      gathered = record {
        may_bind = handed-out-may-bind c.handed_out r.chapter has_chapters.binds;
        tied = closed-ties (whole_of (chaptered_ring c.handed_out r)) seats c whole;
        gathered = once-gathered (whole_of (chaptered_ring c.handed_out r)) seats (whole_consumer c) whole;
      };
      closed = whole;
    }
