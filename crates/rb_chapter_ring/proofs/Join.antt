-- Chapters that meet join to a legal history.
use Rattle.std.proofs.Common.{◌≡◌, List, [], ◌∷◌, ◌++◌, sym, ap, ◌∙◌, subst, append_assoc, append-nil, add-zero}
use Rattle.rb_history.specs.declared.entries.Entry.{Entry}
use Rattle.rb_history.specs.RoomRule.{Setup}
use Rattle.rb_history.specs.Legal.{IsLegal}
use Rattle.rb_history.proofs.Laws.{kept-none}
use Rattle.rb_chapter_ring.specs.Snapshot.{snapshot_of}
use Rattle.rb_chapter_ring.specs.Chapters.{Chapter, empty_ring, closing_of, IsLegalChapter, AreMeeting, joined, last_of}
use Rattle.rb_chapter_ring.specs.WholeHistory.{ChaptersJoin}
use Rattle.rb_chapter_ring.proofs.ChapterNumbers.{tallies-none}
use Rattle.rb_chapter_ring.proofs.Stands.{goes-on}

-- the empty ring is the summary of the empty history
pub empty-is : (r : Setup) → empty_ring r ≡ snapshot_of r []
empty-is r = λ i. record { setup = r; producer = sym (add-zero r.start) i; consumer = sym (add-zero r.start) i; records = []; tallies = sym (tallies-none r.workers) i; consumed = 0; skipped = 0 }

record JoinFrom (r : Setup) (h : List Entry) (c : Chapter) (cs : List Chapter) : Type 0 where
  legal : IsLegal r (h ++ joined (c ∷ cs))
  stands : closing_of (last_of c cs) ≡ snapshot_of r (h ++ joined (c ∷ cs))

join-from : (r : Setup) (h : List Entry) (c : Chapter) (cs : List Chapter) → IsLegal r h → c.opening ≡ snapshot_of r h → IsLegalChapter c → AreMeeting c cs → JoinFrom r h c cs
join-from r h c [] l opened legal follow =
    let both = goes-on r h c.opening l opened c.entries in
    let all : c.entries ++ [] ≡ c.entries = append-nil c.entries in
    record {
      legal = subst (λ x. IsLegal r (h ++ x)) (sym all) (both.0.0 legal);
      stands = (both.1 legal).stands ∙ ap (λ x. snapshot_of r (h ++ x)) (sym all);
    }
join-from r h c (d ∷ ds) l opened legal follow =
    let both = goes-on r h c.opening l opened c.entries in
    let rest = join-from r (h ++ c.entries) d ds (both.0.0 legal) (follow.0.goes_on ∙ (both.1 legal).stands) follow.1 follow.2 in
    let cut : (h ++ c.entries) ++ joined (d ∷ ds) ≡ h ++ (c.entries ++ joined (d ∷ ds)) = append_assoc h c.entries (joined (d ∷ ds)) in
    record { legal = subst (IsLegal r) cut rest.legal; stands = rest.stands ∙ ap (snapshot_of r) cut }

pub chapters-join : ChaptersJoin
chapters-join r first rest are =
    let j = join-from r [] first rest (kept-none r).legal (are.from_empty ∙ empty-is r) are.legal are.meeting in
    record { legal = j.legal; stands = j.stands }
