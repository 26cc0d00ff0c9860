-- The chapters that a ring handed out, followed by its current one.
use Rattle.std.proofs.Common.{◌≡◌, ◌+◌, List, [], ◌∷◌, ◌++◌, length, refl, sym, ap, ◌∙◌, subst, arith}
use Rattle.rb_history.specs.RoomRule.{Setup}
use Rattle.rb_history.proofs.Laws.{kept-none}
use Rattle.rb_chapter_ring.specs.Chapters.{Chapter, empty_ring, Meets, IsLegalChapter, AreMeeting, AreChaptersOf, joined, last_of}
use Rattle.rb_chapter_ring.specs.WholeHistory.{Binds, ContinuesHistory}
use Rattle.rb_chapter_ring.proofs.Join.{empty-is, chapters-join}
use Rattle.rb_chapter_ring.proofs.Bound.{once-bound}

-- the same, in terms of the first chapter that was handed out
abbrev pub AreHandedOut : Setup → List Chapter → Chapter → Type 0
AreHandedOut r [] c = (c.number ≡ 0) × (c.opening ≡ empty_ring r) × IsLegalChapter c
AreHandedOut r (h ∷ hs) c = (h.number ≡ 0) × (h.opening ≡ empty_ring r) × IsLegalChapter h × AreMeeting h (hs ++ c ∷ [])

head-is : (x y : Chapter) (xs ys : List Chapter) → x ∷ xs ≡ y ∷ ys → x ≡ y
head-is x y xs ys e = cc

tail-is : (x y : Chapter) (xs ys : List Chapter) → x ∷ xs ≡ y ∷ ys → xs ≡ ys
tail-is x y xs ys e = cc

chapters-at : (r : Setup) (x y : Chapter) (xs ys : List Chapter) → x ∷ xs ≡ y ∷ ys → AreChaptersOf r x xs → AreChaptersOf r y ys
chapters-at r x y xs ys e are = subst (λ (p : Chapter × List Chapter). AreChaptersOf r p.0 p.1) (λ i. (head-is x y xs ys e i, tail-is x y xs ys e i)) are

pub handed-out-are : (hs : List Chapter) (c : Chapter) → Binds hs c → AreHandedOut c.opening.setup hs c
handed-out-are [] c b = let are = chapters-at c.opening.setup b.first c b.rest [] b.all b.are in (are.from_zero, are.from_empty, are.legal)
handed-out-are (h ∷ hs) c b = let are = chapters-at c.opening.setup b.first h b.rest (hs ++ c ∷ []) b.all b.are in (are.from_zero, are.from_empty, are.legal, are.meeting)

pub handed-out-bind : (hs : List Chapter) (c : Chapter) → AreHandedOut c.opening.setup hs c → Binds hs c
handed-out-bind [] c a = record { first = c; rest = []; all = refl; are = record { from_zero = a.0; from_empty = a.1; legal = a.2; meeting = tt } }
handed-out-bind (h ∷ hs) c a = record { first = h; rest = hs ++ c ∷ []; all = refl; are = record { from_zero = a.0; from_empty = a.1; legal = a.2; meeting = a.3 } }

-- ---- chapters that meet

meeting-front : (h : Chapter) (hs : List Chapter) (c : Chapter) → AreMeeting h (hs ++ c ∷ []) → AreMeeting h hs
meeting-front h [] c m = tt
meeting-front h (x ∷ hs) c m = (m.0, m.1, meeting-front x hs c m.2)

meeting-last : (h : Chapter) (hs : List Chapter) (c : Chapter) → AreMeeting h (hs ++ c ∷ []) → Meets (last_of h hs) c × IsLegalChapter c
meeting-last h [] c m = (m.0, m.1)
meeting-last h (x ∷ hs) c m = meeting-last x hs c m.2

meeting-swap : (h : Chapter) (hs : List Chapter) (c d : Chapter) → d.number ≡ c.number → d.opening ≡ c.opening → IsLegalChapter d → AreMeeting h (hs ++ c ∷ []) → AreMeeting h (hs ++ d ∷ [])
meeting-swap h [] c d number opening legal m = (record { next_number = number ∙ m.0.next_number; goes_on = opening ∙ m.0.goes_on }, legal, tt)
meeting-swap h (x ∷ hs) c d number opening legal m = (m.0, m.1, meeting-swap x hs c d number opening legal m.2)

meeting-more : (h : Chapter) (hs : List Chapter) (c d : Chapter) → AreMeeting h (hs ++ c ∷ []) → Meets c d → IsLegalChapter d → AreMeeting h ((hs ++ c ∷ []) ++ d ∷ [])
meeting-more h [] c d m next legal = (m.0, m.1, (next, legal, tt))
meeting-more h (x ∷ hs) c d m next legal = (m.0, m.1, meeting-more x hs c d m.2 next legal)

meeting-number : (h : Chapter) (hs : List Chapter) (c : Chapter) → AreMeeting h (hs ++ c ∷ []) → c.number ≡ h.number + 1 + length hs
meeting-number h [] c m = let n = m.0.next_number in omega (arith, n)
meeting-number h (x ∷ hs) c m = let n = m.0.next_number in let rest = meeting-number x hs c m.2 in omega (arith, n, rest)

-- ---- facts about a ring's chapters

-- the current chapter continues the entries of those that were handed out
pub binds-continue : (hs : List Chapter) (c : Chapter) → Binds hs c → ContinuesHistory (joined hs) c
binds-continue hs c b = continue hs c (handed-out-are hs c b)
  where
    continue : (hs : List Chapter) (c : Chapter) → AreHandedOut c.opening.setup hs c → ContinuesHistory (joined hs) c
    continue [] c a = record { earlier_legal = (kept-none c.opening.setup).legal; opened = a.1 ∙ empty-is c.opening.setup; legal = a.2 }
    continue (h ∷ hs) c a =
        let last = meeting-last h hs c a.3 in
        let join = chapters-join c.opening.setup h hs (record { from_zero = a.0; from_empty = a.1; legal = a.2; meeting = meeting-front h hs c a.3 }) in
        record { earlier_legal = join.legal; opened = last.0.goes_on ∙ join.stands; legal = last.1 }

-- the same chapters, with other entries in the current one
pub binds-same : (hs : List Chapter) (c d : Chapter) → Binds hs c → d.number ≡ c.number → d.opening ≡ c.opening → IsLegalChapter d → Binds hs d
binds-same hs c d b number opening legal = handed-out-bind hs d (subst (λ r. AreHandedOut r hs d) (sym (ap (λ o. o.setup) opening)) (same hs c d (handed-out-are hs c b) number opening legal))
  where
    same : (hs : List Chapter) (c d : Chapter) → AreHandedOut c.opening.setup hs c → d.number ≡ c.number → d.opening ≡ c.opening → IsLegalChapter d → AreHandedOut c.opening.setup hs d
    same [] c d a number opening legal = (number ∙ a.0, opening ∙ a.1, legal)
    same (h ∷ hs) c d a number opening legal = (a.0, a.1, a.2, meeting-swap h hs c d number opening legal a.3)

-- the current chapter is handed out, and the next one meets it
pub binds-next : (hs : List Chapter) (c d : Chapter) → Binds hs c → Meets c d → IsLegalChapter d → Binds (hs ++ c ∷ []) d
binds-next hs c d b meets legal = handed-out-bind (hs ++ c ∷ []) d (subst (λ r. AreHandedOut r (hs ++ c ∷ []) d) (sym (ap (λ o. o.setup) meets.goes_on)) (next hs c d (handed-out-are hs c b) meets legal))
  where
    next : (hs : List Chapter) (c d : Chapter) → AreHandedOut c.opening.setup hs c → Meets c d → IsLegalChapter d → AreHandedOut c.opening.setup (hs ++ c ∷ []) d
    next [] c d a meets legal = (a.0, a.1, a.2, (meets, legal, tt))
    next (h ∷ hs) c d a meets legal = (a.0, a.1, a.2, meeting-more h hs c d a.3 meets legal)

-- the current chapter's number is the number of chapters that were handed out
pub binds-number : (hs : List Chapter) (c : Chapter) → Binds hs c → c.number ≡ length hs
binds-number hs c b = number hs c (handed-out-are hs c b)
  where
    number : (hs : List Chapter) (c : Chapter) → AreHandedOut c.opening.setup hs c → c.number ≡ length hs
    number [] c a = a.0
    number (h ∷ hs) c a = let n = meeting-number h hs c a.3 in omega (arith, n, a.0)

-- the entries after the current chapter was handed out
pub joined-next : (hs : List Chapter) (c : Chapter) → Binds hs c → joined (hs ++ c ∷ []) ≡ joined hs ++ c.entries
joined-next hs c b = (once-bound hs c b).entries
