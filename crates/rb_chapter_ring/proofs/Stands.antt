-- The summary of entries from an opening is the summary of the whole history.
use Rattle.std.proofs.Common.{◌≡◌, ℕ, ◌+◌, ◌<◌, cond, ◌↔◌, List, ◌++◌, refl, sym, ap, ◌∙◌, subst}
use Rattle.std.specs.List.{count_by, All}
use Rattle.std.proofs.lemmas.List.Sums.{sum_by-append}
use Rattle.rb_history.specs.declared.entries.Entry.{Entry}
use Rattle.rb_history.specs.History.{is_grant_of, grants, producer_of}
use Rattle.rb_history.specs.NoticesAndQueries.{query_answer}
use Rattle.rb_history.specs.RoomRule.{Setup}
use Rattle.rb_history.specs.Legal.{IsLegal}
use Rattle.rb_history.proofs.Laws.{KeptAs, kept-from-legal}
use Rattle.rb_history.specs.WorkerCounts.{tally_of, is_refusal_of, is_submit_of, is_discard_of}
use Rattle.rb_history.proofs.TakenRecords.{NeverBoth, never-both}
use Rattle.rb_chapter_ring.specs.Snapshot.{snapshot_of, counts_at, tally_at}
use Rattle.rb_chapter_ring.specs.CountedFrom.{snapshot_after, query_answer_from, tally_from, is_own_submit_from, is_own_discard_from, IsLegalFrom}
use Rattle.rb_chapter_ring.specs.WholeHistory.{IsSameFrom, CountedFromOpening}
use Rattle.rb_chapter_ring.proofs.From.{GoesFrom}
use Rattle.rb_chapter_ring.proofs.ChapterNumbers.{map-below, tally-at}
use Rattle.rb_chapter_ring.proofs.Same.{producer-same, consumer-same, records-same, submits-same, discards-same, events-same, skips-same, status-same}
use Rattle.rb_chapter_ring.proofs.Legal.{from-new, legal-from, legal-back, fits-from, fits-back}
use Rattle.rb_chapter_ring.proofs.Counts.{counts-are}
use Rattle.rb_chapter_ring.proofs.Granted.{granted-alike, busy-alike, waiting-alike}

module _ (r : Setup) (h : List Entry) (k : KeptAs r h) (never : NeverBoth h) (t : List Entry) (from : All (GoesFrom h (producer_of r.start h)) t) where
  tally-same : (w : ℕ) → w < r.workers → tally_from (snapshot_of r h) w t ≡ tally_of w (h ++ t)
  tally-same w l =
      let old = tally-at r h w l in
      let made : (tally_at (snapshot_of r h) w).made + grants w t ≡ grants w (h ++ t) = ap (λ x. x.made + grants w t) old ∙ sym (sum_by-append (λ e. cond (is_grant_of w e) 1 0) h t) in
      let refused : (tally_at (snapshot_of r h) w).refused + count_by (is_refusal_of w) t ≡ count_by (is_refusal_of w) (h ++ t) =
      ap (λ x. x.refused + count_by (is_refusal_of w) t) old ∙ sym (sum_by-append (λ e. cond (is_refusal_of w e) 1 0) h t) in
      let submitted : (tally_at (snapshot_of r h) w).submitted + count_by (is_own_submit_from (snapshot_of r h) w t) t ≡ count_by (is_submit_of w (h ++ t)) (h ++ t) =
      ap (λ x. x.submitted + count_by (is_own_submit_from (snapshot_of r h) w t) t) old ∙ submits-same r h k never t from w in
      let discarded : (tally_at (snapshot_of r h) w).discarded + count_by (is_own_discard_from (snapshot_of r h) w t) t ≡ count_by (is_discard_of w (h ++ t)) (h ++ t) =
      ap (λ x. x.discarded + count_by (is_own_discard_from (snapshot_of r h) w t) t) old ∙ discards-same r h k never t from w in
      λ i. record { made = made i; refused = refused i; submitted = submitted i; discarded = discarded i }

  stands : snapshot_after (snapshot_of r h) t ≡ snapshot_of r (h ++ t)
  stands =
      let producer = producer-same r h k never t in
      let consumer = consumer-same r h k never t from in
      let records = records-same r h k never t from in
      let tallies = map-below (λ w. tally_from (snapshot_of r h) w t) (λ w. tally_of w (h ++ t)) r.workers tally-same in
      let consumed = events-same r h k never t from in
      let skipped = skips-same r h k never t from in
      λ i. record { setup = r; producer = producer i; consumer = consumer i; records = records i; tallies = tallies i; consumed = consumed i; skipped = skipped i }

  pub queries : (q : ℕ) → query_answer_from (snapshot_of r h) t q ≡ query_answer r (h ++ t) q
  queries q = rw (producer-same r h k never t, consumer-same r h k never t from) refl

-- ---- h is legal

module _ (r : Setup) (h : List Entry) (l : IsLegal r h) (t : List Entry) where
  pub both-ways : IsLegalFrom (snapshot_of r h) t ↔ IsLegal r (h ++ t)
  both-ways = (legal-back r h (kept-from-legal r h l) (never-both r h l) t, legal-from r h (kept-from-legal r h l) (never-both r h l) t)

  pub said : IsLegalFrom (snapshot_of r h) t → IsSameFrom r h (snapshot_of r h) t
  said lt =
      let k = kept-from-legal r h l in
      let never = never-both r h l in
      let from = from-new r h k never t lt in
      let same = stands r h k never t from in
      record {
        stands = same;
        status = λ p free. status-same r h k never t p free;
        counts = ap counts_at same ∙ counts-are r (h ++ t) (both-ways.0 lt);
        query = λ q. queries r h k never t from q;
        fits = λ n. (fits-back r h k never t from n, fits-from r h k never t from n);
        waiting = waiting-alike r h k never t from;
        granted = granted-alike r h k never t from;
        busy = busy-alike r h k never t from;
      }

pub goes-on : CountedFromOpening
goes-on r h o l is t =
    (subst (λ x. IsLegalFrom x t ↔ IsLegal r (h ++ t)) (sym is) (both-ways r h l t), subst (λ x. IsLegalFrom x t → IsSameFrom r h x t) (sym is) (said r h l t))
