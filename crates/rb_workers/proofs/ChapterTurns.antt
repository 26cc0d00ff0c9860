-- A keeper's turn gives the sink the chapter that was handed out, and takes no record.
use Rattle.std.proofs.Common.{◌≡◌, ℕ, List, [], ◌∷◌, ◌++◌, refl, ap, sym, ◌∙◌, subst, append-nil, arith}
use Rattle.std.proofs.lemmas.List.Elements.{All-nil, All-cons}
use Rattle.std.specs.FinMap.{get}
use Rattle.rb_chapter_ring.specs.Chapters.{Chapter as RingChapter}
use Rattle.rb_ledger.specs.Roles.{Book, BeginsWith, book_of}
use Rattle.rb_ledger.specs.Roles.Role.{Consumer}
use Rattle.rb_ledger.specs.LockedCalls.{LockedCall}
use Rattle.rb_ledger.proofs.Beginnings.{begins_through, call_begins, same_begins}
use Rattle.rb_ledger.specs.ChapterSeats.{ChapterConsumerSeat}
use Rattle.rb_ledger.proofs.WholeCalls.{each-call-is-whole}
use Rattle.rb_shared_ring.specs.SharedSeats.{IsSameChapterConsumer, TakesNothing}
use Rattle.rb_consumer.specs.Turns.{TurnsChapter}
use Rattle.rb_workers.specs.Sink.{SinkItem, IsRecordIn, takes_in}
use Rattle.rb_workers.specs.Sink.SinkItem.{Chapter}
use Rattle.rb_workers.specs.inner.ConsumerTasks.{HasGiven, IsSameConsumer}
use Rattle.rb_workers.proofs.SinkItems.{takes_stay, still, one_item}

-- ---- a call that changes nothing

nothing_taken : (before after : Book) → LockedCall Consumer before after (λ old new. new ≡ old) → takes_in after.history ≡ takes_in before.history
nothing_taken before after call = ap (λ (b : Book). takes_in b.history) (call.seen ∙ ap book_of call.called) ∙ takes_stay before (book_of call.point) call.goes_on

nothing_begins : (before after : Book) → LockedCall Consumer before after (λ old new. new ≡ old) → BeginsWith after before
nothing_begins before after call = call_begins Consumer before after (λ old new. new ≡ old) (λ a b same. same_begins a b same) call

-- ---- a turn

module _ (margin : ℕ) (old new : ChapterConsumerSeat) where
  looks : (lent : List RingChapter) (t : TurnsChapter margin old new lent) → LockedCall Consumer old.seen t.looked (λ a b. b ≡ a)
  looks lent t = (each-call-is-whole old.seen t.looked).tells_used old.handed_out t.entries t.more t.look

  hands : (c : RingChapter) (cs : List RingChapter) (t : TurnsChapter margin old new (c ∷ cs)) → LockedCall Consumer t.looked new.seen (λ a b. b ≡ a)
  hands c cs t = ((each-call-is-whole t.looked new.seen).hands_out old.handed_out c t.hands_out.1).0

  pub turn_takes : (lent : List RingChapter) → TurnsChapter margin old new lent → takes_in new.seen.history ≡ takes_in old.seen.history
  turn_takes [] t = ap (λ (b : Book). takes_in b.history) t.hands_out.1 ∙ nothing_taken old.seen t.looked (looks [] t)
  turn_takes (c ∷ cs) t = nothing_taken t.looked new.seen (hands c cs t) ∙ nothing_taken old.seen t.looked (looks (c ∷ cs) t)

  turn_begins : (lent : List RingChapter) → TurnsChapter margin old new lent → BeginsWith new.seen old.seen
  turn_begins [] t = subst (λ b. BeginsWith b old.seen) (sym t.hands_out.1) (nothing_begins old.seen t.looked (looks [] t))
  turn_begins (c ∷ cs) t = begins_through old.seen t.looked new.seen (nothing_begins old.seen t.looked (looks (c ∷ cs) t)) (nothing_begins t.looked new.seen (hands c cs t))

  pub turn_same : (lent : List RingChapter) → TurnsChapter margin old new lent → IsSameChapterConsumer old new → IsSameConsumer old new
  turn_same lent t same = record { tag_same = same.tag_same; ring_same = same.ring_same; room_same = same.room_same; begins = turn_begins lent t }

  -- ---- what the sink is given

  pub turned_none : {S : Type 0} (takes : S → SinkItem → S → Type 0) (x : S) → TurnsChapter margin old new [] → TakesNothing old new → new.handed_out ≡ old.handed_out ++ [] → HasGiven takes old new x x
  turned_none takes x t nothing chapters =
      let position = nothing.position_same in
      still takes old new x x (turn_takes [] t) (omega (arith, position)) nothing.got_same (chapters ∙ append-nil old.handed_out) refl

  pub turned_one : {S : Type 0} (takes : S → SinkItem → S → Type 0) (c : RingChapter) (x y : S) → TurnsChapter margin old new (c ∷ []) → TakesNothing old new → new.handed_out ≡ old.handed_out ++ c ∷ [] → takes x (Chapter c) y
      → HasGiven takes old new x y
  turned_one takes c x y t nothing chapters took =
      let position = nothing.position_same in
      record {
        gets = record {
          items = Chapter c ∷ [];
          taken_are = turn_takes (c ∷ []) t ∙ sym (append-nil (takes_in old.seen.history));
          records_are = All-cons (IsRecordIn new.seen.history new.got) (Chapter c) [] tt (All-nil (IsRecordIn new.seen.history new.got));
          chapters_are = chapters;
          given = (y, took, refl);
        };
        moved = omega (arith, position);
        passed = one_item new.position (Chapter c) tt;
        keeps = λ p below. ap (λ m. get m p) nothing.got_same;
      }
