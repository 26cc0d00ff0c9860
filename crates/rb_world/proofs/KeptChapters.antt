-- The chapters of a world's ring bind after any turns.
use Rattle.std.proofs.Common.{◌≡◌, ℕ, ◌<◌, List, [], ◌∷◌, ◌++◌, length, refl, sym, ap, subst, ◌∙◌}
use Rattle.rb_history.specs.declared.answers.Taken.{Taken}
use Rattle.rb_history.specs.RoomRule.{Setup}
use Rattle.rb_chapter_ring.specs.Chapters.{Chapter, first_chapter, joined}
use Rattle.rb_chapter_ring.specs.ChapterCalls.{IsSameChapter, HandsOut}
use Rattle.rb_chapter_ring.specs.TaggedRing.{TaggedRing}
use Rattle.rb_chapter_ring.specs.WholeHistory.{Binds, IsBound, IsKept}
use Rattle.rb_chapter_ring.proofs.Bound.{once-bound}
use Rattle.rb_chapter_ring.proofs.Chain.{handed-out-bind, binds-continue, binds-same, binds-next, joined-next}
use Rattle.rb_chapter_ring.proofs.Empty.{empty-kept}
use Rattle.rb_chapter_ring.proofs.Keeping.{calls-keep}
use Rattle.rb_world.specs.Worlds.{WorldRing}
use Rattle.rb_world.specs.WorldValue.{KeptRing, WorldValue, world_of, ring_at}
use Rattle.rb_world.specs.inner.KeptChapters.{KeepsChapters}
use Rattle.rb_world.proofs.WholeTurns.{ring-shown}

pub kept-of : (s : KeptRing) → KeepsChapters s → IsKept (joined s.chapters) s.ring.state.ring.chapter
kept-of s has = record { continues = binds-continue s.chapters s.ring.state.ring.chapter has.binds; room = has.room }

-- a ring in its first chapter
pub first-has : (room : ℕ) (r : Setup) (s : KeptRing) → s.ring.state.ring.chapter ≡ first_chapter room r → s.chapters ≡ [] → KeepsChapters s
first-has room r s first none =
    let kept : IsKept [] s.ring.state.ring.chapter = subst (IsKept []) (sym first) (empty-kept room r) in
    record {
      binds = subst (λ hs. Binds hs s.ring.state.ring.chapter) (sym none) (subst (Binds []) (sym first) (handed-out-bind [] (first_chapter room r) (refl, refl, (empty-kept room r).continues.legal)));
      room = kept.room;
    }

-- a ring in the same chapter, with other entries
pub same-has : (s : KeptRing) (new : TaggedRing) (taken : List Taken) → KeepsChapters s → IsSameChapter s.ring.state.ring new.state.ring → IsKept (joined s.chapters) new.state.ring.chapter → KeepsChapters (record { ring = new; chapters = s.chapters; taken = taken })
same-has s new taken has same kept = record {
  binds = binds-same s.chapters s.ring.state.ring.chapter new.state.ring.chapter has.binds (ap (λ (c : Chapter). c.number) same) (ap (λ (c : Chapter). c.opening) same) kept.continues.legal;
  room = kept.room;
}

-- its chapter was handed out, and appended to the others
pub next-has : (s : KeptRing) (new : TaggedRing) (out : Chapter) → KeepsChapters s → HandsOut s.ring.state.ring new.state.ring out → KeepsChapters (record s { ring = new; chapters = s.chapters ++ out ∷ [] })
next-has s new out has h =
    let kept = (calls-keep (joined s.chapters) s.ring.state.ring new.state.ring (kept-of s has)).hands_out out h in
    record {
      binds = subst (λ c. Binds (s.chapters ++ c ∷ []) new.state.ring.chapter) (sym h.next.out_is) (binds-next s.chapters s.ring.state.ring.chapter new.state.ring.chapter has.binds h.next.next_is kept.continues.legal);
      room = kept.room;
    }

-- chapters that bind are the whole history that the world shows
pub bound-of : (v : WorldValue) (r : ℕ) → r < length v.rings → Binds (ring_at v r).chapters (ring_at v r).ring.state.ring.chapter → IsBound (ring_at v r).chapters (ring_at v r).ring.state.ring.chapter ((world_of v).rings r).ring.history
bound-of v r low binds =
    let s = ring_at v r in
    let bound = once-bound s.chapters s.ring.state.ring.chapter binds in
    subst (IsBound s.chapters s.ring.state.ring.chapter) (joined-next s.chapters s.ring.state.ring.chapter binds ∙ sym (ap (λ (x : WorldRing). x.ring.history) (ring-shown v r low))) bound
