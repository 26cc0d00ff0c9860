-- One more take.
use Rattle.std.proofs.Common.{◌≡◌, ℕ, ◌<◌, inl, inr, arith, List, [], ◌∷◌, ◌++◌, length, refl, sym, ap, ◌∙◌, subst}
use Rattle.rb_history.specs.declared.answers.Taken.{Taken}
use Rattle.rb_history.specs.declared.answers.Taken.TheVariants.{BusyFront, Empty}
use Rattle.rb_history.specs.ManyTakes.{HasRecord}
use Rattle.rb_chapter_ring.specs.Chapters.{Chapter}
use Rattle.rb_chapter_ring.specs.ChapterRing.{ChapterRing}
use Rattle.rb_chapter_ring.specs.ChapterCalls.{TakesByChapter, HasBusyFrontByChapter, AllTakenByChapter, IsSameChapter}
use Rattle.rb_chapter_ring.specs.ManyTakes.{TakesEachInChapter, TakesManyInChapter}

pub each-more : (old mid new : ChapterRing) (ts : List Taken) (t : Taken) → TakesEachInChapter old ts mid → TakesByChapter mid new t → HasRecord t → TakesEachInChapter old (ts ++ t ∷ []) new
each-more old mid new [] t same takes is = (new, subst (λ r. TakesByChapter r new t) same takes, is, refl)
each-more old mid new (x ∷ ts) t each takes is = (each.0, each.1, each.2, each-more each.0 mid new ts t each.3 takes is)

-- ---- the end of the sequence

pub stops-busy : (n : ℕ) (old mid new : ChapterRing) (ts : List Taken) → TakesEachInChapter old ts mid → length ts < n → TakesByChapter mid new BusyFront → TakesManyInChapter n ts old new
stops-busy n old mid new ts each less found = record {
  each = subst (TakesEachInChapter old ts) (sym found.same) each;
  within = omega arith;
  stops = λ _. inl (subst HasBusyFrontByChapter (sym found.same) found.front);
}

pub stops-empty : (n : ℕ) (old mid new : ChapterRing) (ts : List Taken) → TakesEachInChapter old ts mid → length ts < n → TakesByChapter mid new Empty → TakesManyInChapter n ts old new
stops-empty n old mid new ts each less found = record {
  each = subst (TakesEachInChapter old ts) (sym found.same) each;
  within = omega arith;
  stops = λ _. inr (subst AllTakenByChapter (sym found.same) found.all_taken);
}

pub takes-all : (n : ℕ) (old new : ChapterRing) (ts : List Taken) → TakesEachInChapter old ts new → n ≡ length ts → TakesManyInChapter n ts old new
takes-all n old new ts each all = record { each = each; within = omega arith; stops = λ less. absurd (omega arith) }

-- takes stay in the same chapter
pub same-chapter : (old mid new : ChapterRing) → IsSameChapter old mid → IsSameChapter mid new → IsSameChapter old new
same-chapter old mid new a b = b ∙ ap (λ (c : Chapter). record c { entries = new.chapter.entries }) a
