use Rattle.std.proofs.Common.{◌≡◌, ◌<◌, ◌∷◌, ◌++◌, [], inl, inr, length, length-append, append-nil, arith, ap, sym, ◌∙◌, refl, subst}
use Rattle.std.proofs.lemmas.List.{drop_all}
use Rattle.rb_history.proofs.ManyTakes.{has-record, pushed-more, kept-more}
use Rattle.rb_history.specs.ManyTakes.{pushed}
use Rattle.rb_chapter_ring.specs.ChapterCalls.{TakesByChapter}
use Rattle.rb_chapter_ring.specs.ManyTakes.{TakesEachInChapter}
use Rattle.rb_chapter_ring.proofs.ManyTakes.{each-more, stops-busy, stops-empty, takes-all, same-chapter}
use Rattle.rb_chapter_ring.proofs.ring.RingState.take_many.Goals as goal

pub returns-in-BusyFront-clause-same_chapter : goal.returns-in-BusyFront-clause-same_chapter
returns-in-BusyFront-clause-same_chapter c = same-chapter c.args.self.now.state.ring c.loop-count.self.state.ring c.take.new.self.state.ring c.loop-count.invariant.same_chapter c.take.ensures.same_chapter

pub returns-in-BusyFront-clause-takes : goal.returns-in-BusyFront-clause-takes
returns-in-BusyFront-clause-takes c =
    let i = c.loop-count.invariant in
    let less : length (pushed c.args.out.now.items c.loop-count.out.items) < c.args.n = omega arith in
    elim c.in-BusyFront.is [
      | inl busy ↦ stops-busy c.args.n c.args.self.now.state.ring c.loop-count.self.state.ring c.take.new.self.state.ring _ i.each less (subst (TakesByChapter c.loop-count.self.state.ring c.take.new.self.state.ring) busy c.take.ensures.takes)
      | inr empty ↦ stops-empty c.args.n c.args.self.now.state.ring c.loop-count.self.state.ring c.take.new.self.state.ring _ i.each less (subst (TakesByChapter c.loop-count.self.state.ring c.take.new.self.state.ring) empty c.take.ensures.takes)
    ]

pub loop-count-preserved : goal.loop-count-preserved
loop-count-preserved c =
    let i = c.loop-count.invariant in
    let before = c.args.out.now.items in
    let mid = c.loop-count.out.items in
    let after = c.push_reserved.new.self.items in
    let more = pushed-more before mid after c.take.result i.kept c.push_reserved.ensures.items in
    let each = each-more c.args.self.now.state.ring c.loop-count.self.state.ring c.take.new.self.state.ring (pushed before mid) c.take.result i.each c.take.ensures.takes (has-record c.take.result c.in_default.not-BusyFront c.in_default.not-Empty) in
    record {
      same_chapter = same-chapter c.args.self.now.state.ring c.loop-count.self.state.ring c.take.new.self.state.ring i.same_chapter c.take.ensures.same_chapter;
      each = subst (λ ts. TakesEachInChapter c.args.self.now.state.ring ts c.take.new.self.state.ring) (sym more) each;
      same_tag = c.take.ensures.same_tag ∙ i.same_tag;
      same_hands = c.take.ensures.same_hands ∙ i.same_hands;
      kept = kept-more before mid after c.take.result i.kept c.push_reserved.ensures.items;
      count_is = omega (arith, i.count_is, ap length more, length-append (pushed before mid) (c.take.result ∷ []));
      capacity = c.push_reserved.ensures.capacity ∙ i.capacity;
    }

pub returns-clause-takes : goal.returns-clause-takes
returns-clause-takes c = takes-all c.args.n _ _ _ c.loop-count.invariant.each (omega arith)

pub loop-count-init : goal.loop-count-init
loop-count-init c =
    let xs = c.args.out.now.items in
    let none : pushed xs xs ≡ [] = drop_all (length xs) xs (omega arith) in
    rw c.compact.ensures.same (record {
      same_tag = refl;
      same_chapter = refl;
      each = subst (λ ts. TakesEachInChapter c.args.self.now.state.ring ts c.args.self.now.state.ring) (sym none) refl;
      same_hands = refl;
      kept = sym (append-nil xs) ∙ ap (λ zs. xs ++ zs) (sym none);
      count_is = sym (ap length none);
      capacity = refl;
    })
