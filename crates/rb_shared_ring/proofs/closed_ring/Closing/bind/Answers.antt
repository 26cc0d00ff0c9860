use Rattle.std.proofs.Common.{List, subst}
use Rattle.rb_chapter_ring.specs.Chapters.{Chapter}
use Rattle.rb_chapter_ring.specs.WholeHistory.{IsBound}
use Rattle.rb_ledger.proofs.BoundChapters.{tied-once-bound, gathered-at}
use Rattle.rb_shared_ring.proofs.closed_ring.Closing.bind.Goals as goal

pub returns-in-Ok-clause-history : goal.returns-in-Ok-clause-history
returns-in-Ok-clause-history c =
    let bound : IsBound c.args.chapters.items c.args.self.at_end.chapter c.in-Ok.history.items = subst (λ (p : List Chapter × Chapter). IsBound p.0 p.1 c.in-Ok.history.items) (λ i. (c.deref.ensures.value i, c.chapter.ensures.chapter i)) c.in-Ok.ensures.bound in
    bound.entries

pub returns-in-Ok-clause-legal : goal.returns-in-Ok-clause-legal
returns-in-Ok-clause-legal c =
    let bound : IsBound c.args.chapters.items c.args.self.at_end.chapter c.in-Ok.history.items = subst (λ (p : List Chapter × Chapter). IsBound p.0 p.1 c.in-Ok.history.items) (λ i. (c.deref.ensures.value i, c.chapter.ensures.chapter i)) c.in-Ok.ensures.bound in
    bound.legal

pub returns-in-Ok-clause-tied : goal.returns-in-Ok-clause-tied
returns-in-Ok-clause-tied c =
    let bound : IsBound c.args.chapters.items c.args.self.at_end.chapter c.in-Ok.history.items = subst (λ (p : List Chapter × Chapter). IsBound p.0 p.1 c.in-Ok.history.items) (λ i. (c.deref.ensures.value i, c.chapter.ensures.chapter i)) c.in-Ok.ensures.bound in
    λ seats consumer gathered. tied-once-bound c.args.self.at_end seats consumer c.args.chapters.items c.in-Ok.history.items gathered bound

pub returns-in-Ok-clause-gathered : goal.returns-in-Ok-clause-gathered
returns-in-Ok-clause-gathered c =
    let bound : IsBound c.args.chapters.items c.args.self.at_end.chapter c.in-Ok.history.items = subst (λ (p : List Chapter × Chapter). IsBound p.0 p.1 c.in-Ok.history.items) (λ i. (c.deref.ensures.value i, c.chapter.ensures.chapter i)) c.in-Ok.ensures.bound in
    λ seats consumer gathered same. gathered-at c.args.self.at_end seats consumer c.args.chapters.items c.in-Ok.history.items gathered bound same
