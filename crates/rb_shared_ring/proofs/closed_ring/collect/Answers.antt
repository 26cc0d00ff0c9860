use Rattle.std.proofs.Common.{◌≡◌, ◌∷◌, ◌++◌, [], Option, Some, None, ◌∙◌, refl, sym, ap, subst}
use Rattle.std.specs.List.{All}
use Rattle.crossbeam_queue.specs.Passes.{view}
use Rattle.rb_ledger.specs.ChapterKnowledge.{ChapterPassView, chapter_view}
use Rattle.rb_ledger.specs.ChapterLockSteps.{TakesChapterState}
use Rattle.rb_ledger.specs.ChapterClosing.{consumer_knowledge}
use Rattle.rb_ledger.proofs.ChapterGathers.{closed-where-gathered, known-last}
use Rattle.rb_ledger.specs.ChapteredRing.{ChapteredRing}
use Rattle.rb_ledger.specs.HandKnowledge.{HandPassView, without_hands}
use Rattle.rb_ledger.specs.HandedOut.{KnewHandedOut}
use Rattle.rb_shared_ring.proofs.closed_ring.collect.Goals as goal

pub gather-requires-clause-seats : goal.gather-requires-clause-seats
gather-requires-clause-seats g c = subst (λ t. All (λ s. s.ring ≡ t) c.args.seats.items) (sym c.into_pass-pass.ensures.ring.0) c.requires.seats

pub take_out-requires-clause-free : goal.take_out-requires-clause-free
take_out-requires-clause-free g c = c.gather.ensures.out ∙ c.into_pass-pass.ensures.free

pub returns : goal.returns
returns g c =
    let knows = c.gather.ensures.knows in
    let own = c.into_pass-pass.ensures.knows in
    let all : without_hands (view c.gather.new.pass) ≡ chapter_view (knows.0 ++ consumer_knowledge c.args.consumer ∷ []) None = knows.1 ∙ (λ i. chapter_view (knows.0 ++ (own i).knows) (own i).out) in
    let r = c.take_out.result.value.state.ring in
    let after = without_hands (view c.take_out.new.pass) in
    let took = subst (λ (v : ChapterPassView). TakesChapterState v r after) all c.take_out.ensures.took.chapters in
    let lent = c.take_out.ensures.took in
    let same : took.taken ≡ lent.taken.chaptered = same-chapters took.taken lent.taken.chaptered (sym (ap (λ (x : ChapterPassView). x.out) took.out_is) ∙ ap (λ (x : HandPassView). (without_hands x).out) lent.out_is) in
    let handed : c.args.consumer.handed_out ≡ lent.taken.chaptered.handed_out =
    known-last took.taken.ring.chapter.room took.taken.handed_out knows.0 (consumer_knowledge c.args.consumer) took.known refl ∙ ap (λ (x : ChapteredRing). x.handed_out) same in
    record {
      closed = closed-where-gathered c.args.seats.items c.args.consumer knows.0 r after knows.2 took c.gather.ensures.ties c.into_pass-pass.ensures.ties c.requires.all;
      knew = subst (λ hs. KnewHandedOut hs c.args.seats.items) (sym handed) (c.gather.ensures.knew lent.taken.chaptered.ring.chapter.room lent.taken.chaptered.handed_out lent.taken.hands lent.known);
    }
  where
    same-chapters : (a b : ChapteredRing) → ◌≡◌ {A = Option ChapteredRing} (Some a) (Some b) → a ≡ b
    same-chapters a b e = cc
