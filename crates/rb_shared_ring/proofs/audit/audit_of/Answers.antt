use Rattle.std.proofs.Common.{◌≡◌, ◌<◌, ◌∙◌, ap, sym, subst, length, refl, slice_index_or}
use Rattle.rb_chapter_ring.specs.Snapshot.{Snapshot, no_tally, tally_at}
use Rattle.rb_chapter_ring.specs.Chapters.{closing_of}
use Rattle.rb_chapter_ring.proofs.ChapterNumbers.{tally-after}
use Rattle.rb_shared_ring.proofs.SeatNumbers.{totals-long}
use Rattle.rb_shared_ring.proofs.audit.audit_of.Goals as goal

pub tally_in-requires : goal.tally_in-requires
tally_in-requires c =
    let v = c.args.state.now.state.ring.chapter in
    let same : c.closing-closing.result.now.opening ≡ closing_of v = c.closing-closing.ensures.closing ∙ ap closing_of c.chapter.ensures.chapter in
    let long = ap length c.tallies.ensures.tallies ∙ ap (λ (o : Snapshot). length o.tallies) same ∙ totals-long v in
    record { worker = subst (λ n. c.args.worker < n) (sym long) c.requires.worker }

pub returns : goal.returns
returns c =
    let v = c.args.state.now.state.ring.chapter in
    let same : c.closing-closing.result.now.opening ≡ closing_of v = c.closing-closing.ensures.closing ∙ ap closing_of c.chapter.ensures.chapter in
    record {
      audit = record {
        producer_is = c.numbers-numbers.ensures.producer ∙ ap (λ (o : Snapshot). o.producer) same;
        consumer_is = c.numbers-numbers.ensures.consumer ∙ ap (λ (o : Snapshot). o.consumer) same;
        counts_are = c.counts.ensures.counts;
        own_is = c.tally_in.ensures.tally ∙ ap (λ ts. slice_index_or ts c.args.worker no_tally) c.tallies.ensures.tallies ∙ ap (λ (o : Snapshot). tally_at o c.args.worker) same ∙ tally-after v.opening v.entries c.args.worker c.requires.worker;
        same = refl;
      };
    }
