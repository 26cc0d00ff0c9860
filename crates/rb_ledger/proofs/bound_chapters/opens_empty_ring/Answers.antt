use Rattle.std.proofs.Common.{◌≡◌, [], length, sym, ◌∙◌, arith}
use Rattle.std.proofs.lemmas.Bool.{eqb-true}
use Rattle.rb_chapter_ring.specs.UntakenRecords.{untaken_shown}
use Rattle.rb_ledger.proofs.BindingSteps.{none-mapped, opens-exact}
use Rattle.rb_ledger.proofs.bound_chapters.opens_empty_ring.Goals as goal

pub returns : goal.returns
returns c =
    let o = c.opening-opening.result.now.opening in
    let producer : o.producer ≡ o.setup.start = omega (arith, c.numbers-numbers.ensures.producer, c.numbers-numbers.ensures.start, c.if-numbers.false) in
    let consumer : o.consumer ≡ o.setup.start = omega (arith, c.numbers-numbers.ensures.consumer, c.numbers-numbers.ensures.start, c.if-numbers-2.false) in
    let consumed : o.consumed ≡ 0 = omega (arith, c.numbers-numbers.ensures.consumed, c.if-numbers-ne0.false) in
    let skipped : o.skipped ≡ 0 = omega (arith, c.numbers-numbers.ensures.skipped, c.if-numbers-ne0-2.false) in
    let none : length c.records.result.now ≡ 0 = eqb-true (length c.records.result.now) 0 (sym c.is_empty.ensures ∙ c.if-not-is_empty.false) in
    let records : o.records ≡ [] = sym c.records.ensures.records ∙ none-mapped untaken_shown c.records.result.now none in
    record { exact = opens-exact c.args.chapter.now o c.are_none.result c.tallies.result.now c.opening-opening.ensures.opening c.facts.ensures.kept producer consumer consumed skipped records c.tallies.ensures.tallies c.are_none.ensures.exact }
