use Rattle.std.proofs.Common.{subst, sym}
use Rattle.rb_source.specs.Stream.{FailsAs, FramedInput, IsFresh}
use Rattle.rb_service.proofs.StreamReports.{as_many_rings, stream_printed}
use Rattle.rb_service.proofs.command.stream_from.Goals as goal

pub report_on-requires : goal.report_on-requires
report_on-requires g c = record {
  rings = as_many_rings _ _ _ c.args.options.now c.args.plans.items c.args.programs.now _ _ _ c.in-Ok.report c.in-Ok.ensures.served c.requires.sizes;
}

pub returns-in-Ok-clause-streamed : goal.returns-in-Ok-clause-streamed
returns-in-Ok-clause-streamed g c =
    let e = c.in-Ok.ensures in
    let fresh : IsFresh c.args.input c.args.options.now.framing c.args.options.now.form c.new-source.result.source = subst (λ (s : FramedInput _). IsFresh c.args.input c.args.options.now.framing c.args.options.now.form s) (sym c.new-source.ensures.source) c.in_ok-reader.ensures.fresh in
    stream_printed _ _ g.I.Read.remaining (λ s. s.source) c.args.options.now c.args.plans.items c.args.programs.now c.args.input c.new-source.result c.serve.new.source c.in-Ok.report c.counts.result
    c.requires.accepted c.requires.sizes c.requires.begins fresh e.served c.counts.ensures.value c.report_on.result (λ s. FailsAs g.I.Read.remaining s.source) c.args.printed.now.items c.report_on.new.printed.items
    e.end e.adds_up e.no_strays e.nothing_left e.none_refused c.report_on.ensures.counted c.report_on.ensures.over
