use Rattle.std.proofs.Common.{◌∙◌, sym, ap, subst}
use Rattle.std.specs.Prelude.{All}
use Rattle.rb_stream_worker.specs.ContextRuns.{IsProgramFor}
use Rattle.rb_stream.specs.declared.report.StreamStop.{StreamStop}
use Rattle.rb_stream.proofs.Streams.{programs_fit, stopped_before}
use Rattle.rb_stream.proofs.stream_run.run_stream_as.Goals as goal

pub returns-then-unfit-clause-stopped : goal.returns-then-unfit-clause-stopped
returns-then-unfit-clause-stopped g c =
    let e = c.refusal.ensures in
    stopped_before g.S.Sink.position_of g.S.Sink.takes g.I.Source.gives c.args.opened.items c.args.programs.now c.args.full.now c.args.source.now c.refusal.result c.requires.opened (c.gives_nothing.ensures.law c.args.source.now)
    (ap (λ (s : StreamStop _). s.contexts) e) (ap (λ (s : StreamStop _). s.dropped) e) (ap (λ (s : StreamStop _). s.left) e) (ap (λ (s : StreamStop _). s.opened.items) e)

pub returns-then-unfit-2-clause-stopped : goal.returns-then-unfit-2-clause-stopped
returns-then-unfit-2-clause-stopped g c =
    let e = c.refusal-then-unfit-2.ensures in
    stopped_before g.S.Sink.position_of g.S.Sink.takes g.I.Source.gives c.args.opened.items c.args.programs.now c.args.full.now c.args.source.now c.refusal-then-unfit-2.result c.requires.opened (c.gives_nothing.ensures.law c.args.source.now)
    (ap (λ (s : StreamStop _). s.contexts) e) (ap (λ (s : StreamStop _). s.dropped) e) (ap (λ (s : StreamStop _). s.left) e) (ap (λ (s : StreamStop _). s.opened.items) e)

pub returns-then-count-eq0-clause-stopped : goal.returns-then-count-eq0-clause-stopped
returns-then-count-eq0-clause-stopped g c =
    let e = c.refusal-then-count-eq0.ensures in
    stopped_before g.S.Sink.position_of g.S.Sink.takes g.I.Source.gives c.args.opened.items c.args.programs.now c.args.full.now c.args.source.now c.refusal-then-count-eq0.result c.requires.opened (c.gives_nothing.ensures.law c.args.source.now)
    (ap (λ (s : StreamStop _). s.contexts) e) (ap (λ (s : StreamStop _). s.dropped) e) (ap (λ (s : StreamStop _). s.left) e) (ap (λ (s : StreamStop _). s.opened.items) e)

pub returns-in_default-clause-stopped : goal.returns-in_default-clause-stopped
returns-in_default-clause-stopped g c =
    let e = c.refusal-in_default.ensures in
    stopped_before g.S.Sink.position_of g.S.Sink.takes g.I.Source.gives c.args.opened.items c.args.programs.now c.args.full.now c.args.source.now c.refusal-in_default.result c.requires.opened (c.gives_nothing.ensures.law c.args.source.now)
    (ap (λ (s : StreamStop _). s.contexts) e) (ap (λ (s : StreamStop _). s.dropped) e) (ap (λ (s : StreamStop _). s.left) e) (ap (λ (s : StreamStop _). s.opened.items) e)

pub returns-in_default-make_buffers-clause-stopped : goal.returns-in_default-make_buffers-clause-stopped
returns-in_default-make_buffers-clause-stopped g c =
    let e = c.refusal-in_default-make_buffers.ensures in
    stopped_before g.S.Sink.position_of g.S.Sink.takes g.I.Source.gives c.args.opened.items c.args.programs.now c.args.full.now c.args.source.now c.refusal-in_default-make_buffers.result c.requires.opened (c.gives_nothing.ensures.law c.args.source.now)
    (ap (λ (s : StreamStop _). s.contexts) e) (ap (λ (s : StreamStop _). s.dropped) e) (ap (λ (s : StreamStop _). s.left) e) (ap (λ (s : StreamStop _). s.opened.items) e)

pub run_known-requires-clause-fit : goal.run_known-requires-clause-fit
run_known-requires-clause-fit g c κs within =
    let programs = c.args.programs.now in
    let unfit = c.find_unfit-unfit.ensures in
    subst (λ n. All (IsProgramFor n c.ctx_len-ctx_len.result) programs) c.len.ensures
    (programs_fit c.len.result c.ctx_len-ctx_len.result programs (sym unfit.rings ∙ c.if-unfit.false) (sym unfit.length ∙ c.if-unfit-2.false))
