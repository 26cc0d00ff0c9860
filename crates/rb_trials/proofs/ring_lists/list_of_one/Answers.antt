use Rattle.std.proofs.Common.{List, [], ◌∷◌, sym, subst}
use Rattle.std.proofs.lemmas.List.Elements.{All-cons, All-nil}
use Rattle.rb_workers.specs.declared.opened.Opened.{Opened}
use Rattle.rb_workers.specs.declared.null_sink.NullSink.{NullSink}
use Rattle.rb_workers.specs.Opened.{AreOpened, IsOpened}
use Rattle.rb_workers.proofs.Fresh.{all_opened}
use Rattle.rb_trials.proofs.ring_lists.list_of_one.Goals as goal

pub returns-in-Ok : goal.returns-in-Ok
returns-in-Ok c =
    let Is = IsOpened (λ (s : NullSink). s.position) c.args.workers in
    subst (λ (l : List (Opened NullSink)). AreOpened (λ (s : NullSink). s.position) l) (sym c.in-Ok.ensures.items)
    (all_opened (λ (s : NullSink). s.position) c.args.workers (c.args.ring ∷ []) (All-cons Is c.args.ring [] c.requires (All-nil Is)))
