use Rattle.std.proofs.Common.{List, [], ◌∷◌, sym, subst}
use Rattle.std.proofs.lemmas.List.Elements.{All-cons, All-nil}
use Rattle.rb_workers.specs.declared.opened.Opened.{Opened}
use Rattle.rb_stream_tests.specs.declared.stalled_consumer.HeldSink.{HeldSink}
use Rattle.rb_workers.specs.Opened.{AreOpened, IsOpened}
use Rattle.rb_workers.proofs.Fresh.{all_opened}
use Rattle.rb_stream_tests.proofs.stalled_consumer.one_ring.Goals as goal

pub returns : goal.returns
returns g c =
    let Is = IsOpened (λ (s : HeldSink). s.position) 1 in
    subst (λ (l : List (Opened HeldSink)). AreOpened (λ (s : HeldSink). s.position) l) (sym c.in-Ok.ensures.items)
    (all_opened (λ (s : HeldSink). s.position) 1 (c.opened-first.result ∷ []) (All-cons Is c.opened-first.result [] c.opened-first.ensures (All-nil Is)))
