use Rattle.std.proofs.Common.{List, [], ◌∷◌, sym, subst}
use Rattle.std.proofs.lemmas.List.Elements.{All-cons, All-nil}
use Rattle.rb_workers.specs.declared.opened.Opened.{Opened}
use Rattle.rb_stream_tests.specs.declared.given.EventSum.{EventSum}
use Rattle.rb_workers.specs.Opened.{AreOpened, IsOpened}
use Rattle.rb_workers.proofs.Fresh.{all_opened}
use Rattle.rb_stream_tests.proofs.given.two_rings.Goals as goal

pub returns : goal.returns
returns g c =
    let Is = IsOpened (λ (s : EventSum). s.position) c.args.workers in
    subst (λ (l : List (Opened EventSum)). AreOpened (λ (s : EventSum). s.position) l) (sym c.in-Ok.ensures.items)
    (all_opened (λ (s : EventSum). s.position) c.args.workers (c.opened-first.result ∷ c.opened-second.result ∷ [])
    (All-cons Is c.opened-first.result (c.opened-second.result ∷ []) c.opened-first.ensures (All-cons Is c.opened-second.result [] c.opened-second.ensures (All-nil Is))))
