use Rattle.std.proofs.Common.{List, [], ◌∷◌, sym, subst}
use Rattle.std.proofs.lemmas.List.Elements.{All-cons, All-nil}
use Rattle.rb_workers.specs.declared.opened.Opened.{Opened}
use Rattle.rb_run_tests.specs.declared.workers.chapters.Binder.{Binder}
use Rattle.rb_workers.specs.Opened.{AreOpened, IsOpened}
use Rattle.rb_workers.proofs.Fresh.{all_opened}
use Rattle.rb_run_tests.proofs.workers.chapters.one_ring.Goals as goal

pub returns : goal.returns
returns g c =
    let Is = IsOpened (λ (s : Binder). s.position) c.args.workers in
    subst (λ (l : List (Opened Binder)). AreOpened (λ (s : Binder). s.position) l) (sym c.in-Ok.ensures.items)
    (all_opened (λ (s : Binder). s.position) c.args.workers (c.opened-first.result ∷ []) (All-cons Is c.opened-first.result [] c.opened-first.ensures (All-nil Is)))
