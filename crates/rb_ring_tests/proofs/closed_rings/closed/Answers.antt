use Rattle.rb_ring_tests.proofs.closed_rings.closed.Goals as goal

pub returns : goal.returns
returns g c = record { none_busy = λ all. (c.numbers_agree.ensures.once_closed _ _ _ c.in-Ok.ensures.closed.closed).none_busy.0 all }
