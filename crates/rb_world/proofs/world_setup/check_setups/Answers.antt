use Rattle.std.proofs.Common.{sym, arith}
use Rattle.std.proofs.lemmas.Bool.{eqb-true}
use Rattle.rb_world.proofs.ListSteps.{some-element}
use Rattle.rb_world.proofs.world_setup.check_setups.Goals as goal

pub returns-then-not-have_contexts-clause-refused : goal.returns-then-not-have_contexts-clause-refused
returns-then-not-have_contexts-clause-refused c =
    (c.are_rings.ensures.0 c.if-not-are_rings.false, λ h. let t = c.have_contexts.ensures.1 h in let f = c.if-not-have_contexts.true in cc)

pub returns-then-not-have_rings-clause-refused : goal.returns-then-not-have_rings-clause-refused
returns-then-not-have_rings-clause-refused c =
    (c.are_rings.ensures.0 c.if-not-are_rings.false, c.have_contexts.ensures.0 c.if-not-have_contexts.false, λ h. let t = c.have_rings.ensures.1 h in let f = c.if-not-have_rings.true in cc)

pub returns-then-is_empty-clause-refused : goal.returns-then-is_empty-clause-refused
returns-then-is_empty-clause-refused c = (
  c.are_rings.ensures.0 c.if-not-are_rings.false,
  c.have_contexts.ensures.0 c.if-not-have_contexts.false,
  c.have_rings.ensures.0 c.if-not-have_rings.false,
  λ h. let none = eqb-true _ 0 (sym c.if-is_empty.ensures) in let some = h.0 in omega arith,
)

pub returns-then-workers-gt256-clause-refused : goal.returns-then-workers-gt256-clause-refused
returns-then-workers-gt256-clause-refused c = (
  c.are_rings.ensures.0 c.if-not-are_rings.false,
  c.have_contexts.ensures.0 c.if-not-have_contexts.false,
  c.have_rings.ensures.0 c.if-not-have_rings.false,
  λ h. let many = c.if-workers-gt256.true in let few = h.1 in omega arith,
)

pub returns-clause-allowed : goal.returns-clause-allowed
returns-clause-allowed c = record {
  are_rings = c.are_rings.ensures.0 c.if-not-are_rings.false;
  contexts = c.have_contexts.ensures.0 c.if-not-have_contexts.false;
  ring_count = c.have_rings.ensures.0 c.if-not-have_rings.false;
  worker_count = (some-element _ (sym c.if-is_empty.ensures), c.if-workers-gt256.false);
  rooms = c.have_rooms.ensures.0 c.if-not-have_rooms.false;
}

pub returns-then-not-have_rooms-clause-refused : goal.returns-then-not-have_rooms-clause-refused
returns-then-not-have_rooms-clause-refused c = (
  c.are_rings.ensures.0 c.if-not-are_rings.false,
  c.have_contexts.ensures.0 c.if-not-have_contexts.false,
  c.have_rings.ensures.0 c.if-not-have_rings.false,
  (some-element _ (sym c.if-is_empty.ensures), c.if-workers-gt256.false),
  λ h. let t = c.have_rooms.ensures.1 h in let f = c.if-not-have_rooms.true in cc,
)
