use Rattle.std.proofs.Common.{refl, subst, sym}
use Rattle.rb_waiting.specs.Faults.{IsFirstTooSmall}
use Rattle.rb_stream_worker.specs.declared.when_full.WhenFull.TheVariants.{Wait}
use Rattle.rb_service.specs.Service.{IsRequested}
use Rattle.rb_service.specs.declared.service.Full.{Full}
use Rattle.rb_service.proofs.Served.{is_memory, stream_fault_right}
use Rattle.rb_service.proofs.opened_run.run_in_turns.Goals as goal

pub returns-in-Ok-clause-ran : goal.returns-in-Ok-clause-ran
returns-in-Ok-clause-ran g c = record {
  full = Wait c.args.turns;
  requested = subst (λ (f : Full). IsRequested f c.args.opened.items c.args.programs.now (Wait c.args.turns)) (sym c.requires.waits) (c.args.turns, refl, c.requires.planned);
  streamed = c.in-Ok.ensures.streamed;
}

pub returns-in-Ok-clause-none_refused : goal.returns-in-Ok-clause-none_refused
returns-in-Ok-clause-none_refused g c = λ _. c.in-Ok.ensures.none_refused

pub returns-in-Err-clause-fault : goal.returns-in-Err-clause-fault
returns-in-Err-clause-fault g c =
    stream_fault_right _ c.args.programs.now (g.I.Source.ctx_len_of c.args.source.now) c.args.request.full (IsFirstTooSmall c.args.opened.items c.args.programs.now) c.in-Err.stop.fault c.stream_fault.result c.stream_fault.ensures.value
    c.in-Err.ensures.unknown_ring.0 c.in-Err.ensures.context_length.0

pub returns-in-Err-clause-nothing_read : goal.returns-in-Err-clause-nothing_read
returns-in-Err-clause-nothing_read g c = λ other. (c.in-Err.ensures.nothing_read (is_memory c.in-Err.stop.fault _ c.stream_fault.ensures.value other)).1
