use Rattle.std.proofs.Common.{◌∙◌, refl, subst, sym}
use Rattle.rb_waiting.specs.Faults.{IsFirstTooSmall}
use Rattle.rb_stream_worker.specs.declared.when_full.WhenFull.TheVariants.{Refuse}
use Rattle.rb_service.specs.Service.{IsRequested}
use Rattle.rb_service.specs.declared.service.Full.{Full}
use Rattle.rb_service.proofs.Served.{is_memory, refuses_or_waits, stream_fault_right}
use Rattle.rb_service.proofs.opened_run.run_at_once.Goals as goal

pub returns-in-Ok-clause-ran : goal.returns-in-Ok-clause-ran
returns-in-Ok-clause-ran g c = record {
  full = Refuse;
  requested = subst (λ (f : Full). IsRequested f c.args.opened.items c.args.programs.now Refuse) (sym c.requires.refuses) refl;
  streamed = c.in-Ok.ensures.streamed;
}

pub returns-in-Ok-clause-none_refused : goal.returns-in-Ok-clause-none_refused
returns-in-Ok-clause-none_refused g c = λ waits. absurd (refuses_or_waits (sym c.requires.refuses ∙ waits))

pub returns-in-Err-clause-fault : goal.returns-in-Err-clause-fault
returns-in-Err-clause-fault g c =
    stream_fault_right _ c.args.programs.now (g.I.Source.ctx_len_of c.args.source.now) c.args.request.full (IsFirstTooSmall c.args.opened.items c.args.programs.now) c.in-Err.stop.fault c.stream_fault.result c.stream_fault.ensures.value
    c.in-Err.ensures.unknown_ring.0 c.in-Err.ensures.context_length.0

pub returns-in-Err-clause-nothing_read : goal.returns-in-Err-clause-nothing_read
returns-in-Err-clause-nothing_read g c = λ other. (c.in-Err.ensures.nothing_read (is_memory c.in-Err.stop.fault _ c.stream_fault.ensures.value other)).1
