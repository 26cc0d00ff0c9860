use Rattle.std.proofs.Common.{◌+◌, ◌∙◌, sym, ap, arith, if◌then◌else◌}
use Rattle.std.specs.Prelude.{None, Some}
use Rattle.rb_history.specs.TapeBytes.{item_bytes, item_span}
use Rattle.rb_tape.specs.Items.{item_of}
use Rattle.rb_tape.specs.TapeCalls.{failures_after}
use Rattle.rb_tape_commands.proofs.TapeCallRuns.{calls_on, one_call}
use Rattle.rb_tape_commands.proofs.Sending.{resumed, on_not_ok}
use Rattle.rb_tape_commands.proofs.retries.put_with_retries.Goals as goal

pub loop-retries-preserved : goal.loop-retries-preserved
loop-retries-preserved g c =
    let i = c.loop-retries.invariant in
    let w = c.resume.ensures in
    let failed = sym c.is_ok-in-loop-retries.ensures.value ∙ c.if-is_ok-2.false in
    record {
      size = w.size ∙ i.size;
      position = w.position ∙ ap (λ b. if b then c.loop-retries.tape.position + item_span (item_of c.args.item.now) else c.loop-retries.tape.position) failed ∙ i.position;
      unfinished = w.unfinished ∙ ap (λ b. if b then None else Some (item_of c.args.item.now)) failed;
      within = on_not_ok _ _ failed w.not_all_sent;
      bytes = resumed (item_bytes c.args.tape.now.size (item_of c.args.item.now)) _ _ _ _ _ i.bytes (rw i.size at w.bytes) w.more;
      fewer = omega (arith, i.fewer);
      calls = calls_on g.W.Write.contents _ _ _ i.calls (one_call g.W.Write.contents _ _ _ _ w.call);
      counted = let f = w.failures ∙ ap (failures_after c.loop-retries.tape.failures) failed in omega (arith, f, i.counted);
    }

pub returns-then-is_ok-2-clause-bytes : goal.returns-then-is_ok-2-clause-bytes
returns-then-is_ok-2-clause-bytes g c =
    let i = c.loop-retries.invariant in
    let w = c.resume.ensures in
    resumed (item_bytes c.args.tape.now.size (item_of c.args.item.now)) _ _ _ _ _ i.bytes (rw i.size at w.bytes) w.more

pub returns-then-is_ok-2-clause-calls : goal.returns-then-is_ok-2-clause-calls
returns-then-is_ok-2-clause-calls g c =
    calls_on g.W.Write.contents _ _ _ c.loop-retries.invariant.calls (one_call g.W.Write.contents _ _ _ _ c.resume.ensures.call)

pub returns-then-is_ok-clause-calls : goal.returns-then-is_ok-clause-calls
returns-then-is_ok-clause-calls g c = one_call g.W.Write.contents _ _ _ _ c.put.ensures.call

pub loop-retries-init : goal.loop-retries-init
loop-retries-init g c =
    let w = c.put.ensures in
    let failed = sym c.is_ok.ensures.value ∙ c.if-is_ok.false in
    record {
      size = w.size;
      position = w.position ∙ ap (λ b. if b then c.args.tape.now.position + item_span (item_of c.args.item.now) else c.args.tape.now.position) failed;
      unfinished = w.unfinished ∙ ap (λ b. if b then None else Some (item_of c.args.item.now)) failed;
      within = on_not_ok _ _ failed w.not_all_sent;
      bytes = w.bytes;
      fewer = omega arith;
      calls = one_call g.W.Write.contents _ _ _ _ w.call;
      counted = let f = w.failures ∙ ap (failures_after c.args.tape.now.failures) failed in omega (arith, f);
    }
