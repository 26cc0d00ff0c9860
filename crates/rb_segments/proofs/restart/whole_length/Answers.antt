use Rattle.std.proofs.Common.{subst}
use Rattle.rb_tape.specs.LongestTape.{IsReadThrough}
use Rattle.rb_segments.proofs.Restarting.{ends_whole}
use Rattle.rb_segments.proofs.restart.whole_length.Goals as goal

pub returns-in-Ok-default-None-clause-ends : goal.returns-in-Ok-default-None-clause-ends
returns-in-Ok-default-None-clause-ends c =
    let found = c.in-Ok-default-None in
    ends_whole c.args.size c.args.opened c.args.bytes.now found.field-0-0 (subst (IsReadThrough c.args.size c.args.opened c.args.bytes.now found.field-0-0) found.field-0-1-is found.ensures.counted)
