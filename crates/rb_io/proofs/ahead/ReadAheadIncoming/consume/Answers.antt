use Rattle.std.proofs.Common.{◌+◌, ◌≤◌, drop, length, take, slice_range, ap, ◌∙◌, subst, arith}
use Rattle.std.specs.Io.KnownBytes.{Consumes, prepend_known}
use Rattle.rb_io.proofs.Reading.{held_consumed, range_advance, range_length}
use Rattle.rb_io.proofs.ahead.ReadAheadIncoming.consume.Goals as goal

pub returns-clause-rest : goal.returns-clause-rest
returns-clause-rest g c =
    let a = c.self.inside in
    let i = c.self.invariant in
    let held = ap (λ v. v.at_hand) c.self.view_is in
    let count = range_length a.room.items a.start a.end i.1 (omega (arith, i.0, i.2)) in
    let within : a.start + c.args.count ≤ a.end = omega (arith, c.requires.within, ap length held, count, i.1) in
    range_advance a.room.items a.start a.end c.args.count within ∙ ap (drop c.args.count) held

pub returns-clause-bytes : goal.returns-clause-bytes
returns-clause-bytes g c =
    let a = c.self.inside in
    let i = c.self.invariant in
    let held = ap (λ v. v.at_hand) c.self.view_is in
    let count = range_length a.room.items a.start a.end i.1 (omega (arith, i.0, i.2)) in
    let within : a.start + c.args.count ≤ a.end = omega (arith, c.requires.within, ap length held, count, i.1) in
    let left = slice_range a.room.items (a.start + c.args.count) a.end in
    subst (λ v. Consumes (prepend_known v.at_hand (g.R.Read.remaining v.reader)) (prepend_known left (g.R.Read.remaining a.reader)) (take c.args.count v.at_hand)) c.self.view_is
    (held_consumed (slice_range a.room.items a.start a.end) left (g.R.Read.remaining a.reader) c.args.count (range_advance a.room.items a.start a.end c.args.count within))
