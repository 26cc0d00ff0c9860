use Rattle.std.proofs.Common.{◌≡◌, ℕ, List, [], true, false, ◌≤◌, ◌-◌, ◌++◌, length, take, refl, sym, ap, ◌∙◌, subst, arith, length-take-le, append-nil}
use Rattle.std.proofs.lemmas.Bool.{true≢false}
use Rattle.std.proofs.lemmas.List.{take_all}
use Rattle.std.specs.Io.KnownBytes.{Appends, Keeps, append_known}
use Rattle.std.proofs.KnownBytes.{append_known-moved}
use Rattle.rb_io.specs.Gathered.{Gathered, HandsOn}
use Rattle.rb_io.proofs.Room.{sent_and_left}
use Rattle.rb_io.proofs.buffered.Buffered.write_waiting.Goals as goal

pub returns-clause-bytes : goal.returns-clause-bytes
returns-clause-bytes g c =
    let room = c.self.inside.room.items in
    let count = c.self.inside.count in
    let sent = c.write_out-sent.result in
    let left = take (count - sent) c.copy_within.new.self.items in
    let old = g.W.Write.contents c.self.inside.writer in
    let new = g.W.Write.contents c.write_out-sent.new.writer in
    let fits : count ≤ length room = omega (arith, c.self.invariant.0, c.self.invariant.1) in
    let lent : take count c.deref.result.now ≡ take count room = ap (take count) c.deref.ensures.value in
    let bound : sent ≤ count = omega (arith, c.write_out-sent.ensures.bound, ap length lent, length-take-le count room fits) in
    let went : Appends old new (take sent (take count room)) = subst (λ w. Appends old new (take sent w)) lent c.write_out-sent.ensures.bytes in
    let splits = sent_and_left room sent count bound fits ∙ ap (λ l. take sent (take count room) ++ take (count - sent) l) (sym {A = List ℕ} c.copy_within.ensures.items) in
    let moved : Keeps (append_known old (take count room)) (append_known new left) = append_known-moved old new (take sent (take count room)) left (take count room) went splits in
    subst (λ b. Keeps (append_known (g.W.Write.contents b.writer) b.waiting) (append_known new left)) c.self.view_is moved

pub returns-then-sent-self-clause-handed_on : goal.returns-then-sent-self-clause-handed_on
returns-then-sent-self-clause-handed_on g c =
    let contents = g.W.Write.contents in
    let count = c.self.inside.count in
    let room = c.self.inside.room.items in
    let new : Gathered g.row.W.Denot = record { writer = c.write_out-sent.new.writer; waiting = [] } in
    let fits : count ≤ length room = omega (arith, c.self.invariant.0, c.self.invariant.1) in
    let lent : take count c.deref.result.now ≡ take count room = ap (take count) c.deref.ensures.value in
    let all : take c.write_out-sent.result (take count c.deref.result.now) ≡ take count room =
    take_all c.write_out-sent.result (take count c.deref.result.now) (omega (arith, c.if-sent-self.true, ap length lent, length-take-le count room fits)) ∙ lent in
    subst (λ b. HandsOn contents b true new) c.self.view_is (record {
      part = take count room;
      went = subst (Appends (contents c.self.inside.writer) (contents c.write_out-sent.new.writer)) all c.write_out-sent.ensures.bytes;
      beginning = append-nil (take count room);
      all_went = λ _. refl;
    })

pub returns-clause-handed_on : goal.returns-clause-handed_on
returns-clause-handed_on g c =
    let contents = g.W.Write.contents in
    let room = c.self.inside.room.items in
    let count = c.self.inside.count in
    let sent = c.write_out-sent.result in
    let left = take (count - sent) c.copy_within.new.self.items in
    let new : Gathered g.row.W.Denot = record { writer = c.write_out-sent.new.writer; waiting = left } in
    let fits : count ≤ length room = omega (arith, c.self.invariant.0, c.self.invariant.1) in
    let lent : take count c.deref.result.now ≡ take count room = ap (take count) c.deref.ensures.value in
    let bound : sent ≤ count = omega (arith, c.write_out-sent.ensures.bound, ap length lent, length-take-le count room fits) in
    let splits = sent_and_left room sent count bound fits ∙ ap (λ l. take sent (take count room) ++ take (count - sent) l) (sym {A = List ℕ} c.copy_within.ensures.items) in
    subst (λ b. HandsOn contents b false new) c.self.view_is (record {
      part = take sent (take count room);
      went = subst (λ w. Appends (contents c.self.inside.writer) (contents c.write_out-sent.new.writer) (take sent w)) lent c.write_out-sent.ensures.bytes;
      beginning = sym splits;
      all_went = λ ok. absurd (true≢false (sym ok));
    })
