use Rattle.std.proofs.Common.{◌≡◌, ℕ, false, true, List, [], ◌∷◌, length, sym, ap, ◌∙◌, refl, arith}
use Rattle.std.proofs.lemmas.Bool.{eqb-true}
use Rattle.rb_source.specs.Stream.{FramedInput}
use Rattle.rb_source.specs.inner.Steps.{Appends}
use Rattle.rb_source.proofs.Steps.{appends_both, gives_none, no_step, same_len}
use Rattle.rb_source.proofs.framed_reader.FramedReader.fill_open.Goals as goal

none_of : (xs : List (List ℕ)) → length xs ≡ 0 → xs ≡ []
none_of [] e = refl
none_of (x ∷ xs) e = absurd (omega arith)

pub reads-init : goal.reads-init
reads-init g c = record {
  open_yet = c.requires.open;
  empty = c.requires.empty;
  size = c.requires.size;
  gave = gives_none g.R.Read.remaining c.args.self.now c.args.self.now c.args.piece.now (no_step g.R.Read.remaining c.args.self.now);
}

pub returns-then-not-is_empty-clause-gave : goal.returns-then-not-is_empty-clause-gave
returns-then-not-is_empty-clause-gave g c = appends_both g.R.Read.remaining c.args.self.now c.reads.self c.take.new.self c.args.piece.now c.reads.piece c.take.new.piece c.reads.invariant.open_yet c.reads.invariant.gave c.take.ensures.gave

pub returns-then-self-clause-gave : goal.returns-then-self-clause-gave
returns-then-self-clause-gave g c = appends_both g.R.Read.remaining c.args.self.now c.reads.self c.take.new.self c.args.piece.now c.reads.piece c.take.new.piece c.reads.invariant.open_yet c.reads.invariant.gave c.take.ensures.gave

pub returns-in-End-clause-gave : goal.returns-in-End-clause-gave
returns-in-End-clause-gave g c =
    let rem = g.R.Read.remaining in
    let a = c.args.self.now in
    let p = c.args.piece.now in
    let q = c.take.new.piece in
    let taken : Appends rem a c.take.new.self p q = appends_both rem a c.reads.self c.take.new.self p c.reads.piece q c.reads.invariant.open_yet c.reads.invariant.gave c.take.ensures.gave in
    let open_yet : c.take.new.self.over ≡ false = ap (λ (s : FramedInput g.row.R.Denot). s.over) (sym c.self.view_is) ∙ c.if-self.false in
    let room : Appends rem a c.make_room.new.self p q = appends_both rem a c.take.new.self c.make_room.new.self p q q open_yet taken (gives_none rem c.take.new.self c.make_room.new.self q c.make_room.ensures.gave) in
    let read : Appends rem a c.read_once.new.self p q = appends_both rem a c.make_room.new.self c.read_once.new.self p q q c.make_room.ensures.open room (gives_none rem c.make_room.new.self c.read_once.new.self q c.read_once.ensures.gave) in
    appends_both rem a c.read_once.new.self c.end.new.self p q c.end.new.piece c.read_once.ensures.open read c.end.ensures.gave

pub returns-in-Fault-clause-gave : goal.returns-in-Fault-clause-gave
returns-in-Fault-clause-gave g c =
    let rem = g.R.Read.remaining in
    let a = c.args.self.now in
    let p = c.args.piece.now in
    let q = c.take.new.piece in
    let taken : Appends rem a c.take.new.self p q = appends_both rem a c.reads.self c.take.new.self p c.reads.piece q c.reads.invariant.open_yet c.reads.invariant.gave c.take.ensures.gave in
    let open_yet : c.take.new.self.over ≡ false = ap (λ (s : FramedInput g.row.R.Denot). s.over) (sym c.self.view_is) ∙ c.if-self.false in
    let room : Appends rem a c.make_room.new.self p q = appends_both rem a c.take.new.self c.make_room.new.self p q q open_yet taken (gives_none rem c.take.new.self c.make_room.new.self q c.make_room.ensures.gave) in
    let read : Appends rem a c.read_once.new.self p q = appends_both rem a c.make_room.new.self c.read_once.new.self p q q c.make_room.ensures.open room (gives_none rem c.make_room.new.self c.read_once.new.self q c.read_once.ensures.gave) in
    read

pub reads-preserved : goal.reads-preserved
reads-preserved g c =
    let rem = g.R.Read.remaining in
    let a = c.args.self.now in
    let p = c.args.piece.now in
    let q = c.take.new.piece in
    let taken : Appends rem a c.take.new.self p q = appends_both rem a c.reads.self c.take.new.self p c.reads.piece q c.reads.invariant.open_yet c.reads.invariant.gave c.take.ensures.gave in
    let open_yet : c.take.new.self.over ≡ false = ap (λ (s : FramedInput g.row.R.Denot). s.over) (sym c.self.view_is) ∙ c.if-self.false in
    let room : Appends rem a c.make_room.new.self p q = appends_both rem a c.take.new.self c.make_room.new.self p q q open_yet taken (gives_none rem c.take.new.self c.make_room.new.self q c.make_room.ensures.gave) in
    let read : Appends rem a c.read_once.new.self p q = appends_both rem a c.make_room.new.self c.read_once.new.self p q q c.make_room.ensures.open room (gives_none rem c.make_room.new.self c.read_once.new.self q c.read_once.ensures.gave) in
    record {
      open_yet = c.read_once.ensures.open;
      empty = none_of q.contexts (eqb-true (length q.contexts) 0 (sym c.is_empty.ensures.value ∙ c.if-not-is_empty.false));
      size = same_len rem a c.read_once.new.self p q read c.requires.size;
      gave = read;
    }
