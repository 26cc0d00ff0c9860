-- A source over a reader, with the bytes that the reader has left in place of the reader.
use Rattle.std.proofs.Common.{ℕ, List, Option, ap}
use Rattle.rb_source.specs.declared.form.Form.{Form}
use Rattle.rb_source.specs.declared.framing.Framing.{Framing}
use Rattle.rb_source.specs.Stream.{FramedInput, Gives, GivesFrom, IsFresh, IsOver}

module _ {R : Type 0} (remaining : R → Option (List ℕ)) where
  -- the source over these bytes, if they are known
  abbrev pub over_bytes : FramedInput R → FramedInput (Option (List ℕ))
  over_bytes s = record {
    reader = remaining s.reader;
    framing = s.framing;
    form = s.form;
    rest = s.rest;
    long = s.long;
    kept = s.kept;
    counts = s.counts;
    over = s.over;
  }

  pub fresh_known : (reader : R) (framing : Framing) (form : Form) (s : FramedInput R) → IsFresh reader framing form s → IsFresh (remaining reader) framing form (over_bytes s)
  fresh_known reader framing form s f = record {
    reader_is = ap remaining f.reader_is;
    framing_is = f.framing_is;
    form_is = f.form_is;
    rest_is = f.rest_is;
    short = f.short;
    counts_are = f.counts_are;
    open_yet = f.open_yet;
  }

  pub over_known : (s : FramedInput R) → IsOver remaining s → IsOver (λ bytes. bytes) (over_bytes s)
  over_known s o = record { over = o.over; short = o.short; ended = o.ended }

  from_known : (framing : Framing) (form : Form) (old new : FramedInput R) (part : List ℕ) (contexts : List (List ℕ)) → GivesFrom remaining framing form old part contexts new
      → GivesFrom (λ bytes. bytes) framing form (over_bytes old) part contexts (over_bytes new)
  from_known framing form old new part contexts g = record {
    read = g.read;
    portions = g.portions;
    last = g.last;
    left = g.left;
    consumed = g.consumed;
    portions_are = g.portions_are;
    last_is = g.last_is;
    left_is = g.left_is;
    text = g.text;
    contexts_are = g.contexts_are;
    counts_are = g.counts_are;
    framing_same = g.framing_same;
    form_same = g.form_same;
  }

  pub gives_known : (old new : FramedInput R) (contexts : List (List ℕ)) → Gives remaining old contexts new → Gives (λ bytes. bytes) (over_bytes old) contexts (over_bytes new)
  gives_known old new contexts g = record {
    after_end = λ over. (let h = g.after_end over in (h.0, ap over_bytes h.1));
    from = λ part is. from_known old.framing old.form old new part contexts (g.from part is);
    ends = λ open_yet over. over_known new (g.ends open_yet over);
  }
