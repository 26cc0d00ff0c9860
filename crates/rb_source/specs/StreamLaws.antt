-- What is given first and what is given next.
use Rattle.std.proofs.Common.{◌≡◌, ◌≢◌, ℕ, Bool, true, false, Option, None, Some, List, [], ◌∷◌, ◌++◌, refl, sym, ap, ◌∙◌, subst, append_assoc, append-nil}
use Rattle.std.proofs.lemmas.Bool.{true≢false}
use Rattle.std.proofs.lemmas.Grind.{flat_map-append}
use Rattle.std.proofs.KnownBytes.{Consumes-nil, Consumes-trans}
use Rattle.rb_source.specs.declared.framing.Framing.{Framing}
use Rattle.rb_source.specs.declared.form.Form.{Form}
use Rattle.rb_source.specs.declared.counts.ContextCounts.{ContextCounts}
use Rattle.rb_source.specs.Form.{contexts_of, counts_after}
use Rattle.rb_source.specs.Framing.{Portion, ArePortions, contents, portion_bytes, text_of}
use Rattle.rb_source.specs.Framing.Portion.{Content, Flush}
use Rattle.rb_source.specs.Stream.{AreCounts, FramedInput, Gives, GivesFrom, IsPart, line_of}
use Rattle.rb_source.specs.CountLaws.{contexts_more, counts_more, counts_none, counts_small}

contents-append : (ps qs : List Portion) → contents (ps ++ qs) ≡ contents ps ++ contents qs
contents-append [] qs = refl
contents-append (Content b ∷ ps) qs = ap (λ cs. b ∷ cs) (contents-append ps qs)
contents-append (Flush ∷ ps) qs = contents-append ps qs

ArePortions-append : (framing : Framing) (len : ℕ) (ps qs : List Portion) → ArePortions framing len ps → ArePortions framing len qs → ArePortions framing len (ps ++ qs)
ArePortions-append framing len [] qs a b = b
ArePortions-append framing len (p ∷ ps) qs a b = (a.0, ArePortions-append framing len ps qs a.1 b)

cons≢nil : (x : ℕ) (xs : List ℕ) → x ∷ xs ≢ []
cons≢nil x xs e = cc

no_last : (l : List ℕ) (over : Bool) → (l ≢ [] → over ≡ true) → over ≡ false → l ≡ []
no_last [] over h o = refl
no_last (x ∷ xs) over h o = absurd (true≢false (sym (h (cons≢nil x xs)) ∙ o))

-- nothing is given, and nothing was read
pub nothing_from : {R : Type 0} (remaining : R → Option (List ℕ)) (s : FramedInput R) (part : List ℕ) → IsPart s part → GivesFrom remaining s.framing s.form s part [] s
nothing_from remaining s part h = record {
  read = [];
  portions = [];
  last = [];
  left = part;
  consumed = Consumes-nil (remaining s.reader);
  portions_are = tt;
  last_is = λ n. absurd (n refl);
  left_is = h;
  text = append-nil part;
  contexts_are = refl;
  counts_are = λ a. sym (counts_none s.form s.counts a);
  framing_same = refl;
  form_same = refl;
}

glue : (part r1 r2 t1 t2 last left1 left2 : List ℕ) → part ++ r1 ≡ t1 ++ left1 → left1 ++ r2 ≡ t2 ++ (last ++ left2) → part ++ (r1 ++ r2) ≡ (t1 ++ t2) ++ (last ++ left2)
glue part r1 r2 t1 t2 last left1 left2 e f =
    sym (append_assoc part r1 r2) ∙ ap (λ x. x ++ r2) e ∙ append_assoc t1 left1 r2 ∙ ap (λ x. t1 ++ x) f ∙ sym (append_assoc t1 t2 (last ++ left2))

-- two steps, the first of which leaves the stream open
pub both_from : {R : Type 0} (remaining : R → Option (List ℕ)) (framing : Framing) (form : Form) (a b c : FramedInput R) (part : List ℕ) (xs ys : List (List ℕ)) → b.over ≡ false
    → (one : GivesFrom remaining framing form a part xs b) → GivesFrom remaining framing form b one.left ys c → GivesFrom remaining framing form a part (xs ++ ys) c
both_from remaining framing form a b c part xs ys open_yet one two =
    let none : one.last ≡ [] = no_last one.last b.over (λ n. (one.last_is n).1) open_yet in
    let first : contents one.portions ++ line_of one.last ≡ contents one.portions = ap (λ l. contents one.portions ++ line_of l) none ∙ append-nil (contents one.portions) in
    let whole : contents (one.portions ++ two.portions) ++ line_of two.last ≡ contents one.portions ++ (contents two.portions ++ line_of two.last) =
    ap (λ cs. cs ++ line_of two.last) (contents-append one.portions two.portions) ∙ append_assoc (contents one.portions) (contents two.portions) (line_of two.last) in
    record {
      read = one.read ++ two.read;
      portions = one.portions ++ two.portions;
      last = two.last;
      left = two.left;
      consumed = Consumes-trans _ _ _ _ _ one.consumed two.consumed;
      portions_are = ArePortions-append framing form.len one.portions two.portions one.portions_are two.portions_are;
      last_is = two.last_is;
      left_is = two.left_is;
      text = glue part one.read two.read (text_of framing one.portions) (text_of framing two.portions) two.last one.left two.left (one.text ∙ ap (λ l. text_of framing one.portions ++ (l ++ one.left)) none) two.text
          ∙ ap (λ t. t ++ (two.last ++ two.left)) (sym (flat_map-append (portion_bytes framing) one.portions two.portions));
      contexts_are = ap (λ x. x ++ ys) (one.contexts_are ∙ ap (contexts_of form) first) ∙ ap (λ y. contexts_of form (contents one.portions) ++ y) two.contexts_are
          ∙ sym (ap (contexts_of form) whole ∙ contexts_more form (contents one.portions) (contents two.portions ++ line_of two.last));
      counts_are = λ n.
          let e : b.counts ≡ counts_after form a.counts (contents one.portions) = one.counts_are n ∙ ap (counts_after form a.counts) first in
          two.counts_are (subst AreCounts (sym e) (counts_small form a.counts (contents one.portions))) ∙ ap (λ d. counts_after form d (contents two.portions ++ line_of two.last)) e
          ∙ sym (ap (counts_after form a.counts) whole ∙ counts_more form a.counts (contents one.portions) (contents two.portions ++ line_of two.last));
      framing_same = two.framing_same;
      form_same = two.form_same;
    }

-- the second step, as from the first step's source
pub next_from : {R : Type 0} (remaining : R → Option (List ℕ)) (framing : Framing) (form : Form) (b c : FramedInput R) (part : List ℕ) (ys : List (List ℕ)) → b.framing ≡ framing → b.form ≡ form
    → GivesFrom remaining b.framing b.form b part ys c → GivesFrom remaining framing form b part ys c
next_from remaining framing form b c part ys e f two = subst (λ g. GivesFrom remaining g form b part ys c) e (subst (λ g. GivesFrom remaining b.framing g b part ys c) f two)

pub gives_nothing : {R : Type 0} (remaining : R → Option (List ℕ)) (s : FramedInput R) → Gives remaining s [] s
gives_nothing remaining s = record {
  after_end = λ o. (refl, refl);
  from = λ part h. nothing_from remaining s part h;
  ends = λ f t. absurd (true≢false (sym t ∙ f));
}

over_or_not : {P : Type 0} (b : Bool) → (b ≡ true → P) → (b ≡ false → P) → P
over_or_not true f g = f refl
over_or_not false f g = g refl

pub gives_both : {R : Type 0} (remaining : R → Option (List ℕ)) (a b c : FramedInput R) (xs ys : List (List ℕ)) → Gives remaining a xs b → Gives remaining b ys c → Gives remaining a (xs ++ ys) c
gives_both {R} remaining a b c xs ys one two =
    let stays : b.over ≡ true → Gives remaining a (xs ++ ys) c = λ o.
    let z = two.after_end o in
    subst (λ d. Gives remaining a (xs ++ ys) d) (sym z.1) (subst (λ cs. Gives remaining a cs b) (sym (append-nil xs) ∙ ap (λ y. xs ++ y) (sym z.0)) one) in
    let goes : b.over ≡ false → Gives remaining a (xs ++ ys) c = λ o. record {
      after_end = λ t.
          let z = one.after_end t in
          absurd (true≢false (sym (ap (λ d. d.over) z.1 ∙ t) ∙ o));
      from = λ part h.
          let f = one.from part h in
          both_from remaining a.framing a.form a b c part xs ys o f (next_from remaining a.framing a.form b c f.left ys f.framing_same f.form_same (two.from f.left f.left_is));
      ends = λ f t. two.ends o t;
    } in
    over_or_not b.over stays goes
