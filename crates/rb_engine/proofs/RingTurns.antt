-- A call after a turn of the chapter.
use Rattle.std.proofs.Common.{◌≡◌, ℕ, List, length, Option, Some, None, Result, Ok, Err, IfOk, IfErr, IfSome, IfNone, IsErrOf, OnErr, inl, inr, ap, subst}
use Rattle.rb_history.specs.declared.answers.Notice.{Notice}
use Rattle.rb_chapter_ring.specs.Chapters.{Chapter}
use Rattle.rb_chapter_ring.specs.ChapterCalls.{HandsOut}
use Rattle.rb_chapter_ring.specs.HandGranted.{HandGranted}
use Rattle.rb_chapter_ring.specs.HandRing.{HandRing}
use Rattle.rb_chapter_ring.specs.TaggedRing.{TaggedRing}
use Rattle.rb_engine.specs.RingCalls.{Grants, HasNoRoom, IsNotSent, IsRefused, Outputs}
use Rattle.rb_engine.specs.RingTurns.{AfterTurn, MayTurn}
use Rattle.rb_engine.specs.declared.engine_ring.NotSent.{NotSent}

-- if the chapter was handed out, it was turned; otherwise nothing changed
pub turned-by : (answer : Result Chapter Chapter) (old new : HandRing) → IfOk answer (λ out. HandsOut old.ring new.ring out) → OnErr answer (new ≡ old) → new.hands ≡ old.hands → MayTurn old new
turned-by (Ok out) old new handed same hands = inr (out, handed, hands)
turned-by (Err back) old new handed same hands = inl same

pub granted-after : (answer : Option HandGranted) (n : ℕ) (old mid new : HandRing) → MayTurn old mid → IfSome answer (λ r. Grants n r mid new) → IfSome answer (λ r. AfterTurn (Grants n r) old new)
granted-after (Some r) n old mid new turn granted = (mid, turn, granted)
granted-after None n old mid new turn granted = tt

pub refused-after : (answer : Option HandGranted) (n : ℕ) (old mid new : HandRing) → MayTurn old mid → IfNone answer (HasNoRoom n mid new) → IfNone answer (IsRefused n old new)
refused-after (Some r) n old mid new turn refused = tt
refused-after None n old mid new turn refused = inl (mid, turn, refused)

pub sent-after : (answer : Result Notice NotSent) (sheet bytes : List ℕ) (flags : ℕ) (old mid new : HandRing) → sheet ≡ bytes → MayTurn old mid → IfOk answer (λ notice. Outputs sheet flags notice mid new)
    → IfOk answer (λ notice. AfterTurn (Outputs bytes flags notice) old new)
sent-after (Ok notice) sheet bytes flags old mid new same turn sent = (mid, turn, subst (λ b. Outputs b flags notice mid new) same sent)
sent-after (Err why) sheet bytes flags old mid new same turn sent = tt

pub not-sent-after : (answer : Result Notice NotSent) (sheet bytes : List ℕ) (old mid new : HandRing) → sheet ≡ bytes → MayTurn old mid → IfErr answer (λ x. HasNoRoom (length sheet) mid new) → IfErr answer (λ x. IsNotSent (length bytes) old new)
not-sent-after (Ok sent) sheet bytes old mid new same turn refused = tt
not-sent-after (Err why) sheet bytes old mid new same turn refused = inl (mid, turn, subst (λ (b : List ℕ). HasNoRoom (length b) mid new) same refused)

pub same-state : (answer : Result Chapter Chapter) (old new : TaggedRing) → OnErr answer (new ≡ old) → OnErr answer (new.state ≡ old.state)
same-state (Ok out) old new same = tt
same-state (Err back) old new same = ap (λ (v : TaggedRing). v.state) same

ok-err : (x : Notice) (e : NotSent) → ◌≡◌ {A = Result Notice NotSent} (Ok x) (Err e) → ⊥
ok-err x e is = cc

pub full-after : (answer : Result Notice NotSent) (why : NotSent) (sheet bytes : List ℕ) (old mid new : HandRing) → sheet ≡ bytes → MayTurn old mid → IfErr answer (λ x. HasNoRoom (length sheet) mid new)
    → IsErrOf answer why → AfterTurn (HasNoRoom (length bytes)) old new
full-after (Ok notice) why sheet bytes old mid new same turn refused is = absurd (ok-err notice why is)
full-after (Err e) why sheet bytes old mid new same turn refused is = (mid, turn, subst (λ (b : List ℕ). HasNoRoom (length b) mid new) same refused)
