-- Calls are appended to the trace with their answers.
use Rattle.std.proofs.Common.{◌≡◌, ◌≢◌, ℕ, ◌-◌, ◌<◌, ℤ, pos, negsuc, List, [], ◌∷◌, ◌++◌, All, Bool, true, false, get_or, length, refl, sym, ap, ◌∙◌, subst, arith, nat_lt, inl, inr}
use Rattle.std.proofs.lemmas.Bool.{cases_order, lt-ltb, ltb-true}
use Rattle.rb_chapter_ring.specs.HandRing.{HandRing}
use Rattle.rb_chapter_ring.specs.declared.record_end.RecordEnd.{RecordEnd}
use Rattle.rb_chapter_ring.specs.declared.record_end.RecordEnd.TheVariants as end
use Rattle.rb_interp.specs.AnsweredCalls.{AnsweredCall, note_of}
use Rattle.rb_interp.specs.declared.completed_call.Done.{Done}
use Rattle.rb_engine.specs.EngineCalls.{CallsHelpers, CallsRings, EndAnswered, Leads, RingsLead, RunRings, has_number}
use Rattle.rb_chapter_ring.specs.declared.ring_record.RingRecord.{RingRecord}
use Rattle.rb_engine.specs.inner.Noting.{ended_call, ended_note, with_call}

pub noted : (call : AnsweredCall RingRecord) (old mid new : RunRings) → mid ≡ record old { rings = mid.rings } → CallsRings call old.rings mid.rings → 0 < old.room → new ≡ with_call mid (note_of call) → CallsHelpers call old new
noted call old mid new rest did room logged =
    let less : new.room ≡ mid.room - 1 = ap (λ (h : RunRings). h.room) logged in
    let same : mid.room ≡ old.room = ap (λ (h : RunRings). h.room) rest in
    record {
      trace_is = ap (λ (h : RunRings). h.trace) logged ∙ ap (λ (h : RunRings). h.trace ++ note_of call ∷ []) rest;
      room_is = omega arith;
      did = subst (λ rings. CallsRings call old.rings rings) (sym (ap (λ (h : RunRings). h.rings) logged)) did;
    }

-- the number of rings does not change
pub same-numbers : (old mid new : RunRings) (done : Done) → length mid.rings ≡ length old.rings → new ≡ with_call mid done → has_number new ≡ has_number old
same-numbers old mid new done count logged = ap (λ n. λ ring. nat_lt ring n) (ap (λ (h : RunRings). length h.rings) logged ∙ count)

pub one-call : (call : AnsweredCall RingRecord) (old new : RunRings) → CallsHelpers call old new → Leads old (call ∷ []) new
one-call call old new did = (new, did, refl)

pub ended-rings : (how : RecordEnd) (owned : RingRecord) (flags : ℕ) (taken : Bool) (old new : List HandRing) → EndAnswered how owned taken old new → CallsRings (ended_call how owned flags taken) old new
ended-rings end.Submit owned flags taken old new did = did
ended-rings end.Discard owned flags taken old new did = did

pub ended-note : (how : RecordEnd) (owned : RingRecord) (flags : ℕ) (taken : Bool) → ended_note how flags taken ≡ note_of (ended_call how owned flags taken)
ended-note end.Submit owned flags taken = refl
ended-note end.Discard owned flags taken = refl

pub noted-end : (how : RecordEnd) (owned : RingRecord) (flags : ℕ) (taken : Bool) (old mid new : RunRings) → mid ≡ record old { rings = mid.rings } → EndAnswered how owned taken old.rings mid.rings → 0 < old.room
    → new ≡ with_call mid (ended_note how flags taken) → CallsHelpers (ended_call how owned flags taken) old new
noted-end how owned flags taken old mid new rest did room logged =
    noted (ended_call how owned flags taken) old mid new rest (ended-rings how owned flags taken old.rings mid.rings did) room (subst (λ note. new ≡ with_call mid note) (ended-note how owned flags taken) logged)

abbrev below_zero : ℤ → ℕ
below_zero (pos n) = 0
below_zero (negsuc n) = n

apart : (a b : ℤ) → below_zero a ≢ below_zero b → a ≢ b
apart a b other is = other (ap below_zero is)

-- -EAGAIN, -EINVAL and 0 differ
pub again-not-bad : negsuc 10 ≢ negsuc 21
again-not-bad = apart (negsuc 10) (negsuc 21) (λ n. absurd (omega (arith, n)))

pub again-not-none : negsuc 10 ≢ pos 0
again-not-none = apart (negsuc 10) (pos 0) (λ n. absurd (omega (arith, n)))

pub none-not-again : pos 0 ≢ negsuc 10
none-not-again = apart (pos 0) (negsuc 10) (λ n. absurd (omega (arith, n)))

pub none-not-bad : pos 0 ≢ negsuc 21
none-not-bad = apart (pos 0) (negsuc 21) (λ n. absurd (omega (arith, n)))

-- a property of all elements is one of each element
pub all-at : {A : Type 0} (P : A → Type 0) (xs : List A) (i : ℕ) (x : A) → All P xs → i < length xs → x ≡ get_or xs i x → P x
all-at P xs i x all below here = subst P (sym here) (all i x below)

-- numbers are equal if the same numbers are below them
pub same-count : (a b : ℕ) → ◌≡◌ {A = ℕ → Bool} (λ ring. nat_lt ring a) (λ ring. nat_lt ring b) → a ≡ b
same-count a b same = elim (cases_order a b) [
  | inl e ↦ e
  | inr (inl below) ↦ let u : nat_lt a a ≡ true = ap (λ f. f a) same ∙ lt-ltb a b below in let l : a < a = ltb-true a a u in absurd (omega (arith, l))
  | inr (inr above) ↦ let u : nat_lt b b ≡ true = sym (ap (λ f. f b) same) ∙ lt-ltb b a above in let l : b < b = ltb-true b b u in absurd (omega (arith, l))
]

-- the calls to the helpers are calls at the rings
pub rings-led : (start now : RunRings) (calls : List (AnsweredCall RingRecord)) → Leads start calls now → RingsLead start.rings calls now.rings
rings-led start now [] led = ap (λ (h : RunRings). h.rings) led
rings-led start now (call ∷ more) led = (led.0.rings, led.1.did, rings-led led.0 now more led.2)

pub true-apart : true ≡ false → ⊥
true-apart e = cc
