-- What holds of every legal history.
use Rattle.std.proofs.Common.{◌≡◌, ℕ, ◌<◌, Bool, true, false, ◌||◌, List, [], ◌∷◌, ◌++◌, length, get_or, refl, sym, ap, ◌∙◌, arith, subst, append_assoc, append-nil}
use Rattle.std.proofs.lemmas.Bool.{false_from_ne_true, or_from, true≢false}
use Rattle.std.proofs.lemmas.List.Elements.{All-nil}
use Rattle.rb_history.specs.declared.entries.Entry.{Entry}
use Rattle.rb_history.specs.declared.entries.Entry.TheVariants.{Res, Full, Sub, Dis, Take}
use Rattle.rb_history.specs.History.{Shown, status_by, is_granted_at, is_submitted_at, is_discarded_at, is_taken_at, producer_of, consumer_of, records}
use Rattle.rb_history.specs.History.Status.{Busy}
use Rattle.rb_history.specs.RoomRule.{Setup}
use Rattle.rb_history.specs.Legal.{MayFollow, IsLegal}
use Rattle.rb_history.specs.inner.RecordRows.{HistoryFacts}
use Rattle.rb_history.proofs.Steps.{Named, shown-contains}
use Rattle.rb_history.proofs.Kept.{kept-full, kept-res, kept-sub, kept-dis, kept-take, named-at}
use Rattle.rb_history.proofs.Standing.{grant-stands}

-- a prefix of a legal history is legal
pub legal-front : (r : Setup) (h t : List Entry) → IsLegal r (h ++ t) → IsLegal r h
legal-front r h t l = record { each = λ before e after is. l.each before e (after ++ t) (ap (λ x. x ++ t) is ∙ append_assoc before (e ∷ after) t) }

-- the entry after a prefix of a legal history may follow it
pub legal-next : (r : Setup) (h : List Entry) (e : Entry) (t : List Entry) → IsLegal r (h ++ e ∷ t) → MayFollow r h e
legal-next r h e t l = l.each h e t refl

abbrev pub KeptAs : Setup → List Entry → Type 0
KeptAs r h = HistoryFacts r h (records h) (producer_of r.start h) (consumer_of r.start h)

as-it-is : (r : Setup) (h : List Entry) (ss : List Shown) (p c : ℕ) → HistoryFacts r h ss p c → KeptAs r h
as-it-is r h ss p c k =
    subst (λ x. HistoryFacts r h (records h) (producer_of r.start h) x) k.consumer_is
    (subst (λ x. HistoryFacts r h (records h) x c) k.producer_is (subst (λ x. HistoryFacts r h x p c) k.shown k))

no_entry : (before : List Entry) (e : Entry) (after : List Entry) → [] ≡ before ++ e ∷ after → ⊥
no_entry [] e after is = cc
no_entry (b ∷ bs) e after is = cc

pub kept-none : (r : Setup) → KeptAs r []
kept-none r = record {
  legal = record { each = λ before e after is. absurd (no_entry before e after is) };
  shown = refl;
  producer_is = refl;
  consumer_is = refl;
  in_row = refl;
  below = All-nil _;
  closed = λ q t. cc;
  named = λ q t. cc;
  passed = λ q t. cc;
  single = λ q t. cc;
  given_up = refl;
}

not-both : (s d : Bool) → s ≡ false → d ≡ false → (s || d) ≡ true → ⊥
not-both s d e f is = true≢false (sym is ∙ or_from s d e f)

settled-free : (s d : Bool) → (s || d) ≡ true → status_by s d false ≡ Busy → ⊥
settled-free true true o e = cc
settled-free true false o e = cc
settled-free false true o e = cc
settled-free false false o e = cc

kept-settle : (r : Setup) (h : List Entry) (x : ℕ) (k : KeptAs r h) → is_granted_at h x ≡ true → is_submitted_at h x ≡ false → is_discarded_at h x ≡ false →
    (i : ℕ) × ((y : Shown) × ((i < length (records h)) × ((get_or (records h) i y).pos ≡ x) × ((get_or (records h) i y).status ≡ Busy)))
kept-settle r h x k g s d =
    let free : is_taken_at h x ≡ false = false_from_ne_true (is_taken_at h x) (λ t. not-both (is_submitted_at h x) (is_discarded_at h x) s d (k.closed x t)) in
    let st = grant-stands h x g in
    let there = shown-contains h h st.0 st.1.0 st.1.1.0 x free st.1.1.1 in
    let y : Shown = record { pos = x; len = st.1.1.0; worker = st.0; serial = st.1.0; status = status_by (is_submitted_at h x) (is_discarded_at h x) false } in
    (there.0, (y, (there.1, ap (λ z. z.pos) there.2, ap (λ z. z.status) there.2 ∙ rw (s, d) refl)))

front-free : (r : Setup) (h : List Entry) (ss : List Shown) → ss ≡ records h → HistoryFacts r h ss (producer_of r.start h) (consumer_of r.start h) → (is_submitted_at h (consumer_of r.start h) || is_discarded_at h (consumer_of r.start h)) ≡ true →
    0 < length ss → KeptAs r (h ++ Take (consumer_of r.start h) ∷ [])
front-free r h [] is k settled there = absurd (omega arith)
front-free r h (s ∷ ss) is k settled there =
    let n : Named h h s = named-at r h (s ∷ ss) (producer_of r.start h) (consumer_of r.start h) 0 s k (omega arith) in
    let here : (is_submitted_at h s.pos || is_discarded_at h s.pos) ≡ true = subst (λ q. (is_submitted_at h q || is_discarded_at h q) ≡ true) (sym k.in_row.0) settled in
    as-it-is r _ ss _ _ (kept-take r h s ss (producer_of r.start h) (consumer_of r.start h) k (λ b. settled-free _ _ here (n.status_is ∙ b)))

kept-next : (r : Setup) (h : List Entry) (e : Entry) → KeptAs r h → MayFollow r h e → KeptAs r (h ++ e ∷ [])
kept-next r h (Full w n) k m = as-it-is r _ _ _ _ (kept-full r h (records h) _ _ w n k m.0 m.1)
kept-next r h (Res w s n p) k m =
    subst (λ x. KeptAs r (h ++ Res w s n x ∷ [])) (sym m.1) (as-it-is r _ _ _ _ (kept-res r h (records h) _ _ w s n k m.0 m.2 m.3))
kept-next r h (Sub x) k m =
    let f = kept-settle r h x k m.0 m.1 m.2 in
    subst (λ q. KeptAs r (h ++ Sub q ∷ [])) f.1.1.1 (as-it-is r _ _ _ _ (kept-sub r h (records h) _ _ f.0 f.1.0 k f.1.1.0 f.1.1.2))
kept-next r h (Dis x) k m =
    let f = kept-settle r h x k m.0 m.1 m.2 in
    subst (λ q. KeptAs r (h ++ Dis q ∷ [])) f.1.1.1 (as-it-is r _ _ _ _ (kept-dis r h (records h) _ _ f.0 f.1.0 k f.1.1.0 f.1.1.2))
kept-next r h (Take x) k m =
    let c = consumer_of r.start h in
    let settled : (is_submitted_at h c || is_discarded_at h c) ≡ true = subst (λ q. (is_submitted_at h q || is_discarded_at h q) ≡ true) m.0 m.1 in
    let free : is_taken_at h c ≡ false = false_from_ne_true (is_taken_at h c) (λ t. omega (arith, k.passed c t)) in
    let st = grant-stands h c (k.named c settled) in
    let there = shown-contains h h st.0 st.1.0 st.1.1.0 c free st.1.1.1 in
    subst (λ q. KeptAs r (h ++ Take q ∷ [])) (sym m.0) (front-free r h (records h) refl k settled (omega (arith, there.1)))

kept-rest : (r : Setup) (h t : List Entry) → KeptAs r h → IsLegal r (h ++ t) → KeptAs r (h ++ t)
kept-rest r h [] k l = subst (KeptAs r) (sym (append-nil h)) k
kept-rest r h (e ∷ t) k l =
    let same : (h ++ e ∷ []) ++ t ≡ h ++ e ∷ t = append_assoc h (e ∷ []) t in
    subst (KeptAs r) same (kept-rest r (h ++ e ∷ []) t (kept-next r h e k (legal-next r h e t l)) (subst (IsLegal r) (sym same) l))

-- all invariants of the ring follow from legality
pub kept-from-legal : (r : Setup) (h : List Entry) → IsLegal r h → KeptAs r h
kept-from-legal r h l = kept-rest r [] h (kept-none r) l
