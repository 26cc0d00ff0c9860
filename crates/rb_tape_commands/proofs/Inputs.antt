-- An input has one meaning: its bytes determine its payloads, and what follows them.
use Rattle.std.proofs.Common.{◌≡◌, ℕ, ◌+◌, ◌<◌, ◌≤◌, ◌^◌, ◌++◌, List, [], ◌∷◌, length, refl, sym, ap, ◌∙◌, subst, arith, append_assoc, inl, inr}
use Rattle.std.proofs.lemmas.List.{length-append}
use Rattle.std.specs.Int.{w32, to_le_bytes}
use Rattle.rb_history.specs.Span.{span}
use Rattle.rb_history.specs.TapeBytes.{IsItemAt, AreItemsFrom, end_of}
use Rattle.rb_history.specs.TapeBytes.Item.{Event}
use Rattle.rb_history.proofs.HeaderBytes.{halves}
use Rattle.rb_history.proofs.HeaderLaws.{same_first_word, end_of-nil, end_of-cons}
use Rattle.rb_tape_commands.specs.Input.{framed, framed_all, payload_events, Ending, Follows, InputIs}
use Rattle.rb_tape_commands.specs.Input.Ending.{Whole, Unfit, Cut}

-- ---- one payload at the front

regroup : (payload rest : List ℕ) → framed payload ++ rest ≡ to_le_bytes w32 (length payload) ++ (payload ++ rest)
regroup payload rest = append_assoc (to_le_bytes w32 (length payload)) payload rest

same_payload : (p q xs ys : List ℕ) → length p < 2 ^ 32 → length q < 2 ^ 32 → framed p ++ xs ≡ framed q ++ ys → (p ≡ q) × (xs ≡ ys)
same_payload p q xs ys hp hq e =
    let word = same_first_word (length p) (length q) (p ++ xs) (q ++ ys) hp hq (sym (regroup p xs) ∙ e ∙ regroup q ys) in
    halves p xs q ys word.0 word.1

-- if a payload that fits is at the front, nothing else is
not_whole : (q more : List ℕ) → framed q ++ more ≡ [] → ⊥
not_whole q more e = let l = ap length e in absurd (omega (arith, length-append (framed q) more, length-append (to_le_bytes w32 (length q)) q))

not_over : (size position : ℕ) (q more : List ℕ) (e : Ending) → IsItemAt size position (Event position q) → Follows size position e (framed q ++ more) → ⊥
not_over size position q more Whole i f = not_whole q more f
not_over size position q more Unfit i (inl t) =
    let h = i.has_header in
    let word = same_first_word (length q) t.len (q ++ more) t.rest (omega arith) t.has_field (sym (regroup q more) ∙ t.text_is) in
    let same = ap span word.0 in
    omega (arith, i.has_fitted, t.no_room)
not_over size position q more Unfit i (inr t) =
    let h = i.has_header in
    let same = ap length (same_payload q t.payload more t.rest (omega arith) t.has_field t.text_is).0 in
    let spans = ap span same in
    omega (arith, i.bounded, t.past)
not_over size position q more Cut i (inl t) = omega (arith, t.short, length-append (framed q) more, length-append (to_le_bytes w32 (length q)) q)
not_over size position q more Cut i (inr t) =
    let h = i.has_header in
    let word = same_first_word (length q) t.len (q ++ more) t.part (omega arith) t.has_field (sym (regroup q more) ∙ t.text_is) in
    let same = ap length word.1 in
    omega (arith, word.0, t.short, length-append q more)

-- ---- what follows the payloads

long_field : (n : ℕ) (xs : List ℕ) → 4 ≤ length (to_le_bytes w32 n ++ xs)
long_field n xs = omega (arith, length-append (to_le_bytes w32 n) xs)

unfit_is_long : (size position : ℕ) (text : List ℕ) → Follows size position Unfit text → 4 ≤ length text
unfit_is_long size position text (inl t) = let l = ap length t.text_is in omega (arith, long_field t.len t.rest)
unfit_is_long size position text (inr t) = let l = ap length (t.text_is ∙ regroup t.payload t.rest) in omega (arith, long_field (length t.payload) (t.payload ++ t.rest))

cut_is_some : (size position : ℕ) (text : List ℕ) → Follows size position Cut text → 0 < length text
cut_is_some size position text (inl t) = t.some
cut_is_some size position text (inr t) = let l = ap length t.text_is in omega (arith, long_field t.len t.part)

not_both : (size position : ℕ) (text : List ℕ) → Follows size position Unfit text → Follows size position Cut text → ⊥
not_both size position text u (inl c) = omega (arith, unfit_is_long size position text u, c.short)
not_both size position text (inl u) (inr c) =
    let word = same_first_word u.len c.len u.rest c.part u.has_field c.has_field (sym u.text_is ∙ c.text_is) in
    let same = ap span word.0 in
    omega (arith, u.no_room, c.room)
not_both size position text (inr u) (inr c) =
    let word = same_first_word (length u.payload) c.len (u.payload ++ u.rest) c.part u.has_field c.has_field (sym (regroup u.payload u.rest) ∙ sym u.text_is ∙ c.text_is) in
    let same = ap length word.1 in
    omega (arith, word.0, c.short, length-append u.payload u.rest)

same_ending : (size position : ℕ) (text : List ℕ) (e f : Ending) → Follows size position e text → Follows size position f text → e ≡ f
same_ending size position text Whole Whole a b = refl
same_ending size position text Unfit Unfit a b = refl
same_ending size position text Cut Cut a b = refl
same_ending size position text Whole Unfit a b = let l = ap length a in absurd (omega (arith, unfit_is_long size position text b))
same_ending size position text Unfit Whole a b = let l = ap length b in absurd (omega (arith, unfit_is_long size position text a))
same_ending size position text Whole Cut a b = let l = ap length a in absurd (omega (arith, cut_is_some size position text b))
same_ending size position text Cut Whole a b = let l = ap length b in absurd (omega (arith, cut_is_some size position text a))
same_ending size position text Unfit Cut a b = absurd (not_both size position text a b)
same_ending size position text Cut Unfit a b = absurd (not_both size position text b a)

-- ---- the whole input

pub one_reading : (size position : ℕ) (ps qs : List (List ℕ)) (e f : Ending) (r s : List ℕ) → framed_all ps ++ r ≡ framed_all qs ++ s → AreItemsFrom size position (payload_events position ps) → AreItemsFrom size position (payload_events position qs) → Follows size (end_of position (payload_events position ps)) e r → Follows size (end_of position (payload_events position qs)) f s → (ps ≡ qs) × (e ≡ f)
one_reading size position [] [] e f r s same a b x y = (refl, same_ending size (end_of position []) s e f (subst (Follows size (end_of position []) e) same x) y)
one_reading size position [] (q ∷ qs) e f r s same a b x y =
    let text : r ≡ framed q ++ (framed_all qs ++ s) = same ∙ append_assoc (framed q) (framed_all qs) s in
    absurd (not_over size position q (framed_all qs ++ s) e b.0 (subst (λ p. Follows size p e (framed q ++ (framed_all qs ++ s))) (end_of-nil position) (subst (Follows size (end_of position []) e) text x)))
one_reading size position (p ∷ ps) [] e f r s same a b x y =
    let text : s ≡ framed p ++ (framed_all ps ++ r) = sym same ∙ append_assoc (framed p) (framed_all ps) r in
    absurd (not_over size position p (framed_all ps ++ r) f a.0 (subst (λ at. Follows size at f (framed p ++ (framed_all ps ++ r))) (end_of-nil position) (subst (Follows size (end_of position []) f) text y)))
one_reading size position (p ∷ ps) (q ∷ qs) e f r s same a b x y =
    let long_p = a.0.has_header in
    let long_q = b.0.has_header in
    let text : framed p ++ (framed_all ps ++ r) ≡ framed q ++ (framed_all qs ++ s) = sym (append_assoc (framed p) (framed_all ps) r) ∙ same ∙ append_assoc (framed q) (framed_all qs) s in
    let first = same_payload p q (framed_all ps ++ r) (framed_all qs ++ s) (omega arith) (omega arith) text in
    let here : position + span (length q) ≡ position + span (length p) = ap (λ z. position + span (length z)) (sym first.0) in
    let next : AreItemsFrom size (position + span (length p)) (payload_events (position + span (length p)) qs) = subst (λ at. AreItemsFrom size at (payload_events at qs)) here b.1 in
    let behind : Follows size (end_of (position + span (length p)) (payload_events (position + span (length p)) ps)) e r =
    subst (λ at. Follows size at e r) (end_of-cons position (Event position p) (payload_events (position + span (length p)) ps)) x in
    let beyond : Follows size (end_of (position + span (length p)) (payload_events (position + span (length p)) qs)) f s =
    subst (λ at. Follows size (end_of at (payload_events at qs)) f s) here (subst (λ at. Follows size at f s) (end_of-cons position (Event position q) (payload_events (position + span (length q)) qs)) y) in
    let rest = one_reading size (position + span (length p)) ps qs e f r s first.1 a.1 next behind beyond in
    let heads = first.0 in
    let tails = rest.0 in
    (cc, rest.1)

pub says_one_thing : (size start : ℕ) (input : List ℕ) (ps qs : List (List ℕ)) (e f : Ending) → InputIs size start input ps e → InputIs size start input qs f → (ps ≡ qs) × (e ≡ f)
says_one_thing size start input ps qs e f a b = one_reading size start ps qs e f a.rest b.rest (sym a.input_is ∙ b.input_is) a.stand b.stand a.goes_on b.goes_on
