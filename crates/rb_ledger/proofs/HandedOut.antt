-- What was known to be handed out remains so, and what follows from it.
use Rattle.std.proofs.Common.{◌≡◌, ℕ, ◌+◌, ◌≤◌, List, [], ◌∷◌, ◌++◌, take, drop, length, inl, inr, sym, ap, ◌∙◌, subst, length-append, arith}
use Rattle.std.proofs.lemmas.Bool.{cases_lt}
use Rattle.std.proofs.lemmas.List.{take-append-le, take_all, take-take, take-append-drop}
use Rattle.std.proofs.lemmas.Grind.{flat_map-append}
use Rattle.rb_chapter_ring.specs.Chapters.{Chapter, joined}
use Rattle.rb_ledger.specs.HandedOut.{IsCutOf, HandedOutIsKnown, HandingOutMakesRoom}

-- what was known to be handed out remains so after another chapter was handed out
pub cut-behind : (hs : List Chapter) (c : Chapter) (cut seen : ℕ) → seen ≤ length (joined (hs ++ c ∷ [])) → IsCutOf hs cut seen → IsCutOf (hs ++ c ∷ []) cut seen
cut-behind hs c cut seen low is =
    let long : length (hs ++ c ∷ []) ≡ length hs + 1 = length-append hs (c ∷ []) in
    let within = is.within in
    let front : take is.chapters (hs ++ c ∷ []) ≡ take is.chapters hs = take-append-le is.chapters hs (c ∷ []) within in
    record {
      chapters = is.chapters;
      within = omega arith;
      cut_is = is.cut_is ∙ ap (λ l. length (joined l)) (sym front);
      next_is_later = λ more. elim (cases_lt is.chapters (length hs)) [
        | inl near ↦ subst (λ l. seen ≤ length (joined l)) (sym (take-append-le (is.chapters + 1) hs (c ∷ []) (omega arith))) (is.next_is_later near)
        | inr far ↦ subst (λ l. seen ≤ length (joined l)) (sym (take_all (is.chapters + 1) (hs ++ c ∷ []) (omega arith))) low
      ];
    }

-- everything that was handed out is known once the ring was seen
pub cut-now-is : (hs : List Chapter) (seen : ℕ) → IsCutOf hs (length (joined hs)) seen
cut-now-is hs seen = record {
  chapters = length hs;
  within = omega arith;
  cut_is = ap (λ l. length (joined l)) (sym (take_all (length hs) hs (omega arith)));
  next_is_later = λ more. absurd (omega arith);
}

-- it is at most what was handed out
pub cut-within : (hs : List Chapter) (cut seen : ℕ) → IsCutOf hs cut seen → cut ≤ length (joined hs)
cut-within hs cut seen is =
    let parts = ap length (sym (flat_map-append (λ (c : Chapter). c.entries) (take is.chapters hs) (drop is.chapters hs))) in
    let all = ap (λ l. length (joined l)) (take-append-drop is.chapters hs) in
    let sums = length-append (joined (take is.chapters hs)) (joined (drop is.chapters hs)) in
    let cut_is = is.cut_is in
    omega arith

-- the first of several chapters have at most as many entries as all of them
front-within : (n : ℕ) (hs : List Chapter) → length (joined (take n hs)) ≤ length (joined hs)
front-within n hs =
    let parts = ap length (flat_map-append (λ (c : Chapter). c.entries) (take n hs) (drop n hs)) in
    let all = ap (λ l. length (joined l)) (take-append-drop n hs) in
    let sums = length-append (joined (take n hs)) (joined (drop n hs)) in
    omega arith

pub handed-out-is-known : HandedOutIsKnown
handed-out-is-known handed_out front later cut seen split is behind =
    let cut_is = is.cut_is in
    let within = is.within in
    let long : length handed_out ≡ length front + length later = ap length split ∙ length-append front later in
    elim (cases_lt is.chapters (length front)) [
      | inl near ↦
          let next : seen ≤ length (joined (take (is.chapters + 1) handed_out)) = is.next_is_later (omega arith) in
          let same : take (is.chapters + 1) handed_out ≡ take (is.chapters + 1) front = ap (λ l. take (is.chapters + 1) l) split ∙ take-append-le (is.chapters + 1) front later (omega arith) in
          let low = front-within (is.chapters + 1) front in
          let at = ap (λ l. length (joined l)) same in
          absurd (omega arith)
      | inr far ↦
          let among : take (length front) (take is.chapters handed_out) ≡ front =
          take-take (length front) is.chapters handed_out far ∙ ap (λ l. take (length front) l) split ∙ take-append-le (length front) front later (omega arith) ∙ take_all (length front) front (omega arith) in
          let low = front-within (length front) (take is.chapters handed_out) in
          let at = ap (λ l. length (joined l)) among in
          omega arith
    ]

pub handing-out-makes-room : HandingOutMakesRoom
handing-out-makes-room handed_out front later room cut w n old new split is behind leaves has none =
    let known : length (joined front) ≤ cut = handed-out-is-known handed_out front later cut (length old.history) split is behind in
    none.no_grant has (omega arith)
