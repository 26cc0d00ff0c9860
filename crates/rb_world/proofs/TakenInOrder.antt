-- The records that were taken, followed by those that remain, are all that were reserved, in that order.
use Rattle.std.proofs.Common.{◌≡◌, ℕ, false, List, [], ◌∷◌, ◌++◌, map, filter, refl, sym, ap, subst, ◌∙◌, inl, inr, arith, append_assoc, append-nil}
use Rattle.std.specs.List.{Contains, filter_map}
use Rattle.std.proofs.lemmas.List.{map-append}
use Rattle.std.proofs.lemmas.List.Elements.{filter_map-append}
use Rattle.std.proofs.lemmas.Bool.{false_from_ne_true}
use Rattle.rb_history.specs.declared.entries.Entry.{Entry}
use Rattle.rb_history.specs.declared.entries.Entry.TheVariants.{Res, Full, Sub, Dis, Take}
use Rattle.rb_history.specs.History.{Shown, Status, records, is_submitted_at, is_discarded_at, is_taken_at, producer_of, consumer_of}
use Rattle.rb_history.specs.History.Status.{Waiting, Discarded}
use Rattle.rb_history.specs.RoomRule.{Setup}
use Rattle.rb_history.specs.Legal.{IsLegal}
use Rattle.rb_history.specs.inner.RecordRows.{InRow}
use Rattle.rb_history.proofs.Row.{filter-front}
use Rattle.rb_history.proofs.Steps.{mark, elsewhere, records-full, records-res, records-sub, records-dis, records-take, shown-contains}
use Rattle.rb_history.proofs.Laws.{KeptAs, kept-from-legal}
use Rattle.rb_world.specs.EveryInterleaving.{granted_position}
use Rattle.rb_world.proofs.Tables.{eq_cases}
use Rattle.rb_world.proofs.BusyRecords.{not-granted, not-settled}

abbrev pub positions : List Shown → List ℕ
positions shown = map (λ s. s.pos) shown

-- the positions that were taken, followed by those of the remaining records, are those that were granted
abbrev pub Row : List Entry → List ℕ → Type 0
Row h gone = filter_map granted_position h ≡ gone ++ positions (records h)

marked : (p : ℕ) (st : Status) (shown : List Shown) → positions (map (mark p st) shown) ≡ positions shown
marked p st [] = refl
marked p st (s ∷ shown) = elim (eq_cases s.pos p) [ inl h ↦ rw h.0 (ap (λ l. s.pos ∷ l) (marked p st shown)) | inr h ↦ rw h.0 (ap (λ l. s.pos ∷ l) (marked p st shown)) ]

quiet-row : (h : List Entry) (e : Entry) (gone : List ℕ) → filter_map granted_position (e ∷ []) ≡ [] → positions (records (h ++ e ∷ [])) ≡ positions (records h) → Row h gone → Row (h ++ e ∷ []) gone
quiet-row h e gone none same row =
    filter_map-append granted_position h (e ∷ []) ∙ ap (λ l. filter_map granted_position h ++ l) none ∙ append-nil _ ∙ row ∙ ap (λ l. gone ++ l) (sym same)

pub row-full : (h : List Entry) (w n : ℕ) (gone : List ℕ) → Row h gone → Row (h ++ Full w n ∷ []) gone
row-full h w n gone row = quiet-row h (Full w n) gone refl (ap positions (records-full h w n)) row

pub row-sub : (h : List Entry) (p : ℕ) (gone : List ℕ) → is_discarded_at h p ≡ false → Row h gone → Row (h ++ Sub p ∷ []) gone
row-sub h p gone d row = quiet-row h (Sub p) gone refl (ap positions (records-sub h p d) ∙ marked p Waiting (records h)) row

pub row-dis : (h : List Entry) (p : ℕ) (gone : List ℕ) → Row h gone → Row (h ++ Dis p ∷ []) gone
row-dis h p gone row = quiet-row h (Dis p) gone refl (ap positions (records-dis h p) ∙ marked p Discarded (records h)) row

pub row-res : (r : Setup) (h : List Entry) (w k n p : ℕ) (gone : List ℕ) → IsLegal r h → p ≡ producer_of r.start h → Row h gone → Row (h ++ Res w k n p ∷ []) gone
row-res r h w k n p gone l at row =
    let kept : KeptAs r h = kept-from-legal r h l in
    let o = not-settled r h l in
    let free : is_taken_at h (producer_of r.start h) ≡ false = false_from_ne_true (is_taken_at h (producer_of r.start h)) (λ t. not-granted r h l (kept.named (producer_of r.start h) (kept.closed (producer_of r.start h) t))) in
    let same = records-res h w k n p (subst (λ q. is_taken_at h q ≡ false) (sym at) free) (subst (λ q. is_submitted_at h q ≡ false) (sym at) o.not_submitted) (subst (λ q. is_discarded_at h q ≡ false) (sym at) o.not_discarded) in
    filter_map-append granted_position h (Res w k n p ∷ []) ∙ ap (λ l. l ++ p ∷ []) row ∙ append_assoc gone (positions (records h)) (p ∷ [])
    ∙ ap (λ l. gone ++ l) (sym (ap positions same ∙ map-append (λ s. s.pos) (records h) _))

pub row-take : (r : Setup) (h : List Entry) (w k n p : ℕ) (gone : List ℕ) → IsLegal r h → p ≡ consumer_of r.start h → Contains h (Res w k n p) → Row h gone → Row (h ++ Take p ∷ []) (gone ++ p ∷ [])
row-take r h w k n p gone l at granted row =
    let kept : KeptAs r h = kept-from-legal r h l in
    let free : is_taken_at h p ≡ false = false_from_ne_true (is_taken_at h p) (λ t. omega (arith, kept.passed p t, at)) in
    let there = shown-contains h h w k n p free granted in
    front (records h) _ refl kept.in_row there
  where
    front : (shown : List Shown) (x : Shown) → shown ≡ records h → InRow (consumer_of r.start h) shown (producer_of r.start h) → Contains (records h) x → Row (h ++ Take p ∷ []) (gone ++ p ∷ [])
    front [] x is row_is there = absurd (empty [] x is there)
      where
        empty : (shown : List Shown) (x : Shown) → [] ≡ records h → Contains (records h) x → ⊥
        empty shown x is c = none (subst (λ l. Contains l x) (sym is) c)
          where
            none : Contains [] x → ⊥
            none (i, lt, e) = omega arith
    front (s ∷ shown) x is row_is there =
        let here : s.pos ≡ p = row_is.0 ∙ sym at in
        let left : records (h ++ Take p ∷ []) ≡ shown = records-take h p ∙ ap (filter (elsewhere p)) (sym is) ∙ subst (λ q. filter (elsewhere q) (s ∷ shown) ≡ shown) (sym at) (filter-front (consumer_of r.start h) s shown (producer_of r.start h) row_is) in
        let split : positions (records h) ≡ p ∷ positions shown = ap positions (sym is) ∙ ap (λ q. q ∷ positions shown) here in
        filter_map-append granted_position h (Take p ∷ []) ∙ append-nil _ ∙ row ∙ ap (λ l. gone ++ l) split ∙ sym (append_assoc gone (p ∷ []) (positions shown)) ∙ ap (λ l. (gone ++ p ∷ []) ++ positions l) (sym left)
