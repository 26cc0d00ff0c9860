-- Directories whose segments are known, through the calls of a store.
use Rattle.std.proofs.Common.{◌≡◌, ℕ, ◌-◌, ◌<◌, arith, List, [], ◌∷◌, ◌++◌, refl, sym, ap, ◌∙◌, subst, append_assoc, append-nil, length}
use Rattle.std.specs.Prelude.{map, nat_lt, not, if◌then◌else◌, option_to_list, slice_index_or, Bool, true, false, IsSome, is_some, Option, None, Some, IfSome, Result, Ok, Err, OnOk, is_err}
use Rattle.std.specs.Result.{result_err}
use Rattle.std.proofs.lemmas.Bool.{false≢true, true≢false}
use Rattle.std.proofs.lemmas.Bool.Decides.{nat_tests}
use Rattle.std.proofs.lemmas.List.{map-append}
use Rattle.std.specs.Io.KnownBytes.{Appends, Keeps}
use Rattle.rb_segments.specs.Segments.{Directory, HoldsRecords, Segment}
use Rattle.rb_segments.specs.Known.{AddsSegment, ClosesFirst, Creates, HavePositions, IsFirstCreated, IsOldest, IsOnlyCreated, RemovesOldest}
use Rattle.rb_segments.specs.SegmentTape.{both, directory, kept}
use Rattle.rb_segments.specs.inner.Rolling.{DeletesOldest, KeepsRecords}
use Rattle.rb_segments.proofs.RecordsHeld.{deletes, rolls}

-- ---- what a call answered

pub on_ok : {T E : Type 0} (r : Result T E) (P : Type 0) (failed : Bool) → OnOk r P → failed ≡ is_err r → failed ≡ false → P
on_ok (Ok x) P failed holds is sound = holds
on_ok (Err x) P failed holds is sound = absurd (true≢false (sym is ∙ sound))

pub on_no_error : {T E : Type 0} (r : Result T E) (P : Type 0) → OnOk r P → result_err r ≡ None → P
on_no_error (Ok x) P holds none = holds
on_no_error (Err e) P holds none = absurd (cc)

-- a fault that is there, or not
pub no_fault : {A : Type 0} (fault : Option A) (there : Bool) → there ≡ is_some fault → there ≡ false → fault ≡ None
no_fault None there is none = refl
no_fault (Some x) there is none = absurd (true≢false (sym is ∙ none))

pub some_fault : {A : Type 0} (fault : Option A) (there : Bool) → there ≡ is_some fault → there ≡ true → fault ≡ None → ⊥
some_fault None there is some none = true≢false (sym some ∙ is)
some_fault (Some x) there is some none = cc

pub not_none : {A : Type 0} (x : A) → Some x ≡ None → ⊥
not_none x e = cc

pub moved_on : (position before after : ℕ) (ok failed : Bool) → position ≡ (if ok then after else before) → ok ≡ not failed → failed ≡ false → position ≡ after
moved_on position before after ok failed is e sound = is ∙ ap (λ b. if b then after else before) (e ∙ ap not sound)

-- ---- what is known stays known

pub bytes_kept : (bytes : List ℕ) (new : Option (List ℕ)) → Keeps (Some bytes) new → new ≡ Some bytes
bytes_kept bytes None kept = absurd kept
bytes_kept bytes (Some new) kept = ap Some kept

pub bytes_added : (bytes more : List ℕ) (new : Option (List ℕ)) → Appends (Some bytes) new more → new ≡ Some (bytes ++ more)
bytes_added bytes more None added = absurd added
bytes_added bytes more (Some new) added = ap Some added

pub some_of : {A : Type 0} (x y : A) → Some x ≡ Some y → x ≡ y
some_of x y e = cc

-- the parts of a known directory
pub parts : (segments : Option (List Segment)) (bytes : Option (List ℕ)) (opened : ℕ) (known : Directory) → both segments bytes (directory opened) ≡ Some known
    → (closed : List Segment) × (content : List ℕ) × (segments ≡ Some closed) × (bytes ≡ Some content) × (known ≡ directory opened closed content)
parts None bytes opened known e = absurd (cc)
parts (Some closed) None opened known e = absurd (cc)
parts (Some closed) (Some content) opened known e = (closed, content, refl, refl, sym (some_of (directory opened closed content) known e))

pub whole_of : (segments : Option (List Segment)) (bytes : Option (List ℕ)) (opened : ℕ) (closed : List Segment) (content : List ℕ) → segments ≡ Some closed → bytes ≡ Some content → both segments bytes (directory opened) ≡ Some (directory opened closed content)
whole_of segments bytes opened closed content s b = ap (λ x. both x bytes (directory opened)) s ∙ ap (λ x. both (Some closed) x (directory opened)) b

-- ---- records are kept

pub keeps_same : (old new : Option Directory) (position : ℕ) → new ≡ old → KeepsRecords old position new
keeps_same old new position same size start deleted d items known here holds =
    ([], d, same ∙ known, subst (λ l. HoldsRecords size start l d items []) (sym (append-nil deleted)) holds)

pub keeps_both : (old mid new : Option Directory) (position : ℕ) → KeepsRecords old position mid → KeepsRecords mid position new → KeepsRecords old position new
keeps_both old mid new position one two size start deleted d items known here holds =
    let first = one size start deleted d items known here holds in
    let second = two size start (deleted ++ first.0) first.1 items first.2 here first.3 in
    (first.0 ++ second.0, second.1, second.2, subst (λ l. HoldsRecords size start l second.1 items []) (append_assoc deleted first.0 second.0) second.3)

-- nothing was closed
pub keeps_parts : (old new : Option (List Segment)) (bytes after : Option (List ℕ)) (opened position : ℕ) → new ≡ old → Keeps bytes after → KeepsRecords (both old bytes (directory opened)) position (both new after (directory opened))
keeps_parts old new bytes after opened position segments content size start deleted d items known here holds =
    let p = parts old bytes opened d known in
    let b = bytes_kept p.1 after (subst (λ x. Keeps x after) p.3 content) in
    ([], d, whole_of new after opened p.0 p.1 (segments ∙ p.2) b ∙ ap Some (sym p.4), subst (λ l. HoldsRecords size start l d items []) (sym (append-nil deleted)) holds)

-- the open segment was closed, and the next one created
pub keeps_turned : (old closed : Option (List Segment)) (bytes out fresh : Option (List ℕ)) (opened position : ℕ) → Keeps bytes out → IfSome old (λ _. fresh ≡ Some []) → AddsSegment old opened out closed
    → KeepsRecords (both old bytes (directory opened)) position (both closed fresh (directory position))
keeps_turned old closed bytes out fresh opened position written empty added size start deleted d items known here holds =
    let p = parts old bytes opened d known in
    let b : out ≡ Some p.1 = bytes_kept p.1 out (subst (λ x. Keeps x out) p.3 written) in
    let n : closed ≡ Some (p.0 ++ record { position = opened; bytes = p.1 } ∷ []) = subst (λ x. AddsSegment (Some p.0) opened x closed) b (subst (λ x. AddsSegment x opened out closed) p.2 added) in
    let f : fresh ≡ Some [] = subst (λ x. IfSome x (λ _. fresh ≡ Some [])) p.2 empty in
    let whole = rolls size start deleted p.0 opened p.1 items position here (subst (λ x. HoldsRecords size start deleted x items []) p.4 holds) in (
      [],
      directory position (p.0 ++ record { position = opened; bytes = p.1 } ∷ []) [],
      whole_of closed fresh position (p.0 ++ record { position = opened; bytes = p.1 } ∷ []) [] n f,
      subst (λ l. HoldsRecords size start l (directory position (p.0 ++ record { position = opened; bytes = p.1 } ∷ []) []) items []) (sym (append-nil deleted)) whole,
    )

-- some of the oldest segments were deleted
pub keeps_deleted : (old new : Option (List Segment)) (bytes : Option (List ℕ)) (opened position : ℕ) → DeletesOldest old new → KeepsRecords (both old bytes (directory opened)) position (both new bytes (directory opened))
keeps_deleted old new bytes opened position gone size start deleted d items known here holds =
    let p = parts old bytes opened d known in
    some_gone p.0 new (subst (λ x. DeletesOldest x new) p.2 gone) (subst (λ x. HoldsRecords size start deleted x items []) p.4 holds)
  where
    Goal : Option (List Segment) → Type 0
    Goal after = (g : List Segment) × (e : Directory) × (both after bytes (directory opened) ≡ Some e) × HoldsRecords size start (deleted ++ g) e items []

    some_gone : (closed : List Segment) (after : Option (List Segment)) → DeletesOldest (Some closed) after → HoldsRecords size start deleted (directory opened closed (parts old bytes opened d known).1) items [] → Goal after
    some_gone closed None gone held = absurd gone
    some_gone closed (Some left) gone held =
        let content = (parts old bytes opened d known).1 in (
          gone.0,
          directory opened left content,
          whole_of (Some left) bytes opened left content refl (parts old bytes opened d known).3,
          deletes size start deleted gone.0 left opened content items [] (subst (λ l. HoldsRecords size start deleted (directory opened l content) items []) gone.1 held),
        )

-- ---- the oldest segments

pub none_deleted : (segments : Option (List Segment)) → DeletesOldest segments segments
none_deleted None = refl
none_deleted (Some segments) = ([], refl)

pub one_deleted : (old mid new : Option (List Segment)) → DeletesOldest old mid → RemovesOldest mid new → DeletesOldest old new
one_deleted None None new so_far removed = removed
one_deleted None (Some mid) new so_far removed = absurd (cc)
one_deleted (Some old) None new so_far removed = absurd so_far
one_deleted (Some old) (Some []) new so_far removed = absurd removed
one_deleted (Some old) (Some (segment ∷ segments)) new so_far removed = subst (DeletesOldest (Some old)) (sym removed)
    (so_far.0 ++ segment ∷ [], so_far.1 ∙ sym (append_assoc so_far.0 (segment ∷ []) segments))

-- ---- the positions of closed segments

-- the first position is that of the oldest
pub oldest_is : (position : ℕ) (positions : List ℕ) (segments : Option (List Segment)) → HavePositions (position ∷ positions) segments → IsOldest position segments
oldest_is position positions None have = tt
oldest_is position positions (Some []) have = absurd (cc)
oldest_is position positions (Some (segment ∷ segments)) have = cc

pub positions_deleted : (position : ℕ) (positions : List ℕ) (old new : Option (List Segment)) → HavePositions (position ∷ positions) old → RemovesOldest old new → HavePositions positions new
positions_deleted position positions None new have removed = subst (HavePositions positions) (sym removed) tt
positions_deleted position positions (Some []) new have removed = absurd removed
positions_deleted position positions (Some (segment ∷ segments)) new have removed = subst (HavePositions positions) (sym removed) (cc)

pub positions_added : (position : ℕ) (positions : List ℕ) (bytes : Option (List ℕ)) (old new : Option (List Segment)) → HavePositions positions old → AddsSegment old position bytes new → HavePositions (positions ++ position ∷ []) new
positions_added position positions bytes None new have added = subst (HavePositions (positions ++ position ∷ [])) (sym added) tt
positions_added position positions None (Some segments) new have added = absurd added
positions_added position positions (Some bytes) (Some segments) new have added =
    subst (HavePositions (positions ++ position ∷ [])) (sym added) (map-append (λ (s : Segment). s.position) segments (record { position = position; bytes = bytes } ∷ []) ∙ ap (λ l. l ++ position ∷ []) have)

pub none_yet : (segments : Option (List Segment)) → IfSome segments (λ closed. closed ≡ []) → HavePositions [] segments
none_yet None fresh = tt
none_yet (Some closed) fresh = ap (map (λ s. s.position)) fresh

-- ---- which of the oldest go

pub first_is : (items rest : List ℕ) (popped : Option ℕ) (oldest : ℕ) → items ≡ option_to_list popped ++ rest → IsSome popped → oldest ≡ slice_index_or items 0 oldest → items ≡ oldest ∷ rest
first_is items rest None oldest is some first = absurd (false≢true some)
first_is items rest (Some x) oldest is some first =
    let here : oldest ≡ x = first ∙ ap (λ l. slice_index_or l 0 oldest) is in
    is ∙ ap (λ n. n ∷ rest) (sym here)

pub kept_on : (keep position oldest : ℕ) (items rest : List ℕ) → items ≡ oldest ∷ rest → keep < position - oldest → kept keep position items ≡ kept keep position rest
kept_on keep position oldest items rest is beyond =
    ap (kept keep position) is ∙ ap (λ b. if b then kept keep position rest else oldest ∷ rest) (is_beyond keep (position - oldest) beyond)
  where
    is_beyond : (a b : ℕ) → a < b → nat_lt a b ≡ true
    is_beyond a b h = grind (arith, nat_tests)

-- ---- which segments were created

pub first_created : (position : ℕ) (created : Option (List ℕ)) → IfSome created (λ c. c ≡ []) → (new : Option (List ℕ)) → Creates created position new → IsOnlyCreated position new
first_created position None none new creates = subst (IsOnlyCreated position) (sym creates) tt
first_created position (Some created) none new creates = subst (IsOnlyCreated position) (sym creates) (ap (λ l. l ++ position ∷ []) none)

pub is_first_created : (position : ℕ) (created : Option (List ℕ)) → IsOnlyCreated position created → IsFirstCreated position created
is_first_created position None only = tt
is_first_created position (Some []) only = absurd (let l = ap length only in omega (arith, l))
is_first_created position (Some (first ∷ rest)) only = cc

pub next_created : (opened position : ℕ) (old mid new : Option (List ℕ)) → IsOnlyCreated opened old → Creates old position mid → ClosesFirst mid new → IsOnlyCreated position new
next_created opened position None mid new only creates closes = subst (λ x. ClosesFirst x new → IsOnlyCreated position new) (sym creates) (λ none. subst (IsOnlyCreated position) (sym none) tt) closes
next_created opened position (Some old) mid new only creates closes =
    let all : mid ≡ Some (opened ∷ position ∷ []) = creates ∙ ap (λ l. Some (l ++ position ∷ [])) only in
    let closed : new ≡ Some (position ∷ []) = subst (λ x. ClosesFirst x new) all closes in
    subst (IsOnlyCreated position) (sym closed) refl

pub first_of_two : (opened position : ℕ) (old mid : Option (List ℕ)) → IsOnlyCreated opened old → Creates old position mid → IsFirstCreated opened mid
first_of_two opened position None mid only creates = subst (IsFirstCreated opened) (sym creates) tt
first_of_two opened position (Some old) mid only creates = subst (IsFirstCreated opened) (sym (creates ∙ ap (λ l. Some (l ++ position ∷ [])) only)) refl
