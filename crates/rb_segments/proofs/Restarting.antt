-- What a tape that continues after a restart has written.
use Rattle.std.proofs.Common.{◌≡◌, ℕ, ◌+◌, List, [], ◌∷◌, ◌++◌, length, take, refl, sym, ap, ◌∙◌, subst, append-nil, arith, length-append}
use Rattle.std.specs.Prelude.{map, Option, None, Some, IfSome}
use Rattle.std.proofs.lemmas.List.{map-append}
use Rattle.std.proofs.Math.Seq.{take-append_seam}
use Rattle.rb_history.specs.TapeBytes.{tape, AreItemsFrom, end_of}
use Rattle.rb_history.proofs.HeaderLaws.{end_of-tape, end_of-append}
use Rattle.rb_tape.specs.declared.fault.TapeFault.{TapeFault}
use Rattle.rb_tape.specs.LongestTape.{IsReadThrough}
use Rattle.rb_segments.specs.Segments.{Segment}
use Rattle.rb_segments.specs.Known.{HavePositions, IsNewest, Reopens, stored}
use Rattle.rb_segments.specs.declared.stored_segment.StoredSegment.{StoredSegment}
use Rattle.rb_segments.specs.SegmentTape.{SegmentTape, directory}
use Rattle.rb_segments.specs.Restart.{AreWholeRecords, EndsAt, Resumes}
use Rattle.rb_segments.proofs.Directories.{whole_of}

-- two lists with one element more are equal part by part
pub push_same : {A : Type 0} (xs ys : List A) (x y : A) → xs ++ x ∷ [] ≡ ys ++ y ∷ [] → (xs ≡ ys) × (x ≡ y)
push_same [] [] x y e = (refl, cc)
push_same [] (z ∷ ys) x y e = absurd (let l = ap length e in let n = length-append ys (y ∷ []) in omega (arith, l, n))
push_same (z ∷ xs) [] x y e = absurd (let l = ap length e in let n = length-append xs (x ∷ []) in omega (arith, l, n))
push_same (z ∷ xs) (w ∷ ys) x y e =
    let tails : xs ++ x ∷ [] ≡ ys ++ y ∷ [] = cc in
    let heads : z ≡ w = cc in
    let both = push_same xs ys x y tails in
    let rest = both.0 in
    (cc, both.1)

abbrev segment : ℕ → List ℕ → Segment
segment position bytes = record { position = position; bytes = bytes }

-- ---- where the whole records end

pub ends_whole : (size position : ℕ) (bytes : List ℕ) (count : ℕ) → IsReadThrough size position bytes count None → EndsAt size position bytes (length bytes)
ends_whole size position bytes count read =
    let all : bytes ≡ tape size read.items = read.splits.text ∙ (ap (λ l. tape size read.items ++ l) read.whole ∙ append-nil (tape size read.items)) in
    (read.items, (read.rest, read.splits, read.longest), ap (λ l. position + length l) all ∙ end_of-tape size position read.items)

pub ends_cut : (size position : ℕ) (bytes : List ℕ) (count : ℕ) (fault : TapeFault) → IsReadThrough size position bytes count (Some fault) → EndsAt size position bytes fault.offset
ends_cut size position bytes count fault read =
    let told = read.told.0 in
    let up = end_of-tape size position read.items in
    (read.items, (read.rest, read.splits, read.longest), omega (arith, told, up))

-- ---- the positions of the closed segments

pub positions_reopened : (closed : List ℕ) (opened len : ℕ) (bytes : Option (List ℕ)) (old new : Option (List Segment)) → HavePositions (closed ++ opened ∷ []) old → Reopens old len bytes new → HavePositions closed new
positions_reopened closed opened len bytes None new have reopened = subst (HavePositions closed) (sym reopened) tt
positions_reopened closed opened len bytes (Some old) new have reopened =
    let p = λ (s : Segment). s.position in
    let all : map p reopened.0 ++ reopened.1.position ∷ [] ≡ closed ++ opened ∷ [] = sym (map-append p reopened.0 (reopened.1 ∷ [])) ∙ (ap (map p) (sym reopened.2) ∙ have) in
    subst (HavePositions closed) (sym reopened.3) (push_same (map p reopened.0) closed reopened.1.position opened all).0

-- ---- what is held then

module _ {S F : Type 0} (segments : S → Option (List Segment)) (contents : F → Option (List ℕ)) (store : S) (opened whole : ℕ) (bytes : List ℕ) (closed : List ℕ) (t : SegmentTape S F) where
  pub resumes : HavePositions (closed ++ opened ∷ []) (segments store) → IfSome (segments store) (IsNewest bytes) → EndsAt t.size opened bytes whole → Reopens (segments store) whole (contents t.writer) (segments t.store)
      → t.opened ≡ opened → t.position ≡ opened + whole → t.fault ≡ None → t.unwritten ≡ 0 → Resumes segments contents t.size store t
  resumes have newest_is ends reopened at here sound none start older newest items known held named =
      let old = older ++ newest ∷ [] in
      let n : IsNewest bytes old = subst (λ x. IfSome x (IsNewest bytes)) known newest_is in
      let last = push_same n.0 older n.1 newest (sym n.2) in
      let is_bytes : bytes ≡ newest.bytes = n.3 ∙ ap (λ s. s.bytes) last.1 in
      let p = λ (s : Segment). s.position in
      let all : map p older ++ newest.position ∷ [] ≡ closed ++ opened ∷ [] = sym (map-append p older (newest ∷ [])) ∙ subst (λ x. HavePositions (closed ++ opened ∷ []) x) known have in
      let is_opened : newest.position ≡ opened = (push_same (map p older) closed newest.position opened all).1 in
      let r : Reopens (Some old) whole (contents t.writer) (segments t.store) = subst (λ x. Reopens x whole (contents t.writer) (segments t.store)) known reopened in
      let again = push_same r.0 older r.1 newest (sym r.2) in
      let records = ends.0 in
      let splits = ends.1.1 in
      let up = end_of-tape t.size opened records in
      let long : whole ≡ length (tape t.size records) = let e = ends.2 in omega (arith, e, up) in
      let front : take whole newest.bytes ≡ tape t.size records =
      ap (take whole) (sym is_bytes ∙ splits.text) ∙ (ap (λ k. take k (tape t.size records ++ ends.1.0)) long ∙ take-append_seam (tape t.size records) ends.1.0) in
      let file : contents t.writer ≡ Some (tape t.size records) = r.4 ∙ ap Some (ap (λ s. take whole s.bytes) again.1 ∙ front) in
      let kept : segments t.store ≡ Some older = r.3 ∙ ap Some again.0 in (
        records,
        subst (λ s. AreWholeRecords t.size s records) (ap (λ p. segment p bytes) (sym is_opened) ∙ ap (segment newest.position) is_bytes) ends.1,
        record {
          directory = directory t.opened older (tape t.size records);
          known = whole_of (segments t.store) (contents t.writer) t.opened older (tape t.size records) kept file;
          whole = items ++ records;
          left = [];
          items_are = sym (append-nil (items ++ records));
          part = [];
          missing = [];
          holds = record {
            in_closed = items;
            in_open = records;
            items_are = refl;
            closed_hold = held;
            named = at ∙ (sym is_opened ∙ named);
            stand = subst (λ n. AreItemsFrom t.size n records) (sym at) splits.stand;
            text = sym (append-nil (tape t.size records));
          };
          cut = refl;
          position = here ∙ (ends.2 ∙ (ap (λ n. end_of n records) (sym is_opened ∙ named) ∙ sym (end_of-append start items records)));
          all = λ _. refl;
          counted = none;
        },
      )

-- ---- a listing

listed_same : (closed : List Segment) → map (λ (s : Segment). s.position) closed ≡ map (λ (s : StoredSegment). s.position) (map stored closed)
listed_same [] = refl
listed_same (s ∷ closed) = ap (λ l. s.position ∷ l) (listed_same closed)

pub listed_positions : (list older : List StoredSegment) (newest : StoredSegment) (segments : Option (List Segment)) → IfSome segments (λ closed. list ≡ map stored closed) → list ≡ older ++ newest ∷ []
    → HavePositions (map (λ (s : StoredSegment). s.position) older ++ newest.position ∷ []) segments
listed_positions list older newest None listed is = tt
listed_positions list older newest (Some closed) listed is =
    let p = λ (s : StoredSegment). s.position in listed_same closed ∙ (ap (map p) (sym listed ∙ is) ∙ map-append p older (newest ∷ []))
