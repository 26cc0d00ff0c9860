-- What was read of a tape so far, and what a result then implies for the whole input.
use Rattle.std.proofs.Common.{◌≡◌, ◌≢◌, ℕ, ◌+◌, ◌-◌, ◌≤◌, List, [], ◌∷◌, ◌++◌, length, take, drop, None, Some, IfSome, Result, Ok, Err, refl, sym, ap, ◌∙◌, subst, arith, append_assoc, append-nil, take-append-drop, true≢false, inl, inr}
use Rattle.std.proofs.lemmas.List.{take-append-le, drop-append-le, length-append, length-drop}
use Rattle.std.proofs.lemmas.Grind.{flat_map-append}
use Rattle.std.specs.Prelude.{Option, Bool, false, is_err, OnOk}
use Rattle.std.specs.Io.KnownBytes.{Appends, Consumes, Keeps, IsAtEnd, append_known}
use Rattle.std.proofs.KnownBytes.{Appends-nil, Appends-trans, Appends-kept, Consumes-kept, Consumes-nil, Consumes-trans, Consumes-whole, Keeps-refl, Keeps-trans}
use Rattle.rb_history.specs.declared.headers.Header.{Header}
use Rattle.rb_history.specs.Header.{header_bytes}
use Rattle.rb_history.specs.TapeBytes.{Item, item_bytes, end_of, padding, tape}
use Rattle.rb_history.proofs.HeaderLaws.{length-item_bytes}
use Rattle.rb_history.specs.RingModel.{IsRingSize}
use Rattle.rb_tape.specs.declared.fault.TapeKind.{TapeKind}
use Rattle.rb_tape.specs.declared.fault.TapeKind.TheVariants as kinds
use Rattle.rb_tape.specs.declared.fault.TapeFault.{TapeFault}
use Rattle.rb_tape.specs.TapeFront.{ShowsFault, IsUndecided, StartsWithItem, IsFirstTapeFault, HasWholeSpan}
use Rattle.rb_tape.specs.TapeReading.{Reading, AddsPiece, reading_from}
use Rattle.rb_tape.specs.LongestTape.{HasReadItems}
use Rattle.rb_tape.proofs.ItemsRead.{begins, fed, goes_on, is_longest}
use Rattle.rb_tape_commands.specs.TapeText.{tape_line_as, tape_lines, PrintsTape, PrintsFirst, PrintsSome, TapeAnswer}
use Rattle.rb_tape_commands.specs.inner.TapePrinting.{PrintsSoFar, EndsTape, PrintsWhole}
use Rattle.rb_tape_commands.specs.inner.LineGathering.{PassesItems, ReadsLines, GathersLines}
use Rattle.rb_tape_commands.specs.declared.tape_refusal.TapeRefusal.{TapeRefusal}
use Rattle.rb_tape_commands.specs.declared.tape_refusal.TapeRefusal.TheVariants.{Size, Start, Record, Memory, Device}
use Rattle.rb_json.specs.declared.form.LineForm.{LineForm}

module _ (form : LineForm) where
  -- ---- step by step

  Appends-known : (a : Option (List ℕ)) (bs : List ℕ) → Appends a (append_known a bs) bs
  Appends-known None bs = tt
  Appends-known (Some xs) bs = refl

  passes-size : (old new : Reading) (items : List Item) → PassesItems old items new → new.size ≡ old.size
  passes-size old new [] same = ap (λ r. r.size) same
  passes-size old new (item ∷ items) all = passes-size all.0 new items all.2 ∙ all.1.size

  passes-start : (old new : Reading) (items : List Item) → PassesItems old items new → new.start ≡ old.start
  passes-start old new [] same = ap (λ r. r.start) same
  passes-start old new (item ∷ items) all = passes-start all.0 new items all.2 ∙ all.1.start

  passes-told : (old new : Reading) (items : List Item) → old.told ≡ None → PassesItems old items new → new.told ≡ None
  passes-told old new [] none same = ap (λ r. r.told) same ∙ none
  passes-told old new (item ∷ items) none all = passes-told all.0 new items all.1.told all.2

  -- items that the reader passes are appended to those read before
  read_on : (size start : ℕ) (bytes : List ℕ) (before : List Item) (old new : Reading) (items : List Item) → old.size ≡ size → HasReadItems size start bytes before old.position old.rest → PassesItems old items new
      → HasReadItems size start bytes (before ++ items) new.position new.rest
  read_on size start bytes before old new [] is read same =
      subst (λ (r : Reading). HasReadItems size start bytes (before ++ []) r.position r.rest) (sym same)
      (subst (λ items. HasReadItems size start bytes items old.position old.rest) (sym (append-nil before)) read)
  read_on size start bytes before old new (item ∷ items) is read all =
      let next = all.0 in
      let starts = subst (λ n. StartsWithItem n old.position old.rest item next.rest) is all.1.starts in
      let one = goes_on size start bytes before old.position old.rest item next.rest read starts in
      let moved = subst (λ at. HasReadItems size start bytes (before ++ item ∷ []) at next.rest) (sym all.1.moves) one in
      subst (λ items. HasReadItems size start bytes items new.position new.rest) (append_assoc before (item ∷ []) items)
      (read_on size start bytes (before ++ item ∷ []) next new items (all.1.size ∙ is) moved all.2)

  pub nothing_yet : (size start : ℕ) (u h : Option (List ℕ)) → PrintsSoFar form size start u u h h (reading_from size start [])
  nothing_yet size start u h = record {
    bytes = [];
    items = [];
    read = Consumes-nil u;
    size_is = refl;
    start_is = refl;
    no_fault = refl;
    items_read = begins size start [];
    printed = Appends-nil h;
  }

  -- no bytes show no fault
  pub nothing_shown : (size position : ℕ) → IsUndecided size position []
  nothing_shown size position = record {
    no_item = λ item rest s.
        let whole : 0 ≡ length (item_bytes size item) + length rest = ap length s.text ∙ length-append (item_bytes size item) rest in
        let own = length-item_bytes size item in
        absurd (omega arith);
    no_fault = λ kind s.
        let whole : 0 ≡ 8 + length s.1 = ap length s.2.text ∙ length-append (header_bytes s.0) s.1 in
        absurd (omega arith);
  }

  module _ (size start : ℕ) (u v h g : Option (List ℕ)) (r : Reading) (so_far : PrintsSoFar form size start u v h g r) where
    -- one more piece was read
    pub piece_more : (w : Option (List ℕ)) (piece : List ℕ) (new : Reading) → Consumes v w piece → new ≡ record r { rest = r.rest ++ piece } → PrintsSoFar form size start u w h g new
    piece_more w piece new read same = subst (PrintsSoFar form size start u w h g) (sym same) (record {
      bytes = so_far.bytes ++ piece;
      items = so_far.items;
      read = Consumes-trans u v w so_far.bytes piece so_far.read read;
      size_is = so_far.size_is;
      start_is = so_far.start_is;
      no_fault = so_far.no_fault;
      items_read = fed size start so_far.bytes so_far.items r.position r.rest piece so_far.items_read;
      printed = so_far.printed;
    })

    -- the output was flushed, and more of the input was buffered
    pub more_at_hand : (w f : Option (List ℕ)) → Keeps v w → Keeps g f → PrintsSoFar form size start u w h f r
    more_at_hand w f left out = record {
      bytes = so_far.bytes;
      items = so_far.items;
      read = Consumes-kept u v w so_far.bytes so_far.read left;
      size_is = so_far.size_is;
      start_is = so_far.start_is;
      no_fault = so_far.no_fault;
      items_read = so_far.items_read;
      printed = Appends-kept h g f _ so_far.printed out;
    }

    -- more records were read, and their lines were printed
    pub items_more : (f : Option (List ℕ)) (items : List Item) (new : Reading) → PassesItems r items new → Appends g f (tape_lines form items) → PrintsSoFar form size start u v h f new
    items_more f items new passes prints = record {
      bytes = so_far.bytes;
      items = so_far.items ++ items;
      read = so_far.read;
      size_is = passes-size r new items passes ∙ so_far.size_is;
      start_is = passes-start r new items passes ∙ so_far.start_is;
      no_fault = passes-told r new items so_far.no_fault passes;
      items_read = read_on size start so_far.bytes so_far.items r new items so_far.size_is so_far.items_read passes;
      printed = subst (Appends h f) (sym (flat_map-append (tape_line_as form) so_far.items items)) (Appends-trans h g f _ _ so_far.printed prints);
    }

  -- ---- a fault that shows still shows with more bytes

  taken_same : (n : ℕ) (behind more : List ℕ) → n ≤ length behind → take n (behind ++ more) ≡ take n behind
  taken_same n behind more h = take-append-le n behind more h

  filled_same : (h : Header) (behind more : List ℕ) → HasWholeSpan h behind → take (padding h.len) (drop h.len (behind ++ more)) ≡ take (padding h.len) (drop h.len behind)
  filled_same h behind more whole =
      ap (take (padding h.len)) (drop-append-le h.len behind more (omega arith))
      ∙ take-append-le (padding h.len) (drop h.len behind) more (omega (arith, length-drop h.len behind))

  fault_stays : (size position : ℕ) (h : Header) (behind more : List ℕ) (kind : TapeKind) → IsFirstTapeFault size position h behind kind → IsFirstTapeFault size position h (behind ++ more) kind
  fault_stays size position h behind more kinds.Busy f = f
  fault_stays size position h behind more kinds.Page f = f
  fault_stays size position h behind more kinds.TooLong f = f
  fault_stays size position h behind more kinds.DiscardedBytes f =
      let whole = f.1 in
      let same = taken_same h.len behind more (omega arith) in
      (f.0, omega (arith, length-append behind more), (f.2.0, λ e. f.2.1 (sym same ∙ e)))
  fault_stays size position h behind more kinds.Padding f =
      let whole = f.1 in
      let same = taken_same h.len behind more (omega arith) in
      let filled = filled_same h behind more whole in
      (f.0, omega (arith, length-append behind more), λ d. f.2 (d.0, λ e. d.1 (same ∙ e)), λ e. f.3 (sym filled ∙ e))
  fault_stays size position h behind more kinds.Truncated f = f
  fault_stays size position h behind more kinds.Memory f = f

  shows_stays : (size position : ℕ) (bytes more : List ℕ) (kind : TapeKind) → ShowsFault size position bytes kind → ShowsFault size position (bytes ++ more) kind
  shows_stays size position bytes more kind s =
      (s.0, s.1 ++ more, record { fields = s.2.fields; text = ap (λ x. x ++ more) s.2.text ∙ append_assoc (header_bytes s.0) s.1 more }, fault_stays size position s.0 s.1 more kind s.3)

  -- ---- what a result implies for the whole input

  module _ (size start : ℕ) (ring : IsRingSize size) (input left : List ℕ) (h g : Option (List ℕ)) (r : Reading) (so_far : PrintsSoFar form size start (Some input) (Some left) h g r) where
    -- the rest of the whole input is ahead of the reader
    read_of_input : HasReadItems size start input so_far.items r.position (r.rest ++ left)
    read_of_input = subst (λ i. HasReadItems size start i so_far.items r.position (r.rest ++ left)) (sym so_far.read) (fed size start so_far.bytes so_far.items r.position r.rest left so_far.items_read)

    offset_is : (offset : ℕ) → offset ≡ r.position - r.start → offset ≡ end_of start so_far.items - start
    offset_is offset e = e ∙ ap (λ n. n - r.start) so_far.items_read.here ∙ ap (λ n. end_of start so_far.items - n) so_far.start_is

    known_fault : (f : Option (List ℕ)) (kind : TapeKind) (offset : ℕ) → ShowsFault r.size r.position r.rest kind → offset ≡ r.position - r.start → Keeps g f → PrintsTape form size start input (Some (kind, offset)) h f
    known_fault f kind offset shows at kept =
        let here = subst (λ n. ShowsFault n r.position r.rest kind) so_far.size_is shows in
        let whole = shows_stays size r.position r.rest left kind here in
        let told = subst (λ n. ShowsFault size n (r.rest ++ left) kind) so_far.items_read.here whole in
        record {
          items = so_far.items;
          rest = r.rest ++ left;
          splits = read_of_input.splits;
          longest = is_longest size start input so_far.items r.position (r.rest ++ left) (omega (arith, ring.1)) ring.2 read_of_input (inr (inl (kind, whole)));
          printed = Appends-kept h g f _ so_far.printed kept;
          whole = tt;
          told = (inl told, offset_is offset at);
        }

    known_end : left ≡ [] → r.rest ≡ [] → PrintsTape form size start input None h g
    known_end none empty = record {
      items = so_far.items;
      rest = r.rest ++ left;
      splits = read_of_input.splits;
      longest = is_longest size start input so_far.items r.position (r.rest ++ left) (omega (arith, ring.1)) ring.2 read_of_input (inl (rw (empty, none) refl));
      printed = so_far.printed;
      whole = rw (empty, none) refl;
      told = tt;
    }

    known_cut : (kind : TapeKind) (offset : ℕ) → left ≡ [] → IsUndecided size r.position r.rest → r.rest ≢ [] → kind ≡ kinds.Truncated → offset ≡ r.position - r.start → PrintsTape form size start input (Some (kind, offset)) h g
    known_cut kind offset none undecided some cut at =
        let all : r.rest ++ left ≡ r.rest = ap (λ x. r.rest ++ x) none ∙ append-nil r.rest in
        let whole = subst (IsUndecided size r.position) (sym all) undecided in
        let told = subst (λ n. IsUndecided size n (r.rest ++ left)) so_far.items_read.here whole in
        record {
          items = so_far.items;
          rest = r.rest ++ left;
          splits = read_of_input.splits;
          longest = is_longest size start input so_far.items r.position (r.rest ++ left) (omega (arith, ring.1)) ring.2 read_of_input (inr (inr whole));
          printed = so_far.printed;
          whole = tt;
          told = (inr (told, λ e. some (sym all ∙ e), cut), offset_is offset at);
        }

    known_first : (f : Option (List ℕ)) → Keeps g f → PrintsFirst form size start input h f
    known_first f kept = record { items = so_far.items; rest = r.rest ++ left; splits = read_of_input.splits; printed = Appends-kept h g f _ so_far.printed kept }

  first_is_some : (size start : ℕ) (input : List ℕ) (h g : Option (List ℕ)) → PrintsFirst form size start input h g → PrintsSome form size start input h g
  first_is_some size start input h g p = record { items = p.items; rest = p.rest; splits = p.splits; out = tape_lines form p.items; missing = []; printed = p.printed; beginning = append-nil _ }

  -- ---- the same, if the input may be unknown

  module _ (size start : ℕ) (ring : IsRingSize size) where
    pub answers_fault : (u v h g f : Option (List ℕ)) (r : Reading) (kind : TapeKind) (offset : ℕ) → PrintsSoFar form size start u v h g r → ShowsFault r.size r.position r.rest kind → offset ≡ r.position - r.start → Keeps g f → IfSome u (λ input. TapeAnswer form size start input h f (Err (Record kind offset)))
    answers_fault None v h g f r kind offset s shows at kept = tt
    answers_fault (Some input) None h g f r kind offset s shows at kept = absurd s.read
    answers_fault (Some input) (Some left) h g f r kind offset s shows at kept = known_fault size start ring input left h g r s f kind offset shows at kept

    pub answers_memory : (u v h g f : Option (List ℕ)) (r : Reading) → PrintsSoFar form size start u v h g r → Keeps g f → IfSome u (λ input. TapeAnswer form size start input h f (Err Memory))
    answers_memory None v h g f r s kept = tt
    answers_memory (Some input) None h g f r s kept = absurd s.read
    answers_memory (Some input) (Some left) h g f r s kept = known_first size start ring input left h g r s f kept

    -- the output failed within the lines of these records
    pub answers_lines : (u v h g f : Option (List ℕ)) (r new : Reading) (items : List Item) (n : ℕ) → PrintsSoFar form size start u v h g r → PassesItems r items new → Appends g f (take n (tape_lines form items)) → IfSome u (λ input. TapeAnswer form size start input h f (Err Device))
    unfolding items_more
    answers_lines None v h g f r new items n s passes prints = tt
    answers_lines (Some input) None h g f r new items n s passes prints = absurd s.read
    answers_lines (Some input) (Some left) h g f r new items n s passes prints =
        let lines = tape_lines form items in
        let all = append_known g lines in
        let before = items_more size start (Some input) (Some left) h g r s all items new passes (Appends-known g lines) in
        record {
          items = s.items ++ items;
          rest = new.rest ++ left;
          splits = (read_of_input size start ring input left h all new before).splits;
          out = tape_lines form s.items ++ take n lines;
          missing = drop n lines;
          printed = Appends-trans h g f _ _ s.printed prints;
          beginning = append_assoc (tape_lines form s.items) (take n lines) (drop n lines) ∙ ap (λ x. tape_lines form s.items ++ x) (take-append-drop n lines) ∙ sym (flat_map-append (tape_line_as form) s.items items);
        }

    -- the input failed
    pub answers_read : (u v h g : Option (List ℕ)) (r : Reading) → PrintsSoFar form size start u v h g r → IfSome u (λ input. TapeAnswer form size start input h g (Err Device))
    answers_read None v h g r s = tt
    answers_read (Some input) None h g r s = absurd s.read
    answers_read (Some input) (Some left) h g r s = first_is_some size start input h g (known_first size start ring input left h g r s g (Keeps-refl g))

    -- the input ended
    pub answers_end : (u v w h g : Option (List ℕ)) (r : Reading) (result : Result (Unit {0}) TapeRefusal) → PrintsSoFar form size start u v h g r → Consumes v w [] → IsAtEnd w → IsUndecided r.size r.position r.rest → EndsTape r result → IfSome u (λ input. TapeAnswer form size start input h g result)
    answers_end None v w h g r result s read at_end undecided ends = tt
    answers_end (Some input) None w h g r result s read at_end undecided ends = absurd s.read
    answers_end (Some input) (Some left) None h g r result s read at_end undecided ends = absurd read
    answers_end (Some input) (Some left) (Some none) h g r (Ok _) s read at_end undecided ends = known_end size start ring input left h g r s (read ∙ at_end) ends
    answers_end (Some input) (Some left) (Some none) h g r (Err (Record kind offset)) s read at_end undecided ends =
        known_cut size start ring input left h g r s kind offset (read ∙ at_end) (subst (λ n. IsUndecided n r.position r.rest) s.size_is undecided) ends.0 ends.1 ends.2
    answers_end (Some input) (Some left) (Some none) h g r (Err Size) s read at_end undecided ends = absurd ends
    answers_end (Some input) (Some left) (Some none) h g r (Err Start) s read at_end undecided ends = absurd ends
    answers_end (Some input) (Some left) (Some none) h g r (Err Memory) s read at_end undecided ends = absurd ends
    answers_end (Some input) (Some left) (Some none) h g r (Err Device) s read at_end undecided ends = absurd ends

    -- the lines of what was read were written, and then a fault showed, or memory ran out
    pub answers_gathered : (u v h g f : Option (List ℕ)) (r new : Reading) (lines : List ℕ) (e : TapeRefusal) → PrintsSoFar form size start u v h g r → GathersLines form r new lines (Err e) → Appends g f lines → IfSome u (λ input. TapeAnswer form size start input h f (Err e))
    answers_gathered u v h g f r new lines (Record kind offset) s p prints =
        let all = p.1 in
        answers_fault u v h f f p.0 kind offset (items_more size start u v h g r s f all.items p.0 all.passes (subst (Appends g f) all.text prints)) p.2.0 p.2.1 (Keeps-refl f)
    answers_gathered u v h g f r new lines Memory s p prints =
        let all = p.1 in
        answers_memory u v h f f p.0 (items_more size start u v h g r s f all.items p.0 all.passes (subst (Appends g f) all.text prints)) (Keeps-refl f)
    answers_gathered u v h g f r new lines Device s p prints = absurd p
    answers_gathered u v h g f r new lines Size s p prints = absurd p
    answers_gathered u v h g f r new lines Start s p prints = absurd p

    -- a prefix of the collected lines was written, and then the output failed
    pub answers_cut : (u v h g f : Option (List ℕ)) (r new : Reading) (lines : List ℕ) (n : ℕ) (result : Result (Unit {0}) TapeRefusal) → PrintsSoFar form size start u v h g r → GathersLines form r new lines result → Appends g f (take n lines) → IfSome u (λ input. TapeAnswer form size start input h f (Err Device))
    answers_cut u v h g f r new lines n (Ok _) s p prints = answers_lines u v h g f r new p.0.items n s p.0.passes (subst (λ l. Appends g f (take n l)) p.0.text prints)
    answers_cut u v h g f r new lines n (Err (Record kind offset)) s p prints = answers_lines u v h g f r p.0 p.1.items n s p.1.passes (subst (λ l. Appends g f (take n l)) p.1.text prints)
    answers_cut u v h g f r new lines n (Err Memory) s p prints = answers_lines u v h g f r p.0 p.1.items n s p.1.passes (subst (λ l. Appends g f (take n l)) p.1.text prints)
    answers_cut u v h g f r new lines n (Err Device) s p prints = absurd p
    answers_cut u v h g f r new lines n (Err Size) s p prints = absurd p
    answers_cut u v h g f r new lines n (Err Start) s p prints = absurd p

  -- ---- the lines of a piece, as they are printed

  module _ (size start : ℕ) (u v h g f : Option (List ℕ)) (r new : Reading) (lines : List ℕ) (so_far : PrintsSoFar form size start u v h g r) (prints : Appends g f lines) where
    pub went_on : ReadsLines form r new lines → PrintsSoFar form size start u v h f new
    went_on all = items_more size start u v h g r so_far f all.items new all.passes (subst (Appends g f) all.text prints)

  pub piece_added : (r new : Reading) (piece : List ℕ) (result : Result (Unit {0}) TapeFault) (failed : Bool) → AddsPiece r new piece result → failed ≡ is_err result → failed ≡ false → new ≡ record r { rest = r.rest ++ piece }
  piece_added r new piece (Ok _) failed a e f = a.1
  piece_added r new piece (Err x) failed a e f = absurd (true≢false (sym e ∙ f))

  -- ---- the final flush

  module _ (size start : ℕ) (input : List ℕ) (h g f : Option (List ℕ)) (kept : Keeps g f) where
    tape_handed_on : (fault : Option (TapeKind × ℕ)) → PrintsTape form size start input fault h g → PrintsTape form size start input fault h f
    tape_handed_on fault p = record { items = p.items; rest = p.rest; splits = p.splits; longest = p.longest; printed = Appends-kept h g f _ p.printed kept; whole = p.whole; told = p.told }

    first_handed_on : PrintsFirst form size start input h g → PrintsFirst form size start input h f
    first_handed_on p = record { items = p.items; rest = p.rest; splits = p.splits; printed = Appends-kept h g f _ p.printed kept }

    some_handed_on : PrintsSome form size start input h g → PrintsSome form size start input h f
    some_handed_on p = record { items = p.items; rest = p.rest; splits = p.splits; out = p.out; missing = p.missing; printed = Appends-kept h g f _ p.printed kept; beginning = p.beginning }

    tape_some : (fault : Option (TapeKind × ℕ)) → PrintsTape form size start input fault h g → PrintsSome form size start input h f
    tape_some fault p = some_handed_on (first_is_some size start input h g (record { items = p.items; rest = p.rest; splits = p.splits; printed = p.printed }))

    answer_handed_on : (result : Result (Unit {0}) TapeRefusal) → TapeAnswer form size start input h g result → TapeAnswer form size start input h f result
    answer_handed_on (Ok _) a = tape_handed_on None a
    answer_handed_on (Err (Record kind offset)) a = tape_handed_on (Some (kind, offset)) a
    answer_handed_on (Err Size) a = Keeps-trans h g f a kept
    answer_handed_on (Err Start) a = Keeps-trans h g f a kept
    answer_handed_on (Err Memory) a = first_handed_on a
    answer_handed_on (Err Device) a = some_handed_on a

    answer_broken : (result : Result (Unit {0}) TapeRefusal) → (result ≢ Err Size) × (result ≢ Err Start) → TapeAnswer form size start input h g result → PrintsSome form size start input h f
    answer_broken (Ok _) n a = tape_some None a
    answer_broken (Err (Record kind offset)) n a = tape_some (Some (kind, offset)) a
    answer_broken (Err Size) n a = absurd (n.0 refl)
    answer_broken (Err Start) n a = absurd (n.1 refl)
    answer_broken (Err Memory) n a = some_handed_on (first_is_some size start input h g a)
    answer_broken (Err Device) n a = some_handed_on a

  pub handed_on_answer : (size start : ℕ) (u h g f : Option (List ℕ)) (result : Result (Unit {0}) TapeRefusal) → Keeps g f → IfSome u (λ input. TapeAnswer form size start input h g result) → IfSome u (λ input. TapeAnswer form size start input h f result)
  handed_on_answer size start None h g f result kept a = tt
  handed_on_answer size start (Some input) h g f result kept a = answer_handed_on size start input h g f kept result a

  pub broken_answer : (size start : ℕ) (u h g f : Option (List ℕ)) (result : Result (Unit {0}) TapeRefusal) → Keeps g f → (result ≢ Err Size) × (result ≢ Err Start) → IfSome u (λ input. TapeAnswer form size start input h g result) → IfSome u (λ input. TapeAnswer form size start input h f (Err Device))
  broken_answer size start None h g f result kept n a = tt
  broken_answer size start (Some input) h g f result kept n a = answer_broken size start input h g f kept result n a

  pub opened_answer : (size start : ℕ) (r : Reading) (u h g : Option (List ℕ)) (result : Result (Unit {0}) TapeRefusal) → r ≡ reading_from size start [] → IfSome u (λ input. TapeAnswer form r.size r.start input h g result) → IfSome u (λ input. TapeAnswer form size start input h g result)
  opened_answer size start r u h g result opened a = subst (λ (q : Reading). IfSome u (λ input. TapeAnswer form q.size q.start input h g result)) opened a

  -- ---- with Ok, also if the input is unknown

  -- the input ended after whole records
  pub whole_end : (size start : ℕ) (u v h g : Option (List ℕ)) (r : Reading) (result : Result (Unit {0}) TapeRefusal) → PrintsSoFar form size start u v h g r → IsAtEnd v → EndsTape r result → OnOk result (PrintsWhole form size start u h g)
  whole_end size start u v h g r (Ok _) s at_end ends =
      let bytes_are : s.bytes ≡ tape size s.items = s.items_read.splits.text ∙ ap (λ rest. tape size s.items ++ rest) ends ∙ append-nil (tape size s.items) in
      (s.items, s.items_read.splits.stand, Consumes-whole u v s.bytes (λ bytes. bytes ≡ tape size s.items) s.read at_end bytes_are, s.printed)
  whole_end size start u v h g r (Err e) s at_end ends = tt

  pub handed_on_whole : (size start : ℕ) (u h g f : Option (List ℕ)) (result : Result (Unit {0}) TapeRefusal) → Keeps g f → OnOk result (PrintsWhole form size start u h g) → OnOk result (PrintsWhole form size start u h f)
  handed_on_whole size start u h g f (Ok _) kept p = (p.0, p.1, p.2, Appends-kept h g f _ p.3 kept)
  handed_on_whole size start u h g f (Err e) kept p = tt

  pub opened_whole : (size start : ℕ) (r : Reading) (u h g : Option (List ℕ)) (result : Result (Unit {0}) TapeRefusal) → r ≡ reading_from size start [] → OnOk result (PrintsWhole form r.size r.start u h g) → OnOk result (PrintsWhole form size start u h g)
  opened_whole size start r u h g result opened p = subst (λ (q : Reading). OnOk result (PrintsWhole form q.size q.start u h g)) opened p
