-- The items that were written so far.
use Rattle.std.proofs.Common.{◌≡◌, ℕ, ◌+◌, List, [], ◌∷◌, ◌++◌, take, refl, sym, ap, ◌∙◌, subst, append_assoc, append-nil, arith}
use Rattle.std.specs.Prelude.{Option, None, Bool, true, false, not, Result, Ok, Err, is_err, OnOk, OnErr, if◌then◌else◌}
use Rattle.std.proofs.lemmas.Bool.{true≢false}
use Rattle.std.proofs.lemmas.List.{take_all}
use Rattle.std.specs.Io.KnownBytes.{Appends}
use Rattle.std.proofs.KnownBytes.{Appends-nil, Appends-trans}
use Rattle.rb_history.specs.TapeBytes.{Item, item_bytes, item_span, tape, IsItemAt, AreItemsFrom, end_of}
use Rattle.rb_history.specs.TapeBytes.Item.{Event as EventItem, Skip as SkipItem}
use Rattle.rb_history.proofs.HeaderLaws.{length-item_bytes, tape-append, end_of-nil, end_of-cons, end_of-append}
use Rattle.rb_history.specs.declared.answers.Taken.{Taken}
use Rattle.rb_history.specs.declared.answers.Taken.TheVariants.{Event, Skipped, BusyFront, Empty}
use Rattle.rb_tape.specs.declared.item.Item as given
use Rattle.rb_tape.specs.declared.item.Item.TheVariants as kinds
use Rattle.rb_tape.specs.Items.{item_of, item_taken, tape_items, sent_after}
use Rattle.rb_tape.specs.TapeCalls.{BeginsItems, MakesTapeCall, PutsAll}
use Rattle.rb_tape.specs.TapeCalls.TapeCall.{Put}
use Rattle.rb_tape.specs.TapeOutput.{TapeOutput, StopsWithin}
use Rattle.rb_tape.proofs.TapeCalls.{begins_none, begins_on}

tape_items-append : (ts us : List Taken) → tape_items (ts ++ us) ≡ tape_items ts ++ tape_items us
tape_items-append [] us = refl
tape_items-append (Event p w k b ∷ ts) us = ap (λ x. EventItem p b ∷ x) (tape_items-append ts us)
tape_items-append (Skipped p n ∷ ts) us = ap (λ x. SkipItem p n ∷ x) (tape_items-append ts us)
tape_items-append (BusyFront ∷ ts) us = tape_items-append ts us
tape_items-append (Empty ∷ ts) us = tape_items-append ts us

tape_items-cons : (i : given.Item) (ts : List Taken) → tape_items (item_taken i ∷ ts) ≡ item_of i ∷ tape_items ts
tape_items-cons (kinds.Event e) ts = refl
tape_items-cons (kinds.Skip pos n) ts = refl

sent_after-push : (first : ℕ) (items : List Item) (item : Item) → sent_after first (items ++ item ∷ []) ≡ item_span item
sent_after-push first [] item = refl
sent_after-push first (x ∷ items) item = sent_after-push (item_span x) items item

end_of-push : (start : ℕ) (items : List Item) (item : Item) → end_of start (items ++ item ∷ []) ≡ end_of start items + item_span item
end_of-push start items item =
    let all = end_of-append start items (item ∷ []) in
    let one = end_of-cons (end_of start items) item [] in
    let none = end_of-nil (end_of start items + item_span item) in
    omega arith

-- ---- the result of one call

pub on-ok : {T E : Type 0} (r : Result T E) (P : Type 0) (failed : Bool) → OnOk r P → failed ≡ is_err r → failed ≡ false → P
on-ok (Ok x) P failed h e f = h
on-ok (Err x) P failed h e f = absurd (true≢false (sym e ∙ f))

pub on-err : {T E : Type 0} (r : Result T E) (P : Type 0) (failed : Bool) → OnErr r P → failed ≡ is_err r → failed ≡ true → P
on-err (Ok x) P failed h e t = absurd (true≢false (sym t ∙ e))
on-err (Err x) P failed h e t = h

pub moved-on : (position before after : ℕ) (ok failed : Bool) → position ≡ (if ok then after else before) → ok ≡ not failed → failed ≡ false → position ≡ after
moved-on position before after ok failed is e f = is ∙ ap (λ b. if b then after else before) (e ∙ ap not f)

pub stayed : (position before after : ℕ) (ok failed : Bool) → position ≡ (if ok then after else before) → ok ≡ not failed → failed ≡ true → position ≡ before
stayed position before after ok failed is e t = is ∙ ap (λ b. if b then after else before) (e ∙ ap not t)

-- ---- the items that were written, and those that are left

module _ (W : Type 0) (contents : W → Option (List ℕ)) (old : TapeOutput W) (items : List Taken) where
  -- the items before those that are left were written, and those that are left may follow on the tape
  pub record PutSoFar (now : TapeOutput W) (left : List Taken) : Type 0 where
    pub whole : List Taken
    pub begins : BeginsItems contents old (tape_items whole) now
    pub items_are : items ≡ whole ++ left
    pub position_is : now.position ≡ end_of old.position (tape_items whole)
    pub sent_is : now.sent ≡ sent_after old.sent (tape_items whole)
    pub size_same : now.size ≡ old.size
    pub none_failed : now.failures ≡ old.failures
    pub stand : AreItemsFrom old.size now.position (tape_items left)
    pub bytes : Appends (contents old.writer) (contents now.writer) (tape old.size (tape_items whole))

  pub none-put : AreItemsFrom old.size old.position (tape_items items) → PutSoFar old items
  none-put stand = record {
    whole = [];
    begins = begins_none contents old;
    items_are = refl;
    position_is = sym (end_of-nil old.position);
    sent_is = refl;
    size_same = refl;
    none_failed = refl;
    stand = stand;
    bytes = Appends-nil (contents old.writer);
  }

  -- the next item and those after it may follow on the tape
  pub next-stands : (now : TapeOutput W) (left rest : List Taken) (i : given.Item) → PutSoFar now left → left ≡ item_taken i ∷ rest → AreItemsFrom old.size now.position (item_of i ∷ tape_items rest)
  next-stands now left rest i so_far is = subst (AreItemsFrom old.size now.position) (ap tape_items is ∙ tape_items-cons i rest) so_far.stand

  pub one-more : (now new : TapeOutput W) (left rest : List Taken) (i : given.Item) → PutSoFar now left → left ≡ item_taken i ∷ rest →
      Appends (contents now.writer) (contents new.writer) (take new.sent (item_bytes now.size (item_of i))) → new.sent ≡ item_span (item_of i) →
      new.size ≡ now.size → new.position ≡ now.position + item_span (item_of i) → BeginsItems contents now (item_of i ∷ []) new → new.failures ≡ now.failures → PutSoFar new rest
  one-more now new left rest i so_far is went sent size moved begins counted =
      let whole = so_far.whole in
      let more : tape_items (whole ++ item_taken i ∷ []) ≡ tape_items whole ++ item_of i ∷ [] = tape_items-append whole (item_taken i ∷ []) ∙ ap (λ x. tape_items whole ++ x) (tape_items-cons i []) in
      let all : take new.sent (item_bytes now.size (item_of i)) ≡ tape old.size (item_of i ∷ []) =
      take_all new.sent (item_bytes now.size (item_of i)) (omega (arith, sent, length-item_bytes now.size (item_of i)))
      ∙ ap (λ s. item_bytes s (item_of i)) so_far.size_same ∙ sym (append-nil (item_bytes old.size (item_of i))) in
      record {
        whole = whole ++ item_taken i ∷ [];
        begins = subst (λ l. BeginsItems contents old l new) (sym more) (begins_on contents old now new (tape_items whole) (item_of i ∷ []) so_far.begins begins);
        items_are = so_far.items_are ∙ ap (λ x. whole ++ x) is ∙ sym (append_assoc whole (item_taken i ∷ []) rest);
        position_is = moved ∙ ap (λ n. n + item_span (item_of i)) so_far.position_is ∙ sym (ap (end_of old.position) more ∙ end_of-push old.position (tape_items whole) (item_of i));
        sent_is = sent ∙ sym (ap (sent_after old.sent) more ∙ sent_after-push old.sent (tape_items whole) (item_of i));
        size_same = size ∙ so_far.size_same;
        none_failed = counted ∙ so_far.none_failed;
        stand = subst (λ n. AreItemsFrom old.size n (tape_items rest)) (sym moved) (next-stands now left rest i so_far is).1;
        bytes = subst (Appends (contents old.writer) (contents new.writer)) (sym (ap (tape old.size) more ∙ tape-append old.size (tape_items whole) (item_of i ∷ [])))
            (Appends-trans (contents old.writer) (contents now.writer) (contents new.writer) _ _ so_far.bytes (subst (Appends (contents now.writer) (contents new.writer)) all went));
      }

  pub stops-within : (now new : TapeOutput W) (left rest : List Taken) (i : given.Item) → PutSoFar now left → left ≡ item_taken i ∷ rest →
      Appends (contents now.writer) (contents new.writer) (take new.sent (item_bytes now.size (item_of i))) → new.position ≡ now.position → StopsWithin W contents old new items rest i
  stops-within now new left rest i so_far is went stays = record {
    whole = so_far.whole;
    items_are = so_far.items_are ∙ ap (λ x. so_far.whole ++ x) is;
    position_is = stays ∙ so_far.position_is;
    bytes = Appends-trans (contents old.writer) (contents now.writer) (contents new.writer) _ _ so_far.bytes (subst (λ s. Appends (contents now.writer) (contents new.writer) (take new.sent (item_bytes s (item_of i)))) so_far.size_same went);
  }

  -- if the next item is unfinished, its position does not change, and it and the items after it still may follow
  pub next-stays : (now new : TapeOutput W) (left rest : List Taken) (i : given.Item) → PutSoFar now left → left ≡ item_taken i ∷ rest → new.size ≡ now.size → new.position ≡ now.position →
      IsItemAt new.size new.position (item_of i) × AreItemsFrom new.size (new.position + item_span (item_of i)) (tape_items rest)
  next-stays now new left rest i so_far is size stays =
      let stand = next-stands now left rest i so_far is in
      let same : new.size ≡ old.size = size ∙ so_far.size_same in (
        subst (λ n. IsItemAt n new.position (item_of i)) (sym same) (subst (λ n. IsItemAt old.size n (item_of i)) (sym stays) stand.0),
        subst (λ n. AreItemsFrom n (new.position + item_span (item_of i)) (tape_items rest)) (sym same) (subst (λ n. AreItemsFrom old.size (n + item_span (item_of i)) (tape_items rest)) (sym stays) stand.1),
      )

  -- if none is left, all were written
  pub all-whole : (now : TapeOutput W) (left : List Taken) (so_far : PutSoFar now left) → left ≡ [] → so_far.whole ≡ items
  all-whole now left so_far none = sym (so_far.items_are ∙ ap (λ x. so_far.whole ++ x) none ∙ append-nil so_far.whole)

  -- ---- the call as a whole

  -- it stopped within the next item
  pub puts-within : {ok : Bool} (now new : TapeOutput W) (left rest : List Taken) (i : given.Item) → PutSoFar now left → left ≡ item_taken i ∷ rest → old.unfinished ≡ None → MakesTapeCall contents now (Put (item_of i)) ok new → new.failures ≡ now.failures + 1
      → PutsAll contents old (tape_items items) (tape_items rest) false new
  puts-within now new left rest i so_far is none call counted = (
    tape_items so_far.whole ++ item_of i ∷ [],
    ap tape_items (so_far.items_are ∙ ap (λ l. so_far.whole ++ l) is)
        ∙ (tape_items-append so_far.whole (item_taken i ∷ rest)
        ∙ (ap (λ l. tape_items so_far.whole ++ l) (tape_items-cons i rest) ∙ sym (append_assoc (tape_items so_far.whole) (item_of i ∷ []) (tape_items rest)))),
    record {
      lawful = none;
      begins = begins_on contents old now new (tape_items so_far.whole) (item_of i ∷ []) so_far.begins call.begins;
      finished = λ ok. absurd (true≢false (sym ok));
      failures_are = counted ∙ ap (λ n. n + 1) so_far.none_failed;
    },
  )

  -- it reached the end
  pub puts-whole : (now : TapeOutput W) (left rest : List Taken) → PutSoFar now left → left ≡ [] → rest ≡ [] → old.unfinished ≡ None → now.unfinished ≡ None → PutsAll contents old (tape_items items) (tape_items rest) true now
  puts-whole now left rest so_far none no_rest before after = (
    tape_items so_far.whole,
    sym (ap tape_items (all-whole now left so_far none)) ∙ (sym (append-nil (tape_items so_far.whole)) ∙ ap (λ l. tape_items so_far.whole ++ tape_items l) (sym no_rest)),
    record { lawful = before; begins = so_far.begins; finished = λ _. after; failures_are = so_far.none_failed },
  )
