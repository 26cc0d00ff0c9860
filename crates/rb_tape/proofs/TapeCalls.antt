-- The result of a sequence of calls of a tape's writer.
use Rattle.std.proofs.Common.{◌≡◌, ℕ, ◌+◌, ◌<◌, ◌≤◌, List, [], ◌∷◌, ◌++◌, length, take, drop, refl, sym, ap, ◌∙◌, subst, append_assoc, append-nil, take-append-drop, arith}
use Rattle.std.specs.Prelude.{All, Bool, true, Option, None, Some, Result, Ok, Err, is_ok, if◌then◌else◌, OnOk, OnErr}
use Rattle.std.proofs.lemmas.List.{drop_all, drop-append-le, length-take-le}
use Rattle.std.proofs.lemmas.List.Elements.{All-head, All-tail}
use Rattle.std.specs.Io.KnownBytes.{Appends}
use Rattle.std.proofs.KnownBytes.{Appends-nil, Appends-trans}
use Rattle.rb_history.specs.TapeBytes.{Item, item_bytes, item_span, tape, end_of, IsItemAt, AreItemsFrom}
use Rattle.rb_history.proofs.HeaderLaws.{length-item_bytes, tape-append, end_of-nil, end_of-cons, end_of-append, AreItemsFrom-append}
use Rattle.rb_tape.specs.TapeOutput.{TapeOutput}
use Rattle.rb_tape.specs.TapeCalls.{rest_of, still_missing, end_after, end_of_begun, BeginsItems, TapeCall, MakesTapeCall, MakesCalls, failures_after, records_begun, all_begun, fresh_tape, CallsLeaveTape}
use Rattle.rb_tape.specs.TapeCalls.TapeCall.{Put, Resume}

-- ---- one record

-- the bytes from `from` on, split at `sent`
cut_at : (xs : List ℕ) (from sent : ℕ) → from ≤ sent → sent ≤ length xs → drop from (take sent xs) ++ drop sent xs ≡ drop from xs
cut_at xs from sent more within =
    sym (drop-append-le from (take sent xs) (drop sent xs) (omega (arith, length-take-le sent xs within))) ∙ ap (drop from) (take-append-drop sent xs)

-- the missing bytes of a record whose first bytes were written
rest_after : {A E : Type 0} (old_size new_size sent : ℕ) (unfinished : Option Item) (item : Item) (answer : Result A E) → unfinished ≡ (if is_ok answer then None else Some item) → new_size ≡ old_size
    → OnOk answer (sent ≡ item_span item) → rest_of new_size sent unfinished ≡ drop sent (item_bytes old_size item)
rest_after old_size new_size sent unfinished item (Ok _) is same all =
    ap (rest_of new_size sent) is ∙ sym (drop_all sent (item_bytes old_size item) (let n = length-item_bytes old_size item in omega (arith, n, all)))
rest_after old_size new_size sent unfinished item (Err _) is same all = ap (rest_of new_size sent) is ∙ ap (λ s. drop sent (item_bytes s item)) same

ends_behind : {A E : Type 0} (position after : ℕ) (unfinished : Option Item) (item : Item) (answer : Result A E) → unfinished ≡ (if is_ok answer then None else Some item)
    → after ≡ (if is_ok answer then position + item_span item else position) → end_after after unfinished ≡ position + item_span item
ends_behind position after unfinished item (Ok _) is moved = ap (end_after after) is ∙ moved
ends_behind position after unfinished item (Err _) is moved = ap (end_after after) is ∙ ap (λ n. n + item_span item) moved

within_span : {A E : Type 0} (sent : ℕ) (item : Item) (answer : Result A E) → OnOk answer (sent ≡ item_span item) → OnErr answer (sent < item_span item) → sent ≤ item_span item
within_span sent item (Ok _) all part = omega (arith, all)
within_span sent item (Err _) all part = omega (arith, part)

none_behind : {A E : Type 0} (unfinished : Option Item) (item : Item) (answer : Result A E) → unfinished ≡ (if is_ok answer then None else Some item) → is_ok answer ≡ true → unfinished ≡ None
none_behind unfinished item answer is ok = is ∙ ap (λ b. if b then None else Some item) ok

module _ {W : Type 0} (contents : W → Option (List ℕ)) where
  -- a record was written from its byte `from`
  pub begins_from : {A E : Type 0} (old new : TapeOutput W) (item : Item) (from : ℕ) (answer : Result A E) (items : List Item)
      → Appends (contents old.writer) (contents new.writer) (drop from (take new.sent (item_bytes old.size item))) → from ≤ new.sent → OnOk answer (new.sent ≡ item_span item) → OnErr answer (new.sent < item_span item)
      → new.unfinished ≡ (if is_ok answer then None else Some item) → new.size ≡ old.size → new.position ≡ (if is_ok answer then old.position + item_span item else old.position)
      → still_missing old ++ tape old.size items ≡ drop from (item_bytes old.size item) → end_of (end_of_begun old) items ≡ old.position + item_span item → AreItemsFrom old.size (end_of_begun old) items
      → BeginsItems contents old items new
  begins_from old new item from answer items went more all part left size moved missing ends stand =
      let bytes = item_bytes old.size item in
      let within : new.sent ≤ length bytes = let n = length-item_bytes old.size item in let m = within_span new.sent item answer all part in omega (arith, n, m) in
      record {
        out = drop from (take new.sent bytes);
        wrote = went;
        bytes_are = ap (λ l. drop from (take new.sent bytes) ++ l) (rest_after old.size new.size new.sent new.unfinished item answer left size all) ∙ (cut_at bytes from new.sent more within ∙ sym missing);
        stand = stand;
        end_is = ends_behind old.position new.position new.unfinished item answer left moved ∙ sym ends;
        size_same = size;
      }

  -- ---- a sequence of calls

  pub begins_none : (t : TapeOutput W) → BeginsItems contents t [] t
  begins_none t = record {
    out = [];
    wrote = Appends-nil (contents t.writer);
    bytes_are = sym (append-nil (still_missing t));
    stand = tt;
    end_is = sym (end_of-nil (end_of_begun t));
    size_same = refl;
  }

  pub begins_on : (a b c : TapeOutput W) (items more : List Item) → BeginsItems contents a items b → BeginsItems contents b more c → BeginsItems contents a (items ++ more) c
  begins_on a b c items more one two = record {
    out = one.out ++ two.out;
    wrote = Appends-trans (contents a.writer) (contents b.writer) (contents c.writer) one.out two.out one.wrote two.wrote;
    bytes_are =
        append_assoc one.out two.out (still_missing c)
        ∙ (ap (λ l. one.out ++ l) (two.bytes_are ∙ ap (λ n. still_missing b ++ tape n more) one.size_same)
        ∙ (sym (append_assoc one.out (still_missing b) (tape a.size more))
        ∙ (ap (λ l. l ++ tape a.size more) one.bytes_are
        ∙ (append_assoc (still_missing a) (tape a.size items) (tape a.size more) ∙ ap (λ l. still_missing a ++ l) (sym (tape-append a.size items more))))));
    stand =
        AreItemsFrom-append a.size (end_of_begun a) items more one.stand
        (subst (λ n. AreItemsFrom a.size n more) one.end_is (subst (λ n. AreItemsFrom n (end_of_begun b) more) one.size_same two.stand));
    end_is = two.end_is ∙ (ap (λ n. end_of n more) one.end_is ∙ sym (end_of-append (end_of_begun a) items more));
    size_same = two.size_same ∙ one.size_same;
  }

  pub all_begin : (old new : TapeOutput W) (calls : List (TapeCall × Bool)) → MakesCalls contents old calls new → BeginsItems contents old (all_begun calls) new
  all_begin old new [] same = subst (BeginsItems contents old []) (sym same) (begins_none old)
  all_begin old new ((call, ok) ∷ calls) made = begins_on old made.0 new (records_begun call) (all_begun calls) made.1.begins (all_begin made.0 new calls made.2)

  pub all_finish : (old new : TapeOutput W) (calls : List (TapeCall × Bool)) → MakesCalls contents old calls new → old.unfinished ≡ None → All (λ c. c.1 ≡ true) calls → new.unfinished ≡ None
  all_finish old new [] same none oks = ap (λ t. t.unfinished) same ∙ none
  all_finish old new ((call, ok) ∷ calls) made none oks =
      all_finish made.0 new calls made.2 (made.1.finished (All-head (λ c. c.1 ≡ true) (call, ok) calls oks)) (All-tail (λ c. c.1 ≡ true) (call, ok) calls oks)

  -- ---- from a new writer on

  pub leaves_tape : CallsLeaveTape contents
  leaves_tape writer size start calls now made =
      let first = fresh_tape writer size start in
      let b = all_begin first now calls made in (
        record {
          out = b.out;
          missing = still_missing now;
          stand = b.stand;
          wrote = b.wrote;
          beginning = b.bytes_are;
          whole = λ none. (ap (rest_of now.size now.sent) none, sym (ap (end_after now.position) none) ∙ b.end_is);
        },
        λ oks. all_finish first now calls made refl oks,
      )

module _ {W : Type 0} (contents : W → Option (List ℕ)) {A E : Type 0} (old new : TapeOutput W) (item : Item) (answer : Result A E) (all : OnOk answer (new.sent ≡ item_span item)) (part : OnErr answer (new.sent < item_span item))
    (left : new.unfinished ≡ (if is_ok answer then None else Some item)) (size : new.size ≡ old.size) (moved : new.position ≡ (if is_ok answer then old.position + item_span item else old.position)) (counted : new.failures ≡ failures_after old.failures (is_ok answer)) where
  -- a record is put after complete ones
  pub makes_put : old.unfinished ≡ None → IsItemAt old.size old.position item → Appends (contents old.writer) (contents new.writer) (take new.sent (item_bytes old.size item)) → MakesTapeCall contents old (Put item) (is_ok answer) new
  makes_put none stands went =
      let ends : end_of_begun old ≡ old.position = ap (end_after old.position) none in
      record {
        lawful = none;
        begins =
            begins_from contents old new item 0 answer (item ∷ []) went (omega arith) all part left size moved
            (ap (λ l. l ++ tape old.size (item ∷ [])) (ap (rest_of old.size old.sent) none) ∙ append-nil (item_bytes old.size item))
            (end_of-cons (end_of_begun old) item [] ∙ (end_of-nil (end_of_begun old + item_span item) ∙ ap (λ n. n + item_span item) ends))
            (subst (λ n. IsItemAt old.size n item) (sym ends) stands, tt);
        finished = none_behind new.unfinished item answer left;
        failures_are = counted;
      }

  -- the rest of the unfinished record is written
  pub makes_resume : old.unfinished ≡ Some item → old.sent ≤ new.sent → Appends (contents old.writer) (contents new.writer) (drop old.sent (take new.sent (item_bytes old.size item))) → MakesTapeCall contents old (Resume item) (is_ok answer) new
  makes_resume this more went = record {
    lawful = this;
    begins =
        begins_from contents old new item old.sent answer [] went more all part left size moved
        (append-nil (still_missing old) ∙ ap (rest_of old.size old.sent) this)
        (end_of-nil (end_of_begun old) ∙ ap (end_after old.position) this) tt;
    finished = none_behind new.unfinished item answer left;
    failures_are = counted;
  }
