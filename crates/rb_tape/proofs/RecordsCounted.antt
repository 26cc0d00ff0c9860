-- The items that were counted so far.
use Rattle.std.proofs.Common.{◌≡◌, ℕ, ◌+◌, ◌*◌, ◌≤◌, List, [], ◌∷◌, ◌++◌, length, refl, ap, ◌∙◌, arith, inl, inr, None, Some}
use Rattle.std.proofs.lemmas.List.{length-append}
use Rattle.rb_history.specs.TapeBytes.{Item}
use Rattle.rb_history.specs.RingModel.{IsRingSize}
use Rattle.rb_tape.specs.declared.fault.TapeFault.{TapeFault}
use Rattle.rb_tape.specs.TapeFront.{StartsWithItem}
use Rattle.rb_tape.specs.TapeReading.{Reading, reading_from, PassesItem, fault_at, IsToldAtEnd}
use Rattle.rb_tape.specs.LongestTape.{HasReadItems, HasNoItemNext, IsLongestList, IsReadThrough}
use Rattle.rb_tape.proofs.ItemsRead.{begins, goes_on, is_longest, item_bytes_long}

pub record CountedSoFar (size start : ℕ) (input : List ℕ) (n : ℕ) (r : Reading) : Type 0 where
  pub items : List Item
  pub read : HasReadItems size start input items r.position r.rest
  pub count_is : length items ≡ n
  pub few : 8 * n + length r.rest ≤ length input
  pub is_size : IsRingSize size
  pub same_size : r.size ≡ size
  pub same_start : r.start ≡ start
  pub told : r.told ≡ None

pub none_counted : (size start : ℕ) (input : List ℕ) → IsRingSize size → CountedSoFar size start input 0 (reading_from size start input)
none_counted size start input s = record { items = []; read = begins size start input; count_is = refl; few = omega arith; is_size = s; same_size = refl; same_start = refl; told = refl }

pub one_more : (size start : ℕ) (input : List ℕ) (n : ℕ) (old new : Reading) (item : Item) → CountedSoFar size start input n old → PassesItem old item new → CountedSoFar size start input (n + 1) new
one_more size start input n old new item k p =
    let starts : StartsWithItem size old.position old.rest item new.rest = rw (← k.same_size) p.starts in
    let long = item_bytes_long size old.position old.rest item new.rest starts in
    let added = length-append k.items (item ∷ []) in
    let few = k.few in
    let same = k.count_is in
    record {
      items = k.items ++ item ∷ [];
      read = rw p.moves (goes_on size start input k.items old.position old.rest item new.rest k.read starts);
      count_is = omega arith;
      few = omega arith;
      is_size = k.is_size;
      same_size = p.size ∙ k.same_size;
      same_start = p.start ∙ k.same_start;
      told = p.told;
    }

stopped : (size start : ℕ) (input : List ℕ) (n : ℕ) (r : Reading) (k : CountedSoFar size start input n r) → HasNoItemNext size r.position r.rest → IsLongestList size start input k.items
stopped size start input n r k s = is_longest size start input k.items r.position r.rest (let low = k.is_size.1 in omega arith) k.is_size.2 k.read s

pub counted_all : (size start : ℕ) (input : List ℕ) (n : ℕ) (r : Reading) → CountedSoFar size start input n r → r.rest ≡ [] → IsReadThrough size start input n None
counted_all size start input n r k e = record {
  items = k.items;
  rest = r.rest;
  splits = k.read.splits;
  longest = stopped size start input n r k (inl e);
  count_is = k.count_is;
  whole = e;
  told = tt;
}

stops : (r : Reading) (f : TapeFault) → IsToldAtEnd r f.kind → HasNoItemNext r.size r.position r.rest
stops r f (inl s) = inr (inl (f.kind, s))
stops r f (inr t) = inr (inr t.0)

pub counted_to : (size start : ℕ) (input : List ℕ) (n : ℕ) (r : Reading) (f : TapeFault) → CountedSoFar size start input n r → f ≡ fault_at r f.kind → IsToldAtEnd r f.kind → IsReadThrough size start input n (Some f)
counted_to size start input n r f k o t = record {
  items = k.items;
  rest = r.rest;
  splits = k.read.splits;
  longest = stopped size start input n r k (rw k.same_size at (stops r f t));
  count_is = k.count_is;
  whole = tt;
  told = (let here = k.read.here in let from = k.same_start in let at = ap (λ (x : TapeFault). x.offset) o in omega arith, rw (← k.read.here, ← k.same_size) t);
}
