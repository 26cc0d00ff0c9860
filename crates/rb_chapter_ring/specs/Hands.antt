-- Hands: each worker has four, and each of its busy records is in one of them (own).
use Rattle.std.specs.Prelude.{◌≡◌, ℕ, ◌<◌, List, Option, Some, None, [], length, replicate, slice_index_or as get_or, slice_set as set}
use Rattle.rb_history.specs.declared.entries.Entry.{Entry}
use Rattle.rb_history.specs.Calls.{IsBusy}
use Rattle.rb_chapter_ring.specs.declared.out_record.OutRecord.{OutRecord}

-- a record that is in a hand
abbrev pub out_record : ℕ → ℕ → ℕ → OutRecord
out_record p k n = record { pos = p; serial = k; len = n }

-- the hands of one worker, by their numbers
abbrev pub Hands : Type 0
Hands = List (Option OutRecord)

-- the hands of all workers, by their numbers
abbrev pub HandBook : Type 0
HandBook = List Hands

-- the content of a hand; nothing if there is no such hand
abbrev pub in_hand : Hands → ℕ → Option OutRecord
in_hand hands h = get_or hands h None

abbrev pub hands_of : HandBook → ℕ → Hands
hands_of book w = get_or book w []

-- the content of a worker's hand
abbrev pub hand_at : HandBook → ℕ → ℕ → Option OutRecord
hand_at book w h = in_hand (hands_of book w) h

-- the book with x in the worker's hand
abbrev pub with_hand : HandBook → ℕ → ℕ → Option OutRecord → HandBook
with_hand book w h x = set book w (set (hands_of book w) h x)

-- the hands of a worker, all free
abbrev pub free_hands : Hands
free_hands = replicate 4 None

-- the hands of all workers, all free
abbrev pub free_book : ℕ → HandBook
free_book workers = replicate workers free_hands

-- the hand is one of the four, and it is free
pub record IsFree (hands : Hands) (h : ℕ) : Type 0 where
  pub below : h < 4
  pub free : in_hand hands h ≡ None

-- the hand is free, and those below it are not
pub record IsLowestFree (hands : Hands) (h : ℕ) : Type 0 where
  pub is_free : IsFree hands h
  pub lowest : (g : ℕ) → g < h → in_hand hands g ≡ None → ⊥

-- none of the four is free
abbrev pub AreAllOut : Hands → Type 0
AreAllOut hands = (h : ℕ) → h < 4 → in_hand hands h ≡ None → ⊥

-- there are four hands for each worker
pub record IsShaped (workers : ℕ) (book : HandBook) : Type 0 where
  pub each_worker : length book ≡ workers
  pub four : (w : ℕ) → w < workers → length (hands_of book w) ≡ 4

-- The book's positions are exactly those of the busy records, each once: the content of a worker's hand is a busy
-- record of that worker, each busy record is in a hand of its worker, and two hands have different records. The
-- relation Busy states that the record with position p, worker w, serial k and length n is busy.
pub record HoldsBusy (book : HandBook) (Busy : ℕ → ℕ → ℕ → ℕ → Type 0) : Type 0 where
  pub out_is_busy : (w h : ℕ) (o : OutRecord) → hand_at book w h ≡ Some o → Busy o.pos w o.serial o.len
  pub busy_is_out : (p w k n : ℕ) → Busy p w k n → (h : ℕ) × (hand_at book w h ≡ Some (out_record p k n))
  pub each_once : (v w g h : ℕ) (x y : OutRecord) → hand_at book v g ≡ Some x → hand_at book w h ≡ Some y → x.pos ≡ y.pos → (v ≡ w) × (g ≡ h)

-- the book is that of a whole history
abbrev pub IsBookOf : HandBook → List Entry → Type 0
IsBookOf book h = HoldsBusy book (IsBusy h)
