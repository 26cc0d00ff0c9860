-- A sink is given the records that a batch lends, one by one.
use Rattle.std.proofs.Common.{◌≡◌, ℕ, List, [], ◌∷◌, refl, ap, sym, ◌∙◌, subst}
use Rattle.rb_history.specs.TapeBytes.{AreItemsFrom, end_of}
use Rattle.rb_history.proofs.HeaderLaws.{end_of-nil}
use Rattle.rb_history.specs.declared.answers.Taken.{Taken}
use Rattle.rb_tape.specs.Items.{item_of, item_taken, tape_items}
use Rattle.rb_tape.specs.declared.item.Item.{Item}
use Rattle.rb_tape.specs.declared.item.Item.TheVariants as kinds
use Rattle.rb_workers.specs.Sink.{SinkItem, TakesAll}
use Rattle.rb_workers.specs.inner.ConsumerTasks.{items_among}

-- ---- an item that is lent, and the result of `take` that it comes from

tape_items-cons : (item : Item) (ts : List Taken) → tape_items (item_taken item ∷ ts) ≡ item_of item ∷ tape_items ts
tape_items-cons (kinds.Event e) ts = refl
tape_items-cons (kinds.Skip pos n) ts = refl

-- ---- all of them

module _ {S : Type 0} (position : S → ℕ) (takes : S → SinkItem → S → Type 0) (start : S) (all : List Taken) where
  -- the remaining records begin at the sink's position and end where all records do, and a sink that takes them has
  -- taken all
  pub record IsLeft (now : S) (left : List Taken) : Type 0 where
    pub size : ℕ
    pub stand : AreItemsFrom size (position now) (tape_items left)
    pub ends : end_of (position now) (tape_items left) ≡ end_of (position start) (tape_items all)
    pub given : (end : S) → TakesAll takes now (items_among left) end → TakesAll takes start (items_among all) end

  -- no record remains
  pub none_left : (now : S) (left : List Taken) → IsLeft now left → left ≡ [] → (position now ≡ end_of (position start) (tape_items all)) × TakesAll takes start (items_among all) now
  none_left now left so_far is = (
    sym (end_of-nil (position now)) ∙ (ap (λ l. end_of (position now) (tape_items l)) (sym is) ∙ so_far.ends),
    so_far.given now (subst (λ l. TakesAll takes now (items_among l) now) (sym is) refl),
  )
