-- What changing a hand leaves of a book.
use Rattle.std.proofs.Common.{◌≡◌, ◌≢◌, ℕ, ◌<◌, [], Option, None, length, set, sym, ap, ◌∙◌, subst, inl, inr}
use Rattle.std.proofs.lemmas.List.{length-set, get_or-set_same, get_or-set_other}
use Rattle.std.proofs.lemmas.Bool.{cases_eq}
use Rattle.rb_chapter_ring.specs.declared.out_record.OutRecord.{OutRecord}
use Rattle.rb_chapter_ring.specs.Hands.{HandBook, in_hand, hands_of, hand_at, with_hand, IsShaped}
use Rattle.rb_chapter_ring.specs.HandLaws.{OneHandChanges}

module _ (workers : ℕ) (book : HandBook) (shaped : IsShaped workers book) (w h : ℕ) (low : w < workers) (four : h < 4) (x : Option OutRecord) where
  in-book : w < length book
  in-book = subst (λ n. w < n) (sym shaped.each_worker) low

  in-hands : h < length (hands_of book w)
  in-hands = subst (λ n. h < n) (sym (shaped.four w low)) four

  pub own-hands : hands_of (with_hand book w h x) w ≡ set (hands_of book w) h x
  own-hands = get_or-set_same book w (set (hands_of book w) h x) [] in-book

  pub hand-here : hand_at (with_hand book w h x) w h ≡ x
  hand-here = ap (λ hs. in_hand hs h) own-hands ∙ get_or-set_same (hands_of book w) h x None in-hands

  pub still-shaped : IsShaped workers (with_hand book w h x)
  still-shaped = record {
    each_worker = length-set book w (set (hands_of book w) h x) ∙ shaped.each_worker;
    four = λ v l. elim (cases_eq v w) [
      | inl same ↦ ap (λ z. length (hands_of (with_hand book w h x) z)) same ∙ ap length own-hands ∙ length-set (hands_of book w) h x ∙ shaped.four w low
      | inr other ↦ ap length (get_or-set_other book w v (set (hands_of book w) h x) [] other) ∙ shaped.four v l
    ];
  }

-- the hands of other workers
pub other-hands : (book : HandBook) (w h : ℕ) (x : Option OutRecord) (v : ℕ) → v ≢ w → hands_of (with_hand book w h x) v ≡ hands_of book v
other-hands book w h x v other = get_or-set_other book w v (set (hands_of book w) h x) [] other

-- another hand
pub hand-there : (workers : ℕ) (book : HandBook) → IsShaped workers book → (w h : ℕ) → w < workers → (x : Option OutRecord) (v g : ℕ) → (v ≡ w → g ≡ h → ⊥) → hand_at (with_hand book w h x) v g ≡ hand_at book v g
hand-there workers book shaped w h low x v g other = elim (cases_eq v w) [
  | inl same ↦
      let in_book : w < length book = subst (λ n. w < n) (sym shaped.each_worker) low in
      ap (λ z. hand_at (with_hand book w h x) z g) same ∙ ap (λ hs. in_hand hs g) (get_or-set_same book w (set (hands_of book w) h x) [] in_book)
      ∙ get_or-set_other (hands_of book w) h g x None (λ e. other same e) ∙ ap (λ z. hand_at book z g) (sym same)
  | inr apart ↦ ap (λ hs. in_hand hs g) (other-hands book w h x v apart)
]

pub one-hand-changes : OneHandChanges
one-hand-changes workers book shaped w h low four x = record {
  shaped = still-shaped workers book shaped w h low four x;
  changed = hand-here workers book shaped w h low four x;
  others = hand-there workers book shaped w h low x;
  other_workers = other-hands book w h x;
}
