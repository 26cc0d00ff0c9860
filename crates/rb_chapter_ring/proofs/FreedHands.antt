-- The contents of a book's hands after one of them was freed.
use Rattle.std.proofs.Common.{◌≡◌, ℕ, ◌<◌, Option, Some, None, sym, ◌∙◌, inl, inr}
use Rattle.std.proofs.lemmas.Bool.{cases_eq}
use Rattle.rb_chapter_ring.specs.declared.out_record.OutRecord.{OutRecord}
use Rattle.rb_chapter_ring.specs.Hands.{HandBook, IsShaped, hand_at, with_hand}
use Rattle.rb_chapter_ring.proofs.ChangedHands.{hand-here, hand-there}

module _ (workers : ℕ) (book : HandBook) (shaped : IsShaped workers book) (w h : ℕ) (low : w < workers) (four : h < 4) where
  absent : (o : OutRecord) → ◌≡◌ {A = Option OutRecord} None (Some o) → ⊥
  absent o e = cc

  -- after a hand is freed, the contents of hands are among those from before
  pub freed-stays : (v g : ℕ) (o : OutRecord) → hand_at (with_hand book w h None) v g ≡ Some o → hand_at book v g ≡ Some o
  freed-stays v g o at = elim (cases_eq v w) [
    | inl mine ↦ elim (cases_eq g h) [
      | inl same ↦ absurd (absent o (sym (hand-here workers book shaped w h low four None) ∙ sym (λ i. hand_at (with_hand book w h None) (mine i) (same i)) ∙ at))
      | inr other ↦ sym (hand-there workers book shaped w h low None v g (λ _ e. other e)) ∙ at
    ]
    | inr apart ↦ sym (hand-there workers book shaped w h low None v g (λ e _. apart e)) ∙ at
  ]
