use Rattle.std.proofs.Common.{◌≡◌, ◌<◌, ◌≤◌, ℕ, length, get_or}
use Rattle.rb_verifier.specs.declared.value.Abs.TheVariants.{Unreadable}
use Rattle.rb_verifier.specs.inner.ValueJoins.{IsJoinValue}
use Rattle.rb_verifier.proofs.join_order.join.Given as goal

abbrev pub invariant-loop-i : goal.invariant-loop-i
invariant-loop-i l = record {
  count : length l.values ≡ 11;
  joined : (r : ℕ) → r < l.i → IsJoinValue (get_or l.left.values r Unreadable) (get_or l.right.values r Unreadable) (get_or l.values r Unreadable);
  left : (r : ℕ) → l.i ≤ r → get_or l.values r Unreadable ≡ get_or l.left.values r Unreadable;
}
