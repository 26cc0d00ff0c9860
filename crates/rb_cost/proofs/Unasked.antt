-- Paths that request no record from a ring request no byte of it.
use Rattle.std.proofs.Common.{◌≡◌, ℕ, ◌+◌, ◌≤◌, refl, Bool, true, false, cond, List, [], ◌∷◌, Option, Some, None, arith}
use Rattle.std.specs.Prelude.{◌==◌}
use Rattle.std.proofs.lemmas.List.Sums.{sum_by-cons}
use Rattle.rb_insn.specs.declared.insn.Insn.{Insn}
use Rattle.rb_verifier.specs.Annotation.{Annotation}
use Rattle.rb_history.specs.Span.{span}
use Rattle.rb_cost.specs.declared.requested_record.RequestedRecord.{RequestedRecord}
use Rattle.rb_cost.specs.declared.path_quantity.Quantity.TheVariants.{Records, Bytes}
use Rattle.rb_cost.specs.Paths.{IsPath, IsMost}
use Rattle.rb_cost.specs.Requests.{asked_at, is_on, bytes_on}
use Rattle.rb_cost.specs.inner.Pass.{total, weight_at}

none_on : (ring : ℕ) (asked : Option RequestedRecord) → cond (is_on ring asked) 1 0 ≤ 0 → bytes_on ring asked ≡ 0
none_on ring None none = refl
none_on ring (Some asked) none = by_test (asked.ring == ring) none
  where
    by_test : (b : Bool) → cond b 1 0 ≤ 0 → cond b (span asked.len) 0 ≡ 0
    by_test true one = absurd (omega arith)
    by_test false one = refl

module _ (program : List Insn) (a : Annotation) (ring : ℕ) where
  no_bytes : (path : List ℕ) → total (weight_at (Records ring) program a) path ≤ 0 → total (weight_at (Bytes ring) program a) path ≡ 0
  no_bytes [] none = refl
  no_bytes (unit ∷ path) none =
      let records : total (weight_at (Records ring) program a) (unit ∷ path) ≡ weight_at (Records ring) program a unit + total (weight_at (Records ring) program a) path = sum_by-cons (weight_at (Records ring) program a) unit path in
      let bytes : total (weight_at (Bytes ring) program a) (unit ∷ path) ≡ weight_at (Bytes ring) program a unit + total (weight_at (Bytes ring) program a) path = sum_by-cons (weight_at (Bytes ring) program a) unit path in
      let here : weight_at (Bytes ring) program a unit ≡ 0 = none_on ring (asked_at program a unit) (omega arith) in
      let rest : total (weight_at (Bytes ring) program a) path ≡ 0 = no_bytes path (omega arith) in
      omega arith

  pub unasked : IsMost (IsPath program) (total (weight_at (Records ring) program a)) 0 → IsMost (IsPath program) (total (weight_at (Bytes ring) program a)) 0
  unasked h = record {
    reached = let r = h.reached in (r.0, r.1, no_bytes r.0 (h.most r.0 r.1));
    most = λ path is. let none : total (weight_at (Bytes ring) program a) path ≡ 0 = no_bytes path (h.most path is) in omega arith;
  }
