-- The contents of a batch.
use Rattle.std.proofs.Common.{◌≡◌, ℕ, zero, suc, ◌≤◌, List, [], ◌∷◌, ◌++◌, take, drop, refl, sym, ap, ◌∙◌, subst, arith, add-one}
use Rattle.std.specs.Prelude.{filter, Result, Ok, Err, IsErr, OnOk}
use Rattle.std.specs.List.{slice_index_or as get_or, remove}
use Rattle.std.proofs.Math.Seq.{drop-cons}
use Rattle.std.proofs.lemmas.List.{take-append-drop}
use Rattle.rb_history.specs.declared.entries.Entry.{Entry}
use Rattle.rb_history.specs.declared.answers.Taken.{Taken}
use Rattle.rb_history.specs.declared.answers.Taken.TheVariants.{Event}
use Rattle.rb_history.specs.RingModel.{Ring}
use Rattle.rb_history.specs.ManyTakes.{TakesEach, TakesMany, pushed}
use Rattle.rb_shared_ring.specs.declared.shared.Foreign.{Foreign}
use Rattle.rb_ledger.specs.Roles.{Book}
use Rattle.rb_ledger.specs.Roles.Role.{Consumer}
use Rattle.rb_ledger.specs.LockedCalls.{LockedCall}
use Rattle.rb_ledger.specs.EntryRoom.{InRoomBehind}
use Rattle.rb_ledger.proofs.EntryRoom.{behind-over-all}
use Rattle.rb_tape.specs.Items.{AreRecords}
use Rattle.rb_consumer.specs.Batches.{IsBatch, is_event, GivesLastEvent}
use Rattle.rb_consumer.specs.inner.LastEvents.{IsLastEvent}

pub records-each : (old new : Ring) (ts : List Taken) → TakesEach old ts new → AreRecords ts
records-each old new [] each = tt
records-each old new (t ∷ ts) each = (each.2, records-each each.0 new ts each.3)

-- the contents of a batch that was empty are what the call pushed
pub fill-called : (r : Result ℕ Foreign) (room : ℕ) (handed_out : List Entry) (n : ℕ) (before after : List Taken) (b a : Book)
    → OnOk r (LockedCall Consumer b a (InRoomBehind room handed_out (TakesMany n (pushed before after)))) → before ≡ [] → OnOk r (LockedCall Consumer b a (InRoomBehind room handed_out (TakesMany n after)))
fill-called (Ok k) room handed_out n before after b a call none = subst (λ x. LockedCall Consumer b a (InRoomBehind room handed_out (TakesMany n (pushed x after)))) none call
fill-called (Err e) room handed_out n before after b a call none = tt

pub whole-fill : (r : Result ℕ Foreign) (room : ℕ) (handed_out : List Entry) (n : ℕ) (before after : List Taken) (b a : Book)
    → OnOk r (LockedCall Consumer b a (InRoomBehind room handed_out (TakesMany n (pushed before after)))) → before ≡ [] → OnOk r (LockedCall Consumer b a (TakesMany n after))
whole-fill (Ok k) room handed_out n before after b a call none = behind-over-all b a room handed_out (TakesMany n after) (fill-called (Ok k) room handed_out n before after b a call none)
whole-fill (Err e) room handed_out n before after b a call none = tt

-- a batch that was filled
pub filled : (r : Result ℕ Foreign) (capacity n : ℕ) (taken : List Taken) (b a : Book) → (IsErr r → ⊥) → OnOk r (LockedCall Consumer b a (TakesMany n taken)) → n ≤ capacity → IsBatch (record { capacity = capacity; taken = taken })
filled (Ok k) capacity n taken b a fine call le =
    record { records = records-each call.point call.left taken call.called.each; within = omega (arith, call.called.within) }
filled (Err e) capacity n taken b a fine call le = absurd (fine refl)

records-drop : (ts : List Taken) (n : ℕ) → AreRecords ts → AreRecords (drop n ts)
records-drop ts zero all = all
records-drop [] (suc n) all = tt
records-drop (t ∷ ts) (suc n) all = records-drop ts n all.1

records-cut : (ts : List Taken) (n : ℕ) (more : List Taken) → AreRecords ts → AreRecords more → AreRecords (take n ts ++ more)
records-cut ts zero more all rest = rest
records-cut [] (suc n) more all rest = rest
records-cut (t ∷ ts) (suc n) more all rest = (all.0, records-cut ts n more all.1 rest)

pub records-remove : (ts : List Taken) (i : ℕ) → AreRecords ts → AreRecords (remove ts i)
records-remove ts i all = records-cut ts i (drop (suc i) ts) all (records-drop ts (suc i) all)

-- ---- the last event

pub gives-last : (ts : List Taken) (i p w k : ℕ) (bytes : List ℕ) → IsLastEvent ts i → get_or ts i (Event p w k bytes) ≡ Event p w k bytes → GivesLastEvent ts (remove ts i) bytes
gives-last ts i p w k bytes is here = record {
  front = take i ts;
  back = drop (suc i) ts;
  pos = p;
  worker = w;
  serial = k;
  old_is = sym (take-append-drop i ts) ∙ ap (λ xs. take i ts ++ xs) (drop-cons ts i (Event p w k bytes) is.within ∙ ap (λ x. x ∷ drop (suc i) ts) here);
  new_is = refl;
  last = ap (λ n. filter is_event (drop n ts)) (sym (add-one i)) ∙ is.last;
}
