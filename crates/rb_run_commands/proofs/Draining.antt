-- What is taken from rings, record by record and ring by ring.
use Rattle.std.proofs.Common.{◌≡◌, ℕ, ◌+◌, ◌<◌, ◌≤◌, List, [], ◌∷◌, ◌++◌, length, get_or, drop, set, map, refl, sym, ap, ◌∙◌, subst, append_assoc, append-nil, arith}
use Rattle.std.proofs.lemmas.List.{drop_all, drop_more, drop-set-lt, map_push}
use Rattle.rb_history.specs.Calls.{producer_now}
use Rattle.rb_history.specs.declared.answers.Taken.{Taken}
use Rattle.rb_ledger.specs.LockedCalls.{LockedCall}
use Rattle.rb_shared_ring.specs.declared.audit.Audit.{Audit}
use Rattle.rb_ledger.specs.Roles.{Book, BeginsWith}
use Rattle.rb_ledger.specs.Roles.Role.{Worker}
use Rattle.rb_ledger.specs.Seats.{WorkerSeat}
use Rattle.rb_ledger.specs.ChapterSeats.{ChapterConsumerSeat}
use Rattle.rb_ledger.specs.EntryRoom.{InRoom}
use Rattle.rb_ledger.proofs.EntryRoom.{called-as}
use Rattle.rb_shared_ring.specs.SharedCalls.{Audits}
use Rattle.rb_run_commands.specs.DrainedRings.{TakesNone, TakesRecord, TakesRecords, DrainsRing, DrainsRings}

-- ---- records

pub none_yet : (seat : ChapterConsumerSeat) → TakesNone seat seat
none_yet seat = record { seen = record { setup_same = refl; behind = []; history_is = sym (append-nil seat.seen.history) }; stayed = refl; got_same = refl; chapters_same = refl }

begins_on : (a b c : Book) → BeginsWith b a → BeginsWith c b → BeginsWith c a
begins_on a b c first second = record {
  setup_same = second.setup_same ∙ first.setup_same;
  behind = first.behind ++ second.behind;
  history_is = second.history_is ∙ ap (λ h. h ++ second.behind) first.history_is ∙ append_assoc a.history first.behind second.behind;
}

none_on : (a b c : ChapterConsumerSeat) → TakesNone a b → TakesNone b c → TakesNone a c
none_on a b c first second = record {
  seen = begins_on a.seen b.seen c.seen first.seen second.seen;
  stayed = second.stayed ∙ first.stayed;
  got_same = second.got_same ∙ first.got_same;
  chapters_same = second.chapters_same ∙ first.chapters_same;
}

-- then no record was taken
pub each_then_none : (start : ChapterConsumerSeat) (records : List Taken) (now next : ChapterConsumerSeat) → TakesRecords start records now → TakesNone now next → TakesRecords start records next
each_then_none start [] now next each none = none_on start now next each none
each_then_none start (taken ∷ more) now next each none = (each.0, each.1, each.2, each.3, each_then_none each.1 more now next each.4 none)

-- then one more record was taken
pub each_then_one : (start : ChapterConsumerSeat) (records : List Taken) (now next : ChapterConsumerSeat) (taken : Taken) → TakesRecords start records now → TakesRecord now taken next → TakesRecords start (records ++ taken ∷ []) next
each_then_one start [] now next taken each one = (now, next, each, one, none_yet next)
each_then_one start (first ∷ more) now next taken each one = (each.0, each.1, each.2, each.3, each_then_one each.1 more now next taken each.4 one)

-- ---- rings

-- an audit returned the producer position
pub told_end : (worker : ℕ) (seen now : Book) (room cut : ℕ) (audit : Audit) (position : ℕ) → position ≡ audit.producer → LockedCall (Worker worker) seen now (InRoom room cut (Audits worker audit))
    → LockedCall (Worker worker) seen now (InRoom room cut (λ old new. (new ≡ old) × (producer_now old ≡ position)))
told_end worker seen now room cut audit position is =
    called-as (Worker worker) seen now room cut (Audits worker audit) (λ old new. (new ≡ old) × (producer_now old ≡ position)) (λ old new audits. (audits.same, sym audits.producer_is ∙ sym is))

-- lists that are equal from some index on
pub left_at : {X : Type 0} (xs ys : List X) (n : ℕ) (d : X) → n < length xs → n < length ys → drop n xs ≡ drop n ys → get_or xs n d ≡ get_or ys n d
left_at xs ys n d below within same = ap (λ l. get_or l 0 d) (sym (drop_more xs n d below) ∙ same ∙ drop_more ys n d within)

-- they are equal from the next index on, even if one is changed at this index
pub left_behind : {X : Type 0} (xs ys : List X) (n : ℕ) (d x : X) → n < length xs → n < length ys → drop n xs ≡ drop n ys → drop (n + 1) (set xs n x) ≡ drop (n + 1) ys
left_behind xs ys n d x below within same =
    drop-set-lt (n + 1) xs n x (omega arith) ∙ ap (drop 1) (sym (drop_more xs n d below) ∙ same ∙ drop_more ys n d within)

module _ {X : Type 0} (records_of : X → List Taken) (seats : List WorkerSeat) (consumers : List ChapterConsumerSeat) (n : ℕ) (drained : List X)
    (so_far : (rest : List (List Taken)) → DrainsRings (drop n seats) (drop n consumers) rest → DrainsRings seats consumers (map records_of drained ++ rest)) where
  -- one more ring
  pub drained_more : (seat : WorkerSeat) (consumer : ChapterConsumerSeat) (more : List X) (records : X) → n < length seats → n < length consumers → more ≡ drained ++ records ∷ []
      → DrainsRing (get_or seats n seat) (get_or consumers n consumer) (records_of records)
      → (rest : List (List Taken)) → DrainsRings (drop (n + 1) seats) (drop (n + 1) consumers) rest → DrainsRings seats consumers (map records_of more ++ rest)
  drained_more seat consumer more records below within pushed here rest behind =
      let joined : map records_of more ++ rest ≡ map records_of drained ++ (records_of records ∷ rest) =
      ap (λ l. map records_of l ++ rest) pushed ∙ ap (λ l. l ++ rest) (map_push records_of drained records) ∙ append_assoc (map records_of drained) (records_of records ∷ []) rest in
      subst (DrainsRings seats consumers) (sym joined) (so_far (records_of records ∷ rest) (rw (drop_more seats n seat below, drop_more consumers n consumer within) (here, behind)))

  -- no ring is left
  pub drained_all : length seats ≤ n → length consumers ≤ n → DrainsRings seats consumers (map records_of drained)
  drained_all past over = subst (DrainsRings seats consumers) (append-nil (map records_of drained)) (so_far [] (rw (drop_all n seats past, drop_all n consumers over) tt))
