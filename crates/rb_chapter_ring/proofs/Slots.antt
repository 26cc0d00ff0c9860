-- The slots of records, which are a circular buffer.
use Rattle.std.proofs.Common.{◌≡◌, ◌≢◌, ℕ, zero, suc, ◌+◌, ◌*◌, ◌/◌, ◌%◌, ◌<◌, ◌≤◌, List, [], ◌∷◌, ◌++◌, length, get_or, set, refl, sym, ap, ◌∙◌, inl, inr, arith}
use Rattle.std.proofs.Math.Nat.{mul-le-mul_left}
use Rattle.std.proofs.lemmas.Bool.{cases_lt}
use Rattle.std.proofs.lemmas.List.{get_or-set_same, get_or-set_other}
use Rattle.rb_history.specs.declared.stored_records.StoredRecord.{StoredRecord}
use Rattle.rb_history.specs.declared.stored_records.RecordState.TheVariants.{Submitted, Discarded as DiscardedState}
use Rattle.rb_history.specs.History.{Shown}
use Rattle.rb_history.specs.History.Status.{Waiting, Discarded}
use Rattle.rb_chapter_ring.specs.Snapshot.{no_record}
use Rattle.rb_chapter_ring.specs.inner.RingBody.{stored_at, stored_from}

-- worked examples with eight slots, which wrap around
slots-go-round : ◌≡◌ {A = ℕ} (7 % 8) 7 × ◌≡◌ {A = ℕ} (8 % 8) 0 × ◌≡◌ {A = ℕ} (17 % 8) 1
slots-go-round = (refl, refl, refl)

-- two numbers that differ by less than the number of slots have different slots
slots-apart : (m p q : ℕ) → p < q → q < p + m → p % m ≡ q % m → ⊥
slots-apart m p q lt near same = elim (cases_lt (p / m) (q / m)) [
  | inl more ↦ let step : m * (p / m + 1) ≤ m * (q / m) = mul-le-mul_left m (omega arith) in omega (arith, step)
  | inr less ↦ let step : m * (q / m) ≤ m * (p / m) = mul-le-mul_left m less in omega (arith, step)
]

-- the record at an index, with its bytes
pub stored-here : (m : ℕ) (sheets : List (List ℕ)) (n : ℕ) (ss : List Shown) (i : ℕ) (d : StoredRecord) → i < length ss → get_or (stored_from m sheets n ss) i d ≡ stored_at (get_or ss i no_record) (get_or sheets ((n + i) % m) [])
stored-here m sheets n [] i d l = absurd (omega arith)
stored-here m sheets n (s ∷ ss) zero d l = let same : n + zero ≡ n = omega arith in rw same refl
stored-here m sheets n (s ∷ ss) (suc i) d l = let next : n + suc i ≡ n + 1 + i = omega arith in rw next (stored-here m sheets (n + 1) ss i d (omega arith))

-- one more record
pub stored-push : (m : ℕ) (sheets : List (List ℕ)) (n : ℕ) (ss : List Shown) (s : Shown) → stored_from m sheets n (ss ++ s ∷ []) ≡ stored_from m sheets n ss ++ stored_at s (get_or sheets ((n + length ss) % m) []) ∷ []
stored-push m sheets n [] s = let same : n + zero ≡ n = omega arith in rw same refl
stored-push m sheets n (x ∷ ss) s =
    let next : n + suc (length ss) ≡ n + 1 + length ss = omega arith in
    rw next (ap (λ ts. stored_at x (get_or sheets (n % m) []) ∷ ts) (stored-push m sheets (n + 1) ss s))

-- a slot that belongs to none of the records has other bytes
pub stored-elsewhere : (m : ℕ) (sheets : List (List ℕ)) (k : ℕ) (bytes : List ℕ) (n : ℕ) (ss : List Shown) → ((j : ℕ) → j < length ss → (n + j) % m ≢ k) → stored_from m (set sheets k bytes) n ss ≡ stored_from m sheets n ss
stored-elsewhere m sheets k bytes n [] other = refl
stored-elsewhere m sheets k bytes n (s ∷ ss) other =
    let own : get_or (set sheets k bytes) (n % m) [] ≡ get_or sheets (n % m) [] = get_or-set_other sheets k (n % m) bytes [] (λ e. other zero (omega arith) (ap (λ x. x % m) (omega arith) ∙ e)) in
    let rest = stored-elsewhere m sheets k bytes (n + 1) ss (λ j l e. other (suc j) (omega arith) (ap (λ x. x % m) (omega arith) ∙ e)) in
    λ i. stored_at s (own i) ∷ rest i

-- the record at the front leaves its slot
pub stored-behind : (m : ℕ) (sheets : List (List ℕ)) (bytes : List ℕ) (n : ℕ) (ss : List Shown) → length ss < m → stored_from m (set sheets (n % m) bytes) (n + 1) ss ≡ stored_from m sheets (n + 1) ss
stored-behind m sheets bytes n ss few = stored-elsewhere m sheets (n % m) bytes (n + 1) ss (λ j l e. slots-apart m n (n + 1 + j) (omega arith) (omega arith) (sym e))

-- the record at an index has another status, and new bytes
pub stored-submit : (m : ℕ) (sheets : List (List ℕ)) (bytes : List ℕ) (n : ℕ) (ss : List Shown) (i k : ℕ) → k ≡ (n + i) % m → k < length sheets → i < length ss → length ss ≤ m
    → stored_from m (set sheets k bytes) n (set ss i (record (get_or ss i no_record) { status = Waiting })) ≡ set (stored_from m sheets n ss) i (record (stored_at (get_or ss i no_record) (get_or sheets k [])) { state = Submitted bytes })
stored-submit m sheets bytes n [] i k at low l few = absurd (omega arith)
stored-submit m sheets bytes n (s ∷ ss) zero k at low l few =
    let here : n % m ≡ k = ap (λ x. x % m) (omega arith) ∙ sym at in
    let own : get_or (set sheets k bytes) (n % m) [] ≡ bytes = ap (λ x. get_or (set sheets k bytes) x []) here ∙ get_or-set_same sheets k bytes [] low in
    let rest = stored-elsewhere m sheets k bytes (n + 1) ss (λ j b e. slots-apart m n (n + 1 + j) (omega arith) (omega arith) (here ∙ sym e)) in
    λ j. stored_at (record s { status = Waiting }) (own j) ∷ rest j
stored-submit m sheets bytes n (s ∷ ss) (suc i) k at low l few =
    let away : n % m ≢ k = λ e. slots-apart m n (n + suc i) (omega arith) (omega arith) (e ∙ at) in
    let own : get_or (set sheets k bytes) (n % m) [] ≡ get_or sheets (n % m) [] = get_or-set_other sheets k (n % m) bytes [] away in
    let rest = stored-submit m sheets bytes (n + 1) ss i k (at ∙ ap (λ x. x % m) (omega arith)) low (omega arith) (omega arith) in
    λ j. stored_at s (own j) ∷ rest j

-- the record at an index was discarded
pub stored-discard : (m : ℕ) (sheets : List (List ℕ)) (bytes : List ℕ) (n : ℕ) (ss : List Shown) (i : ℕ) → i < length ss
    → stored_from m sheets n (set ss i (record (get_or ss i no_record) { status = Discarded })) ≡ set (stored_from m sheets n ss) i (record (stored_at (get_or ss i no_record) bytes) { state = DiscardedState })
stored-discard m sheets bytes n [] i l = absurd (omega arith)
stored-discard m sheets bytes n (s ∷ ss) zero l = refl
stored-discard m sheets bytes n (s ∷ ss) (suc i) l = ap (λ ts. stored_at s (get_or sheets (n % m) []) ∷ ts) (stored-discard m sheets bytes (n + 1) ss i (omega arith))
