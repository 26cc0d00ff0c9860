-- The effect of each call of a store on its segments, if they are known. Nothing is known about a store over files, and
-- everything about one in memory (own).
use Rattle.std.specs.Prelude.{ℕ, ◌≡◌, ⊤, List, [], ◌∷◌, ◌++◌, length, map, take, Option, None, Some}
use Rattle.rb_segments.specs.Segments.{Segment}
use Rattle.rb_segments.specs.declared.stored_segment.StoredSegment.{StoredSegment}

-- the newest segment has this position and these bytes
abbrev pub AddsSegment : Option (List Segment) → ℕ → Option (List ℕ) → Option (List Segment) → Type 0
AddsSegment None position bytes new = new ≡ None
AddsSegment (Some old) position None new = ⊥
AddsSegment (Some old) position (Some bytes) new = new ≡ Some (old ++ record { position = position; bytes = bytes } ∷ [])

-- the oldest of the segments has this position
abbrev pub IsOldest : ℕ → Option (List Segment) → Type 0
IsOldest position None = ⊤
IsOldest position (Some []) = ⊥
IsOldest position (Some (segment ∷ segments)) = segment.position ≡ position

-- the oldest segment was removed, and no other
abbrev pub RemovesOldest : Option (List Segment) → Option (List Segment) → Type 0
RemovesOldest None new = new ≡ None
RemovesOldest (Some []) new = ⊥
RemovesOldest (Some (segment ∷ segments)) new = new ≡ Some segments

-- the newest of the segments that were created and not closed has this position
abbrev pub Creates : Option (List ℕ) → ℕ → Option (List ℕ) → Type 0
Creates None position new = new ≡ None
Creates (Some old) position new = new ≡ Some (old ++ position ∷ [])

-- the oldest of those segments has this position
abbrev pub IsFirstCreated : ℕ → Option (List ℕ) → Type 0
IsFirstCreated position None = ⊤
IsFirstCreated position (Some []) = ⊥
IsFirstCreated position (Some (first ∷ rest)) = first ≡ position

-- the oldest of those segments was closed
abbrev pub ClosesFirst : Option (List ℕ) → Option (List ℕ) → Type 0
ClosesFirst None new = new ≡ None
ClosesFirst (Some []) new = ⊥
ClosesFirst (Some (first ∷ rest)) new = new ≡ Some rest

-- exactly one of those segments is left, and it has this position
abbrev pub IsOnlyCreated : ℕ → Option (List ℕ) → Type 0
IsOnlyCreated position None = ⊤
IsOnlyCreated position (Some created) = created ≡ position ∷ []

-- these are the positions of the segments
abbrev pub HavePositions : List ℕ → Option (List Segment) → Type 0
HavePositions positions None = ⊤
HavePositions positions (Some segments) = map (λ s. s.position) segments ≡ positions

-- a segment in a listing
abbrev pub stored : Segment → StoredSegment
stored segment = record { position = segment.position; length = length segment.bytes }

-- these are the bytes of the newest segment
abbrev pub IsNewest : List ℕ → List Segment → Type 0
IsNewest bytes segments = (older : List Segment) × (newest : Segment) × (segments ≡ older ++ newest ∷ []) × (bytes ≡ newest.bytes)

-- the newest segment was reopened: it is no longer closed, and its file has the first `len` of its bytes
abbrev pub Reopens : Option (List Segment) → ℕ → Option (List ℕ) → Option (List Segment) → Type 0
Reopens None len bytes new = new ≡ None
Reopens (Some old) len bytes new = (older : List Segment) × (newest : Segment) × (old ≡ older ++ newest ∷ []) × (new ≡ Some older) × (bytes ≡ Some (take len newest.bytes))
