-- Consecutive contexts in memory.
use Rattle.std.proofs.Common.{◌≡◌, ℕ, suc, Bool, true, false, cond, ◌+◌, ◌*◌, ◌/◌, ◌-◌, ◌<◌, ◌≤◌, max, List, [], ◌∷◌, ◌++◌, length, take, drop, get_or, min, replicate, refl, take-append-drop, ap, ◌∙◌, arith, add-one}
use Rattle.std.proofs.lemmas.List.{drop-drop, take-append-le, drop-append-le, length-append, length-drop, length-take-le, length-replicate}
use Rattle.std.proofs.Math.Nat.{le-div_iff_mul-le, div-mul-le_self, mul-le-mul_right}
use Rattle.std.proofs.Math.Seq.{drop-append_seam, take-append_seam}
use Rattle.std.specs.Int.{w32, to_le_bytes}
use Rattle.rb_source.specs.declared.form.Form.{Form}
use Rattle.rb_source.specs.Form.{form_len, formed}
use Rattle.rb_source.specs.Piece.{room_for}
use Rattle.rb_source.specs.inner.Side.{side_by_side, IsPieceMemory}

pub length-side_by_side : (c n : ℕ) (bytes : List ℕ) → length (side_by_side c n bytes) ≡ n
length-side_by_side c ℕ.zero bytes = refl
length-side_by_side c (suc n) bytes = ap suc (length-side_by_side c n (drop c bytes))

times-suc : (n c : ℕ) → c + n * c ≡ suc n * c
times-suc n c = omega arith

-- one of them
pub get_or-side_by_side : (c n k : ℕ) (bytes : List ℕ) → k < n → get_or (side_by_side c n bytes) k [] ≡ take c (drop (k * c) bytes)
get_or-side_by_side c ℕ.zero k bytes h = absurd (omega arith)
get_or-side_by_side c (suc n) ℕ.zero bytes h = let e : 0 * c ≡ 0 = omega arith in rw e refl
get_or-side_by_side c (suc n) (suc k) bytes h =
    get_or-side_by_side c n k (drop c bytes) (omega arith)
    ∙ ap (take c) (drop-drop (k * c) c bytes ∙ ap (λ m. drop m bytes) (times-suc k c))

-- one more of them
more : (c n : ℕ) (bytes : List ℕ) → side_by_side c (suc n) bytes ≡ side_by_side c n bytes ++ take c (drop (n * c) bytes) ∷ []
more c ℕ.zero bytes = let e : 0 * c ≡ 0 = omega arith in rw e refl
more c (suc n) bytes =
    ap (λ cs. take c bytes ∷ cs) (more c n (drop c bytes) ∙ ap (λ b. side_by_side c n (drop c bytes) ++ take c b ∷ []) (drop-drop (n * c) c bytes ∙ ap (λ m. drop m bytes) (times-suc n c)))

-- bytes with the same front
same_front : (c n : ℕ) (front a b : List ℕ) → length front ≡ n * c → side_by_side c n (front ++ a) ≡ side_by_side c n (front ++ b)
same_front c ℕ.zero front a b e = refl
same_front c (suc n) front a b e =
    let long : c ≤ length front = omega (arith, times-suc n c) in
    let rest : length (drop c front) ≡ n * c = omega (arith, times-suc n c, length-drop c front) in
    rw (take-append-le c front a long, take-append-le c front b long, drop-append-le c front a long, drop-append-le c front b long) (ap (λ cs. take c front ∷ cs) (same_front c n (drop c front) a b rest))

-- bytes that are written after them are one more
pub side_by_side-written : (c n : ℕ) (front one behind before : List ℕ) → length front ≡ n * c → length one ≡ c → side_by_side c (n + 1) (front ++ (one ++ behind)) ≡ side_by_side c n (front ++ before) ++ one ∷ []
side_by_side-written c n front one behind before e f =
    let at : drop (n * c) (front ++ (one ++ behind)) ≡ one ++ behind = rw (← e) (drop-append_seam front (one ++ behind)) in
    let it : take c (drop (n * c) (front ++ (one ++ behind))) ≡ one = ap (take c) at ∙ rw (← f) (take-append_seam one behind) in
    rw add-one (more c n (front ++ (one ++ behind)) ∙ (ap (λ cs. cs ++ take c (drop (n * c) (front ++ (one ++ behind))) ∷ []) (same_front c n front (one ++ behind) before e) ∙ ap (λ o. side_by_side c n (front ++ before) ++ o ∷ []) it))

-- the place of one of them is inside their memory
pub place_inside : (room c count : ℕ) → count < room → count * c + c ≤ room * c
place_inside room c count h =
    let less : suc count ≤ room = omega arith in
    let e : count * c + c ≡ suc count * c = omega arith in
    rw e (mul-le-mul_right c less)

-- the memory has at most 64 KiB
pub memory_small : (c : ℕ) → room_for c * c ≤ 65536
memory_small ℕ.zero = let e : room_for 0 * 0 ≡ 0 = omega arith in rw e (omega arith)
memory_small (suc c) = let e : max 1 (suc c) ≡ suc c = omega arith in rw e (div-mul-le_self 65536 (suc c))

-- a place in the memory of a piece
pub place_small : (c room count k : ℕ) (bytes : List ℕ) → IsPieceMemory c room count bytes → k < room → (k * c + c ≤ 65536) × (k * c + c ≤ length bytes)
place_small c room count k bytes m h =
    let inside = place_inside room c k h in
    let small : room * c ≤ 65536 = rw m.room_is (memory_small c) in
    (omega arith, omega (arith, m.memory))

-- a context that is written over the memory, up to index `behind`
pub length_written : (at behind : ℕ) (bytes one : List ℕ) → behind ≡ at + length one → at + length one ≤ length bytes → length (take at bytes ++ (one ++ drop behind bytes)) ≡ length bytes
length_written at behind bytes one e h = simp (length-append, length-drop) (let l = length-take-le at bytes (omega arith) in omega arith)

pub written : (c n behind : ℕ) (bytes one : List ℕ) → n * c + c ≤ length bytes → length one ≡ c → side_by_side c (n + 1) (take (n * c) bytes ++ (one ++ drop behind bytes)) ≡ side_by_side c n bytes ++ one ∷ []
written c n behind bytes one h e =
    side_by_side-written c n (take (n * c) bytes) one (drop behind bytes) (drop (n * c) bytes) (length-take-le (n * c) bytes (omega arith)) e
    ∙ ap (λ b. side_by_side c n b ++ one ∷ []) (take-append-drop (n * c) bytes)

-- a context of the form has the form's length
length_body : (len total : ℕ) (front : List ℕ) → min total len ≤ length front → length (take (min total len) front ++ replicate (len - min total len) 0) ≡ len
length_body len total front h = simp (length-append, length-replicate) (let l = length-take-le (min total len) front h in omega arith)

with_head : (b : Bool) (len total : ℕ) (body : List ℕ) → length body ≡ len → length (cond b (to_le_bytes w32 total) [] ++ body) ≡ cond b (len + 4) len
with_head true len total body e = omega (arith, length-append (to_le_bytes w32 total) body)
with_head false len total body e = e

pub length-formed : (form : Form) (front : List ℕ) (total : ℕ) → min total form.len ≤ length front → length (formed form front total) ≡ form_len form
length-formed form front total h = with_head form.with_length form.len total _ (length_body form.len total front h)

-- a piece has room for one context
pub room_some : (c : ℕ) → c ≤ 65536 → 0 < room_for c
room_some ℕ.zero h = omega arith
room_some (suc c) h =
    let e : max 1 (suc c) ≡ suc c = omega arith in
    let some : 1 ≤ 65536 / suc c = (le-div_iff_mul-le (omega arith)).1 (omega arith) in
    rw e (omega arith)
