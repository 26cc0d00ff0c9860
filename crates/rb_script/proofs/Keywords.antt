-- A line makes at most one statement.
use Rattle.std.proofs.Common.{◌≡◌, ◌==◌, ◌+◌, ℕ, true, false, List, [], ◌∷◌, length, slice_index, codes, refl, sym, ap, ◌∙◌}
use Rattle.std.proofs.lemmas.Bool.{eq-eqb}
use Rattle.hex.proofs.HexLemmas.{decode_of-same}
use Rattle.rb_world.specs.declared.actor.Actor.TheVariants.{Worker, Consumer, Keeper}
use Rattle.rb_world.specs.declared.world_setup.RingSetup.{RingSetup}
use Rattle.rb_script.specs.ScriptText.{Statement, SpellsNumber, SaysRing, SaysWorker, SaysTurns, SaysOneTurn, SaysWords, Says, words_of}
use Rattle.rb_script.specs.ScriptText.Statement.{RingOf, WorkerOf, TurnsOf}

-- a number that differs for each keyword
abbrev key : List ℕ → ℕ
key word = slice_index word 0 + length word

pub clash : (a b : List ℕ) → (key a == key b) ≡ false → a ≡ b → ⊥
clash a b differ e = let same : (key a == key b) ≡ true = eq-eqb (key a) (key b) (ap key e) in absurd (let never : false ≡ true = sym differ ∙ same in cc)

one-number : (word : List ℕ) (m n : ℕ) → SpellsNumber word m → SpellsNumber word n → m ≡ n
one-number word m n a b = sym a.value ∙ b.value

abbrev make : ℕ → ℕ → ℕ → RingSetup
make size start room = record { size = size; start = start; room = room }

same-ring : (a b : RingSetup) → a.size ≡ b.size → a.start ≡ b.start → a.room ≡ b.room → a ≡ b
same-ring a b size start room = ap (λ n. make n a.start a.room) size ∙ (ap (λ n. make b.size n a.room) start ∙ ap (λ n. make b.size b.start n) room)

ring-one : (words : List (List ℕ)) (s t : RingSetup) → SaysRing words s → SaysRing words t → s ≡ t
ring-one [] s t a b = absurd a
ring-one (size ∷ []) s t a b = absurd a
ring-one (size ∷ start ∷ []) s t a b = same-ring s t (one-number size s.size t.size a.0 b.0) (one-number start s.start t.start a.1 b.1) (a.2 ∙ sym b.2)
ring-one (size ∷ start ∷ room ∷ []) s t a b = same-ring s t (one-number size s.size t.size a.0 b.0) (one-number start s.start t.start a.1 b.1) (one-number room s.room t.room a.2 b.2)
ring-one (size ∷ start ∷ room ∷ next ∷ words) s t a b = absurd a

worker-one : (words : List (List ℕ)) (p c q d : List ℕ) → SaysWorker words p c → SaysWorker words q d → WorkerOf p c ≡ WorkerOf q d
worker-one [] p c q d a b = absurd a
worker-one (hex ∷ []) p c q d a b = ap (λ l. WorkerOf l c) (a.1 ∙ sym b.1) ∙ ap (λ l. WorkerOf q l) (a.2 ∙ sym b.2)
worker-one (hex ∷ bytes ∷ []) p c q d a b = ap (λ l. WorkerOf l c) (a.1 ∙ sym b.1) ∙ ap (λ l. WorkerOf q l) (decode_of-same bytes c d a.3 b.3)
worker-one (hex ∷ bytes ∷ next ∷ words) p c q d a b = absurd a

turns-one : (words : List (List ℕ)) (i n j m : ℕ) → SaysTurns words i n → SaysTurns words j m → (i ≡ j) × (n ≡ m)
turns-one [] i n j m a b = absurd a
turns-one (number ∷ []) i n j m a b = (one-number number i j a.0 b.0, a.1 ∙ sym b.1)
turns-one (number ∷ times ∷ []) i n j m a b = (one-number number i j a.0 b.0, one-number times n m a.1 b.1)
turns-one (number ∷ times ∷ next ∷ words) i n j m a b = absurd a

keeper-one : (words : List (List ℕ)) (i n j m : ℕ) → SaysOneTurn words i n → SaysOneTurn words j m → (i ≡ j) × (n ≡ m)
keeper-one [] i n j m a b = absurd a
keeper-one (number ∷ []) i n j m a b = (one-number number i j a.0 b.0, a.1 ∙ sym b.1)
keeper-one (number ∷ next ∷ words) i n j m a b = absurd a

pub one-statement : (words : List (List ℕ)) (x y : Statement) → SaysWords words x → SaysWords words y → x ≡ y
one-statement [] x y a b = absurd a
one-statement (word ∷ words) (RingOf s) (RingOf t) a b = ap RingOf (ring-one words s t a.1 b.1)
one-statement (word ∷ words) (RingOf s) (WorkerOf q d) a b = absurd (clash (codes "ring") (codes "worker") refl (sym a.0 ∙ b.0))
one-statement (word ∷ words) (RingOf s) (TurnsOf (Worker v) m) a b = absurd (clash (codes "ring") (codes "w") refl (sym a.0 ∙ b.0))
one-statement (word ∷ words) (RingOf s) (TurnsOf (Consumer u) m) a b = absurd (clash (codes "ring") (codes "c") refl (sym a.0 ∙ b.0))
one-statement (word ∷ words) (RingOf s) (TurnsOf (Keeper u) m) a b = absurd (clash (codes "ring") (codes "k") refl (sym a.0 ∙ b.0))
one-statement (word ∷ words) (WorkerOf p c) (RingOf t) a b = absurd (clash (codes "worker") (codes "ring") refl (sym a.0 ∙ b.0))
one-statement (word ∷ words) (WorkerOf p c) (WorkerOf q d) a b = worker-one words p c q d a.1 b.1
one-statement (word ∷ words) (WorkerOf p c) (TurnsOf (Worker v) m) a b = absurd (clash (codes "worker") (codes "w") refl (sym a.0 ∙ b.0))
one-statement (word ∷ words) (WorkerOf p c) (TurnsOf (Consumer u) m) a b = absurd (clash (codes "worker") (codes "c") refl (sym a.0 ∙ b.0))
one-statement (word ∷ words) (WorkerOf p c) (TurnsOf (Keeper u) m) a b = absurd (clash (codes "worker") (codes "k") refl (sym a.0 ∙ b.0))
one-statement (word ∷ words) (TurnsOf (Worker w) n) (RingOf t) a b = absurd (clash (codes "w") (codes "ring") refl (sym a.0 ∙ b.0))
one-statement (word ∷ words) (TurnsOf (Worker w) n) (WorkerOf q d) a b = absurd (clash (codes "w") (codes "worker") refl (sym a.0 ∙ b.0))
one-statement (word ∷ words) (TurnsOf (Worker w) n) (TurnsOf (Worker v) m) a b = (let one = turns-one words w n v m a.1 b.1 in ap (λ i. TurnsOf (Worker i) n) one.0 ∙ ap (λ k. TurnsOf (Worker v) k) one.1)
one-statement (word ∷ words) (TurnsOf (Worker w) n) (TurnsOf (Consumer u) m) a b = absurd (clash (codes "w") (codes "c") refl (sym a.0 ∙ b.0))
one-statement (word ∷ words) (TurnsOf (Worker w) n) (TurnsOf (Keeper u) m) a b = absurd (clash (codes "w") (codes "k") refl (sym a.0 ∙ b.0))
one-statement (word ∷ words) (TurnsOf (Consumer r) n) (RingOf t) a b = absurd (clash (codes "c") (codes "ring") refl (sym a.0 ∙ b.0))
one-statement (word ∷ words) (TurnsOf (Consumer r) n) (WorkerOf q d) a b = absurd (clash (codes "c") (codes "worker") refl (sym a.0 ∙ b.0))
one-statement (word ∷ words) (TurnsOf (Consumer r) n) (TurnsOf (Worker v) m) a b = absurd (clash (codes "c") (codes "w") refl (sym a.0 ∙ b.0))
one-statement (word ∷ words) (TurnsOf (Consumer r) n) (TurnsOf (Consumer u) m) a b = (let one = turns-one words r n u m a.1 b.1 in ap (λ i. TurnsOf (Consumer i) n) one.0 ∙ ap (λ k. TurnsOf (Consumer u) k) one.1)
one-statement (word ∷ words) (TurnsOf (Consumer r) n) (TurnsOf (Keeper u) m) a b = absurd (clash (codes "c") (codes "k") refl (sym a.0 ∙ b.0))
one-statement (word ∷ words) (TurnsOf (Keeper r) n) (RingOf t) a b = absurd (clash (codes "k") (codes "ring") refl (sym a.0 ∙ b.0))
one-statement (word ∷ words) (TurnsOf (Keeper r) n) (WorkerOf q d) a b = absurd (clash (codes "k") (codes "worker") refl (sym a.0 ∙ b.0))
one-statement (word ∷ words) (TurnsOf (Keeper r) n) (TurnsOf (Worker v) m) a b = absurd (clash (codes "k") (codes "w") refl (sym a.0 ∙ b.0))
one-statement (word ∷ words) (TurnsOf (Keeper r) n) (TurnsOf (Consumer u) m) a b = absurd (clash (codes "k") (codes "c") refl (sym a.0 ∙ b.0))
one-statement (word ∷ words) (TurnsOf (Keeper r) n) (TurnsOf (Keeper u) m) a b = (let one = keeper-one words r n u m a.1 b.1 in ap (λ i. TurnsOf (Keeper i) n) one.0 ∙ ap (λ k. TurnsOf (Keeper u) k) one.1)

pub says-one : (line : List ℕ) (x y : Statement) → Says line x → Says line y → x ≡ y
says-one line x y a b = one-statement (words_of line) x y a.words b.words
