-- The lines of a script, in sequence.
use Rattle.std.proofs.Common.{◌≡◌, ◌<◌, ◌≤◌, ◌+◌, ◌-◌, ◌⊎◌, ℕ, List, [], ◌∷◌, ◌++◌, length, map, take, drop, replicate, Err, Result, refl, sym, ap, subst, ◌∙◌, inl, inr, append-nil, append_assoc, arith}
use Rattle.std.specs.List.{AllZip}
use Rattle.std.proofs.lemmas.Bool.{cases_order}
use Rattle.std.proofs.lemmas.List.{length-append, length-map, take_at, take-take, take-append-drop}
use Rattle.rb_script.specs.declared.script.Script.{Script}
use Rattle.rb_script.specs.declared.script_fault.ScriptFault.{ScriptFault}
use Rattle.rb_script.specs.declared.script_fault.ScriptFault.TheVariants.{Line, Memory}
use Rattle.rb_script.specs.ScriptText.{Statement, Says, lines_of}
use Rattle.rb_script.specs.ScriptText.Statement.{RingOf, WorkerOf, TurnsOf}
use Rattle.rb_script.specs.Scripts.{WorkerText, worker_text, script_rings, script_workers, actors_of, MayStandBehind, AreInOrder, LinesSay, BeginsScript, IsScript, IsMadeOf, StandFor, IsFirstFault, IsFaultOf}
use Rattle.rb_script.specs.inner.ScriptRead.{MayFollowScript, MayAddLine, Adds, AddsLine, IsFaultUnless, HasRead}
use Rattle.rb_script.proofs.Keywords.{says-one}

-- ---- statements before and after a line

pub rings-append : (a b : List Statement) → script_rings (a ++ b) ≡ script_rings a ++ script_rings b
rings-append [] b = refl
rings-append (RingOf setup ∷ a) b = ap (λ l. setup ∷ l) (rings-append a b)
rings-append (WorkerOf program context ∷ a) b = rings-append a b
rings-append (TurnsOf actor count ∷ a) b = rings-append a b

next-number : (n : ℕ) (a : List Statement) (x : Statement) → n + 1 + length a ≡ n + length (x ∷ a)
next-number n a x = omega arith

pub workers-append : (n : ℕ) (a b : List Statement) → script_workers n (a ++ b) ≡ script_workers n a ++ script_workers (n + length a) b
workers-append n [] b = let same : n ≡ n + 0 = omega arith in ap (λ k. script_workers k b) same
workers-append n (RingOf setup ∷ a) b = workers-append (n + 1) a b ∙ ap (λ k. script_workers (n + 1) a ++ script_workers k b) (next-number n a (RingOf setup))
workers-append n (WorkerOf program context ∷ a) b =
    let worker : WorkerText = record { line = n; program = program; context = context } in
    ap (λ l. worker ∷ l) (workers-append (n + 1) a b ∙ ap (λ k. script_workers (n + 1) a ++ script_workers k b) (next-number n a (WorkerOf program context)))
workers-append n (TurnsOf actor count ∷ a) b = workers-append (n + 1) a b ∙ ap (λ k. script_workers (n + 1) a ++ script_workers k b) (next-number n a (TurnsOf actor count))

actors-append : (a b : List Statement) → actors_of (a ++ b) ≡ actors_of a ++ actors_of b
actors-append [] b = refl
actors-append (RingOf setup ∷ a) b = actors-append a b
actors-append (WorkerOf program context ∷ a) b = actors-append a b
actors-append (TurnsOf actor count ∷ a) b = ap (λ l. replicate count actor ++ l) (actors-append a b) ∙ sym (append_assoc (replicate count actor) (actors_of a) (actors_of b))

-- ---- the order

abbrev May : List Statement → Statement → Type 0
May front x = MayStandBehind (length (script_rings front)) (length (script_workers 1 front)) (length (actors_of front)) x

order-more : (front a : List Statement) (x : Statement) → AreInOrder front a → May (front ++ a) x → AreInOrder front (a ++ x ∷ [])
order-more front [] x h may = (subst (λ l. May l x) (append-nil front) may, tt)
order-more front (y ∷ a) x h may = (h.0, order-more (front ++ y ∷ []) a x h.1 (subst (λ l. May l x) (sym (append_assoc front (y ∷ []) a)) may))

order-last : (front a : List Statement) (x : Statement) → AreInOrder front (a ++ x ∷ []) → May (front ++ a) x
order-last front [] x h = subst (λ l. May l x) (sym (append-nil front)) h.0
order-last front (y ∷ a) x h = subst (λ l. May l x) (append_assoc front (y ∷ []) a) (order-last (front ++ y ∷ []) a x h.1)

order-front : (front a b : List Statement) → AreInOrder front (a ++ b) → AreInOrder front a
order-front front [] b h = tt
order-front front (y ∷ a) b h = (h.0, order-front (front ++ y ∷ []) a b h.1)

-- ---- lines and their statements

zip-long : (lines : List (List ℕ)) (said : List Statement) → AllZip Says lines said → length lines ≡ length said
zip-long [] [] h = refl
zip-long [] (y ∷ said) h = absurd h
zip-long (x ∷ lines) [] h = absurd h
zip-long (x ∷ lines) (y ∷ said) h = ap ℕ.suc (zip-long lines said h.1)

zip-more : (lines : List (List ℕ)) (said : List Statement) (line : List ℕ) (statement : Statement) → AllZip Says lines said → Says line statement → AllZip Says (lines ++ line ∷ []) (said ++ statement ∷ [])
zip-more [] [] line statement h says = (says, tt)
zip-more [] (y ∷ said) line statement h says = absurd h
zip-more (x ∷ lines) [] line statement h says = absurd h
zip-more (x ∷ lines) (y ∷ said) line statement h says = (h.0, zip-more lines said line statement h.1 says)

zip-front : (a b : List (List ℕ)) (said : List Statement) → AllZip Says (a ++ b) said → (front : List Statement) × (back : List Statement) × (said ≡ front ++ back) × AllZip Says a front × AllZip Says b back
zip-front [] b said h = ([], said, refl, tt, h)
zip-front (x ∷ a) b [] h = absurd h
zip-front (x ∷ a) b (y ∷ said) h = let (front, back, e, p, q) = zip-front a b said h.1 in (y ∷ front, back, ap (λ l. y ∷ l) e, (h.0, p), q)

pub zip-one : (lines : List (List ℕ)) (a b : List Statement) → AllZip Says lines a → AllZip Says lines b → a ≡ b
zip-one [] [] [] h k = refl
zip-one [] [] (y ∷ b) h k = absurd k
zip-one [] (x ∷ a) b h k = absurd h
zip-one (line ∷ lines) [] b h k = absurd h
zip-one (line ∷ lines) (x ∷ a) [] h k = absurd k
zip-one (line ∷ lines) (x ∷ a) (y ∷ b) h k = ap (λ z. z ∷ a) (says-one line x y h.0 k.0) ∙ ap (λ l. y ∷ l) (zip-one lines a b h.1 k.1)

only-one : (line : List ℕ) (back : List Statement) → AllZip Says (line ∷ []) back → (x : Statement) × (back ≡ x ∷ []) × Says line x
only-one line [] h = absurd h
only-one line (x ∷ []) h = (x, refl, h.0)
only-one line (x ∷ y ∷ back) h = absurd h.1

begins-front : (a b : List (List ℕ)) → BeginsScript (a ++ b) → BeginsScript a
begins-front a b (said, h) =
    let (front, back, e, p, q) = zip-front a b said h.says in
    (front, record { says = p; in_order = order-front [] front back (subst (AreInOrder []) e h.in_order) })

begins-take : (n : ℕ) (lines : List (List ℕ)) → BeginsScript lines → BeginsScript (take n lines)
begins-take n lines h = begins-front (take n lines) (drop n lines) (subst BeginsScript (sym (take-append-drop n lines)) h)

-- ---- the first line at fault is unique

script-begins : (lines : List (List ℕ)) → IsScript lines → BeginsScript lines
script-begins lines (said, begins, worker) = (said, begins)

script-no-fault : (lines : List (List ℕ)) (number : ℕ) → IsScript lines → IsFirstFault lines number → ⊥
script-no-fault lines number script (inl h) = h.3 (begins-take number lines (script-begins lines script))
script-no-fault lines number script (inr h) = h.2 script

no-later : (lines : List (List ℕ)) (m n : ℕ) → m < n → (BeginsScript (take m lines) → ⊥) → BeginsScript (take (n - 1) lines) → ⊥
no-later lines m n low none h = none (subst BeginsScript (take-take m (n - 1) lines (omega arith)) (begins-take m (take (n - 1) lines) h))

pub one-fault : (lines : List (List ℕ)) (m n : ℕ) → IsFirstFault lines m → IsFirstFault lines n → m ≡ n
one-fault lines m n (inl a) (inl b) = elim (cases_order m n) [
  | inl e ↦ e
  | inr (inl below) ↦ absurd (no-later lines m n below a.3 b.2)
  | inr (inr above) ↦ absurd (no-later lines n m above b.3 a.2)
]
one-fault lines m n (inl a) (inr b) = absurd (a.3 (begins-take m lines b.1))
one-fault lines m n (inr a) (inl b) = absurd (b.3 (begins-take n lines a.1))
one-fault lines m n (inr a) (inr b) = a.0 ∙ sym b.0

stands-script : (lines : List (List ℕ)) (s : Script) → StandFor lines s → 1 ≤ length s.workers.items → IsScript lines
stands-script lines s h worker =
    let same : length s.workers.items ≡ length (script_workers 1 h.said) = sym (length-map s.workers.items worker_text) ∙ ap length h.made.workers in
    (h.said, h.begins, subst (λ n. 1 ≤ n) same worker)

pub no-fault-of-script : (lines : List (List ℕ)) (s : Script) → StandFor lines s → 1 ≤ length s.workers.items → (line : ℕ) → IsFirstFault lines line → ⊥
no-fault-of-script lines s h worker line fault = script-no-fault lines line (stands-script lines s h worker) fault

pub no-script-of-fault : (lines : List (List ℕ)) (fault : ScriptFault) → IsFaultOf lines fault → IsScript lines → fault ≡ Memory
no-script-of-fault lines (Line line) h script = absurd (script-no-fault lines line script h)
no-script-of-fault lines Memory h script = refl

abbrev err : ScriptFault → Result Script ScriptFault
err fault = Err fault

pub only-fault : (lines : List (List ℕ)) (fault : ScriptFault) → IsFaultOf lines fault → (line : ℕ) → IsFirstFault lines line → (err fault ≡ err (Line line)) ⊎ (err fault ≡ err Memory)
only-fault lines (Line number) h line first = inl (ap (λ l. err (Line l)) (one-fault lines number line h first))
only-fault lines Memory h line first = inr refl

-- ---- one more line

may-same : (x : Statement) (a b c d e f : ℕ) → a ≡ d → b ≡ e → c ≡ f → MayStandBehind a b c x → MayStandBehind d e f x
may-same x a b c d e f p q r h = subst (λ n. MayStandBehind n e f x) p (subst (λ n. MayStandBehind a n f x) q (subst (λ n. MayStandBehind a b n x) r h))

module _ (said : List Statement) (s : Script) (made : IsMadeOf said s) (x : Statement) where
  worker-count : length s.workers.items ≡ length (script_workers 1 said)
  worker-count = sym (length-map s.workers.items worker_text) ∙ ap length made.workers

  may-said : MayFollowScript s x → May said x
  may-said may = may-same x _ _ _ _ _ _ (ap length made.rings) worker-count (ap length made.actors) may

  may-follow : May said x → MayFollowScript s x
  may-follow may = may-same x _ _ _ _ _ _ (sym (ap length made.rings)) (sym worker-count) (sym (ap length made.actors)) may

  made-more : (t : Script) → Adds (length said + 1) x s t → IsMadeOf (said ++ x ∷ []) t
  made-more t h = record {
    rings = h.rings ∙ (ap (λ l. l ++ script_rings (x ∷ [])) made.rings ∙ sym (rings-append said (x ∷ [])));
    workers =
        let number : length said + 1 ≡ 1 + length said = omega arith in
        h.workers ∙ (ap (λ l. l ++ script_workers (length said + 1) (x ∷ [])) made.workers ∙ (ap (λ n. script_workers 1 said ++ script_workers n (x ∷ [])) number ∙ sym (workers-append 1 said (x ∷ []))));
    actors = h.actors ∙ (ap (λ l. l ++ actors_of (x ∷ [])) made.actors ∙ sym (actors-append said (x ∷ [])));
  }

-- ---- reading

pub read-none : (text : List ℕ) (s : Script) → s.rings.items ≡ [] → s.workers.items ≡ [] → s.actors.items ≡ [] → HasRead text text 0 s
read-none text s rings workers actors = record {
  lines = [];
  said = [];
  parted = refl;
  counted = refl;
  begins = record { says = tt; in_order = tt };
  made = record { rings = rings; workers = ap (map worker_text) workers; actors = actors };
}

module _ (text rest : List ℕ) (number : ℕ) (s : Script) (read : HasRead text rest number s) (line behind : List ℕ) (cut : lines_of rest ≡ line ∷ lines_of behind) where
  parted-more : lines_of text ≡ (read.lines ++ line ∷ []) ++ lines_of behind
  parted-more = read.parted ∙ (ap (λ l. read.lines ++ l) cut ∙ sym (append_assoc read.lines (line ∷ []) (lines_of behind)))

  lines-more : length (read.lines ++ line ∷ []) ≡ number + 1
  lines-more = length-append read.lines (line ∷ []) ∙ ap (λ n. n + 1) read.counted

  pub read-more : (t : Script) → AddsLine (number + 1) line s t → HasRead text behind (number + 1) t
  read-more t (x, says, lawful) =
      let count : number ≡ length read.said = sym read.counted ∙ zip-long read.lines read.said read.begins.says in record {
        lines = read.lines ++ line ∷ [];
        said = read.said ++ x ∷ [];
        parted = parted-more;
        counted = lines-more;
        begins = record {
          says = zip-more read.lines read.said line x read.begins.says says;
          in_order = order-more [] read.said x read.begins.in_order (may-said read.said s read.made x lawful.may);
        };
        made = made-more read.said s read.made x t (subst (λ n. Adds (n + 1) x s t) count lawful.adds);
      }

  may-of-more : BeginsScript (read.lines ++ line ∷ []) → MayAddLine s line
  may-of-more (all, h) =
      let (front, back, e, p, q) = zip-front read.lines (line ∷ []) all h.says in
      let (x, only, says) = only-one line back q in
      let same : all ≡ read.said ++ x ∷ [] = e ∙ (ap (λ l. l ++ back) (zip-one read.lines front read.said p read.begins.says) ∙ ap (λ l. read.said ++ l) only) in
      (x, says, may-follow read.said s read.made x (order-last [] read.said x (subst (AreInOrder []) same h.in_order)))

  pub read-fault : (fault : ScriptFault) → IsFaultUnless (number + 1) (MayAddLine s line) fault → IsFaultOf (lines_of text) fault
  read-fault Memory h = tt
  read-fault (Line at) h =
      let front : take (at - 1) (lines_of text) ≡ read.lines = ap (take (at - 1)) (read.parted) ∙ take_at read.lines (lines_of rest) (at - 1) (let n = h.0 in let m = read.counted in omega arith) in
      let more : take at (lines_of text) ≡ read.lines ++ line ∷ [] = ap (take at) parted-more ∙ take_at (read.lines ++ line ∷ []) (lines_of behind) at (let n = h.0 in lines-more ∙ sym n) in
      let long : length (lines_of text) ≡ length (read.lines ++ line ∷ []) + length (lines_of behind) = ap length parted-more ∙ length-append (read.lines ++ line ∷ []) (lines_of behind) in
      let total = lines-more in
      let n = h.0 in
      inl (omega arith, omega arith, subst BeginsScript (sym front) (read.said, read.begins), λ begins. h.1 (may-of-more (subst BeginsScript more begins)))

module _ (text rest : List ℕ) (number : ℕ) (s : Script) (read : HasRead text rest number s) (done : rest ≡ []) where
  all-lines : lines_of text ≡ read.lines
  all-lines = read.parted ∙ (ap (λ l. read.lines ++ lines_of l) done ∙ append-nil read.lines)

  pub read-all : StandFor (lines_of text) s
  read-all = record { said = read.said; begins = subst (λ l. LinesSay l read.said) (sym all-lines) read.begins; made = read.made }

  pub no-worker : length s.workers.items ≡ 0 → IsFirstFault (lines_of text) (number + 1)
  no-worker none = inr (
    ap (λ n. n + 1) (sym (ap length all-lines ∙ read.counted)),
    (read.said, subst (λ l. LinesSay l read.said) (sym all-lines) read.begins),
    λ script.
        let (said, begins, worker) = script in
        let same : said ≡ read.said = zip-one (lines_of text) said read.said begins.says (subst (λ l. AllZip Says l read.said) (sym all-lines) read.begins.says) in
        let counts : length (script_workers 1 said) ≡ 0 = ap (λ l. length (script_workers 1 l)) same ∙ (sym (worker-count read.said s read.made (RingOf (record { size = 0; start = 0; room = 0 }))) ∙ none) in
        absurd (omega arith),
  )
