-- The programs of a script's workers, in sequence.
use Rattle.std.proofs.Common.{◌≡◌, ◌<◌, ◌+◌, ◌⊎◌, ℕ, List, [], ◌∷◌, ◌++◌, length, map, take, drop, get_or, Result, Err, refl, sym, ap, subst, ◌∙◌, inl, inr}
use Rattle.std.specs.List.{AllZip}
use Rattle.std.proofs.lemmas.List.{take_more, take-append-drop, drop_more, map-append}
use Rattle.rb_verifier.specs.Subject.{Subject}
use Rattle.rb_script.specs.declared.script.ScriptWorker.{ScriptWorker}
use Rattle.rb_script.specs.declared.script_fault.ScriptFault.{ScriptFault}
use Rattle.rb_script.specs.declared.script_fault.ScriptFault.TheVariants.{Line, Memory}
use Rattle.rb_script.specs.Scripts.{WorkerText, worker_text}
use Rattle.rb_script.specs.Programs.{IsWorkersProgram, HasProgram, IsFirstRefused, IsProgramsFault}
use Rattle.rb_script.specs.inner.ScriptRead.{IsFaultUnless}

zip-more : (rings : ℕ) (workers : List WorkerText) (programs : List Subject) (worker : WorkerText) (subject : Subject) → AllZip (IsWorkersProgram rings) workers programs → IsWorkersProgram rings worker subject
    → AllZip (IsWorkersProgram rings) (workers ++ worker ∷ []) (programs ++ subject ∷ [])
zip-more rings [] [] worker subject h is = (is, tt)
zip-more rings [] (y ∷ programs) worker subject h is = absurd h
zip-more rings (x ∷ workers) [] worker subject h is = absurd h
zip-more rings (x ∷ workers) (y ∷ programs) worker subject h is = (h.0, zip-more rings workers programs worker subject h.1 is)

module _ (rings : ℕ) (workers : List ScriptWorker) (i : ℕ) (w : ScriptWorker) (is_at : w ≡ get_or workers i w) (low : i < length workers) (programs : List Subject)
    (so_far : AllZip (IsWorkersProgram rings) (map worker_text (take i workers)) programs) where
  pub programs-more : (subject : Subject) → IsWorkersProgram rings (worker_text w) subject → AllZip (IsWorkersProgram rings) (map worker_text (take (i + 1) workers)) (programs ++ subject ∷ [])
  programs-more subject is =
      let more : map worker_text (take (i + 1) workers) ≡ map worker_text (take i workers) ++ worker_text w ∷ [] =
      ap (map worker_text) (take_more workers i w low ∙ ap (λ x. take i workers ++ x ∷ []) (sym is_at)) ∙ map-append worker_text (take i workers) (w ∷ []) in
      subst (λ l. AllZip (IsWorkersProgram rings) l (programs ++ subject ∷ [])) (sym more) (zip-more rings (map worker_text (take i workers)) programs (worker_text w) subject so_far is)

  pub programs-fault : (fault : ScriptFault) → IsFaultUnless w.line (HasProgram rings (worker_text w)) fault → IsProgramsFault rings (map worker_text workers) fault
  programs-fault Memory h = tt
  programs-fault (Line line) h = record {
    front = map worker_text (take i workers);
    worker = worker_text w;
    behind = map worker_text (drop (i + 1) workers);
    parted =
        ap (map worker_text) (sym (take-append-drop i workers) ∙ ap (λ l. take i workers ++ l) (drop_more workers i w low ∙ ap (λ x. x ∷ drop (i + 1) workers) (sym is_at)))
        ∙ map-append worker_text (take i workers) (w ∷ drop (i + 1) workers);
    accepted = (programs, so_far);
    refused = h.1;
    line_is = sym h.0;
  }

-- as many programs as workers
pub programs-long : (rings : ℕ) (workers : List ScriptWorker) (programs : List Subject) → AllZip (IsWorkersProgram rings) (map worker_text workers) programs → length programs ≡ length workers
programs-long rings [] [] h = refl
programs-long rings [] (y ∷ programs) h = absurd h
programs-long rings (x ∷ workers) [] h = absurd h
programs-long rings (x ∷ workers) (y ∷ programs) h = ap ℕ.suc (programs-long rings workers programs h.1)

-- ---- the first worker that is refused is unique

module _ (rings : ℕ) where
  has-program : (worker : WorkerText) (front : List WorkerText) (programs : List Subject) → AllZip (IsWorkersProgram rings) (worker ∷ front) programs → HasProgram rings worker
  has-program worker front [] h = absurd h
  has-program worker front (subject ∷ programs) h = (subject, h.0)

  rest-programs : (worker : WorkerText) (front : List WorkerText) (programs : List Subject) → AllZip (IsWorkersProgram rings) (worker ∷ front) programs → (rest : List Subject) × AllZip (IsWorkersProgram rings) front rest
  rest-programs worker front [] h = absurd h
  rest-programs worker front (subject ∷ programs) h = (programs, h.1)

  accepted-all : (front : List WorkerText) (worker : WorkerText) (behind : List WorkerText) (programs : List Subject) → AllZip (IsWorkersProgram rings) (front ++ worker ∷ behind) programs → HasProgram rings worker
  accepted-all [] worker behind programs h = has-program worker behind programs h
  accepted-all (x ∷ front) worker behind [] h = absurd h
  accepted-all (x ∷ front) worker behind (subject ∷ programs) h = accepted-all front worker behind programs h.1

  same-worker : (v w : WorkerText) (b c f g : List WorkerText) (p q : List Subject) → f ++ v ∷ b ≡ g ++ w ∷ c → AllZip (IsWorkersProgram rings) f p → AllZip (IsWorkersProgram rings) g q
      → (HasProgram rings v → ⊥) → (HasProgram rings w → ⊥) → v ≡ w
  same-worker v w b c [] [] p q e h k a r = cc
  same-worker v w b c [] (y ∷ g) p q e h k a r = let same : v ≡ y = cc in absurd (a (subst (HasProgram rings) (sym same) (has-program y g q k)))
  same-worker v w b c (x ∷ f) [] p q e h k a r = let same : x ≡ w = cc in absurd (r (subst (HasProgram rings) same (has-program x f p h)))
  same-worker v w b c (x ∷ f) (y ∷ g) p q e h k a r =
      let (p', h') = rest-programs x f p h in
      let (q', k') = rest-programs y g q k in
      let tails : f ++ v ∷ b ≡ g ++ w ∷ c = cc in
      same-worker v w b c f g p' q' tails h' k' a r

  pub one-refused : (workers : List WorkerText) (l m : ℕ) → IsFirstRefused rings workers l → IsFirstRefused rings workers m → l ≡ m
  one-refused workers l m a b =
      let same : a.worker ≡ b.worker = same-worker a.worker b.worker a.behind b.behind a.front b.front a.accepted.0 b.accepted.0 (sym a.parted ∙ b.parted) a.accepted.1 b.accepted.1 a.refused b.refused in
      sym a.line_is ∙ (ap (λ (w : WorkerText). w.line) same ∙ b.line_is)

  pub none-refused : (workers : List WorkerText) (programs : List Subject) → AllZip (IsWorkersProgram rings) workers programs → (line : ℕ) → IsFirstRefused rings workers line → ⊥
  none-refused workers programs h line a = a.refused (accepted-all a.front a.worker a.behind programs (subst (λ l. AllZip (IsWorkersProgram rings) l programs) a.parted h))

  abbrev err : {T : Type 0} → ScriptFault → Result T ScriptFault
  err fault = Err fault

  pub only-refused : {T : Type 0} → (workers : List WorkerText) (fault : ScriptFault) → IsProgramsFault rings workers fault → (line : ℕ) → IsFirstRefused rings workers line → (err {T = T} fault ≡ err (Line line)) ⊎ (err {T = T} fault ≡ err Memory)
  only-refused {T = T} workers (Line number) h line first = inl (ap (λ l. err {T = T} (Line l)) (one-refused workers number line h first))
  only-refused {T = T} workers Memory h line first = inr refl
