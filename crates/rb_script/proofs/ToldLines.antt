-- Which line `sim` reports.
use Rattle.std.proofs.Common.{Bool, ◌≡◌, ◌+◌, ◌⊎◌, ℕ, List, [], ◌∷◌, length, map, Result, Ok, Err, refl, sym, ap, subst, ◌∙◌, inl, inr, arith}
use Rattle.std.specs.Prelude.{Option, Some, None, IfErr, IfSome}
use Rattle.std.specs.Io.KnownBytes.{Appends, Keeps}
use Rattle.std.proofs.lemmas.List.{length-append, length-map}
use Rattle.rb_world.specs.declared.world_setup.RingSetup.{RingSetup}
use Rattle.rb_json.specs.declared.form.LineForm.{LineForm}
use Rattle.rb_script.specs.declared.script.Script.{Script}
use Rattle.rb_script.specs.Programs.{IsFirstRefused}
use Rattle.rb_script.specs.ScriptText.{lines_of}
use Rattle.rb_script.specs.Scripts.{WorkerText, IsFirstFault, StandFor, HasWorker, script_rings, script_workers, worker_text}
use Rattle.rb_script.specs.Simulation.{Simulates, BreaksOff}
use Rattle.rb_script.proofs.ScriptParts.{zip-one, one-fault, no-fault-of-script}
use Rattle.rb_script.proofs.WorkerPrograms.{one-refused, none-refused}
use Rattle.rb_script.specs.declared.sim_command.SimFault.{SimFault}
use Rattle.rb_script.specs.declared.sim_command.SimFault.TheVariants.{Line, Memory, Device}
use Rattle.rb_script.specs.Simulated.{IsRefusedScript, IsSimFaultOf, IsTold, BreaksOffSim}

abbrev pub err : SimFault → Result (Unit {0}) SimFault
err fault = Err fault

-- a script of the same lines has the same rings and workers
refused-too : (text : List ℕ) (s : Script) → StandFor (lines_of text) s → (line : ℕ) → IsRefusedScript text line → IsFirstRefused (length s.rings.items) (map worker_text s.workers.items) line
refused-too text s stands line told =
    let same : told.stands.said ≡ stands.said = zip-one (lines_of text) told.stands.said stands.said told.stands.begins.says stands.begins.says in
    let rings : told.script.rings.items ≡ s.rings.items = told.stands.made.rings ∙ (ap script_rings same ∙ sym stands.made.rings) in
    let workers : map worker_text told.script.workers.items ≡ map worker_text s.workers.items = told.stands.made.workers ∙ (ap (script_workers 1) same ∙ sym stands.made.workers) in
    subst (λ (ws : List WorkerText). IsFirstRefused (length s.rings.items) ws line) workers (subst (λ (l : List RingSetup). IsFirstRefused (length l) (map worker_text told.script.workers.items) line) rings told.first)

has-worker : (s : Script) (rings line : ℕ) → IsFirstRefused rings (map worker_text s.workers.items) line → HasWorker s
has-worker s rings line first =
    let long : length s.workers.items ≡ length first.front + length (first.worker ∷ first.behind) = sym (length-map s.workers.items worker_text) ∙ (ap length first.parted ∙ length-append first.front (first.worker ∷ first.behind)) in
    omega arith

module _ (text : List ℕ) where
  -- a line at fault was reported
  pub told-fault : (l : ℕ) → IsFirstFault (lines_of text) l → (line : ℕ) → IsSimFaultOf text (Line line) → IsTold line (err (Line l))
  told-fault l fault line (inl first) = inl (ap (λ n. err (Line n)) (one-fault (lines_of text) l line fault first))
  told-fault l fault line (inr told) = absurd (no-fault-of-script (lines_of text) told.script told.stands (has-worker told.script (length told.script.rings.items) line told.first) l fault)

  module _ (s : Script) (stands : StandFor (lines_of text) s) (worker : HasWorker s) where
    -- the line of a refused program was reported
    pub told-refused : (l : ℕ) → IsFirstRefused (length s.rings.items) (map worker_text s.workers.items) l → (line : ℕ) → IsSimFaultOf text (Line line) → IsTold line (err (Line l))
    told-refused l refused line (inl first) = absurd (no-fault-of-script (lines_of text) s stands worker line first)
    told-refused l refused line (inr told) = inl (ap (λ n. err (Line n)) (one-refused (length s.rings.items) (map worker_text s.workers.items) l line refused (refused-too text s stands line told)))

    -- no line of a script that was run is at fault
    pub none-told : (form : LineForm) (draw : Bool) (before after ends : List ℕ) → Simulates form draw s before after ends → (line : ℕ) → IsSimFaultOf text (Line line) → ⊥
    none-told form draw before after ends ran line (inl first) = no-fault-of-script (lines_of text) s stands worker line first
    none-told form draw before after ends ran line (inr told) = none-refused (length s.rings.items) (map worker_text s.workers.items) ran.programs ran.accepted line (refused-too text s stands line told)

  -- memory ran out
  pub broken-off : (form : LineForm) (draw : Bool) (s : Script) → StandFor (lines_of text) s → (none turns lent : List ℕ) (before after : Option (List ℕ)) → none ≡ [] → BreaksOff form draw s none turns → lent ≡ turns → Appends before after lent → BreaksOffSim form draw text before after
  broken-off form draw s stands none turns lent before after empty broken same printed = inr (record {
    script = s;
    turns = turns;
    stands = stands;
    broken_off = subst (λ old. BreaksOff form draw s old turns) empty broken;
    turns_printed = subst (Appends before after) same printed;
  })

pub keeps-all : (known : Option (List ℕ)) → Keeps known known
keeps-all None = tt
keeps-all (Some xs) = refl

-- the fault is one of memory or of the device
pub told-else : (line : ℕ) (fault : SimFault) → (fault ≡ Memory) ⊎ (fault ≡ Device) → IsTold line (err fault)
told-else line fault (inl is) = inr (inl (ap err is))
told-else line fault (inr is) = inr (inr (ap err is))

pub device-only : (r : Result (Unit {0}) SimFault) → IfErr r (λ fault. fault ≡ Device) → r ≡ err Memory → ⊥
device-only (Ok done) device is = cc
device-only (Err fault) device is = let same : fault ≡ Memory = cc in let other : Memory ≡ Device = sym same ∙ device in cc

pub else-fault : (text : List ℕ) (fault : SimFault) → (fault ≡ Memory) ⊎ (fault ≡ Device) → IsSimFaultOf text fault
else-fault text (Line line) (inl is) = absurd (cc)
else-fault text (Line line) (inr is) = absurd (cc)
else-fault text Memory is = tt
else-fault text Device is = tt

pub no-line : (fault : SimFault) (line : ℕ) → (fault ≡ Memory) ⊎ (fault ≡ Device) → err fault ≡ err (Line line) → ⊥
no-line fault line (inl is) told = let same : fault ≡ Line line = cc in let other : Memory ≡ Line line = sym is ∙ same in cc
no-line fault line (inr is) told = let same : fault ≡ Line line = cc in let other : Device ≡ Line line = sym is ∙ same in cc

-- what holds for every text, and for the one that was read
pub for-every : (known : Option (List ℕ)) (P : List ℕ → Type 0) → ((text : List ℕ) → P text) → IfSome known P
for-every None P h = tt
for-every (Some text) P h = h text

pub for-read : (known : Option (List ℕ)) (P : List ℕ → Type 0) (bytes lent : List ℕ) → lent ≡ bytes → IfSome known (λ text. bytes ≡ text) → P lent → IfSome known P
for-read None P bytes lent same is h = tt
for-read (Some text) P bytes lent same is h = subst P (same ∙ is) h
