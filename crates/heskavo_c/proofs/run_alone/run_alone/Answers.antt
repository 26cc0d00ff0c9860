use Rattle.std.proofs.Common.{◌≡◌, ◌∙◌, ◌∷◌, [], All, ap, length, replicate, subst, sym, refl, Err}
use Rattle.std.proofs.lemmas.List.{length-replicate}
use Rattle.rb_world.specs.declared.world_setup.WorkerSetup.{WorkerSetup}
use Rattle.rb_world.specs.OpenedWorlds.{IsOpenedWorld, MayOpen}
use Rattle.rb_world.specs.WorldValue.{IsThere}
use Rattle.rb_world.proofs.Openings.{length-opened}
use Rattle.heskavo_c.specs.Runs.{fresh_ring, turns_alone}
use Rattle.heskavo_c.proofs.RunEnd.{actors-there, may-open, memory-only, none-unknown}
use Rattle.heskavo_c.proofs.run_alone.run_alone.Goals as goal

-- the world has a ring for each setup
pub returns-clause-rings : goal.returns-clause-rings
returns-clause-rings c =
    let opened = c.in-Ok.ensures.opened in
    c.run.ensures.rings ∙ (ap length opened.rings_are ∙ (length-opened _ 0 _ ∙ (ap length (c.as_slice.ensures.value ∙ c.in_ok-setups.ensures) ∙ (length-replicate _ _ ∙ c.rings.ensures))))

pub want_of_memory-requires : goal.want_of_memory-requires
want_of_memory-requires c =
    let told = c.in-Err.ensures in
    let worker : WorkerSetup = record { program = c.args.program; context = c.args.context } in
    let rings : c.as_slice.result.now ≡ replicate c.args.program.now.rings (fresh_ring c.args.size) = c.as_slice.ensures.value ∙ c.in_ok-setups.ensures ∙ ap (λ n. replicate n (fresh_ring c.args.size)) c.rings.ensures in
    let may : MayOpen c.as_slice.result.now (worker ∷ []) = may-open c.args.program.now.rings c.args.size worker c.as_slice.result.now rings c.requires.size c.requires.context refl c.facts.ensures.rings in
    record { memory = memory-only c.as_slice.result.now (worker ∷ []) (Err c.in-Err.fault) c.in-Err.fault refl may told.ring told.context_length told.ring_count told.worker_count told.chapter }

pub unreachable-requires : goal.unreachable-requires
unreachable-requires c =
    let worker : WorkerSetup = record { program = c.args.program; context = c.args.context } in
    let rings : c.as_slice.result.now ≡ replicate c.args.program.now.rings (fresh_ring c.args.size) = c.as_slice.ensures.value ∙ c.in_ok-setups.ensures ∙ ap (λ n. replicate n (fresh_ring c.args.size)) c.rings.ensures in
    let opened : IsOpenedWorld c.as_slice.result.now (worker ∷ []) c.in-Ok.world = c.in-Ok.ensures.opened in
    let turns : c.as_slice-2.result.now ≡ turns_alone c.units.result c.args.program.now.rings = c.as_slice-2.ensures.value ∙ c.in_ok-turns.ensures ∙ ap (turns_alone c.units.result) c.rings-2.ensures in
    let there : All (IsThere c.in-Ok.world) c.as_slice-2.result.now =
    subst (All (IsThere c.in-Ok.world)) (sym turns) (actors-there c.units.result c.args.program.now.rings c.args.size worker c.as_slice.result.now c.in-Ok.world rings opened) in
    none-unknown c.in-Ok.world c.as_slice-2.result.now c.in-Err-UnknownActor.field-0-0 there ((c.in-Err-UnknownActor.ensures.unknown c.in-Err-UnknownActor.field-0-0).0 (ap Err c.in-Err-UnknownActor.field-0-is))
