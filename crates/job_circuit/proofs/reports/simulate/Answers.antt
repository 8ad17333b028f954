use Rattle.std.specs.Prelude.{ℕ, IfSome, option_map}
use Rattle.std.proofs.Common.{List, [], ◌∷◌, sym, subst, Option, Result}
use Rattle.base_shelves.specs.Outside.{Rose}
use Rattle.job_base.specs.declared.finding.Finding.{Finding}
use Rattle.job_base.specs.declared.finding.Stop.{Stop}
use Rattle.job_base.specs.sec_files.Stimuli.{IsStimulus}
use Rattle.job_base.specs.sec_files.job_files.Reading.{ReadFailed}
use Rattle.job_base.proofs.sec_files.job_files.Reading.{first_failed, is_loaded}
use Rattle.job_circuit.specs.Reports.{IsSimFound}
use Rattle.job_circuit.specs.Ends.{SimFound}
use Rattle.job_circuit.proofs.OneCircuit.{circuit_ends, sim_circuit, run_ends, stimulus_ends}
use Rattle.job_circuit.proofs.reports.simulate.Goals as goal

pub returns-in-Err-clause-found : goal.returns-in-Err-clause-found
returns-in-Err-clause-found g c =
    let circuit = c.args.simulation.now.circuit.now in
    let stimulus = c.args.simulation.now.stimulus.now in
    let mode = c.args.simulation.now.mode in
    let power = option_map (λ digits. digits.now) c.args.simulation.now.power in
    let reset = c.args.simulation.now.reset in
    let held = g.S.Shelf.held c.args.shelf.now in
    let before = g.S.Shelf.faults c.args.shelf.now in
    let now = g.S.Shelf.faults c.load.new.shelf in
    subst (λ (r : Result Finding Stop). SimFound held before now circuit stimulus mode power reset r) (sym c.load_end.ensures)
    (circuit_ends (IsSimFound mode (held circuit) (held stimulus) power reset) (ReadFailed held before now (circuit ∷ stimulus ∷ [])) (Rose (before circuit) (now circuit)) (held circuit) c.in-Err.error
    (sim_circuit mode (held circuit) (held stimulus) power) (first_failed held before now circuit (stimulus ∷ [])) c.in-Err.ensures.err)

pub returns-in-Err-load_stimulus-clause-found : goal.returns-in-Err-load_stimulus-clause-found
returns-in-Err-load_stimulus-clause-found g c =
    let circuit = c.args.simulation.now.circuit.now in
    let stimulus = c.args.simulation.now.stimulus.now in
    let mode = c.args.simulation.now.mode in
    let power = option_map (λ digits. digits.now) c.args.simulation.now.power in
    let reset = c.args.simulation.now.reset in
    let held = g.S.Shelf.held c.args.shelf.now in
    let before = g.S.Shelf.faults c.args.shelf.now in
    let now = g.S.Shelf.faults c.load_stimulus.new.shelf in
    subst (λ (r : Result Finding Stop). SimFound held before now circuit stimulus mode power reset r) (sym c.stimulus_end.ensures)
    (stimulus_ends held before now circuit stimulus mode power reset (g.S.Shelf.held c.load.new.shelf stimulus) (g.S.Shelf.faults c.load.new.shelf stimulus) c.in-Err-load_stimulus.error
    (is_loaded (held circuit) c.in-Ok.net c.in-Ok.ensures.ok) (c.load.ensures.keeps stimulus) (c.load.ensures.later stimulus) c.in-Err-load_stimulus.ensures.err)

pub returns-clause-found : goal.returns-clause-found
returns-clause-found g c =
    let circuit = c.args.simulation.now.circuit.now in
    let stimulus = c.args.simulation.now.stimulus.now in
    let mode = c.args.simulation.now.mode in
    let power = option_map (λ digits. digits.now) c.args.simulation.now.power in
    let reset = c.args.simulation.now.reset in
    let held = g.S.Shelf.held c.args.shelf.now in
    let before = g.S.Shelf.faults c.args.shelf.now in
    let now = g.S.Shelf.faults c.load_stimulus.new.shelf in
    let names = c.in-Ok-load_stimulus.stimulus.names in
    let rows = c.in-Ok-load_stimulus.stimulus.rows in
    let spells = subst (λ (o : Option (List ℕ)). IfSome o (λ y. IsStimulus y names rows)) (c.load.ensures.keeps stimulus) c.in-Ok-load_stimulus.ensures.ok in
    subst (λ (r : Result Finding Stop). SimFound held before now circuit stimulus mode power reset r) (sym c.sim_end.ensures)
    (run_ends mode (held circuit) (held stimulus) power reset (ReadFailed held before now (circuit ∷ stimulus ∷ [])) c.in-Ok.net names rows c.simulate-simulated.result c.in-Ok.ensures.ok spells c.simulate-simulated.ensures)
