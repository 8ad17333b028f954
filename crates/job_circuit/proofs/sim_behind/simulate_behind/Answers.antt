-- One of the files isn't loaded, those before it being so; or all are, and the circuit is run.
use Rattle.std.specs.Prelude.{IfSome, option_map}
use Rattle.std.proofs.Common.{◌≡◌, ◌∙◌, ◌≤◌, ℕ, List, sym, subst, arith, Option, Result}
use Rattle.job_base.specs.sec_files.Stimuli.{IsStimulus}
use Rattle.job_base.specs.declared.finding.Finding.{Finding}
use Rattle.job_base.specs.declared.finding.Stop.{Stop}
use Rattle.job_base.proofs.sec_files.job_files.Loading.{later_stimulus}
use Rattle.job_base.proofs.sec_files.job_files.Reading.{is_loaded}
use Rattle.job_circuit.specs.SimBehind.{SimBehindFound}
use Rattle.job_circuit.proofs.SimBehindFinds.{is_spelled, no_circuit, no_rows, no_stimulus, behind_ends}
use Rattle.job_circuit.proofs.sim_behind.simulate_behind.Goals as goal

grown : (a b c : ℕ) → a ≤ b → b ≤ c → a ≤ c
grown a b c p q = omega (arith, p, q)

pub returns-in-Err-clause-found : goal.returns-in-Err-clause-found
returns-in-Err-clause-found g c =
    let s = c.args.simulation.now in
    let held = g.S.Shelf.held c.args.shelf.now in
    let first = g.S.Shelf.faults c.args.shelf.now in
    let now = g.S.Shelf.faults c.load.new.shelf in
    let power = option_map (λ digits. digits.now) s.power in
    subst (λ (r : Result Finding Stop). SimBehindFound held first now s.circuit.now s.before.now s.stimulus.now power r) (sym c.load_end.ensures)
    (no_circuit held first now s.circuit.now s.before.now s.stimulus.now power c.in-Err.error c.in-Err.ensures.err)

pub returns-in-Err-load_stimulus-clause-found : goal.returns-in-Err-load_stimulus-clause-found
returns-in-Err-load_stimulus-clause-found g c =
    let s = c.args.simulation.now in
    let rows = s.before.now in
    let held = g.S.Shelf.held c.args.shelf.now in
    let first = g.S.Shelf.faults c.args.shelf.now in
    let middle = g.S.Shelf.faults c.load.new.shelf in
    let now = g.S.Shelf.faults c.load_stimulus.new.shelf in
    let power = option_map (λ digits. digits.now) s.power in
    subst (λ (r : Result Finding Stop). SimBehindFound held first now s.circuit.now rows s.stimulus.now power r) (sym c.stimulus_end.ensures)
    (no_rows held first now s.circuit.now rows s.stimulus.now power (is_loaded (held s.circuit.now) c.in-Ok.net c.in-Ok.ensures.ok) c.in-Err-load_stimulus.error
    (later_stimulus (g.S.Shelf.held c.load.new.shelf rows) (held rows) (first rows) (middle rows) (now rows) c.in-Err-load_stimulus.error (c.load.ensures.keeps rows) (c.load.ensures.later rows) c.in-Err-load_stimulus.ensures.err))

pub returns-in-Err-load_stimulus-2-clause-found : goal.returns-in-Err-load_stimulus-2-clause-found
returns-in-Err-load_stimulus-2-clause-found g c =
    let s = c.args.simulation.now in
    let path = s.stimulus.now in
    let held = g.S.Shelf.held c.args.shelf.now in
    let first = g.S.Shelf.faults c.args.shelf.now in
    let middle = g.S.Shelf.faults c.load.new.shelf in
    let last = g.S.Shelf.faults c.load_stimulus.new.shelf in
    let now = g.S.Shelf.faults c.load_stimulus-2.new.shelf in
    let power = option_map (λ digits. digits.now) s.power in
    let names = c.in-Ok-load_stimulus.before.names in
    let rows = c.in-Ok-load_stimulus.before.rows in
    let begins = subst (λ (o : Option (List ℕ)). IfSome o (λ y. IsStimulus y names rows)) (c.load.ensures.keeps s.before.now) c.in-Ok-load_stimulus.ensures.ok in
    subst (λ (r : Result Finding Stop). SimBehindFound held first now s.circuit.now s.before.now path power r) (sym c.stimulus_end-in-Err-load_stimulus-2.ensures)
    (no_stimulus held first now s.circuit.now s.before.now path power (is_loaded (held s.circuit.now) c.in-Ok.net c.in-Ok.ensures.ok) (is_spelled (held s.before.now) names rows begins) c.in-Err-load_stimulus-2.error
    (later_stimulus (g.S.Shelf.held c.load_stimulus.new.shelf path) (held path) (first path) (last path) (now path) c.in-Err-load_stimulus-2.error (c.load_stimulus.ensures.keeps path ∙ c.load.ensures.keeps path)
    (grown (first path) (middle path) (last path) (c.load.ensures.later path) (c.load_stimulus.ensures.later path)) c.in-Err-load_stimulus-2.ensures.err))

pub returns-clause-found : goal.returns-clause-found
returns-clause-found g c =
    let s = c.args.simulation.now in
    let held = g.S.Shelf.held c.args.shelf.now in
    let first = g.S.Shelf.faults c.args.shelf.now in
    let now = g.S.Shelf.faults c.load_stimulus-2.new.shelf in
    let power = option_map (λ digits. digits.now) s.power in
    let b = c.in-Ok-load_stimulus.before in
    let t = c.in-Ok-load_stimulus-2.stimulus in
    let begins = subst (λ (o : Option (List ℕ)). IfSome o (λ y. IsStimulus y b.names b.rows)) (c.load.ensures.keeps s.before.now) c.in-Ok-load_stimulus.ensures.ok in
    let spells = subst (λ (o : Option (List ℕ)). IfSome o (λ y. IsStimulus y t.names t.rows)) (c.load_stimulus.ensures.keeps s.stimulus.now ∙ c.load.ensures.keeps s.stimulus.now) c.in-Ok-load_stimulus-2.ensures.ok in
    subst (λ (r : Result Finding Stop). SimBehindFound held first now s.circuit.now s.before.now s.stimulus.now power r) (sym c.sim_end.ensures)
    (behind_ends held first now s.circuit.now s.before.now s.stimulus.now power c.in-Ok.net b.names b.rows t.names t.rows c.run_behind-simulated.result c.in-Ok.ensures.ok begins spells c.run_behind-simulated.ensures)
