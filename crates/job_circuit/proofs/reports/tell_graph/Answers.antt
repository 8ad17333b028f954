use Rattle.std.proofs.Common.{[], ◌∷◌, sym, subst, Result}
use Rattle.base_shelves.specs.Outside.{Rose}
use Rattle.job_base.specs.declared.finding.Finding.{Finding}
use Rattle.job_base.specs.declared.finding.Stop.{Stop}
use Rattle.job_base.specs.sec_files.job_files.Reading.{ReadFailed}
use Rattle.job_base.proofs.sec_files.job_files.Reading.{first_failed}
use Rattle.job_circuit.specs.Reports.{IsGraphFound}
use Rattle.job_circuit.specs.Ends.{GraphFound}
use Rattle.job_circuit.proofs.OneCircuit.{circuit_ends, graph_circuit, graph_ends}
use Rattle.job_circuit.proofs.reports.tell_graph.Goals as goal

pub returns-in-Err-clause-found : goal.returns-in-Err-clause-found
returns-in-Err-clause-found g c =
    let path = c.args.circuit.now in
    let mode = c.args.mode in
    let held = g.S.Shelf.held c.args.shelf.now in
    let before = g.S.Shelf.faults c.args.shelf.now in
    let now = g.S.Shelf.faults c.load.new.shelf in
    subst (λ (r : Result Finding Stop). GraphFound held before now path mode r) (sym c.load_end.ensures)
    (circuit_ends (IsGraphFound mode (held path)) (ReadFailed held before now (path ∷ [])) (Rose (before path) (now path)) (held path) c.in-Err.error
    (graph_circuit mode (held path)) (first_failed held before now path []) c.in-Err.ensures.err)

pub returns-clause-found : goal.returns-clause-found
returns-clause-found g c =
    let path = c.args.circuit.now in
    let mode = c.args.mode in
    let held = g.S.Shelf.held c.args.shelf.now in
    let before = g.S.Shelf.faults c.args.shelf.now in
    let now = g.S.Shelf.faults c.load.new.shelf in
    subst (λ (r : Result Finding Stop). GraphFound held before now path mode r) (sym c.graph_end.ensures)
    (graph_ends mode (held path) (ReadFailed held before now (path ∷ [])) c.in-Ok.net c.tell-told.result c.in-Ok.ensures.ok c.tell-told.ensures)
