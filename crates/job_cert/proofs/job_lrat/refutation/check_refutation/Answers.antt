use Rattle.std.specs.Prelude.{ℕ, IfSome}
use Rattle.std.proofs.Common.{List, sym, subst, Option, Result}
use Rattle.job_base.specs.declared.finding.Finding.{Finding}
use Rattle.job_base.specs.declared.finding.Stop.{Stop}
use Rattle.job_cert.specs.job_lrat.Texts.{Refutes}
use Rattle.job_cert.specs.job_lrat.Found.{LratReadFailed}
use Rattle.job_cert.specs.job_lrat.Ends.{LratFound}
use Rattle.job_cert.proofs.job_lrat.Checking.{clauses_end, proof_end, verified_ends}
use Rattle.job_cert.proofs.job_lrat.refutation.check_refutation.Goals as goal

pub returns-in-Err-clause-found : goal.returns-in-Err-clause-found
returns-in-Err-clause-found g c =
    let clauses = c.args.refutation.now.clauses.now in
    let proof = c.args.refutation.now.proof.now in
    let held = g.S.Shelf.held c.args.shelf.now in
    let before = g.S.Shelf.faults c.args.shelf.now in
    let now = g.S.Shelf.faults c.load_clauses.new.shelf in
    subst (λ (r : Result Finding Stop). LratFound held before now clauses proof r) (sym c.text_end.ensures) (clauses_end held before now clauses proof c.in-Err.error c.in-Err.ensures.err)

pub returns-in-Ok-check_file-clause-found : goal.returns-in-Ok-check_file-clause-found
returns-in-Ok-check_file-clause-found g c =
    let clauses = c.args.refutation.now.clauses.now in
    let proof = c.args.refutation.now.proof.now in
    let held = g.S.Shelf.held c.args.shelf.now in
    let before = g.S.Shelf.faults c.args.shelf.now in
    let now = g.S.Shelf.faults c.check_file.new.shelf in
    let formula = c.in-Ok.formula in
    let line = c.in-Ok-check_file.field-0.lines in
    let accepted = subst (λ (o : Option (List ℕ)). IfSome o (λ y. Refutes formula y line)) (c.load_clauses.ensures.keeps proof) c.in-Ok-check_file.ensures.ok in
    subst (λ (r : Result Finding Stop). LratFound held before now clauses proof r) (sym c.verified_end.ensures)
    (verified_ends (held clauses) (held proof) (LratReadFailed held before now clauses proof) formula line c.verified_report.result c.in-Ok.ensures.ok accepted c.in-Ok-check_file.ensures.refuted c.verified_report.ensures)

pub returns-clause-found : goal.returns-clause-found
returns-clause-found g c =
    let clauses = c.args.refutation.now.clauses.now in
    let proof = c.args.refutation.now.proof.now in
    let held = g.S.Shelf.held c.args.shelf.now in
    let before = g.S.Shelf.faults c.args.shelf.now in
    let now = g.S.Shelf.faults c.check_file.new.shelf in
    subst (λ (r : Result Finding Stop). LratFound held before now clauses proof r) (sym c.text_end-in-Err-check_file.ensures)
    (proof_end held before now clauses proof c.in-Ok.formula (g.S.Shelf.held c.load_clauses.new.shelf proof) (g.S.Shelf.faults c.load_clauses.new.shelf proof) c.in-Err-check_file.error
    c.in-Ok.ensures.ok (c.load_clauses.ensures.keeps proof) (c.load_clauses.ensures.later proof) c.in-Err-check_file.ensures.err)
