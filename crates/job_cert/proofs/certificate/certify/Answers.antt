use Rattle.std.proofs.Common.{sym, subst, Result}
use Rattle.job_base.specs.declared.finding.Finding.{Finding}
use Rattle.job_base.specs.declared.finding.Stop.{Stop}
use Rattle.job_cert.specs.Ends.{CertFound}
use Rattle.job_cert.specs.Made.{Request, wanted_of}
use Rattle.job_cert.proofs.Finds.{left_ends, beside_found}
use Rattle.job_cert.proofs.certificate.certify.Goals as goal

pub returns-in-Ok-clause-found : goal.returns-in-Ok-clause-found
returns-in-Ok-clause-found g c =
    let request : Request = wanted_of c.args.certification.now.wanted in
    let left = c.args.certification.now.left.now in
    let right = c.args.certification.now.right.now in
    let held = g.S.Shelf.held c.args.shelf.now in
    let before = g.S.Shelf.faults c.args.shelf.now in
    let middle = g.S.Shelf.faults c.load.new.shelf right in
    let now = g.S.Shelf.faults c.certify_with.new.shelf in
    beside_found held before now request left right c.in-Ok.a (g.S.Shelf.held c.load.new.shelf right) middle c.certify_with.result c.in-Ok.ensures.ok (c.load.ensures.keeps right) (c.load.ensures.later right) c.certify_with.ensures.found

pub returns-in-Err-clause-found : goal.returns-in-Err-clause-found
returns-in-Err-clause-found g c =
    let request : Request = wanted_of c.args.certification.now.wanted in
    let left = c.args.certification.now.left.now in
    let right = c.args.certification.now.right.now in
    let held = g.S.Shelf.held c.args.shelf.now in
    let before = g.S.Shelf.faults c.args.shelf.now in
    let now = g.S.Shelf.faults c.load.new.shelf in
    subst (λ (r : Result Finding Stop). CertFound held before now request left right r) (sym c.load_end.ensures) (left_ends held before now request left right c.in-Err.error c.in-Err.ensures.err)
