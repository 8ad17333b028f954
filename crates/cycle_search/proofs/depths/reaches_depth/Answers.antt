-- A signal has one depth, or none.
use Rattle.std.proofs.Common.{◌≡◌, true, false, suc, arith}
use Rattle.std.proofs.lemmas.Bool.{leb-true, le-leb}
use Rattle.circuit_theory.specs.declared.Mode.TheVariants.{Plain}
use Rattle.latch_graph.proofs.Skipping.{mode_depth, mode_no_depth}
use Rattle.cycle_search.proofs.depths.reaches_depth.Goals as goal

pub returns-in-Some : goal.returns-in-Some
returns-in-Some c =
    let n = c.args.net.now in
    let d = c.in-Some.depth in
    let own = mode_depth Plain n c.args.graph.now c.requires.graph c.args.s.0 d (c.in-Some.ensures.depth n c.requires.graph.graph) in (
      λ e. (d, own, leb-true d c.args.cycle e),
      λ h. le-leb d c.args.cycle (let k = h.1.greatest d own.reached in omega (arith, k, h.2)),
    )

pub returns-in-None : goal.returns-in-None
returns-in-None c =
    let n = c.args.net.now in
    let endless = mode_no_depth Plain n c.args.graph.now c.requires.graph c.args.s.0 (c.in-None.ensures.none n c.requires.graph.graph) in (
      λ e. absurd (let q : false ≡ true = e in cc),
      λ h. absurd (let k = h.1.greatest (suc h.0) (endless (suc h.0)) in omega (arith, k)),
    )
