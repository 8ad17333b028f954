-- Nothing is assumed.
use Rattle.std.proofs.Common.{◌≡◌, ℕ, ◌*◌, ◌<◌, Bool, None, length, sym, subst, arith}
use Rattle.circuit_theory.specs.Joined.{Either}
use Rattle.aig.specs.declared.node.Node.{Node}
use Rattle.aig.specs.Graph.{IsGraph}
use Rattle.aig.proofs.Insert.{graph-some}
use Rattle.circuit_laws.specs.reset_laws.Reset.{AgreeFromReset}
use Rattle.flat_net.specs.View.{NetView, circuit_of}
use Rattle.signal_refine.specs.declared.assumed.Assumed.{Assumed}
use Rattle.signal_refine.specs.declared.nets.SignalNets.{SignalNets}
use Rattle.signal_refine.specs.Assuming.{Always, IsMet}
use Rattle.signal_refine.proofs.Results.{ok_map}
use Rattle.signal_induct.specs.declared.induction.SignalInduction.{SignalInduction}
use Rattle.signal_induct.specs.Tied.{first_apart, AgreeFromResetWhere, IsInductionWhere, IsSignalInduction}
use Rattle.signal_induct.proofs.Everywhere.{always_met, stronger, agree_everywhere}
use Rattle.signal_induct.proofs.induction.induct_signals.Goals as goal

pub induct_where-requires-clause-assumed : goal.induct_where-requires-clause-assumed
induct_where-requires-clause-assumed c =
    let some = graph-some c.nothing_assumed-nothing.result.graph.now (subst IsGraph (sym c.nothing_assumed-nothing.ensures.graph) c.keeps.ensures.graph) in
    omega (arith, some, c.nothing_assumed-nothing.ensures.lit)

pub returns-clause-made : goal.returns-clause-made
returns-clause-made c =
    let a : NetView = c.args.a.now in
    let b : NetView = c.args.b.now in
    let w : Assumed = c.nothing_assumed-nothing.result in
    let nets : SignalNets = record { left = c.args.a; right = c.args.b; orders = c.args.orders } in
    let graph = subst IsGraph (sym c.nothing_assumed-nothing.ensures.graph) c.keeps.ensures.graph in
    ok_map (IsInductionWhere (IsMet w nets) a b) (IsSignalInduction a b) c.induct_where.result (λ made is. stronger (IsMet w nets) Always (λ x here. always_met w graph c.nothing_assumed-nothing.ensures.lit nets x) a b made is) c.induct_where.ensures.made

pub returns-clause-agree : goal.returns-clause-agree
returns-clause-agree c =
    let a : NetView = c.args.a.now in
    let b : NetView = c.args.b.now in
    let w : Assumed = c.nothing_assumed-nothing.result in
    let nets : SignalNets = record { left = c.args.a; right = c.args.b; orders = c.args.orders } in
    let graph = subst IsGraph (sym c.nothing_assumed-nothing.ensures.graph) c.keeps.ensures.graph in
    ok_map (λ (made : SignalInduction). first_apart made.pairs ≡ None → AgreeFromResetWhere (IsMet w nets) (circuit_of a) (circuit_of b)) (λ (made : SignalInduction). first_apart made.pairs ≡ None → AgreeFromReset (circuit_of a) (circuit_of b)) c.induct_where.result
    (λ made agree none. agree_everywhere (IsMet w nets) (λ x. always_met w graph c.nothing_assumed-nothing.ensures.lit nets x) a b (agree none)) c.induct_where.ensures.agree
