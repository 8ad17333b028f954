-- A model shows a difference; clauses that are refuted show none.
use Rattle.std.proofs.Common.{◌≡◌, ℕ, ◌<◌, Bool, List, length, sym, subst}
use Rattle.std.specs.List.{All}
use Rattle.aig.specs.declared.node.Node.{Node}
use Rattle.sat_search.specs.Found.{IsFound, assignment_of}
use Rattle.sat_search.specs.declared.outcome.Found.TheVariants as found
use Rattle.pair_decide.specs.Reading.{AreInputBits}
use Rattle.pair_decide.proofs.Searched.{cone-within, found-difference, refuted-same}
use Rattle.pair_decide.proofs.search.decide_by_search.Goals as goal

pub bits_of_vars-requires-clause-within : goal.bits_of_vars-requires-clause-within
bits_of_vars-requires-clause-within c =
    subst (λ (nodes : List ℕ). All (λ n. n < length c.args.aig.now) nodes) (sym c.as_slice-nodes.ensures) (cone-within c.args.aig.now c.keeps.ensures.graph c.args.query.now c.requires.query c.in_ok-cnf.cnf.nodes c.in_ok-cnf.ensures.encoding.nodes_are)

-- the bits that are read are those of the cones' nodes
read-at : (g : List Node) (nodes nodes' : List ℕ) (values values' : List Bool) (vars vars' : List ℕ) (bits : List Bool) → nodes' ≡ nodes → values' ≡ values → vars' ≡ vars → AreInputBits g nodes' values' vars' bits → AreInputBits g nodes values vars bits
read-at g nodes nodes' values values' vars vars' bits e f h are =
    subst (λ (ns : List ℕ). AreInputBits g ns values vars bits) e (subst (λ (vs : List Bool). AreInputBits g nodes' vs vars bits) f (subst (λ (us : List ℕ). AreInputBits g nodes' values' us bits) h are))

pub returns-in_ok-bits-in-Model : goal.returns-in_ok-bits-in-Model
returns-in_ok-bits-in-Model c =
    let is : IsFound c.in_ok-cnf.cnf.clauses c.in_ok-cnf.cnf.variables c.args.conflicts (found.Model c.in-Model.values) = subst (IsFound c.in_ok-cnf.cnf.clauses c.in_ok-cnf.cnf.variables c.args.conflicts) c.in-Model.is c.in_ok-values.ensures in
    found-difference c.args.aig.now c.keeps.ensures.graph c.args.query.now c.requires.query c.in_ok-cnf.cnf.nodes c.in_ok-cnf.ensures.encoding.nodes_are c.in-Model.values
    ((c.in_ok-cnf.ensures.meaning (assignment_of c.in-Model.values)).0 is.1) c.in_ok-bits-in-Model.bits
    (read-at c.args.aig.now c.in_ok-cnf.cnf.nodes c.as_slice-nodes.result.now c.in-Model.values c.as_slice.result.now c.args.query.now.vars c.as_slice-vars.result.now c.in_ok-bits-in-Model.bits c.as_slice-nodes.ensures c.as_slice.ensures c.as_slice-vars.ensures c.in_ok-bits-in-Model.ensures)
    c.requires.wide

pub returns-in_ok-check-in-Refuted : goal.returns-in_ok-check-in-Refuted
returns-in_ok-check-in-Refuted c =
    let is : IsFound c.in_ok-cnf.cnf.clauses c.in_ok-cnf.cnf.variables c.args.conflicts (found.Refuted c.in-Refuted.log) = subst (IsFound c.in_ok-cnf.cnf.clauses c.in_ok-cnf.cnf.variables c.args.conflicts) c.in-Refuted.is c.in_ok-values.ensures in (
      record { wide = c.requires.wide; encoding = c.in_ok-cnf.ensures.encoding; refutation = c.in_ok-check-in-Refuted.ensures.refutes; few = is.1 },
      refuted-same c.args.aig.now c.keeps.ensures.graph c.args.query.now c.requires.query c.in_ok-cnf.cnf c.in_ok-cnf.ensures.meaning c.in_ok-check-in-Refuted.ensures.unsatisfiable,
    )
