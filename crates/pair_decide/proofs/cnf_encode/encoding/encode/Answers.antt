use Rattle.std.proofs.Common.{◌≡◌, ◌/◌, ◌<◌, ◌^◌, ℕ, List, [], ◌++◌, length, ap, sym, subst, arith, ◌∙◌}
use Rattle.std.proofs.lemmas.Option.{slice_get_within}
use Rattle.proof_check.specs.Literals.{Literal}
use Rattle.aig.specs.declared.node.Node.{Node}
use Rattle.aig.specs.declared.cone_graph.Cones.{Cones}
use Rattle.aig.specs.Cone.{IsPlacedLit}
use Rattle.aig.specs.Graph.{IsOrdered}
use Rattle.pair_decide.specs.cnf_encode.Encoding.{part_clauses, query_clauses, AreClausesOf, Adds}
use Rattle.pair_decide.proofs.cnf_encode.Added.{Adds-join, Adds-all}
use Rattle.pair_decide.proofs.cnf_encode.Shown.{shown-exactly}
use Rattle.pair_decide.proofs.cnf_encode.Sized.{small-of}
use Rattle.pair_decide.proofs.cnf_encode.encoding.encode.Goals as goal

-- the two lists of clauses, one after the other
clauses-of : (cones : Cones) (part : List Node) (none old new : List (List Literal)) → part ≡ cones.part → none ≡ [] → Adds (part_clauses 0 part) none old → Adds (query_clauses cones.left.0 cones.right.0 cones.care.0) old new
    → AreClausesOf (part_clauses 0 cones.part ++ query_clauses cones.left.0 cones.right.0 cones.care.0) new
clauses-of cones part none old new e f first second =
    Adds-all (part_clauses 0 cones.part ++ query_clauses cones.left.0 cones.right.0 cones.care.0) none new f
    (Adds-join (part_clauses 0 cones.part) (query_clauses cones.left.0 cones.right.0 cones.care.0) none old new (subst (λ (p : List Node). Adds (part_clauses 0 p) none old) e first) second)

-- a literal of a place is small
placed-small : (nodes : List ℕ) (x y : ℕ) → IsPlacedLit nodes x y → length nodes < 2 ^ 30 → y / 2 < 2 ^ 30
placed-small nodes x y is few = omega (arith, slice_get_within nodes (y / 2) (x / 2) is.1, few)

pub put_part-requires-clause-few : goal.put_part-requires-clause-few
put_part-requires-clause-few c = omega (arith, ap length c.as_slice-part.ensures, c.in_ok-cones.ensures.part_is.each, c.in_ok-cones.ensures.few)

pub put_part-requires-clause-ordered : goal.put_part-requires-clause-ordered
put_part-requires-clause-ordered c = subst IsOrdered (sym c.as_slice-part.ensures) c.in_ok-cones.ensures.ordered

pub put_query-requires-clause-left : goal.put_query-requires-clause-left
put_query-requires-clause-left c = placed-small c.in_ok-cones.cones.nodes c.args.l.0 c.in_ok-cones.cones.left.0 c.in_ok-cones.ensures.left_is c.in_ok-cones.ensures.few

pub put_query-requires-clause-right : goal.put_query-requires-clause-right
put_query-requires-clause-right c = placed-small c.in_ok-cones.cones.nodes c.args.r.0 c.in_ok-cones.cones.right.0 c.in_ok-cones.ensures.right_is c.in_ok-cones.ensures.few

pub put_query-requires-clause-care : goal.put_query-requires-clause-care
put_query-requires-clause-care c = placed-small c.in_ok-cones.cones.nodes c.args.care.0 c.in_ok-cones.cones.care.0 c.in_ok-cones.ensures.care_is c.in_ok-cones.ensures.few

pub returns-clause-encoding : goal.returns-clause-encoding
returns-clause-encoding c =
    let are = clauses-of c.in_ok-cones.cones c.as_slice-part.result.now c.new-clauses.result c.put_part.new.clauses c.put_query.new.clauses c.as_slice-part.ensures c.new-clauses.ensures c.in_ok-put_part.ensures c.in_ok-put_query.ensures in
    record {
      nodes_are = c.in_ok-cones.ensures.nodes_are;
      variables_are = ap length c.as_slice-part.ensures ∙ c.in_ok-cones.ensures.part_is.each;
      part = c.in_ok-cones.cones.part;
      part_is = c.in_ok-cones.ensures.part_is;
      left_at = c.in_ok-cones.cones.left.0;
      right_at = c.in_ok-cones.cones.right.0;
      care_at = c.in_ok-cones.cones.care.0;
      left_is = c.in_ok-cones.ensures.left_is;
      right_is = c.in_ok-cones.ensures.right_is;
      care_is = c.in_ok-cones.ensures.care_is;
      clauses_are = are;
    }

pub returns-clause-meaning : goal.returns-clause-meaning
returns-clause-meaning c = λ v.
    let are = clauses-of c.in_ok-cones.cones c.as_slice-part.result.now c.new-clauses.result c.put_part.new.clauses c.put_query.new.clauses c.as_slice-part.ensures c.new-clauses.ensures c.in_ok-put_part.ensures c.in_ok-put_query.ensures in
    shown-exactly c.args.aig.now c.keeps.ensures.graph c.args.l.0 c.args.r.0 c.args.care.0 c.in_ok-cones.cones c.in_ok-cones.ensures v c.put_query.new.clauses are

pub returns-clause-small : goal.returns-clause-small
returns-clause-small c =
    let are = clauses-of c.in_ok-cones.cones c.as_slice-part.result.now c.new-clauses.result c.put_part.new.clauses c.put_query.new.clauses c.as_slice-part.ensures c.new-clauses.ensures c.in_ok-put_part.ensures c.in_ok-put_query.ensures in
    small-of (record { clauses = c.put_query.new.clauses; variables = length c.as_slice-part.result.now; nodes = c.in_ok-cones.cones.nodes }) c.in_ok-cones.cones.part c.args.l.0 c.args.r.0 c.args.care.0
    c.in_ok-cones.cones.left.0 c.in_ok-cones.cones.right.0 c.in_ok-cones.cones.care.0 (ap length c.as_slice-part.ensures) c.in_ok-cones.ensures.part_is.each c.in_ok-cones.ensures.few c.in_ok-cones.ensures.ordered
    c.in_ok-cones.ensures.left_is c.in_ok-cones.ensures.right_is c.in_ok-cones.ensures.care_is are
