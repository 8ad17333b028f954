-- Both functions made anew.
use Rattle.std.proofs.Common.{◌≡◌, ℕ, List, sym, subst}
use Rattle.plain_asked.specs.Variables.{AreInOrder, IsMergeOf}
use Rattle.plain_asked.proofs.PairQueries.{in_order}
use Rattle.tree_graph.specs.Rooted.{entries}
use Rattle.job_cert.proofs.pair_clauses.Anew.{vars_within, vars_differ, numbered, left_anew, right_anew, entries_once}
use Rattle.job_cert.proofs.pair_clauses.Differing.{told, encoded}
use Rattle.job_cert.proofs.pair_clauses.Few.{clauses_few}
use Rattle.job_cert.proofs.pair_clauses.clauses.clauses_of_pair.Goals as goal

merge_of : (places : List (ℕ × ℕ)) (l r x y v w : List ℕ) → x ≡ l → y ≡ r → w ≡ v → IsMergeOf places x y v → IsMergeOf places l r w
merge_of places l r x y v w e f same h = subst (IsMergeOf places l r) (sym same) (subst (λ (z : List ℕ). IsMergeOf places z r v) e (subst (λ (z : List ℕ). IsMergeOf places x z v) f h))

pub merge_variables-requires-clause-left : goal.merge_variables-requires-clause-left
merge_variables-requires-clause-left c =
    let f = c.args.functions.now in
    subst (AreInOrder f.places) (sym c.as_slice.ensures) (in_order c.args.nets.now.left.now c.args.orders.now.left f.aig f.places c.args.pair.now.left.0 c.args.left.now c.requires.left)

pub merge_variables-requires-clause-right : goal.merge_variables-requires-clause-right
merge_variables-requires-clause-right c =
    let f = c.args.functions.now in
    subst (AreInOrder f.places) (sym c.as_slice-2.ensures) (in_order c.args.nets.now.right.now c.args.orders.now.right f.aig f.places c.args.pair.now.right.0 c.args.right.now c.requires.right)

pub graph_of_trees-requires-clause-within : goal.graph_of_trees-requires-clause-within
graph_of_trees-requires-clause-within c =
    let n = c.args.nets.now in
    let o = c.args.orders.now in
    let f = c.args.functions.now in
    let p = c.args.pair.now in
    let l = c.args.left.now in
    let r = c.args.right.now in
    let vars = c.as_slice-3.result.now in
    let merged = merge_of f.places l.vars r.vars c.as_slice.result.now c.as_slice-2.result.now c.in_ok-vars.vars vars c.as_slice.ensures c.as_slice-2.ensures c.as_slice-3.ensures c.in_ok-vars.ensures in
    vars_within n.left.now n.right.now o.left o.right f.aig f.places p.left.0 p.right.0 l r vars c.keeps-3.ensures.graph c.keeps-4.ensures c.keeps-3.ensures.values c.requires.left c.requires.right merged

pub graph_of_trees-requires-clause-differ : goal.graph_of_trees-requires-clause-differ
graph_of_trees-requires-clause-differ c =
    let n = c.args.nets.now in
    let o = c.args.orders.now in
    let f = c.args.functions.now in
    let p = c.args.pair.now in
    let l = c.args.left.now in
    let r = c.args.right.now in
    let vars = c.as_slice-3.result.now in
    let merged = merge_of f.places l.vars r.vars c.as_slice.result.now c.as_slice-2.result.now c.in_ok-vars.vars vars c.as_slice.ensures c.as_slice-2.ensures c.as_slice-3.ensures c.in_ok-vars.ensures in
    vars_differ n.left.now n.right.now o.left o.right f.aig f.places p.left.0 p.right.0 l r vars c.keeps-3.ensures.graph c.keeps-4.ensures c.keeps-3.ensures.values c.requires.left c.requires.right merged

pub returns-clause-encoded : goal.returns-clause-encoded
returns-clause-encoded c =
    let a = c.args.nets.now.left.now in
    let b = c.args.nets.now.right.now in
    let o = c.args.orders.now in
    let f = c.args.functions.now in
    let s = c.args.pair.now.left.0 in
    let t = c.args.pair.now.right.0 in
    let l = c.args.left.now in
    let r = c.args.right.now in
    let vars = c.as_slice-3.result.now in
    let k = c.keeps-3.ensures in
    let u = c.requires.left in
    let v = c.requires.right in
    let merged = merge_of f.places l.vars r.vars c.as_slice.result.now c.as_slice-2.result.now c.in_ok-vars.vars vars c.as_slice.ensures c.as_slice-2.ensures c.as_slice-3.ensures c.in_ok-vars.ensures in
    let g = c.in_ok-graph.graph in
    let made = c.in_ok-graph.ensures.graph u.tree v.tree (u.depth, u.unfolds) (v.depth, v.unfolds) in
    let once = entries_once a b o.left o.right f.aig f.places s t l r vars k.graph c.keeps-4.ensures k.values u v merged g.aig g.left.0 g.right.0 made in
    let left = left_anew a b o.left o.right f.aig f.places s t l r vars k.graph c.keeps-4.ensures k.values u v merged g.aig g.left.0 g.right.0 made c.in_ok-graph.ensures.left in
    let right = right_anew a b o.left o.right f.aig f.places s t l r vars k.graph c.keeps-4.ensures k.values u v merged g.aig g.left.0 g.right.0 made c.in_ok-graph.ensures.right in
    let by_trees = numbered a b o.left o.right f.aig f.places s t l r vars k.graph c.keeps-4.ensures k.values u v merged g.aig g.left.0 g.right.0 made in
    encoded a b o.left o.right g.aig (entries f.places vars) s t g.left.0 g.right.0 c.keeps.ensures.net c.keeps-2.ensures.net c.keeps-5.ensures.graph once c.keeps-5.ensures.values left right c.in_ok-cnf.cnf c.in_ok-cnf.ensures.meaning
    by_trees c.in_ok-cnf.ensures.encoding

pub returns-clause-tell : goal.returns-clause-tell
returns-clause-tell c =
    let a = c.args.nets.now.left.now in
    let b = c.args.nets.now.right.now in
    let o = c.args.orders.now in
    let f = c.args.functions.now in
    let s = c.args.pair.now.left.0 in
    let t = c.args.pair.now.right.0 in
    let l = c.args.left.now in
    let r = c.args.right.now in
    let vars = c.as_slice-3.result.now in
    let k = c.keeps-3.ensures in
    let u = c.requires.left in
    let v = c.requires.right in
    let merged = merge_of f.places l.vars r.vars c.as_slice.result.now c.as_slice-2.result.now c.in_ok-vars.vars vars c.as_slice.ensures c.as_slice-2.ensures c.as_slice-3.ensures c.in_ok-vars.ensures in
    let g = c.in_ok-graph.graph in
    let made = c.in_ok-graph.ensures.graph u.tree v.tree (u.depth, u.unfolds) (v.depth, v.unfolds) in
    let once = entries_once a b o.left o.right f.aig f.places s t l r vars k.graph c.keeps-4.ensures k.values u v merged g.aig g.left.0 g.right.0 made in
    let left = left_anew a b o.left o.right f.aig f.places s t l r vars k.graph c.keeps-4.ensures k.values u v merged g.aig g.left.0 g.right.0 made c.in_ok-graph.ensures.left in
    let right = right_anew a b o.left o.right f.aig f.places s t l r vars k.graph c.keeps-4.ensures k.values u v merged g.aig g.left.0 g.right.0 made c.in_ok-graph.ensures.right in
    let few = clauses_few g.aig g.left.0 g.right.0 c.in_ok-cnf.cnf c.keeps-5.ensures.graph c.in_ok-graph.ensures.left c.in_ok-graph.ensures.right c.in_ok-graph.ensures.few c.in_ok-cnf.ensures.encoding c.in_ok-cnf.ensures.small in
    told a b o.left o.right g.aig (entries f.places vars) s t g.left.0 g.right.0 c.keeps.ensures.net c.keeps-2.ensures.net c.keeps-5.ensures.graph once c.keeps-5.ensures.values left right c.in_ok-cnf.cnf c.in_ok-cnf.ensures.meaning
    c.in_ok-cnf.ensures.small few
