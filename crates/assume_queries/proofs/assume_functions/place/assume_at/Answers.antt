-- The copy of the function has the numbers of the place.
use Rattle.std.proofs.Common.{◌≡◌, ◌∙◌, ◌+◌, ◌^◌, ◌<◌, ◌≤◌, ℕ, List, map, length, get_or, sym, ap, subst, arith}
use Rattle.std.specs.List.{All}
use Rattle.std.proofs.lemmas.Option.{slice_get_within}
use Rattle.aig.specs.declared.node.Node.TheVariants.{Constant}
use Rattle.aig.specs.Graph.{vars_of}
use Rattle.aig.proofs.Growth.{Grows-refl}
use Rattle.aig.specs.graph_copy.Copy.{IsCopyOf}
use Rattle.assume_queries.proofs.assume_functions.Assumed.{assumed_there, vars_within}
use Rattle.assume_queries.proofs.assume_functions.place.assume_at.Goals as goal

pub numbers_at-requires-clause-own : goal.numbers_at-requires-clause-own
numbers_at-requires-clause-own c = let w = c.requires.own.3.weighed in omega (arith, w.entries, w.light)

pub copy_into-requires : goal.copy_into-requires
copy_into-requires c =
    let own = c.args.own.now in
    let w = c.requires.own.3.weighed in
    record {
      literal = c.requires.own.3.unfolded.within;
      covers = subst (λ (ns : List ℕ). vars_of own.aig ≤ length ns) (sym c.as_slice.ensures.value) c.in_ok-numbers.ensures.covers;
      small = subst (λ (ns : List ℕ). All (λ v. v + 1 < 2 ^ 32) ns) (sym c.as_slice.ensures.value) c.in_ok-numbers.ensures.small;
      room = omega (arith, c.requires.nodes, w.nodes, w.light);
    }

pub picked-requires : goal.picked-requires
picked-requires c =
    let own = c.args.own.now in
    let r = c.requires.own in
    subst (λ (vs : List ℕ). All (λ v. v < length c.as_slice-3.result.now) vs) (sym c.as_slice-2.ensures)
    (vars_within r.0 r.1 r.2 own r.3 (length c.as_slice-3.result.now) (omega (arith, c.in_ok-numbers.ensures.each, ap length c.as_slice-3.ensures.value)))

pub returns-in_err-numbers-clause-grows : goal.returns-in_err-numbers-clause-grows
returns-in_err-numbers-clause-grows c = Grows-refl c.args.aig.now

pub returns-in_err-numbers-clause-nodes : goal.returns-in_err-numbers-clause-nodes
returns-in_err-numbers-clause-nodes c = omega (arith, slice_get_within c.args.own.now.aig 0 Constant c.keeps.ensures.graph.constant)

pub returns-clause-assumed : goal.returns-clause-assumed
returns-clause-assumed c = λ n order s is gates.
    let own = c.args.own.now in
    let numbers = c.in_ok-numbers.numbers.items in
    let copy = subst (λ (ns : List ℕ). IsCopyOf own.aig ns c.copy_into.new.aig own.function.lit.0 c.in_ok-lit.lit.0) c.as_slice.ensures.value c.in_ok-lit.ensures.copy in
    let vars : c.in_ok-vars.vars ≡ map (λ v. get_or numbers v 0) own.function.vars =
    c.in_ok-vars.ensures ∙ ap (λ (vs : List ℕ). map (λ v. get_or c.as_slice-3.result.now v 0) vs) c.as_slice-2.ensures ∙ ap (λ (ns : List ℕ). map (λ v. get_or ns v 0) own.function.vars) c.as_slice-3.ensures.value in
    assumed_there n order s own is gates c.keeps.ensures.graph c.keeps-2.ensures c.keeps.ensures.values c.args.place c.numbers_at.new.places numbers c.in_ok-numbers.ensures.each c.in_ok-numbers.ensures.numbers c.copy_into.new.aig
    (record { lit = c.in_ok-lit.lit; vars = c.in_ok-vars.vars }) copy vars
