-- What an unfolder says that has unfolded nothing before.
use Rattle.std.proofs.Common.{◌≡◌, ◌∙◌, ◌<◌, ◌++◌, ◌∷◌, [], ℕ, List, length, sym, ap, subst, arith, rules}
use Rattle.circuit_theory.specs.Sizes.{IsWeight, IsOver}
use Rattle.flat_net.specs.View.{NetView, circuit_of}
use Rattle.cbf_unfold.specs.Unfolded.{IsUnfolded}
use Rattle.assume_queries.proofs.assume_functions.own.unfold_output.Goals as goal

pub unfold-requires : goal.unfold-requires
unfold-requires c = record {
  signal = subst (λ (n : NetView). c.args.output.0 < length n.drivers) (sym c.in_ok-unfolder.ensures.net) c.requires.output;
  fits = c.in_ok-unfolder.ensures.fits c.args.aig.now c.args.places.now;
  nodes = omega (arith, c.requires.nodes);
  entries = omega (arith, c.requires.entries);
}

pub returns-in_err-unfolded-clause-over : goal.returns-in_err-unfolded-clause-over
returns-in_err-unfolded-clause-over c = λ e.
    subst (λ (n : NetView). IsOver (circuit_of n) (c.args.output.0 ∷ []) 2000000) c.in_ok-unfolder.ensures.net
    (subst (λ (d : List ℕ). IsOver (circuit_of c.in_ok-unfolder.unfolder.net) (d ++ c.args.output.0 ∷ []) 2000000) c.in_ok-unfolder.ensures.none (c.unfold.ensures.over (search rules)))

pub returns-clause-unfolded : goal.returns-clause-unfolded
returns-clause-unfolded c =
    let w = c.unfold.new.self in
    let later = c.unfold.ensures.later in
    let r = c.in_ok-unfolded.unfolded in
    subst (λ (n : NetView). IsUnfolded n c.args.order.now c.unfold.new.aig c.unfold.new.places c.args.output.0 r.lit.0 r.vars) (later.net ∙ c.in_ok-unfolder.ensures.net)
    (subst (λ (o : List ℕ). IsUnfolded w.net o c.unfold.new.aig c.unfold.new.places c.args.output.0 r.lit.0 r.vars) (later.order ∙ c.in_ok-unfolder.ensures.order) c.in_ok-unfolded.ensures.unfolded)

pub returns-clause-weighed : goal.returns-clause-weighed
returns-clause-weighed c =
    let w = c.unfold.new.self in
    let later = c.unfold.ensures.later in
    let fits = c.in_ok-unfolded.ensures.fits in
    let s = c.args.output.0 in
    let done : w.done ≡ s ∷ [] = c.in_ok-unfolded.ensures.done ∙ ap (λ (d : List ℕ). d ++ s ∷ []) c.in_ok-unfolder.ensures.none in
    record {
      weight = w.weight;
      weighs = subst (λ (n : NetView). IsWeight (circuit_of n) (s ∷ []) w.weight) (later.net ∙ c.in_ok-unfolder.ensures.net) (subst (λ (d : List ℕ). IsWeight (circuit_of w.net) d w.weight) done fits.weighs);
      nodes = omega (arith, later.nodes, c.requires.nodes, c.in_ok-unfolder.ensures.weight);
      entries = omega (arith, later.entries, c.requires.entries, c.in_ok-unfolder.ensures.weight);
      light = fits.small;
    }
