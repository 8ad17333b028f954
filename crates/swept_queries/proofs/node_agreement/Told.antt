-- What an answer over a part of a graph tells of the graph.
use Rattle.std.proofs.Common.{◌≡◌, ◌≢◌, ℕ, ◌<◌, Bool, false, List, length, get_or, Option, Some, None, sym, ◌∙◌, ap, subst, arith}
use Rattle.std.specs.Prelude.{Contains, IfSome}
use Rattle.std.specs.List.{AllPairs}
use Rattle.std.proofs.lemmas.Option.{slice_get-get_or, slice_get_within}
use Rattle.circuit_theory.proofs.Lists.{at_of}
use Rattle.aig.specs.declared.node.Node.{Node}
use Rattle.aig.specs.declared.node.Node.TheVariants.{Input}
use Rattle.aig.specs.Graph.{IsGraph}
use Rattle.aig.specs.Values.{value}
use Rattle.aig.proofs.Meaning.{value-node}
use Rattle.aig.specs.lane_eval.Tables as table
use Rattle.aig.specs.lane_eval.Tables.{assigned_to}
use Rattle.aig.proofs.CoverMeaning.{value-one}
use Rattle.aig.proofs.lane_eval.Numbered.{assigned_to-at}
use Rattle.aig.specs.lane_eval.root_classes.Agreeing.{Agree}
use Rattle.aig.specs.lane_eval.root_classes.Inputs.{inputs_of}
use Rattle.aig.proofs.lane_eval.root_classes.Assigned.{inputs-distinct, value-same}
use Rattle.sweep_candidates.specs.declared.models.Model.{Model}
use Rattle.swept_queries.specs.declared.node_agreement.question.Tried.{Tried}
use Rattle.swept_queries.specs.declared.node_agreement.question.Tried.TheVariants as tried
use Rattle.swept_queries.specs.node_agreement.Standing.{StandsFor, by_nodes}
use Rattle.swept_queries.specs.node_agreement.Answers.{DifferAt, IsAnswer, IsModelOf, IsToldOf}

-- what holds of what is there, if something is
pub IfSome-then : {T : Type 0} (o : Option T) (P Q : T → Type 0) → ((x : T) → P x → Q x) → IfSome o P → IfSome o Q
IfSome-then (Some x) P Q f h = f x h
IfSome-then None P Q f h = tt

module _ (g small : List Node) (graph : IsGraph g) (part : IsGraph small) (x k left right care : ℕ) (one : StandsFor (by_nodes g) g small x left) (other : StandsFor (by_nodes g) g small k right) (holds : StandsFor (by_nodes g) g small 1 care) where
  -- what agrees in the small graph under a care that always holds does so in the graph
  agree-there : table.Agree small left right care → Agree g x k
  agree-there agree a = sym (one.same a) ∙ agree (by_nodes g a) (holds.same a ∙ value-one g graph a) ∙ other.same a

  module _ (nodes : List ℕ) (bits : List Bool) (are : nodes ≡ inputs_of small) (each : length bits ≡ length nodes) (m : Model) (is : IsModelOf g nodes bits m) where
    vars-distinct : AllPairs (λ u v. u ≢ v) m.vars.items
    vars-distinct i j d below inside = λ e.
        let first : i < length m.vars.items = omega (arith, below, inside) in
        let at = is.are i (get_or nodes i 0) (get_or m.vars.items i d) (slice_get-get_or nodes i 0 (omega (arith, first, is.each))) (slice_get-get_or m.vars.items i d first) in
        let there = is.are j (get_or nodes j 0) (get_or m.vars.items j d) (slice_get-get_or nodes j 0 (omega (arith, inside, is.each))) (slice_get-get_or m.vars.items j d inside) in
        let same : get_or nodes i 0 ≡ get_or nodes j 0 =
        graph.once (get_or nodes i 0) (get_or nodes j 0) (Input (get_or m.vars.items i d)) at (there ∙ ap (λ (u : ℕ). Some (Input u)) (sym e)) in
        inputs-distinct small part nodes are i j 0 below (omega (arith, inside, is.each)) same

    -- a variable of the small graph has its node's value
    by-node : (n : ℕ) → Contains (inputs_of small) n → by_nodes g (assigned_to m.vars.items m.bits.items) n ≡ assigned_to nodes bits n
    by-node n has =
        let p = at_of nodes n (subst (λ (ns : List ℕ). Contains ns n) (sym are) has) in
        let within : p.0 < length m.vars.items = omega (arith, slice_get_within nodes p.0 n p.1, is.each) in
        let here = slice_get-get_or m.vars.items p.0 0 within in
        let size : length m.bits.items ≡ length m.vars.items = ap length is.same ∙ each ∙ sym is.each in
        value-node g graph.ordered n (Input (get_or m.vars.items p.0 0)) (assigned_to m.vars.items m.bits.items) (is.are p.0 n (get_or m.vars.items p.0 0) p.1 here)
        ∙ sym (assigned_to-at m.vars.items m.bits.items vars-distinct size p.0 (get_or m.vars.items p.0 0) here)
        ∙ ap (λ (bs : List Bool). get_or bs p.0 false) is.same
        ∙ assigned_to-at nodes bits (inputs-distinct small part nodes are) each p.0 n p.1

    small-value : (y : ℕ) → value small (by_nodes g (assigned_to m.vars.items m.bits.items)) y ≡ value small (assigned_to nodes bits) y
    small-value y = value-same (by_nodes g (assigned_to m.vars.items m.bits.items)) (assigned_to nodes bits) small by-node y

    -- what differs there does so here, under a model
    differ-there : DifferAt small left right nodes bits → DifferAt g x k m.vars.items m.bits.items
    differ-there apart = λ e.
        apart (sym (small-value left) ∙ one.same (assigned_to m.vars.items m.bits.items) ∙ e ∙ sym (other.same (assigned_to m.vars.items m.bits.items)) ∙ small-value right)

  pub answer-told : (t : Tried) → IsAnswer small left right care t → IsToldOf g x k t
  answer-told (tried.Same cost) agree = agree-there agree
  answer-told (tried.Differs nodes bits) (are, each, apart) = λ m is. differ-there nodes bits are each m is apart
  answer-told tried.Limit nothing = tt
  answer-told tried.Open nothing = tt
