-- The variables of an event graph by the places of their event nodes, in a table that has grown.
use Rattle.std.proofs.Common.{◌≡◌, ◌∙◌, ℕ, ◌<◌, ◌≤◌, Bool, List, [], length, get_or, slice_get, Some, sym, ap, subst, arith}
use Rattle.std.specs.List.{AllPairs}
use Rattle.std.proofs.lemmas.Option.{slice_get-get_or, get_or_from_slice_get}
use Rattle.circuit_theory.specs.Query.{Variable}
use Rattle.circuit_theory.proofs.Lists.{map_at}
use Rattle.circuit_theory.proofs.Numbers.{slice_get-map}
use Rattle.circuit_theory.specs.Frame.{NodeBefore}
use Rattle.flat_net.proofs.Places.{All-at}
use Rattle.circuit_laws.specs.reset_laws.Reset.{CycleBefore}
use Rattle.aig.specs.Builds.{TakesBits}
use Rattle.cbf_unfold.specs.unfold_places.Reach.{Adds}
use Rattle.cbf_unfold.proofs.unfold_places.Lists.{adds_at}
use Rattle.cbf_unfold.specs.shift_variables.Variables.{variable_of}
use Rattle.cbf_unfold.proofs.shift_variables.Reading.{pair_is}
use Rattle.cbf_unfold.specs.shift_variables.query_places.Places.{place_of}
use Rattle.edbf_unfold.specs.Laws.{TakesFrame}
use Rattle.event_nodes.specs.Nodes.{EventGraphView, IsEventGraph, path_of}
use Rattle.event_nodes.specs.event_variables.Variables as event_variables
use Rattle.event_nodes.proofs.event_variables.NodePaths.{variable_is}
use Rattle.event_under.specs.Asked.{variable_in}
use Rattle.event_nodes.specs.event_variables.ranked_nodes.Ranks.{AreRanked}
use Rattle.event_nodes.specs.declared.event_variables.ranked_nodes.ranks.RankedNodes.{RankedNodes}
use Rattle.event_nodes.specs.event_variables.ranked_nodes.Named.{ranked_in, path_at, named_ranks}
use Rattle.event_under.proofs.event_asked_under.Paths.{rank, path_rank, before_lower}

module _ (w : EventGraphView) (is : IsEventGraph w) (r : RankedNodes) (k : AreRanked w.children r) (table : List (ℕ × ℕ)) (adds : Adds (λ p. Unit {0}) (ranked_in r.ranks.items w.places) table) where
  abbrev pub at_rank : ℕ → List ℕ
  at_rank = path_at w.children r.nodes

  abbrev pub named : List (ℕ × List ℕ)
  named = named_ranks w.children r.nodes table

  -- the entry of a variable of the event graph, with its node
  pub entry : (v : ℕ) (p : ℕ × ℕ) → slice_get w.places v ≡ Some p → slice_get table v ≡ Some (p.0, rank w.children r k p.1)
  entry v p at = adds_at (λ q. Unit {0}) (ranked_in r.ranks.items w.places) table v (p.0, rank w.children r k p.1) adds (slice_get-map (λ (q : ℕ × ℕ). (q.0, get_or r.ranks.items q.1 0)) w.places v p at)

  pub placed : (v : ℕ) (p : ℕ × ℕ) → slice_get w.places v ≡ Some p → p.1 ≤ length w.children
  placed v p at = All-at (λ (q : ℕ × ℕ). q.1 ≤ length w.children) w.places v p at is.placed

  -- each entry by its path
  pub named_entry : (v : ℕ) (p : ℕ × ℕ) → slice_get table v ≡ Some p → slice_get named v ≡ Some (p.0, at_rank p.1)
  named_entry v p at = slice_get-map (λ (q : ℕ × ℕ). (q.0, at_rank q.1)) table v p at

  pub variable_named : (v : ℕ) (p : ℕ × ℕ) → slice_get table v ≡ Some p → variable_in named v ≡ record { input = p.0; at = at_rank p.1 }
  variable_named v p at = let e = get_or_from_slice_get named v (p.0, at_rank p.1) (0, []) (named_entry v p at) in λ i. record { input = (e i).0; at = (e i).1 }

  -- what stands there by its number
  pub entry_in : (v : ℕ) → v < length w.places → (p : ℕ × ℕ) × (slice_get w.places v ≡ Some p)
  entry_in v below = (get_or w.places v (0, 0), slice_get-get_or w.places v (0, 0) below)

  -- the place of a variable is that of its node
  pub node_there : (v : ℕ) → v < length w.places → at_rank (place_of table v) ≡ (event_variables.variable_of w v).at
  node_there v below =
      let p = entry_in v below in
      ap at_rank (ap (λ (x : Variable ℕ). x.at) (pair_is table v (p.0.0, rank w.children r k p.0.1) (entry v p.0 p.1)))
      ∙ (path_rank w.children r k p.0.1 (placed v p.0 p.1) ∙ sym (ap (λ (x : Variable (List ℕ)). x.at) (variable_is w is v p.0 p.1)))

  -- and by its path it is the variable that it was
  pub same_variable : (v : ℕ) → v < length w.places → variable_in named v ≡ event_variables.variable_of w v
  same_variable v below =
      let p = entry_in v below in
      let path = path_rank w.children r k p.0.1 (placed v p.0 p.1) in
      variable_named v (p.0.0, rank w.children r k p.0.1) (entry v p.0 p.1) ∙ ((λ i. record { input = p.0.0; at = path i }) ∙ sym (variable_is w is v p.0 p.1))

  pub same_input : (v : ℕ) → v < length w.places → (variable_of table v).input ≡ (event_variables.variable_of w v).input
  same_input v below =
      let p = entry_in v below in
      ap (λ (x : Variable ℕ). x.input) (pair_is table v (p.0.0, rank w.children r k p.0.1) (entry v p.0 p.1)) ∙ sym (ap (λ (x : Variable (List ℕ)). x.input) (variable_is w is v p.0 p.1))

  -- the assignment of bits at paths is one of bits at places, and of the event graph's variables
  pub takes_ranks : (bits : ℕ → List ℕ → Bool) (a : ℕ → Bool) → TakesBits named bits a → TakesBits table (λ i j. bits i (at_rank j)) a
  takes_ranks bits a takes v p at = takes v (p.0, at_rank p.1) (named_entry v p at)

  pub takes_events : (bits : ℕ → List ℕ → Bool) (a : ℕ → Bool) → TakesBits named bits a → TakesFrame w bits a
  takes_events bits a takes v z at =
      let p = map_at (λ (q : ℕ × ℕ). (q.0, path_of w.children q.1)) w.places v z at in
      let path = path_rank w.children r k p.0.1 (placed v p.0 p.1) in
      takes v (p.0.0, at_rank (rank w.children r k p.0.1)) (named_entry v (p.0.0, rank w.children r k p.0.1) (entry v p.0 p.1))
      ∙ (ap (bits p.0.0) path ∙ ap (λ (q : ℕ × List ℕ). bits q.0 q.1) p.2)

  -- variables in order are in the order of cycles
  pub in_cycles : (u v : ℕ) → u < length w.places → v < length w.places → event_variables.GoesBefore w u v → CycleBefore (variable_of table u) (variable_of table v)
  in_cycles u v inside also goes =
      let p = entry_in u inside in
      let q = entry_in v also in
      let first = pair_is table u (p.0.0, rank w.children r k p.0.1) (entry u p.0 p.1) in
      let second = pair_is table v (q.0.0, rank w.children r k q.0.1) (entry v q.0 q.1) in
      let before : NodeBefore (record { input = p.0.0; at = path_of w.children p.0.1 }) (record { input = q.0.0; at = path_of w.children q.0.1 }) =
      subst (λ (y : Variable (List ℕ)). NodeBefore (record { input = p.0.0; at = path_of w.children p.0.1 }) y) (variable_is w is v q.0 q.1)
      (subst (λ (x : Variable (List ℕ)). NodeBefore x (event_variables.variable_of w v)) (variable_is w is u p.0 p.1) goes) in
      let made = before_lower w.children r k p.0.1 q.0.1 p.0.0 q.0.0 (placed u p.0 p.1) (placed v q.0 q.1) before in
      subst (λ (y : Variable ℕ). CycleBefore (variable_of table u) y) (sym second) (subst (λ (x : Variable ℕ). CycleBefore x (record { input = q.0.0; at = rank w.children r k q.0.1 })) (sym first) made)

  pub all_in_cycles : (vars : List ℕ) → event_variables.AreInOrder w vars → AllPairs (λ u v. CycleBefore (variable_of table u) (variable_of table v)) vars
  all_in_cycles vars are i j d below inside = in_cycles (get_or vars i d) (get_or vars j d) (are.within i d (omega (arith, below, inside))) (are.within j d inside) (are.ordered i j d below inside)
