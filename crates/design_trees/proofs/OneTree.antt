-- A tree has the numbers of names alone.
use Rattle.std.proofs.Common.{◌≡◌, ◌∙◌, ℕ, List, [], ◌∷◌, map, length, slice_get, Some, refl, sym, ap, subst}
use Rattle.std.specs.List.{Contains}
use Rattle.circuit_theory.specs.Circuit.{Circuit, Named}
use Rattle.circuit_theory.specs.Interface.{Ports, AreNumbersOf}
use Rattle.circuit_theory.specs.Tree.{Tree, Trees, Unfolds, UnfoldsAll, IsInputNumber, StandsBeside}
use Rattle.circuit_theory.proofs.Lists.{Contains-map, Contains-map_from, Contains-head, Contains-tail, map-map, at_of, of_at}
use Rattle.circuit_theory.proofs.Numbers.{slice_get-map, beside_at, at_beside, one_number}
use Rattle.circuit_theory.specs.Net.{IsNet}
use Rattle.circuit_laws.proofs.OneTree.{one_tree}
use Rattle.flat_net.specs.declared.parts.Port.{Port}
use Rattle.flat_net.specs.View.{NetView, named, circuit_of, ports_of, is_read}
use Rattle.net_assembly.specs.net_alike.Renumbered.{IsReadBy}
use Rattle.net_assembly.proofs.ReadBy.{read_to}
use Rattle.net_assembly.proofs.net_alike.Cutting.{filter_in, tree_forth}
use Rattle.net_assembly.proofs.net_alike.Carrying.{forth}
use Rattle.flatten.specs.OneNet.{AreOneNet}
use Rattle.design_trees.specs.OneTree.{AreNamedNumbers, TreesAreOne}

some_is : {X : Type 0} {x y : X} → Some x ≡ Some y → x ≡ y
some_is q = cc

module _ (a : NetView) (shared : List (List ℕ)) (left right others : List ℕ) (l : AreNamedNumbers a shared left) (r : AreNumbersOf (ports_of a).inputs shared right others) where
  abbrev inputs : List (Named ℕ)
  inputs = (circuit_of a).inputs

  name_at : (k : ℕ) (n : Named ℕ) → slice_get inputs k ≡ Some n → slice_get (ports_of a).inputs k ≡ Some n.name
  name_at k n at =
      subst (λ (ns : List (List ℕ)). slice_get ns k ≡ Some n.name) (map-map (λ (m : Named ℕ). m.name) named a.inputs) (slice_get-map (λ (m : Named ℕ). m.name) inputs k n at)

  -- the name of an input that is read stands among those that are
  read_name : (n : Named ℕ) → Contains inputs n → IsReadBy (circuit_of a) n.place → Contains (ports_of a).read n.name
  read_name n h read =
      let x = Contains-map_from named a.inputs n h in
      let read_there : IsReadBy (circuit_of a) x.0.signal.0 = subst (IsReadBy (circuit_of a)) (sym (ap (λ (m : Named ℕ). m.place) x.2)) read in
      let kept = filter_in (λ (port : Port). is_read a port.signal) a.inputs x.0 x.1 (read_to a x.0.signal.0 read_there) in
      subst (Contains (ports_of a).read) (ap (λ (m : Named ℕ). m.name) x.2) (Contains-map (λ (port : Port). port.name) _ x.0 kept)

  number_is : (p i : ℕ) → IsReadBy (circuit_of a) p → IsInputNumber (circuit_of a) left p i → IsInputNumber (circuit_of a) right p i
  number_is p i read h =
      let x = beside_at inputs left p i h in
      let n = x.1 in
      let read_here : IsReadBy (circuit_of a) n.place = subst (IsReadBy (circuit_of a)) (sym x.3) read in
      let j = at_of shared n.name (l.read n.name (read_name n (of_at inputs x.0 n x.2) read_here)) in
      let own = name_at x.0 n x.2 in
      let e : j.0 ≡ i = some_is (sym (l.numbers_are.common x.0 j.0 n.name own j.1) ∙ x.4) in
      let there : StandsBeside inputs right n.place j.0 = at_beside inputs right x.0 j.0 n x.2 (r.common x.0 j.0 n.name own j.1) in
      subst (λ (q : ℕ). StandsBeside inputs right q i) x.3 (subst (StandsBeside inputs right n.place) e there)

  mutual
    tree_by_names : {p k d : ℕ} {tree : Tree ℕ} → IsReadBy (circuit_of a) p → Unfolds (circuit_of a) left p k d tree → Unfolds (circuit_of a) right p k d tree
    tree_by_names read (Unfolds.input {p = p} {i = i} h) = Unfolds.input (number_is p i read h)
    tree_by_names read (Unfolds.gate {out = out} {fanins = fanins} {cover = cover} h each) =
        Unfolds.gate {fanins = fanins} {cover = cover} h (trees_by_names (λ q k. IsReadBy.by_gate {out = out} {fanins = fanins} {cover = cover} h k) each)
    tree_by_names read (Unfolds.port {out = out} {from = from} h rest) = Unfolds.port h (tree_by_names (IsReadBy.by_port {out = out} h) rest)
    tree_by_names read (Unfolds.latch {name = name} {out = out} {next = next} h rest) =
        Unfolds.latch {name = name} h (tree_by_names (IsReadBy.by_latch {name = name} {out = out} h) rest)

    trees_by_names : {ps : List ℕ} {k d : ℕ} {trees : Trees ℕ} → ((q : ℕ) → Contains ps q → IsReadBy (circuit_of a) q) → UnfoldsAll (circuit_of a) left ps k d trees → UnfoldsAll (circuit_of a) right ps k d trees
    trees_by_names read UnfoldsAll.none = UnfoldsAll.none
    trees_by_names read (UnfoldsAll.more {p = p} {ps = ps} one rest) =
        UnfoldsAll.more (tree_by_names (read p (Contains-head p ps)) one) (trees_by_names (λ q h. read q (Contains-tail p q ps h)) rest)

-- the circuit shows the place as an output of the name
abbrev pub IsShown : Circuit ℕ → List ℕ → ℕ → Type 0
IsShown c name p = Contains c.outputs (record { name = name; place = p })

pub have_one_tree : TreesAreOne
have_one_tree a b one shared left right l r p k d tree read h =
    let numbers : AreNumbersOf (ports_of a).inputs shared right r.others =
    subst (λ (ns : List (List ℕ)). AreNumbersOf ns shared right r.others) (sym (ap (λ (ports : Ports). ports.inputs) one.ports)) r.numbers_are in
    tree_forth (circuit_of a) (circuit_of b) one.to one.back one.circuits right (tree_by_names a shared left right r.others l numbers read h)

-- an output of a name has one tree in both nets, where the second has one of this name
module _ (a b : NetView) (one : AreOneNet a b) (net : IsNet (circuit_of b) (length b.drivers)) (name : List ℕ) (unique : (p q : ℕ) → IsShown (circuit_of b) name p → IsShown (circuit_of b) name q → p ≡ q)
    (shared : List (List ℕ)) (left right : List ℕ) (l : AreNamedNumbers a shared left) (r : AreNamedNumbers b shared right) where
  pub output_tree : (p q d e : ℕ) (s t : Tree ℕ) → IsShown (circuit_of a) name p → IsShown (circuit_of b) name q → Unfolds (circuit_of a) left p 0 d s → Unfolds (circuit_of b) right q 0 e t → s ≡ t
  output_tree p q d e s t here there u v =
      let place : one.to p ≡ q = unique (one.to p) q ((forth (circuit_of a) (circuit_of b) one.to one.back one.circuits).output name p here) there in
      let moved : Unfolds (circuit_of b) right (one.to p) 0 d s = have_one_tree a b one shared left right l r p 0 d s (IsReadBy.by_output {name = name} here) u in
      let own : Unfolds (circuit_of b) right q 0 d s = subst (λ (x : ℕ). Unfolds (circuit_of b) right x 0 d s) place moved in
      (one_tree (circuit_of b) right net.single (λ x i j h k. one_number (circuit_of b).inputs right net.inputs x i j h k) own v).0
