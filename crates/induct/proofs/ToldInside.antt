-- Each variable that is told is that of a shared input or of a block.
use Rattle.std.proofs.Common.{◌≡◌, ◌∙◌, ◌⊎◌, ℕ, ◌+◌, ◌-◌, ◌<◌, ◌≤◌, List, [], ◌∷◌, length, map, slice_get, Option, Some, None, option_and_then, refl, sym, ap, subst, arith, inl, inr}
use Rattle.std.specs.List.{All, AllZip, Contains}
use Rattle.std.proofs.lemmas.Bool.Decides.{nat_tests}
use Rattle.std.proofs.lemmas.Option.{slice_get_within, same_Some}
use Rattle.circuit_theory.specs.Circuit.{Reaches}
use Rattle.circuit_theory.specs.Interface.{shared_inputs, first_mismatch}
use Rattle.circuit_theory.specs.Joined.{Left, Right}
use Rattle.circuit_theory.proofs.Lists.{All-from_each, Contains-head, Contains-tail, Contains-map_from, at_of, of_at}
use Rattle.circuit_theory.proofs.Numbers.{slice_get-map}
use Rattle.flat_net.specs.declared.parts.Port.{Port}
use Rattle.flat_net.specs.declared.parts.Driver.{Driver}
use Rattle.flat_net.specs.declared.parts.Driver.TheVariants as driver
use Rattle.flat_net.specs.Sound.{IsSound}
use Rattle.flat_net.specs.View.{circuit_of, ports_of}
use Rattle.flat_net.proofs.Places.{All-at}
use Rattle.sec_setup.proofs.ports.Paired.{place_named-from}
use Rattle.sec_setup.proofs.ports.Shared.{are_matched}
use Rattle.block_refine.specs.latch_blocks.Blocks.{block_at}
use Rattle.block_refine.specs.latch_blocks.Signals.{variable_of, IsLeaf}
use Rattle.block_refine.specs.declared.block_graph.nets.BlockNets.{BlockNets}
use Rattle.block_refine.specs.declared.block_graph.graph.BlockGraph.{BlockGraph}
use Rattle.block_refine.specs.block_graph.Graph.{IsBlockGraph}
use Rattle.induct.specs.declared.block_outputs.answer.Shown.{Shown}
use Rattle.induct.specs.declared.block_outputs.answer.OutputAnswer.{OutputAnswer}
use Rattle.induct.specs.declared.block_outputs.answer.OutputAnswer.TheVariants as answer
use Rattle.induct.specs.declared.block_outputs.outputs.OutputPair.{OutputPair}
use Rattle.induct.specs.block_outputs.Answers.{IsAnswer, IsOutputAnswer, IsShown}
use Rattle.induct.specs.Inductions.{AreOwnNumbers, variable_told, first_limit, first_shown, shown_or, verdict_of, TellsInside}
use Rattle.induct.proofs.LeftOut.{stays_beside}

-- what is told of a variable
told_low : (first count v : ℕ) → v < first → variable_told first count v ≡ v
told_low first count v l = grind (arith, nat_tests)

told_high : (first count v : ℕ) → first ≤ v → variable_told first count v ≡ count + (v - first)
told_high first count v l = grind (arith, nat_tests)

module _ (n : BlockNets) (g : BlockGraph) (is : IsBlockGraph n g) (sound_a : IsSound n.left.now) (sound_b : IsSound n.right.now) (own : AreOwnNumbers n.left.now n.right.now n.orders.now)
    (matches : first_mismatch (ports_of n.left.now) (ports_of n.right.now) ≡ None) (each : length n.blocks.now ≡ length n.left.now.latches + length n.right.now.latches) where
  -- how many inputs are shared
  abbrev pub shared_count : ℕ
  shared_count = length (shared_inputs (ports_of n.left.now) (ports_of n.right.now))

  -- the number of a shared input
  abbrev pub IsShared : ℕ → Type 0
  IsShared k = (k < shared_count) × (k < is.first)

  -- the variable of a block
  abbrev pub IsBlock : ℕ → Type 0
  IsBlock k = (j : ℕ) × (j < length n.blocks.now) × (k ≡ is.first + block_at n.blocks.now j)

  module _ (k : ℕ) where
    pub left_leaf : (port : Port) → Contains n.left.now.outputs port → IsLeaf n.left.now g.left.variables port.signal.0 k → IsShared k ⊎ IsBlock k
    left_leaf port shown leaf = go (slice_get n.left.now.drivers leaf.0) refl leaf.2
      where
        go : (o : Option Driver) → slice_get n.left.now.drivers leaf.0 ≡ o → option_and_then (variable_of g.left.variables) o ≡ Some k → IsShared k ⊎ IsBlock k
        go None e h = let z : None ≡ Some k = h in absurd (let none : ⊥ = cc in none)
        go (Some (driver.Gate j)) e h = let z : None ≡ Some k = h in absurd (let none : ⊥ = cc in none)
        go (Some (driver.Latch j)) e h =
            let inside = slice_get_within g.left.variables.latches j k h in
            inr (j, omega (arith, inside, is.left_on.variables.latches, each), is.variables.left_latches j k h)
        go (Some (driver.Input i)) e h =
            let d = sound_a.drivers leaf.0 (driver.Input i) e in
            let beside = stays_beside n.left.now port shown d.0 (of_at n.left.now.inputs i d.0 d.1) (subst (Reaches (circuit_of n.left.now) port.signal.0) (sym d.2) leaf.1) n.right.now in
            let at = at_of (shared_inputs (ports_of n.left.now) (ports_of n.right.now)) d.0.name beside in
            let number = own.are.left_is.common i at.0 d.0.name (slice_get-map (λ (p : Port). p.name) n.left.now.inputs i d.0 d.1) at.1 in
            let same : k ≡ at.0 = same_Some k at.0 (sym h ∙ ap (λ (l : List ℕ). slice_get l i) is.variables.left_inputs ∙ number) in
            let below = slice_get_within (shared_inputs (ports_of n.left.now) (ports_of n.right.now)) at.0 d.0.name at.1 in
            let under = All-at (λ (m : ℕ). m < is.first) n.orders.now.left i at.0 number is.variables.above_left in
            inl (omega (arith, same, below), omega (arith, same, under))

    pub right_leaf : (port : Port) → Contains n.right.now.outputs port → IsLeaf n.right.now g.right.variables port.signal.0 k → IsShared k ⊎ IsBlock k
    right_leaf port shown leaf = go (slice_get n.right.now.drivers leaf.0) refl leaf.2
      where
        go : (o : Option Driver) → slice_get n.right.now.drivers leaf.0 ≡ o → option_and_then (variable_of g.right.variables) o ≡ Some k → IsShared k ⊎ IsBlock k
        go None e h = let z : None ≡ Some k = h in absurd (let none : ⊥ = cc in none)
        go (Some (driver.Gate j)) e h = let z : None ≡ Some k = h in absurd (let none : ⊥ = cc in none)
        go (Some (driver.Latch j)) e h =
            let inside = slice_get_within g.right.variables.latches j k h in
            inr (length n.left.now.latches + j, omega (arith, inside, is.right_on.variables.latches, each), is.variables.right_latches j k h)
        go (Some (driver.Input i)) e h =
            let d = sound_b.drivers leaf.0 (driver.Input i) e in
            let beside = stays_beside n.right.now port shown d.0 (of_at n.right.now.inputs i d.0 d.1) (subst (Reaches (circuit_of n.right.now) port.signal.0) (sym d.2) leaf.1) n.left.now in
            let at = at_of (shared_inputs (ports_of n.left.now) (ports_of n.right.now)) d.0.name ((are_matched (ports_of n.left.now) (ports_of n.right.now) matches).inputs_back d.0.name beside) in
            let number = own.are.right_is.common i at.0 d.0.name (slice_get-map (λ (p : Port). p.name) n.right.now.inputs i d.0 d.1) at.1 in
            let same : k ≡ at.0 = same_Some k at.0 (sym h ∙ ap (λ (l : List ℕ). slice_get l i) is.variables.right_inputs ∙ number) in
            let below = slice_get_within (shared_inputs (ports_of n.left.now) (ports_of n.right.now)) at.0 d.0.name at.1 in
            let under = All-at (λ (m : ℕ). m < is.first) n.orders.now.right i at.0 number is.variables.above_right in
            inl (omega (arith, same, below), omega (arith, same, under))

    -- what is told of it is below the number of shared inputs and of blocks
    told_below : (count : ℕ) → ((j : ℕ) → j < length n.blocks.now → block_at n.blocks.now j < count) → IsShared k ⊎ IsBlock k →
        variable_told is.first shared_count k < shared_count + count
    told_below count enough (inl l) = subst (λ w. w < shared_count + count) (sym (told_low is.first shared_count k l.1)) (omega (arith, l.0))
    told_below count enough (inr b) =
        let high : is.first ≤ k = omega (arith, b.2) in
        let below = enough b.0 b.1 in
        subst (λ w. w < shared_count + count) (sym (told_high is.first shared_count k high)) (omega (arith, b.2, below))

  module _ (count : ℕ) (enough : (j : ℕ) → j < length n.blocks.now → block_at n.blocks.now j < count) (conflicts : ℕ) where
    -- the variables are told below this number
    abbrev AreInside : List ℕ → Type 0
    AreInside vars = All (λ v. v < shared_count + count) (map (variable_told is.first shared_count) vars)

    -- of one output
    shown_inside : (port : Port) → Contains n.left.now.outputs port → (pair : OutputPair) → IsOutputAnswer n g conflicts port pair → (s : Shown) → pair.answer ≡ answer.NotShown s →
        All (λ v. v < shared_count + count) (map (variable_told is.first shared_count) s.vars)
    shown_inside port there pair answered s e =
        All-from_each (λ (v : ℕ). v < shared_count + count) (map (variable_told is.first shared_count) s.vars)
        (λ v h. let from = Contains-map_from (variable_told is.first shared_count) s.vars v h in subst (λ (w : ℕ). w < shared_count + count) from.2 (told_below from.0 count enough (of_pair from.0 from.1)))
      where
        told : IsShown n g (Left port.signal.0) (Right answered.other) s
        told = subst (IsAnswer n g conflicts (Left port.signal.0) (Right answered.other)) e answered.answer_is

        of_pair : (k : ℕ) → Contains s.vars k → IsShared k ⊎ IsBlock k
        of_pair k h =
            pick ((told.asked.own.each k).0 (subst (λ (vs : List ℕ). Contains vs k) (sym told.vars) h))
          where
            pick : IsLeaf n.left.now g.left.variables port.signal.0 k ⊎ IsLeaf n.right.now g.right.variables answered.other k → IsShared k ⊎ IsBlock k
            pick (inl leaf) = left_leaf k port there leaf
            pick (inr leaf) =
                let other = place_named-from n.right.now.outputs port.name answered.other answered.other_is in
                right_leaf k other.0 other.1 (subst (λ (q : ℕ). IsLeaf n.right.now g.right.variables q k) (sym other.3) leaf)

    -- the first that isn't shown is one of them
    first_inside : (ports : List Port) (outputs : List OutputPair) → ((port : Port) → Contains ports port → Contains n.left.now.outputs port) → AllZip (IsOutputAnswer n g conflicts) ports outputs → (x : List ℕ × Shown) → first_shown outputs ≡ Some x →
        All (λ v. v < shared_count + count) (map (variable_told is.first shared_count) x.1.vars)
    first_inside [] [] among h x e = let z : None ≡ Some x = e in absurd (let none : ⊥ = cc in none)
    first_inside [] (pair ∷ pairs) among h x e = absurd h
    first_inside (port ∷ ports) [] among h x e = absurd h
    first_inside (port ∷ ports) (pair ∷ pairs) among h x e = go pair.answer refl e (first_inside ports pairs (λ p k. among p (Contains-tail port p ports k)) h.1 x)
      where
        Inside : Type 0
        Inside = All (λ v. v < shared_count + count) (map (variable_told is.first shared_count) x.1.vars)

        go : (a : OutputAnswer) → pair.answer ≡ a → shown_or pair.name a (first_shown pairs) ≡ Some x →
            (first_shown pairs ≡ Some x → All (λ v. v < shared_count + count) (map (variable_told is.first shared_count) x.1.vars)) →
            All (λ v. v < shared_count + count) (map (variable_told is.first shared_count) x.1.vars)
        go answer.Equal is_a t rest = rest t
        go (answer.Limit proof) is_a t rest = rest t
        go (answer.NotShown s) is_a t rest =
            let same : s ≡ x.1 = ap (λ (y : List ℕ × Shown). y.1) (same_Some (pair.name, s) x t) in
            shown_inside port (among port (Contains-head port ports)) pair h.0 x.1 (is_a ∙ ap answer.NotShown same)

    pub tells_inside : (outputs : List OutputPair) → AllZip (IsOutputAnswer n g conflicts) n.left.now.outputs outputs →
        TellsInside (shared_count + count) (verdict_of is.first shared_count (first_limit outputs) (first_shown outputs))
    tells_inside outputs h = go (first_limit outputs) (first_shown outputs) refl
      where
        go : (limit : Option (List ℕ)) (shown : Option (List ℕ × Shown)) → first_shown outputs ≡ shown →
            TellsInside (shared_count + count) (verdict_of is.first shared_count limit shown)
        go (Some name) shown e = tt
        go None (Some x) e = first_inside n.left.now.outputs outputs (λ p k. k) h x e
        go None None e = tt
