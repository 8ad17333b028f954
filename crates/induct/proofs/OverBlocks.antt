-- What the outputs over the blocks say, and what of them is small.
use Rattle.std.proofs.Common.{◌≡◌, ℕ, ◌+◌, ◌<◌, ◌≤◌, ◌^◌, List, [], ◌∷◌, length, map, Option, Some, None, refl, subst, arith}
use Rattle.std.specs.List.{All, AllZip}
use Rattle.std.proofs.lemmas.List.Elements.{All-nil, All-cons, All-weaker}
use Rattle.circuit_theory.specs.Joined.{Left, Right}
use Rattle.circuit_laws.specs.reset_laws.Reset.{AgreeFromReset}
use Rattle.flat_net.specs.Comparable.{IsComparable}
use Rattle.flat_net.specs.Sound.{IsSound}
use Rattle.flat_net.specs.View.{NetView, circuit_of, ports_of}
use Rattle.circuit_theory.specs.Interface.{shared_inputs}
use Rattle.block_refine.specs.latch_blocks.Signals.{net_weight}
use Rattle.block_refine.specs.declared.block_graph.nets.BlockNets.{BlockNets}
use Rattle.block_refine.specs.declared.block_graph.graph.BlockGraph.{BlockGraph}
use Rattle.block_refine.specs.block_graph.Graph.{AreReady, IsBlockGraph}
use Rattle.block_refine.proofs.block_graph.Numbered.{light_few}
use Rattle.block_refine.specs.Refining.{AreCoarsest}
use Rattle.induct.specs.declared.block_outputs.answer.Shown.{Shown}
use Rattle.induct.specs.declared.block_outputs.answer.OutputAnswer.{OutputAnswer}
use Rattle.induct.specs.declared.block_outputs.answer.OutputAnswer.TheVariants as answer
use Rattle.induct.specs.declared.block_outputs.outputs.OutputPair.{OutputPair}
use Rattle.induct.specs.block_outputs.Answers.{IsAnswer, IsOutputAnswer}
use Rattle.induct.proofs.block_outputs.Agreeing.{equal_outputs_agree}
use Rattle.induct.specs.declared.induction.InductVerdict.TheVariants as verdict
use Rattle.induct.specs.Inductions.{AreOwnNumbers, AreSmall, first_limit, first_shown, limit_or, shown_or, variable_told, verdict_of}
use Rattle.induct.proofs.OwnNumbers.{orders_long}

-- what holds of each answer holds of all
all_from_zip : {X Y : Type 0} (R : X → Y → Type 0) (F : Y → Type 0) → ((x : X) (y : Y) → R x y → F y) → (xs : List X) (ys : List Y) → AllZip R xs ys → All F ys
all_from_zip R F f [] [] h = All-nil F
all_from_zip R F f [] (y ∷ ys) h = absurd h
all_from_zip R F f (x ∷ xs) [] h = absurd h
all_from_zip R F f (x ∷ xs) (y ∷ ys) h = All-cons F y ys (f x y h.0) (all_from_zip R F f xs ys h.1)

-- there are few latches
pub latches_few : (a b : NetView) → IsSound a → IsSound b → net_weight a ≤ 2000000 → net_weight b ≤ 2000000 → length a.latches + length b.latches ≤ 4000000
latches_few a b sound_a sound_b light_a light_b =
    let left = light_few a sound_a in
    let right = light_few b sound_b in
    omega (arith, left, right, light_a, light_b, sound_a.few_latches, sound_b.few_latches)

-- a graph can be made of the coarsest inductive partition
pub ready_from : (n : BlockNets) → net_weight n.left.now ≤ 2000000 → net_weight n.right.now ≤ 2000000 → AreOwnNumbers n.left.now n.right.now n.orders.now → AreCoarsest n.left.now n.right.now n.orders.now n.blocks.now → AreReady n
ready_from n light_a light_b own coarsest = record {
  left_light = light_a;
  right_light = light_b;
  left_long = (orders_long n.left.now n.right.now n.orders.now own.are).0;
  right_long = (orders_long n.left.now n.right.now n.orders.now own.are).1;
  left_small = own.left_small;
  right_small = own.right_small;
  each = coarsest.each;
  in_order = coarsest.in_order;
}

module _ (n : BlockNets) (g : BlockGraph) (conflicts : ℕ) (outputs : List OutputPair) (answered : AllZip (IsOutputAnswer n g conflicts) n.left.now.outputs outputs) where
  -- the variables that are told stay small
  pub all_small : IsBlockGraph n g → (count : ℕ) → length n.blocks.now ≤ 4000000 → count ≤ 2000000 → All (λ pair. AreSmall count pair.answer) outputs
  all_small is count few low = all_from_zip (IsOutputAnswer n g conflicts) (λ (pair : OutputPair). AreSmall count pair.answer) (λ port pair answered. go port.signal.0 answered.other pair.answer answered.answer_is) n.left.now.outputs outputs answered
    where
      go : (p q : ℕ) (a : OutputAnswer) → IsAnswer n g conflicts (Left p) (Right q) a → AreSmall count a
      go p q answer.Equal told = tt
      go p q (answer.NotShown s) told =
          subst (All (λ (v : ℕ). count + v < 2 ^ 32)) told.vars (All-weaker (λ k. k < g.limit) (λ v. count + v < 2 ^ 32) (λ v l. omega (arith, l, is.limit_is, is.first_small, few, low)) told.query.vars told.asked.own.below)
      go p q (answer.Limit proof) told = tt

  -- where all are equal over the coarsest inductive partition, they agree in all runs from the initial values
  pub equal_agree : IsComparable n.right.now → AreOwnNumbers n.left.now n.right.now n.orders.now → AreCoarsest n.left.now n.right.now n.orders.now n.blocks.now → All (λ pair. pair.answer ≡ answer.Equal) outputs → AgreeFromReset (circuit_of n.left.now) (circuit_of n.right.now)
  equal_agree right own coarsest all =
      equal_outputs_agree n g (shared_inputs (ports_of n.left.now) (ports_of n.right.now)) conflicts outputs right own.are.left_is own.are.right_is coarsest answered all

-- a verdict that is equal says that no output met the limit, and that none isn't shown
none_other : (first count : ℕ) (limit : Option (List ℕ)) (shown : Option (List ℕ × Shown)) → verdict_of first count limit shown ≡ verdict.Equal → (limit ≡ None) × (shown ≡ None)
none_other first count (Some name) shown e = let z : verdict.Limit name ≡ verdict.Equal = e in absurd (let none : ⊥ = cc in none)
none_other first count None (Some x) e =
    let z : verdict.NotShown x.0 x.1.left x.1.right (map (variable_told first count) x.1.vars) x.1.bits ≡ verdict.Equal = e in absurd (let none : ⊥ = cc in none)
none_other first count None None e = (refl, refl)

no_some : {X : Type 0} {x : X} → Some x ≡ None → ⊥
no_some e = cc

each_equal : (outputs : List OutputPair) → first_limit outputs ≡ None → first_shown outputs ≡ None → All (λ pair. pair.answer ≡ answer.Equal) outputs
each_equal [] l s = All-nil (λ (pair : OutputPair). pair.answer ≡ answer.Equal)
each_equal (pair ∷ pairs) l s = go pair.answer refl l s (each_equal pairs)
  where
    go : (a : OutputAnswer) → pair.answer ≡ a → limit_or pair.name a (first_limit pairs) ≡ None → shown_or pair.name a (first_shown pairs) ≡ None →
        (first_limit pairs ≡ None → first_shown pairs ≡ None → All (λ pair. pair.answer ≡ answer.Equal) pairs) → All (λ pair. pair.answer ≡ answer.Equal) (pair ∷ pairs)
    go answer.Equal e m t rest = All-cons (λ (one : OutputPair). one.answer ≡ answer.Equal) pair pairs e (rest m t)
    go (answer.NotShown x) e m t rest = absurd (no_some t)
    go (answer.Limit proof) e m t rest = absurd (no_some m)

pub all_equal : (first count : ℕ) (outputs : List OutputPair) → verdict_of first count (first_limit outputs) (first_shown outputs) ≡ verdict.Equal → All (λ pair. pair.answer ≡ answer.Equal) outputs
all_equal first count outputs e = let none = none_other first count (first_limit outputs) (first_shown outputs) e in each_equal outputs none.0 none.1
