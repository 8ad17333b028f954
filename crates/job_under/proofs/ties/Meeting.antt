-- Values of a cycle that meet the assumption by the names of inputs meet it by their numbers.
use Rattle.std.proofs.Common.{◌≡◌, ◌∙◌, ℕ, ◌⊎◌, ◌<◌, Bool, true, List, [], ◌∷◌, ◌++◌, map, length, get_or, slice_get, Some, sym, ap, subst, arith, inl, inr}
use Rattle.std.proofs.lemmas.Option.{get_or_from_slice_get}
use Rattle.circuit_theory.specs.Circuit.{Named}
use Rattle.circuit_theory.specs.Interface.{shared_inputs, AreOrders}
use Rattle.circuit_theory.specs.Joined.{Either, Left, Right, moved_name}
use Rattle.circuit_theory.specs.Tree.{StandsBeside, IsInputNumber, tree_value}
use Rattle.circuit_theory.proofs.Numbers.{slice_get-map}
use Rattle.aig.specs.Builds.{HasTreeValues}
use Rattle.aig.specs.Values.{value}
use Rattle.aig.specs.graph_copy.Copy.{renamed}
use Rattle.flat_net.specs.View.{NetView, circuit_of, ports_of}
use Rattle.assume_laws.specs.Assume.{Assumption, RowMeets, ReadsInputs}
use Rattle.assume_laws.proofs.Care.{run_holds, tree_meets, unfolds_place}
use Rattle.assume_queries.specs.declared.assume_sequences.premise.Premise.{Premise}
use Rattle.assume_queries.specs.assume_sequences.assume_taken.Premises.{IsPremiseOf}
use Rattle.assume_queries.specs.assume_sequences.assume_taken.Taken.{assumed_by}
use Rattle.assume_queries.proofs.assume_sequences.assume_taken.Premises.{is_assumed}
use Rattle.plain_check.proofs.under_base.Reading.{reads_inputs}
use Rattle.signal_refine.specs.declared.assumed.Assumed.{Assumed}
use Rattle.signal_refine.specs.declared.nets.SignalNets.{SignalNets}
use Rattle.signal_refine.specs.Assuming.{IsMet}
use Rattle.job_under.specs.ties.Judged.{MeetsBeside}

-- a place of A's beside B's
abbrev own : ℕ → Either ℕ ℕ
own p = Left p

-- a number of one of A's inputs is one of the same of both circuits side by side
module _ (others : List (Named (Either ℕ ℕ))) (right : List ℕ) where
  abbrev Beside : List (Named ℕ) → List ℕ → ℕ → ℕ → Type 0
  Beside inputs left p i = StandsBeside (map (moved_name own) inputs ++ others) (left ++ right) (own p) i

  one_beside : (n : Named ℕ) (inputs : List (Named ℕ)) (j : ℕ) (left : List ℕ) (p i : ℕ) → (StandsBeside inputs left p i → Beside inputs left p i) → ((n.place ≡ p) × (j ≡ i)) ⊎ StandsBeside inputs left p i → Beside (n ∷ inputs) (j ∷ left) p i
  one_beside n inputs j left p i later (inl q) = inl (ap own q.0, q.1)
  one_beside n inputs j left p i later (inr k) = inr (later k)

  number_beside : (inputs : List (Named ℕ)) (left : List ℕ) (p i : ℕ) → StandsBeside inputs left p i → Beside inputs left p i
  number_beside [] left p i h = absurd h
  number_beside (n ∷ inputs) [] p i h = absurd h
  number_beside (n ∷ inputs) (j ∷ left) p i h = one_beside n inputs j left p i (λ k. number_beside inputs left p i k) h

module _ (a b c : NetView) (premise : Premise) (is : IsPremiseOf (shared_inputs (ports_of a) (ports_of b)) c (length (shared_inputs (ports_of a) (ports_of b))) premise) (trees : HasTreeValues premise.own.aig) (nets : SignalNets) (left_is : nets.left.now ≡ a)
    (orders : AreOrders (ports_of a) (ports_of b) nets.orders.now.left nets.orders.now.right) (w : Assumed) (graph_is : w.graph.now ≡ premise.own.aig) (lit_is : w.lit.0 ≡ premise.own.function.lit.0) (numbers_are : w.numbers.now ≡ map (λ p. p.0) premise.own.places) where
  abbrev under : Assumption
  under = assumed_by is.assumed

  abbrev left : List ℕ
  left = nets.orders.now.left

  reads : ReadsInputs under (circuit_of a) left
  reads = reads_inputs a b c is.assumed left nets.orders.now.right orders.left_is

  abbrev numbers : List ℕ
  numbers = map (λ (p : ℕ × ℕ). p.0) premise.own.places

  -- a variable has the bit of its input's number
  takes : (k : ℕ → Bool) (v : ℕ) (p : ℕ × ℕ) → slice_get premise.own.places v ≡ Some p → renamed numbers k v ≡ k p.0
  takes k v p at = ap k (get_or_from_slice_get numbers v p.0 0 (slice_get-map (λ (q : ℕ × ℕ). q.0) premise.own.places v p at))

  worth : (k : ℕ → Bool) → value premise.own.aig (renamed numbers k) premise.own.function.lit.0 ≡ tree_value (λ (i j : ℕ). k i) is.function.unfolded.tree
  worth k = trees premise.own.places (λ i j. k i) (renamed numbers k) is.function.unfolded.tree premise.own.function.lit.0 (takes k) is.function.unfolded.builds

  holds_by : (k : ℕ → Bool) → RowMeets under k → value premise.own.aig (renamed numbers k) premise.own.function.lit.0 ≡ true
  holds_by k meets =
      let own = is_assumed (shared_inputs (ports_of a) (ports_of b)) c (length (shared_inputs (ports_of a) (ports_of b))) premise is (omega arith) in
      worth k ∙ (tree_meets under (length c.drivers) own.assumption 0 is.function.unfolded.tree (λ i j. k i) (unfolds_place (circuit_of c) is.assumed.order own.assumption.gates is.function.unfolded.unfolds)).1 meets

  pub met_beside : (x : Either ℕ ℕ → Bool) → MeetsBeside under (circuit_of a) x → IsMet w nets x
  met_beside x meets k inputs =
      ap (λ g. value g (renamed w.numbers.now k) w.lit.0) graph_is
      ∙ (ap (λ ns. value premise.own.aig (renamed ns k) w.lit.0) numbers_are
      ∙ (ap (value premise.own.aig (renamed numbers k)) lit_is
      ∙ holds_by k (run_holds under (circuit_of a) left reads 1 (λ t p. x (Left p)) (λ t low. meets) 0 (omega arith) k (λ p i number. inputs (Left p) i (beside p i number)))))
    where
      others : List (Named (Either ℕ ℕ))
      others = map (moved_name Right) (circuit_of nets.right.now).inputs

      beside : (p i : ℕ) → IsInputNumber (circuit_of a) left p i → StandsBeside (map (moved_name own) (circuit_of nets.left.now).inputs ++ others) (left ++ nets.orders.now.right) (own p) i
      beside p i h = number_beside others nets.orders.now.right (circuit_of nets.left.now).inputs left p i (subst (λ (n : NetView). StandsBeside (circuit_of n).inputs left p i) (sym left_is) h)
