-- Ties under an assumption that asks less.
use Rattle.std.proofs.Common.{◌≡◌, ◌∙◌, ℕ, Bool, true, List, ap, subst, sym}
use Rattle.circuit_theory.specs.Joined.{Either}
use Rattle.aig.specs.Graph.{IsGraph}
use Rattle.aig.specs.Values.{value}
use Rattle.aig.specs.graph_copy.Copy.{renamed}
use Rattle.aig.proofs.CoverMeaning.{value-one}
use Rattle.circuit_laws.specs.reset_laws.Reset.{AgreeFromReset}
use Rattle.flat_net.specs.View.{NetView, circuit_of}
use Rattle.signal_refine.specs.declared.assumed.Assumed.{Assumed}
use Rattle.signal_refine.specs.declared.nets.SignalNets.{SignalNets}
use Rattle.signal_refine.specs.Assuming.{IsMet}
use Rattle.signal_induct.specs.declared.induction.SignalInduction.{SignalInduction}
use Rattle.signal_induct.specs.Tied.{AgreeFromResetWhere, IsInductionWhere}

-- the constant 1 is met always
pub always_met : (w : Assumed) → IsGraph w.graph.now → w.lit.0 ≡ 1 → (n : SignalNets) (x : Either ℕ ℕ → Bool) → IsMet w n x
always_met w graph one n x a inputs = ap (value w.graph.now (renamed w.numbers.now a)) one ∙ value-one w.graph.now graph (renamed w.numbers.now a)

module _ (met other : (Either ℕ ℕ → Bool) → Type 0) (all : (x : Either ℕ ℕ → Bool) → other x → met x) (a b : NetView) where
  -- what holds under an assumption holds under one that asks more
  pub stronger : (made : SignalInduction) → IsInductionWhere met a b made → IsInductionWhere other a b made
  stronger made is = record {
    nets = is.nets;
    left_is = is.left_is;
    right_is = is.right_is;
    are_own = is.are_own;
    inductive = record {
      first = is.inductive.first;
      base = is.inductive.base;
      lits = is.inductive.lits;
      are_lits = is.inductive.are_lits;
      nodes = is.inductive.nodes;
      inductive = record { begins = λ x first here. is.inductive.inductive.begins x first (all x here); steps = λ x y successive here later. is.inductive.inductive.steps x y successive (all x here) (all y later) };
      told = is.inductive.told;
    };
    hold = λ n l r alike meets. is.hold n l r alike (λ t h. all _ (meets t h));
    outputs = is.outputs;
    are_outputs = is.are_outputs;
    pairs_are = is.pairs_are;
  }

  pub agree_stronger : AgreeFromResetWhere met (circuit_of a) (circuit_of b) → AgreeFromResetWhere other (circuit_of a) (circuit_of b)
  agree_stronger agree n l r alike meets t p q h pair = agree n l r alike (λ k low. all _ (meets k low)) t p q h pair

-- so nothing is asked where it is met in every cycle
pub agree_everywhere : (met : (Either ℕ ℕ → Bool) → Type 0) → ((x : Either ℕ ℕ → Bool) → met x) → (a b : NetView) → AgreeFromResetWhere met (circuit_of a) (circuit_of b) → AgreeFromReset (circuit_of a) (circuit_of b)
agree_everywhere met all a b agree n l r alike t p q h pair = agree n l r alike (λ k low. all _) t p q h pair
