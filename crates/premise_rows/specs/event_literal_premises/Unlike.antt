-- Enables of p that differ, and one that is 1 wherever it has care.
use Rattle.std.specs.Prelude.{◌≡◌, ℕ, false}
use Rattle.circuit_theory.specs.Classes.{EnablesDiffer, AlwaysEnabled, SometimesOff}
use Rattle.circuit_theory.specs.Frame.{EventSide}
use Rattle.circuit_theory.specs.Joined.{Either, Left, Right}
use Rattle.event_nodes.specs.aig.Values.{value}
use Rattle.edbf_unfold.specs.class_queries.Enables.{both_of, IsEnableFunction, AsksEnables, IsSame, Distinguishes}
use Rattle.edbf_unfold.specs.class_queries.Laws.{AreKept}
use Rattle.premise_rows.specs.event_literal_premises.Chained.{where_a, where_not_a, where_loaded, at_chain, chain_nodes, e_alone}

abbrev pub both_unlike : EventSide (Either ℕ ℕ)
both_unlike = both_of where_a where_not_a

-- p loads where a was 1, and where it was 0, as q loaded. Where q loaded 0 the first enable is 0 and the second is 1: they differ, and the first isn't
-- `always`.
pub record UnlikeEnablesMeetPremises : Type 0 where
  pub kept : AreKept where_a where_not_a at_chain
  pub left_is : IsEnableFunction both_unlike at_chain (Left 3) 10 6
  pub asks : AsksEnables both_unlike at_chain (Left 3) (Right 3) 10 12 6
  pub distinguishes : Distinguishes at_chain 10 12 6 e_alone
  pub differ : EnablesDiffer both_unlike (Left 3) (Right 3)
  pub from_always : Distinguishes at_chain 10 1 6 e_alone
  pub off : SometimesOff both_unlike (Left 3)

abbrev pub both_where_loaded : EventSide (Either ℕ ℕ)
both_where_loaded = both_of where_a where_loaded

-- The enable is that q is 1, which it is once it has loaded. Where it didn't there is no care, and the literal is 0.
pub record AlwaysMeetsPremises : Type 0 where
  pub kept : AreKept where_a where_loaded at_chain
  pub is : IsEnableFunction both_where_loaded at_chain (Right 3) 6 6
  pub same : IsSame at_chain 6 1 6
  pub elsewhere : value chain_nodes (λ v. false) 6 ≡ false
  pub always : AlwaysEnabled both_where_loaded (Right 3)
