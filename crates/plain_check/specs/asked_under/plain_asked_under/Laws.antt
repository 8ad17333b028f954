-- What is found of a pair under an assumption.
use Rattle.std.specs.Prelude.{◌≡◌, ℕ, ◌<◌, Bool, List, length, slice_get, Some}
use Rattle.std.specs.List.{All, Contains}
use Rattle.circuit_theory.specs.Query.{same_shift}
use Rattle.circuit_theory.specs.Sequence.{sequence_rows}
use Rattle.circuit_theory.specs.Tree.{IsInputNumber}
use Rattle.base_tables.specs.Table.{AreDistinct}
use Rattle.flat_net.specs.Sound.{IsSound}
use Rattle.flat_net.specs.View.{circuit_of}
use Rattle.aig.specs.Graph.{IsGraph}
use Rattle.aig.specs.Builds.{HasTreeValues}
use Rattle.aig.specs.Values.{value}
use Rattle.pair_decide.specs.declared.query.Query.{Query}
use Rattle.pair_decide.specs.Queries.{IsQuery, assigned_to}
use Rattle.pair_decide.specs.Answers.{IsDifference}
use Rattle.obligations.specs.declared.outcome.verdict.PairResult.{PairResult}
use Rattle.obligations.specs.declared.obligation.Obligation.{Obligation}
use Rattle.obligations.specs.Decided.{IsAnswered}
use Rattle.sec_setup.specs.declared.ports.pairs.SignalPair.{SignalPair}
use Rattle.sec_setup.specs.declared.setup.Setup.{Setup}
use Rattle.sec_setup.specs.Cuts.{is_cut}
use Rattle.sec_setup.specs.ports.Pairs.{outputs_of, places_of}
use Rattle.sec_setup.specs.Setup.{IsSetup}
use Rattle.cbf_unfold.specs.shift_variables.Sequences.{bits_at}
use Rattle.cbf_unfold.specs.shift_variables.Variables.{variables_of}
use Rattle.assume_laws.specs.Assume.{Assumption}
use Rattle.assume_laws.specs.Sequences.{filled, IsMeetingRow, IsWitnessUnder}
use Rattle.assume_queries.specs.declared.assume_answers.order.VariableOrder.TheVariants as order
use Rattle.assume_queries.specs.assume_answers.Under.{IsObligationUnder}
use Rattle.plain_asked.specs.declared.functions.Functions.{Functions}
use Rattle.plain_asked.specs.Asked.{AskedOf}
use Rattle.plain_check.specs.under_base.under_fits.Pairs.{PairFitsUnder}

-- the graph and the table are sound
pub record AreBuilt (f : Functions) : Type 0 where
  pub graph : IsGraph f.aig
  pub values : HasTreeValues f.aig
  pub distinct : AreDistinct f.places

-- What is asked of a pair, under an assumption, are queries over the graph; and what is found of them is true of the pair.
abbrev pub PairsFitUnder : Type 0
PairsFitUnder = (c : Assumption) (s : Setup) (f : Functions) (p : SignalPair) (o u : Obligation) → AreBuilt f → AskedOf s f p o → IsObligationUnder order.Shifts c f.aig f.places o u →
    All (IsQuery f.aig) u.queries
    × ((conflicts : ℕ) (result : PairResult) → IsAnswered f.aig conflicts u result →
    PairFitsUnder c (circuit_of s.left.now) (circuit_of s.right.now) s.orders.left s.orders.right (is_cut s.exposed) conflicts (places_of p) result)

-- The rows that the bits of a difference make, with the meeting row at each shift that no variable of both sides has, and the values of
-- both sides, are a witness of the pair under the assumption.
abbrev pub DifferencesShowUnder : Type 0
DifferencesShowUnder = (c : Assumption) (s : Setup) (f : Functions) (p : SignalPair) (o u : Obligation) → AreBuilt f → AskedOf s f p o → IsObligationUnder order.Shifts c f.aig f.places o u →
    IsSetup s → IsSound s.left.now → IsSound s.right.now → Contains (outputs_of s.left.now) p.left.0 → Contains (outputs_of s.right.now) p.right.0 →
    ((i q : ℕ) → IsInputNumber c.circuit c.order q i → i < length s.columns) → (place : ℕ) (q r : Query) (bits : List Bool) (meeting : ℕ → Bool) (rows : List (List Bool)) (left right : Bool) →
    slice_get o.queries place ≡ Some q → slice_get u.queries place ≡ Some r → IsDifference f.aig r bits → IsMeetingRow c (length s.columns) meeting →
    rows ≡ sequence_rows o.size (filled same_shift (variables_of f.places q.vars) meeting (bits_at f.places r.vars bits)) (length s.columns) →
    left ≡ value f.aig (assigned_to r.vars bits) r.left.0 → right ≡ value f.aig (assigned_to r.vars bits) r.right.0 →
    IsWitnessUnder c (circuit_of s.left.now) (circuit_of s.right.now) s.orders.left s.orders.right p.left.0 p.right.0 (length s.columns) meeting rows o.size left right
