-- What the answers of the assumption's query say of a net whose function was made.
use Rattle.std.proofs.Common.{◌≡◌, ℕ, zero, suc, Bool, List, [], ◌∷◌, length, get_or, refl, ◌∙◌, ap}
use Rattle.circuit_theory.specs.Sequence.{sequence_row}
use Rattle.base_tables.specs.Table.{AreDistinct}
use Rattle.flat_net.specs.declared.parts.Port.{Port}
use Rattle.flat_net.specs.View.{NetView}
use Rattle.aig.specs.Builds.{HasTreeValues}
use Rattle.aig.specs.Graph.{IsGraph}
use Rattle.pair_decide.specs.declared.query.Proof.{Proof}
use Rattle.pair_decide.specs.declared.query.SameBy.{SameBy}
use Rattle.cbf_unfold.specs.shift_variables.Sequences.{bits_at}
use Rattle.assume_laws.specs.Assume.{IsAssumption}
use Rattle.assume_laws.proofs.assume_shape.Shapes.{shapes_are_assumptions}
use Rattle.assume_queries.specs.declared.assume_sequences.assume_taken.meeting.Meeting.TheVariants as meeting
use Rattle.assume_queries.specs.assume_sequences.assume_taken.Meeting.{CanMeet, IsMeeting, meeting_query}
use Rattle.assume_queries.specs.declared.assume_sequences.assume_taken.taken.Function.{Function}
use Rattle.assume_queries.specs.assume_sequences.assume_taken.Asked.{IsAssumptionQuery}
use Rattle.assume_queries.specs.assume_sequences.assume_taken.Functions.{IsFunctionOf}
use Rattle.assume_queries.specs.assume_sequences.assume_taken.Premises.{IsPremiseOf}
use Rattle.assume_queries.specs.assume_sequences.assume_taken.Taken.{assumed_by, IsVacuousBy, IsUndecidedBy}
use Rattle.assume_queries.proofs.assume_sequences.assume_taken.Queries.{asks, kept}
use Rattle.assume_queries.proofs.assume_sequences.assume_taken.Shapes.{below}

-- the first output is the only one
pub only_output : (outputs : List Port) (p q : Port) → outputs ≡ p ∷ [] → get_or outputs 0 q ≡ p
only_output outputs p q one = ap (λ (ps : List Port). get_or ps 0 q) one

row_long : (last : ℕ) (a : ℕ → ℕ → Bool) (cycle input count : ℕ) → length (sequence_row last a cycle input count) ≡ count
row_long last a cycle input zero = refl
row_long last a cycle input (suc count) = ap suc (row_long last a cycle (suc input) count)

module _ (names : List (List ℕ)) (c : NetView) (f : Function) (is : IsFunctionOf names c f) where
  abbrev output : ℕ
  output = is.assumed.shape.output.signal.0

  assumption-is : IsAssumption (assumed_by is.assumed) (length c.drivers)
  assumption-is = (shapes_are_assumptions c names is.assumed.order is.assumed.others is.assumed.sound is.assumed.shape is.assumed.numbers).0

  pub can_meet : CanMeet f.own (length names)
  can_meet = record {
    net = c;
    order = is.assumed.order;
    output = output;
    function = is.function;
    gates = assumption-is.gates;
    inputs = below c names is.assumed.shape is.assumed.order is.assumed.others is.assumed.numbers;
  }

  module _ (graph : IsGraph f.own.aig) (trees : HasTreeValues f.own.aig) (distinct : AreDistinct f.own.places) (conflicts : ℕ) where
    asked : IsAssumptionQuery (assumed_by is.assumed) f.own.aig (meeting_query f.own)
    asked = asks c is.assumed.order output f.own is.function assumption-is.gates graph trees distinct

    pub vacuous : (by : SameBy) → IsMeeting f.own (length names) conflicts (meeting.Never by) → IsVacuousBy names c conflicts by
    vacuous by (decides, never) = record {
      assumed = is.assumed;
      same = record { graph = f.own.aig; query = meeting_query f.own; asks = asked; decides = decides };
      never = never c is.assumed.order output (length c.drivers) is.function assumption-is;
    }

    pub undecided : (proof : Proof) → IsMeeting f.own (length names) conflicts (meeting.Limit proof) → IsUndecidedBy names c conflicts proof
    undecided proof decides = record { assumed = is.assumed; limit = record { graph = f.own.aig; query = meeting_query f.own; asks = asked; decides = decides } }

    pub premise : (row : List Bool) → IsMeeting f.own (length names) conflicts (meeting.Row row) → IsPremiseOf names c (length names) (record { own = f.own; weight = f.weight; meeting = row })
    premise row ((bits, difference, of), meets) = record {
      assumed = is.assumed;
      function = is.function;
      weight_is = is.weight_is;
      kept = kept c is.assumed.order output f.own is.function assumption-is.gates graph trees distinct (length names) bits row
          (below c names is.assumed.shape is.assumed.order is.assumed.others is.assumed.numbers) difference of
          (meets c is.assumed.order output (length c.drivers) is.function assumption-is);
      bits = ap length of ∙ row_long 0 (bits_at f.own.places f.own.function.vars bits) 0 0 (length names);
    }
