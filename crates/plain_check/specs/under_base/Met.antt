-- Where a circuit C is taken as an assumption on the inputs that A and B share.
use Rattle.std.specs.Prelude.{◌≡◌, ℕ, Bool, List, [], length, Some}
use Rattle.circuit_theory.specs.Interface.{shared_inputs}
use Rattle.flat_net.specs.Sound.{IsSound}
use Rattle.flat_net.specs.View.{NetView, ports_of}
use Rattle.obligations.specs.pair_decide.Proof.{Proof}
use Rattle.obligations.specs.declared.outcome.verdict.LimitAt.TheVariants as limit_at
use Rattle.obligations.specs.declared.outcome.verdict.Outcome.{Outcome}
use Rattle.obligations.specs.declared.outcome.verdict.Verdict.TheVariants as verdict
use Rattle.sec_setup.specs.Matching.{InterfacesMatch}
use Rattle.assume_queries.specs.assume_sequences.assume_taken.Asked.{IsKeptRow}
use Rattle.assume_queries.specs.assume_sequences.assume_taken.Taken.{IsAssumed, assumed_by, IsUndecidedBy}

-- the names of the inputs that both circuits have, in A's order
abbrev pub shared_by : NetView → NetView → List (List ℕ)
shared_by a b = shared_inputs (ports_of a) (ports_of b)

-- The interfaces match, C is an assumption on the shared inputs, and this row of theirs is kept, which meets it.
pub record IsMet (a b c : NetView) : Type 0 where
  pub matches : InterfacesMatch a b
  pub assumed : IsAssumed (shared_by a b) c
  pub row : ℕ → Bool
  pub kept : IsKeptRow (assumed_by assumed) (length (shared_by a b)) row

-- Whether some row meets C wasn't decided: the outcome has the counts, the name of C's output and the proof, and nothing is compared.
pub record IsAssumptionLimit (a b c : NetView) (conflicts : ℕ) (o : Outcome) : Type 0 where
  pub left_sound : IsSound a
  pub right_sound : IsSound b
  pub matches : InterfacesMatch a b
  pub proof : Proof
  pub undecided : IsUndecidedBy (shared_by a b) c conflicts proof
  pub inputs : o.inputs ≡ length (shared_by a b)
  pub left_latches : o.left_latches ≡ length a.latches
  pub right_latches : o.right_latches ≡ length b.latches
  pub assumed : o.assumed ≡ Some undecided.assumed.shape.output.name
  pub exposed : o.exposed ≡ []
  pub classes : o.classes ≡ 0
  pub pairs : o.pairs ≡ []
  pub through : o.through ≡ 0
  pub verdict_is : o.verdict ≡ verdict.Limit (limit_at.Assume proof)
