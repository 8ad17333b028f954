-- What is judged of two nets by ties of their signals under an assumption.
use Rattle.std.specs.Prelude.{◌≡◌, ◌⊎◌, ℕ, Bool, true, List, [], ◌∷◌, ◌++◌, codes, None}
use Rattle.std.specs.List.{Contains}
use Rattle.circuit_theory.specs.Circuit.{Circuit, Meets}
use Rattle.circuit_theory.specs.Interface.{shared_inputs}
use Rattle.circuit_theory.specs.Joined.{Either, Left}
use Rattle.flat_net.specs.View.{NetView, circuit_of, ports_of}
use Rattle.pair_decide.specs.declared.query.Proof.{Proof}
use Rattle.sec_setup.specs.Matching.{InterfacesMatch}
use Rattle.assume_laws.specs.Assume.{Assumption, AgreeFromResetUnder}
use Rattle.assume_queries.specs.assume_sequences.assume_taken.Taken.{IsAssumed, assumed_by}
use Rattle.job_base.specs.declared.finding.Judgement.{Judgement}
use Rattle.signal_induct.specs.declared.induction.SignalInduction.{SignalInduction}
use Rattle.signal_induct.specs.Tied.{first_apart, IsInductionWhere}
use Rattle.signal_induct.specs.signals_report.Report.{signals_text}
use Rattle.sec_jobs.specs.job_induct.induct_meaning.Judged.{AreLight}
use Rattle.job_signals.specs.Judged.{judgement_of}
use Rattle.job_under.specs.Judged.{IsJudgedUndecided}

-- values of A's places and of B's in a cycle meet the assumption: its output is 1 where its inputs have the values of A's inputs of their names
abbrev pub MeetsBeside : Assumption → Circuit ℕ → (Either ℕ ℕ → Bool) → Type 0
MeetsBeside c a x =
    (v : ℕ → Bool) → Meets c.circuit v → ((name : List ℕ) (p q : ℕ) → Contains c.circuit.inputs (record { name = name; place = p }) → Contains a.inputs (record { name = name; place = q }) → v p ≡ x (Left q)) → v c.output ≡ true

-- the report: the name of the assumption's output, and what is told of the ties
abbrev pub ties_text : List ℕ → NetView → NetView → SignalInduction → List ℕ
ties_text name a b made = codes "assume " ++ name ++ 10 ∷ [] ++ signals_text a b made

-- The interfaces match, C is an assumption on the inputs that both nets share, both are light, and this is judged and written: ties of their
-- signals are an inductive invariant under the assumption, and hold in every cycle of two reset runs with equal inputs that meet it; where they
-- give each output, the outputs agree in every cycle of such runs.
pub record AreJudgedTied (a b c : NetView) (j : Judgement) (proofs : List Proof) (text : List ℕ) : Type 0 where
  pub matches : InterfacesMatch a b
  pub assumed : IsAssumed (shared_inputs (ports_of a) (ports_of b)) c
  pub light : AreLight a b
  pub made : SignalInduction
  pub is : IsInductionWhere (MeetsBeside (assumed_by assumed) (circuit_of a)) a b made
  pub agree : first_apart made.pairs ≡ None → AgreeFromResetUnder (assumed_by assumed) (circuit_of a) (circuit_of b)
  pub judgement_is : j ≡ judgement_of (first_apart made.pairs)
  pub proofs_are : proofs ≡ []
  pub text_is : text ≡ ties_text assumed.shape.output.name a b made

-- that, or that it wasn't decided whether some inputs meet C
abbrev pub AreJudged : ℕ → NetView → NetView → NetView → Judgement → List Proof → List ℕ → Type 0
AreJudged conflicts a b c j proofs text = AreJudgedTied a b c j proofs text ⊎ IsJudgedUndecided a b c conflicts j proofs text
