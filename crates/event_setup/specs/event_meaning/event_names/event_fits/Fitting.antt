-- What it means that an outcome fits two circuits, in the event form.
use Rattle.std.specs.Prelude.{◌≡◌, ◌⊎◌, ℕ, Bool, List, [], map, length, Option, option_map, None, Err}
use Rattle.circuit_theory.specs.declared.Side.{Side}
use Rattle.circuit_theory.specs.Interface.{shared_inputs}
use Rattle.circuit_theory.specs.Classes.{classes_of}
use Rattle.flat_net.specs.View.{NetView, circuit_of, ports_of}
use Rattle.sec_base.specs.declared.basics.Tag.{Tag}
use Rattle.reset_form.specs.reset_functions.pair_decide.Proof.{Proof}
use Rattle.sec_setup.specs.ports.Pairs.{named_pairs, places_of}
use Rattle.obligations.specs.declared.outcome.verdict.LimitAt.{LimitAt}
use Rattle.obligations.specs.declared.outcome.verdict.LimitAt.TheVariants as limit_at
use Rattle.obligations.specs.declared.outcome.verdict.Outcome.{Outcome}
use Rattle.obligations.specs.declared.outcome.verdict.Verdict.TheVariants as verdict
use Rattle.plain_check.specs.under_base.compare_base.Cuts.{columns_of, is_cut}
use Rattle.edbf_unfold.specs.class_queries.Enables.{both_of}
use Rattle.event_form.specs.event_findings.unshown_pairs.Refused.{IsLimitOf}
use Rattle.event_nodes.specs.View.{EventCircuitView}
use Rattle.event_setup.specs.Recovered.{RecoversBoth}
use Rattle.event_setup.specs.declared.error.RecoveryError.TheVariants as unknown
use Rattle.event_form.specs.event_findings.Findings.{FindingsFit}
use Rattle.event_form.specs.declared.event_findings.findings.EventFindings.{EventFindings}
use Rattle.event_form.specs.declared.event_findings.pairs.EventPairs.{EventPairs}
use Rattle.event_setup.specs.event_meaning.event_names.event_fits.Circuits.{AreReached}
use Rattle.event_setup.specs.event_meaning.event_names.event_fits.Named.{latch_names, latch_of, NamesVerdict}
use Rattle.event_setup.specs.event_meaning.event_names.event_fits.Totals.{IsMapMade, IsWithinWith}

-- the counts of both circuits; nothing is assumed, and no pair is settled from a cycle on
pub record HasCounts (a b : NetView) (o : Outcome) : Type 0 where
  pub inputs : o.inputs ≡ length (shared_inputs (ports_of a) (ports_of b))
  pub left_latches : o.left_latches ≡ length a.latches
  pub right_latches : o.right_latches ≡ length b.latches
  pub assumed : o.assumed ≡ None
  pub through : o.through ≡ 0

-- It isn't known whether a latch is enabled, since its query met the limit: of the latches of A, in their order, and then of B the first of which
-- it isn't known. Nothing is exposed, no class is given, and no pair is asked about.
pub record IsUnrecovered (a b : NetView) (conflicts : ℕ) (o : Outcome) : Type 0 where
  pub side : Side
  pub name : List ℕ
  pub proof : Proof
  pub limit : RecoversBoth a b conflicts (Err (unknown.Limit side name proof))
  pub exposed : o.exposed ≡ []
  pub classes : o.classes ≡ 0
  pub pairs : o.pairs ≡ []
  pub verdict_is : o.verdict ≡ verdict.Limit (limit_at.Recover side name proof)

-- the limit of a class query, its latches by their names
abbrev pub class_limit : List (List ℕ) → List (List ℕ) → Tag → Option Tag → Proof → LimitAt
class_limit left right latch other proof = limit_at.Class (latch_of left right latch).0 (latch_of left right latch).1 (option_map (latch_of left right) other) proof

-- The class of a latch isn't known, since a query of it met the limit: against `always`, or against a latch that has its class. No pair is asked
-- about.
pub record IsUnclassed (a b : NetView) (expose : Bool) (conflicts : ℕ) (o : Outcome) : Type 0 where
  pub left : EventCircuitView
  pub right : EventCircuitView
  pub reached : AreReached a b expose o.exposed left right
  pub latch : Tag
  pub other : Option Tag
  pub proof : Proof
  pub limit : IsLimitOf left right latch other conflicts proof
  pub classes : o.classes ≡ 0
  pub pairs : o.pairs ≡ []
  pub verdict_is : o.verdict ≡ verdict.Limit (class_limit (latch_names left.net) (latch_names right.net) latch other proof)

-- The pairs are compared, in order, over both circuits as they are cut and with their classes: what is found of them fits, and the outcome has the
-- results, and the verdict by the names of inputs and latches.
pub record IsComparedByPairs (a b : NetView) (expose : Bool) (conflicts : ℕ) (o : Outcome) : Type 0 where
  pub left : EventCircuitView
  pub right : EventCircuitView
  pub reached : AreReached a b expose o.exposed left right
  pub made : IsMapMade left right
  pub classes : o.classes ≡ classes_of (both_of left right) made.map.order
  pub compared : EventPairs
  pub listed : map places_of compared.pairs.now ≡ named_pairs o.exposed (circuit_of a) (circuit_of b)
  pub names : compared.names.now ≡ columns_of a b o.exposed
  pub cut : compared.cut ≡ is_cut o.exposed
  pub within : IsWithinWith left right made compared.pairs.now compared.pairs.now
  pub found : EventFindings
  pub fits : FindingsFit left right compared conflicts found
  pub pairs : o.pairs ≡ found.pairs
  pub verdict_is : NamesVerdict (latch_names left.net) (latch_names right.net) (columns_of a b o.exposed) found.verdict o.verdict

-- The outcome fits the circuits: a limit of the enables or of the classes comes first, and else all pairs are compared.
pub record EventOutcomeFits (a b : NetView) (expose : Bool) (conflicts : ℕ) (o : Outcome) : Type 0 where
  pub counts : HasCounts a b o
  pub rest : IsUnrecovered a b conflicts o ⊎ (IsUnclassed a b expose conflicts o ⊎ IsComparedByPairs a b expose conflicts o)
