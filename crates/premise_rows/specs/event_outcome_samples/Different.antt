-- Two circuits that show different inputs, compared under the assumption that the second input is 1.
use Rattle.std.specs.Prelude.{◌≡◌, true, false, [], ◌∷◌, None, Some, Ok, codes}
use Rattle.flat_net.specs.declared.parts.Driver.TheVariants as driver
use Rattle.flat_net.specs.View.{NetView}
use Rattle.sec_base.specs.declared.basics.PairAnswer.TheVariants as answer
use Rattle.sec_base.specs.declared.settings.Settings.{Settings}
use Rattle.sec_setup.specs.declared.ports.pairs.SignalPair.{SignalPair}
use Rattle.witness_report.specs.declared.witness.PairName.TheVariants as pair
use Rattle.witness_report.specs.declared.witness.Witness.{Witness}
use Rattle.obligations.specs.declared.outcome.verdict.Outcome.{Outcome}
use Rattle.obligations.specs.declared.outcome.verdict.PairResult.{PairResult}
use Rattle.obligations.specs.declared.outcome.verdict.Verdict.TheVariants as verdict
use Rattle.edbf_unfold.specs.class_queries.Enables.{both_of}
use Rattle.event_nodes.specs.View.{EventCircuitView}
use Rattle.event_under.specs.Places.{IsLightAtNodes, IsOverAtNodes}
use Rattle.event_setup.specs.event_meaning.event_meaning_under.Answered.{ComparedInEventsUnder}

-- 0 a; 1 b; y is a
abbrev pub shows_a : NetView
shows_a = record {
  inputs = record { name = codes "a"; signal = record { 0 = 0 } } ∷ record { name = codes "b"; signal = record { 0 = 1 } } ∷ [];
  outputs = record { name = codes "y"; signal = record { 0 = 0 } } ∷ [];
  gates = [];
  latches = [];
  covers = [];
  drivers = driver.Input 0 ∷ driver.Input 1 ∷ [];
  names = codes "a" ∷ codes "b" ∷ [];
  clock = None;
}

-- the same, but that y is b
abbrev pub shows_b : NetView
shows_b = record {
  inputs = record { name = codes "a"; signal = record { 0 = 0 } } ∷ record { name = codes "b"; signal = record { 0 = 1 } } ∷ [];
  outputs = record { name = codes "y"; signal = record { 0 = 1 } } ∷ [];
  gates = [];
  latches = [];
  covers = [];
  drivers = driver.Input 0 ∷ driver.Input 1 ∷ [];
  names = codes "a" ∷ codes "b" ∷ [];
  clock = None;
}

-- 0 b; ok is b
abbrev pub b_is_one : NetView
b_is_one = record {
  inputs = record { name = codes "b"; signal = record { 0 = 0 } } ∷ [];
  outputs = record { name = codes "ok"; signal = record { 0 = 0 } } ∷ [];
  gates = [];
  latches = [];
  covers = [];
  drivers = driver.Input 0 ∷ [];
  names = codes "b" ∷ [];
  clock = None;
}

-- both circuits as the event form sees them
abbrev pub a_events : EventCircuitView
a_events = record { net = shows_a; enabled = []; order = 0 ∷ 1 ∷ []; classes = [] }

abbrev pub b_events : EventCircuitView
b_events = record { net = shows_b; enabled = []; order = 0 ∷ 1 ∷ []; classes = [] }

abbrev pub y_pair : SignalPair
y_pair = record { name = pair.Output (codes "y"); left = record { 0 = 0 }; right = record { 0 = 1 } }

-- The sequence has b set alone. Without the assumption the least assignment would be that in which a is set alone.
pub record IsShown (w : Witness) : Type 0 where
  pub pair_is : w.pair ≡ pair.Output (codes "y")
  pub cycle_is : w.cycle ≡ 0
  pub left_is : w.left ≡ false
  pub right_is : w.right ≡ true
  pub names_are : w.stimulus.names ≡ codes "a" ∷ codes "b" ∷ []
  pub rows_are : w.stimulus.rows ≡ (false ∷ true ∷ []) ∷ []

abbrev pub y_result : PairResult
y_result = record { name = pair.Output (codes "y"); size = 1; answer = answer.Different; proof = None }

abbrev pub y_outcome : Witness → Outcome
y_outcome w = record {
  inputs = 2;
  left_latches = 0;
  right_latches = 0;
  assumed = Some (codes "ok");
  exposed = [];
  classes = 0;
  pairs = y_result ∷ [];
  through = 0;
  verdict = verdict.Different w;
}

-- with such a sequence the outcome is what the comparison answers, whatever the settings
abbrev pub IsAnswered : Type 0
IsAnswered = (w : Witness) × IsShown w × ((settings : Settings) → ComparedInEventsUnder shows_a shows_b b_is_one settings (Ok (y_outcome w)))

abbrev pub IsFull : Type 0
IsFull = IsLightAtNodes 1999999 (both_of a_events b_events) (y_pair ∷ [])

abbrev pub IsOverfull : Type 0
IsOverfull = IsOverAtNodes 2000000 (both_of a_events b_events) (y_pair ∷ [])
