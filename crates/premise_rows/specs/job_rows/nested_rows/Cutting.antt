-- What meets the premises of agreement onward and of what a sequence shows of circuits with latches cut out.
use Rattle.std.specs.Prelude.{◌≡◌, ◌≢◌, ℕ, ◌<◌, ◌≤◌, Bool, List, [], ◌∷◌, None, codes}
use Rattle.circuit_theory.specs.declared.Mode.TheVariants.{Plain}
use Rattle.circuit_theory.specs.Agree.{cut, IsPair, IsSettled, AreAlike, LatchesEqual, IsMinimalCut}
use Rattle.circuit_theory.specs.Circuit.{Circuit}
use Rattle.circuit_theory.specs.Run.{IsRun}
use Rattle.blif_read.specs.Design.{Place, circuit_of_design}
use Rattle.witness_report.specs.declared.stimulus.Stimulus.{Stimulus}
use Rattle.witness_report.specs.Shown.{Obeys}
use Rattle.pair_texts.specs.design_rows.Designs.{nested}

-- Two runs with equal inputs and a cycle of theirs in which all pairs are settled where the latches of these names are cut out, and up to
-- which these are equal. In an earlier cycle an output differs.
pub record MeetsOnward {P Q : Type 0} (names : List (List ℕ)) (a : Circuit P) (b : Circuit Q) : Type 0 where
  pub steps : ℕ
  pub left : ℕ → P → Bool
  pub right : ℕ → Q → Bool
  pub alike : AreAlike a b steps left right
  pub cycle : ℕ
  pub below : cycle < steps
  pub settled : (p : P) (q : Q) → IsPair names a b p q → IsSettled Plain (cut names a) left cycle p × IsSettled Plain (cut names b) right cycle q
  pub equal : LatchesEqual names a b left right (λ t. t ≤ cycle)
  pub earlier : ℕ
  pub before : earlier < cycle
  pub p : P
  pub q : Q
  pub is_pair : IsPair [] a b p q
  pub differ : left earlier p ≢ right earlier q

-- each sequence over these columns is obeyed by a run, of any length, of the circuit with the latches of these names cut out
abbrev pub IsObeyed : {P : Type 0} → List (List ℕ) → Circuit P → List (List ℕ) → Type 0
IsObeyed {P} names c columns = (stimulus : Stimulus) → stimulus.names ≡ columns → (n : ℕ) → (run : ℕ → P → Bool) × IsRun (cut names c) n run × Obeys (cut names c) stimulus n run

abbrev pub turning : List (List ℕ)
turning = codes "cell#0#q" ∷ []

abbrev pub nested_circuit : Circuit Place
nested_circuit = circuit_of_design nested None

-- the latch inside of the instance is a minimal cut of the design and itself
abbrev pub NestedIsCut : Type 0
NestedIsCut = IsMinimalCut Plain nested_circuit nested_circuit turning

-- two runs meet what agreement onward over it asks for
abbrev pub NestedMeetsOnward : Type 0
NestedMeetsOnward = MeetsOnward turning nested_circuit nested_circuit

-- and with it cut out each sequence over it and the input is obeyed
abbrev pub NestedIsObeyed : Type 0
NestedIsObeyed = IsObeyed turning nested_circuit (codes "a" ∷ turning)
