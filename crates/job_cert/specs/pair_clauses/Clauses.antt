-- The clauses of the outputs of one name.
use Rattle.std.specs.Prelude.{◌≡◌, ◌↔◌, ℕ, ◌*◌, ◌<◌, ◌≤◌, ◌^◌, Bool, false, List, length, slice_get, Some, Result, Ok, Err}
use Rattle.std.specs.List.{Contains}
use Rattle.circuit_theory.specs.declared.Mode.TheVariants.{Plain}
use Rattle.circuit_theory.specs.Circuit.{Circuit}
use Rattle.circuit_theory.specs.Net.{IsNet}
use Rattle.circuit_theory.specs.Interface.{shared_inputs, AreNumbersOf}
use Rattle.circuit_theory.specs.Asked.{HaveEqualFunctions}
use Rattle.circuit_theory.specs.Tree.{Tree, Unfolds}
use Rattle.base_tables.specs.Table.{AreDistinct}
use Rattle.flat_net.specs.View.{NetView, circuit_of, ports_of}
use Rattle.sec_setup.specs.declared.ports.pairs.SignalPair.{SignalPair}
use Rattle.aig.specs.declared.node.Node.{Node}
use Rattle.aig.specs.Graph.{IsGraph}
use Rattle.aig.specs.Builds.{Builds}
use Rattle.tree_graph.specs.Numbering.{IsGraphOf}
use Rattle.proof_check.specs.Literals.{Literal}
use Rattle.proof_check.specs.Clauses.{Satisfies, Unsatisfiable}
use Rattle.pair_decide.specs.declared.cnf_encode.cnf.Cnf.{Cnf}
use Rattle.pair_decide.specs.cnf_encode.Encoding.{IsSmall, IsEncoding}
use Rattle.sec_base.specs.declared.settings.Settings.{Settings}
use Rattle.sec_setup.specs.Cycles.{IsAcyclic}
use Rattle.sec_setup.specs.Matching.{InterfacesMatch}
use Rattle.plain_asked.specs.outcome_fits.Fitting.{IsLight}
use Rattle.plain_asked.specs.outcome_fits.Outcome.{HaveDifferentFunctions}
use Rattle.plain_asked.specs.declared.error.PlainError.{PlainError}
use Rattle.plain_asked.specs.declared.error.PlainError.TheVariants as oversize
use Rattle.plain_check.specs.under_base.compare_base.Compared.{Compared}
use Rattle.plain_check.specs.declared.under_base.compare_base.error.CompareError.{CompareError}
use Rattle.plain_check.specs.declared.under_base.compare_base.error.CompareError.TheVariants as refused
use Rattle.witness_report.specs.declared.witness.PairName.TheVariants.{Output}
use Rattle.job_base.specs.sec_files.Loading.{Loads}
use Rattle.job_cert.specs.declared.pair_clauses.error.CertError.{CertError}
use Rattle.job_cert.specs.declared.pair_clauses.error.CertError.TheVariants.{Compare, Pair}

-- some values meet all clauses
abbrev pub CanBeMet : List (List Literal) → Type 0
CanBeMet clauses = (v : ℕ → Bool) × Satisfies v clauses

-- The clauses can be met exactly where the functions of the two places differ, and where they can't, the functions are equal. There are
-- at most 2^30 of them.
pub record TellDifference {P Q : Type 0} (a : Circuit P) (b : Circuit Q) (left right : List ℕ) (p : P) (q : Q) (cnf : Cnf) : Type 0 where
  pub exactly : CanBeMet cnf.clauses ↔ HaveDifferentFunctions a b left right p q
  pub equal : Unsatisfiable cnf.clauses → HaveEqualFunctions a b left right p q
  pub small : IsSmall cnf
  pub few : length cnf.clauses ≤ 2 ^ 30

-- The clauses are those of two literals of a graph without double nodes, and of a care that holds always. The literals are built from
-- the function trees of the two places by the rules of covers alone, where no input at a shift has two variables; and the graph is that
-- of the two trees, so that its nodes, by which the clauses' variables go, are numbered by the trees alone.
pub record AreEncoded {P Q : Type 0} (a : Circuit P) (b : Circuit Q) (left right : List ℕ) (p : P) (q : Q) (cnf : Cnf) : Type 0 where
  pub left_depth : ℕ
  pub right_depth : ℕ
  pub left_tree : Tree ℕ
  pub right_tree : Tree ℕ
  pub left_unfolds : Unfolds a left p 0 left_depth left_tree
  pub right_unfolds : Unfolds b right q 0 right_depth right_tree
  pub graph : List Node
  pub places : List (ℕ × ℕ)
  pub is_graph : IsGraph graph
  pub distinct : AreDistinct places
  pub left_lit : ℕ
  pub right_lit : ℕ
  pub left_built : Builds graph places left_tree left_lit
  pub right_built : Builds graph places right_tree right_lit
  pub left_within : left_lit < 2 * length graph
  pub right_within : right_lit < 2 * length graph
  pub numbered : IsGraphOf left_tree right_tree places graph left_lit right_lit
  pub clauses : IsEncoding graph left_lit right_lit 1 cnf

-- two places have one number of variables and one list of clauses
abbrev pub HaveOneEncoding : Type 0
HaveOneEncoding =
    (a b : NetView) (left right : List ℕ) (p q : ℕ) (c d : Cnf) → IsNet (circuit_of a) (length a.drivers) → IsNet (circuit_of b) (length b.drivers) →
    AreEncoded (circuit_of a) (circuit_of b) left right p q c → AreEncoded (circuit_of a) (circuit_of b) left right p q d → (c.variables ≡ d.variables) × (c.clauses ≡ d.clauses)

-- nothing keeps the circuits from being compared where no latch is cut open
pub record CanBeUnfolded (a b : NetView) : Type 0 where
  pub matches : InterfacesMatch a b
  pub left_acyclic : IsAcyclic a
  pub right_acyclic : IsAcyclic b
  pub left_light : IsLight a
  pub right_light : IsLight b

-- an output of this name stands at the place
abbrev pub IsOutput : {P : Type 0} → Circuit P → List ℕ → P → Type 0
IsOutput c name p = Contains c.outputs (record { name = name; place = p })

-- The clauses of the outputs of this name, over the inputs in the numbers that a comparison gives them.
pub record ArePairClauses (a b : NetView) (name : List ℕ) (cnf : Cnf) : Type 0 where
  pub unfolded : CanBeUnfolded a b
  pub left : List ℕ
  pub right : List ℕ
  pub left_numbers : AreNumbersOf (ports_of a).inputs (shared_inputs (ports_of a) (ports_of b)) left right
  pub right_numbers : AreNumbersOf (ports_of b).inputs (shared_inputs (ports_of a) (ports_of b)) right left
  pub left_place : ℕ
  pub right_place : ℕ
  pub left_output : IsOutput (circuit_of a) name left_place
  pub right_output : IsOutput (circuit_of b) name right_place
  pub encoded : AreEncoded (circuit_of a) (circuit_of b) left right left_place right_place cnf
  pub tell : TellDifference (circuit_of a) (circuit_of b) left right left_place right_place cnf

-- no output of either circuit has the name
abbrev pub IsNoOutput : NetView → List ℕ → Type 0
IsNoOutput n name = (p : ℕ) → IsOutput (circuit_of n) name p → ⊥

-- two texts have one number of variables and one list of clauses of a name, whichever nets they are loaded as
abbrev pub TextsHaveOneEncoding : Type 0
TextsHaveOneEncoding =
    (x y name : List ℕ) (a b m k : NetView) (c d : Cnf) → Loads x a → Loads y b → Loads x m → Loads y k → ArePairClauses a b name c → ArePairClauses m k name d →
    (c.variables ≡ d.variables) × (c.clauses ≡ d.clauses)

-- a comparison in the plain form without latches that are cut open; a refusal doesn't depend on the number of conflicts
abbrev pub plainly : Settings
plainly = record { mode = Plain; expose = false; conflicts = 0; reset = false }

-- the clauses of the outputs of this name, or the first refusal: what a comparison refuses, then a name that no output has
abbrev pub PairGives : NetView → NetView → List ℕ → Result Cnf CertError → Type 0
PairGives a b name (Ok cnf) = ArePairClauses a b name cnf
PairGives a b name (Err (Compare e)) = Compared a b plainly (Err e)
PairGives a b name (Err (Pair word)) = (word ≡ name) × CanBeUnfolded a b × IsNoOutput a name × IsNoOutput b name

-- the circuit that is too large
abbrev pub size_refusal_of : PlainError → CompareError
size_refusal_of (oversize.TooLarge side) = refused.TooLarge side
size_refusal_of oversize.NoMemory = refused.NoMemory

-- the outputs of this name stand at the place
abbrev pub IsPairNamed : List SignalPair → List ℕ → ℕ → Type 0
IsPairNamed pairs name place = (p : SignalPair) × (slice_get pairs place ≡ Some p) × (p.name ≡ Output name)
