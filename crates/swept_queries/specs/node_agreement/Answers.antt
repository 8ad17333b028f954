-- What attempts tell.
use Rattle.std.specs.Prelude.{◌≡◌, ◌≢◌, ℕ, Bool, List, length, slice_get, Some, None, Option, ⊤}
use Rattle.circuit_theory.specs.Query.{bits_of}
use Rattle.aig.specs.declared.node.Node.{Node}
use Rattle.aig.specs.declared.node.Node.TheVariants.{Input}
use Rattle.aig.specs.Values.{value}
use Rattle.aig.specs.lane_eval.Tables as table
use Rattle.aig.specs.lane_eval.Tables.{assigned_to}
use Rattle.aig.specs.lane_eval.root_classes.Agreeing.{Agree}
use Rattle.aig.specs.lane_eval.root_classes.Inputs.{inputs_of}
use Rattle.sweep_candidates.specs.declared.models.Model.{Model}
use Rattle.pair_decide.specs.declared.query.Decision.{Decision}
use Rattle.pair_decide.specs.declared.query.Decision.TheVariants as answer
use Rattle.swept_queries.specs.declared.node_agreement.question.Tried.{Tried}
use Rattle.swept_queries.specs.declared.node_agreement.question.Tried.TheVariants as tried
use Rattle.swept_queries.specs.declared.node_agreement.question.Cost.{Cost}
use Rattle.swept_queries.specs.declared.node_agreement.proof.Proved.{Proved}
use Rattle.swept_queries.specs.declared.node_agreement.proof.Proved.TheVariants as proved

-- where these variables have these bits, and others 0, the literals differ
abbrev pub DifferAt : List Node → ℕ → ℕ → List ℕ → List Bool → Type 0
DifferAt g x y vars bits = value g (assigned_to vars bits) x ≢ value g (assigned_to vars bits) y

-- the answer to a query is told as it is
abbrev pub IsOutcome : Decision → List ℕ → Tried → Type 0
IsOutcome (answer.Same why) vars t = (cost : Cost) × (t ≡ tried.Same cost)
IsOutcome (answer.Differs bits) vars t = t ≡ tried.Differs vars bits
IsOutcome (answer.Limit proof) vars t = t ≡ tried.Limit

-- no number where the literals agree wherever the care c holds, or else that of an assignment under which they differ
abbrev pub IsFound : List Node → ℕ → ℕ → ℕ → List ℕ → Option ℕ → Type 0
IsFound g x y c vars None = table.Agree g x y c
IsFound g x y c vars (Some number) = DifferAt g x y vars (bits_of number (length vars))

-- the literals agree wherever the care c holds, or bits of all variables tell them apart, or nothing is told
abbrev pub IsAnswer : List Node → ℕ → ℕ → ℕ → Tried → Type 0
IsAnswer g x y c (tried.Same cost) = table.Agree g x y c
IsAnswer g x y c (tried.Differs vars bits) = (vars ≡ inputs_of g) × (length bits ≡ length vars) × DifferAt g x y vars bits
IsAnswer g x y c tried.Limit = ⊤
IsAnswer g x y c tried.Open = ⊤

-- each of these nodes is that of the variable of its place
abbrev pub AreVariables : List Node → List ℕ → List ℕ → Type 0
AreVariables g nodes vars = (i n v : ℕ) → slice_get nodes i ≡ Some n → slice_get vars i ≡ Some v → slice_get g n ≡ Some (Input v)

-- each of these nodes is a variable's, which has the node's bit in the model
pub record IsModelOf (g : List Node) (nodes : List ℕ) (bits : List Bool) (m : Model) : Type 0 where
  pub each : length m.vars.items ≡ length nodes
  pub are : AreVariables g nodes m.vars.items
  pub same : m.bits.items ≡ bits

-- the same of a part of the graph, whose variables are nodes: bits of these tell the literals apart if they are a model's
abbrev pub IsToldOf : List Node → ℕ → ℕ → Tried → Type 0
IsToldOf g x y (tried.Same cost) = Agree g x y
IsToldOf g x y (tried.Differs nodes bits) = (m : Model) → IsModelOf g nodes bits m → DifferAt g x y m.vars.items m.bits.items
IsToldOf g x y tried.Limit = ⊤
IsToldOf g x y tried.Open = ⊤

-- the literals agree, or the model tells them apart, or nothing is told
abbrev pub IsProved : List Node → ℕ → ℕ → Proved → Type 0
IsProved g x y proved.Same = Agree g x y
IsProved g x y (proved.Apart m) = DifferAt g x y m.vars.items m.bits.items
IsProved g x y proved.Open = ⊤
