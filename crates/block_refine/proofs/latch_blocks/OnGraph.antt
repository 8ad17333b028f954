-- Literals of signals, and values that are constant on the blocks.
use Rattle.std.proofs.Common.{◌≡◌, ◌∙◌, ℕ, Bool, List, sym}
use Rattle.circuit_theory.specs.Joined.{Either, Left, Right}
use Rattle.sec_base.specs.declared.basics.Orders.{Orders}
use Rattle.flat_net.specs.View.{NetView}
use Rattle.aig.specs.declared.node.Lit.{Lit}
use Rattle.aig.specs.declared.node.Node.{Node}
use Rattle.aig.specs.Values.{value}
use Rattle.block_refine.specs.latch_blocks.Readings.{AreRead}
use Rattle.block_refine.specs.latch_blocks.QueryLaws.{IsLitAt, AreOnGraph, SameLiteralsAgree, AssignmentsAreBlockValues}
use Rattle.block_refine.proofs.latch_blocks.Readings.{readings_are_values, values_have_readings}

-- read by an assignment, each signal has its literal's value
read_value : (a b : NetView) (orders : Orders) (blocks : List ℕ) (g : List Node) (left_lits right_lits : List Lit) (on : AreOnGraph a b orders blocks g left_lits right_lits) (v : ℕ → Bool) (x : Either ℕ ℕ → Bool) →
    AreRead a b on.left on.right v x → (p : Either ℕ ℕ) (l : Lit) → IsLitAt left_lits right_lits p l → x p ≡ value g v l.0
read_value a b orders blocks g left_lits right_lits on v x read (Left s) l at = (on.left_lits_are s l at).values v (λ t. x (Left t)) read.0
read_value a b orders blocks g left_lits right_lits on v x read (Right s) l at = (on.right_lits_are s l at).values v (λ t. x (Right t)) read.1

pub same_literals_agree : SameLiteralsAgree
same_literals_agree a b sound_a sound_b orders blocks g left_lits right_lits on p q l r at_p at_q same x values =
    let found = values_have_readings a b sound_a sound_b orders on.left_long on.right_long on.first blocks on.left on.right on.variables x values.0 values.1 in
    read_value a b orders blocks g left_lits right_lits on found.0 x found.1 p l at_p ∙ same found.0 ∙ sym (read_value a b orders blocks g left_lits right_lits on found.0 x found.1 q r at_q)

pub assignments_are_block_values : AssignmentsAreBlockValues
assignments_are_block_values a b sound_a sound_b orders blocks g left_lits right_lits on v =
    let found = readings_are_values a b sound_a sound_b orders on.left_long on.right_long on.first blocks on.left on.right on.variables v in
    (found.0, (found.1, found.2), λ p l at. read_value a b orders blocks g left_lits right_lits on v found.0 found.3 p l at)
