-- The sequence gives the tree's value, and the literal has it too.
use Rattle.std.proofs.Common.{◌∙◌, ℕ, Bool, sym}
use Rattle.circuit_theory.specs.Query.{assigned, same_shift}
use Rattle.circuit_laws.proofs.Windows.{window, assigned_above}
use Rattle.flat_net.specs.View.{circuit_of}
use Rattle.cbf_unfold.proofs.laws.windows.Goals as goal

pub returns : goal.returns
returns c = λ n order g places s x vars values u variables bits count last all deep cycles run is_run within takes a has.
    let x_bits : ℕ → ℕ → Bool = assigned same_shift variables bits in
    window (circuit_of n) order s u.depth u.tree u.unfolds x_bits count last deep (λ i k h. assigned_above variables bits count i k all h) cycles run is_run within takes
    ∙ sym (values places x_bits a u.tree x has u.builds)
