pub use Rattle.cbf_unfold.specs.shift_variables.pair_decide.Proof
