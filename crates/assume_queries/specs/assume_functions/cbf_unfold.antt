pub use Rattle.cbf_unfold.specs.Unfolded
