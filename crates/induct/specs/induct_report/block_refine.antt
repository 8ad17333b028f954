pub use Rattle.block_refine.specs.Refining
pub use Rattle.block_refine.specs.declared.refinement.SplitLimit
