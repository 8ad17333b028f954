pub use Rattle.aig.specs.lane_eval.Blocks
pub use Rattle.aig.specs.lane_eval.Signatures
