pub mod Standing
pub mod Answers
pub mod pair_decide
pub mod lane_eval
pub use Rattle.aig.specs.lane_eval.root_classes.Agreeing
pub use Rattle.aig.specs.lane_eval.root_classes.Leads
