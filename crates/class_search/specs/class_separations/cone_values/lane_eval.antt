pub use Rattle.aig.specs.lane_eval.Tables
