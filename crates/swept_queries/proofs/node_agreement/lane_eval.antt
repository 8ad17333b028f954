pub use Rattle.aig.proofs.lane_eval.Numbered
