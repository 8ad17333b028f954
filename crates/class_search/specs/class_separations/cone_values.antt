pub mod Bits
pub mod lane_eval
