pub mod Stood
pub mod Asked
pub mod Told
pub mod Modelled
pub mod Known
pub mod pair_decide
pub mod lane_eval
