pub mod Replay
pub mod cut_sides
pub mod replay_header
