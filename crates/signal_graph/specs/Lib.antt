pub mod Graph
pub mod unfolding_weight
pub mod flat_net
pub mod inner_cone
