pub use Rattle.pair_decide.specs.aig.Cone
pub use Rattle.pair_decide.specs.aig.Graph
pub use Rattle.pair_decide.specs.aig.Values
pub use Rattle.pair_decide.specs.aig.Node
