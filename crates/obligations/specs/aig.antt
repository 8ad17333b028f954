pub use Rattle.aig.specs.Cone
pub use Rattle.aig.specs.Graph
pub use Rattle.aig.specs.Values
pub use Rattle.aig.specs.declared.node.Node
