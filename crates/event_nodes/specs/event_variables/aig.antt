pub use Rattle.aig.specs.Builds
pub use Rattle.aig.specs.Cone
pub use Rattle.aig.specs.Graph
pub use Rattle.aig.specs.Rules
pub use Rattle.aig.specs.Values
pub use Rattle.aig.specs.declared.node.Lit
pub use Rattle.aig.specs.declared.node.Node
