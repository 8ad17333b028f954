pub use Rattle.block_refine.specs.block_graph.Graph
pub use Rattle.block_refine.specs.declared.block_graph.graph.BlockGraph
pub use Rattle.block_refine.specs.declared.block_graph.nets.BlockNets
