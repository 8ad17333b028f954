pub use Rattle.proof_check.specs.Chains
pub use Rattle.proof_check.specs.Clauses
pub use Rattle.proof_check.specs.Literals
pub use Rattle.proof_check.specs.declared.derivation.Chain
pub use Rattle.proof_check.specs.declared.derivation.ChainKind
pub use Rattle.proof_check.specs.declared.derivation.ProofError
