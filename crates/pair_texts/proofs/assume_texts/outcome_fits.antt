pub use Rattle.outcome_fits.proofs.plain_meaning.Fitted
