pub use Rattle.outcome_fits.specs.Fitting
pub use Rattle.outcome_fits.specs.ResetOutcome
