pub use Rattle.event_form.proofs.event_agreement.PairQueries
