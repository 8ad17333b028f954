-- Which latch has a name.
use Rattle.std.proofs.Common.{◌≡◌, ◌≢◌, ◌<◌, ◌∙◌, ℕ, List, length, get_or, slice_get, Some, sym, ap, subst}
use Rattle.std.specs.Prelude.{IsSomeAnd}
use Rattle.std.specs.List.{All, Contains}
use Rattle.std.proofs.lemmas.Option.{slice_get-get_or}
use Rattle.circuit_theory.proofs.Lists.{of_at}
use Rattle.flat_net.specs.declared.parts.LatchAt.{LatchAt}
use Rattle.flat_net.specs.declared.parts.Driver.{Driver}
use Rattle.flat_net.specs.declared.parts.Driver.TheVariants as driver
use Rattle.flat_net.specs.View.{NetView}
use Rattle.flat_net.specs.Sound.{IsSound}
use Rattle.flat_net.proofs.Places.{one_at}

module _ (n : NetView) (sound : IsSound n) (name : List ℕ) where
  -- the name of a latch is its signal's
  named_at : (k : ℕ) (d : LatchAt) → k < length n.latches → (get_or n.latches k d).name ≡ name → slice_get n.names (get_or n.latches k d).out.0 ≡ Some name
  named_at k d below same = (sound.latches k _ (slice_get-get_or n.latches k d below)).named ∙ ap Some same

  -- no signal has the name
  pub no_signal_named : (Contains n.names name → ⊥) → All (λ l. l.name ≢ name) n.latches
  no_signal_named none k d below same = none (of_at n.names _ name (named_at k d below same))

  -- a signal has the name, and something else drives it
  pub no_latch_named : (s : ℕ) (e : Driver) → slice_get n.names s ≡ Some name → slice_get n.drivers s ≡ Some e → ((j : ℕ) → e ≡ driver.Latch j → ⊥) → All (λ l. l.name ≢ name) n.latches
  no_latch_named s e here drives other k d below same =
      let own = sound.latches k _ (slice_get-get_or n.latches k d below) in
      let one : s ≡ (get_or n.latches k d).out.0 = sound.distinct s _ name here (named_at k d below same) in
      other k (one_at n.drivers s e (driver.Latch k) drives (ap (slice_get n.drivers) one ∙ own.owner))

  -- a latch drives the signal of the name
  pub latch_is_named : (s j : ℕ) → slice_get n.names s ≡ Some name → slice_get n.drivers s ≡ Some (driver.Latch j) → IsSomeAnd (slice_get n.latches j) (λ l. l.name ≡ name)
  latch_is_named s j here drives =
      let l = sound.drivers s (driver.Latch j) drives in
      let same : l.0.name ≡ name = one_at n.names s l.0.name name (ap (slice_get n.names) (sym l.2) ∙ (sound.latches j l.0 l.1).named) here in
      subst (λ o. IsSomeAnd o (λ (k : LatchAt). k.name ≡ name)) (sym l.1) same
