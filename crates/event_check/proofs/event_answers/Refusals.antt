-- Why circuits aren't compared.
use Rattle.std.proofs.Common.{◌≡◌, ℕ, List, map, refl, sym, subst, inl, inr, Result, Err}
use Rattle.flat_net.specs.View.{NetView, circuit_of}
use Rattle.sec_setup.specs.declared.ports.pairs.SignalPair.{SignalPair}
use Rattle.sec_setup.specs.ports.Pairs.{named_pairs, places_of}
use Rattle.sec_base.specs.declared.settings.Settings.{Settings}
use Rattle.sec_setup.specs.declared.error.SetupError.{SetupError}
use Rattle.sec_setup.specs.declared.error.SetupError.TheVariants as unset
use Rattle.sec_setup.specs.Matching.{InterfacesMatch}
use Rattle.obligations.specs.declared.outcome.verdict.LimitAt.{LimitAt}
use Rattle.event_classes.specs.declared.error.EventError.{EventError}
use Rattle.event_classes.specs.declared.error.EventError.TheVariants as event_error
use Rattle.event_comparison.specs.class_events.Refused.{IsRefusedMap}
use Rattle.event_nodes.specs.View.{EventCircuitView}
use Rattle.event_setup.specs.declared.error.RecoveryError.{RecoveryError}
use Rattle.event_setup.specs.declared.error.RecoveryError.TheVariants as unknown
use Rattle.event_setup.specs.declared.setup.EventSetup.{EventSetup}
use Rattle.event_setup.specs.Choosing.{RefusesCycle}
use Rattle.event_setup.specs.Recovered.{AreKnown, RecoversBoth}
use Rattle.plain_check.specs.declared.under_base.compare_base.error.CompareError.{CompareError}
use Rattle.plain_check.specs.declared.under_base.compare_base.error.CompareError.TheVariants as refused
use Rattle.plain_check.specs.under_base.compare_base.Compared.{refusal_of}
use Rattle.event_setup.specs.event_meaning.event_names.event_fits.Circuits.{AreReached}
use Rattle.event_setup.specs.event_meaning.event_names.event_fits.Compared.{ComparedInEvents}
use Rattle.event_setup.specs.event_meaning.event_names.event_fits.Named.{latch_names}
use Rattle.event_setup.specs.declared.event_meaning.event_names.names.Names.{Names}
use Rattle.event_setup.proofs.event_meaning.event_names.Naming.{tag_named, other_named}
use Rattle.event_check.specs.event_answers.Finding.{AreNotUnfolded}
use Rattle.event_check.specs.event_answers.Limits.{CanTell, TellsLimit, TellsUnknown}

abbrev Told : CompareError → Result LimitAt CompareError
Told e = Err e

one_refusal : (x y : CompareError) → Told x ≡ Told y → y ≡ x
one_refusal x y q = cc

-- the latches at the limit of a class query have names
pub can_tell : {X : Type 0} (a b : EventCircuitView) (n : Names) (conflicts : ℕ) → n.left ≡ latch_names a.net → n.right ≡ latch_names b.net → (error : EventError) → IsRefusedMap {X = X} a b conflicts (Err error) → CanTell n error
can_tell a b n conflicts left right (event_error.Limit latch other proof) h =
    let k = h.limit latch other proof refl in
    (tag_named a.net b.net n left right latch k.names, other_named a.net b.net n left right other k.other_names)
can_tell a b n conflicts left right event_error.TooManyEvents h = tt
can_tell a b n conflicts left right (event_error.TooLarge side) h = tt
can_tell a b n conflicts left right event_error.NoMemory h = tt

module _ (a b : NetView) (settings : Settings) (matches : InterfacesMatch a b) where
  -- what is refused is told
  by : (x y : CompareError) → Told x ≡ Told y → ComparedInEvents a b settings (Err y) → ComparedInEvents a b settings (Err x)
  by x y q h = subst (λ (z : CompareError). ComparedInEvents a b settings (Err z)) (one_refusal x y q) h

  -- it isn't known which latches are enabled
  pub unknown_refused : (error : RecoveryError) → RecoversBoth a b settings.conflicts (Err error) → (e : CompareError) → TellsUnknown error (Err e) → ComparedInEvents a b settings (Err e)
  unknown_refused (unknown.Limit side name proof) h e told = absurd (cc)
  unknown_refused (unknown.TooLarge side) h e told = by e (refused.TooLarge side) told (matches, inl h)
  unknown_refused unknown.NoMemory h e told = by e refused.NoMemory told tt

  -- cycles are refused
  pub cycle_refused : (e : SetupError) → AreKnown a → AreKnown b → RefusesCycle a b settings.expose e → ComparedInEvents a b settings (Err (refusal_of e))
  cycle_refused (unset.Interface name) left right h = absurd h
  cycle_refused (unset.Cyclic side names) left right h = (matches, left, right, h)
  cycle_refused (unset.Unpaired side names) left right h = (matches, left, right, h)
  cycle_refused unset.NoMemory left right h = tt

  -- the classes can't be made
  pub map_refused : {X : Type 0} (s : EventSetup) (n : Names) → AreReached a b settings.expose s.exposed s.left s.right → (error : EventError) → IsRefusedMap {X = X} s.left s.right settings.conflicts (Err error) → (e : CompareError) → TellsLimit n error (Err e) →
      ComparedInEvents a b settings (Err e)
  map_refused s n at (event_error.Limit latch other proof) h e told = subst (λ (z : CompareError). ComparedInEvents a b settings (Err z)) (sym told) tt
  map_refused s n at event_error.TooManyEvents h e told = by e refused.TooManyEvents told (matches, inl (s.exposed, s.left, s.right, at, h.many refl))
  map_refused s n at (event_error.TooLarge side) h e told = by e (refused.TooLarge side) told (matches, inr (inl (s.exposed, s.left, s.right, at, h.large side refl)))
  map_refused s n at event_error.NoMemory h e told = by e refused.NoMemory told tt

  -- the pairs can't be unfolded
  pub pairs_refused : (exposed : List (List ℕ)) (left right : EventCircuitView) → AreReached a b settings.expose exposed left right → (pairs : List SignalPair) → map places_of pairs ≡ named_pairs exposed (circuit_of a) (circuit_of b) → (e : CompareError) →
      AreNotUnfolded left right pairs e → ComparedInEvents a b settings (Err e)
  pairs_refused exposed left right at pairs listed (refused.Interface name) h = absurd h
  pairs_refused exposed left right at pairs listed (refused.Cyclic side names) h = absurd h
  pairs_refused exposed left right at pairs listed (refused.Unpaired side names) h = absurd h
  pairs_refused exposed left right at pairs listed (refused.TooLarge side) h = (
    matches,
    inr (inr (record { names = exposed; left = left; right = right; reached = at; made = h.0; pairs = pairs; listed = listed; stops = h.1 })),
  )
  pairs_refused exposed left right at pairs listed refused.TooManyEvents h = (
    matches,
    inr (record { names = exposed; left = left; right = right; reached = at; made = h.0; pairs = pairs; listed = listed; stops = h.1 }),
  )
  pairs_refused exposed left right at pairs listed (refused.Assume fault) h = absurd h
  pairs_refused exposed left right at pairs listed (refused.Vacuous by_this) h = absurd h
  pairs_refused exposed left right at pairs listed refused.NoMemory h = tt
