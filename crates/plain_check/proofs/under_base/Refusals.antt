-- Why circuits aren't compared under an assumption.
use Rattle.std.proofs.Common.{Err, inl}
use Rattle.flat_net.specs.View.{NetView}
use Rattle.sec_base.specs.declared.settings.Settings.{Settings}
use Rattle.sec_setup.specs.declared.error.SetupError.{SetupError}
use Rattle.sec_setup.specs.declared.error.SetupError.TheVariants as unset
use Rattle.sec_setup.specs.Choosing.{Chosen}
use Rattle.sec_setup.specs.Matching.{InterfacesMatch, InterfaceFails as NoMatch}
use Rattle.assume_queries.specs.declared.assume_sequences.assume_taken.error.TakeError.{TakeError}
use Rattle.assume_queries.specs.declared.assume_sequences.assume_taken.error.TakeError.TheVariants as untaken
use Rattle.assume_queries.specs.assume_sequences.assume_taken.Premises.{IsTaken}
use Rattle.plain_check.specs.under_base.compare_base.Compared.{refusal_of as refusal_of_setup}
use Rattle.plain_check.proofs.under_base.compare_base.Refusals.{unchosen}
use Rattle.plain_check.specs.under_base.Compared.{ComparedUnder}
use Rattle.plain_check.specs.under_base.Met.{shared_by, IsMet}
use Rattle.plain_check.specs.under_base.Refusals.{refusal_of}

-- the interfaces don't match
pub unmatched_under : (a b c : NetView) (settings : Settings) (e : SetupError) → NoMatch a b e → ComparedUnder a b c settings (Err (refusal_of_setup e))
unmatched_under a b c settings (unset.Interface name) h = h
unmatched_under a b c settings (unset.Cyclic side names) h = absurd h
unmatched_under a b c settings (unset.Unpaired side names) h = absurd h
unmatched_under a b c settings unset.NoMemory h = tt

-- the third circuit isn't taken
pub untaken_under : (a b c : NetView) (settings : Settings) (e : TakeError) → InterfacesMatch a b → IsTaken (shared_by a b) c settings.conflicts (Err e) → ComparedUnder a b c settings (Err (refusal_of e))
untaken_under a b c settings (untaken.Fault fault) matches h = (matches, inl h)
untaken_under a b c settings (untaken.Vacuous by) matches h = (matches, h)
untaken_under a b c settings untaken.NoMemory matches h = tt

-- no latches are chosen, because of a cycle
pub unchosen_under : (a b c : NetView) (settings : Settings) (e : SetupError) → IsMet a b c → Chosen a b settings.expose (Err e) → ComparedUnder a b c settings (Err (refusal_of_setup e))
unchosen_under a b c settings (unset.Interface name) met h = absurd h
unchosen_under a b c settings (unset.Cyclic side names) met h = (met, unchosen a b settings (unset.Cyclic side names) met.matches h)
unchosen_under a b c settings (unset.Unpaired side names) met h = (met, unchosen a b settings (unset.Unpaired side names) met.matches h)
unchosen_under a b c settings unset.NoMemory met h = tt
