-- Why circuits aren't compared.
use Rattle.std.specs.Prelude.{IsErrAnd}
use Rattle.std.proofs.Common.{◌≡◌, sym, subst, Result, Ok, Err}
use Rattle.circuit_theory.specs.declared.Side.TheVariants.{A, B}
use Rattle.flat_net.specs.View.{NetView}
use Rattle.sec_base.specs.declared.settings.Settings.{Settings}
use Rattle.obligations.specs.declared.outcome.verdict.Outcome.{Outcome}
use Rattle.sec_setup.specs.declared.error.SetupError.{SetupError}
use Rattle.sec_setup.specs.declared.error.SetupError.TheVariants as unset
use Rattle.sec_setup.specs.Choosing.{Chosen}
use Rattle.sec_setup.specs.Matching.{InterfacesMatch, InterfaceFails as NoMatch}
use Rattle.plain_check.specs.declared.under_base.compare_base.error.CompareError.{CompareError}
use Rattle.plain_check.specs.declared.under_base.compare_base.error.CompareError.TheVariants as refused
use Rattle.plain_check.specs.under_base.compare_base.Compared.{Compared, InterfaceFails, refusal_of}

-- what is true of a refusal is true of the result that it is
pub refused_by : {X : Type 0} (P : Result X CompareError → Type 0) (r : Result X CompareError) (e : CompareError) → IsErrAnd r (λ x. x ≡ e) → P (Err e) → P r
refused_by P (Ok x) e h p = absurd h
refused_by P (Err x) e h p = subst (λ (y : CompareError). P (Err y)) (sym h) p

-- want of memory
pub memory_wanted : (a b : NetView) (settings : Settings) (r : Result Outcome CompareError) → IsErrAnd r (λ e. e ≡ refused.NoMemory) → Compared a b settings r
memory_wanted a b settings r h = refused_by (Compared a b settings) r refused.NoMemory h tt

-- the interfaces don't match
pub unmatched : (a b : NetView) (settings : Settings) (e : SetupError) → NoMatch a b e → Compared a b settings (Err (refusal_of e))
unmatched a b settings (unset.Interface name) h = h
unmatched a b settings (unset.Cyclic side names) h = absurd h
unmatched a b settings (unset.Unpaired side names) h = absurd h
unmatched a b settings unset.NoMemory h = tt

pub interface_fails : (a b : NetView) (e : SetupError) → NoMatch a b e → InterfaceFails a b (refusal_of e)
interface_fails a b (unset.Interface name) h = h
interface_fails a b (unset.Cyclic side names) h = absurd h
interface_fails a b (unset.Unpaired side names) h = absurd h
interface_fails a b unset.NoMemory h = tt

-- no latches are chosen, because of a cycle
pub unchosen : (a b : NetView) (settings : Settings) (e : SetupError) → InterfacesMatch a b → Chosen a b settings.expose (Err e) → Compared a b settings (Err (refusal_of e))
unchosen a b settings (unset.Interface name) matches h = absurd h
unchosen a b settings (unset.Cyclic A names) matches h = (matches, h.0, h.1)
unchosen a b settings (unset.Cyclic B names) matches h = (matches, h.0, h.1, h.2)
unchosen a b settings (unset.Unpaired A names) matches h = (matches, h.0, h.1)
unchosen a b settings (unset.Unpaired B names) matches h = (matches, h.0, h.1, h.2)
unchosen a b settings unset.NoMemory matches h = tt
