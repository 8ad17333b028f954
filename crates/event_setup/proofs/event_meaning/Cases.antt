-- What an outcome that fits is by its verdict.
use Rattle.std.proofs.Common.{◌≡◌, ℕ, Bool, List, refl, subst, inl, inr}
use Rattle.std.specs.Prelude.{◌⊎◌}
use Rattle.flat_net.specs.View.{NetView}
use Rattle.witness_report.specs.declared.witness.Witness.{Witness}
use Rattle.obligations.specs.declared.outcome.verdict.LimitAt.{LimitAt}
use Rattle.obligations.specs.declared.outcome.verdict.LimitAt.TheVariants as limit_at
use Rattle.obligations.specs.declared.outcome.verdict.Outcome.{Outcome}
use Rattle.obligations.specs.declared.outcome.verdict.Unshown.{Unshown}
use Rattle.obligations.specs.declared.outcome.verdict.Verdict.{Verdict}
use Rattle.obligations.specs.declared.outcome.verdict.Verdict.TheVariants as verdict
use Rattle.obligations.specs.declared.outcome.verdict.Why.TheVariants as why
use Rattle.event_setup.specs.event_meaning.event_names.event_fits.EventVerdict.{EventVerdict}
use Rattle.event_setup.specs.event_meaning.event_names.event_fits.EventVerdict.TheVariants as found
use Rattle.event_setup.specs.event_meaning.event_names.event_fits.UnshownPair.{UnshownPair}
use Rattle.event_setup.specs.event_meaning.event_names.event_fits.Fitting.{class_limit, EventOutcomeFits, IsUnrecovered, IsUnclassed, IsComparedByPairs}
use Rattle.event_setup.specs.event_meaning.event_names.event_fits.Named.{latch_names, NamesUnshown, NamesVerdict}

-- the pairs are compared where the verdict is no limit
pub compared : (a b : NetView) (expose : Bool) (conflicts : ℕ) (o : Outcome) → EventOutcomeFits a b expose conflicts o → ((at : LimitAt) → o.verdict ≡ verdict.Limit at → ⊥) → IsComparedByPairs a b expose conflicts o
compared a b expose conflicts o fits never = go fits.rest
  where
    go : IsUnrecovered a b conflicts o ⊎ (IsUnclassed a b expose conflicts o ⊎ IsComparedByPairs a b expose conflicts o) → IsComparedByPairs a b expose conflicts o
    go (inl k) = absurd (never (limit_at.Recover k.side k.name k.proof) k.verdict_is)
    go (inr (inl k)) = absurd (never (class_limit (latch_names k.left.net) (latch_names k.right.net) k.latch k.other k.proof) k.verdict_is)
    go (inr (inr k)) = k

-- no verdict is another
pub equal_no_limit : (v : Verdict) → v ≡ verdict.Equal → (at : LimitAt) → v ≡ verdict.Limit at → ⊥
equal_no_limit v e at h = cc

pub different_no_limit : (v : Verdict) (w : Witness) → v ≡ verdict.Different w → (at : LimitAt) → v ≡ verdict.Limit at → ⊥
different_no_limit v w e at h = cc

pub cut_no_limit : (v : Verdict) (w : Witness) → v ≡ verdict.NotShown (why.Cut w) → (at : LimitAt) → v ≡ verdict.Limit at → ⊥
cut_no_limit v w e at h = cc

pub unshown_no_limit : (v : Verdict) (u : Unshown) → v ≡ verdict.NotShown (why.Events u) → (at : LimitAt) → v ≡ verdict.Limit at → ⊥
unshown_no_limit v u e at h = cc

-- what was found by what is told of it
module _ (left right columns : List (List ℕ)) where
  abbrev Names : EventVerdict → Verdict → Type 0
  Names x v = NamesVerdict left right columns x v

  pub equal_found : (x : EventVerdict) (v : Verdict) → Names x v → v ≡ verdict.Equal → x ≡ found.Equal
  equal_found found.Equal v h e = refl
  equal_found (found.Different w) v h e = absurd (cc)
  equal_found (found.Limit name) v h e = absurd (cc)
  equal_found (found.Cut w) v h e = absurd (cc)
  equal_found (found.Events x) v h e = absurd (let q = h.1 in cc)

  pub different_found : (x : EventVerdict) (v : Verdict) (w : Witness) → Names x v → v ≡ verdict.Different w → x ≡ found.Different w
  different_found found.Equal v w h e = absurd (cc)
  different_found (found.Different y) v w h e = cc
  different_found (found.Limit name) v w h e = absurd (cc)
  different_found (found.Cut y) v w h e = absurd (cc)
  different_found (found.Events x) v w h e = absurd (let q = h.1 in cc)

  pub cut_found : (x : EventVerdict) (v : Verdict) (w : Witness) → Names x v → v ≡ verdict.NotShown (why.Cut w) → x ≡ found.Cut w
  cut_found found.Equal v w h e = absurd (cc)
  cut_found (found.Different y) v w h e = absurd (cc)
  cut_found (found.Limit name) v w h e = absurd (cc)
  cut_found (found.Cut y) v w h e = cc
  cut_found (found.Events x) v w h e = absurd (let q = h.1 in cc)

  one_unshown : (v : Verdict) (t u : Unshown) → v ≡ verdict.NotShown (why.Events t) → v ≡ verdict.NotShown (why.Events u) → t ≡ u
  one_unshown v t u p q = cc

  pub events_found : (x : EventVerdict) (v : Verdict) (u : Unshown) → Names x v → v ≡ verdict.NotShown (why.Events u) → (y : UnshownPair) × (x ≡ found.Events y) × NamesUnshown left right columns y u
  events_found found.Equal v u h e = absurd (cc)
  events_found (found.Different w) v u h e = absurd (cc)
  events_found (found.Limit name) v u h e = absurd (cc)
  events_found (found.Cut w) v u h e = absurd (cc)
  events_found (found.Events x) v u h e = (x, refl, subst (NamesUnshown left right columns x) (one_unshown v h.0 u h.1 e) h.2)
