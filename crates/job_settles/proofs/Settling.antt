-- What a comparison with cares answers says of the circuits of both nets.
use Rattle.std.proofs.Common.{◌≡◌, ◌≢◌, ℕ, true, List, [], ◌∷◌, map, refl, subst, inl, inr, Result, Ok, Err}
use Rattle.std.specs.List.{AllZip}
use Rattle.circuit_theory.specs.declared.Mode.{Mode}
use Rattle.circuit_theory.specs.declared.Mode.TheVariants.{Plain, Event}
use Rattle.flat_net.specs.Sound.{IsSound}
use Rattle.flat_net.specs.View.{NetView}
use Rattle.sec_base.specs.declared.settings.Settings.{Settings}
use Rattle.sec_setup.specs.declared.ports.pairs.SignalPair.{SignalPair}
use Rattle.sec_setup.specs.ports.Pairs.{NamedPair, places_of}
use Rattle.obligations.specs.declared.outcome.verdict.Outcome.{Outcome}
use Rattle.obligations.specs.outcome.Report.{knows_pairs}
use Rattle.edbf_unfold.specs.class_queries.Enables.{both_of}
use Rattle.event_check.specs.event_answers.Settles.{CaresFit, SettlesInEvents}
use Rattle.event_check.specs.event_check_under.Settles.{CaresFitUnder, SettlesInEventsUnder}
use Rattle.event_check.specs.declared.event_answers.outcomes.Settled.{Settled}
use Rattle.event_settles.specs.Cares.{CareFits, CareFitsUnder, CareIs}
use Rattle.event_settles.specs.declared.cares.PairCare.{PairCare}
use Rattle.event_setup.specs.event_meaning.event_meaning_under.Answered.{ComparedInEventsUnder}
use Rattle.event_setup.specs.event_meaning.event_meaning_under.CompareError.{CompareError}
use Rattle.event_setup.specs.event_meaning.event_meaning_under.Taken.{assumed_by}
use Rattle.job_settles.specs.Found.{CanTell}
use Rattle.job_settles.specs.Says.{SaysNever, SaysNeverOfAll, SaysNeverUnder, SaysNeverOfAllUnder}
use Rattle.job_settles.specs.Settled.{SettledIn, SettledUnderIn}
use Rattle.job_settles.proofs.Nevers.{event_never, event_never_under}

-- in the event mode the cares are asked for
pub event_settled : (a b : NetView) (s : Settings) (r : Result Settled CompareError) → SettlesInEvents true a b s r → SettledIn Event a b s r
event_settled a b s (Ok x) h = (h.0, h.1 refl)
event_settled a b s (Err e) h = h

pub event_settled_under : (a b c : NetView) (s : Settings) (r : Result Settled CompareError) → SettlesInEventsUnder true a b c s r → SettledUnderIn Event a b c s r
event_settled_under a b c s (Ok x) h = (h.0, h.1 refl)
event_settled_under a b c s (Err e) h = h

-- there are cares in the event mode alone, and where pairs are asked about
pub can_tell : (mode : Mode) (a b : NetView) (s : Settings) (r : Result Settled CompareError) → s.mode ≡ mode → SettledIn mode a b s r → CanTell s r
can_tell Plain a b s (Ok x) is h = λ some. absurd (some h.1)
can_tell Event a b s (Ok x) is h = λ some. by h.1 some
  where
    by : CaresFit a b s x.outcome x.cares → x.cares ≢ [] → (s.mode ≡ Event) × (knows_pairs x.outcome.verdict ≡ true)
    by (inl none) some = absurd (some none.1)
    by (inr k) some = (is, k.known)
can_tell mode a b s (Err e) is h = tt

pub can_tell_under : (mode : Mode) (a b c : NetView) (s : Settings) (r : Result Settled CompareError) → s.mode ≡ mode → SettledUnderIn mode a b c s r → CanTell s r
can_tell_under Plain a b c s (Ok x) is h = λ some. absurd (some h.1)
can_tell_under Event a b c s (Ok x) is h = λ some. by h.1 some
  where
    by : CaresFitUnder a b c s x.outcome x.cares → x.cares ≢ [] → (s.mode ≡ Event) × (knows_pairs x.outcome.verdict ≡ true)
    by (inl none) some = absurd (some none.1)
    by (inr k) some = (is, k.known)
can_tell_under mode a b c s (Err e) is h = tt

-- what is said of each pair is said of it by its places
zip_places : (R : SignalPair → PairCare → Type 0) (S : NamedPair ℕ ℕ → PairCare → Type 0) → ((p : SignalPair) (c : PairCare) → R p c → S (places_of p) c) → (pairs : List SignalPair) (cares : List PairCare) → AllZip R pairs cares → AllZip S (map places_of pairs) cares
zip_places R S f [] [] h = tt
zip_places R S f [] (c ∷ cares) h = absurd h
zip_places R S f (p ∷ pairs) [] h = absurd h
zip_places R S f (p ∷ pairs) (c ∷ cares) h = (f p c h.0, zip_places R S f pairs cares h.1)

module _ (a b : NetView) (s : Settings) (o : Outcome) (cares : List PairCare) (sa : IsSound a) (sb : IsSound b) where
  never_of_all : CaresFit a b s o cares → SaysNeverOfAll a b o cares
  never_of_all (inl none) some = absurd (some none.1)
  never_of_all (inr k) some =
      subst (λ (ps : List (NamedPair ℕ ℕ)). AllZip (SaysNever a b) ps cares) k.listed
      (zip_places (CareFits (both_of k.left k.right) s.conflicts) (SaysNever a b)
      (λ p c h. record { named = h.name_is; never = λ idle e. event_never a b s.expose o.exposed k.left k.right sa sb k.reached.circuits k.classes p.left.0 p.right.0 (subst (CareIs _ _ s.conflicts) e h.care_is) }) k.pairs cares k.each)

  never_of_all_under : (c : NetView) → CaresFitUnder a b c s o cares → SaysNeverOfAllUnder a b c o cares
  never_of_all_under c (inl none) some = absurd (some none.1)
  never_of_all_under c (inr k) some = (
    k.met,
    subst (λ (ps : List (NamedPair ℕ ℕ)). AllZip (SaysNeverUnder (assumed_by k.met.assumed) a b) ps cares) k.listed
        (zip_places (CareFitsUnder (assumed_by k.met.assumed) (both_of k.left k.right) s.conflicts) (SaysNeverUnder (assumed_by k.met.assumed) a b)
        (λ p x h. record {
          named = h.name_is;
          never = λ idle e. event_never_under a b s.expose o.exposed k.left k.right sa sb k.reached.circuits k.classes (assumed_by k.met.assumed) k.reads p.left.0 p.right.0 (subst (CareIs _ _ s.conflicts) e h.care_is);
        }) k.pairs cares k.each),
  )

-- what is said where the comparison has this answer
pub settled_says : (mode : Mode) (a b : NetView) (s : Settings) (o : Outcome) (cares : List PairCare) → SettledIn mode a b s (Ok (record { outcome = o; cares = cares })) → SaysNeverOfAll a b o cares
settled_says Plain a b s o cares h = λ some. absurd (some h.1)
settled_says Event a b s o cares h = never_of_all a b s o cares h.0.left_sound h.0.right_sound h.1

pub settled_says_under : (mode : Mode) (a b c : NetView) (s : Settings) (o : Outcome) (cares : List PairCare) → SettledUnderIn mode a b c s (Ok (record { outcome = o; cares = cares })) → SaysNeverOfAllUnder a b c o cares
settled_says_under Plain a b c s o cares h = λ some. absurd (some h.1)
settled_says_under Event a b c s o cares h = by h.0
  where
    by : ComparedInEventsUnder a b c s (Ok o) → SaysNeverOfAllUnder a b c o cares
    by (inl limit) = never_of_all_under a b s o cares limit.left_sound limit.right_sound c h.1
    by (inr k) = never_of_all_under a b s o cares k.left_sound k.right_sound c h.1
