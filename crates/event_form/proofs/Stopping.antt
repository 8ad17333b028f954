-- Where the unfolding of pairs stops.
use Rattle.std.proofs.Common.{◌≡◌, ◌∙◌, ◌+◌, ◌<◌, ℕ, suc, List, [], ◌∷◌, ◌++◌, map, length, take, drop, get_or, Result, Ok, Err, sym, ap, subst, append_assoc, append-nil}
use Rattle.std.proofs.lemmas.List.{map-append, take-append-drop}
use Rattle.std.proofs.Math.Seq.{drop-cons}
use Rattle.circuit_theory.specs.declared.Side.{Side}
use Rattle.circuit_theory.specs.declared.Side.TheVariants.{A, B}
use Rattle.circuit_theory.specs.EventSizes.{Start}
use Rattle.event_nodes.specs.declared.error.EventUnfoldError.{EventUnfoldError}
use Rattle.event_classes.specs.event_functions.Functions.{signal_start}
use Rattle.event_form.specs.event_agreement.pair_events.Laws.{AreKept}
use Rattle.sec_setup.specs.declared.ports.pairs.SignalPair.{SignalPair}
use Rattle.event_form.specs.event_agreement.pair_events.Counted.{GoOnCounting, HaveCounted, IsRefusedBy, IsTooLarge}
use Rattle.event_form.specs.event_agreement.pair_events.View.{EventsView, IsWithinLimits}
use Rattle.event_form.specs.event_agreement.pair_events.Within.{IsCountedOnce}
use Rattle.event_form.specs.declared.error.EventFormError.{EventFormError}
use Rattle.event_form.specs.declared.error.EventFormError.TheVariants as form_error
use Rattle.event_form.specs.Asked.{IsLater}
use Rattle.event_form.specs.Counted.{CountsOn, left_starts, right_starts}
use Rattle.event_form.specs.Refused.{IsToldAs}
use Rattle.event_form.specs.Stopped.{IsReachedAt, IsFirstStop, IsStoppedFor, IsPairStopped, IsSignalStopped, signal_of, lefts_before}
use Rattle.event_form.proofs.Asking.{later_trans}
use Rattle.event_form.proofs.Refusing.{told_many, told_large}

-- a signal that isn't unfolded, as the form tells it
pub signal_stopped : {X : Type 0} (side : Side) (p : ℕ) (e : EventsView) (made : Result X EventUnfoldError) (told : Result X EventFormError) → IsToldAs side made told → IsRefusedBy side p e made → IsSignalStopped side p e told
signal_stopped side p e made told is k = record {
  many = λ same. k.many (told_many side made told is same);
  large = λ other same. (let m = told_large side made told is other same in (m.0, k.large m.1));
}

-- a result and want of memory say nothing
pub never_stopped : {X : Type 0} (pairs : List SignalPair) (e : EventsView) (x : X) → IsStoppedFor pairs e (Ok x)
never_stopped {X} pairs e x = record { many = λ is. absurd (many is); large = λ side is. absurd (large side is) }
  where
    many : ◌≡◌ {A = Result X EventFormError} (Ok x) (Err form_error.TooManyEvents) → ⊥
    many q = cc

    large : (side : Side) → ◌≡◌ {A = Result X EventFormError} (Ok x) (Err (form_error.TooLarge side)) → ⊥
    large side q = cc

pub pair_never_stopped : {X : Type 0} (p : SignalPair) (e : EventsView) (x : X) → IsPairStopped p e (Ok x)
pair_never_stopped {X} p e x = record { many = λ is. absurd (many is); large = λ side is. absurd (large side is) }
  where
    many : ◌≡◌ {A = Result X EventFormError} (Ok x) (Err form_error.TooManyEvents) → ⊥
    many q = cc

    large : (side : Side) → ◌≡◌ {A = Result X EventFormError} (Ok x) (Err (form_error.TooLarge side)) → ⊥
    large side q = cc

no_many : {X : Type 0} → ◌≡◌ {A = Result X EventFormError} (Err form_error.NoMemory) (Err form_error.TooManyEvents) → ⊥
no_many q = cc

no_large : {X : Type 0} (side : Side) → ◌≡◌ {A = Result X EventFormError} (Err form_error.NoMemory) (Err (form_error.TooLarge side)) → ⊥
no_large side q = cc

pub memory_stopped : {X : Type 0} (pairs : List SignalPair) (e : EventsView) → IsStoppedFor {X = X} pairs e (Err form_error.NoMemory)
memory_stopped {X} pairs e = record { many = λ is. absurd (no_many {X = X} is); large = λ side is. absurd (no_large {X = X} side is) }

pub pair_memory_stopped : {X : Type 0} (p : SignalPair) (e : EventsView) → IsPairStopped {X = X} p e (Err form_error.NoMemory)
pair_memory_stopped {X} p e = record { many = λ is. absurd (no_many {X = X} is); large = λ side is. absurd (no_large {X = X} side is) }

-- A's signal of a pair comes first
left_reached : (e : EventsView) (p : SignalPair) → IsLater e e → AreKept e.left e.right e.events → IsCountedOnce e → IsWithinLimits e → IsReachedAt [] p A e e
left_reached e p later kept once within = record {
  later = later;
  kept = kept;
  once = once;
  within = within;
  counted = λ left right k. subst (λ (xs : List (Start ℕ)). HaveCounted e xs (right ++ [])) (sym (append-nil left)) (subst (HaveCounted e left) (sym (append-nil right)) k);
}

-- then B's
right_reached : (old mid : EventsView) (p : SignalPair) → IsLater old mid → AreKept mid.left mid.right mid.events → IsCountedOnce mid → IsWithinLimits mid → GoOnCounting A p.left.0 old mid → IsReachedAt [] p B old mid
right_reached old mid p later kept once within count = record {
  later = later;
  kept = kept;
  once = once;
  within = within;
  counted = λ left right k. subst (HaveCounted mid (left ++ signal_start p.left.0 ∷ [])) (sym (append-nil right)) (count left right k);
}

pub left_stopped : {X Y : Type 0} (e : EventsView) (p : SignalPair) → IsLater e e → AreKept e.left e.right e.events → IsCountedOnce e → IsWithinLimits e → (result : Result X EventFormError) (told : Result Y EventFormError) → ((error : EventFormError) → told ≡ Err error → result ≡ Err error) → IsSignalStopped A p.left.0 e result →
    IsPairStopped p e told
left_stopped e p later kept once within result told same k = record {
  many = λ is. (A, e, left_reached e p later kept once within, k.many (same form_error.TooManyEvents is));
  large = λ side is. go side (k.large side (same (form_error.TooLarge side) is));
}
  where
    go : (side : Side) → (A ≡ side) × IsTooLarge A p.left.0 e → (at : EventsView) × IsReachedAt [] p side e at × IsTooLarge side (signal_of side p) at
    go A m = (e, left_reached e p later kept once within, m.1)
    go B m = absurd (let q = m.0 in cc)

pub right_stopped : {X Y : Type 0} (old mid : EventsView) (p : SignalPair) → IsLater old mid → AreKept mid.left mid.right mid.events → IsCountedOnce mid → IsWithinLimits mid → GoOnCounting A p.left.0 old mid → (result : Result X EventFormError) (told : Result Y EventFormError) →
    ((error : EventFormError) → told ≡ Err error → result ≡ Err error) → IsSignalStopped B p.right.0 mid result → IsPairStopped p old told
right_stopped old mid p later kept once within count result told same k = record {
  many = λ is. (B, mid, right_reached old mid p later kept once within count, k.many (same form_error.TooManyEvents is));
  large = λ side is. go side (k.large side (same (form_error.TooLarge side) is));
}
  where
    go : (side : Side) → (B ≡ side) × IsTooLarge B p.right.0 mid → (at : EventsView) × IsReachedAt [] p side old at × IsTooLarge side (signal_of side p) at
    go A m = absurd (let q = m.0 in cc)
    go B m = (mid, right_reached old mid p later kept once within count, m.1)

-- what is reached behind some pairs
module _ (old mid : EventsView) (pairs : List SignalPair) (i : ℕ) (p : SignalPair) (inside : i < length pairs) (here : get_or pairs i p ≡ p) (later : IsLater old mid) (before : CountsOn (take i pairs) old mid) where
  more : (f : SignalPair → Start ℕ) (xs : List (Start ℕ)) (ps : List SignalPair) → (xs ++ map f (take i pairs)) ++ map f ps ≡ xs ++ map f (take i pairs ++ ps)
  more f xs ps = append_assoc xs (map f (take i pairs)) (map f ps) ∙ ap (λ (ys : List (Start ℕ)). xs ++ ys) (sym (map-append f (take i pairs) ps))

  lefts : (side : Side) (xs : List (Start ℕ)) → (xs ++ left_starts (take i pairs)) ++ left_starts (lefts_before side [] p) ≡ xs ++ left_starts (lefts_before side (take i pairs) p)
  lefts A xs = append-nil (xs ++ left_starts (take i pairs))
  lefts B xs = more (λ (q : SignalPair). signal_start q.left.0) xs (p ∷ [])

  rights : (xs : List (Start ℕ)) → (xs ++ right_starts (take i pairs)) ++ [] ≡ xs ++ right_starts (take i pairs)
  rights xs = append-nil (xs ++ right_starts (take i pairs))

  reached_behind : (side : Side) (at : EventsView) → IsReachedAt [] p side mid at → IsReachedAt (take i pairs) p side old at
  reached_behind side at k = record {
    later = later_trans old mid at later k.later;
    kept = k.kept;
    once = k.once;
    within = k.within;
    counted = λ left right h.
        subst (λ (xs : List (Start ℕ)). HaveCounted at xs (right ++ right_starts (take i pairs))) (lefts side left)
        (subst (HaveCounted at ((left ++ left_starts (take i pairs)) ++ left_starts (lefts_before side [] p))) (rights right)
        (k.counted (left ++ left_starts (take i pairs)) (right ++ right_starts (take i pairs)) (before left right h)));
  }

  split : pairs ≡ take i pairs ++ p ∷ drop (suc i) pairs
  split = sym (take-append-drop i pairs) ∙ ap (λ (ps : List SignalPair). take i pairs ++ ps) (drop-cons pairs i p inside ∙ ap (λ (q : SignalPair). q ∷ drop (suc i) pairs) here)

  abbrev stop : (side : Side) (at : EventsView) → IsReachedAt [] p side mid at → IsFirstStop pairs old side
  stop side at k = record { before = take i pairs; pair = p; after = drop (suc i) pairs; split = split; at = at; reached = reached_behind side at k }

  -- the pair at a place is the first that stops
  pub pairs_stopped : {X Y : Type 0} (result : Result X EventFormError) (told : Result Y EventFormError) → ((error : EventFormError) → told ≡ Err error → result ≡ Err error) → IsPairStopped p mid result → IsStoppedFor pairs old told
  pairs_stopped result told same k = record {
    many = λ is. (let m = k.many (same form_error.TooManyEvents is) in (m.0, stop m.0 m.1 m.2, m.3));
    large = λ side is. (let m = k.large side (same (form_error.TooLarge side) is) in (stop side m.0 m.1, m.2));
  }
