-- The given clauses before the first propagation.
use Rattle.std.proofs.Common.{◌≡◌, ◌≢◌, ◌⊎◌, ℕ, ◌+◌, ◌*◌, ◌<◌, ◌≤◌, List, [], ◌∷◌, ◌++◌, length, get_or, refl, sym, ◌∙◌, ap, subst, arith, inl, inr, Some, None, Result, Ok, Err, length-append}
use Rattle.std.specs.Prelude.{slice_get, IfOk}
use Rattle.std.specs.List.{Contains}
use Rattle.std.proofs.lemmas.Bool.{cases_eq}
use Rattle.std.proofs.lemmas.Option.{slice_get_within}
use Rattle.std.proofs.lemmas.List.{get_or_default}
use Rattle.clause_base.specs.Literals.{Literal, negation}
use Rattle.clause_base.specs.NoMemory.{NoMemory}
use Rattle.clause_watch.specs.Range.{InRange}
use Rattle.clause_watch.specs.Trails.{TrailView, TrueBefore, Forces, IsTrail}
use Rattle.clause_watch.specs.TwoWatches.{IsWatching}
use Rattle.clause_watch.specs.Watching.{StaysMet, IsWatched, IsForced}
use Rattle.clause_watch.specs.Learning.{AreForced, IsLoading, IsFirstConflict, IsEntered}
use Rattle.clause_watch.specs.declared.entry.Entry.{Entry}
use Rattle.clause_watch.specs.declared.pair.Pair.{Pair}
use Rattle.clause_watch.specs.declared.pair.Visit.{Visit}
use Rattle.clause_watch.specs.declared.pair.Visit.TheVariants.{Stays, Gone, Conflict}
use Rattle.clause_watch.specs.declared.watchers.Watcher.{Watcher}
use Rattle.clause_watch.proofs.Lists.{get_one, get_push_new, get_push_cases}
use Rattle.clause_watch.proofs.Trails.{entry_of, trail_push}
use Rattle.clause_watch.proofs.Visits.{stays_push, same_trail}

pub stays_forced : (t : List Entry) (c : List Literal) (l : Literal) → AreForced t → Contains c l → TrueBefore t (length t) l → StaysMet t 0 c
stays_forced t c l all holds is = (l, is.0, holds, is.2, λ d e lo hi there. all d e there)

pub loading_start : (known : List (List Literal)) (pairs : List Pair) (rows : List (List Watcher)) (variables : ℕ) → InRange variables known → length rows ≡ 2 * variables + 2 → IsWatching known pairs rows → IsLoading known (record { variables = variables; entries = [] }) pairs rows 0
loading_start known pairs rows variables range sized watching = record {
  range = range;
  is_trail = record {
    distinct = λ j k l m p q e. absurd (let n : None ≡ Some p.0 = p.1 in cc);
    reasons = λ k e number there why. absurd (let n : None ≡ Some e = there in cc);
    decisions = λ k e there why. absurd (let n : None ≡ Some e = there in cc);
  };
  sized = sized;
  watching = watching;
  forced = λ d e there. absurd (let n : None ≡ Some e = there in cc);
  short = λ n c below. absurd (omega (arith, below));
}

-- one clause more, and a trail that is longer or the same
pub loading_next : (known : List (List Literal)) (c : List Literal) (trail : TrailView) (t : List Entry) (pairs : List Pair) (rows : List (List Watcher)) (number : ℕ) → IsLoading known trail pairs rows number → slice_get known number ≡ Some c →
    IsTrail known t → AreForced t → ((d : List Literal) → StaysMet trail.entries 0 d → StaysMet t 0 d) → (length c < 2 → StaysMet t 0 c) → IsLoading known (record { variables = trail.variables; entries = t }) pairs rows (number + 1)
loading_next known c trail t pairs rows number v there is all stays few = record {
  range = v.range;
  is_trail = is;
  sized = v.sized;
  watching = v.watching;
  forced = all;
  short = λ n d below found less. short n d below found less (cases_eq n number);
}
  where
    short : (n : ℕ) (d : List Literal) → n < number + 1 → slice_get known n ≡ Some d → length d < 2 → (n ≡ number) ⊎ (n ≢ number) → StaysMet t 0 d
    short n d below found less (inl same) =
        let one : c ≡ d = get_one known number c d there (subst (λ i. slice_get known i ≡ Some d) same found) in
        subst (λ (z : List Literal). StaysMet t 0 z) one (few (omega (arith, less, ap (λ (z : List Literal). length z) one)))
    short n d below found less (inr differ) = stays d (v.short n d (omega (arith, below, differ)) found less)

pub entered_long : (known : List (List Literal)) (c : List Literal) (trail : TrailView) (pairs : List Pair) (rows : List (List Watcher)) (number : ℕ) → IsLoading known trail pairs rows number → slice_get known number ≡ Some c → 2 ≤ length c → IsLoading known trail pairs rows (number + 1)
entered_long known c trail pairs rows number v there long =
    loading_next known c trail trail.entries pairs rows number v there v.is_trail v.forced (λ d s. s) (λ few. absurd (omega (arith, few, long)))

-- a clause of one literal

pub only_one : (c : List Literal) (l m : Literal) → length c < 2 → l ≡ get_or c 0 l → Contains c m → l ≡ m
only_one c l m few first holds =
    let at : holds.0 ≡ 0 = omega (arith, few, holds.1) in
    first ∙ (get_or_default c 0 l m (omega (arith, holds.1)) ∙ (ap (λ i. get_or c i m) (sym at) ∙ holds.2))

pub entered_single : (known : List (List Literal)) (c : List Literal) (trail next : TrailView) (pairs : List Pair) (rows : List (List Watcher)) (number : ℕ) (l : Literal) (visit : Visit) → IsLoading known trail pairs rows number → slice_get known number ≡ Some c →
    0 < length c → length c < 2 → l ≡ get_or c 0 l → next.variables ≡ trail.variables → IsForced trail next l number visit → IsEntered known next pairs rows number visit
entered_single known c trail next pairs rows number l Gone v there some few first same h = absurd h
entered_single known c trail next pairs rows number l (Conflict n) v there some few first same h =
    subst (λ (t : TrailView). IsFirstConflict known t n) (sym h.1)
    (v.is_trail, (c, ap (λ i. slice_get known i) h.0 ∙ there, λ m holds. subst (λ (x : Literal). TrueBefore trail.entries (length trail.entries) (negation x)) (only_one c l m few first holds) h.2), v.forced)
entered_single known c trail next pairs rows number l Stays v there some few first same (inl h) =
    subst (λ (t : TrailView). IsLoading known t pairs rows (number + 1)) (sym h.0)
    (loading_next known c trail trail.entries pairs rows number v there v.is_trail v.forced (λ d s. s) (λ less. stays_forced trail.entries c l v.forced (0, some, sym first) h.1))
entered_single known c trail next pairs rows number l Stays v there some few first same (inr h) =
    subst (λ (t : TrailView). IsLoading known t pairs rows (number + 1)) (same_trail trail next (trail.entries ++ new ∷ []) same h.1)
    (loading_next known c trail (trail.entries ++ new ∷ []) pairs rows number v there
    (trail_push known trail.entries l (Some number) v.is_trail h.0 forces (λ e. absurd (let q : Some number ≡ None = e in cc))) all
    (λ d s. stays_push trail.entries (new ∷ []) 0 d s) (λ less. stays_forced (trail.entries ++ new ∷ []) c l all (0, some, sym first) (length trail.entries, omega (arith, length-append trail.entries (new ∷ [])), (new, get_push_new trail.entries new, refl))))
  where
    new : Entry
    new = entry_of l (Some number)

    all : AreForced (trail.entries ++ new ∷ [])
    all d e found = go (get_push_cases trail.entries new d e found)
      where
        go : ((d < length trail.entries) × (slice_get trail.entries d ≡ Some e)) ⊎ ((d ≡ length trail.entries) × (new ≡ e)) → e.reason ≢ None
        go (inl x) = v.forced d e x.1
        go (inr x) = λ q. let z : Some number ≡ None = ap (λ (y : Entry). y.reason) x.1 ∙ q in cc

    forces : (n : ℕ) → Some number ≡ Some n → Forces known trail.entries (length trail.entries) l n
    forces n e =
        let at : number ≡ n = cc in
        record {
          clause = c;
          is_there = ap (λ i. slice_get known i) (sym at) ∙ there;
          holds = (0, some, sym first);
          others = λ m holds differ. absurd (differ (ap (λ (x : Literal). x.variable) (sym (only_one c l m few first holds))));
        }

pub entered_force : (known : List (List Literal)) (c : List Literal) (trail next : TrailView) (pairs : List Pair) (rows : List (List Watcher)) (number : ℕ) (l : Literal) (r : Result Visit NoMemory) → IsLoading known trail pairs rows number → slice_get known number ≡ Some c →
    0 < length c → length c < 2 → l ≡ get_or c 0 l → next.variables ≡ trail.variables → IfOk r (IsForced trail next l number) → IfOk r (IsEntered known next pairs rows number)
entered_force known c trail next pairs rows number l (Ok visit) v there some few first same h = entered_single known c trail next pairs rows number l visit v there some few first same h
entered_force known c trail next pairs rows number l (Err x) v there some few first same h = h

-- all clauses

pub loaded_conflict : (known : List (List Literal)) (trail : TrailView) (pairs : List Pair) (rows : List (List Watcher)) (number n : ℕ) → (visit : Visit) → visit ≡ Conflict n → IsEntered known trail pairs rows number visit → IsFirstConflict known trail n
loaded_conflict known trail pairs rows number n visit is h = subst (λ (v : Visit). IsEntered known trail pairs rows number v) is h

pub loaded_more : (known : List (List Literal)) (trail : TrailView) (pairs : List Pair) (rows : List (List Watcher)) (number : ℕ) → (visit : Visit) → visit ≡ Stays → IsEntered known trail pairs rows number visit → IsLoading known trail pairs rows (number + 1)
loaded_more known trail pairs rows number visit is h = subst (λ (v : Visit). IsEntered known trail pairs rows number v) is h

pub never_gone : (known : List (List Literal)) (trail : TrailView) (pairs : List Pair) (rows : List (List Watcher)) (number : ℕ) → (visit : Visit) → visit ≡ Gone → IsEntered known trail pairs rows number visit → ⊥
never_gone known trail pairs rows number visit is h = subst (λ (v : Visit). IsEntered known trail pairs rows number v) is h

pub loaded_whole : (known : List (List Literal)) (trail : TrailView) (pairs : List Pair) (rows : List (List Watcher)) (number : ℕ) → length known ≤ number → IsLoading known trail pairs rows number → IsWatched known trail pairs rows 0
loaded_whole known trail pairs rows number whole v = record {
  range = v.range;
  is_trail = v.is_trail;
  sized = v.sized;
  watching = v.watching;
  settled = λ n k c w there long watch below. absurd (omega (arith, below));
  short = λ n c there few. v.short n c (omega (arith, whole, slice_get_within known n c there)) there few;
  late = λ d e below there. v.forced d e there;
  within = omega arith;
}
