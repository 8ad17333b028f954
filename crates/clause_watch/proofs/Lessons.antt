-- Decisions, cuts, and clauses that are added.
use Rattle.std.proofs.Common.{◌≡◌, ◌≢◌, ◌⊎◌, ℕ, ◌+◌, ◌<◌, ◌≤◌, List, [], ◌∷◌, ◌++◌, length, get_or, take, refl, sym, ◌∙◌, ap, subst, arith, inl, inr, Option, Some, None, Result, Ok, Err, length-append}
use Rattle.std.specs.Prelude.{slice_get, OnOk}
use Rattle.std.specs.List.{Contains}
use Rattle.std.proofs.lemmas.Bool.{cases_eq, cases_lt}
use Rattle.std.proofs.lemmas.List.{length-take-le}
use Rattle.std.proofs.lemmas.Option.{slice_get_within}
use Rattle.clause_base.specs.Literals.{Literal, negation}
use Rattle.clause_base.proofs.Members.{read}
use Rattle.clause_watch.specs.Rows.{row}
use Rattle.clause_watch.specs.Trails.{TrailView, At, TrueBefore, FreeBefore, QuietAt, Forces, IsTrail}
use Rattle.clause_watch.specs.Range.{AllInRange, InRange}
use Rattle.clause_watch.specs.TwoWatches.{WatchedView, IsWatch, IsListed, AreOwn, IsNamed, IsWatching, IsInBothRows, IsPushed}
use Rattle.clause_watch.specs.Watching.{StaysMet, IsWatched}
use Rattle.clause_watch.specs.Learning.{IsDecision, IsForcedUpTo, IsAsserting, IsLearntPair}
use Rattle.clause_watch.specs.declared.entry.Entry.{Entry}
use Rattle.clause_watch.specs.declared.places.Placed.{Placed}
use Rattle.clause_watch.specs.declared.pair.Pair.{Pair}
use Rattle.clause_watch.specs.declared.watchers.Watcher.{Watcher}
use Rattle.clause_watch.proofs.Lists.{get_push_old, get_push_new, get_push_cases, get_take, get_take_within, at_number, all_by_number}
use Rattle.clause_watch.proofs.Trails.{entry_of, agree_take, true_along, free_along, two_free_along, trail_push, trail_take, trail_learn}
use Rattle.clause_watch.proofs.Visits.{stays_push, same_trail, quiet_end, listed_added, listed_new, named_added}

-- a decision, where all entries are propagated
pub watched_decide : (known : List (List Literal)) (trail : TrailView) (pairs : List Pair) (rows : List (List Watcher)) (head : ℕ) (l : Literal) →
    IsWatched known trail pairs rows head → length trail.entries ≤ head → FreeBefore trail.entries (length trail.entries) l →
    IsWatched known (record { variables = trail.variables; entries = trail.entries ++ entry_of l None ∷ [] }) pairs rows head
watched_decide known trail pairs rows head l w whole free = record {
  range = w.range;
  is_trail = trail_push known trail.entries l None w.is_trail free (λ n e. absurd (let q : None ≡ Some n = e in cc)) (λ e. quiet_end known trail pairs rows head w whole);
  sized = w.sized;
  watching = w.watching;
  settled = λ n k c x there long watch below at. stays_push trail.entries (new ∷ []) (k + 1) c (w.settled n k c x there long watch below (at.0, sym (get_push_old trail.entries (new ∷ []) k (omega (arith, below, w.within))) ∙ at.1, at.2));
  short = λ n c there few. stays_push trail.entries (new ∷ []) 0 c (w.short n c there few);
  late = λ d e below there. absurd (omega (arith, below, whole, slice_get_within (trail.entries ++ new ∷ []) d e there, length-append trail.entries (new ∷ [])));
  within = omega (arith, w.within, length-append trail.entries (new ∷ []));
}
  where
    new : Entry
    new = entry_of l None

-- what a search for a decision that didn't come to the end found
pub decision_of : (t : List Entry) (to n : ℕ) → (n ≡ to) ⊎ IsDecision t n → (n ≡ to → ⊥) → IsDecision t n
decision_of t to n (inl e) differ = absurd (differ e)
decision_of t to n (inr d) differ = d

-- a cut at a decision

pub stays_cut : (t : List Entry) (from keep : ℕ) (c : List Literal) → IsDecision t keep → from ≤ keep → StaysMet t from c → StaysMet (take keep t) from c
stays_cut t from keep c d low s =
    (s.0, s.1, s.2, (s.3.0, get_take t keep s.1 (before (cases_lt s.1 keep)) ∙ s.3.1, s.3.2), λ k e lo hi there. s.4 k e lo hi (get_take_within t keep k e there).1)
  where
    before : (s.1 < keep) ⊎ (keep ≤ s.1) → s.1 < keep
    before (inl lt) = lt
    before (inr ge) = absurd (s.4 keep d.0 low ge d.1 d.2)

pub watched_cut : (known : List (List Literal)) (trail : TrailView) (pairs : List Pair) (rows : List (List Watcher)) (head keep : ℕ) → IsWatched known trail pairs rows head → IsDecision trail.entries keep →
    IsWatched known (record { variables = trail.variables; entries = take keep trail.entries }) pairs rows keep
watched_cut known trail pairs rows head keep w d = record {
  range = w.range;
  is_trail = trail_take known trail.entries keep w.is_trail;
  sized = w.sized;
  watching = w.watching;
  settled = λ n k c x there long watch below at. stays_cut trail.entries (k + 1) keep c d (omega (arith, below)) (w.settled n k c x there long watch (omega (arith, below, reached (cases_lt head keep))) (at.0, (get_take_within trail.entries keep k at.0 at.1).1, at.2));
  short = λ n c there few. stays_cut trail.entries 0 keep c d (omega arith) (w.short n c there few);
  late = λ k e below there. absurd (omega (arith, below, (get_take_within trail.entries keep k e there).0));
  within = omega (arith, size);
}
  where
    size : length (take keep trail.entries) ≡ keep
    size = let inside = slice_get_within trail.entries keep d.0 d.1 in length-take-le keep trail.entries (omega (arith, inside))

    reached : (head < keep) ⊎ (keep ≤ head) → keep ≤ head
    reached (inl lt) = absurd (w.late keep d.0 lt d.1 d.2)
    reached (inr ge) = ge

-- one clause more, and its pair

pub named_more : (known : List (List Literal)) (c : List Literal) (e : Watcher) → IsNamed known e → IsNamed (known ++ c ∷ []) e
named_more known c e n = record {
  clause = n.clause;
  is_there = get_push_old known (c ∷ []) e.clause (slice_get_within known e.clause n.clause n.is_there) ∙ n.is_there;
  long = n.long;
  holds = n.holds;
}

pub watch_push_cases : (pairs : List Pair) (p : Pair) (n : ℕ) (w : Literal) → IsWatch (pairs ++ p ∷ []) n w → IsWatch pairs n w ⊎ ((n ≡ length pairs) × ((p.first ≡ w) ⊎ (p.second ≡ w)))
watch_push_cases pairs p n w h = go (get_push_cases pairs p n h.0 h.1)
  where
    side : p ≡ h.0 → (h.0.first ≡ w) ⊎ (h.0.second ≡ w) → (p.first ≡ w) ⊎ (p.second ≡ w)
    side one (inl e) = inl (ap (λ (x : Pair). x.first) one ∙ e)
    side one (inr e) = inr (ap (λ (x : Pair). x.second) one ∙ e)

    go : ((n < length pairs) × (slice_get pairs n ≡ Some h.0)) ⊎ ((n ≡ length pairs) × (p ≡ h.0)) → IsWatch pairs n w ⊎ ((n ≡ length pairs) × ((p.first ≡ w) ⊎ (p.second ≡ w)))
    go (inl x) = inl (h.0, x.1, h.2)
    go (inr x) = inr (x.0, side x.1 h.2)

pub watching_more : (known : List (List Literal)) (c : List Literal) (pairs : List Pair) (p : Pair) (rows new : List (List Watcher)) → IsWatching known pairs rows → ((w : Literal) (n : ℕ) → IsListed rows w 0 n → IsListed new w 0 n) →
    (2 ≤ length c → AreOwn c p × IsListed new p.first 0 (length known) × IsListed new p.second 0 (length known)) → ((l : Literal) (q : ℕ) (e : Watcher) → slice_get (row new l) q ≡ Some e → IsNamed (known ++ c ∷ []) e) →
    IsWatching (known ++ c ∷ []) (pairs ++ p ∷ []) new
watching_more known c pairs p rows new w old own named = record {
  counted = omega (arith, length-append pairs (p ∷ []), length-append known (c ∷ []), w.counted);
  owned = λ n d q there long found. owned n d q long (get_push_cases known c n d there) (get_push_cases pairs p n q found);
  listed = λ n d x there long watch. listed n d x long (get_push_cases known c n d there) (watch_push_cases pairs p n x watch);
  named = named;
}
  where
    owned : (n : ℕ) (d : List Literal) (q : Pair) → 2 ≤ length d → ((n < length known) × (slice_get known n ≡ Some d)) ⊎ ((n ≡ length known) × (c ≡ d)) → ((n < length pairs) × (slice_get pairs n ≡ Some q)) ⊎ ((n ≡ length pairs) × (p ≡ q)) → AreOwn d q
    owned n d q long (inl x) (inl y) = w.owned n d q x.1 long y.1
    owned n d q long (inl x) (inr y) = absurd (omega (arith, x.0, y.0, w.counted))
    owned n d q long (inr x) (inl y) = absurd (omega (arith, x.0, y.0, w.counted))
    owned n d q long (inr x) (inr y) =
        let more : 2 ≤ length c = omega (arith, long, ap (λ (z : List Literal). length z) x.1) in
        subst (λ (z : List Literal). AreOwn z q) x.1 (subst (λ (z : Pair). AreOwn c z) y.1 (own more).0)

    listed : (n : ℕ) (d : List Literal) (x : Literal) → 2 ≤ length d → ((n < length known) × (slice_get known n ≡ Some d)) ⊎ ((n ≡ length known) × (c ≡ d)) → IsWatch pairs n x ⊎ ((n ≡ length pairs) × ((p.first ≡ x) ⊎ (p.second ≡ x))) → IsListed new x 0 n
    listed n d x long (inl a) (inl b) = old x n (w.listed n d x a.1 long b)
    listed n d x long (inl a) (inr b) = absurd (omega (arith, a.0, b.0, w.counted))
    listed n d x long (inr a) (inl b) = absurd (omega (arith, a.0, slice_get_within pairs n b.0 b.1, w.counted))
    listed n d x long (inr a) (inr b) = side b.1
      where
        more : 2 ≤ length c
        more = omega (arith, long, ap (λ (z : List Literal). length z) a.1)

        side : (p.first ≡ x) ⊎ (p.second ≡ x) → IsListed new x 0 n
        side (inl e) = subst (λ i. IsListed new x 0 i) (sym a.0) (subst (λ (z : Literal). IsListed new z 0 (length known)) e (own more).1)
        side (inr e) = subst (λ i. IsListed new x 0 i) (sym a.0) (subst (λ (z : Literal). IsListed new z 0 (length known)) e (own more).2)

pub watching_short : (known : List (List Literal)) (c : List Literal) (pairs : List Pair) (p : Pair) (rows : List (List Watcher)) → IsWatching known pairs rows → length c < 2 → IsWatching (known ++ c ∷ []) (pairs ++ p ∷ []) rows
watching_short known c pairs p rows w few =
    watching_more known c pairs p rows rows w (λ x n h. h) (λ long. absurd (omega (arith, few, long))) (λ l q e found. named_more known c e (w.named l q e found))

pub watching_attached : (known : List (List Literal)) (c : List Literal) (pairs : List Pair) (p : Pair) (rows new : List (List Watcher)) (number : ℕ) → IsWatching known pairs rows → 2 ≤ length c → AreOwn c p → number ≡ length known → IsInBothRows rows number p.first p.second new →
    IsWatching (known ++ c ∷ []) (pairs ++ p ∷ []) new
watching_attached known c pairs p rows new number w long own is a =
    watching_more known c pairs p rows new w
    (λ x n h. listed_added a.between new p.second x right 0 n a.right (listed_added rows a.between p.first x left 0 n a.left h))
    (λ more. (own, subst (λ i. IsListed new p.first 0 i) is (listed_added a.between new p.second p.first right 0 number a.right (listed_new rows a.between p.first left a.left)), subst (λ i. IsListed new p.second 0 i) is (listed_new a.between new p.second right a.right)))
    (λ l q e found. named_added (known ++ c ∷ []) a.between new p.second l right e q a.right (names right refl own.first)
    (λ x k g there. named_added (known ++ c ∷ []) rows a.between p.first x left g k a.left (names left refl own.second) (λ y j h is_there. named_more known c h (w.named y j h is_there)) there) found)
  where
    left : Watcher
    left = record { clause = number; blocker = p.second }

    right : Watcher
    right = record { clause = number; blocker = p.first }

    names : (e : Watcher) → e.clause ≡ number → Contains c e.blocker → IsNamed (known ++ c ∷ []) e
    names e at holds = record { clause = c; is_there = ap (λ i. slice_get (known ++ c ∷ []) i) (at ∙ is) ∙ get_push_new known c; long = long; holds = holds }

pub attached_sized : (rows new : List (List Watcher)) (number : ℕ) (first second : Literal) → IsInBothRows rows number first second new → length new ≡ length rows
attached_sized rows new number first second a = a.right.sized ∙ a.left.sized

pub range_more : (variables : ℕ) (known : List (List Literal)) (c : List Literal) → InRange variables known → AllInRange variables c → InRange variables (known ++ c ∷ [])
range_more variables known c all own = all_by_number (AllInRange variables) (known ++ c ∷ []) (λ i d there. go i d (get_push_cases known c i d there))
  where
    go : (i : ℕ) (d : List Literal) → ((i < length known) × (slice_get known i ≡ Some d)) ⊎ ((i ≡ length known) × (c ≡ d)) → AllInRange variables d
    go i d (inl x) = at_number (AllInRange variables) known i d all x.1
    go i d (inr x) = subst (AllInRange variables) x.1 own

-- a learnt clause

pub learnt_free : (known : List (List Literal)) (t : List Entry) (clause : List Literal) (l : Literal) (other : Option Placed) (keep : ℕ) → IsAsserting known t clause l other keep → FreeBefore (take keep t) (length (take keep t)) l
learnt_free known t clause l other keep a =
    let inside = slice_get_within t keep a.decision.0 a.decision.1 in
    let e : length (take keep t) ≡ keep = length-take-le keep t (omega (arith, inside)) in
    subst (λ n. FreeBefore (take keep t) n l) (sym e) (free_along t (take keep t) keep keep l (agree_take t keep) (omega arith) a.free)

pub trail_asserted : (known : List (List Literal)) (t : List Entry) (clause : List Literal) (l : Literal) (other : Option Placed) (keep : ℕ) → IsTrail known t → IsAsserting known t clause l other keep →
    IsTrail (known ++ clause ∷ []) (take keep t ++ entry_of l (Some (length known)) ∷ [])
trail_asserted known t clause l other keep is a =
    trail_push (known ++ clause ∷ []) (take keep t) l (Some (length known)) (trail_learn known clause (take keep t) (trail_take known t keep is) good) (learnt_free known t clause l other keep a) forced
    (λ e. absurd (let q : Some (length known) ≡ None = e in cc))
  where
    size : length (take keep t) ≡ keep
    size = let inside = slice_get_within t keep a.decision.0 a.decision.1 in length-take-le keep t (omega (arith, inside))

    good : (k : ℕ) (e : Entry) → slice_get (take keep t) k ≡ Some e → e.reason ≡ None → QuietAt (take keep t) k clause
    good k e there why =
        let w = get_take_within t keep k e there in
        inr (two_free_along t (take keep t) keep k clause (agree_take t keep) (omega (arith, w.0)) (a.kept k e w.0 w.1 why))

    forced : (number : ℕ) → Some (length known) ≡ Some number → Forces (known ++ clause ∷ []) (take keep t) (length (take keep t)) l number
    forced number e =
        let same : length known ≡ number = cc in
        record {
          clause = clause;
          is_there = subst (λ n. slice_get (known ++ clause ∷ []) n ≡ Some clause) same (get_push_new known clause);
          holds = a.holds;
          others = λ m there differ. subst (λ n. TrueBefore (take keep t) n (negation m)) (sym size) (true_along t (take keep t) keep keep (negation m) (agree_take t keep) (omega arith) (a.forced m there differ));
        }

-- the asserted literal meets its clause
pub met_after : (known : List (List Literal)) (t : List Entry) (clause : List Literal) (l : Literal) (other : Option Placed) (keep from : ℕ) → IsAsserting known t clause l other keep → IsForcedUpTo t from keep → StaysMet (take keep t ++ entry_of l (Some (length known)) ∷ []) from clause
met_after known t clause l other keep from a up =
    (l, keep, a.holds, (new, subst (λ n. slice_get (take keep t ++ new ∷ []) n ≡ Some new) size (get_push_new (take keep t) new), refl), λ d e lo hi there. go d e lo (get_push_cases (take keep t) new d e there))
  where
    new : Entry
    new = entry_of l (Some (length known))

    size : length (take keep t) ≡ keep
    size = let inside = slice_get_within t keep a.decision.0 a.decision.1 in length-take-le keep t (omega (arith, inside))

    go : (d : ℕ) (e : Entry) → from ≤ d → ((d < length (take keep t)) × (slice_get (take keep t) d ≡ Some e)) ⊎ ((d ≡ length (take keep t)) × (new ≡ e)) → e.reason ≢ None
    go d e lo (inl x) = let w = get_take_within t keep d e x.1 in up d e lo w.0 w.1
    go d e lo (inr x) = λ q. let p : Some (length known) ≡ None = ap (λ (y : Entry). y.reason) x.1 ∙ q in cc

pub watched_learn : (known : List (List Literal)) (trail : TrailView) (pairs : List Pair) (p : Pair) (rows new : List (List Watcher)) (head : ℕ) (c : List Literal) (l : Literal) (other : Option Placed) (keep : ℕ) →
    IsWatched known trail pairs rows head → AllInRange trail.variables c → IsAsserting known trail.entries c l other keep → IsWatching (known ++ c ∷ []) (pairs ++ p ∷ []) new → length new ≡ length rows →
    (length c < 2 → IsForcedUpTo trail.entries 0 keep) →
    ((k : ℕ) (w : Literal) → 2 ≤ length c → (p.first ≡ w) ⊎ (p.second ≡ w) → k < keep → At trail.entries k (negation w) → IsForcedUpTo trail.entries (k + 1) keep) →
    IsWatched (known ++ c ∷ []) (record { variables = trail.variables; entries = take keep trail.entries ++ entry_of l (Some (length known)) ∷ [] }) (pairs ++ p ∷ []) new keep
watched_learn known trail pairs p rows new head c l other keep w range a watching sized few fresh = record {
  range = range_more trail.variables known c w.range range;
  is_trail = trail_asserted known trail.entries c l other keep w.is_trail a;
  sized = sized ∙ w.sized;
  watching = watching;
  settled = λ n k d x there long watch below at. settled n k d x long below at (get_push_cases known c n d there) (watch_push_cases pairs p n x watch);
  short = λ n d there less. short n d less (get_push_cases known c n d there);
  late = λ d e below there. absurd (omega (arith, below, size, slice_get_within (take keep trail.entries ++ more) d e there, length-append (take keep trail.entries) more));
  within = omega (arith, size, length-append (take keep trail.entries) more);
}
  where
    more : List Entry
    more = entry_of l (Some (length known)) ∷ []

    size : length (take keep trail.entries) ≡ keep
    size = let inside = slice_get_within trail.entries keep a.decision.0 a.decision.1 in length-take-le keep trail.entries (omega (arith, inside))

    cut : IsWatched known (record { variables = trail.variables; entries = take keep trail.entries }) pairs rows keep
    cut = watched_cut known trail pairs rows head keep w a.decision

    back : (k : ℕ) (x : Literal) → k < keep → At (take keep trail.entries ++ more) k (negation x) → At (take keep trail.entries) k (negation x)
    back k x below at = (at.0, sym (get_push_old (take keep trail.entries) more k (omega (arith, below, size))) ∙ at.1, at.2)

    settled : (n k : ℕ) (d : List Literal) (x : Literal) → 2 ≤ length d → k < keep → At (take keep trail.entries ++ more) k (negation x) → ((n < length known) × (slice_get known n ≡ Some d)) ⊎ ((n ≡ length known) × (c ≡ d)) →
        IsWatch pairs n x ⊎ ((n ≡ length pairs) × ((p.first ≡ x) ⊎ (p.second ≡ x))) → StaysMet (take keep trail.entries ++ more) (k + 1) d
    settled n k d x long below at (inl y) (inl z) = stays_push (take keep trail.entries) more (k + 1) d (cut.settled n k d x y.1 long z below (back k x below at))
    settled n k d x long below at (inl y) (inr z) = absurd (omega (arith, y.0, z.0, w.watching.counted))
    settled n k d x long below at (inr y) (inl z) = absurd (omega (arith, y.0, slice_get_within pairs n z.0 z.1, w.watching.counted))
    settled n k d x long below at (inr y) (inr z) =
        let longer : 2 ≤ length c = omega (arith, long, ap (λ (q : List Literal). length q) y.1) in
        let old = back k x below at in
        let first : At trail.entries k (negation x) = (old.0, (get_take_within trail.entries keep k old.0 old.1).1, old.2) in
        subst (λ (q : List Literal). StaysMet (take keep trail.entries ++ more) (k + 1) q) y.1 (met_after known trail.entries c l other keep (k + 1) a (fresh k x longer z.1 below first))

    short : (n : ℕ) (d : List Literal) → length d < 2 → ((n < length known) × (slice_get known n ≡ Some d)) ⊎ ((n ≡ length known) × (c ≡ d)) → StaysMet (take keep trail.entries ++ more) 0 d
    short n d less (inl y) = stays_push (take keep trail.entries) more 0 d (cut.short n d y.1 less)
    short n d less (inr y) =
        let fewer : length c < 2 = omega (arith, less, ap (λ (q : List Literal). length q) y.1) in
        subst (λ (q : List Literal). StaysMet (take keep trail.entries ++ more) 0 q) y.1 (met_after known trail.entries c l other keep 0 a (few fewer))

-- a clause that has another literal than the asserted one has two
pub learnt_two : (known : List (List Literal)) (t : List Entry) (c : List Literal) (l : Literal) (p : Placed) (keep : ℕ) → IsAsserting known t c l (Some p) keep → 2 ≤ length c
learnt_two known t c l p keep a = two (cases_eq a.holds.0 a.second.0.0)
  where
    two : (a.holds.0 ≡ a.second.0.0) ⊎ (a.holds.0 ≢ a.second.0.0) → 2 ≤ length c
    two (inl same) =
        let one : l ≡ p.literal = sym (read c a.holds.0 p.literal l a.holds.1 a.holds.2) ∙ (ap (λ i. get_or c i p.literal) same ∙ a.second.0.2) in
        absurd (a.second.1 (ap (λ (x : Literal). x.variable) (sym one)))
    two (inr differ) = omega (arith, differ, a.holds.1, a.second.0.1)

-- a learnt clause watches two of its own
pub learnt_own : (known : List (List Literal)) (t : List Entry) (c : List Literal) (l : Literal) (o : Option Placed) (keep : ℕ) (pair : Pair) → IsAsserting known t c l o keep → IsLearntPair l o pair → 2 ≤ length c → AreOwn c pair
learnt_own known t c l None keep pair a is long = absurd (omega (arith, long, a.second.0))
learnt_own known t c l (Some p) keep pair a is long = subst (AreOwn c) (sym is) (record { first = a.holds; second = a.second.0; differ = λ q. a.second.1 (sym q) })

-- a learnt clause of two or more literals watches the asserted literal and the one that became false last among the others
pub learnt_long : (known : List (List Literal)) (trail : TrailView) (pairs : List Pair) (pair : Pair) (rows new : List (List Watcher)) (head number : ℕ) (c : List Literal) (l : Literal) (p : Placed) (keep : ℕ) →
    IsWatched known trail pairs rows head → AllInRange trail.variables c → IsAsserting known trail.entries c l (Some p) keep → number ≡ length known → pair ≡ record { first = l; second = p.literal } → IsInBothRows rows number pair.first pair.second new →
    IsWatched (known ++ c ∷ []) (record { variables = trail.variables; entries = take keep trail.entries ++ entry_of l (Some (length known)) ∷ [] }) (pairs ++ pair ∷ []) new keep
learnt_long known trail pairs pair rows new head number c l p keep w range a is pair_is attached =
    watched_learn known trail pairs pair rows new head c l (Some p) keep w range a (watching_attached known c pairs pair rows new number w.watching long own is attached)
    (attached_sized rows new number pair.first pair.second attached) (λ few. absurd (omega (arith, few, long))) (λ k x more side below at. fresh k x side below at)
  where
    long : 2 ≤ length c
    long = learnt_two known trail.entries c l p keep a

    own : AreOwn c pair
    own = learnt_own known trail.entries c l (Some p) keep pair a pair_is long

    fresh : (k : ℕ) (x : Literal) → (pair.first ≡ x) ⊎ (pair.second ≡ x) → k < keep → At trail.entries k (negation x) → IsForcedUpTo trail.entries (k + 1) keep
    fresh k x (inl e) below at =
        let one : l ≡ x = sym (ap (λ (y : Pair). y.first) pair_is) ∙ e in
        absurd (a.free k (negation x) below at (ap (λ (y : Literal). y.variable) (sym one)))
    fresh k x (inr e) below at =
        let one : p.literal ≡ x = sym (ap (λ (y : Pair). y.second) pair_is) ∙ e in
        let same : p.place ≡ k = w.is_trail.distinct p.place k (negation p.literal) (negation x) a.second.2 at (ap (λ (y : Literal). y.variable) one) in
        subst (λ i. IsForcedUpTo trail.entries (i + 1) keep) same a.second.4

pub learnt_short : (known : List (List Literal)) (trail : TrailView) (pairs : List Pair) (p : Pair) (rows : List (List Watcher)) (head : ℕ) (c : List Literal) (l : Literal) (keep : ℕ) →
    IsWatched known trail pairs rows head → AllInRange trail.variables c → IsAsserting known trail.entries c l None keep →
    IsWatched (known ++ c ∷ []) (record { variables = trail.variables; entries = take keep trail.entries ++ entry_of l (Some (length known)) ∷ [] }) (pairs ++ p ∷ []) rows keep
learnt_short known trail pairs p rows head c l keep w range a =
    watched_learn known trail pairs p rows rows head c l None keep w range a (watching_short known c pairs p rows w.watching a.second.0) refl (λ few. a.second.1) (λ k x long side below at. absurd (omega (arith, long, a.second.0)))

-- the same in the words of the code

abbrev pub LearntAs : List (List Literal) → List (List Literal) → TrailView → TrailView → TrailView → List Literal → Literal → ℕ → ℕ → Type 0
LearntAs known store trail cut next c l number keep =
    (number ≡ length known) × (store ≡ known ++ c ∷ []) × (cut.variables ≡ trail.variables) × (cut.entries ≡ take keep trail.entries) × (next.variables ≡ cut.variables) × (next.entries ≡ cut.entries ++ entry_of l (Some number) ∷ [])

pub learnt_as : (known store : List (List Literal)) (trail cut next : TrailView) (pairs : List Pair) (rows : List (List Watcher)) (c : List Literal) (l : Literal) (number head keep : ℕ) → LearntAs known store trail cut next c l number keep → head ≡ keep →
    IsWatched (known ++ c ∷ []) (record { variables = trail.variables; entries = take keep trail.entries ++ entry_of l (Some (length known)) ∷ [] }) pairs rows keep → IsWatched store next pairs rows head
learnt_as known store trail cut next pairs rows c l number head keep is at w =
    subst (λ (k : List (List Literal)). IsWatched k next pairs rows head) (sym is.1)
    (subst (λ i. IsWatched (known ++ c ∷ []) next pairs rows i) (sym at)
    (subst (λ (t : TrailView). IsWatched (known ++ c ∷ []) t pairs rows keep) (same_trail trail next (take keep trail.entries ++ entry_of l (Some (length known)) ∷ []) (is.4 ∙ is.2) entries) w))
  where
    entries : next.entries ≡ take keep trail.entries ++ entry_of l (Some (length known)) ∷ []
    entries = is.5 ∙ (ap (λ (es : List Entry). es ++ entry_of l (Some number) ∷ []) is.3 ∙ ap (λ i. take keep trail.entries ++ entry_of l (Some i) ∷ []) is.0)

pub learnt_pushed : (old new : WatchedView) (trail cut next : TrailView) (pair : Pair) (head at number : ℕ) (c : List Literal) (l : Literal) (o : Option Placed) (keep : ℕ) →
    IsWatched old.known trail old.pairs old.rows head → AllInRange trail.variables c → IsAsserting old.known trail.entries c l o keep → IsLearntPair l o pair → IsPushed old c pair new → at ≡ keep → LearntAs old.known new.known trail cut next c l number keep →
    IsWatched new.known next new.pairs new.rows at
learnt_pushed old new trail cut next pair head at number c l None keep w range a is m there as_is =
    learnt_as old.known new.known trail cut next new.pairs new.rows c l number at keep as_is there
    (subst (λ (x : List Pair). IsWatched (old.known ++ c ∷ []) (record { variables = trail.variables; entries = take keep trail.entries ++ entry_of l (Some (length old.known)) ∷ [] }) x new.rows keep) (sym m.paired)
    (subst (λ (x : List (List Watcher)). IsWatched (old.known ++ c ∷ []) (record { variables = trail.variables; entries = take keep trail.entries ++ entry_of l (Some (length old.known)) ∷ [] }) (old.pairs ++ pair ∷ []) x keep) (sym (m.short a.second.0))
    (learnt_short old.known trail old.pairs pair old.rows head c l keep w range a)))
learnt_pushed old new trail cut next pair head at number c l (Some p) keep w range a is m there as_is =
    learnt_as old.known new.known trail cut next new.pairs new.rows c l number at keep as_is there
    (subst (λ (x : List Pair). IsWatched (old.known ++ c ∷ []) (record { variables = trail.variables; entries = take keep trail.entries ++ entry_of l (Some (length old.known)) ∷ [] }) x new.rows keep) (sym m.paired)
    (learnt_long old.known trail old.pairs pair old.rows new.rows head (length old.known) c l p keep w range a refl is (m.long (learnt_two old.known trail.entries c l p keep a))))

pub on_ok : {A B : Type 0} (P Q : Type 0) (r : Result A B) → (P → Q) → OnOk r P → OnOk r Q
on_ok P Q (Ok x) f h = f h
on_ok P Q (Err e) f h = h
