-- One visit of a clause.
use Rattle.std.proofs.Common.{◌≡◌, ◌≢◌, ◌⊎◌, ℕ, ◌+◌, ◌<◌, ◌≤◌, List, [], ◌∷◌, length, refl, sym, ◌∙◌, ap, subst, arith, inl, inr, Some, None, Result, Ok, Err, length-append}
use Rattle.std.specs.Prelude.{slice_get, IfOk}
use Rattle.std.specs.List.{Contains}
use Rattle.std.proofs.Math.ListN.{set}
use Rattle.std.proofs.lemmas.List.{length-set}
use Rattle.std.proofs.lemmas.Option.{slice_get_within}
use Rattle.clause_base.specs.Literals.{Literal, negation}
use Rattle.clause_base.specs.Clauses.{IsClause}
use Rattle.clause_base.specs.NoMemory.{NoMemory}
use Rattle.clause_watch.specs.Rows.{row, row_of, IsPut}
use Rattle.clause_watch.specs.Trails.{TrailView, At, TrueBefore, FreeBefore, OthersFalse}
use Rattle.clause_watch.specs.Answers.{IsConflict}
use Rattle.clause_watch.specs.TwoWatches.{IsWatch, AreOwn, IsNamed, IsRewatched}
use Rattle.clause_watch.specs.Watching.{IsWatched, IsVisiting, IsVisited, IsOther, IsForced}
use Rattle.clause_watch.specs.declared.entry.Entry.{Entry}
use Rattle.clause_watch.specs.declared.pair.Pair.{Pair}
use Rattle.clause_watch.specs.declared.pair.Visit.{Visit}
use Rattle.clause_watch.specs.declared.pair.Visit.TheVariants.{Stays, Gone, Conflict}
use Rattle.clause_watch.specs.declared.watchers.Watcher.{Watcher}
use Rattle.clause_watch.proofs.Lists.{get_one, get_push_new, get_set_same}
use Rattle.clause_watch.proofs.Literals.{never_false, range_of, row_below}
use Rattle.clause_watch.proofs.Trails.{entry_of, at_within}
use Rattle.clause_watch.proofs.Visits.{stays_true, visit_stays, visit_push, visit_moved, visit_removed, all_false, visit_put}

-- the clause of a watcher, the pair that was read, and the other one of the two
pub record IsFollowed (known : List (List Literal)) (pairs : List Pair) (rows : List (List Watcher)) (l : Literal) (place : ℕ) (e : Watcher) (other : Literal) : Type 0 where
  pub clause : List Literal
  pub is_there : slice_get known e.clause ≡ Some clause
  pub long : 2 ≤ length clause
  pub at_place : slice_get (row rows l) place ≡ Some e
  pub watches : IsWatch pairs e.clause other
  pub holds : Contains clause other
  pub own : Contains clause l
  pub differ : other.variable ≢ l.variable

pub number_within : (known : List (List Literal)) (e : Watcher) → IsNamed known e → e.clause < length known
number_within known e named = slice_get_within known e.clause named.clause named.is_there

pub followed : (known : List (List Literal)) (trail : TrailView) (pairs : List Pair) (rows : List (List Watcher)) (head : ℕ) (l : Literal) (place : ℕ) (e : Watcher) (p : Pair) (other : Literal) →
    IsWatched known trail pairs rows head → slice_get (row rows l) place ≡ Some e → slice_get pairs e.clause ≡ Some p → IsOther p l (Some other) → IsFollowed known pairs rows l place e other
followed known trail pairs rows head l place e p other w at_place found is = go is
  where
    named : IsNamed known e
    named = w.watching.named l place e at_place

    own : AreOwn named.clause p
    own = w.watching.owned e.clause named.clause p named.is_there named.long found

    go : ((p.first ≡ l) × (p.second ≡ other)) ⊎ ((p.second ≡ l) × (p.first ≡ other)) → IsFollowed known pairs rows l place e other
    go (inl x) = record {
      clause = named.clause;
      is_there = named.is_there;
      long = named.long;
      at_place = at_place;
      watches = (p, found, inr x.1);
      holds = subst (λ (y : Literal). Contains named.clause y) x.1 own.second;
      own = subst (λ (y : Literal). Contains named.clause y) x.0 own.first;
      differ = λ q. own.differ (ap (λ (y : Literal). y.variable) x.0 ∙ (sym q ∙ ap (λ (y : Literal). y.variable) (sym x.1)));
    }
    go (inr x) = record {
      clause = named.clause;
      is_there = named.is_there;
      long = named.long;
      at_place = at_place;
      watches = (p, found, inl x.1);
      holds = subst (λ (y : Literal). Contains named.clause y) x.1 own.first;
      own = subst (λ (y : Literal). Contains named.clause y) x.0 own.second;
      differ = λ q. own.differ (ap (λ (y : Literal). y.variable) x.1 ∙ (q ∙ ap (λ (y : Literal). y.variable) (sym x.0)));
    }

pub not_watched : (pairs : List Pair) (n : ℕ) (p : Pair) (l : Literal) → slice_get pairs n ≡ Some p → IsOther p l None → IsWatch pairs n l → ⊥
not_watched pairs n p l found none watch = go watch.2
  where
    one : watch.0 ≡ p
    one = get_one pairs n watch.0 p watch.1 found

    go : (watch.0.first ≡ l) ⊎ (watch.0.second ≡ l) → ⊥
    go (inl e) = none.0 (ap (λ (x : Pair). x.first) (sym one) ∙ e)
    go (inr e) = none.1 (ap (λ (x : Pair). x.second) (sym one) ∙ e)

-- the blocker or the other watch is true
pub visited_true : (known : List (List Literal)) (trail : TrailView) (pairs : List Pair) (rows : List (List Watcher)) (head : ℕ) (l : Literal) (place : ℕ) (e : Watcher) (c : List Literal) (m : Literal) →
    IsVisiting known trail pairs rows head l place → slice_get (row rows l) place ≡ Some e → slice_get known e.clause ≡ Some c → Contains c m → TrueBefore trail.entries (length trail.entries) m →
    IsVisiting known trail pairs rows head l (place + 1) × (length (row rows l) ≡ length (row rows l))
visited_true known trail pairs rows head l place e c m v at_place there holds is =
    (visit_stays known trail pairs rows head l place e c v at_place there (stays_true known trail pairs rows head c m v.watched holds is), refl)

-- the other watch is true, and is the blocker from now on
pub visited_put : (known : List (List Literal)) (trail : TrailView) (pairs : List Pair) (rows new : List (List Watcher)) (head : ℕ) (l : Literal) (place : ℕ) (e : Watcher) (other : Literal) →
    IsVisiting known trail pairs rows head l place → IsFollowed known pairs rows l place e other → TrueBefore trail.entries (length trail.entries) other → IsPut rows l place (record { clause = e.clause; blocker = other }) new →
    IsVisiting known trail pairs new head l (place + 1) × (length (row new l) ≡ length (row rows l))
visited_put known trail pairs rows new head l place e other v f is p =
    (visit_stays known trail pairs new head l place put f.clause moved at_place f.is_there (stays_true known trail pairs new head f.clause other moved.watched f.holds is), size)
  where
    put : Watcher
    put = record { clause = e.clause; blocker = other }

    inside : place < length (row rows l)
    inside = slice_get_within (row rows l) place e f.at_place

    at_place : slice_get (row new l) place ≡ Some put
    at_place = ap (λ (r : List Watcher). slice_get r place) p.here ∙ get_set_same (row rows l) place put inside

    moved : IsVisiting known trail pairs new head l place
    moved = visit_put known trail pairs rows new head l place e put v f.at_place refl (record { clause = f.clause; is_there = f.is_there; long = f.long; holds = f.holds }) p

    size : length (row new l) ≡ length (row rows l)
    size = ap (λ (r : List Watcher). length r) p.here ∙ length-set (row rows l) place put

-- no other literal can be watched
pub visited_forced : (known : List (List Literal)) (trail next : TrailView) (pairs : List Pair) (rows : List (List Watcher)) (head : ℕ) (l : Literal) (place : ℕ) (e : Watcher) (other : Literal) (d : List Literal) (v : Visit) →
    IsVisiting known trail pairs rows head l place → IsFollowed known pairs rows l place e other → slice_get known e.clause ≡ Some d → IsClause d → OthersFalse trail.entries (length trail.entries) d other → next.variables ≡ trail.variables →
    IsForced trail next other e.clause v → IsVisited known next pairs rows head l place (length (row rows l)) v
visited_forced known trail next pairs rows head l place e other d Gone v f there clause others same h = absurd h
visited_forced known trail next pairs rows head l place e other d Stays v f there clause others same (inl x) =
    subst (λ (t : TrailView). IsVisiting known t pairs rows head l (place + 1) × (length (row rows l) ≡ length (row rows l))) (sym x.0)
    (visited_true known trail pairs rows head l place e f.clause other v f.at_place f.is_there f.holds x.1)
visited_forced known trail next pairs rows head l place e other d Stays v f there clause others same (inr x) =
    visited_true known next pairs rows head l place e f.clause other pushed f.at_place f.is_there f.holds (length trail.entries, omega (arith, size), (entry_of other (Some e.clause), at_end, refl))
  where
    one : f.clause ≡ d
    one = get_one known e.clause f.clause d f.is_there there

    pushed : IsVisiting known next pairs rows head l place
    pushed = visit_push known trail next pairs rows head l place other e.clause v x.0 (record { clause = d; is_there = there; holds = subst (λ (y : List Literal). Contains y other) one f.holds; others = others }) same x.1

    size : length next.entries ≡ length trail.entries + 1
    size = ap (λ (y : List Entry). length y) x.1 ∙ length-append trail.entries (entry_of other (Some e.clause) ∷ [])

    at_end : slice_get next.entries (length trail.entries) ≡ Some (entry_of other (Some e.clause))
    at_end = ap (λ (y : List Entry). slice_get y (length trail.entries)) x.1 ∙ get_push_new trail.entries (entry_of other (Some e.clause))
visited_forced known trail next pairs rows head l place e other d (Conflict n) v f there clause others same x =
    let one : f.clause ≡ d = get_one known e.clause f.clause d f.is_there there in
    subst (λ (t : TrailView). IsWatched known t pairs rows head × IsConflict known t.entries n) (sym x.1)
    (v.watched, (d, ap (λ i. slice_get known i) x.0 ∙ there, all_false trail.entries d other clause (subst (λ (y : List Literal). Contains y other) one f.holds) others x.2))

pub visited_force : (known : List (List Literal)) (trail next : TrailView) (pairs : List Pair) (rows : List (List Watcher)) (head : ℕ) (l : Literal) (place : ℕ) (e : Watcher) (other : Literal) (d : List Literal) (r : Result Visit NoMemory) →
    IsVisiting known trail pairs rows head l place → IsFollowed known pairs rows l place e other → slice_get known e.clause ≡ Some d → IsClause d → OthersFalse trail.entries (length trail.entries) d other → next.variables ≡ trail.variables →
    IfOk r (IsForced trail next other e.clause) → IfOk r (IsVisited known next pairs rows head l place (length (row rows l)))
visited_force known trail next pairs rows head l place e other d (Ok v) w f there clause others same h = visited_forced known trail next pairs rows head l place e other d v w f there clause others same h
visited_force known trail next pairs rows head l place e other d (Err x) w f there clause others same h = h

-- a literal that isn't false is another than the one that became false
pub next_differs : (known : List (List Literal)) (trail : TrailView) (pairs : List Pair) (rows : List (List Watcher)) (head : ℕ) (l : Literal) (place : ℕ) (next : Literal) →
    IsVisiting known trail pairs rows head l place → TrueBefore trail.entries (length trail.entries) next ⊎ FreeBefore trail.entries (length trail.entries) next → next ≢ l
next_differs known trail pairs rows head l place next v unmet same =
    never_false known trail.entries next head v.watched.is_trail unmet (at_within trail.entries head (negation l) v.there) (subst (λ (x : Literal). At trail.entries head (negation x)) (sym same) v.there)

pub row_inside : (known : List (List Literal)) (trail : TrailView) (pairs : List Pair) (rows : List (List Watcher)) (head : ℕ) (n : ℕ) (c : List Literal) (l : Literal) → IsWatched known trail pairs rows head → slice_get known n ≡ Some c → Contains c l → row_of l < length rows
row_inside known trail pairs rows head n c l w there holds =
    subst (λ i. row_of l < i) (sym w.sized) (row_below l.positive l.variable trail.variables (range_of trail.variables known n c l w.range there holds).1)

-- the same visit, where the clauses and the pairs are told by other names
pub same_clauses : (trail : TrailView) (head : ℕ) (l : Literal) (place : ℕ) (known more : List (List Literal)) (pairs others : List Pair) (rows : List (List Watcher)) → more ≡ known → others ≡ pairs → IsVisiting known trail pairs rows head l place → IsVisiting more trail others rows head l place
same_clauses trail head l place known more pairs others rows same_known same_pairs v =
    subst (λ (k : List (List Literal)). IsVisiting k trail others rows head l place) (sym same_known) (subst (λ (p : List Pair). IsVisiting known trail p rows head l place) (sym same_pairs) v)

-- the other watch and the next one are two literals of the clause
pub own_next : (known : List (List Literal)) (pairs : List Pair) (rows : List (List Watcher)) (l : Literal) (place : ℕ) (e : Watcher) (other next : Literal) (d : List Literal) →
    IsFollowed known pairs rows l place e other → slice_get known e.clause ≡ Some d → Contains d next → next.variable ≢ other.variable → AreOwn d (record { first = other; second = next })
own_next known pairs rows l place e other next d f there holds differ = record {
  first = subst (λ (x : List Literal). Contains x other) (get_one known e.clause f.clause d f.is_there there) f.holds;
  second = holds;
  differ = λ q. differ (sym q);
}

-- the clause watches another literal from now on
pub visited_moved : (known : List (List Literal)) (trail : TrailView) (pairs new_pairs : List Pair) (rows new : List (List Watcher)) (head : ℕ) (l : Literal) (place : ℕ) (e : Watcher) (other next : Literal) (d : List Literal) →
    IsVisiting known trail pairs rows head l place → IsFollowed known pairs rows l place e other → slice_get known e.clause ≡ Some d → Contains d next → next.variable ≢ other.variable → TrueBefore trail.entries (length trail.entries) next ⊎ FreeBefore trail.entries (length trail.entries) next →
    IsRewatched pairs rows l place e.clause other next new_pairs new → IsVisiting known trail new_pairs new head l place × (length (row new l) + 1 ≡ length (row rows l))
visited_moved known trail pairs new_pairs rows new head l place e other next d v f there holds differ unmet m =
    subst (λ (x : List Pair). IsVisiting known trail x new head l place × (length (row new l) + 1 ≡ length (row rows l))) (sym m.written)
    (visit_removed known trail (set pairs e.clause pair) m.between new head l place e moved at_place stale m.removed, m.removed.here.shorter ∙ ap (λ (x : List Watcher). length x) same_row)
  where
    pair : Pair
    pair = record { first = other; second = next }

    one : f.clause ≡ d
    one = get_one known e.clause f.clause d f.is_there there

    apart : next ≢ l
    apart = next_differs known trail pairs rows head l place next v unmet

    same_row : row m.between l ≡ row rows l
    same_row = m.added.others l (λ q. apart (sym q))

    at_place : slice_get (row m.between l) place ≡ Some e
    at_place = ap (λ (x : List Watcher). slice_get x place) same_row ∙ f.at_place

    own : AreOwn f.clause pair
    own = record { first = f.holds; second = subst (λ (x : List Literal). Contains x next) (sym one) holds; differ = λ q. differ (sym q) }

    moved : IsVisiting known trail (set pairs e.clause pair) m.between head l place
    moved = visit_moved known trail pairs rows m.between head l place e.clause f.clause pair other next (record { clause = e.clause; blocker = other }) v f.is_there f.long f.watches (refl, refl) own m.added refl
        (record { clause = f.clause; is_there = f.is_there; long = f.long; holds = f.holds }) unmet

    inside : e.clause < length pairs
    inside = omega (arith, slice_get_within known e.clause f.clause f.is_there, v.watched.watching.counted)

    stale : IsWatch (set pairs e.clause pair) e.clause l → ⊥
    stale watch = side (get_one (set pairs e.clause pair) e.clause pair watch.0 (get_set_same pairs e.clause pair inside) watch.1) watch.2
      where
        side : pair ≡ watch.0 → (watch.0.first ≡ l) ⊎ (watch.0.second ≡ l) → ⊥
        side is (inl q) = f.differ (ap (λ (x : Literal). x.variable) (ap (λ (x : Pair). x.first) is ∙ q))
        side is (inr q) = apart (ap (λ (x : Pair). x.second) is ∙ q)
