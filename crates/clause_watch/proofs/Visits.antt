-- Steps that keep the watches right.
use Rattle.std.proofs.Common.{◌≡◌, ◌≢◌, ◌⊎◌, ℕ, ◌+◌, ◌<◌, ◌≤◌, List, [], ◌∷◌, ◌++◌, length, refl, sym, ◌∙◌, ap, subst, arith, inl, inr, Some, None, length-append}
use Rattle.std.specs.Prelude.{slice_get}
use Rattle.std.specs.List.{Contains}
use Rattle.std.proofs.Math.ListN.{set}
use Rattle.std.proofs.lemmas.Bool.{cases_eq, cases_lt}
use Rattle.std.proofs.lemmas.List.{length-set}
use Rattle.std.proofs.lemmas.Option.{slice_get_within}
use Rattle.clause_base.specs.Literals.{Literal, negation}
use Rattle.clause_base.specs.Clauses.{IsClause}
use Rattle.clause_base.proofs.Members.{one_of_variable}
use Rattle.clause_watch.specs.Rows.{row, IsAdded, IsPut, IsRemoved}
use Rattle.clause_watch.specs.Trails.{TrailView, At, TrueBefore, FreeBefore, FalseBefore, OthersFalse, QuietAt, Quiet, Forces}
use Rattle.clause_watch.specs.TwoWatches.{IsWatch, IsListed, AreOwn, IsNamed, IsWatching}
use Rattle.clause_watch.specs.Watching.{StaysMet, IsWatched, IsVisiting}
use Rattle.clause_watch.specs.declared.entry.Entry.{Entry}
use Rattle.clause_watch.specs.declared.pair.Pair.{Pair}
use Rattle.clause_watch.specs.declared.watchers.Watcher.{Watcher}
use Rattle.clause_watch.proofs.Lists.{get_one, get_push_old, get_push_new, get_push_cases, get_set_same, get_set_other, get_within}
use Rattle.clause_watch.proofs.Literals.{same_or_other, same_negation, truth_cases, never_false}
use Rattle.clause_watch.proofs.Trails.{entry_of, at_one, at_within, trail_push}

-- what stays met

pub stays_push : (t more : List Entry) (from : ℕ) (c : List Literal) → StaysMet t from c → StaysMet (t ++ more) from c
stays_push t more from c s =
    let inside = at_within t s.1 s.0 s.3 in (
      s.0,
      s.1,
      s.2,
      (s.3.0, get_push_old t more s.1 inside ∙ s.3.1, s.3.2),
      λ d e low high there. s.4 d e low high (sym (get_push_old t more d (omega (arith, inside, high))) ∙ there),
    )

-- a literal of the clause is true, and nothing was decided after the head
pub stays_true : (known : List (List Literal)) (trail : TrailView) (pairs : List Pair) (rows : List (List Watcher)) (head : ℕ) (c : List Literal) (m : Literal) →
    IsWatched known trail pairs rows head → Contains c m → TrueBefore trail.entries (length trail.entries) m → StaysMet trail.entries (head + 1) c
stays_true known trail pairs rows head c m w holds is =
    (m, is.0, holds, is.2, λ d e low high there. w.late d e (omega (arith, low)) there)

-- the start and the end of a row

pub visit_start : (known : List (List Literal)) (trail : TrailView) (pairs : List Pair) (rows : List (List Watcher)) (head : ℕ) (l : Literal) →
    IsWatched known trail pairs rows head → At trail.entries head (negation l) → IsVisiting known trail pairs rows head l 0
visit_start known trail pairs rows head l w at = record {
  watched = w;
  there = at;
  pending = λ n c there long watch. inr (w.watching.listed n c l there long watch);
}

pub visit_end : (known : List (List Literal)) (trail : TrailView) (pairs : List Pair) (rows : List (List Watcher)) (head : ℕ) (l : Literal) (place : ℕ) →
    IsVisiting known trail pairs rows head l place → length (row rows l) ≤ place → IsWatched known trail pairs rows (head + 1)
visit_end known trail pairs rows head l place v whole = record {
  range = v.watched.range;
  is_trail = v.watched.is_trail;
  sized = v.watched.sized;
  watching = v.watched.watching;
  settled = λ n k c w there long watch below at. settled n k c w there long watch at (cases_lt k head) below;
  short = v.watched.short;
  late = λ d e below there. v.watched.late d e (omega (arith, below)) there;
  within = omega (arith, at_within trail.entries head (negation l) v.there);
}
  where
    done : (n : ℕ) (c : List Literal) → StaysMet trail.entries (head + 1) c ⊎ IsListed rows l place n → StaysMet trail.entries (head + 1) c
    done n c (inl s) = s
    done n c (inr q) = absurd (omega (arith, slice_get_within (row rows l) q.0 q.1 q.3, q.2, whole))

    settled : (n k : ℕ) (c : List Literal) (w : Literal) → slice_get known n ≡ Some c → 2 ≤ length c → IsWatch pairs n w → At trail.entries k (negation w) → (k < head) ⊎ (head ≤ k) → k < head + 1 → StaysMet trail.entries (k + 1) c
    settled n k c w there long watch at (inl lt) below = v.watched.settled n k c w there long watch lt at
    settled n k c w there long watch at (inr ge) below =
        let same : k ≡ head = omega (arith, ge, below) in
        let one : w ≡ l = same_negation w l (at_one trail.entries head (negation w) (negation l) (subst (λ i. At trail.entries i (negation w)) same at) v.there) in
        subst (λ i. StaysMet trail.entries (i + 1) c) (sym same) (done n c (v.pending n c there long (subst (λ (x : Literal). IsWatch pairs n x) one watch)))

-- the clause at the place stays met
pub visit_stays : (known : List (List Literal)) (trail : TrailView) (pairs : List Pair) (rows : List (List Watcher)) (head : ℕ) (l : Literal) (place : ℕ) (e : Watcher) (c : List Literal) →
    IsVisiting known trail pairs rows head l place → slice_get (row rows l) place ≡ Some e → slice_get known e.clause ≡ Some c → StaysMet trail.entries (head + 1) c → IsVisiting known trail pairs rows head l (place + 1)
visit_stays known trail pairs rows head l place e c v at_place is s = record {
  watched = v.watched;
  there = v.there;
  pending = λ n d there long watch. next n d there (v.pending n d there long watch);
}
  where
    later : (n : ℕ) (d : List Literal) → slice_get known n ≡ Some d → (q : ℕ) (f : Watcher) → slice_get (row rows l) q ≡ Some f → f.clause ≡ n → (q ≡ place) ⊎ (q ≢ place) → place ≤ q → StaysMet trail.entries (head + 1) d ⊎ IsListed rows l (place + 1) n
    later n d there q f found names (inl same) from =
        let one : f ≡ e = get_one (row rows l) place f e (subst (λ i. slice_get (row rows l) i ≡ Some f) same found) at_place in
        let number : e.clause ≡ n = ap (λ (x : Watcher). x.clause) (sym one) ∙ names in
        let clause : c ≡ d = get_one known n c d (subst (λ i. slice_get known i ≡ Some c) number is) there in
        inl (subst (λ (x : List Literal). StaysMet trail.entries (head + 1) x) clause s)
    later n d there q f found names (inr differ) from =
        let after : place + 1 ≤ q = omega (arith, differ, from) in
        inr (q, f, after, found, names)

    next : (n : ℕ) (d : List Literal) → slice_get known n ≡ Some d → StaysMet trail.entries (head + 1) d ⊎ IsListed rows l place n → StaysMet trail.entries (head + 1) d ⊎ IsListed rows l (place + 1) n
    next n d there (inl m) = inl m
    next n d there (inr q) = later n d there q.0 q.1 q.3 q.4 (cases_eq q.0 place) q.2

-- the trail grows by a forced literal

pub same_trail : (trail next : TrailView) (entries : List Entry) → next.variables ≡ trail.variables → next.entries ≡ entries → record { variables = trail.variables; entries = entries } ≡ next
same_trail trail next entries p q = λ i. record { variables = sym p i; entries = sym q i }

pub watched_push : (known : List (List Literal)) (trail : TrailView) (pairs : List Pair) (rows : List (List Watcher)) (head : ℕ) (l : Literal) (number : ℕ) →
    IsWatched known trail pairs rows head → FreeBefore trail.entries (length trail.entries) l → Forces known trail.entries (length trail.entries) l number →
    IsWatched known (record { variables = trail.variables; entries = trail.entries ++ entry_of l (Some number) ∷ [] }) pairs rows head
watched_push known trail pairs rows head l number w free forced = record {
  range = w.range;
  is_trail = trail_push known trail.entries l (Some number) w.is_trail free (λ n e. let same : number ≡ n = cc in subst (λ i. Forces known trail.entries (length trail.entries) l i) same forced) (λ e. absurd (let q : Some number ≡ None = e in cc));
  sized = w.sized;
  watching = w.watching;
  settled = λ n k c x there long watch below at. stays_push trail.entries (new ∷ []) (k + 1) c (w.settled n k c x there long watch below (at.0, sym (get_push_old trail.entries (new ∷ []) k (omega (arith, below, w.within))) ∙ at.1, at.2));
  short = λ n c there few. stays_push trail.entries (new ∷ []) 0 c (w.short n c there few);
  late = λ d e below there. late d e below (get_push_cases trail.entries new d e there);
  within = omega (arith, w.within, length-append trail.entries (new ∷ []));
}
  where
    new : Entry
    new = entry_of l (Some number)

    late : (d : ℕ) (e : Entry) → head < d → ((d < length trail.entries) × (slice_get trail.entries d ≡ Some e)) ⊎ ((d ≡ length trail.entries) × (new ≡ e)) → e.reason ≢ None
    late d e below (inl x) = w.late d e below x.1
    late d e below (inr x) = λ q. let p : Some number ≡ None = ap (λ (y : Entry). y.reason) x.1 ∙ q in cc

pub visit_push : (known : List (List Literal)) (trail next : TrailView) (pairs : List Pair) (rows : List (List Watcher)) (head : ℕ) (p : Literal) (place : ℕ) (l : Literal) (number : ℕ) →
    IsVisiting known trail pairs rows head p place → FreeBefore trail.entries (length trail.entries) l → Forces known trail.entries (length trail.entries) l number →
    next.variables ≡ trail.variables → next.entries ≡ trail.entries ++ entry_of l (Some number) ∷ [] → IsVisiting known next pairs rows head p place
visit_push known trail next pairs rows head p place l number v free forced same grown =
    subst (λ (x : TrailView). IsVisiting known x pairs rows head p place) (same_trail trail next (trail.entries ++ entry_of l (Some number) ∷ []) same grown) pushed
  where
    more : List Entry
    more = entry_of l (Some number) ∷ []

    next_pending : (n : ℕ) (c : List Literal) → StaysMet trail.entries (head + 1) c ⊎ IsListed rows p place n → StaysMet (trail.entries ++ more) (head + 1) c ⊎ IsListed rows p place n
    next_pending n c (inl s) = inl (stays_push trail.entries more (head + 1) c s)
    next_pending n c (inr q) = inr q

    pushed : IsVisiting known (record { variables = trail.variables; entries = trail.entries ++ more }) pairs rows head p place
    pushed = record {
      watched = watched_push known trail pairs rows head l number v.watched free forced;
      there = (v.there.0, get_push_old trail.entries more head (at_within trail.entries head (negation p) v.there) ∙ v.there.1, v.there.2);
      pending = λ n c there long watch. next_pending n c (v.pending n c there long watch);
    }

-- a clause comes to watch another literal

pub listed_added : (rows new : List (List Watcher)) (l w : Literal) (e : Watcher) (from n : ℕ) → IsAdded rows l e new → IsListed rows w from n → IsListed new w from n
listed_added rows new l w e from n a h = go (same_or_other w l)
  where
    go : (w ≡ l) ⊎ (w ≢ l) → IsListed new w from n
    go (inl same) =
        let old : slice_get (row rows l) h.0 ≡ Some h.1 = subst (λ (x : Literal). slice_get (row rows x) h.0 ≡ Some h.1) same h.3 in
        let more : slice_get (row new l) h.0 ≡ Some h.1 = ap (λ (r : List Watcher). slice_get r h.0) a.here ∙ (get_push_old (row rows l) (e ∷ []) h.0 (slice_get_within (row rows l) h.0 h.1 old) ∙ old) in
        (h.0, h.1, h.2, subst (λ (x : Literal). slice_get (row new x) h.0 ≡ Some h.1) (sym same) more, h.4)
    go (inr differ) = (h.0, h.1, h.2, ap (λ (r : List Watcher). slice_get r h.0) (a.others w differ) ∙ h.3, h.4)

pub listed_new : (rows new : List (List Watcher)) (l : Literal) (e : Watcher) → IsAdded rows l e new → IsListed new l 0 e.clause
listed_new rows new l e a =
    (length (row rows l), e, omega arith, ap (λ (r : List Watcher). slice_get r (length (row rows l))) a.here ∙ get_push_new (row rows l) e, refl)

pub named_added : (known : List (List Literal)) (rows new : List (List Watcher)) (l w : Literal) (e f : Watcher) (q : ℕ) → IsAdded rows l e new → IsNamed known e →
    ((x : Literal) (k : ℕ) (g : Watcher) → slice_get (row rows x) k ≡ Some g → IsNamed known g) → slice_get (row new w) q ≡ Some f → IsNamed known f
named_added known rows new l w e f q a named before found = go (same_or_other w l)
  where
    pushed : ((q < length (row rows l)) × (slice_get (row rows l) q ≡ Some f)) ⊎ ((q ≡ length (row rows l)) × (e ≡ f)) → IsNamed known f
    pushed (inl x) = before l q f x.1
    pushed (inr x) = subst (λ (g : Watcher). IsNamed known g) x.1 named

    go : (w ≡ l) ⊎ (w ≢ l) → IsNamed known f
    go (inl same) =
        let here : slice_get (row new l) q ≡ Some f = subst (λ (x : Literal). slice_get (row new x) q ≡ Some f) same found in
        pushed (get_push_cases (row rows l) e q f (sym (ap (λ (r : List Watcher). slice_get r q) a.here) ∙ here))
    go (inr differ) = before w q f (sym (ap (λ (r : List Watcher). slice_get r q) (a.others w differ)) ∙ found)

-- the numbered clause watches `kept` and `next` from now on
abbrev pub IsPair : Pair → Literal → Literal → Type 0
IsPair p kept next = (p.first ≡ kept) × (p.second ≡ next)

pub watch_cases : (pairs : List Pair) (number n : ℕ) (pair : Pair) (kept next w : Literal) → number < length pairs → IsWatch pairs number kept → IsPair pair kept next → IsWatch (set pairs number pair) n w →
    IsWatch pairs n w ⊎ ((n ≡ number) × (w ≡ next))
watch_cases pairs number n pair kept next w within was is h = go (cases_eq n number)
  where
    side : (q : Pair) → pair ≡ q → (q.first ≡ w) ⊎ (q.second ≡ w) → (kept ≡ w) ⊎ (next ≡ w)
    side q one (inl e) = inl (sym is.0 ∙ (ap (λ (x : Pair). x.first) one ∙ e))
    side q one (inr e) = inr (sym is.1 ∙ (ap (λ (x : Pair). x.second) one ∙ e))

    here : n ≡ number → (kept ≡ w) ⊎ (next ≡ w) → IsWatch pairs n w ⊎ ((n ≡ number) × (w ≡ next))
    here same (inl e) = inl (subst (λ i. IsWatch pairs i w) (sym same) (subst (λ (x : Literal). IsWatch pairs number x) e was))
    here same (inr e) = inr (same, sym e)

    go : (n ≡ number) ⊎ (n ≢ number) → IsWatch pairs n w ⊎ ((n ≡ number) × (w ≡ next))
    go (inl same) =
        let there : slice_get (set pairs number pair) number ≡ Some h.0 = subst (λ i. slice_get (set pairs number pair) i ≡ Some h.0) same h.1 in
        let one : pair ≡ h.0 = get_one (set pairs number pair) number pair h.0 (get_set_same pairs number pair within) there in
        here same (side h.0 one h.2)
    go (inr differ) = inl (h.0, sym (get_set_other pairs number n pair differ) ∙ h.1, h.2)

pub watching_moved : (known : List (List Literal)) (pairs : List Pair) (rows new : List (List Watcher)) (number : ℕ) (c : List Literal) (pair : Pair) (kept next : Literal) (e : Watcher) →
    IsWatching known pairs rows → slice_get known number ≡ Some c → 2 ≤ length c → IsWatch pairs number kept → IsPair pair kept next → AreOwn c pair → IsAdded rows next e new → e.clause ≡ number → IsNamed known e →
    IsWatching known (set pairs number pair) new
watching_moved known pairs rows new number c pair kept next e w is long was both own added names named = record {
  counted = length-set pairs number pair ∙ w.counted;
  owned = λ n d p there more found. owned n d p there more found (cases_eq n number);
  listed = λ n d x there more watch. listed n d x there more (watch_cases pairs number n pair kept next x inside was both watch);
  named = λ l q f found. named_added known rows new next l e f q added named w.named found;
}
  where
    inside : number < length pairs
    inside = omega (arith, slice_get_within known number c is, w.counted)

    owned : (n : ℕ) (d : List Literal) (p : Pair) → slice_get known n ≡ Some d → 2 ≤ length d → slice_get (set pairs number pair) n ≡ Some p → (n ≡ number) ⊎ (n ≢ number) → AreOwn d p
    owned n d p there more found (inl same) =
        let one : pair ≡ p = get_one (set pairs number pair) number pair p (get_set_same pairs number pair inside) (subst (λ i. slice_get (set pairs number pair) i ≡ Some p) same found) in
        let clause : c ≡ d = get_one known number c d is (subst (λ i. slice_get known i ≡ Some d) same there) in
        subst (λ (x : List Literal). AreOwn x p) clause (subst (λ (x : Pair). AreOwn c x) one own)
    owned n d p there more found (inr differ) = w.owned n d p there more (sym (get_set_other pairs number n pair differ) ∙ found)

    listed : (n : ℕ) (d : List Literal) (x : Literal) → slice_get known n ≡ Some d → 2 ≤ length d → IsWatch pairs n x ⊎ ((n ≡ number) × (x ≡ next)) → IsListed new x 0 n
    listed n d x there more (inl watch) = listed_added rows new next x e 0 n added (w.listed n d x there more watch)
    listed n d x there more (inr q) =
        let at_next : IsListed new next 0 e.clause = listed_new rows new next e added in
        subst (λ (y : Literal). IsListed new y 0 n) (sym q.1) (subst (λ i. IsListed new next 0 i) (names ∙ sym q.0) at_next)

pub visit_moved : (known : List (List Literal)) (trail : TrailView) (pairs : List Pair) (rows new : List (List Watcher)) (head : ℕ) (l : Literal) (place number : ℕ) (c : List Literal) (pair : Pair) (kept next : Literal) (e : Watcher) →
    IsVisiting known trail pairs rows head l place → slice_get known number ≡ Some c → 2 ≤ length c → IsWatch pairs number kept → IsPair pair kept next → AreOwn c pair → IsAdded rows next e new → e.clause ≡ number → IsNamed known e →
    TrueBefore trail.entries (length trail.entries) next ⊎ FreeBefore trail.entries (length trail.entries) next →
    IsVisiting known trail (set pairs number pair) new head l place
visit_moved known trail pairs rows new head l place number c pair kept next e v is long was both own added names named unmet = record {
  watched = record {
    range = v.watched.range;
    is_trail = v.watched.is_trail;
    sized = added.sized ∙ v.watched.sized;
    watching = watching_moved known pairs rows new number c pair kept next e v.watched.watching is long was both own added names named;
    settled = λ n k d x there more watch below at. settled n k d x there more below at (cases n x watch);
    short = v.watched.short;
    late = v.watched.late;
    within = v.watched.within;
  };
  there = v.there;
  pending = λ n d there more watch. pending n d there more (cases n l watch);
}
  where
    inside : number < length pairs
    inside = omega (arith, slice_get_within known number c is, v.watched.watching.counted)

    cases : (n : ℕ) (x : Literal) → IsWatch (set pairs number pair) n x → IsWatch pairs n x ⊎ ((n ≡ number) × (x ≡ next))
    cases n x watch = watch_cases pairs number n pair kept next x inside was both watch

    never : (k : ℕ) (x : Literal) → x ≡ next → k < length trail.entries → At trail.entries k (negation x) → ⊥
    never k x same below at = never_false known trail.entries next k v.watched.is_trail unmet below (subst (λ (y : Literal). At trail.entries k (negation y)) same at)

    settled : (n k : ℕ) (d : List Literal) (x : Literal) → slice_get known n ≡ Some d → 2 ≤ length d → k < head → At trail.entries k (negation x) → IsWatch pairs n x ⊎ ((n ≡ number) × (x ≡ next)) → StaysMet trail.entries (k + 1) d
    settled n k d x there more below at (inl watch) = v.watched.settled n k d x there more watch below at
    settled n k d x there more below at (inr q) = absurd (never k x q.1 (omega (arith, below, v.watched.within)) at)

    keep : (n : ℕ) (d : List Literal) → StaysMet trail.entries (head + 1) d ⊎ IsListed rows l place n → StaysMet trail.entries (head + 1) d ⊎ IsListed new l place n
    keep n d (inl s) = inl s
    keep n d (inr q) = inr (listed_added rows new next l e place n added q)

    pending : (n : ℕ) (d : List Literal) → slice_get known n ≡ Some d → 2 ≤ length d → IsWatch pairs n l ⊎ ((n ≡ number) × (l ≡ next)) → StaysMet trail.entries (head + 1) d ⊎ IsListed new l place n
    pending n d there more (inl watch) = keep n d (v.pending n d there more watch)
    pending n d there more (inr q) = absurd (never head l q.1 (at_within trail.entries head (negation l) v.there) v.there)

-- a clause that doesn't watch the literal is taken out of its row

pub listed_removed : (rows new : List (List Watcher)) (l w : Literal) (place from n : ℕ) (e : Watcher) → ((q r : ℕ) → from ≤ q → (place ≤ q → place ≤ r) → from ≤ r) → IsRemoved rows l place new → slice_get (row rows l) place ≡ Some e →
    (e.clause ≡ n → w ≢ l) → IsListed rows w from n → IsListed new w from n
listed_removed rows new l w place from n e bound r at_place other h = go (same_or_other w l)
  where
    stay : (q : ℕ) (f : Watcher) → from ≤ q → w ≡ l → slice_get (row rows l) q ≡ Some f → f.clause ≡ n → (q ≡ place) ⊎ (q ≢ place) → IsListed new w from n
    stay q f above same found names (inl here) =
        let one : e ≡ f = get_one (row rows l) place e f at_place (subst (λ i. slice_get (row rows l) i ≡ Some f) here found) in
        absurd (other (ap (λ (x : Watcher). x.clause) one ∙ names) same)
    stay q f above same found names (inr differ) =
        let s = r.here.stays q f found differ in
        (s.0, f, bound q s.0 above s.2, subst (λ (x : Literal). slice_get (row new x) s.0 ≡ Some f) (sym same) s.1, names)

    go : (w ≡ l) ⊎ (w ≢ l) → IsListed new w from n
    go (inl same) = stay h.0 h.1 h.2 same (subst (λ (x : Literal). slice_get (row rows x) h.0 ≡ Some h.1) same h.3) h.4 (cases_eq h.0 place)
    go (inr differ) = (h.0, h.1, h.2, ap (λ (x : List Watcher). slice_get x h.0) (r.others w differ) ∙ h.3, h.4)

pub named_removed : (known : List (List Literal)) (rows new : List (List Watcher)) (l w : Literal) (place q : ℕ) (f : Watcher) → IsRemoved rows l place new →
    ((x : Literal) (k : ℕ) (g : Watcher) → slice_get (row rows x) k ≡ Some g → IsNamed known g) → slice_get (row new w) q ≡ Some f → IsNamed known f
named_removed known rows new l w place q f r before found = go (same_or_other w l)
  where
    go : (w ≡ l) ⊎ (w ≢ l) → IsNamed known f
    go (inl same) =
        let old = r.here.only q f (subst (λ (x : Literal). slice_get (row new x) q ≡ Some f) same found) in
        before l old.0 f old.1
    go (inr differ) = before w q f (sym (ap (λ (x : List Watcher). slice_get x q) (r.others w differ)) ∙ found)

pub watching_removed : (known : List (List Literal)) (pairs : List Pair) (rows new : List (List Watcher)) (l : Literal) (place : ℕ) (e : Watcher) →
    IsWatching known pairs rows → slice_get (row rows l) place ≡ Some e → (IsWatch pairs e.clause l → ⊥) → IsRemoved rows l place new → IsWatching known pairs new
watching_removed known pairs rows new l place e v at_place stale r = record {
  counted = v.counted;
  owned = v.owned;
  listed = λ n c w there long watch. listed_removed rows new l w place 0 n e (λ q k low h. omega arith) r at_place (λ same is. stale (moved n w same is watch)) (v.listed n c w there long watch);
  named = λ w q f found. named_removed known rows new l w place q f r v.named found;
}
  where
    moved : (n : ℕ) (w : Literal) → e.clause ≡ n → w ≡ l → IsWatch pairs n w → IsWatch pairs e.clause l
    moved n w same is watch = subst (λ i. IsWatch pairs i l) (sym same) (subst (λ (x : Literal). IsWatch pairs n x) is watch)

pub visit_removed : (known : List (List Literal)) (trail : TrailView) (pairs : List Pair) (rows new : List (List Watcher)) (head : ℕ) (l : Literal) (place : ℕ) (e : Watcher) →
    IsVisiting known trail pairs rows head l place → slice_get (row rows l) place ≡ Some e → (IsWatch pairs e.clause l → ⊥) → IsRemoved rows l place new → IsVisiting known trail pairs new head l place
visit_removed known trail pairs rows new head l place e v at_place stale r = record {
  watched = record {
    range = v.watched.range;
    is_trail = v.watched.is_trail;
    sized = r.sized ∙ v.watched.sized;
    watching = watching_removed known pairs rows new l place e v.watched.watching at_place stale r;
    settled = v.watched.settled;
    short = v.watched.short;
    late = v.watched.late;
    within = v.watched.within;
  };
  there = v.there;
  pending = λ n c there long watch. pending n c watch (v.pending n c there long watch);
}
  where
    moved : (n : ℕ) (w : Literal) → e.clause ≡ n → w ≡ l → IsWatch pairs n w → IsWatch pairs e.clause l
    moved n w same is watch = subst (λ i. IsWatch pairs i l) (sym same) (subst (λ (x : Literal). IsWatch pairs n x) is watch)

    pending : (n : ℕ) (c : List Literal) → IsWatch pairs n l → StaysMet trail.entries (head + 1) c ⊎ IsListed rows l place n → StaysMet trail.entries (head + 1) c ⊎ IsListed new l place n
    pending n c watch (inl s) = inl s
    pending n c watch (inr q) = inr (listed_removed rows new l l place place n e (λ i k low h. h low) r at_place (λ same is. stale (moved n l same refl watch)) q)

-- a watcher gets another blocker

pub listed_put : (rows new : List (List Watcher)) (l w : Literal) (place from n : ℕ) (e f : Watcher) → slice_get (row rows l) place ≡ Some e → f.clause ≡ e.clause → IsPut rows l place f new → IsListed rows w from n → IsListed new w from n
listed_put rows new l w place from n e f at_place same_clause p h = go (same_or_other w l)
  where
    stay : (q : ℕ) (g : Watcher) → from ≤ q → w ≡ l → slice_get (row rows l) q ≡ Some g → g.clause ≡ n → (q ≡ place) ⊎ (q ≢ place) → IsListed new w from n
    stay q g above same found names (inl here) =
        let one : e ≡ g = get_one (row rows l) place e g at_place (subst (λ i. slice_get (row rows l) i ≡ Some g) here found) in
        let put : slice_get (row new l) q ≡ Some f = ap (λ (r : List Watcher). slice_get r q) p.here ∙ (ap (λ i. slice_get (set (row rows l) place f) i) here ∙ get_set_same (row rows l) place f (slice_get_within (row rows l) place e at_place)) in
        (q, f, above, subst (λ (x : Literal). slice_get (row new x) q ≡ Some f) (sym same) put, same_clause ∙ (ap (λ (x : Watcher). x.clause) one ∙ names))
    stay q g above same found names (inr differ) =
        let put : slice_get (row new l) q ≡ Some g = ap (λ (r : List Watcher). slice_get r q) p.here ∙ (get_set_other (row rows l) place q f differ ∙ found) in
        (q, g, above, subst (λ (x : Literal). slice_get (row new x) q ≡ Some g) (sym same) put, names)

    go : (w ≡ l) ⊎ (w ≢ l) → IsListed new w from n
    go (inl same) = stay h.0 h.1 h.2 same (subst (λ (x : Literal). slice_get (row rows x) h.0 ≡ Some h.1) same h.3) h.4 (cases_eq h.0 place)
    go (inr differ) = (h.0, h.1, h.2, ap (λ (x : List Watcher). slice_get x h.0) (p.others w differ) ∙ h.3, h.4)

pub named_put : (known : List (List Literal)) (rows new : List (List Watcher)) (l w : Literal) (place q : ℕ) (e f g : Watcher) → slice_get (row rows l) place ≡ Some e → IsPut rows l place f new → IsNamed known f →
    ((x : Literal) (k : ℕ) (h : Watcher) → slice_get (row rows x) k ≡ Some h → IsNamed known h) → slice_get (row new w) q ≡ Some g → IsNamed known g
named_put known rows new l w place q e f g at_place p named before found = go (same_or_other w l)
  where
    stay : slice_get (set (row rows l) place f) q ≡ Some g → (q ≡ place) ⊎ (q ≢ place) → IsNamed known g
    stay there (inl here) =
        let inside = slice_get_within (row rows l) place e at_place in
        let one : f ≡ g = get_one (set (row rows l) place f) place f g (get_set_same (row rows l) place f inside) (subst (λ i. slice_get (set (row rows l) place f) i ≡ Some g) here there) in
        subst (λ (x : Watcher). IsNamed known x) one named
    stay there (inr differ) = before l q g (sym (get_set_other (row rows l) place q f differ) ∙ there)

    go : (w ≡ l) ⊎ (w ≢ l) → IsNamed known g
    go (inl same) = stay (sym (ap (λ (r : List Watcher). slice_get r q) p.here) ∙ subst (λ (x : Literal). slice_get (row new x) q ≡ Some g) same found) (cases_eq q place)
    go (inr differ) = before w q g (sym (ap (λ (x : List Watcher). slice_get x q) (p.others w differ)) ∙ found)

pub watching_put : (known : List (List Literal)) (pairs : List Pair) (rows new : List (List Watcher)) (l : Literal) (place : ℕ) (e f : Watcher) →
    IsWatching known pairs rows → slice_get (row rows l) place ≡ Some e → f.clause ≡ e.clause → IsNamed known f → IsPut rows l place f new → IsWatching known pairs new
watching_put known pairs rows new l place e f v at_place same named p = record {
  counted = v.counted;
  owned = v.owned;
  listed = λ n c w there long watch. listed_put rows new l w place 0 n e f at_place same p (v.listed n c w there long watch);
  named = λ w q g found. named_put known rows new l w place q e f g at_place p named v.named found;
}

pub visit_put : (known : List (List Literal)) (trail : TrailView) (pairs : List Pair) (rows new : List (List Watcher)) (head : ℕ) (l : Literal) (place : ℕ) (e f : Watcher) →
    IsVisiting known trail pairs rows head l place → slice_get (row rows l) place ≡ Some e → f.clause ≡ e.clause → IsNamed known f → IsPut rows l place f new → IsVisiting known trail pairs new head l place
visit_put known trail pairs rows new head l place e f v at_place same named p = record {
  watched = record {
    range = v.watched.range;
    is_trail = v.watched.is_trail;
    sized = p.sized ∙ v.watched.sized;
    watching = watching_put known pairs rows new l place e f v.watched.watching at_place same named p;
    settled = v.watched.settled;
    short = v.watched.short;
    late = v.watched.late;
    within = v.watched.within;
  };
  there = v.there;
  pending = λ n c there long watch. pending n c (v.pending n c there long watch);
}
  where
    pending : (n : ℕ) (c : List Literal) → StaysMet trail.entries (head + 1) c ⊎ IsListed rows l place n → StaysMet trail.entries (head + 1) c ⊎ IsListed new l place n
    pending n c (inl s) = inl s
    pending n c (inr q) = inr (listed_put rows new l l place place n e f at_place same p q)

-- what a clause is where no literal but one watch can be true

pub all_false : (t : List Entry) (c : List Literal) (l : Literal) → IsClause c → Contains c l → OthersFalse t (length t) c l → TrueBefore t (length t) (negation l) → FalseBefore t (length t) c
all_false t c l clause holds others fails = λ m there. go m there (cases_eq m.variable l.variable)
  where
    go : (m : Literal) → Contains c m → (m.variable ≡ l.variable) ⊎ (m.variable ≢ l.variable) → TrueBefore t (length t) (negation m)
    go m there (inl same) = subst (λ (x : Literal). TrueBefore t (length t) (negation x)) (one_of_variable c l m clause holds there (sym same)) fails
    go m there (inr differ) = others m there differ

-- where all entries are propagated, no clause is false or forces anything
pub quiet_end : (known : List (List Literal)) (trail : TrailView) (pairs : List Pair) (rows : List (List Watcher)) (head : ℕ) → IsWatched known trail pairs rows head → length trail.entries ≤ head → Quiet known trail.entries (length trail.entries)
quiet_end known trail pairs rows head w whole = λ n c there. sized n c there (cases_lt (length c) 2)
  where
    t : List Entry
    t = trail.entries

    met : (c : List Literal) (from : ℕ) → StaysMet trail.entries from c → QuietAt trail.entries (length trail.entries) c
    met c from s = inl (s.0, s.2, (s.1, at_within trail.entries s.1 s.0 s.3, s.3))

    long : (n : ℕ) (c : List Literal) → slice_get known n ≡ Some c → 2 ≤ length c → (p : Pair) → slice_get pairs n ≡ Some p → AreOwn c p →
        TrueBefore trail.entries (length trail.entries) p.first ⊎ (TrueBefore trail.entries (length trail.entries) (negation p.first) ⊎ FreeBefore trail.entries (length trail.entries) p.first) →
        TrueBefore trail.entries (length trail.entries) p.second ⊎ (TrueBefore trail.entries (length trail.entries) (negation p.second) ⊎ FreeBefore trail.entries (length trail.entries) p.second) →
        QuietAt trail.entries (length trail.entries) c
    long n c there more p found own (inl a) b = inl (p.first, own.first, a)
    long n c there more p found own (inr (inl a)) b = met c (a.0 + 1) (w.settled n a.0 c p.first there more (p, found, inl refl) (omega (arith, a.1, whole)) a.2)
    long n c there more p found own (inr (inr a)) (inl b) = inl (p.second, own.second, b)
    long n c there more p found own (inr (inr a)) (inr (inl b)) = met c (b.0 + 1) (w.settled n b.0 c p.second there more (p, found, inr refl) (omega (arith, b.1, whole)) b.2)
    long n c there more p found own (inr (inr a)) (inr (inr b)) = inr (p.first, p.second, own.differ, own.first, own.second, a, b)

    sized : (n : ℕ) (c : List Literal) → slice_get known n ≡ Some c → (length c < 2) ⊎ (2 ≤ length c) → QuietAt trail.entries (length trail.entries) c
    sized n c there (inl few) = met c 0 (w.short n c there few)
    sized n c there (inr more) =
        let p = get_within pairs n (omega (arith, slice_get_within known n c there, w.watching.counted)) in
        long n c there more p.0 p.1 (w.watching.owned n c p.0 there more p.1) (truth_cases trail.entries p.0.first (length trail.entries) (omega arith)) (truth_cases trail.entries p.0.second (length trail.entries) (omega arith))
