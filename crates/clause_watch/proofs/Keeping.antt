-- Rows that hold exactly the clauses that watch their literals, each once.
use Rattle.std.proofs.Common.{◌≡◌, ◌≢◌, ◌⊎◌, ℕ, ◌<◌, ◌≤◌, List, [], ◌∷◌, ◌++◌, length, get_or, refl, sym, ◌∙◌, ap, subst, arith, inl, inr, Some, None, Result, Ok, Err, length-append}
use Rattle.std.specs.Prelude.{slice_get, OnOk, OnErr}
use Rattle.std.proofs.Math.ListN.{set}
use Rattle.std.proofs.lemmas.Bool.{cases_eq}
use Rattle.std.proofs.lemmas.List.{get_or_default}
use Rattle.std.proofs.lemmas.Option.{slice_get_within}
use Rattle.clause_base.specs.Literals.{Literal}
use Rattle.clause_base.specs.Clauses.{IsClause}
use Rattle.clause_watch.specs.Rows.{row, IsAdded, IsPut, IsPopped, AreEmpty, AreSameRows}
use Rattle.clause_watch.specs.TwoWatches.{IsWatch, AreOwn, IsNamed, IsWatching, AreAlone, KeepsWatches, IsInBothRows, IsRewatched}
use Rattle.clause_watch.specs.declared.pair.Pair.{Pair}
use Rattle.clause_watch.specs.declared.watchers.Watcher.{Watcher}
use Rattle.clause_watch.proofs.Lists.{get_one, get_push_old, get_push_new, get_push_cases, get_set_same, get_set_other}
use Rattle.clause_watch.proofs.Literals.{same_or_other}
use Rattle.clause_watch.proofs.Visits.{watching_moved, watching_removed, watching_put}
use Rattle.clause_watch.proofs.Lessons.{watching_short, watching_attached}

-- no clauses
pub keeps_none : (variables : ℕ) (rows : List (List Watcher)) → AreEmpty variables rows → KeepsWatches [] [] rows
keeps_none variables rows empty = record {
  all = record {
    counted = refl;
    owned = λ n c p there. absurd (let q : None ≡ Some c = there in cc);
    listed = λ n c w there. absurd (let q : None ≡ Some c = there in cc);
    named = λ l q e found. absurd (none l q e found);
  };
  alone = record {
    watching = λ l q e found. absurd (none l q e found);
    once = λ l q r e f found also same. absurd (none l q e found);
  };
}
  where
    none : (l : Literal) (q : ℕ) (e : Watcher) → slice_get (row rows l) q ≡ Some e → ⊥
    none l q e found = let n : None ≡ Some e = ap (λ (r : List Watcher). slice_get r q) (sym (empty.empty l)) ∙ found in cc

-- rows that have what they had

pub keeps_same : (known : List (List Literal)) (pairs : List Pair) (rows new : List (List Watcher)) → KeepsWatches known pairs rows → AreSameRows rows new → KeepsWatches known pairs new
keeps_same known pairs rows new v s = record {
  all = record {
    counted = v.all.counted;
    owned = v.all.owned;
    listed = λ n c w there long watch. let h = v.all.listed n c w there long watch in (h.0, h.1, h.2, ap (λ (r : List Watcher). slice_get r h.0) (s.same w) ∙ h.3, h.4);
    named = λ l q e found. v.all.named l q e (back l q e found);
  };
  alone = record {
    watching = λ l q e found. v.alone.watching l q e (back l q e found);
    once = λ l q r e f found also same. v.alone.once l q r e f (back l q e found) (back l r f also) same;
  };
}
  where
    back : (l : Literal) (q : ℕ) (e : Watcher) → slice_get (row new l) q ≡ Some e → slice_get (row rows l) q ≡ Some e
    back l q e found = sym (ap (λ (r : List Watcher). slice_get r q) (s.same l)) ∙ found

pub same_last : {X : Type 0} (xs ys : List X) (x y : X) → xs ++ x ∷ [] ≡ ys ++ y ∷ [] → xs ≡ ys
same_last [] [] x y e = refl
same_last [] (z ∷ ys) x y e = absurd (omega (arith, ap (λ (l : List _). length l) e, length-append (z ∷ ys) (y ∷ [])))
same_last (z ∷ xs) [] x y e = absurd (omega (arith, ap (λ (l : List _). length l) e, length-append (z ∷ xs) (x ∷ [])))
same_last (z ∷ xs) (w ∷ ys) x y e = let head : z ≡ w = cc in let rest : xs ++ x ∷ [] ≡ ys ++ y ∷ [] = cc in (λ i. head i ∷ same_last xs ys x y rest i)

-- what was put into a row is taken out of it again
pub undone : (old mid more new : List (List Watcher)) (l : Literal) (e : Watcher) → IsAdded old l e mid → AreSameRows mid more → IsPopped more l new → AreSameRows old new
undone old mid more new l e added s p = record {
  sized = sym p.1.sized ∙ (s.sized ∙ added.sized);
  same = λ x. go x (same_or_other x l);
}
  where
    go : (x : Literal) → (x ≡ l) ⊎ (x ≢ l) → row new x ≡ row old x
    go x (inl same) = subst (λ (y : Literal). row new y ≡ row old y) (sym same) (same_last (row new l) (row old l) p.0 e (sym p.1.here ∙ (s.same l ∙ added.here)))
    go x (inr differ) = sym (p.1.others x differ) ∙ (s.same x ∙ added.others x differ)

pub same_rows : (rows : List (List Watcher)) → AreSameRows rows rows
same_rows rows = record { sized = refl; same = λ l. refl }

pub both_undone : (rows old mid new : List (List Watcher)) (number : ℕ) (first second : Literal) → IsInBothRows rows number first second old → IsPopped old second mid → IsPopped mid first new → AreSameRows rows new
both_undone rows old mid new number first second m p q =
    undone rows m.between mid new first (record { clause = number; blocker = second }) m.left
    (undone m.between old old mid second (record { clause = number; blocker = first }) m.right (same_rows old) p) q

-- a row that a clause was put into isn't empty
pub popped_more : (old new : List (List Watcher)) (l : Literal) (e : Watcher) → IsAdded old l e new → 0 < length (row new l)
popped_more old new l e a = omega (arith, ap (λ (r : List Watcher). length r) a.here, length-append (row old l) (e ∷ []))

-- a clause more

pub alone_more : (pairs : List Pair) (p : Pair) (rows : List (List Watcher)) → AreAlone pairs rows → AreAlone (pairs ++ p ∷ []) rows
alone_more pairs p rows v = record {
  watching = λ l q e found. let h = v.watching l q e found in (h.0, get_push_old pairs (p ∷ []) e.clause (slice_get_within pairs e.clause h.0 h.1) ∙ h.1, h.2);
  once = v.once;
}

pub alone_added : (pairs : List Pair) (rows new : List (List Watcher)) (l : Literal) (e : Watcher) → AreAlone pairs rows → IsWatch pairs e.clause l → ((q : ℕ) (f : Watcher) → slice_get (row rows l) q ≡ Some f → f.clause ≡ e.clause → ⊥) → IsAdded rows l e new → AreAlone pairs new
alone_added pairs rows new l e v watch fresh a = record {
  watching = λ x q f found. watching x q f found (same_or_other x l);
  once = λ x q r f g found also same. once x q r f g found also same (same_or_other x l);
}
  where
    here : (x : Literal) (q : ℕ) (f : Watcher) → x ≡ l → slice_get (row new x) q ≡ Some f → ((q < length (row rows l)) × (slice_get (row rows l) q ≡ Some f)) ⊎ ((q ≡ length (row rows l)) × (e ≡ f))
    here x q f same found = get_push_cases (row rows l) e q f (sym (ap (λ (r : List Watcher). slice_get r q) a.here) ∙ subst (λ (y : Literal). slice_get (row new y) q ≡ Some f) same found)

    elsewhere : (x : Literal) (q : ℕ) (f : Watcher) → x ≢ l → slice_get (row new x) q ≡ Some f → slice_get (row rows x) q ≡ Some f
    elsewhere x q f differ found = sym (ap (λ (r : List Watcher). slice_get r q) (a.others x differ)) ∙ found

    side : (q : ℕ) (f : Watcher) → ((q < length (row rows l)) × (slice_get (row rows l) q ≡ Some f)) ⊎ ((q ≡ length (row rows l)) × (e ≡ f)) → IsWatch pairs f.clause l
    side q f (inl y) = v.watching l q f y.1
    side q f (inr y) = subst (λ (g : Watcher). IsWatch pairs g.clause l) y.1 watch

    watching : (x : Literal) (q : ℕ) (f : Watcher) → slice_get (row new x) q ≡ Some f → (x ≡ l) ⊎ (x ≢ l) → IsWatch pairs f.clause x
    watching x q f found (inl same) = subst (λ (y : Literal). IsWatch pairs f.clause y) (sym same) (side q f (here x q f same found))
    watching x q f found (inr differ) = v.watching x q f (elsewhere x q f differ found)

    both : (q r : ℕ) (f g : Watcher) → f.clause ≡ g.clause → ((q < length (row rows l)) × (slice_get (row rows l) q ≡ Some f)) ⊎ ((q ≡ length (row rows l)) × (e ≡ f)) →
        ((r < length (row rows l)) × (slice_get (row rows l) r ≡ Some g)) ⊎ ((r ≡ length (row rows l)) × (e ≡ g)) → q ≡ r
    both q r f g same (inl y) (inl z) = v.once l q r f g y.1 z.1 same
    both q r f g same (inl y) (inr z) = absurd (fresh q f y.1 (same ∙ ap (λ (x : Watcher). x.clause) (sym z.1)))
    both q r f g same (inr y) (inl z) = absurd (fresh r g z.1 (sym same ∙ ap (λ (x : Watcher). x.clause) (sym y.1)))
    both q r f g same (inr y) (inr z) = y.0 ∙ sym z.0

    once : (x : Literal) (q r : ℕ) (f g : Watcher) → slice_get (row new x) q ≡ Some f → slice_get (row new x) r ≡ Some g → f.clause ≡ g.clause → (x ≡ l) ⊎ (x ≢ l) → q ≡ r
    once x q r f g found also same (inl is) = both q r f g same (here x q f is found) (here x r g is also)
    once x q r f g found also same (inr differ) = v.once x q r f g (elsewhere x q f differ found) (elsewhere x r g differ also) same

pub keeps_short : (known : List (List Literal)) (c : List Literal) (pairs : List Pair) (p : Pair) (rows : List (List Watcher)) → KeepsWatches known pairs rows → length c < 2 → KeepsWatches (known ++ c ∷ []) (pairs ++ p ∷ []) rows
keeps_short known c pairs p rows v few = record { all = watching_short known c pairs p rows v.all few; alone = alone_more pairs p rows v.alone }

pub keeps_long : (known : List (List Literal)) (c : List Literal) (pairs : List Pair) (p : Pair) (rows new : List (List Watcher)) (number : ℕ) → KeepsWatches known pairs rows → 2 ≤ length c → AreOwn c p → number ≡ length known → IsInBothRows rows number p.first p.second new →
    KeepsWatches (known ++ c ∷ []) (pairs ++ p ∷ []) new
keeps_long known c pairs p rows new number v long own is m = record {
  all = watching_attached known c pairs p rows new number v.all long own is m;
  alone = alone_added (pairs ++ p ∷ []) m.between new p.second (record { clause = number; blocker = p.first })
      (alone_added (pairs ++ p ∷ []) rows m.between p.first (record { clause = number; blocker = p.second }) (alone_more pairs p rows v.alone) (p, at_end, inl refl) (λ q f found same. later p.first q f found same) m.left)
      (p, at_end, inr refl) (λ q f found same. later p.second q f (sym (ap (λ (r : List Watcher). slice_get r q) (m.left.others p.second apart)) ∙ found) same) m.right;
}
  where
    number_is : number ≡ length pairs
    number_is = is ∙ sym v.all.counted

    at_end : slice_get (pairs ++ p ∷ []) number ≡ Some p
    at_end = ap (λ i. slice_get (pairs ++ p ∷ []) i) number_is ∙ get_push_new pairs p

    apart : p.second ≢ p.first
    apart e = own.differ (ap (λ (x : Literal). x.variable) (sym e))

    later : (l : Literal) (q : ℕ) (f : Watcher) → slice_get (row rows l) q ≡ Some f → f.clause ≡ number → ⊥
    later l q f found same =
        let h = v.alone.watching l q f found in
        omega (arith, slice_get_within pairs f.clause h.0 h.1, same, number_is)

-- the same in the words of the code

pub keeps_as : (known store : List (List Literal)) (pairs more : List Pair) (rows : List (List Watcher)) → KeepsWatches known pairs rows → store ≡ known → more ≡ pairs → KeepsWatches store more rows
keeps_as known store pairs more rows v stored paired = subst (λ (k : List (List Literal)). KeepsWatches k more rows) (sym stored) (subst (λ (q : List Pair). KeepsWatches known q rows) (sym paired) v)

pub keeps_short_either : {A B : Type 0} (known store : List (List Literal)) (c : List Literal) (pairs more : List Pair) (p : Pair) (rows : List (List Watcher)) (r : Result A B) → KeepsWatches known pairs rows → length c < 2 →
    OnOk r (store ≡ known ++ c ∷ []) → OnOk r (more ≡ pairs ++ p ∷ []) → OnErr r (store ≡ known) → OnErr r (more ≡ pairs) → KeepsWatches store more rows
keeps_short_either known store c pairs more p rows (Ok x) v few stored paired a b =
    subst (λ (k : List (List Literal)). KeepsWatches k more rows) (sym stored) (subst (λ (q : List Pair). KeepsWatches (known ++ c ∷ []) q rows) (sym paired) (keeps_short known c pairs p rows v few))
keeps_short_either known store c pairs more p rows (Err x) v few a b stored paired = keeps_as known store pairs more rows v stored paired

pub keeps_long_as : (known store : List (List Literal)) (c : List Literal) (pairs more : List Pair) (p : Pair) (rows new : List (List Watcher)) (number : ℕ) → KeepsWatches known pairs rows → 2 ≤ length c → AreOwn c p → number ≡ length known → IsInBothRows rows number p.first p.second new →
    store ≡ known ++ c ∷ [] → more ≡ pairs ++ p ∷ [] → KeepsWatches store more new
keeps_long_as known store c pairs more p rows new number v long own is m stored paired = keeps_as (known ++ c ∷ []) store (pairs ++ p ∷ []) more new (keeps_long known c pairs p rows new number v long own is m) stored paired

pub ok_of : {A B : Type 0} (P : Type 0) (r : Result A B) → P → OnOk r P
ok_of P (Ok x) h = h
ok_of P (Err e) h = tt

-- another blocker

pub keeps_put : (known : List (List Literal)) (pairs : List Pair) (rows new : List (List Watcher)) (l : Literal) (place : ℕ) (e f : Watcher) → KeepsWatches known pairs rows → slice_get (row rows l) place ≡ Some e → f.clause ≡ e.clause → IsNamed known f → IsPut rows l place f new → KeepsWatches known pairs new
keeps_put known pairs rows new l place e f v at_place same named p = record {
  all = watching_put known pairs rows new l place e f v.all at_place same named p;
  alone = record {
    watching = λ x q g found. let h = back x q g found in subst (λ i. IsWatch pairs i x) h.2 (v.alone.watching x q h.0 h.1);
    once = λ x q r g h found also is. let a = back x q g found in let b = back x r h also in v.alone.once x q r a.0 b.0 a.1 b.1 (a.2 ∙ (is ∙ sym b.2));
  };
}
  where
    inside : place < length (row rows l)
    inside = slice_get_within (row rows l) place e at_place

    stay : (q : ℕ) (g : Watcher) → slice_get (set (row rows l) place f) q ≡ Some g → (q ≡ place) ⊎ (q ≢ place) → (h : Watcher) × (slice_get (row rows l) q ≡ Some h) × (h.clause ≡ g.clause)
    stay q g found (inl here) =
        let one : f ≡ g = get_one (set (row rows l) place f) place f g (get_set_same (row rows l) place f inside) (subst (λ i. slice_get (set (row rows l) place f) i ≡ Some g) here found) in
        (e, subst (λ i. slice_get (row rows l) i ≡ Some e) (sym here) at_place, sym same ∙ ap (λ (x : Watcher). x.clause) one)
    stay q g found (inr differ) = (g, sym (get_set_other (row rows l) place q f differ) ∙ found, refl)

    back : (x : Literal) (q : ℕ) (g : Watcher) → slice_get (row new x) q ≡ Some g → (h : Watcher) × (slice_get (row rows x) q ≡ Some h) × (h.clause ≡ g.clause)
    back x q g found = go (same_or_other x l)
      where
        go : (x ≡ l) ⊎ (x ≢ l) → (h : Watcher) × (slice_get (row rows x) q ≡ Some h) × (h.clause ≡ g.clause)
        go (inl is) =
            let at_l : slice_get (row new l) q ≡ Some g = subst (λ (y : Literal). slice_get (row new y) q ≡ Some g) is found in
            let s = stay q g (sym (ap (λ (r : List Watcher). slice_get r q) p.here) ∙ at_l) (cases_eq q place) in
            (s.0, subst (λ (y : Literal). slice_get (row rows y) q ≡ Some s.0) (sym is) s.1, s.2)
        go (inr differ) = (g, sym (ap (λ (r : List Watcher). slice_get r q) (p.others x differ)) ∙ found, refl)

-- another watch

-- a clause that watches two literals watches no third one
pub one_of_two : (pairs : List Pair) (n : ℕ) (l other x : Literal) → IsWatch pairs n l → IsWatch pairs n other → other ≢ l → IsWatch pairs n x → (x ≡ l) ⊎ (x ≡ other)
one_of_two pairs n l other x a b apart c = go a.2 (at_a b.0 b.1 other b.2) (at_a c.0 c.1 x c.2)
  where
    at_a : (p : Pair) → slice_get pairs n ≡ Some p → (y : Literal) → (p.first ≡ y) ⊎ (p.second ≡ y) → (a.0.first ≡ y) ⊎ (a.0.second ≡ y)
    at_a p found y is =
        let one : p ≡ a.0 = get_one pairs n p a.0 found a.1 in
        subst (λ (z : Pair). (z.first ≡ y) ⊎ (z.second ≡ y)) one is

    go : (a.0.first ≡ l) ⊎ (a.0.second ≡ l) → (a.0.first ≡ other) ⊎ (a.0.second ≡ other) → (a.0.first ≡ x) ⊎ (a.0.second ≡ x) → (x ≡ l) ⊎ (x ≡ other)
    go (inl e) (inl f) g = absurd (apart (sym f ∙ e))
    go (inr e) (inr f) g = absurd (apart (sym f ∙ e))
    go (inl e) (inr f) (inl g) = inl (sym g ∙ e)
    go (inl e) (inr f) (inr g) = inr (sym g ∙ f)
    go (inr e) (inl f) (inl g) = inr (sym g ∙ f)
    go (inr e) (inl f) (inr g) = inl (sym g ∙ e)

pub alone_rewatched : (pairs new_pairs : List Pair) (rows new : List (List Watcher)) (l : Literal) (place number : ℕ) (e : Watcher) (other next : Literal) → AreAlone pairs rows → slice_get (row rows l) place ≡ Some e → e.clause ≡ number →
    IsWatch pairs number other → other.variable ≢ l.variable → other.variable ≢ next.variable → next ≢ l → IsRewatched pairs rows l place number other next new_pairs new → AreAlone new_pairs new
alone_rewatched pairs new_pairs rows new l place number e other next v at_place names was far differ apart m =
    subst (λ (ps : List Pair). AreAlone ps new) (sym m.written) (record {
      watching = λ x q f found. watching x q f found (same_or_other x l) (same_or_other x next);
      once = λ x q r f g found also same. once x q r f g found also same (same_or_other x l) (same_or_other x next);
    })
  where
    pair : Pair
    pair = record { first = other; second = next }

    inside : number < length pairs
    inside = slice_get_within pairs number was.0 was.1

    watched : IsWatch pairs number l
    watched = subst (λ i. IsWatch pairs i l) names (v.watching l place e at_place)

    two : (x : Literal) → IsWatch pairs number x → (x ≡ l) ⊎ (x ≡ other)
    two x w = one_of_two pairs number l other x watched was (λ q. far (ap (λ (y : Literal). y.variable) q)) w

    never_next : IsWatch pairs number next → ⊥
    never_next w = go (two next w)
      where
        go : (next ≡ l) ⊎ (next ≡ other) → ⊥
        go (inl q) = apart q
        go (inr q) = differ (ap (λ (y : Literal). y.variable) (sym q))

    keep : (n : ℕ) (x : Literal) → IsWatch pairs n x → n ≢ number → IsWatch (set pairs number pair) n x
    keep n x w other_one = (w.0, get_set_other pairs number n pair other_one ∙ w.1, w.2)

    now : (n : ℕ) (x : Literal) → n ≡ number → (other ≡ x) ⊎ (next ≡ x) → IsWatch (set pairs number pair) n x
    now n x same is = subst (λ i. IsWatch (set pairs number pair) i x) (sym same) (pair, get_set_same pairs number pair inside, is)

    -- what is left in the literal's row
    left : (q : ℕ) (f : Watcher) → slice_get (row new l) q ≡ Some f → (r : ℕ) × (slice_get (row rows l) r ≡ Some f) × (r ≢ place) × ((r ≡ q) ⊎ ((q ≡ place) × (r ≡ length (row new l))))
    left q f found = let o = m.removed.here.only q f found in (o.0, sym (ap (λ (r : List Watcher). slice_get r o.0) (m.added.others l (λ s. apart (sym s)))) ∙ o.1, o.2, o.3)

    at_left : (x : Literal) (q : ℕ) (f : Watcher) → x ≡ l → slice_get (row new x) q ≡ Some f → slice_get (row new l) q ≡ Some f
    at_left x q f is found = subst (λ (y : Literal). slice_get (row new y) q ≡ Some f) is found

    not_number : (r : ℕ) (f : Watcher) → slice_get (row rows l) r ≡ Some f → r ≢ place → f.clause ≢ number
    not_number r f found elsewhere same = elsewhere (v.once l r place f e found at_place (same ∙ sym names))

    -- what stands in the row of the next literal
    right : (x : Literal) (q : ℕ) (f : Watcher) → x ≢ l → x ≡ next → slice_get (row new x) q ≡ Some f → ((q < length (row rows next)) × (slice_get (row rows next) q ≡ Some f)) ⊎ ((q ≡ length (row rows next)) × (record { clause = number; blocker = other } ≡ f))
    right x q f away is found =
        let between : slice_get (row m.between x) q ≡ Some f = sym (ap (λ (r : List Watcher). slice_get r q) (m.removed.others x away)) ∙ found in
        get_push_cases (row rows next) (record { clause = number; blocker = other }) q f (sym (ap (λ (r : List Watcher). slice_get r q) m.added.here) ∙ subst (λ (y : Literal). slice_get (row m.between y) q ≡ Some f) is between)

    old_next : (q : ℕ) (f : Watcher) → slice_get (row rows next) q ≡ Some f → f.clause ≢ number
    old_next q f found same = never_next (subst (λ i. IsWatch pairs i next) same (v.watching next q f found))

    -- what stands in another row
    rest : (x : Literal) (q : ℕ) (f : Watcher) → x ≢ l → x ≢ next → slice_get (row new x) q ≡ Some f → slice_get (row rows x) q ≡ Some f
    rest x q f away off found = sym (ap (λ (r : List Watcher). slice_get r q) (m.removed.others x away ∙ m.added.others x off)) ∙ found

    watching : (x : Literal) (q : ℕ) (f : Watcher) → slice_get (row new x) q ≡ Some f → (x ≡ l) ⊎ (x ≢ l) → (x ≡ next) ⊎ (x ≢ next) → IsWatch (set pairs number pair) f.clause x
    watching x q f found (inl is) s =
        let o = left q f (at_left x q f is found) in
        subst (λ (y : Literal). IsWatch (set pairs number pair) f.clause y) (sym is) (keep f.clause l (v.watching l o.0 f o.1) (not_number o.0 f o.1 o.2))
    watching x q f found (inr away) (inl is) = subst (λ (y : Literal). IsWatch (set pairs number pair) f.clause y) (sym is) (side (right x q f away is found))
      where
        side : ((q < length (row rows next)) × (slice_get (row rows next) q ≡ Some f)) ⊎ ((q ≡ length (row rows next)) × (record { clause = number; blocker = other } ≡ f)) → IsWatch (set pairs number pair) f.clause next
        side (inl y) = keep f.clause next (v.watching next q f y.1) (old_next q f y.1)
        side (inr y) = now f.clause next (ap (λ (w : Watcher). w.clause) (sym y.1)) (inr refl)
    watching x q f found (inr away) (inr off) = side (cases_eq f.clause number)
      where
        old : IsWatch pairs f.clause x
        old = v.watching x q f (rest x q f away off found)

        one : f.clause ≡ number → (x ≡ l) ⊎ (x ≡ other) → IsWatch (set pairs number pair) f.clause x
        one same (inl is) = absurd (away is)
        one same (inr is) = now f.clause x same (inl (sym is))

        side : (f.clause ≡ number) ⊎ (f.clause ≢ number) → IsWatch (set pairs number pair) f.clause x
        side (inl same) = one same (two x (subst (λ i. IsWatch pairs i x) same old))
        side (inr another) = keep f.clause x old another

    both_left : (q r : ℕ) (f g : Watcher) → slice_get (row new l) q ≡ Some f → slice_get (row new l) r ≡ Some g → f.clause ≡ g.clause → q ≡ r
    both_left q r f g found also same = go (left q f found) (left r g also)
      where
        go : (i : ℕ) × (slice_get (row rows l) i ≡ Some f) × (i ≢ place) × ((i ≡ q) ⊎ ((q ≡ place) × (i ≡ length (row new l)))) → (j : ℕ) × (slice_get (row rows l) j ≡ Some g) × (j ≢ place) × ((j ≡ r) ⊎ ((r ≡ place) × (j ≡ length (row new l)))) → q ≡ r
        go a b = spots a.3 b.3
          where
            met : a.0 ≡ b.0
            met = v.once l a.0 b.0 f g a.1 b.1 same

            spots : (a.0 ≡ q) ⊎ ((q ≡ place) × (a.0 ≡ length (row new l))) → (b.0 ≡ r) ⊎ ((r ≡ place) × (b.0 ≡ length (row new l))) → q ≡ r
            spots (inl y) (inl z) = sym y ∙ (met ∙ z)
            spots (inl y) (inr z) = absurd (omega (arith, y, z.1, met, slice_get_within (row new l) q f found))
            spots (inr y) (inl z) = absurd (omega (arith, y.1, z, met, slice_get_within (row new l) r g also))
            spots (inr y) (inr z) = y.0 ∙ sym z.0

    both_right : (q r : ℕ) (f g : Watcher) → f.clause ≡ g.clause → ((q < length (row rows next)) × (slice_get (row rows next) q ≡ Some f)) ⊎ ((q ≡ length (row rows next)) × (record { clause = number; blocker = other } ≡ f)) →
        ((r < length (row rows next)) × (slice_get (row rows next) r ≡ Some g)) ⊎ ((r ≡ length (row rows next)) × (record { clause = number; blocker = other } ≡ g)) → q ≡ r
    both_right q r f g same (inl y) (inl z) = v.once next q r f g y.1 z.1 same
    both_right q r f g same (inl y) (inr z) = absurd (old_next q f y.1 (same ∙ ap (λ (w : Watcher). w.clause) (sym z.1)))
    both_right q r f g same (inr y) (inl z) = absurd (old_next r g z.1 (sym same ∙ ap (λ (w : Watcher). w.clause) (sym y.1)))
    both_right q r f g same (inr y) (inr z) = y.0 ∙ sym z.0

    once : (x : Literal) (q r : ℕ) (f g : Watcher) → slice_get (row new x) q ≡ Some f → slice_get (row new x) r ≡ Some g → f.clause ≡ g.clause → (x ≡ l) ⊎ (x ≢ l) → (x ≡ next) ⊎ (x ≢ next) → q ≡ r
    once x q r f g found also same (inl is) s = both_left q r f g (at_left x q f is found) (at_left x r g is also) same
    once x q r f g found also same (inr away) (inl is) = both_right q r f g same (right x q f away is found) (right x r g away is also)
    once x q r f g found also same (inr away) (inr off) = v.once x q r f g (rest x q f away off found) (rest x r g away off also) same

pub keeps_rewatched : (known : List (List Literal)) (pairs new_pairs : List Pair) (rows new : List (List Watcher)) (l : Literal) (place number : ℕ) (e : Watcher) (c : List Literal) (other next : Literal) → KeepsWatches known pairs rows → slice_get (row rows l) place ≡ Some e → e.clause ≡ number →
    slice_get known number ≡ Some c → IsWatch pairs number other → other.variable ≢ l.variable → AreOwn c (record { first = other; second = next }) → next ≢ l → IsRewatched pairs rows l place number other next new_pairs new → KeepsWatches known new_pairs new
keeps_rewatched known pairs new_pairs rows new l place number e c other next v at_place names there was far own apart m = record {
  all = subst (λ (ps : List Pair). IsWatching known ps new) (sym m.written) (watching_removed known (set pairs number pair) m.between new l place e moved at_between stale m.removed);
  alone = alone_rewatched pairs new_pairs rows new l place number e other next v.alone at_place names was far own.differ apart m;
}
  where
    pair : Pair
    pair = record { first = other; second = next }

    named : IsNamed known e
    named = v.all.named l place e at_place

    one : named.clause ≡ c
    one = get_one known number named.clause c (subst (λ i. slice_get known i ≡ Some named.clause) names named.is_there) there

    long : 2 ≤ length c
    long = subst (λ (x : List Literal). 2 ≤ length x) one named.long

    moved : IsWatching known (set pairs number pair) m.between
    moved = watching_moved known pairs rows m.between number c pair other next (record { clause = number; blocker = other }) v.all there long was (refl, refl) own m.added refl (record { clause = c; is_there = there; long = long; holds = own.first })

    at_between : slice_get (row m.between l) place ≡ Some e
    at_between = ap (λ (r : List Watcher). slice_get r place) (m.added.others l (λ s. apart (sym s))) ∙ at_place

    inside : number < length pairs
    inside = slice_get_within pairs number was.0 was.1

    stale : IsWatch (set pairs number pair) e.clause l → ⊥
    stale w = side (get_one (set pairs number pair) number pair w.0 (get_set_same pairs number pair inside) (subst (λ i. slice_get (set pairs number pair) i ≡ Some w.0) names w.1)) w.2
      where
        side : pair ≡ w.0 → (w.0.first ≡ l) ⊎ (w.0.second ≡ l) → ⊥
        side is (inl q) = far (ap (λ (x : Literal). x.variable) (ap (λ (x : Pair). x.first) is ∙ q))
        side is (inr q) = apart (ap (λ (x : Pair). x.second) is ∙ q)
