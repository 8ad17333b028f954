-- The numbers of the inputs, one by one, and what they make for two circuits.
use Rattle.std.proofs.Common.{◌≡◌, ◌≢◌, ℕ, zero, suc, ◌+◌, ◌<◌, ◌≤◌, Bool, true, false, cond, List, [], ◌∷◌, ◌++◌, length, get_or, map, take, refl, sym, ◌∙◌, ap, subst, arith, inl, inr, ◌⊎◌, Option, Some, None, slice_get, length-append}
use Rattle.std.specs.List.{Contains, AllPairs, filter}
use Rattle.circuit_theory.proofs.Lists.{length-map, map_at, at_of, of_at, All-from_each}
use Rattle.flat_net.specs.declared.parts.Port.{Port}
use Rattle.flat_net.specs.View.{NetView, ports_of}
use Rattle.flat_net.specs.Sound.{IsSound}
use Rattle.flat_net.specs.Orders.{Orders}
use Rattle.std.proofs.lemmas.Option.{slice_get_within, slice_get-get_or}
use Rattle.circuit_theory.specs.Names.{is_among}
use Rattle.circuit_theory.specs.Interface.{shared_inputs, AreNumbersOf, AreOrders}
use Rattle.circuit_theory.proofs.Numbers.{is_among-sound, is_among-complete}
use Rattle.flat_net.specs.Table.{is_among as is_entry, AreDistinct}
use Rattle.flat_net.proofs.TableLemmas.{take-push}
use Rattle.flat_net.proofs.Growth.{slice_get-push, slice_get-push_cases, length-push}
use Rattle.sec_setup.specs.ports.Numbered.{AreNumbered, AreNumbers}
use Rattle.sec_setup.proofs.ports.Interfaces.{among_entries, name_once}
use Rattle.sec_setup.proofs.ports.Shared.{some_is}

no_true_false : true ≡ false → ⊥
no_true_false e = cc

-- one name more, with its number; `to` moves on where it isn't a shared one
pub number_more : (names shared : List (List ℕ)) (from to to' : ℕ) (numbers : List ℕ) (name : List ℕ) (number : ℕ) → AreNumbers names shared from to numbers → to ≤ to' →
    (is_among shared name ≡ true → slice_get shared number ≡ Some name) → (is_among shared name ≡ false → (number ≡ to) × (to' ≡ to + 1)) →
    AreNumbers (names ++ name ∷ []) shared from to' (numbers ++ number ∷ [])
number_more names shared from to to' numbers name number are le here fresh = record {
  each = length-push numbers number ∙ ap (λ k. k + 1) are.each ∙ sym (length-push names name);
  ordered = omega (arith, are.ordered);
  known = λ k i w at h e. known k i w e (slice_get-push_cases names name k w at) (slice_get-push_cases numbers number k i h);
  others = λ k i w at h e. others k i w e (slice_get-push_cases names name k w at) (slice_get-push_cases numbers number k i h);
  rising = λ j k h i v w l at at' n n' e e'. rising j k h i v w l e e' (slice_get-push_cases names name j v at) (slice_get-push_cases names name k w at') (slice_get-push_cases numbers number j h n) (slice_get-push_cases numbers number k i n');
}
  where
    known : (k i : ℕ) (w : List ℕ) → is_among shared w ≡ true → (slice_get names k ≡ Some w) ⊎ ((k ≡ length names) × (name ≡ w)) → (slice_get numbers k ≡ Some i) ⊎ ((k ≡ length numbers) × (number ≡ i)) → slice_get shared i ≡ Some w
    known k i w e (inl at) (inl h) = are.known k i w at h e
    known k i w e (inl at) (inr last) = absurd (let low = slice_get_within names k w at in omega (arith, low, last.0, are.each))
    known k i w e (inr last) (inl h) = absurd (let low = slice_get_within numbers k i h in omega (arith, low, last.0, are.each))
    known k i w e (inr last) (inr own) = subst (λ (s : ℕ). slice_get shared s ≡ Some w) own.1 (here (ap (is_among shared) last.1 ∙ e) ∙ ap Some last.1)

    others : (k i : ℕ) (w : List ℕ) → is_among shared w ≡ false → (slice_get names k ≡ Some w) ⊎ ((k ≡ length names) × (name ≡ w)) → (slice_get numbers k ≡ Some i) ⊎ ((k ≡ length numbers) × (number ≡ i)) → (from ≤ i) × (i < to')
    others k i w e (inl at) (inl h) = let r = are.others k i w at h e in (r.0, omega (arith, r.1))
    others k i w e (inl at) (inr last) = absurd (let low = slice_get_within names k w at in omega (arith, low, last.0, are.each))
    others k i w e (inr last) (inl h) = absurd (let low = slice_get_within numbers k i h in omega (arith, low, last.0, are.each))
    others k i w e (inr last) (inr own) = let f = fresh (ap (is_among shared) last.1 ∙ e) in (omega (arith, f.0, own.1, are.ordered), omega (arith, f.0, f.1, own.1))

    rising : (j k h i : ℕ) (v w : List ℕ) → j < k → is_among shared v ≡ false → is_among shared w ≡ false →
        (slice_get names j ≡ Some v) ⊎ ((j ≡ length names) × (name ≡ v)) → (slice_get names k ≡ Some w) ⊎ ((k ≡ length names) × (name ≡ w)) →
        (slice_get numbers j ≡ Some h) ⊎ ((j ≡ length numbers) × (number ≡ h)) → (slice_get numbers k ≡ Some i) ⊎ ((k ≡ length numbers) × (number ≡ i)) → h < i
    rising j k h i v w l e e' (inl at) (inl at') (inl n) (inl n') = are.rising j k h i v w l at at' n n' e e'
    rising j k h i v w l e e' (inl at) (inr last) (inl n) (inr own) =
        let f = fresh (ap (is_among shared) last.1 ∙ e') in
        let r = are.others j h v at n e in
        omega (arith, f.0, own.1, r.1)
    rising j k h i v w l e e' (inl at) (inl at') (inl n) (inr own) = absurd (let low = slice_get_within names k w at' in omega (arith, low, own.0, are.each))
    rising j k h i v w l e e' (inl at) (inr last) (inl n) (inl n') = absurd (let low = slice_get_within numbers k i n' in omega (arith, low, last.0, are.each))
    rising j k h i v w l e e' (inl at) at' (inr own) n' = absurd (let low = slice_get_within names j v at in omega (arith, low, own.0, are.each))
    rising j k h i v w l e e' (inr last) (inl at') n n' = absurd (let low = slice_get_within names k w at' in omega (arith, low, last.0))
    rising j k h i v w l e e' (inr last) (inr last') n n' = absurd (omega (arith, last.0, last'.0))

-- a name's number where the table has it
pub number_known : (all shared : List (List ℕ)) (k from to id : ℕ) (numbers : List ℕ) (name : List ℕ) → slice_get all k ≡ Some name → AreNumbers (take k all) shared from to numbers → slice_get shared id ≡ Some name →
    AreNumbers (take (k + 1) all) shared from to (numbers ++ id ∷ [])
number_known all shared k from to id numbers name at are here =
    subst (λ (ns : List (List ℕ)). AreNumbers ns shared from to (numbers ++ id ∷ [])) (take-push all k name at)
    (number_more (take k all) shared from to to numbers name id are (omega arith) (λ e. here) (λ e. absurd (no_true_false (sym (is_among-complete shared name (of_at shared id name here)) ∙ e))))

-- a name's number where it hasn't
pub number_other : (all shared : List (List ℕ)) (k from to : ℕ) (numbers : List ℕ) (name : List ℕ) → slice_get all k ≡ Some name → AreNumbers (take k all) shared from to numbers → is_among shared name ≡ false →
    AreNumbers (take (k + 1) all) shared from (to + 1) (numbers ++ to ∷ [])
number_other all shared k from to numbers name at are gone =
    subst (λ (ns : List (List ℕ)). AreNumbers ns shared from (to + 1) (numbers ++ to ∷ [])) (take-push all k name at)
    (number_more (take k all) shared from to (to + 1) numbers name to are (omega arith) (λ e. absurd (no_true_false (sym e ∙ gone))) (λ e. (refl, refl)))

-- two numbers at two places of a list differ where a test of each two says so
apart_from : (numbers : List ℕ) → ((j k h i : ℕ) → j < k → slice_get numbers j ≡ Some h → slice_get numbers k ≡ Some i → h ≢ i) → AllPairs (λ h i. h ≢ i) numbers
apart_from numbers apart i j d l k =
    let within : i < length numbers = omega (arith, l, k) in
    apart i j (get_or numbers i d) (get_or numbers j d) l (slice_get-get_or numbers i d within) (slice_get-get_or numbers j d k)

-- whether a name is shared
shared_or_not : (shared : List (List ℕ)) (name : List ℕ) → (is_among shared name ≡ true) ⊎ (is_among shared name ≡ false)
shared_or_not shared name = go (is_among shared name) refl
  where
    go : (b : Bool) → is_among shared name ≡ b → (is_among shared name ≡ true) ⊎ (is_among shared name ≡ false)
    go true e = inl e
    go false e = inr e

-- the name of a number's place
name_at : (names : List (List ℕ)) (numbers : List ℕ) (k i : ℕ) → length numbers ≡ length names → slice_get numbers k ≡ Some i → (name : List ℕ) × (slice_get names k ≡ Some name)
name_at names numbers k i each at =
    let within : k < length names = (let low = slice_get_within numbers k i at in omega (arith, low, each)) in
    (get_or names k [], slice_get-get_or names k [] within)

-- the number of a name's place
number_at : (names : List (List ℕ)) (numbers : List ℕ) (k : ℕ) (name : List ℕ) → length numbers ≡ length names → slice_get names k ≡ Some name → (i : ℕ) × (slice_get numbers k ≡ Some i)
number_at names numbers k name each at =
    let within : k < length numbers = (let low = slice_get_within names k name at in omega (arith, low, each)) in
    (get_or numbers k 0, slice_get-get_or numbers k 0 within)

-- the numbers of one circuit, beside those of another whose own ones lie in another range
pub numbers_of_one : (own other shared : List (List ℕ)) (f t f' t' : ℕ) (numbers others : List ℕ) → AreDistinct own → AreDistinct shared → AreNumbers own shared f t numbers → AreNumbers other shared f' t' others →
    length shared ≤ f → length shared ≤ f' → (t ≤ f') ⊎ (t' ≤ f) → AreNumbersOf own shared numbers others
numbers_of_one own other shared f t f' t' numbers others own_once shared_once are beside above above' ranges = record {
  each = are.each;
  distinct = apart_from numbers (λ j k h i l hj hk. apart j k h i l hj hk (name_at own numbers j h are.each hj) (name_at own numbers k i are.each hk));
  common = λ k i name at shared_at. common k i name at shared_at (number_at own numbers k name are.each at);
  left_out = λ k i name at gone number. left_out k i name at number (not_shared name gone);
}
  where
    not_shared : (name : List ℕ) → (Contains shared name → ⊥) → is_among shared name ≡ false
    not_shared name gone = elim (shared_or_not shared name) [ inl e ↦ absurd (gone (is_among-sound shared name e)) | inr e ↦ e ]

    apart : (j k h i : ℕ) → j < k → slice_get numbers j ≡ Some h → slice_get numbers k ≡ Some i → ((v : List ℕ) × (slice_get own j ≡ Some v)) → ((w : List ℕ) × (slice_get own k ≡ Some w)) → h ≢ i
    apart j k h i l hj hk (v, hv) (w, hw) e = pick (shared_or_not shared v) (shared_or_not shared w)
      where
        pick : (is_among shared v ≡ true) ⊎ (is_among shared v ≡ false) → (is_among shared w ≡ true) ⊎ (is_among shared w ≡ false) → ⊥
        pick (inl x) (inl y) =
            let same : v ≡ w = some_is (sym (are.known j h v hv hj x) ∙ (ap (slice_get shared) e ∙ are.known k i w hw hk y)) in
            let one : j ≡ k = own_once j k v hv (hw ∙ ap Some (sym same)) in
            omega (arith, l, one)
        pick (inl x) (inr y) =
            let low : h < length shared = slice_get_within shared h v (are.known j h v hv hj x) in
            let r = are.others k i w hw hk y in
            omega (arith, low, r.0, above, e)
        pick (inr x) (inl y) =
            let low : i < length shared = slice_get_within shared i w (are.known k i w hw hk y) in
            let r = are.others j h v hv hj x in
            omega (arith, low, r.0, above, e)
        pick (inr x) (inr y) = let less = are.rising j k h i v w l hv hw hj hk x y in omega (arith, less, e)

    common : (k i : ℕ) (name : List ℕ) → slice_get own k ≡ Some name → slice_get shared i ≡ Some name → ((h : ℕ) × (slice_get numbers k ≡ Some h)) → slice_get numbers k ≡ Some i
    common k i name at shared_at (h, number) =
        let known = are.known k h name at number (is_among-complete shared name (of_at shared i name shared_at)) in
        number ∙ ap Some (shared_once h i name known shared_at)

    left_out : (k i : ℕ) (name : List ℕ) → slice_get own k ≡ Some name → slice_get numbers k ≡ Some i → is_among shared name ≡ false → (length shared ≤ i) × (Contains others i → ⊥)
    left_out k i name at number gone =
        let r = are.others k i name at number gone in
        (omega (arith, r.0, above), λ h. let there = at_of others i h in meets i r.0 r.1 there.0 there.1 (name_at other others there.0 i beside.each there.1))
      where
        meets : (i : ℕ) → f ≤ i → i < t → (j : ℕ) → slice_get others j ≡ Some i → ((w : List ℕ) × (slice_get other j ≡ Some w)) → ⊥
        meets i low high j hj (w, hw) = pick (shared_or_not shared w) ranges
          where
            pick : (is_among shared w ≡ true) ⊎ (is_among shared w ≡ false) → (t ≤ f') ⊎ (t' ≤ f) → ⊥
            pick (inl x) any = let within : i < length shared = slice_get_within shared i w (beside.known j i w hw hj x) in omega (arith, within, low, above)
            pick (inr x) (inl y) = let r = beside.others j i w hw hj x in omega (arith, r.0, high, y)
            pick (inr x) (inr y) = let r = beside.others j i w hw hj x in omega (arith, r.1, low, y)

length_filter : {X : Type 0} (test : X → Bool) (xs : List X) → length (filter test xs) ≤ length xs
length_filter test [] = omega arith
length_filter test (x ∷ xs) = go (test x) (length_filter test xs)
  where
    go : (b : Bool) → length (filter test xs) ≤ length xs → length (cond b (x ∷ filter test xs) (filter test xs)) ≤ suc (length xs)
    go true h = omega arith
    go false h = omega arith

-- there are no more shared inputs than A has inputs
pub few_shared : (a b : NetView) (shared : List (List ℕ)) → shared ≡ shared_inputs (ports_of a) (ports_of b) → length shared ≤ length a.inputs
few_shared a b shared is =
    let count : length shared ≤ length (map (λ (p : Port). p.name) a.inputs) = subst (λ (ns : List (List ℕ)). length ns ≤ length (map (λ (p : Port). p.name) a.inputs)) (sym is) (length_filter _ (map (λ (p : Port). p.name) a.inputs)) in
    let own : length (map (λ (p : Port). p.name) a.inputs) ≡ length a.inputs = length-map (λ (p : Port). p.name) a.inputs in
    omega (arith, count, own)

-- no input name of a net stands twice
pub inputs_once : (n : NetView) → IsSound n → AreDistinct (map (λ (p : Port). p.name) n.inputs)
inputs_once n sound i j name hi hj =
    let p = map_at (λ (p : Port). p.name) n.inputs i name hi in
    let q = map_at (λ (p : Port). p.name) n.inputs j name hj in
    name_once n sound i j p.0 q.0 p.1 q.1 (p.2 ∙ sym q.2)

-- the numbers of both circuits, one after the other
pub numbered_from : (a b : NetView) → IsSound a → IsSound b → (columns : List (List ℕ)) → AreDistinct columns → (middle end : ℕ) (o : Orders) →
    AreNumbers (map (λ (p : Port). p.name) a.inputs) columns (length columns) middle o.left → AreNumbers (map (λ (p : Port). p.name) b.inputs) columns middle end o.right →
    AreNumbered a b columns o
numbered_from a b sa sb columns once middle end o la rb =
    let above : length columns ≤ middle = la.ordered in
    record {
      left = numbers_of_one (ports_of a).inputs (ports_of b).inputs columns (length columns) middle middle end o.left o.right (inputs_once a sa) once la rb (omega arith) above (inl (omega arith));
      right = numbers_of_one (ports_of b).inputs (ports_of a).inputs columns middle end (length columns) middle o.right o.left (inputs_once b sb) once rb la above (omega arith) (inr (omega arith));
    }

-- which are the orders where the columns are the shared inputs
pub orders_from : (a b : NetView) (shared : List (List ℕ)) → shared ≡ shared_inputs (ports_of a) (ports_of b) → (o : Orders) → AreNumbered a b shared o → AreOrders (ports_of a) (ports_of b) o.left o.right
orders_from a b shared is o are = record {
  left_is = subst (λ (ns : List (List ℕ)). AreNumbersOf (ports_of a).inputs ns o.left o.right) is are.left;
  right_is = subst (λ (ns : List (List ℕ)). AreNumbersOf (ports_of b).inputs ns o.right o.left) is are.right;
}
