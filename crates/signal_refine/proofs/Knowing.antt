-- Kept literals, while the graph grows and where one is put.
use Rattle.std.proofs.Common.{◌≡◌, ◌≢◌, ◌∙◌, ◌+◌, ◌*◌, ◌/◌, ◌<◌, ◌≤◌, ◌⊎◌, ℕ, Bool, List, [], ◌∷◌, ◌++◌, length, set, get_or, slice_get, Some, refl, sym, ap, subst, arith, inl, inr}
use Rattle.std.proofs.lemmas.Bool.{cases_order}
use Rattle.std.proofs.lemmas.List.{length-set, get_or-set_same, get_or-set_other}
use Rattle.std.proofs.lemmas.Option.{slice_get_within, slice_get-get_or, get_or_from_slice_get}
use Rattle.aig.specs.declared.node.Lit.{Lit}
use Rattle.aig.specs.declared.node.Node.{Node}
use Rattle.aig.specs.Graph.{Grows}
use Rattle.aig.specs.Values.{value}
use Rattle.aig.proofs.Growth.{Grows-length}
use Rattle.aig.proofs.Insert.{push-cases}
use Rattle.aig.proofs.Meaning.{value-grows}
use Rattle.swept_queries.specs.node_agreement.Standing.{StandsFor, AreChosen, plainly}
use Rattle.swept_queries.proofs.node_agreement.Stood.{stands-itself}

pub known_grows : (g h : List Node) → Grows g h → (kept : List Lit) → AreChosen g kept → AreChosen h kept
known_grows g h grows kept are n y at =
    let k = are n y at in
    let more = Grows-length g h grows in
    let inside = k.0 in
    let within = k.1.within in (
      omega (arith, inside, more),
      record {
        within = omega (arith, within, more);
        same = λ a. value-grows g h grows a y.0 within ∙ (k.1.same a ∙ sym (value-grows g h grows a (2 * n) (omega (arith, inside))));
      },
    )

pub known_none : (g : List Node) (kept : List Lit) → kept ≡ [] → AreChosen g kept
known_none g kept none n y at = absurd (let inside = slice_get_within kept n y at in omega (arith, inside, ap length none))

-- the node itself behind the others
pub known_push : (g : List Node) (kept : List Lit) (n : ℕ) (y : Lit) → length kept ≡ n → n < length g → y.0 ≡ 2 * n → AreChosen g kept → AreChosen g (kept ++ y ∷ [])
known_push g kept n y each inside is are m z at = by (push-cases kept y m z at)
  where
    by : (slice_get kept m ≡ Some z) ⊎ ((m ≡ length kept) × (z ≡ y)) → (m < length g) × StandsFor plainly g g (2 * m) z.0
    by (inl before) = are m z before
    by (inr (e, f)) =
        let here : m ≡ n = e ∙ each in
        let own : z.0 ≡ 2 * m = ap (λ (x : Lit). x.0) f ∙ (is ∙ ap (λ k. 2 * k) (sym here)) in
        (omega (arith, inside, here), subst (λ k. StandsFor plainly g g (2 * m) k) (sym own) (stands-itself g (2 * m) (omega (arith, inside, here))))

-- another literal of the node's value in place of the one that was kept
pub known_set : (g : List Node) (kept : List Lit) (n : ℕ) (y : Lit) → n < length kept → StandsFor plainly g g (2 * n) y.0 → AreChosen g kept → AreChosen g (set kept n y)
known_set g kept n y inside stands are m z at = by (same_or_not m n)
  where
    same_or_not : (i j : ℕ) → (i ≡ j) ⊎ (i ≢ j)
    same_or_not i j = go (cases_order i j)
      where
        go : (i ≡ j) ⊎ ((i < j) ⊎ (j < i)) → (i ≡ j) ⊎ (i ≢ j)
        go (inl e) = inl e
        go (inr (inl l)) = inr (λ e. omega (arith, l, e))
        go (inr (inr l)) = inr (λ e. omega (arith, l, e))

    is : get_or (set kept n y) m z ≡ z
    is = get_or_from_slice_get (set kept n y) m z z at

    by : (m ≡ n) ⊎ (m ≢ n) → (m < length g) × StandsFor plainly g g (2 * m) z.0
    by (inl e) =
        let here : z ≡ y = sym is ∙ (ap (λ k. get_or (set kept n y) k z) e ∙ get_or-set_same kept n y z inside) in
        let low = (are n (get_or kept n y) (slice_get-get_or kept n y inside)).0 in
        (omega (arith, low, e), subst (λ (x : Lit). StandsFor plainly g g (2 * m) x.0) (sym here) (subst (λ k. StandsFor plainly g g (2 * k) y.0) (sym e) stands))
    by (inr apart) =
        let less = slice_get_within (set kept n y) m z at in
        let long = length-set kept n y in
        are m z (slice_get-get_or kept m z (omega (arith, less, long)) ∙ ap Some (sym (get_or-set_other kept n m y z apart) ∙ is))
