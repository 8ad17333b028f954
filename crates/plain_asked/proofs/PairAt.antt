-- The pair at a place, with both functions.
use Rattle.std.proofs.Common.{◌≡◌, ℕ, ◌<◌, List, [], ◌∷◌, length, get_or, slice_get, Some, refl, sym, ◌∙◌, subst, arith}
use Rattle.std.specs.List.{AllZip, Contains}
use Rattle.std.proofs.lemmas.List.Elements.{All-contains}
use Rattle.std.proofs.lemmas.Option.{same_Some, slice_get-get_or, slice_get_within}
use Rattle.circuit_theory.proofs.Lists.{Contains-map, Contains-map_from, of_at, zip_right, zip_length}
use Rattle.flat_net.specs.declared.parts.Port.{Port}
use Rattle.flat_net.specs.View.{NetView}
use Rattle.flat_net.specs.Sound.{IsSound}
use Rattle.cbf_unfold.specs.declared.unfold_places.signal_function.Unfolded.{Unfolded}
use Rattle.sec_setup.specs.declared.ports.pairs.SignalPair.{SignalPair}
use Rattle.plain_asked.specs.declared.functions.Functions.{Functions}
use Rattle.sec_setup.specs.ports.Pairs.{outputs_of, ArePairsOf}
use Rattle.plain_asked.specs.Pairs.{IsFunctionOf, AreFunctions}
use Rattle.plain_asked.specs.Variables.{AreInOrder}
use Rattle.plain_asked.proofs.PairQueries.{in_order}
use Rattle.cbf_unfold.proofs.shift_variables.Reading.{item_at}

-- a relation of two lists, at one place of both
zip_at : {X Y : Type 0} (R : X → Y → Type 0) (xs : List X) (ys : List Y) → AllZip R xs ys → (i : ℕ) (x : X) (y : Y) → slice_get xs i ≡ Some x → slice_get ys i ≡ Some y → R x y
zip_at R xs ys zip i x y at_x at_y = let r = zip_right R xs ys zip i x at_x in subst (R x) (same_Some r.0 y (sym r.1 ∙ at_y)) r.2

-- the element at a place
pub element : {X : Type 0} (xs : List X) (i : ℕ) → i < length xs → (x : X) × (slice_get xs i ≡ Some x)
element [] i h = absurd (omega (arith, h))
element (x ∷ xs) i h = (get_or (x ∷ xs) i x, slice_get-get_or (x ∷ xs) i x h)

-- an output is a signal of the net
pub output_within : (n : NetView) → IsSound n → (s : ℕ) → Contains (outputs_of n) s → s < length n.drivers
output_within n sound s h =
    let o = Contains-map_from (λ (p : Port). p.signal.0) n.outputs s h in
    subst (λ k. k < length n.drivers) o.2 (All-contains (λ (p : Port). p.signal.0 < length n.drivers) n.outputs o.0 sound.outputs o.1)

module _ (a b : NetView) (pairs : List SignalPair) (i : ℕ) (p : SignalPair) (at : slice_get pairs i ≡ Some p) where
  -- both signals are outputs
  pub left_shown : ArePairsOf a b pairs → Contains (outputs_of a) p.left.0
  left_shown paired = subst (λ (l : List ℕ). Contains l p.left.0) paired.left (Contains-map (λ (q : SignalPair). q.left.0) pairs p (of_at pairs i p at))

  pub right_shown : ArePairsOf a b pairs → Contains (outputs_of b) p.right.0
  right_shown paired = (paired.right p.right.0).0 (Contains-map (λ (q : SignalPair). q.right.0) pairs p (of_at pairs i p at))

  module _ (left right : List ℕ) (f : Functions) (are : AreFunctions a b left right pairs f) where
    abbrev is_left : SignalPair → Unfolded → Type 0
    is_left q u = IsFunctionOf a left f.aig f.places q.left.0 u

    abbrev is_right : SignalPair → Unfolded → Type 0
    is_right q u = IsFunctionOf b right f.aig f.places q.right.0 u

    pub left_within : i < length f.left.items
    left_within = let h = slice_get_within pairs i p at in let n = zip_length is_left pairs f.left.items are.left_are in omega (arith, h, n)

    pub right_within : i < length f.right.items
    right_within = let h = slice_get_within pairs i p at in let n = zip_length is_right pairs f.right.items are.right_are in omega (arith, h, n)

    pub left_here : (l : Unfolded) → l ≡ get_or f.left.items i l → IsFunctionOf a left f.aig f.places p.left.0 l
    left_here l e = zip_at is_left pairs f.left.items are.left_are i p l at (item_at f.left.items f.left.items i l refl left_within e)

    pub right_here : (r : Unfolded) → r ≡ get_or f.right.items i r → IsFunctionOf b right f.aig f.places p.right.0 r
    right_here r e = zip_at is_right pairs f.right.items are.right_are i p r at (item_at f.right.items f.right.items i r refl right_within e)

    pub left_variables : (l : Unfolded) → l ≡ get_or f.left.items i l → AreInOrder f.places l.vars
    left_variables l e = in_order a left f.aig f.places p.left.0 l (left_here l e)

    pub right_variables : (r : Unfolded) → r ≡ get_or f.right.items i r → AreInOrder f.places r.vars
    right_variables r e = in_order b right f.aig f.places p.right.0 r (right_here r e)
