-- The signals that are chosen, and the functions of all pairs by theirs.
use Rattle.std.proofs.Common.{◌≡◌, ℕ, zero, suc, ◌+◌, ◌<◌, ◌≤◌, List, [], ◌∷◌, ◌++◌, length, map, slice_get, Option, Some, None, refl, sym, ◌∙◌, ap, subst, arith, inl, inr}
use Rattle.std.specs.Prelude.{◌⊎◌}
use Rattle.std.specs.List.{All, AllZip, Contains}
use Rattle.std.proofs.Math.ListN.{length-append}
use Rattle.std.proofs.lemmas.Bool.{cases_lt}
use Rattle.std.proofs.lemmas.List.Elements.{All-contains, Contains-append_cases}
use Rattle.std.proofs.lemmas.Option.{same_Some, slice_get_within}
use Rattle.circuit_theory.specs.declared.Side.{Side}
use Rattle.circuit_theory.specs.Sizes.{IsWeight}
use Rattle.circuit_theory.proofs.Lists.{All-from_each, Contains-map, Contains-map_from, map-map, of_at, zip_right, zip_weaker}
use Rattle.circuit_theory.proofs.Numbers.{slice_get-map}
use Rattle.flat_net.specs.declared.signals.Signal.{Signal}
use Rattle.flat_net.specs.View.{NetView, circuit_of}
use Rattle.aig.specs.declared.node.Lit.{Lit}
use Rattle.aig.specs.declared.node.Node.{Node}
use Rattle.aig.specs.Graph.{Grows}
use Rattle.cbf_unfold.specs.declared.unfold_places.signal_function.Unfolded.{Unfolded}
use Rattle.cbf_unfold.specs.unfold_places.Reach.{Adds}
use Rattle.cbf_unfold.specs.Unfolded.{IsLiteralOf, Fits}
use Rattle.cbf_unfold.specs.View.{UnfolderView}
use Rattle.cbf_unfold.proofs.Known.{literal_later, unfolded_later}
use Rattle.sec_setup.specs.declared.ports.pairs.SignalPair.{SignalPair}
use Rattle.plain_asked.specs.declared.apart.Chosen.{Chosen}
use Rattle.plain_asked.specs.declared.apart.PairFunctions.{PairFunctions}
use Rattle.plain_asked.specs.declared.error.PlainError.{PlainError}
use Rattle.plain_asked.specs.declared.error.PlainError.TheVariants as refused
use Rattle.plain_asked.specs.Apart.{AreApart, AreChosen, IsChosen, IsPairAt, IsPut}
use Rattle.plain_asked.specs.Pairs.{IsFunctionOf, AreLight, IsRefusalOf}
use Rattle.plain_asked.proofs.Growing.{numbers_of, over_weaker}

-- what stands at a place stays there behind which more is put
at_append : {X : Type 0} (xs ys : List X) (i : ℕ) (x : X) → slice_get xs i ≡ Some x → slice_get (xs ++ ys) i ≡ Some x
at_append [] ys i x h = absurd (let n = slice_get_within [] i x h in omega (arith, n))
at_append (z ∷ xs) ys zero x h = h
at_append (z ∷ xs) ys (suc i) x h = at_append xs ys i x h

-- the first that is put behind stands at the end
pub at_end : {X : Type 0} (xs : List X) (y : X) (ys : List X) → slice_get (xs ++ y ∷ ys) (length xs) ≡ Some y
at_end [] y ys = refl
at_end (z ∷ xs) y ys = at_end xs y ys

-- at first none is chosen
no_signal : (s : Signal) → Contains [] s → ⊥
no_signal s h = omega (arith, h.1)

pub none_chosen : (lefts rights : List Signal) (xs ys : List Lit) (c : Chosen) → c.left.items ≡ [] → c.right.items ≡ [] → c.at.items ≡ [] → AreChosen lefts rights xs ys 0 c
none_chosen lefts rights xs ys c left right at = record {
  each = ap length at;
  alike = ap length left ∙ sym (ap length right);
  left = λ s h. absurd (no_signal s (subst (λ (l : List Signal). Contains l s) left h));
  right = λ s h. absurd (no_signal s (subst (λ (l : List Signal). Contains l s) right h));
  are = λ i s t x y below a b d e. absurd (omega (arith, below));
}

module _ (lefts rights : List Signal) (xs ys : List Lit) (i : ℕ) (old new : Chosen) (s t : Signal) (x y : Lit) (s_at : slice_get lefts i ≡ Some s) (t_at : slice_get rights i ≡ Some t) (x_at : slice_get xs i ≡ Some x) (y_at : slice_get ys i ≡ Some y) where
  -- what was chosen stays so
  chosen_later : IsPut s t x y old new → (s′ t′ : Signal) (x′ y′ : Lit) (place : Option ℕ) → IsChosen s′ t′ x′ y′ old.left.items old.right.items place → IsChosen s′ t′ x′ y′ new.left.items new.right.items place
  chosen_later put s′ t′ x′ y′ None h = h
  chosen_later put s′ t′ x′ y′ (Some k) h = (
    subst (λ (l : List Signal). slice_get l k ≡ Some s′) (sym put.left_is) (at_append old.left.items put.lefts k s′ h.0),
    subst (λ (l : List Signal). slice_get l k ≡ Some t′) (sym put.right_is) (at_append old.right.items put.rights k t′ h.1),
  )

  -- one more is chosen, or its literals are one
  pub chosen_more : AreChosen lefts rights xs ys i old → IsPut s t x y old new → AreChosen lefts rights xs ys (i + 1) new
  chosen_more are put = record {
    each = ap length put.at_is ∙ length-append old.at.items (put.place ∷ []) ∙ ap (λ k. k + 1) are.each;
    alike = put.alike;
    left = λ z h. own_left z (Contains-append_cases old.left.items put.lefts z (subst (λ (l : List Signal). Contains l z) put.left_is h));
    right = λ z h. own_right z (Contains-append_cases old.right.items put.rights z (subst (λ (l : List Signal). Contains l z) put.right_is h));
    are = λ j s′ t′ x′ y′ below a b c d. go j s′ t′ x′ y′ below a b c d (cases_lt j i);
  }
    where
      here : {X : Type 0} (zs : List X) (z : X) → slice_get zs i ≡ Some z → Contains zs z
      here zs z at = of_at zs i z at

      own_left : (z : Signal) → Contains old.left.items z ⊎ Contains put.lefts z → Contains lefts z
      own_left z (inl h) = are.left z h
      own_left z (inr h) = subst (Contains lefts) (sym (put.left_own z h)) (here lefts s s_at)

      own_right : (z : Signal) → Contains old.right.items z ⊎ Contains put.rights z → Contains rights z
      own_right z (inl h) = are.right z h
      own_right z (inr h) = subst (Contains rights) (sym (put.right_own z h)) (here rights t t_at)

      go : (j : ℕ) (s′ t′ : Signal) (x′ y′ : Lit) → j < i + 1 → slice_get lefts j ≡ Some s′ → slice_get rights j ≡ Some t′ → slice_get xs j ≡ Some x′ → slice_get ys j ≡ Some y′ → (j < i) ⊎ (i ≤ j) →
          (place : Option ℕ) × (slice_get new.at.items j ≡ Some place) × IsChosen s′ t′ x′ y′ new.left.items new.right.items place
      go j s′ t′ x′ y′ below a b c d (inl before) =
          let o = are.are j s′ t′ x′ y′ before a b c d in
          (o.0, subst (λ (l : List (Option ℕ)). slice_get l j ≡ Some o.0) (sym put.at_is) (at_append old.at.items (put.place ∷ []) j o.0 o.1), chosen_later put s′ t′ x′ y′ o.0 o.2)
      go j s′ t′ x′ y′ below a b c d (inr past) =
          let last : i ≡ j = omega (arith, below, past) in
          let es : s ≡ s′ = same_Some s s′ (sym s_at ∙ (ap (slice_get lefts) last ∙ a)) in
          let et : t ≡ t′ = same_Some t t′ (sym t_at ∙ (ap (slice_get rights) last ∙ b)) in
          let ex : x ≡ x′ = same_Some x x′ (sym x_at ∙ (ap (slice_get xs) last ∙ c)) in
          let ey : y ≡ y′ = same_Some y y′ (sym y_at ∙ (ap (slice_get ys) last ∙ d)) in (
            put.place,
            subst (λ (l : List (Option ℕ)). slice_get l j ≡ Some put.place) (sym put.at_is) (subst (λ k. slice_get (old.at.items ++ put.place ∷ []) k ≡ Some put.place) (are.each ∙ last) (at_end old.at.items put.place [])),
            subst (λ z. IsChosen z t′ x′ y′ new.left.items new.right.items put.place) es
                (subst (λ z. IsChosen s z x′ y′ new.left.items new.right.items put.place) et
                (subst (λ z. IsChosen s t z y′ new.left.items new.right.items put.place) ex (subst (λ z. IsChosen s t x z new.left.items new.right.items put.place) ey put.is))),
          )

-- literals and functions on a graph and a table that have grown, by the net and the numbers of its inputs
module _ (n m : NetView) (order other : List ℕ) (net : m ≡ n) (same : other ≡ order) (g h : List Node) (places more : List (ℕ × ℕ)) (grows : Grows g h) (adds : Adds (λ p. Unit {0}) places more) (signals : List Signal) where
  pub literals_here : (xs : List Lit) → AllZip (λ (s : Signal) (x : Lit). IsLiteralOf m other g places s.0 x.0) signals xs → AllZip (λ (s : Signal) (x : Lit). IsLiteralOf n order h more s.0 x.0) signals xs
  literals_here xs zip =
      zip_weaker (λ (s : Signal) (x : Lit). IsLiteralOf m other g places s.0 x.0) (λ (s : Signal) (x : Lit). IsLiteralOf n order h more s.0 x.0)
      (λ s x l. literal_later n order g h places more s.0 x.0 grows adds (subst (λ (k : NetView). IsLiteralOf k order g places s.0 x.0) net (subst (λ (o : List ℕ). IsLiteralOf m o g places s.0 x.0) same l))) signals xs zip

  pub functions_here : (us : List Unfolded) → AllZip (λ (s : Signal) (u : Unfolded). IsFunctionOf m other g places s.0 u) signals us → AllZip (λ (s : Signal) (u : Unfolded). IsFunctionOf n order h more s.0 u) signals us
  functions_here us zip =
      zip_weaker (λ (s : Signal) (u : Unfolded). IsFunctionOf m other g places s.0 u) (λ (s : Signal) (u : Unfolded). IsFunctionOf n order h more s.0 u)
      (λ s u l. unfolded_later n order g h places more s.0 u.lit.0 u.vars grows adds (subst (λ (k : NetView). IsFunctionOf k order g places s.0 u) net (subst (λ (o : List ℕ). IsFunctionOf m o g places s.0 u) same l))) signals us zip

-- so the functions of each pair stand at its place, or both signals have one literal
pub apart_from : (a b : NetView) (left right : List ℕ) (pairs : List SignalPair) (f : PairFunctions) (lefts rights : List Signal) (xs ys : List Lit) (c : Chosen) → lefts ≡ map (λ (p : SignalPair). p.left) pairs → rights ≡ map (λ (p : SignalPair). p.right) pairs →
    AllZip (λ (s : Signal) (x : Lit). IsLiteralOf a left f.functions.aig f.functions.places s.0 x.0) lefts xs → AllZip (λ (s : Signal) (x : Lit). IsLiteralOf b right f.functions.aig f.functions.places s.0 x.0) rights ys → AreChosen lefts rights xs ys (length lefts) c →
    f.at.items ≡ c.at.items → AllZip (λ (s : Signal) (u : Unfolded). IsFunctionOf a left f.functions.aig f.functions.places s.0 u) c.left.items f.functions.left.items →
    AllZip (λ (s : Signal) (u : Unfolded). IsFunctionOf b right f.functions.aig f.functions.places s.0 u) c.right.items f.functions.right.items → AreApart a b left right pairs f
apart_from a b left right pairs f lefts rights xs ys c left_same right_same of_a of_b chosen at_same functions_a functions_b i p at =
    (k.0, ap (λ (l : List (Option ℕ)). slice_get l i) at_same ∙ k.1, go k.0 k.2)
  where
    s_at : slice_get lefts i ≡ Some p.left
    s_at = ap (λ (l : List Signal). slice_get l i) left_same ∙ slice_get-map (λ (q : SignalPair). q.left) pairs i p at

    t_at : slice_get rights i ≡ Some p.right
    t_at = ap (λ (l : List Signal). slice_get l i) right_same ∙ slice_get-map (λ (q : SignalPair). q.right) pairs i p at

    x : (x : Lit) × (slice_get xs i ≡ Some x) × IsLiteralOf a left f.functions.aig f.functions.places p.left.0 x.0
    x = zip_right (λ (s : Signal) (x : Lit). IsLiteralOf a left f.functions.aig f.functions.places s.0 x.0) lefts xs of_a i p.left s_at

    y : (y : Lit) × (slice_get ys i ≡ Some y) × IsLiteralOf b right f.functions.aig f.functions.places p.right.0 y.0
    y = zip_right (λ (s : Signal) (x : Lit). IsLiteralOf b right f.functions.aig f.functions.places s.0 x.0) rights ys of_b i p.right t_at

    k : (place : Option ℕ) × (slice_get c.at.items i ≡ Some place) × IsChosen p.left p.right x.0 y.0 c.left.items c.right.items place
    k = chosen.are i p.left p.right x.0 y.0 (slice_get_within lefts i p.left s_at) s_at t_at x.1 y.1

    go : (place : Option ℕ) → IsChosen p.left p.right x.0 y.0 c.left.items c.right.items place → IsPairAt a b left right f.functions p place
    go None e = record { literal = x.0.0; left_is = x.2; right_is = subst (λ (z : Lit). IsLiteralOf b right f.functions.aig f.functions.places p.right.0 z.0) (sym e) y.2 }
    go (Some j) h =
        let l = zip_right (λ (s : Signal) (u : Unfolded). IsFunctionOf a left f.functions.aig f.functions.places s.0 u) c.left.items f.functions.left.items functions_a j p.left h.0 in
        let r = zip_right (λ (s : Signal) (u : Unfolded). IsFunctionOf b right f.functions.aig f.functions.places s.0 u) c.right.items f.functions.right.items functions_b j p.right h.1 in
        record { left_function = l.0; right_function = r.0; left_at = l.1; right_at = r.1; left_is = l.2; right_is = r.2 }

-- what refuses some signals refuses all
pub refusal_weaker : (side : Side) (n : NetView) (some all : List ℕ) (e : PlainError) → ((x : ℕ) → Contains some x → Contains all x) → IsRefusalOf side n some e → IsRefusalOf side n all e
refusal_weaker side n some all (refused.TooLarge other) sub h = (h.0, over_weaker (circuit_of n) some all 2000000 sub h.1)
refusal_weaker side n some all refused.NoMemory sub h = tt

-- an unfolder of the net that has unfolded these signals
module _ (n : NetView) (numbers : List ℕ) where
  -- what all of them weigh is within the limit
  pub light_from : (u : UnfolderView) (g : List Node) (places : List (ℕ × ℕ)) → u.net ≡ n → u.done ≡ numbers → Fits u g places → AreLight n numbers
  light_from u g places net done fits = (u.weight, subst (λ (k : NetView). IsWeight (circuit_of k) numbers u.weight) net (subst (λ (d : List ℕ). IsWeight (circuit_of u.net) d u.weight) done fits.weighs), fits.small)

  -- a refusal of some more that are among them is one of them
  pub refused_from : (side : Side) (u : UnfolderView) (signals : List Signal) (e : PlainError) → u.net ≡ n → ((x : ℕ) → Contains u.done x → Contains numbers x) → ((s : Signal) → Contains signals s → Contains numbers s.0) →
      IsRefusalOf side u.net (u.done ++ numbers_of signals) e → IsRefusalOf side n numbers e
  refused_from side u signals e net done among h =
      subst (λ (k : NetView). IsRefusalOf side k numbers e) net
      (refusal_weaker side u.net (u.done ++ numbers_of signals) numbers e (λ x m. pick x (Contains-append_cases u.done (numbers_of signals) x m)) h)
    where
      pick : (x : ℕ) → Contains u.done x ⊎ Contains (numbers_of signals) x → Contains numbers x
      pick x (inl m) = done x m
      pick x (inr m) = let s = Contains-map_from (λ (t : Signal). t.0) signals x m in subst (Contains numbers) s.2 (among s.0 s.1)

-- the numbers of the pairs' signals
pub numbers_are : (pick : SignalPair → Signal) (pairs : List SignalPair) (signals : List Signal) → signals ≡ map pick pairs → numbers_of signals ≡ map (λ (p : SignalPair). (pick p).0) pairs
numbers_are pick pairs signals e = ap numbers_of e ∙ map-map (λ (s : Signal). s.0) pick pairs

-- a signal's number is among the signals' numbers
pub number_among : (signals : List Signal) (numbers : List ℕ) → numbers_of signals ≡ numbers → (s : Signal) → Contains signals s → Contains numbers s.0
number_among signals numbers same s h = subst (λ (l : List ℕ). Contains l s.0) same (Contains-map (λ (t : Signal). t.0) signals s h)

-- each of these signals is one of the net
pub signals_within : (n m : NetView) (signals : List Signal) (numbers : List ℕ) → m ≡ n → ((s : Signal) → Contains signals s → Contains numbers s.0) → All (λ x. x < length n.drivers) numbers → All (λ (s : Signal). s.0 < length m.drivers) signals
signals_within n m signals numbers net among all =
    All-from_each (λ (s : Signal). s.0 < length m.drivers) signals (λ s h. subst (λ (k : NetView). s.0 < length k.drivers) (sym net) (All-contains (λ x. x < length n.drivers) numbers s.0 all (among s h)))
