-- Functions of signals while the graph and the table grow, and the weight of their unfoldings.
use Rattle.std.proofs.Common.{◌≡◌, ◌∙◌, ◌+◌, ◌<◌, ℕ, List, [], ◌∷◌, ◌++◌, length, map, take, get_or, Result, Ok, Err, sym, ap, subst}
use Rattle.std.specs.Prelude.{OnOk}
use Rattle.std.specs.List.{All, AllZip, Contains}
use Rattle.std.proofs.lemmas.List.{map-append, take_more}
use Rattle.std.proofs.lemmas.List.Elements.{All-contains}
use Rattle.circuit_theory.specs.Circuit.{Circuit}
use Rattle.circuit_theory.specs.Sizes.{IsWeight, IsOver}
use Rattle.circuit_theory.proofs.Lists.{All-from_each, Contains-map, zip_weaker}
use Rattle.flat_net.specs.declared.signals.Signal.{Signal}
use Rattle.flat_net.specs.View.{NetView, circuit_of}
use Rattle.aig.specs.declared.node.Node.{Node}
use Rattle.aig.specs.Graph.{Grows}
use Rattle.cbf_unfold.specs.declared.unfold_places.signal_function.Unfolded.{Unfolded}
use Rattle.cbf_unfold.specs.unfold_places.Reach.{Adds}
use Rattle.cbf_unfold.specs.Unfolded.{Fits}
use Rattle.cbf_unfold.specs.View.{UnfolderView}
use Rattle.cbf_unfold.proofs.Known.{unfolded_later}
use Rattle.circuit_theory.specs.declared.Side.TheVariants.{A, B}
use Rattle.plain_asked.specs.declared.error.PlainError.{PlainError}
use Rattle.plain_asked.specs.declared.error.PlainError.TheVariants as refused
use Rattle.sec_setup.specs.declared.ports.pairs.SignalPair.{SignalPair}
use Rattle.plain_asked.specs.Pairs.{IsFunctionOf, AreLight, AreTooLarge, IsRefusalOf, Unfolds, left_signals, right_signals}

-- what is pushed of the next element
pub map_next : {X Y : Type 0} (f : X → Y) (xs : List X) (ys new : List Y) (i : ℕ) (x : X) → i < length xs → x ≡ get_or xs i x → ys ≡ map f (take i xs) → new ≡ ys ++ f x ∷ [] → new ≡ map f (take (i + 1) xs)
map_next {X} {Y} f xs ys new i x inside is before pushed =
    pushed
    ∙ (ap (λ (l : List Y). l ++ f x ∷ []) before
    ∙ (ap (λ (y : X). map f (take i xs) ++ f y ∷ []) is
    ∙ (sym (map-append f (take i xs) (get_or xs i x ∷ [])) ∙ ap (map f) (sym (take_more xs i x inside)))))

-- functions of the signals stay them while the graph and the table grow
pub functions_later : {X : Type 0} (signal : X → ℕ) (n : NetView) (order : List ℕ) (g h : List Node) (places more : List (ℕ × ℕ)) → Grows g h → Adds (λ p. Unit {0}) places more → (xs : List X) (us : List Unfolded) →
    AllZip (λ x u. IsFunctionOf n order g places (signal x) u) xs us → AllZip (λ x u. IsFunctionOf n order h more (signal x) u) xs us
functions_later {X} signal n order g h places more grows adds xs us zip =
    zip_weaker (λ (x : X) (u : Unfolded). IsFunctionOf n order g places (signal x) u) (λ x u. IsFunctionOf n order h more (signal x) u)
    (λ x u f. unfolded_later n order g h places more (signal x) u.lit.0 u.vars grows adds f) xs us zip

abbrev pub numbers_of : List Signal → List ℕ
numbers_of signals = map (λ (s : Signal). s.0) signals

-- where the unfolder, which had unfolded nothing, has unfolded the signals, they weigh no more than the limit
pub light_when : {X E : Type 0} (n : NetView) (before : List ℕ) (signals : List Signal) (w : UnfolderView) (g : List Node) (places : List (ℕ × ℕ)) (r : Result X E) → before ≡ [] → w.net ≡ n → OnOk r (w.done ≡ before ++ numbers_of signals) → OnOk r (Fits w g places) →
    OnOk r (AreLight n (numbers_of signals))
light_when n before signals w g places (Ok x) none net done fits =
    let same : w.done ≡ numbers_of signals = done ∙ ap (λ (d : List ℕ). d ++ numbers_of signals) none in (
      w.weight,
      subst (λ (k : NetView). IsWeight (circuit_of k) (numbers_of signals) w.weight) net (subst (λ (l : List ℕ). IsWeight (circuit_of w.net) l w.weight) same fits.weighs),
      fits.small,
    )
light_when n before signals w g places (Err e) none net done fits = tt

-- more outputs weigh no less
pub over_weaker : (c : Circuit ℕ) (xs ys : List ℕ) (cap : ℕ) → ((x : ℕ) → Contains xs x → Contains ys x) → IsOver c xs cap → IsOver c ys cap
over_weaker c xs ys cap sub over = record {
  places = over.places;
  distinct = over.distinct;
  weighed = over.weighed;
  met = λ x h. let m = over.met x h in (m.0, sub m.0 m.1, m.2);
  total = over.total;
}

-- the same outputs have the same weight
pub weight_same : (c : Circuit ℕ) (xs ys : List ℕ) (w : ℕ) → ((x : ℕ) → Contains xs x → Contains ys x) → ((x : ℕ) → Contains ys x → Contains xs x) → IsWeight c xs w → IsWeight c ys w
weight_same c xs ys w forth back weight = record {
  places = weight.places;
  distinct = weight.distinct;
  weighed = weight.weighed;
  met = λ q j. (
    λ h. let m = (weight.met q j).0 h in (m.0, forth m.0 m.1, m.2),
    λ h. (weight.met q j).1 (h.0, back h.0 h.1, h.2),
  );
  total = weight.total;
}

pub within_from : (signals : List Signal) (numbers : List ℕ) (size : ℕ) → numbers_of signals ≡ numbers → All (λ s. s < size) numbers → All (λ (s : Signal). s.0 < size) signals
within_from signals numbers size same all =
    All-from_each (λ (s : Signal). s.0 < size) signals (λ s h. All-contains (λ n. n < size) numbers s.0 all (subst (λ (l : List ℕ). Contains l s.0) same (Contains-map (λ (t : Signal). t.0) signals s h)))

-- a relation on a list that a function gives
pub zip_from_map : {X Y Z : Type 0} (f : X → Y) (R : Y → Z → Type 0) (xs : List X) (zs : List Z) → AllZip R (map f xs) zs → AllZip (λ x z. R (f x) z) xs zs
zip_from_map f R [] [] h = tt
zip_from_map f R [] (z ∷ zs) h = absurd h
zip_from_map f R (x ∷ xs) [] h = absurd h
zip_from_map f R (x ∷ xs) (z ∷ zs) h = (h.0, zip_from_map f R xs zs h.1)

module _ (a b : NetView) (left right : List ℕ) (pairs : List SignalPair) where
  no_B_A : B ≡ A → ⊥
  no_B_A e = cc

  no_A_B : A ≡ B → ⊥
  no_A_B e = cc

  -- a refusal of A, or of B once A is unfolded
  pub refused_left : (signals : List ℕ) (e : PlainError) → signals ≡ left_signals pairs → IsRefusalOf A a signals e → Unfolds a b left right pairs (Err e)
  refused_left signals (refused.TooLarge A) same h = subst (AreTooLarge a) same h.1
  refused_left signals (refused.TooLarge B) same h = absurd (no_B_A h.0)
  refused_left signals refused.NoMemory same h = tt

  pub refused_right : (signals : List ℕ) (e : PlainError) → signals ≡ right_signals pairs → AreLight a (left_signals pairs) → IsRefusalOf B b signals e → Unfolds a b left right pairs (Err e)
  refused_right signals (refused.TooLarge A) same light h = absurd (no_A_B h.0)
  refused_right signals (refused.TooLarge B) same light h = (light, subst (AreTooLarge b) same h.1)
  refused_right signals refused.NoMemory same light h = tt
