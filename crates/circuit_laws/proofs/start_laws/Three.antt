-- What a three-valued run has is known.
use Rattle.std.proofs.Common.{◌≡◌, ℕ, zero, suc, ◌<◌, ◌≤◌, Bool, List, [], ◌∷◌, length, map, refl, sym, ◌∙◌, ap, subst, arith, inl, inr, Option, Some, None}
use Rattle.std.specs.Prelude.{◌⊎◌}
use Rattle.std.specs.List.{Contains}
use Rattle.std.proofs.lemmas.List.Elements.{All-contains}
use Rattle.circuit_theory.specs.Circuit.{Circuit, Equation, Gate, Latch, Port, Named, Started, IsInput, IsLatch, out_of}
use Rattle.circuit_theory.specs.Cone.{latches_of, latch_place}
use Rattle.circuit_theory.specs.Net.{IsNet, IsAbove, IsWithin}
use Rattle.circuit_theory.specs.Tree.{StandsBeside}
use Rattle.circuit_theory.proofs.Lists.{map_same, Contains-head, Contains-tail, Contains-cases, filter_map-from}
use Rattle.circuit_laws.specs.start_laws.Known.{IsKnown, AreKnown, IsThreeRun, cover_three, start_of, starts_in}
use Rattle.circuit_laws.specs.start_laws.Laws.{ThreeRunIsKnown, ThreeRunIsOne, StartsOfThreeRun}
use Rattle.circuit_laws.proofs.start_laws.Covers.{cover_forces}

-- each input has a number
number_of : (inputs : List (Named ℕ)) (order : List ℕ) (name : List ℕ) (p : ℕ) → length order ≡ length inputs → Contains inputs (record { name = name; place = p }) → (i : ℕ) × StandsBeside inputs order p i
number_of [] order name p e h = absurd (omega (arith, h.1))
number_of (x ∷ inputs) [] name p e h = absurd (omega (arith, e))
number_of (x ∷ inputs) (j ∷ order) name p e h = go (λ k. number_of inputs order name p (omega (arith, e)) k) (Contains-cases x (record { name = name; place = p }) inputs h)
  where
    go : (Contains inputs (record { name = name; place = p }) → (i : ℕ) × StandsBeside inputs order p i) → (x ≡ record { name = name; place = p }) ⊎ Contains inputs (record { name = name; place = p }) →
        (i : ℕ) × StandsBeside (x ∷ inputs) (j ∷ order) p i
    go later (inl q) = (j, inl (ap (λ (n : Named ℕ). n.place) q, refl))
    go later (inr k) = let r = later k in (r.0, inr r.1)

module _ (c : Circuit ℕ) (size : ℕ) (order : List ℕ) (rows : List (List Bool)) (w : ℕ → ℕ → Option Bool) (net : IsNet c size) (each_number : length order ≡ length c.inputs) (three : IsThreeRun c order rows w) where
  LatchesAt : ℕ → Type 0
  LatchesAt t = (name : List ℕ) (u next : ℕ) (bit : Bool) → IsLatch c name u next → w t u ≡ Some bit → IsKnown c order rows t u bit

  signals_at : (t : ℕ) → t < length rows → LatchesAt t → (limit s : ℕ) (bit : Bool) → s < limit → s < size → w t s ≡ Some bit → IsKnown c order rows t s bit
  unfolding LatchesAt
  signals_at t h latches zero s bit lt low e = absurd (omega arith)
  signals_at t h latches (suc limit) s bit lt low e = go (λ f b x y z. signals_at t h latches limit f b x y z) (net.driven s low)
    where
      Below : Type 0
      Below = (f : ℕ) (b : Bool) → f < limit → f < size → w t f ≡ Some b → IsKnown c order rows t f b

      each : Below → (fs : List ℕ) → ((f : ℕ) → Contains fs f → f < s) → AreKnown c order rows t fs (map (w t) fs)
      each before [] below = AreKnown.none
      each before (f ∷ fs) below = pick (w t f) refl (each before fs (λ g k. below g (Contains-tail f g fs k)))
        where
          pick : (o : Option Bool) → w t f ≡ o → AreKnown c order rows t fs (map (w t) fs) → AreKnown c order rows t (f ∷ fs) (o ∷ map (w t) fs)
          pick None q rest = AreKnown.unknown rest
          pick (Some b) q rest = let m = below f (Contains-head f fs) in AreKnown.known (before f b (omega arith) (omega arith) q) rest

      by : Below → (x : Equation ℕ) → Contains c.equations x → out_of x ≡ s → IsKnown c order rows t s bit
      by before (Gate out fanins cover) eq q =
          let above = All-contains IsAbove c.equations _ net.above eq in
          subst (λ (z : ℕ). IsKnown c order rows t z bit) q
          (IsKnown.gate (map (w t) fanins) eq (each before fanins (λ f k. let m = All-contains (λ g. g < out) fanins f above k in omega (arith, m, q)))
          (cover_forces cover (map (w t) fanins) bit (sym (three.gates t out fanins cover h eq) ∙ (ap (w t) q ∙ e))))
      by before (Latch name out next) eq q = subst (λ (z : ℕ). IsKnown c order rows t z bit) q (latches name out next bit eq (ap (w t) q ∙ e))
      by before (Port out from) eq q = absurd (All-contains IsAbove c.equations _ net.above eq)

      go : Below → IsInput c s ⊎ ((x : Equation ℕ) × Contains c.equations x × (out_of x ≡ s)) → IsKnown c order rows t s bit
      go before (inl i) = let number = number_of c.inputs order i.0 s each_number i.1 in IsKnown.input number.0 number.1 (sym (three.inputs t s number.0 h number.1) ∙ e)
      go before (inr x) = by before x.0 x.1 x.2

  latches_at : (t : ℕ) → t ≤ length rows → LatchesAt t
  unfolding LatchesAt
  latches_at zero le name u next bit latch e = absurd (wrong (sym (three.power name u next latch) ∙ e))
    where
      wrong : ◌≡◌ {A = Option Bool} None (Some bit) → ⊥
      wrong q = cc
  latches_at (suc t) le name u next bit latch e =
      let low = All-contains (IsWithin size) c.equations _ net.within latch in
      IsKnown.later latch (signals_at t (omega arith) (latches_at t (omega arith)) (suc next) next bit (omega arith) low.1 (sym (three.later t name u next (omega arith) latch) ∙ e))

  pub three_known : (t s : ℕ) (bit : Bool) → t < length rows → s < size → w t s ≡ Some bit → IsKnown c order rows t s bit
  three_known t s bit h low e = signals_at t h (latches_at t (omega arith)) (suc s) s bit (omega arith) low e

  pub latch_known : (name : List ℕ) (u next : ℕ) (bit : Bool) → IsLatch c name u next → w (length rows) u ≡ Some bit → IsKnown c order rows (length rows) u bit
  unfolding LatchesAt
  latch_known name u next bit latch e = latches_at (length rows) (omega arith) name u next bit latch e

pub three_run_is_known : ThreeRunIsKnown
three_run_is_known c size order rows w net each_number three = (three_known c size order rows w net each_number three, latch_known c size order rows w net each_number three)

-- two three-valued runs are one
module _ (c : Circuit ℕ) (size : ℕ) (order : List ℕ) (rows : List (List Bool)) (v w : ℕ → ℕ → Option Bool) (net : IsNet c size) (each_number : length order ≡ length c.inputs)
    (one : IsThreeRun c order rows v) (other : IsThreeRun c order rows w) where
  LatchesSame : ℕ → Type 0
  LatchesSame t = (name : List ℕ) (u next : ℕ) → IsLatch c name u next → v t u ≡ w t u

  signals_same : (t : ℕ) → t < length rows → LatchesSame t → (limit s : ℕ) → s < limit → s < size → v t s ≡ w t s
  unfolding LatchesSame
  signals_same t h latches zero s lt low = absurd (omega arith)
  signals_same t h latches (suc limit) s lt low = go (λ f x y. signals_same t h latches limit f x y) (net.driven s low)
    where
      Below : Type 0
      Below = (f : ℕ) → f < limit → f < size → v t f ≡ w t f

      by : Below → (x : Equation ℕ) → Contains c.equations x → out_of x ≡ s → v t s ≡ w t s
      by before (Gate out fanins cover) eq q =
          let above = All-contains IsAbove c.equations _ net.above eq in
          ap (v t) (sym q) ∙ (one.gates t out fanins cover h eq
          ∙ (ap (cover_three cover) (map_same (v t) (w t) fanins (λ f k. let m = All-contains (λ g. g < out) fanins f above k in before f (omega (arith, m, q)) (omega (arith, m, q))))
          ∙ (sym (other.gates t out fanins cover h eq) ∙ ap (w t) q)))
      by before (Latch name out next) eq q = ap (v t) (sym q) ∙ (latches name out next eq ∙ ap (w t) q)
      by before (Port out from) eq q = absurd (All-contains IsAbove c.equations _ net.above eq)

      go : Below → IsInput c s ⊎ ((x : Equation ℕ) × Contains c.equations x × (out_of x ≡ s)) → v t s ≡ w t s
      go before (inl i) = let number = number_of c.inputs order i.0 s each_number i.1 in one.inputs t s number.0 h number.1 ∙ sym (other.inputs t s number.0 h number.1)
      go before (inr x) = by before x.0 x.1 x.2

  latches_same : (t : ℕ) → t ≤ length rows → LatchesSame t
  unfolding LatchesSame
  latches_same zero le name u next latch = one.power name u next latch ∙ sym (other.power name u next latch)
  latches_same (suc t) le name u next latch =
      let low = All-contains (IsWithin size) c.equations _ net.within latch in
      one.later t name u next (omega arith) latch ∙ (signals_same t (omega arith) (latches_same t (omega arith)) (suc next) next (omega arith) low.1 ∙ sym (other.later t name u next (omega arith) latch))

  pub signals_one : (t s : ℕ) → t < length rows → s < size → v t s ≡ w t s
  signals_one t s h low = signals_same t h (latches_same t (omega arith)) (suc s) s (omega arith) low

  pub latches_one : (name : List ℕ) (u next : ℕ) → IsLatch c name u next → v (length rows) u ≡ w (length rows) u
  unfolding LatchesSame
  latches_one name u next latch = latches_same (length rows) (omega arith) name u next latch

pub three_run_is_one : ThreeRunIsOne
three_run_is_one c size order rows v w net each_number one other = (signals_one c size order rows v w net each_number one other, latches_one c size order rows v w net each_number one other)

pub starts_of_three_run : StartsOfThreeRun
starts_of_three_run c size order rows w net each_number three = (
  λ u bit h. let f = found u bit h in let l = listed u f.0 in latch_known c size order rows w net each_number three l.0 u l.1 bit l.2 f.1,
  record {
    of_latches = λ u bit h. listed u (found u bit h).0;
    once = λ u x y h k. same x y (sym (found u x h).1 ∙ (found u y k).1);
  },
  record {
    single = record { one = net.single.one; no_input = net.single.no_input };
    inputs = net.inputs;
    above = net.above;
    within = net.within;
    driven = net.driven;
  },
)
  where
    same : (x y : Bool) → Some x ≡ Some y → x ≡ y
    same x y e = cc

    started : (o : Option Bool) (v u : ℕ) (bit : Bool) → start_of v o ≡ Some (record { place = u; bit = bit }) → (v ≡ u) × (o ≡ Some bit)
    started None v u bit e = cc
    started (Some b) v u bit e = let s = unwrap (record { place = v; bit = b }) (record { place = u; bit = bit }) e in (ap (λ (x : Started ℕ). x.place) s, ap (λ (x : Started ℕ). Some x.bit) s)
      where
        unwrap : (x y : Started ℕ) → Some x ≡ Some y → x ≡ y
        unwrap x y q = cc

    found : (u : ℕ) (bit : Bool) → Contains (starts_in c (w (length rows))) (record { place = u; bit = bit }) → Contains (latches_of c) u × (w (length rows) u ≡ Some bit)
    found u bit h =
        let f = filter_map-from (λ v. start_of v (w (length rows) v)) (latches_of c) (record { place = u; bit = bit }) h in
        let s = started (w (length rows) f.0) f.0 u bit f.2 in
        (subst (Contains (latches_of c)) s.0 f.1, subst (λ (v : ℕ). w (length rows) v ≡ Some bit) s.0 s.1)

    latch_at : (e : Equation ℕ) (u : ℕ) → Contains c.equations e → latch_place e ≡ Some u → (name : List ℕ) × (next : ℕ) × IsLatch c name u next
    latch_at (Gate out fanins cover) u h q = cc
    latch_at (Port out from) u h q = cc
    latch_at (Latch name out next) u h q = (name, next, subst (λ (v : ℕ). IsLatch c name v next) (place q) h)
      where
        place : Some out ≡ Some u → out ≡ u
        place r = cc

    listed : (u : ℕ) → Contains (latches_of c) u → (name : List ℕ) × (next : ℕ) × IsLatch c name u next
    listed u h = let f = filter_map-from latch_place c.equations u h in latch_at f.0 u f.1 f.2
