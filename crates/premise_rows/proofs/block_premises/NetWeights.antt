-- What all inputs, latches and gates of a net count together is no more than what those of its design do.
use Rattle.std.proofs.Common.{◌≡◌, ◌∙◌, ℕ, zero, suc, ◌+◌, ◌*◌, ◌<◌, ◌≤◌, max, List, [], ◌∷◌, ◌++◌, map, length, refl, sym, ap, ap₂, subst, arith, inl, inr, ◌⊎◌, add-one}
use Rattle.std.specs.List.{Contains, AllPairs, sum_by}
use Rattle.std.proofs.lemmas.List.{length-map}
use Rattle.std.proofs.lemmas.List.Elements.{Contains-append_left, Contains-append_right}
use Rattle.std.proofs.lemmas.List.Kept.{AllPairs-cons}
use Rattle.std.proofs.lemmas.List.Sums.{sum_by-cons, sum_by-append}
use Rattle.circuit_theory.specs.Cover.{Cover}
use Rattle.circuit_theory.specs.Circuit.{Circuit, Equation, Gate, Latch, Port, Named, out_of}
use Rattle.circuit_theory.specs.Joined.{moved, moved_name}
use Rattle.circuit_theory.specs.Sizes.{WeighsAt}
use Rattle.circuit_theory.proofs.Lists.{Contains-head, Contains-tail, Contains-cases, Contains-map, Contains-map_from, All-from_each}
use Rattle.circuit_theory.proofs.Sums.{sum_within, AllPairs-head, AllPairs-tail}
use Rattle.circuit_laws.specs.reset_laws.Weight.{WeighedInCycle}
use Rattle.flat_net.specs.Sound.{IsSound}
use Rattle.flat_net.specs.View.{NetView, circuit_of}
use Rattle.net_assembly.specs.net_alike.FlatCircuit.{IsFlatCircuit}
use Rattle.flat_net.specs.Weights.{weight_at}
use Rattle.flat_net.proofs.Drivers.{weighs}
use Rattle.cbf_unfold.proofs.unfold_places.Lists.{sum_by-map}
use Rattle.block_refine.specs.latch_blocks.Signals.{net_weight}
use Rattle.block_refine.proofs.latch_blocks.Weights.{weight_below, weight_step, weight_all}

-- what a port drives counts nothing
abbrev equation_weight : {P : Type 0} → Equation P → ℕ
equation_weight (Gate out fanins cover) = 1 + max 1 (length cover.rows) * (length fanins + 1)
equation_weight (Latch name out next) = 1
equation_weight (Port out from) = 0

-- what all inputs, latches and gates of a circuit count together
abbrev pub circuit_weight : {P : Type 0} → Circuit P → ℕ
circuit_weight {P} c = sum_by (λ (i : Named P). 1) c.inputs + sum_by equation_weight c.equations

-- a signal with what it counts
abbrev counted : ℕ × ℕ → ℕ
counted x = x.1

abbrev SameSignal : ℕ × ℕ → ℕ × ℕ → Type 0
SameSignal x y = x.0 ≡ y.0

-- a signal that is visited in a cycle
abbrev as_signal : WeighedInCycle ℕ → ℕ × ℕ
as_signal x = (x.place, x.weight)

-- two entries are of two places, or in two cycles
abbrev Apart : WeighedInCycle ℕ → WeighedInCycle ℕ → Type 0
Apart x y = (x.place ≡ y.place) → (x.cycle ≡ y.cycle) → ⊥

-- those of one cycle are of two places
signals_of_cycle : (xs : List (WeighedInCycle ℕ)) → ((x : WeighedInCycle ℕ) → Contains xs x → x.cycle ≡ 0) → AllPairs Apart xs → AllPairs (λ (x y : ℕ × ℕ). SameSignal x y → ⊥) (map as_signal xs)
signals_of_cycle [] first apart = λ i j d low in_list. absurd (omega (arith, in_list))
signals_of_cycle (x ∷ xs) first apart =
    AllPairs-cons (λ (u v : ℕ × ℕ). SameSignal u v → ⊥) (as_signal x) (map as_signal xs)
    (All-from_each (λ (v : ℕ × ℕ). SameSignal (as_signal x) v → ⊥) (map as_signal xs) (λ v h.
    let z = Contains-map_from as_signal xs v h in
    subst (λ (u : ℕ × ℕ). SameSignal (as_signal x) u → ⊥) z.2 (λ same. AllPairs-head Apart x xs apart z.0 z.1 same (first x (Contains-head x xs) ∙ sym (first z.0 (Contains-tail x z.0 xs z.1))))))
    (signals_of_cycle xs (λ y h. first y (Contains-tail x y xs h)) (AllPairs-tail Apart x xs apart))

module _ (n : NetView) where
  -- the signals below a number
  abbrev signals : ℕ → List (ℕ × ℕ)
  signals zero = []
  signals (suc k) = (k, weight_at n k) ∷ signals k

  signals_weigh : (k : ℕ) → k ≤ length n.drivers → sum_by counted (signals k) ≡ weight_below n k
  signals_weigh zero h = refl
  signals_weigh (suc k) h =
      let turned : weight_at n k + weight_below n k ≡ weight_below n k + weight_at n k = omega arith in
      sum_by-cons counted (k, weight_at n k) (signals k)
      ∙ (ap (λ (m : ℕ). weight_at n k + m) (signals_weigh k (omega arith)) ∙ (turned ∙ (sym (weight_step n k (omega arith)) ∙ ap (weight_below n) (add-one k))))

  signal_in : (k : ℕ) (x : ℕ × ℕ) → Contains (signals k) x → (x.0 < k) × (x.1 ≡ weight_at n x.0)
  signal_in zero x h = absurd (omega (arith, h.1))
  signal_in (suc k) x h = go (Contains-cases (k, weight_at n k) x (signals k) h) (λ l. signal_in k x l)
    where
      go : ((k, weight_at n k) ≡ x) ⊎ Contains (signals k) x → (Contains (signals k) x → (x.0 < k) × (x.1 ≡ weight_at n x.0)) → (x.0 < suc k) × (x.1 ≡ weight_at n x.0)
      go (inl e) ih = subst (λ (y : ℕ × ℕ). (y.0 < suc k) × (y.1 ≡ weight_at n y.0)) e (omega arith, refl)
      go (inr l) ih = let low = (ih l).0 in (omega (arith, low), (ih l).1)

  signals_apart : (k : ℕ) → AllPairs (λ (x y : ℕ × ℕ). SameSignal x y → ⊥) (signals k)
  signals_apart zero = λ i j d low in_list. absurd (omega (arith, in_list))
  signals_apart (suc k) =
      AllPairs-cons (λ (x y : ℕ × ℕ). SameSignal x y → ⊥) (k, weight_at n k) (signals k)
      (All-from_each (λ (y : ℕ × ℕ). SameSignal (k, weight_at n k) y → ⊥) (signals k) (λ y h e. (let low = (signal_in k y h).0 in let same : k ≡ y.0 = e in omega (arith, low, same)))) (signals_apart k)

module _ {P : Type 0} (d : Circuit P) (n : NetView) (clocked : P → Type 0) (origin : ℕ → P) (signal : P → ℕ) (sound : IsSound n) (flat : IsFlatCircuit d (circuit_of n) (length n.drivers) clocked origin signal) where
  abbrev entered : Named P → ℕ × ℕ
  entered i = (signal i.place, 1)

  abbrev driven : Equation P → ℕ × ℕ
  driven e = (signal (out_of e), equation_weight e)

  -- what the design has
  abbrev parts : List (ℕ × ℕ)
  parts = map entered d.inputs ++ map driven d.equations

  abbrev Found : ℕ → ℕ → Type 0
  Found k w = (y : ℕ × ℕ) × Contains parts y × (k ≡ y.0) × (w ≡ y.1)

  in_equations : (e : Equation P) → Contains d.equations e → (k w : ℕ) → k ≡ signal (out_of e) → w ≡ equation_weight e → Found k w
  in_equations e c k w same weight = (driven e, Contains-append_right (map entered d.inputs) (map driven d.equations) (driven e) (Contains-map driven d.equations e c), same, weight)

  found : (k w : ℕ) → WeighsAt (circuit_of n) k w → Found k w
  found k w (WeighsAt.input h) =
      let x = Contains-map_from (moved_name signal) d.inputs (record { name = h.0; place = k }) (subst (λ (is : List (Named ℕ)). Contains is (record { name = h.0; place = k })) flat.inputs h.1) in
      let place : signal x.0.place ≡ k = ap (λ (i : Named ℕ). i.place) x.2 in
      (entered x.0, Contains-append_left (map entered d.inputs) (map driven d.equations) (entered x.0) (Contains-map entered d.inputs x.0 x.1), sym place, refl)
  found k w (WeighsAt.latch {next = next} {name = name} h) = let x = flat.only (Latch name k next) h in by x.0 x.1 x.2
    where
      by : (x : Equation P) → Contains d.equations x → moved signal x ≡ Latch name k next → Found k 1
      by (Latch own out to) c is = let out_is : signal out ≡ k = cc in in_equations (Latch own out to) c k 1 (sym out_is) refl
      by (Gate out fans cover) c is = absurd (cc)
      by (Port out from) c is = absurd (cc)
  found k w (WeighsAt.gate {fanins = fanins} {cover = cover} h) = let x = flat.only (Gate k fanins cover) h in by x.0 x.1 x.2
    where
      by : (x : Equation P) → Contains d.equations x → moved signal x ≡ Gate k fanins cover → Found k (1 + max 1 (length cover.rows) * (length fanins + 1))
      by (Gate out fans own) c is =
          let out_is : signal out ≡ k = cc in
          let fans_are : map signal fans ≡ fanins = cc in
          let cover_is : own ≡ cover = cc in
          let count : length fanins ≡ length fans = ap length (sym fans_are) ∙ length-map fans signal in
          in_equations (Gate out fans own) c k (1 + max 1 (length cover.rows) * (length fanins + 1)) (sym out_is)
          (ap (λ (m : ℕ). 1 + max 1 (length cover.rows) * (m + 1)) count ∙ ap (λ (z : Cover). 1 + max 1 (length z.rows) * (length fans + 1)) (sym cover_is))
      by (Latch name out to) c is = absurd (cc)
      by (Port out from) c is = absurd (cc)

  parts_weigh : sum_by counted parts ≡ circuit_weight d
  parts_weigh = sum_by-append counted (map entered d.inputs) (map driven d.equations) ∙ ap₂ (λ (x y : ℕ). x + y) (sum_by-map counted entered d.inputs) (sum_by-map counted driven d.equations)

  pub net_weighs : net_weight n ≤ circuit_weight d
  net_weighs =
      let within : sum_by counted (signals n (length n.drivers)) ≤ sum_by counted parts =
      sum_within counted SameSignal (λ x y z l r. l ∙ sym r) (signals n (length n.drivers)) parts (signals_apart n (length n.drivers))
      (λ x h. (let at = signal_in n (length n.drivers) x h in
      let f = found x.0 (weight_at n x.0) (weighs n sound x.0 at.0) in
      (f.0, f.1, f.2, at.1 ∙ f.3))) in
      let left : sum_by counted (signals n (length n.drivers)) ≡ net_weight n = signals_weigh n (length n.drivers) (omega arith) ∙ weight_all n (length n.drivers) (omega arith) in
      subst (λ (m : ℕ). m ≤ circuit_weight d) left (subst (λ (m : ℕ). sum_by counted (signals n (length n.drivers)) ≤ m) parts_weigh within)

  -- no more is visited in one cycle
  pub cycle_weighs : (xs : List (WeighedInCycle ℕ)) → AllPairs Apart xs → ((x : WeighedInCycle ℕ) → Contains xs x → (x.cycle ≡ 0) × WeighsAt (circuit_of n) x.place x.weight) → sum_by (λ x. x.weight) xs ≤ circuit_weight d
  cycle_weighs xs apart each =
      let within : sum_by counted (map as_signal xs) ≤ sum_by counted parts =
      sum_within counted SameSignal (λ x y z l r. l ∙ sym r) (map as_signal xs) parts (signals_of_cycle xs (λ x h. (each x h).0) apart)
      (λ v h. (let z = Contains-map_from as_signal xs v h in
      let f = found z.0.place z.0.weight (each z.0 z.1).1 in
      subst (λ (u : ℕ × ℕ). (y : ℕ × ℕ) × Contains parts y × SameSignal u y × (counted u ≡ counted y)) z.2 (f.0, f.1, f.2, f.3))) in
      subst (λ (m : ℕ). m ≤ circuit_weight d) (sum_by-map counted as_signal xs) (subst (λ (m : ℕ). sum_by counted (map as_signal xs) ≤ m) parts_weigh within)
