-- What weighs little when it is unfolded over shifts weighs little over cycles: as many times as much as there are cycles, and there are
-- no more cycles than it weighs.
use Rattle.std.proofs.Common.{◌≡◌, ℕ, zero, suc, ◌+◌, ◌-◌, ◌<◌, ◌≤◌, List, [], ◌∷◌, map, refl, sym, ◌∙◌, ap, subst, arith, inl, inr, ◌⊎◌}
use Rattle.std.specs.List.{Contains, AllPairs, sum_by}
use Rattle.std.proofs.lemmas.List.Kept.{AllPairs-cons}
use Rattle.std.proofs.lemmas.List.Sums.{sum_by-cons}
use Rattle.circuit_theory.specs.Circuit.{Circuit, Reaches, InCone}
use Rattle.circuit_theory.specs.Depth.{LatchChain, IsDepth}
use Rattle.circuit_theory.specs.Run.{NoneEnabled}
use Rattle.circuit_theory.specs.Sizes.{Visits, WeighsAt, Weighed, IsOver}
use Rattle.circuit_theory.proofs.Lists.{Contains-head, Contains-tail, Contains-cases, Contains-map_from, All-from_each}
use Rattle.circuit_theory.proofs.Sums.{AllPairs-head, AllPairs-tail}
use Rattle.circuit_laws.specs.reset_laws.Weight.{ResetVisits, WeighedInCycle}

-- so many times
abbrev pub times : ℕ → ℕ → ℕ
times zero w = 0
times (suc n) w = w + times n w

below_or : (i j : ℕ) → (i < j) ⊎ (j ≤ i)
below_or i j = grind arith

last_or : (t n : ℕ) → t < suc n → (t ≡ n) ⊎ (t < n)
last_or t n h = grind arith

-- two entries are of two places, or in two cycles
abbrev Apart : {P : Type 0} → WeighedInCycle P → WeighedInCycle P → Type 0
Apart x y = (x.place ≡ y.place) → (x.cycle ≡ y.cycle) → ⊥

abbrev ShiftsApart : {P : Type 0} → Weighed P → Weighed P → Type 0
ShiftsApart x y = (x.place ≡ y.place) → (x.shift ≡ y.shift) → ⊥

abbrev cycle_weight : {P : Type 0} → WeighedInCycle P → ℕ
cycle_weight x = x.weight

abbrev shift_weight : {P : Type 0} → Weighed P → ℕ
shift_weight x = x.weight

none_apart : {X : Type 0} (R : X → X → Type 0) → AllPairs R []
none_apart R = λ i j d low in_list. absurd (omega (arith, in_list))

nothing : {X : Type 0} (x : X) → Contains [] x → ⊥
nothing x h = omega (arith, h.1)

-- a list in two parts, by what each entry is
record Parted {P : Type 0} (xs : List (WeighedInCycle P)) (F G : WeighedInCycle P → Type 0) : Type 0 where
  pub front : List (WeighedInCycle P)
  pub back : List (WeighedInCycle P)
  pub total : sum_by cycle_weight xs ≡ sum_by cycle_weight front + sum_by cycle_weight back
  pub front_is : (x : WeighedInCycle P) → Contains front x → Contains xs x × F x
  pub back_is : (x : WeighedInCycle P) → Contains back x → Contains xs x × G x
  pub front_apart : AllPairs Apart front
  pub back_apart : AllPairs Apart back

parted : {P : Type 0} (F G : WeighedInCycle P → Type 0) (xs : List (WeighedInCycle P)) → AllPairs Apart xs → ((x : WeighedInCycle P) → Contains xs x → F x ⊎ G x) → Parted xs F G
parted F G [] apart each = record {
  front = [];
  back = [];
  total = refl;
  front_is = λ x h. absurd (nothing x h);
  back_is = λ x h. absurd (nothing x h);
  front_apart = none_apart Apart;
  back_apart = none_apart Apart;
}
parted {P} F G (x ∷ xs) apart each = go (each x (Contains-head x xs)) (parted F G xs (AllPairs-tail Apart x xs apart) (λ y h. each y (Contains-tail x y xs h)))
  where
    go : F x ⊎ G x → Parted xs F G → Parted (x ∷ xs) F G
    go (inl f) rest = record {
      front = x ∷ rest.front;
      back = rest.back;
      total =
          let a : sum_by cycle_weight (x ∷ xs) ≡ x.weight + sum_by cycle_weight xs = sum_by-cons cycle_weight x xs in
          let b : sum_by cycle_weight (x ∷ rest.front) ≡ x.weight + sum_by cycle_weight rest.front = sum_by-cons cycle_weight x rest.front in
          omega (arith, a, b, rest.total);
      front_is = λ y h. pick y (Contains-cases x y rest.front h);
      back_is = λ y h. (Contains-tail x y xs (rest.back_is y h).0, (rest.back_is y h).1);
      front_apart = AllPairs-cons Apart x rest.front (All-from_each (Apart x) rest.front (λ y h. AllPairs-head Apart x xs apart y (rest.front_is y h).0)) rest.front_apart;
      back_apart = rest.back_apart;
    }
      where
        pick : (y : WeighedInCycle P) → (x ≡ y) ⊎ Contains rest.front y → Contains (x ∷ xs) y × F y
        pick y (inl e) = (subst (Contains (x ∷ xs)) e (Contains-head x xs), subst F e f)
        pick y (inr h) = (Contains-tail x y xs (rest.front_is y h).0, (rest.front_is y h).1)
    go (inr g) rest = record {
      front = rest.front;
      back = x ∷ rest.back;
      total =
          let a : sum_by cycle_weight (x ∷ xs) ≡ x.weight + sum_by cycle_weight xs = sum_by-cons cycle_weight x xs in
          let b : sum_by cycle_weight (x ∷ rest.back) ≡ x.weight + sum_by cycle_weight rest.back = sum_by-cons cycle_weight x rest.back in
          omega (arith, a, b, rest.total);
      front_is = λ y h. (Contains-tail x y xs (rest.front_is y h).0, (rest.front_is y h).1);
      back_is = λ y h. pick y (Contains-cases x y rest.back h);
      front_apart = rest.front_apart;
      back_apart = AllPairs-cons Apart x rest.back (All-from_each (Apart x) rest.back (λ y h. AllPairs-head Apart x xs apart y (rest.back_is y h).0)) rest.back_apart;
    }
      where
        pick : (y : WeighedInCycle P) → (x ≡ y) ⊎ Contains rest.back y → Contains (x ∷ xs) y × G y
        pick y (inl e) = (subst (Contains (x ∷ xs)) e (Contains-head x xs), subst G e g)
        pick y (inr h) = (Contains-tail x y xs (rest.back_is y h).0, (rest.back_is y h).1)

-- a visit in a cycle is one so many cycles before the last
module _ {P : Type 0} (c : Circuit P) (p : P) (t : ℕ) where
  one_more : (j : ℕ) → suc j ≤ t → suc (t - suc j) ≡ t - j
  one_more j h = omega (arith, h)

  pub shifted : {q : P} {j : ℕ} → ResetVisits c p t q j → (j ≤ t) × Visits c p 0 q (t - j)
  shifted ResetVisits.itself = (omega arith, subst (Visits c p 0 p) (let e : 0 ≡ t - t = omega arith in e) Visits.itself)
  shifted (ResetVisits.reads v read) = let h = shifted v in (h.0, Visits.reads h.1 read)
  shifted {q} {j} (ResetVisits.back v latch) = let h = shifted v in (omega (arith, h.0), subst (Visits c p 0 q) (one_more j h.0) (Visits.back h.1 latch))

abbrev as_shift : {P : Type 0} → ℕ → WeighedInCycle P → Weighed P
as_shift t x = record { place = x.place; shift = t - x.cycle; weight = x.weight }

shift_sum : {P : Type 0} (t : ℕ) (xs : List (WeighedInCycle P)) → sum_by shift_weight (map (as_shift t) xs) ≡ sum_by cycle_weight xs
shift_sum t [] = refl
shift_sum t (x ∷ xs) = sum_by-cons shift_weight (as_shift t x) (map (as_shift t) xs) ∙ (ap (λ n. x.weight + n) (shift_sum t xs) ∙ sym (sum_by-cons cycle_weight x xs))

still_apart : {P : Type 0} (t : ℕ) (x y : WeighedInCycle P) → Apart x y → x.cycle ≤ t → y.cycle ≤ t → ShiftsApart (as_shift t x) (as_shift t y)
still_apart t x y apart low lower place shift = apart place (let e : t - x.cycle ≡ t - y.cycle = shift in omega (arith, e, low, lower))

shifts_apart : {P : Type 0} (t : ℕ) (xs : List (WeighedInCycle P)) → ((x : WeighedInCycle P) → Contains xs x → x.cycle ≤ t) → AllPairs Apart xs → AllPairs ShiftsApart (map (as_shift t) xs)
shifts_apart t [] low apart = none_apart ShiftsApart
shifts_apart t (x ∷ xs) low apart =
    AllPairs-cons ShiftsApart (as_shift t x) (map (as_shift t) xs)
    (All-from_each (ShiftsApart (as_shift t x)) (map (as_shift t) xs) (λ y h.
    let z = Contains-map_from (as_shift t) xs y h in
    subst (ShiftsApart (as_shift t x)) z.2 (still_apart t x z.0 (AllPairs-head Apart x xs apart z.0 z.1) (low x (Contains-head x xs)) (low z.0 (Contains-tail x z.0 xs z.1)))))
    (shifts_apart t xs (λ y h. low y (Contains-tail x y xs h)) (AllPairs-tail Apart x xs apart))

-- where the unfoldings of these outputs over shifts weigh no more than this
module _ {P : Type 0} (c : Circuit P) (outputs : List P) (weight : ℕ) (light : (cap : ℕ) → IsOver c outputs cap → cap < weight) where
  -- the entry is visited from an output in this cycle
  abbrev pub SeenAt : ℕ → WeighedInCycle P → Type 0
  SeenAt t x = (p : P) × Contains outputs p × ResetVisits c p t x.place x.cycle

  -- or in some cycle before this one
  abbrev pub SeenBelow : ℕ → WeighedInCycle P → Type 0
  SeenBelow n x = (t : ℕ) × (t < n) × SeenAt t x

  -- from one cycle no more is visited
  one_cycle : (t : ℕ) (xs : List (WeighedInCycle P)) → AllPairs Apart xs → ((x : WeighedInCycle P) → Contains xs x → WeighsAt c x.place x.weight × SeenAt t x) → sum_by cycle_weight xs ≤ weight
  one_cycle t xs apart each = go (below_or weight (sum_by cycle_weight xs))
    where
      go : (weight < sum_by cycle_weight xs) ⊎ (sum_by cycle_weight xs ≤ weight) → sum_by cycle_weight xs ≤ weight
      go (inr h) = h
      go (inl h) =
          let over : IsOver c outputs weight = record {
            places = map (as_shift t) xs;
            distinct = shifts_apart t xs (λ x k. let seen = (each x k).1 in (shifted c seen.0 t seen.2).0) apart;
            weighed = λ y k. let z = Contains-map_from (as_shift t) xs y k in subst (λ (v : Weighed P). WeighsAt c v.place v.weight) z.2 (each z.0 z.1).0;
            met = λ y k.
                let z = Contains-map_from (as_shift t) xs y k in
                let seen = (each z.0 z.1).1 in
                (seen.0, seen.1, subst (λ (v : Weighed P). Visits c seen.0 0 v.place v.shift) z.2 (shifted c seen.0 t seen.2).1);
            total = let e = shift_sum t xs in omega (arith, e, h);
          } in
          let less = light weight over in
          absurd (omega (arith, less))

  -- from several no more than that for each
  pub cycles_weigh : (n : ℕ) (xs : List (WeighedInCycle P)) → AllPairs Apart xs → ((x : WeighedInCycle P) → Contains xs x → WeighsAt c x.place x.weight × SeenBelow n x) → sum_by cycle_weight xs ≤ times n weight
  cycles_weigh zero [] apart each = omega arith
  cycles_weigh zero (x ∷ xs) apart each = absurd (let seen = (each x (Contains-head x xs)).1 in let low = seen.1 in omega (arith, low))
  cycles_weigh (suc n) xs apart each =
      let p = parted (SeenAt n) (SeenBelow n) xs apart (λ x h. let seen = (each x h).1 in by x seen.0 seen.2 (last_or seen.0 n seen.1)) in
      let one = one_cycle n p.front p.front_apart (λ x h. ((each x (p.front_is x h).0).0, (p.front_is x h).1)) in
      let rest = cycles_weigh n p.back p.back_apart (λ x h. ((each x (p.back_is x h).0).0, (p.back_is x h).1)) in
      omega (arith, p.total, one, rest)
    where
      by : (x : WeighedInCycle P) (t : ℕ) → SeenAt t x → (t ≡ n) ⊎ (t < n) → SeenAt n x ⊎ SeenBelow n x
      by x t seen (inl e) = inl (subst (λ s. SeenAt s x) e seen)
      by x t seen (inr h) = inr (t, h, seen)

  -- the latches of a chain, each a cycle before the one that reads it
  record Row (p : P) (k n : ℕ) : Type 0 where
    pub places : List (Weighed P)
    pub long : sum_by shift_weight places ≡ n
    pub distinct : AllPairs ShiftsApart places
    pub each : (x : Weighed P) → Contains places x → (k ≤ x.shift) × WeighsAt c x.place x.weight × Visits c p 0 x.place x.shift

  along : {p q r : P} {j : ℕ} → Visits c p 0 q j → Reaches c q r → Visits c p 0 r j
  along v Reaches.here = v
  along v (Reaches.there read rest) = along (Visits.reads v read) rest

  row_of : (p : P) {u : P} {n : ℕ} (k : ℕ) → LatchChain c NoneEnabled u n → Visits c p 0 u k → Row p k n
  row_of p {u} k (LatchChain.last latch) v = record {
    places = record { place = u; shift = k; weight = 1 } ∷ [];
    long = sum_by-cons shift_weight (record { place = u; shift = k; weight = 1 }) [];
    distinct = AllPairs-cons ShiftsApart (record { place = u; shift = k; weight = 1 }) [] (All-from_each (ShiftsApart (record { place = u; shift = k; weight = 1 })) [] (λ y h. absurd (nothing y h))) (none_apart ShiftsApart);
    each = λ x h. only x (Contains-cases (record { place = u; shift = k; weight = 1 }) x [] h);
  }
    where
      only : (x : Weighed P) → (record { place = u; shift = k; weight = 1 } ≡ x) ⊎ Contains [] x → (k ≤ x.shift) × WeighsAt c x.place x.weight × Visits c p 0 x.place x.shift
      only x (inl e) = subst (λ (y : Weighed P). (k ≤ y.shift) × WeighsAt c y.place y.weight × Visits c p 0 y.place y.shift) e (omega arith, WeighsAt.latch latch, v)
      only x (inr h) = absurd (nothing x h)
  row_of p {u} k (LatchChain.more {n = n} reads chain) v = grown (row_of p (suc k) chain (along (Visits.back v reads.latch) reads.cone.1))
    where
      grown : Row p (suc k) n → Row p k (suc n)
      grown row = record {
        places = record { place = u; shift = k; weight = 1 } ∷ row.places;
        long = let e : sum_by shift_weight (record { place = u; shift = k; weight = 1 } ∷ row.places) ≡ 1 + sum_by shift_weight row.places = sum_by-cons shift_weight (record { place = u; shift = k; weight = 1 }) row.places in omega (arith, e, row.long);
        distinct =
            AllPairs-cons ShiftsApart (record { place = u; shift = k; weight = 1 }) row.places
            (All-from_each (ShiftsApart (record { place = u; shift = k; weight = 1 })) row.places (λ y h place shift. let deep = (row.each y h).0 in omega (arith, deep, shift))) row.distinct;
        each = λ x h. either x (Contains-cases (record { place = u; shift = k; weight = 1 }) x row.places h);
      }
        where
          either : (x : Weighed P) → (record { place = u; shift = k; weight = 1 } ≡ x) ⊎ Contains row.places x → (k ≤ x.shift) × WeighsAt c x.place x.weight × Visits c p 0 x.place x.shift
          either x (inl e) = subst (λ (y : Weighed P). (k ≤ y.shift) × WeighsAt c y.place y.weight × Visits c p 0 y.place y.shift) e (omega arith, WeighsAt.latch reads.latch, v)
          either x (inr h) = let old = row.each x h in (let deep = old.0 in omega (arith, deep), old.1, old.2)

  -- an output is no deeper than the unfoldings weigh
  pub depth_low : (p : P) → Contains outputs p → (d : ℕ) → IsDepth c NoneEnabled p d → d ≤ weight
  depth_low p among d deep = go (below_or weight d) deep.reached
    where
      go : (weight < d) ⊎ (d ≤ weight) → (d ≡ 0) ⊎ ((u : P) × InCone c p u × LatchChain c NoneEnabled u d) → d ≤ weight
      go (inr h) chain = h
      go (inl h) (inl e) = absurd (omega (arith, h, e))
      go (inl h) (inr chain) =
          let row = row_of p 0 chain.2 (along Visits.itself chain.1.1) in
          let over : IsOver c outputs weight = record {
            places = row.places;
            distinct = row.distinct;
            weighed = λ x k. (row.each x k).1;
            met = λ x k. (p, among, (row.each x k).2);
            total = omega (arith, row.long, h);
          } in
          let less = light weight over in
          absurd (omega (arith, less))
