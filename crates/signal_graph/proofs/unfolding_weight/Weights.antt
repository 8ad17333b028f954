-- What the places that are met say of the weight.
use Rattle.std.proofs.Common.{◌≡◌, ◌≢◌, ℕ, Bool, true, false, suc, ◌+◌, ◌*◌, ◌<◌, ◌≤◌, max, List, [], ◌∷◌, ◌++◌, length, map, Option, Some, None, refl, sym, ◌∙◌, ap, subst, arith, inl, inr}
use Rattle.std.specs.Prelude.{◌⊎◌, slice_get, IfSome, IfNone}
use Rattle.std.specs.List.{Contains, AllPairs, sum_by}
use Rattle.std.proofs.lemmas.List.Sums.{sum_by-cons, sum_by-append}
use Rattle.std.proofs.lemmas.Option.{slice_get_within}
use Rattle.signal_graph.specs.inner_cone.flat_net.Signal.{Signal}
use Rattle.signal_graph.specs.inner_cone.flat_net.Gate.{Gate}
use Rattle.signal_graph.specs.inner_cone.flat_net.LatchAt.{LatchAt}
use Rattle.signal_graph.specs.inner_cone.flat_net.Driver.{Driver}
use Rattle.signal_graph.specs.inner_cone.flat_net.Driver.TheVariants as driver
use Rattle.signal_graph.specs.inner_cone.flat_net.View.{NetView, circuit_of, cover_of}
use Rattle.signal_graph.specs.inner_cone.flat_net.Sound.{IsSound, Drives}
use Rattle.signal_graph.proofs.inner_cone.flat_net.Places.{one_at, cover_of-is}
use Rattle.signal_graph.proofs.inner_cone.flat_net.Growth.{slice_get-append, slice_get-push, slice_get-push_cases, length-push}
use Rattle.signal_graph.proofs.inner_cone.flat_net.Nets.{some_at, gate_stands, latch_stands, input_stands}
use Rattle.signal_graph.specs.inner_cone.circuit_theory.Cover.{Cover}
use Rattle.signal_graph.specs.inner_cone.circuit_theory.Circuit.{Gate as gate_equation, IsLatch, Reads}
use Rattle.signal_graph.specs.inner_cone.circuit_theory.Sizes.{WeighsAt, Weighed, Visits, IsWeight, IsOver}
use Rattle.signal_graph.proofs.inner_cone.circuit_theory.Lists.{Contains-map, Contains-map_from, at_of, of_at, map_at, length-map}
use Rattle.signal_graph.proofs.inner_cone.circuit_theory.Sums.{same_or_not}
use Rattle.signal_graph.specs.declared.nodes.Node.{Node}
use Rattle.signal_graph.proofs.Lists.{AllPairs-from_at}
use Rattle.signal_graph.specs.Graph.{GraphView, IsGraphOf, IsPlainGraphOf, ArePlainNodes, AreTaken, step_of}
use Rattle.signal_graph.specs.unfolding_weight.Weight.{gate_weight, driver_weight, weight_of, AreMet, Stay, IsMet, Meeting, AreThere, IsVisited, AreVisited, AreReadsThere}
use Rattle.signal_graph.proofs.Driving.{Driven, driven, only_at}
use Rattle.signal_graph.proofs.Reading.{reads_node, latch_node}

sum_by-map : {X Y : Type 0} (f : Y → ℕ) (g : X → Y) (xs : List X) → sum_by f (map g xs) ≡ sum_by (λ x. f (g x)) xs
sum_by-map f g [] = refl
sum_by-map {X} {Y} f g (x ∷ xs) =
    let rest = sum_by-map f g xs in
    let e = sum_by-cons f (g x) (map g xs) in
    let h = sum_by-cons (λ (y : X). f (g y)) x xs in
    omega (arith, e, h, rest)

sum_by-push : {X : Type 0} (f : X → ℕ) (xs : List X) (x : X) → sum_by f (xs ++ x ∷ []) ≡ sum_by f xs + f x
sum_by-push f xs x = let e = sum_by-append f xs (x ∷ []) in let h = sum_by-cons f x [] in let z : sum_by f [] ≡ 0 = refl in omega (arith, e, h, z)

-- each signal counts 1 at least
gate_counts : (n : NetView) (o : Option Gate) → 1 ≤ gate_weight n o
gate_counts n None = omega arith
gate_counts n (Some g) = omega arith

counts : (n : NetView) (o : Option Driver) → 1 ≤ driver_weight n o
counts n None = omega arith
counts n (Some (driver.Input i)) = omega arith
counts n (Some (driver.Gate j)) = gate_counts n (slice_get n.gates j)
counts n (Some (driver.Latch j)) = omega arith

pub few_places : (n : NetView) (places : List (ℕ × ℕ)) → length places ≤ sum_by (λ p. weight_of n p.0) places
few_places n [] = omega arith
few_places n (p ∷ places) =
    let e = sum_by-cons (λ (p : ℕ × ℕ). weight_of n p.0) p places in
    let l = few_places n places in
    let one : 1 ≤ weight_of n p.0 = counts n (slice_get n.drivers p.0) in
    omega (arith, e, l, one)

-- the signal counts its weight
weighs : (n : NetView) → IsSound n → (s : ℕ) → s < length n.drivers → WeighsAt (circuit_of n) s (weight_of n s)
weighs n sound s l = by d.0 (sound.drivers s d.0 d.1) d.1
  where
    d : (d : Driver) × (slice_get n.drivers s ≡ Some d)
    d = some_at n.drivers s l

    by : (d : Driver) → Drives n s d → slice_get n.drivers s ≡ Some d → WeighsAt (circuit_of n) s (weight_of n s)
    by (driver.Input i) x h =
        subst (λ z. WeighsAt (circuit_of n) s (driver_weight n z)) (sym h)
        (WeighsAt.input (x.0.name, subst (λ z. Contains (circuit_of n).inputs (record { name = x.0.name; place = z })) x.2 (input_stands n i x.0 x.1)))
    by (driver.Gate j) x h =
        let rows = max 1 (length (cover_of n.covers x.0).rows) in
        let gate = WeighsAt.gate (subst (λ z. Contains (circuit_of n).equations (gate_equation z (map (λ f. f.0) x.0.fanins) (cover_of n.covers x.0))) x.2 (gate_stands n j x.0 x.1)) in
        let here : WeighsAt (circuit_of n) s (gate_weight n (Some x.0)) = subst (λ m. WeighsAt (circuit_of n) s (1 + rows * (m + 1))) (length-map (λ (f : Signal). f.0) x.0.fanins) gate in
        subst (λ z. WeighsAt (circuit_of n) s (driver_weight n z)) (sym h) (subst (λ z. WeighsAt (circuit_of n) s (gate_weight n z)) (sym x.1) here)
    by (driver.Latch j) x h =
        subst (λ z. WeighsAt (circuit_of n) s (driver_weight n z)) (sym h) (WeighsAt.latch (subst (λ z. IsLatch (circuit_of n) x.0.name z x.0.next.0) x.2 (latch_stands n j x.0 x.1)))

-- a place that is met is there, and the others stay
pub met_there : (n : NetView) (old new : List (ℕ × ℕ)) (place : ℕ × ℕ) (total sum : ℕ) → IsMet n old new place total sum → Contains new place
met_there n old new place total sum (inl x) = subst (λ z. Contains z place) (sym x.1) x.0
met_there n old new place total sum (inr x) = subst (λ z. Contains z place) (sym x.1) (of_at (old ++ place ∷ []) (length old) place (slice_get-push old place (length old) refl))

pub met_stay : (n : NetView) (old new : List (ℕ × ℕ)) (place : ℕ × ℕ) (total sum : ℕ) → IsMet n old new place total sum → Stay old new
met_stay n old new place total sum (inl x) i p h = subst (λ z. slice_get z i ≡ Some p) (sym x.1) h
met_stay n old new place total sum (inr x) i p h = subst (λ z. slice_get z i ≡ Some p) (sym x.1) (slice_get-append old (place ∷ []) i p h)

pub stay_there : (old new : List (ℕ × ℕ)) (p : ℕ × ℕ) → Stay old new → Contains old p → Contains new p
stay_there old new p stay h = let at = at_of old p h in of_at new at.0 p (stay at.0 p at.1)

-- one more visited place
pub met_more : (n : NetView) (outputs : List ℕ) (old new : List (ℕ × ℕ)) (place : ℕ × ℕ) (total sum : ℕ) → IsMet n old new place total sum → AreMet n outputs old total →
    (o : ℕ) × Contains outputs o × Visits (circuit_of n) o 0 place.0 place.1 → place.0 < length n.drivers → place.1 ≤ length old → AreMet n outputs new sum
met_more n outputs old new place total sum (inl x) met visited inside early = subst (λ z. AreMet n outputs z sum) (sym x.1) (subst (λ z. AreMet n outputs old z) (sym x.2) met)
met_more n outputs old new place total sum (inr x) met visited inside early = subst (λ z. AreMet n outputs z sum) (sym x.1) more
  where
    more : AreMet n outputs (old ++ place ∷ []) sum
    more = record {
      distinct = λ i j p h k. distinct i j p (slice_get-push_cases old place i p h) (slice_get-push_cases old place j p k);
      visited = λ i p h. visits p (slice_get-push_cases old place i p h) (λ k. met.visited i p k);
      within = λ i p h. within p (slice_get-push_cases old place i p h) (λ k. met.within i p k);
      early = λ i p h. soon i p (slice_get-push_cases old place i p h);
      sum = let e = sum_by-push (λ (p : ℕ × ℕ). weight_of n p.0) old place in omega (arith, e, met.sum, x.2);
    }
      where
        distinct : (i j : ℕ) (p : ℕ × ℕ) → (slice_get old i ≡ Some p) ⊎ ((i ≡ length old) × (place ≡ p)) → (slice_get old j ≡ Some p) ⊎ ((j ≡ length old) × (place ≡ p)) → i ≡ j
        distinct i j p (inl h) (inl k) = met.distinct i j p h k
        distinct i j p (inl h) (inr k) = absurd (x.0 (of_at old i place (subst (λ z. slice_get old i ≡ Some z) (sym k.1) h)))
        distinct i j p (inr h) (inl k) = absurd (x.0 (of_at old j place (subst (λ z. slice_get old j ≡ Some z) (sym h.1) k)))
        distinct i j p (inr h) (inr k) = h.0 ∙ sym k.0

        visits : {i : ℕ} (p : ℕ × ℕ) → (slice_get old i ≡ Some p) ⊎ ((i ≡ length old) × (place ≡ p)) → (slice_get old i ≡ Some p → (o : ℕ) × Contains outputs o × Visits (circuit_of n) o 0 p.0 p.1) →
            (o : ℕ) × Contains outputs o × Visits (circuit_of n) o 0 p.0 p.1
        visits p (inl h) before = before h
        visits p (inr h) before = subst (λ (z : ℕ × ℕ). (o : ℕ) × Contains outputs o × Visits (circuit_of n) o 0 z.0 z.1) h.1 visited

        within : {i : ℕ} (p : ℕ × ℕ) → (slice_get old i ≡ Some p) ⊎ ((i ≡ length old) × (place ≡ p)) → (slice_get old i ≡ Some p → p.0 < length n.drivers) → p.0 < length n.drivers
        within p (inl h) before = before h
        within p (inr h) before = subst (λ (z : ℕ × ℕ). z.0 < length n.drivers) h.1 inside

        soon : (i : ℕ) (p : ℕ × ℕ) → (slice_get old i ≡ Some p) ⊎ ((i ≡ length old) × (place ≡ p)) → p.1 ≤ i
        soon i p (inl h) = met.early i p h
        soon i p (inr h) = let l = subst (λ (z : ℕ × ℕ). z.1 ≤ length old) h.1 early in omega (arith, l, h.0)

-- nothing is met yet
pub met_none : (n : NetView) (outputs : List ℕ) → AreMet n outputs [] 0
met_none n outputs = record {
  distinct = λ i j p h k. absurd (nothing i p h);
  visited = λ i p h. absurd (nothing i p h);
  within = λ i p h. absurd (nothing i p h);
  early = λ i p h. absurd (nothing i p h);
  sum = refl;
}
  where
    nothing : (i : ℕ) (p : ℕ × ℕ) → slice_get [] i ≡ Some p → ⊥
    nothing i p h = let l = slice_get_within [] i p h in omega (arith, l)

-- a latch's node reads what the latch takes over, where no self-edge is left out
pub plain_taken : (n : NetView) (g : GraphView) → IsPlainGraphOf n g → (j : ℕ) (l : LatchAt) (bit : Bool) (reads : List Signal) → slice_get g.skipped j ≡ Some bit → AreTaken n l bit reads → reads ≡ l.next ∷ []
plain_taken n g plain j l false reads b taken = taken
plain_taken n g plain j l true reads b taken = absurd (differ (plain.plain j true b))
  where
    differ : true ≡ false → ⊥
    differ e = cc

module _ (n : NetView) (sound : IsSound n) (outputs : List ℕ) (places : List (ℕ × ℕ)) (total : ℕ) (met : AreMet n outputs places total) where
  abbrev weighed : ℕ × ℕ → Weighed ℕ
  weighed p = record { place = p.0; shift = p.1; weight = weight_of n p.0 }

  apart : AllPairs (λ x y. (x.place ≡ y.place) → (x.shift ≡ y.shift) → ⊥) (map weighed places)
  apart = AllPairs-from_at (λ (x y : Weighed ℕ). (x.place ≡ y.place) → (x.shift ≡ y.shift) → ⊥) (map weighed places) go
    where
      go : (i j : ℕ) (x y : Weighed ℕ) → i < j → slice_get (map weighed places) i ≡ Some x → slice_get (map weighed places) j ≡ Some y → x.place ≡ y.place → x.shift ≡ y.shift → ⊥
      go i j x y l h k e f =
          let p = map_at weighed places i x h in
          let q = map_at weighed places j y k in
          let first : p.0.0 ≡ q.0.0 = ap (λ (z : Weighed ℕ). z.place) p.2 ∙ e ∙ sym (ap (λ (z : Weighed ℕ). z.place) q.2) in
          let second : p.0.1 ≡ q.0.1 = ap (λ (z : Weighed ℕ). z.shift) p.2 ∙ f ∙ sym (ap (λ (z : Weighed ℕ). z.shift) q.2) in
          let same : p.0 ≡ q.0 = λ i. (first i, second i) in
          let place : i ≡ j = met.distinct i j q.0 (subst (λ z. slice_get places i ≡ Some z) same p.1) q.1 in
          omega (arith, place, l)

  right : (x : Weighed ℕ) → Contains (map weighed places) x → WeighsAt (circuit_of n) x.place x.weight
  right x h =
      let p = Contains-map_from weighed places x h in
      let at = at_of places p.0 p.1 in
      subst (λ (z : Weighed ℕ). WeighsAt (circuit_of n) z.place z.weight) p.2 (weighs n sound p.0.0 (met.within at.0 p.0 at.1))

  visited : (x : Weighed ℕ) → Contains (map weighed places) x → (o : ℕ) × Contains outputs o × Visits (circuit_of n) o 0 x.place x.shift
  visited x h =
      let p = Contains-map_from weighed places x h in
      let at = at_of places p.0 p.1 in
      subst (λ (z : Weighed ℕ). (o : ℕ) × Contains outputs o × Visits (circuit_of n) o 0 z.place z.shift) p.2 (met.visited at.0 p.0 at.1)

  whole : sum_by (λ x. x.weight) (map weighed places) ≡ total
  whole = sum_by-map (λ (x : Weighed ℕ). x.weight) weighed places ∙ met.sum

  -- places that weigh more than the cap
  pub is_over : (cap : ℕ) → cap < total → IsOver (circuit_of n) outputs cap
  is_over cap l = record { places = map weighed places; distinct = apart; weighed = right; met = visited; total = subst (λ z. cap < z) (sym whole) l }

  -- places that have what they read are all that is visited
  pub is_weight : (g : GraphView) → IsPlainGraphOf n g → ((o : ℕ) → Contains outputs o → Contains places (o, 0)) →
      ((p : ℕ × ℕ) → Contains places p → (node : Node) → slice_get g.nodes p.0 ≡ Some node → (k : ℕ) (r : Signal) → slice_get node.reads k ≡ Some r → Contains places (r.0, p.1 + step_of node.latch)) →
      IsWeight (circuit_of n) outputs total
  is_weight g plain roots closed = record {
    places = map weighed places;
    distinct = apart;
    weighed = right;
    met = λ q j. (λ x. visited (record { place = q; shift = j; weight = x.0 }) x.1, λ x. (weight_of n q, Contains-map weighed places (q, j) (reached x.2 (roots x.0 x.1))));
    total = whole;
  }
    where
      of : IsGraphOf n g
      of = plain.graph

      node_at : (p : ℕ × ℕ) → Contains places p → (node : Node) × (slice_get g.nodes p.0 ≡ Some node)
      node_at p h = let at = at_of places p h in some_at g.nodes p.0 (omega (arith, met.within at.0 p at.1, of.size))

      reached : {o k q j : ℕ} → Visits (circuit_of n) o k q j → Contains places (o, k) → Contains places (q, j)
      reached Visits.itself h = h
      reached (Visits.reads {q = q} {r = r} {j = j} rest reads) h =
          let before = reached rest h in
          let node = node_at (q, j) before in
          let x = reads_node n g of reads node.0 node.1 in
          let next = closed (q, j) before node.0 node.1 x.1 x.2 x.3 in
          let none : step_of node.0.latch ≡ 0 = ap step_of x.0 in
          let same : j + step_of node.0.latch ≡ j = omega (arith, none) in
          subst (λ z. Contains places (z, j)) x.4 (subst (λ z. Contains places (x.2.0, z)) same next)
      reached (Visits.back {q = q} {next = next} {j = j} rest latch) h =
          let before = reached rest h in
          let node = node_at (q, j) before in
          let x = latch_node n g of latch node.0 node.1 in
          let step = closed (q, j) before node.0 node.1 0 x.latch.next (ap (λ (z : List Signal). slice_get z 0) (plain_taken n g plain x.position x.latch x.bit node.0.reads x.bit_is x.taken)) in
          let one : step_of node.0.latch ≡ 1 = ap step_of x.named in
          let same : j + step_of node.0.latch ≡ suc j = omega (arith, one) in
          subst (λ z. Contains places (z, suc j)) x.next_is (subst (λ z. Contains places (x.latch.next.0, z)) same step)

-- what the signal of a gate counts
pub gate_weighs : (n : NetView) (s j : ℕ) (gate : Gate) (cover : Cover) (rows columns : ℕ) → slice_get n.drivers s ≡ Some (driver.Gate j) → slice_get n.gates j ≡ Some gate → slice_get n.covers gate.cover ≡ Some cover →
    rows ≡ max 1 (length cover.rows) → columns ≡ length gate.fanins + 1 → 1 + rows * columns ≡ weight_of n s
gate_weighs n s j gate cover rows columns driven at covered rows_are columns_are =
    let here : weight_of n s ≡ gate_weight n (Some gate) = ap (driver_weight n) driven ∙ ap (gate_weight n) at in
    let whole : gate_weight n (Some gate) ≡ 1 + max 1 (length cover.rows) * (length gate.fanins + 1) =
    ap (λ (z : Cover). 1 + max 1 (length z.rows) * (length gate.fanins + 1)) (cover_of-is n.covers gate cover covered) in
    ap (λ z. 1 + z * columns) rows_are ∙ ap (λ z. 1 + max 1 (length cover.rows) * z) columns_are ∙ sym whole ∙ sym here

pub met_longer : (n : NetView) (old new : List (ℕ × ℕ)) (place : ℕ × ℕ) (total sum : ℕ) → IsMet n old new place total sum → length old ≤ length new
met_longer n old new place total sum (inl x) = omega (arith, ap length x.1)
met_longer n old new place total sum (inr x) = omega (arith, ap length x.1, length-push old place)

pub there_more : (reads : List Signal) (i shift : ℕ) (old new : List (ℕ × ℕ)) (r : Signal) → AreThere reads i shift old → Stay old new → slice_get reads i ≡ Some r → Contains new (r.0, shift) → AreThere reads (i + 1) shift new
there_more reads i shift old new r there stay at here k q l h = go (same_or_not k i)
  where
    go : (k ≡ i) ⊎ (k ≢ i) → Contains new (q.0, shift)
    go (inl e) = subst (λ (z : Signal). Contains new (z.0, shift)) (one_at reads i r q at (subst (λ z. slice_get reads z ≡ Some q) e h)) here
    go (inr n) = stay_there old new (q.0, shift) stay (there k q (omega (arith, l, n)) h)

-- what a visited signal reads is visited, a latch's in the cycle before
pub child_visits : (n : NetView) (g : GraphView) → IsPlainGraphOf n g → (o s shift : ℕ) → Visits (circuit_of n) o 0 s shift → (node : Node) → slice_get g.nodes s ≡ Some node → (k : ℕ) (r : Signal) → slice_get node.reads k ≡ Some r →
    Visits (circuit_of n) o 0 r.0 (shift + step_of node.latch)
child_visits n g plain o s shift visits node at k r h = go (driven n g plain.graph s node at)
  where
    go : Driven n g.skipped s node → Visits (circuit_of n) o 0 r.0 (shift + step_of node.latch)
    go (Driven.input is reads lone) = absurd (let l = slice_get_within node.reads k r h in omega (arith, l, ap length reads))
    go (Driven.gate gt stands reads lone below) =
        let here = of_at gt.fanins k r (subst (λ (z : List Signal). slice_get z k ≡ Some r) reads h) in
        let none : step_of node.latch ≡ 0 = ap step_of lone in
        let same : shift ≡ shift + step_of node.latch = omega (arith, none) in
        subst (λ z. Visits (circuit_of n) o 0 r.0 z) same (Visits.reads visits (Reads.by_gate stands (Contains-map (λ (f : Signal). f.0) gt.fanins r here)))
    go (Driven.latch j l place out is bit bit_is taken lone inner) =
        let one : step_of node.latch ≡ 1 = ap step_of lone in
        let same : suc shift ≡ shift + step_of node.latch = omega (arith, one) in
        let next : l.next ≡ r = only_at node.reads l.next k r (plain_taken n g plain j l bit node.reads bit_is taken) h in
        subst (λ z. Visits (circuit_of n) o 0 r.0 z) same (subst (λ (z : Signal). Visits (circuit_of n) o 0 z.0 (suc shift)) next (Visits.back visits is))

-- what an option tells
pub at_some : {X : Type 0} (P : X → Type 0) (o : Option X) (x : X) → o ≡ Some x → IfSome o P → P x
at_some P o x e h = subst (λ z. IfSome z P) e h

pub at_none : {X : Type 0} (P : Type 0) (o : Option X) → o ≡ None → IfNone o P → P
at_none P o e h = subst (λ z. IfNone z P) e h

pub not_some : {X : Type 0} (P : Type 0) (o : Option X) → ((x : X) → o ≡ Some x → ⊥) → IfNone o P → P
not_some P None never h = h
not_some P (Some x) never h = absurd (never x refl)

-- what a visited place reads is visited, and there where its reads are
pub reads_visited : (n : NetView) (g : GraphView) → IsPlainGraphOf n g → (outputs : List ℕ) (p : ℕ × ℕ) (node : Node) (reads : List Signal) (shift : ℕ) → slice_get g.nodes p.0 ≡ Some node → reads ≡ node.reads →
    shift ≡ p.1 + step_of node.latch → IsVisited n outputs p → AreVisited n outputs reads shift
reads_visited n g of outputs p node reads shift at is back v k r h =
    (v.0, v.1, subst (λ z. Visits (circuit_of n) v.0 0 r.0 z) (sym back) (child_visits n g of v.0 p.0 p.1 v.2 node at k r (subst (λ (z : List Signal). slice_get z k ≡ Some r) is h)))

pub reads_there : (nodes : List Node) (p : ℕ × ℕ) (node : Node) (reads : List Signal) (shift : ℕ) (places : List (ℕ × ℕ)) → slice_get nodes p.0 ≡ Some node → reads ≡ node.reads →
    shift ≡ p.1 + step_of node.latch → AreThere reads (length reads) shift places → AreReadsThere nodes p places
reads_there nodes p node reads shift places at is back there node' k r at' h =
    let same : node ≡ node' = one_at nodes p.0 node node' at at' in
    let here : slice_get reads k ≡ Some r = subst (λ (z : List Signal). slice_get z k ≡ Some r) (ap (λ (z : Node). z.reads) (sym same) ∙ sym is) h in
    subst (λ (z : Node). Contains places (r.0, p.1 + step_of z.latch)) same
    (subst (λ z. Contains places (r.0, z)) back (there k r (slice_get_within reads k r here) here))

-- the reads of more places are there
pub reads_stay : (nodes : List Node) (p : ℕ × ℕ) (old new : List (ℕ × ℕ)) → Stay old new → AreReadsThere nodes p old → AreReadsThere nodes p new
reads_stay nodes p old new stay there node k r at h = stay_there old new (r.0, p.1 + step_of node.latch) stay (there node k r at h)

-- the outputs visit themselves
pub outputs_visited : (n : NetView) (outputs : List Signal) → AreVisited n (map (λ s. s.0) outputs) outputs 0
outputs_visited n outputs k r h = (r.0, Contains-map (λ (s : Signal). s.0) outputs r (of_at outputs k r h), Visits.itself)

pub outputs_there : (outputs : List Signal) (places : List (ℕ × ℕ)) → AreThere outputs (length outputs) 0 places → (o : ℕ) → Contains (map (λ (s : Signal). s.0) outputs) o → Contains places (o, 0)
outputs_there outputs places there o h =
    let found = Contains-map_from (λ (s : Signal). s.0) outputs o h in
    let at = at_of outputs found.0 found.1 in
    subst (λ z. Contains places (z, 0)) found.2 (there at.0 found.0 (slice_get_within outputs at.0 found.0 at.1) at.1)

-- the nodes of a plain graph
pub plain_nodes : (n : NetView) (g : GraphView) → IsPlainGraphOf n g → (nodes : List Node) → nodes ≡ g.nodes → ArePlainNodes n nodes
plain_nodes n g plain nodes e = subst (λ (z : List Node). ArePlainNodes n z) (sym e) (record {
  bits = g.skipped;
  plain = record { graph = record { sound = plain.graph.sound; size = plain.graph.size; nodes = plain.graph.nodes; latches = refl; bits = plain.graph.bits }; plain = plain.plain };
})
