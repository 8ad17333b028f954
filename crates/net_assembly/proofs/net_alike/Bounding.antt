-- A closed list over a design's places bounds the unfolding of its nets.
use Rattle.std.proofs.Common.{◌≡◌, ◌∙◌, ℕ, suc, ◌+◌, ◌*◌, ◌<◌, ◌≤◌, max, List, length, map, refl, sym, ap, subst, arith}
use Rattle.std.specs.List.{Contains, sum_by}
use Rattle.std.proofs.lemmas.List.{length-map}
use Rattle.circuit_theory.specs.Cover.{Cover}
use Rattle.circuit_theory.specs.Circuit.{Circuit, Equation, Gate, Latch, Port, Named, IsLatch, IsSingleDriven, Reads}
use Rattle.circuit_theory.specs.Joined.{moved, moved_name}
use Rattle.circuit_theory.specs.Flattened.{Follows}
use Rattle.circuit_theory.specs.Places.{IsPlace}
use Rattle.circuit_theory.specs.Sizes.{Visits, WeighsAt, Weighed, IsOver}
use Rattle.circuit_theory.proofs.Lists.{Contains-map_from}
use Rattle.circuit_theory.proofs.Sums.{sum_within}
use Rattle.net_assembly.specs.net_alike.FlatCircuit.{HasSignal, IsFlatCircuit}
use Rattle.net_assembly.specs.net_alike.Closed.{StandsAt, IsClosed}
use Rattle.circuit_laws.proofs.Counting.{pairs_map}
use Rattle.net_assembly.proofs.net_alike.Carrying.{sum_map, visited}
use Rattle.net_assembly.proofs.net_alike.Alike.{low}
use Rattle.net_assembly.proofs.net_alike.Ends.{gate_home, latch_home, input_home}

module _ {P : Type 0} (d : Circuit P) (net : Circuit ℕ) (size : ℕ) (clocked : P → Type 0) (o : ℕ → P) (s : P → ℕ) (single : IsSingleDriven d) (flat : IsFlatCircuit d net size clocked o s)
    (spots : List (Weighed P)) (closed : IsClosed d spots) where
  along : {p q : P} (j : ℕ) → Follows d p q → StandsAt spots p j → StandsAt spots q j
  along j Follows.here at = at
  along j (Follows.there {p = p} {from = from} h rest) at = along j rest (closed.port (record { place = p; shift = j; weight = at.0 }) from at.1 h)

  abbrev Stands : ℕ → ℕ → Type 0
  Stands q j = StandsAt spots (o q) j

  of_place : (p : P) (q j : ℕ) → HasSignal d size o p (s p) → s p ≡ q → StandsAt spots p j → Stands q j
  of_place p q j own is at = subst (λ (k : ℕ). StandsAt spots (o k) j) is (along j own.follows at)

  gate_step : (q r j : ℕ) (fanins : List ℕ) (cover : Cover) → Contains net.equations (Gate q fanins cover) → Contains fanins r → Stands q j → Stands r j
  gate_step q r j fanins cover h k at = let x = flat.only (Gate q fanins cover) h in by x.0 x.1 x.2
    where
      by : (x : Equation P) → Contains d.equations x → moved s x ≡ Gate q fanins cover → Stands r j
      by (Gate out fans own) c is =
          let out_is : s out ≡ q = cc in
          let fans_are : map s fans ≡ fanins = cc in
          let reads = flat.read out fans own c in
          let home : o q ≡ out = ap o (sym out_is) ∙ gate_home d net size clocked o s single flat out fans own c in
          let there = subst (λ (p : P). StandsAt spots p j) home at in
          let f = Contains-map_from s fans r (subst (λ (xs : List ℕ). Contains xs r) (sym fans_are) k) in
          of_place f.0 r j (reads.1 f.0 f.1) f.2 ((closed.gate (record { place = out; shift = j; weight = there.0 }) fans own there.1 c).1 f.0 f.1)
      by (Latch name out next) c is = absurd (cc)
      by (Port out from) c is = absurd (cc)

  latch_step : (q r j : ℕ) (name : List ℕ) → IsLatch net name q r → Stands q j → Stands r (suc j)
  latch_step q r j name h at = let x = flat.only (Latch name q r) h in by x.0 x.1 x.2
    where
      by : (x : Equation P) → Contains d.equations x → moved s x ≡ Latch name q r → Stands r (suc j)
      by (Latch own out next) c is =
          let out_is : s out ≡ q = cc in
          let next_is : s next ≡ r = cc in
          let takes = flat.taken own out next c in
          let home : o q ≡ out = ap o (sym out_is) ∙ latch_home d net size clocked o s single flat own out next c in
          let there = subst (λ (p : P). StandsAt spots p j) home at in
          of_place next r (suc j) takes.1 next_is (closed.latch (record { place = out; shift = j; weight = there.0 }) own next there.1 c).1
      by (Gate out fans own) c is = absurd (cc)
      by (Port out from) c is = absurd (cc)

  -- what is visited stands in the list
  visit_stands : {p : ℕ} {k : ℕ} {q : ℕ} {j : ℕ} → Visits net p k q j → Stands p k → Stands q j
  visit_stands Visits.itself at = at
  visit_stands (Visits.reads {q = q} {r = r} {j = j} v (Reads.by_gate {fanins = fanins} {cover = cover} h c)) at = gate_step q r j fanins cover h c (visit_stands v at)
  visit_stands (Visits.reads v (Reads.by_port {out = out} {from = from} h)) at = absurd (flat.no_port out from h)
  visit_stands (Visits.back {q = q} {next = next} {j = j} {name = name} v l) at = latch_step q next j name l (visit_stands v at)

  -- an output, and its place
  output_at : (q : ℕ) → Contains (map (λ (x : Named ℕ). x.place) net.outputs) q → IsPlace net q × Stands q 0
  output_at q h =
      let x = Contains-map_from (λ (x : Named ℕ). x.place) net.outputs q h in
      let y = Contains-map_from (moved_name s) d.outputs x.0 (subst (λ (os : List (Named ℕ)). Contains os x.0) flat.outputs x.1) in (
        subst (IsPlace net) x.2 (IsPlace.output {name = x.0.name} x.1),
        of_place y.0.place q 0 (flat.shown y.0.name y.0.place y.1) (ap (λ (n : Named ℕ). n.place) y.2 ∙ x.2) (closed.shown y.0.name y.0.place y.1),
      )

  -- what a place counts
  counts : (q j w v : ℕ) → WeighsAt net q w → Contains spots (record { place = o q; shift = j; weight = v }) → w ≡ v
  counts q j w v (WeighsAt.input h) at =
      let x = Contains-map_from (moved_name s) d.inputs (record { name = h.0; place = q }) (subst (λ (is : List (Named ℕ)). Contains is (record { name = h.0; place = q })) flat.inputs h.1) in
      let p_is : s x.0.place ≡ q = ap (λ (n : Named ℕ). n.place) x.2 in
      let home : o q ≡ x.0.place = ap o (sym p_is) ∙ input_home d net size clocked o s single flat x.0.name x.0.place x.1 in
      sym (closed.input (record { place = o q; shift = j; weight = v }) at (x.0.name, subst (λ (p : P). Contains d.inputs (record { name = x.0.name; place = p })) (sym home) x.1))
  counts q j w v (WeighsAt.latch {next = next} {name = name} h) at = let x = flat.only (Latch name q next) h in by x.0 x.1 x.2
    where
      by : (x : Equation P) → Contains d.equations x → moved s x ≡ Latch name q next → 1 ≡ v
      by (Latch own out to) c is =
          let out_is : s out ≡ q = cc in
          let home : o q ≡ out = ap o (sym out_is) ∙ latch_home d net size clocked o s single flat own out to c in
          sym (closed.latch (record { place = o q; shift = j; weight = v }) own to at (subst (λ (p : P). Contains d.equations (Latch own p to)) (sym home) c)).0
      by (Gate out fans cover) c is = absurd (cc)
      by (Port out from) c is = absurd (cc)
  counts q j w v (WeighsAt.gate {fanins = fanins} {cover = cover} h) at = let x = flat.only (Gate q fanins cover) h in by x.0 x.1 x.2
    where
      by : (x : Equation P) → Contains d.equations x → moved s x ≡ Gate q fanins cover → 1 + max 1 (length cover.rows) * (length fanins + 1) ≡ v
      by (Gate out fans own) c is =
          let out_is : s out ≡ q = cc in
          let fans_are : map s fans ≡ fanins = cc in
          let cover_is : own ≡ cover = cc in
          let home : o q ≡ out = ap o (sym out_is) ∙ gate_home d net size clocked o s single flat out fans own c in
          let count : length fanins ≡ length fans = ap length (sym fans_are) ∙ length-map fans s in
          let there = subst (λ (p : P). Contains d.equations (Gate p fans own)) (sym home) c in
          ap (λ (n : ℕ). 1 + max 1 (length cover.rows) * (n + 1)) count ∙ ap (λ (z : Cover). 1 + max 1 (length z.rows) * (length fans + 1)) (sym cover_is)
          ∙ sym (closed.gate (record { place = o q; shift = j; weight = v }) fans own at there).0
      by (Latch name out to) c is = absurd (cc)
      by (Port out from) c is = absurd (cc)

  abbrev put : Weighed ℕ → Weighed P
  put x = record { place = o x.place; shift = x.shift; weight = x.weight }

  pub closed_bounds : (cap : ℕ) → IsOver net (map (λ (x : Named ℕ). x.place) net.outputs) cap → cap < sum_by (λ x. x.weight) spots
  closed_bounds cap over =
      let apart = pairs_map put (λ x y. (x.place ≡ y.place) → (x.shift ≡ y.shift) → ⊥) (λ x y. ((x.place ≡ y.place) × (x.shift ≡ y.shift)) → ⊥) over.places
      (λ x y hx hy no same. no (sym (flat.back x.place (below x hx)) ∙ ap s same.0 ∙ flat.back y.place (below y hy)) same.1) over.distinct in
      let l : sum_by (λ (x : Weighed P). x.weight) (map put over.places) ≤ sum_by (λ (x : Weighed P). x.weight) spots =
      sum_within (λ (x : Weighed P). x.weight) (λ x y. (x.place ≡ y.place) × (x.shift ≡ y.shift)) (λ x y z l r. (l.0 ∙ sym r.0, l.1 ∙ sym r.1)) (map put over.places) spots apart found in
      let e : sum_by (λ (x : Weighed P). x.weight) (map put over.places) ≡ sum_by (λ (x : Weighed ℕ). x.weight) over.places = sum_map put (λ (x : Weighed ℕ). x.weight) (λ (x : Weighed P). x.weight) over.places (λ x. refl) in
      let t = over.total in
      omega (arith, l, e, t)
    where
      below : (x : Weighed ℕ) → Contains over.places x → x.place < size
      below x h = let m = over.met x h in low d net size clocked o s flat x.place (visited net (output_at m.0 m.1).0 m.2)

      found : (y : Weighed P) → Contains (map put over.places) y → (z : Weighed P) × Contains spots z × ((y.place ≡ z.place) × (y.shift ≡ z.shift)) × (y.weight ≡ z.weight)
      found y h =
          let x = Contains-map_from put over.places y h in
          let m = over.met x.0 x.1 in
          let at = visit_stands m.2 (output_at m.0 m.1).1 in
          subst (λ (t : Weighed P). (z : Weighed P) × Contains spots z × ((t.place ≡ z.place) × (t.shift ≡ z.shift)) × (t.weight ≡ z.weight)) x.2
          (record { place = o x.0.place; shift = x.0.shift; weight = at.0 }, at.1, (refl, refl), counts x.0.place x.0.shift x.0.weight at.0 (over.weighed x.0 x.1) at.1)
