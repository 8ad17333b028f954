-- The weight of a cone: that of one gate over inputs and latches, and as a renumbering keeps it.
use Rattle.std.proofs.Common.{◌≡◌, ◌∙◌, ◌≢◌, ℕ, ◌+◌, ◌*◌, max, List, [], ◌∷◌, map, length, refl, sym, ap, subst, arith, inl, inr}
use Rattle.std.specs.Prelude.{◌⊎◌}
use Rattle.std.specs.List.{AllPairs, Contains, sum_by}
use Rattle.std.proofs.lemmas.List.Elements.{All-map}
use Rattle.std.proofs.lemmas.List.Kept.{AllPairs-cons}
use Rattle.std.proofs.lemmas.List.Sums.{sum_by-cons}
use Rattle.circuit_theory.specs.Cover.{Cover}
use Rattle.circuit_theory.specs.Circuit.{Circuit, Gate, Port, Reads, Reaches}
use Rattle.circuit_theory.specs.Places.{IsPlace}
use Rattle.circuit_theory.specs.Sizes.{WeighsAt, Weighed, IsConeWeight}
use Rattle.circuit_theory.proofs.Lists.{Contains-head, Contains-tail, Contains-cases, Contains-map, Contains-map_from, All-from_each}
use Rattle.circuit_theory.proofs.Sums.{AllPairs-head, AllPairs-tail}
use Rattle.net_assembly.specs.net_alike.Renumbered.{AreRenumbered}
use Rattle.circuit_laws.proofs.Counting.{pairs_map}
use Rattle.net_assembly.proofs.net_alike.Carrying.{IsCarried, forth, turned, weighs, place, sum_map}

-- what is reached from a place is a place
reached_place : {P : Type 0} (c : Circuit P) {p q : P} → IsPlace c p → Reaches c p q → IsPlace c q
reached_place c at Reaches.here = at
reached_place c at (Reaches.there (Reads.by_gate {fanins = fanins} {cover = cover} h k) rest) = reached_place c (IsPlace.fanin {fanins = fanins} {cover = cover} h k) rest
reached_place c at (Reaches.there (Reads.by_port {out = out} h) rest) = reached_place c (IsPlace.from {out = out} h) rest

module _ {P Q : Type 0} (a : Circuit P) (b : Circuit Q) (to : P → Q) (c : IsCarried a b to) where
  reads : {p q : P} → Reads a p q → Reads b (to p) (to q)
  reads (Reads.by_gate {out = out} {q = q} {fanins = fanins} {cover = cover} h k) = Reads.by_gate {fanins = map to fanins} {cover = cover} (c.equation (Gate out fanins cover) h) (Contains-map to fanins q k)
  reads (Reads.by_port {out = out} {from = from} h) = Reads.by_port (c.equation (Port out from) h)

  pub reaches : {p q : P} → Reaches a p q → Reaches b (to p) (to q)
  reaches Reaches.here = Reaches.here
  reaches (Reaches.there r rest) = Reaches.there (reads r) (reaches rest)

module _ {P Q : Type 0} (a : Circuit P) (b : Circuit Q) (to : P → Q) (back : Q → P) (r : AreRenumbered a b to back) (next : P) (at : IsPlace a next) where
  abbrev put : Weighed P → Weighed Q
  put x = record { place = to x.place; shift = x.shift; weight = x.weight }

  module _ (w : ℕ) (o : IsConeWeight a next w) where
    reach : (x : Weighed P) → Contains o.places x → Reaches a next x.place
    reach x h = (o.met x.place).0 (x.weight, subst (λ (j : ℕ). Contains o.places (record { place = x.place; shift = j; weight = x.weight })) (o.weighed x h).0 h)

    own : (x : Weighed P) → Contains o.places x → back (to x.place) ≡ x.place
    own x h = r.there_and_back x.place (reached_place a at (reach x h))

    met_forth : (q : Q) → ((v : ℕ) × Contains (map put o.places) (record { place = q; shift = 0; weight = v })) → Reaches b (to next) q
    met_forth q h =
        let f = Contains-map_from put o.places (record { place = q; shift = 0; weight = h.0 }) h.1 in
        subst (λ (z : Weighed Q). Reaches b (to next) z.place) f.2 (reaches a b to (forth a b to back r) (reach f.0 f.1))

    met_back : (q : Q) → Reaches b (to next) q → (v : ℕ) × Contains (map put o.places) (record { place = q; shift = 0; weight = v })
    met_back q h =
        let here : Reaches a next (back q) = subst (λ (p : P). Reaches a p (back q)) (r.there_and_back next at) (reaches b a back (forth b a back to (turned a b to back r)) h) in
        let found = (o.met (back q)).1 here in
        let q_there : IsPlace b q = reached_place b (place a b to (forth a b to back r) at) h in
        (found.0, subst (λ (x : Q). Contains (map put o.places) (record { place = x; shift = 0; weight = found.0 })) (r.back_and_there q q_there) (Contains-map put o.places (record { place = back q; shift = 0; weight = found.0 }) found.1))

    -- a renumbering keeps the weight of a cone
    pub cone_weight_there : IsConeWeight b (to next) w
    cone_weight_there = record {
      places = map put o.places;
      distinct = pairs_map put (λ x y. x.place ≢ y.place) (λ x y. x.place ≢ y.place) o.places (λ x y hx hy apart same. apart (sym (own x hx) ∙ ap back same ∙ own y hy)) o.distinct;
      weighed = λ y h.
          (let f = Contains-map_from put o.places y h in
          subst (λ (z : Weighed Q). (z.shift ≡ 0) × WeighsAt b z.place z.weight) f.2 ((o.weighed f.0 f.1).0, weighs a b to (forth a b to back r) (o.weighed f.0 f.1).1));
      met = λ q. (met_forth q, met_back q);
      total = sum_map put (λ (x : Weighed P). x.weight) (λ (x : Weighed Q). x.weight) o.places (λ x. refl) ∙ o.total;
    }

-- a cone of one gate over inputs and latches
pub record IsOneGate {P : Type 0} (d : Circuit P) (out : P) (fanins : List P) (cover : Cover) : Type 0 where
  pub gate : Contains d.equations (Gate out fanins cover)
  pub distinct : AllPairs (λ p q. p ≢ q) (out ∷ fanins)
  pub leaf : (p : P) → Contains fanins p → WeighsAt d p 1
  pub only : (p q : P) → (p ≡ out) ⊎ Contains fanins p → Reads d p q → (p ≡ out) × Contains fanins q

module _ {P : Type 0} (d : Circuit P) (out : P) (fanins : List P) (cover : Cover) (is : IsOneGate d out fanins cover) where
  abbrev leaf_at : P → Weighed P
  leaf_at p = record { place = p; shift = 0; weight = 1 }

  abbrev own_weight : ℕ
  own_weight = 1 + max 1 (length cover.rows) * (length fanins + 1)

  abbrev gate_at : Weighed P
  gate_at = record { place = out; shift = 0; weight = own_weight }

  stands : {p q : P} → (p ≡ out) ⊎ Contains fanins p → Reaches d p q → (q ≡ out) ⊎ Contains fanins q
  stands h Reaches.here = h
  stands h (Reaches.there {p = p} {q = q} read rest) = stands (inr (is.only p q h read).1) rest

  ones : (ps : List P) → sum_by (λ (x : Weighed P). x.weight) (map leaf_at ps) ≡ length ps
  ones [] = refl
  ones (p ∷ ps) = sum_by-cons (λ (x : Weighed P). x.weight) (leaf_at p) (map leaf_at ps) ∙ (let ih = ones ps in omega arith)

  weighed : (x : Weighed P) → Contains (gate_at ∷ map leaf_at fanins) x → (x.shift ≡ 0) × WeighsAt d x.place x.weight
  weighed x h = by (Contains-cases gate_at x (map leaf_at fanins) h)
    where
      by : (gate_at ≡ x) ⊎ Contains (map leaf_at fanins) x → (x.shift ≡ 0) × WeighsAt d x.place x.weight
      by (inl e) = subst (λ (z : Weighed P). (z.shift ≡ 0) × WeighsAt d z.place z.weight) e (refl, WeighsAt.gate {fanins = fanins} {cover = cover} is.gate)
      by (inr k) = let f = Contains-map_from leaf_at fanins x k in subst (λ (z : Weighed P). (z.shift ≡ 0) × WeighsAt d z.place z.weight) f.2 (refl, is.leaf f.0 f.1)

  met_forth_one : (q : P) → ((v : ℕ) × Contains (gate_at ∷ map leaf_at fanins) (record { place = q; shift = 0; weight = v })) → Reaches d out q
  met_forth_one q h = by (Contains-cases gate_at (record { place = q; shift = 0; weight = h.0 }) (map leaf_at fanins) h.1)
    where
      by : (gate_at ≡ record { place = q; shift = 0; weight = h.0 }) ⊎ Contains (map leaf_at fanins) (record { place = q; shift = 0; weight = h.0 }) → Reaches d out q
      by (inl e) = subst (λ (z : Weighed P). Reaches d out z.place) e Reaches.here
      by (inr k) =
          let f = Contains-map_from leaf_at fanins (record { place = q; shift = 0; weight = h.0 }) k in
          subst (λ (z : Weighed P). Reaches d out z.place) f.2 (Reaches.there (Reads.by_gate {fanins = fanins} {cover = cover} is.gate f.1) Reaches.here)

  met_back_one : (q : P) → Reaches d out q → (v : ℕ) × Contains (gate_at ∷ map leaf_at fanins) (record { place = q; shift = 0; weight = v })
  met_back_one q h = by (stands (inl refl) h)
    where
      by : (q ≡ out) ⊎ Contains fanins q → (v : ℕ) × Contains (gate_at ∷ map leaf_at fanins) (record { place = q; shift = 0; weight = v })
      by (inl e) = subst (λ (z : P). (v : ℕ) × Contains (gate_at ∷ map leaf_at fanins) (record { place = z; shift = 0; weight = v })) (sym e) (own_weight, Contains-head gate_at (map leaf_at fanins))
      by (inr k) = (1, Contains-tail gate_at (leaf_at q) (map leaf_at fanins) (Contains-map leaf_at fanins q k))

  -- weighs the gate, and 1 for each fan-in
  pub one_gate_weight : IsConeWeight d out (own_weight + length fanins)
  one_gate_weight = record {
    places = gate_at ∷ map leaf_at fanins;
    distinct =
        AllPairs-cons (λ x y. x.place ≢ y.place) gate_at (map leaf_at fanins)
        (All-map (λ y. out ≢ y.place) leaf_at fanins (All-from_each (λ p. out ≢ p) fanins (λ p k. AllPairs-head (λ p q. p ≢ q) out fanins is.distinct p k)))
        (pairs_map leaf_at (λ p q. p ≢ q) (λ x y. x.place ≢ y.place) fanins (λ p q hp hq apart. apart) (AllPairs-tail (λ p q. p ≢ q) out fanins is.distinct));
    weighed = weighed;
    met = λ q. (met_forth_one q, met_back_one q);
    total = sum_by-cons (λ (x : Weighed P). x.weight) gate_at (map leaf_at fanins) ∙ ap (λ (n : ℕ). own_weight + n) (ones fanins);
  }
