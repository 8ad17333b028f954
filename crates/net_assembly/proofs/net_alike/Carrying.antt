-- What is carried by a renumbering.
use Rattle.std.proofs.Common.{◌≡◌, ◌∙◌, ℕ, ◌+◌, ◌*◌, ◌<◌, max, Bool, List, [], ◌∷◌, map, length, refl, sym, ap, ap₂, subst, arith, inl, inr}
use Rattle.std.specs.Prelude.{◌↔◌}
use Rattle.std.specs.List.{AllPairs, Contains, sum_by}
use Rattle.std.proofs.lemmas.List.{length-map}
use Rattle.std.proofs.lemmas.List.Elements.{All-map, All-contains}
use Rattle.std.proofs.lemmas.List.Kept.{AllPairs-cons}
use Rattle.std.proofs.lemmas.List.Sums.{sum_by-cons}
use Rattle.circuit_theory.specs.Cover.{Cover, cover_value}
use Rattle.circuit_theory.specs.Circuit.{Circuit, Equation, Gate, Latch, Port, Named, IsLatch, IsSource, Reads, Reaches, InCone, Holds, Carries}
use Rattle.circuit_theory.specs.Joined.{moved, moved_name}
use Rattle.circuit_theory.specs.Depth.{LatchReads, LatchPath, HasCycle, LatchChain, ChainFrom, IsDepth, HasNoDepth}
use Rattle.circuit_theory.specs.Places.{IsPlace}
use Rattle.circuit_theory.specs.Run.{IsRun, Marked, NoneEnabled}
use Rattle.circuit_theory.specs.Sizes.{Visits, WeighsAt, Weighed, IsWeight, IsOver}
use Rattle.circuit_theory.proofs.Lists.{Contains-head, Contains-tail, Contains-cases, Contains-map, Contains-map_from, All-from_each, map-map}
use Rattle.circuit_theory.proofs.Sums.{AllPairs-head, AllPairs-tail}
use Rattle.circuit_laws.proofs.Counting.{pairs_map}
use Rattle.net_assembly.specs.net_alike.Renumbered.{latch_rows, AreRenumbered, IsReadBy}
use Rattle.net_assembly.specs.net_alike.Laws.{WeightIsCarried, DepthIsCarried, EdgesAreCarried, ReadsAreCarried, RunsAreCarried}

pub map_fixed : {X : Type 0} (f : X → X) (xs : List X) → ((x : X) → Contains xs x → f x ≡ x) → map f xs ≡ xs
map_fixed f [] h = refl
map_fixed {X} f (x ∷ xs) h = ap₂ (λ (y : X) (ys : List X). y ∷ ys) (h x (Contains-head x xs)) (map_fixed f xs (λ y k. h y (Contains-tail x y xs k)))

pub sum_map : {X Y : Type 0} (f : X → Y) (w : X → ℕ) (v : Y → ℕ) (xs : List X) → ((x : X) → v (f x) ≡ w x) → sum_by v (map f xs) ≡ sum_by w xs
sum_map f w v [] same = refl
sum_map f w v (x ∷ xs) same =
    sum_by-cons v (f x) (map f xs) ∙ ap₂ (λ (m n : ℕ). m + n) (same x) (sum_map f w v xs same) ∙ sym (sum_by-cons w x xs)

pub latch_row_from : {P : Type 0} (es : List (Equation P)) (e : Equation P) → Contains (latch_rows es) e → Contains es e
latch_row_from [] e h = h
latch_row_from (Gate out fanins cover ∷ es) e h = Contains-tail (Gate out fanins cover) e es (latch_row_from es e h)
latch_row_from (Port out from ∷ es) e h = Contains-tail (Port out from) e es (latch_row_from es e h)
latch_row_from {P} (Latch name out next ∷ es) e h =
    elim (Contains-cases (Latch name out next) e (latch_rows es) h) as (λ c. Contains (Latch name out next ∷ es) e) [
      | inl same ↦ subst (Contains (Latch name out next ∷ es)) same (Contains-head (Latch name out next) es)
      | inr k ↦ Contains-tail (Latch name out next) e es (latch_row_from es e k)
    ]

-- one way: inputs, outputs and equations of the first are those of the second
pub record IsCarried {P Q : Type 0} (a : Circuit P) (b : Circuit Q) (to : P → Q) : Type 0 where
  pub input : (name : List ℕ) (p : P) → Contains a.inputs (record { name = name; place = p }) → Contains b.inputs (record { name = name; place = to p })
  pub output : (name : List ℕ) (p : P) → Contains a.outputs (record { name = name; place = p }) → Contains b.outputs (record { name = name; place = to p })
  pub equation : (e : Equation P) → Contains a.equations e → Contains b.equations (moved to e)

module _ {P Q : Type 0} (a : Circuit P) (b : Circuit Q) (to : P → Q) (c : IsCarried a b to) where
  reads : {p q : P} → Reads a p q → Reads b (to p) (to q)
  reads (Reads.by_gate {out = out} {q = q} {fanins = fanins} {cover = cover} h k) = Reads.by_gate {fanins = map to fanins} {cover = cover} (c.equation (Gate out fanins cover) h) (Contains-map to fanins q k)
  reads (Reads.by_port {out = out} {from = from} h) = Reads.by_port (c.equation (Port out from) h)

  reaches : {p q : P} → Reaches a p q → Reaches b (to p) (to q)
  reaches Reaches.here = Reaches.here
  reaches (Reaches.there r rest) = Reaches.there (reads r) (reaches rest)

  latch : {name : List ℕ} {u next : P} → IsLatch a name u next → IsLatch b name (to u) (to next)
  latch {name} {u} {next} h = c.equation (Latch name u next) h

  source : {p : P} → IsSource a p → IsSource b (to p)
  source {p} (inl i) = inl (i.0, c.input i.0 p i.1)
  source {p} (inr l) = inr (l.0, to l.1, c.equation (Latch l.0 p l.1) l.2)

  cone : {p u : P} → InCone a p u → InCone b (to p) (to u)
  cone h = (source h.0, reaches h.1)

  pub edge : (removed : List (List ℕ)) {u v : P} → LatchReads a NoneEnabled removed u v → LatchReads b NoneEnabled removed (to u) (to v)
  edge removed r = record {
    name = r.name;
    next = to r.next;
    latch = latch r.latch;
    kept = r.kept;
    other_name = r.other_name;
    other_next = to r.other_next;
    other = latch r.other;
    other_kept = r.other_kept;
    cone = cone r.cone;
    no_self_edge = λ e. absurd e;
  }

  path : (removed : List (List ℕ)) {u v : P} → LatchPath a NoneEnabled removed u v → LatchPath b NoneEnabled removed (to u) (to v)
  path removed (LatchPath.edge r) = LatchPath.edge (edge removed r)
  path removed (LatchPath.step r rest) = LatchPath.step (edge removed r) (path removed rest)

  pub cycle : (removed : List (List ℕ)) → HasCycle a NoneEnabled removed → HasCycle b NoneEnabled removed
  cycle removed h = (to h.0, path removed h.1)

  chain : {u : P} {n : ℕ} → LatchChain a NoneEnabled u n → LatchChain b NoneEnabled (to u) n
  chain (LatchChain.last {name = name} h) = LatchChain.last {name = name} (latch {name = name} h)
  chain (LatchChain.more r rest) = LatchChain.more (edge [] r) (chain rest)

  pub chain_from : {p : P} {n : ℕ} → ChainFrom a NoneEnabled p n → ChainFrom b NoneEnabled (to p) n
  chain_from (inl none) = inl none
  chain_from (inr h) = inr (to h.0, cone h.1, chain h.2)

  pub visits : {p : P} {k : ℕ} {q : P} {j : ℕ} → Visits a p k q j → Visits b (to p) k (to q) j
  visits Visits.itself = Visits.itself
  visits (Visits.reads v r) = Visits.reads (visits v) (reads r)
  visits (Visits.back {name = name} v l) = Visits.back {name = name} (visits v) (latch {name = name} l)

  pub weighs : {p : P} {w : ℕ} → WeighsAt a p w → WeighsAt b (to p) w
  weighs (WeighsAt.input {p = p} i) = WeighsAt.input (i.0, c.input i.0 p i.1)
  weighs (WeighsAt.latch {name = name} l) = WeighsAt.latch {name = name} (latch {name = name} l)
  weighs (WeighsAt.gate {p = p} {fanins = fanins} {cover = cover} h) =
      subst (λ (n : ℕ). WeighsAt b (to p) (1 + max 1 (length cover.rows) * (n + 1))) (length-map fanins to) (WeighsAt.gate {fanins = map to fanins} {cover = cover} (c.equation (Gate p fanins cover) h))

  pub read_by : {p : P} → IsReadBy a p → IsReadBy b (to p)
  read_by {p} (IsReadBy.by_gate {out = out} {fanins = fanins} {cover = cover} h k) = IsReadBy.by_gate {fanins = map to fanins} {cover = cover} (c.equation (Gate out fanins cover) h) (Contains-map to fanins p k)
  read_by {p} (IsReadBy.by_port {out = out} h) = IsReadBy.by_port (c.equation (Port out p) h)
  read_by {p} (IsReadBy.by_latch {name = name} {out = out} h) = IsReadBy.by_latch {name = name} {out = to out} (latch {name = name} h)
  read_by {p} (IsReadBy.by_output {name = name} h) = IsReadBy.by_output {name = name} (c.output name p h)

  -- a place of the first is one of the second
  pub place : {p : P} → IsPlace a p → IsPlace b (to p)
  place {p} (IsPlace.input i) = IsPlace.input (i.0, c.input i.0 p i.1)
  place {p} (IsPlace.output {name = name} h) = IsPlace.output {name = name} (c.output name p h)
  place (IsPlace.driven {e = Gate out fanins cover} h same) = IsPlace.driven (c.equation (Gate out fanins cover) h) (ap to same)
  place (IsPlace.driven {e = Latch name out next} h same) = IsPlace.driven (c.equation (Latch name out next) h) (ap to same)
  place (IsPlace.driven {e = Port out from} h same) = IsPlace.driven (c.equation (Port out from) h) (ap to same)
  place {p} (IsPlace.fanin {out = out} {fanins = fanins} {cover = cover} h k) = IsPlace.fanin {fanins = map to fanins} {cover = cover} (c.equation (Gate out fanins cover) h) (Contains-map to fanins p k)
  place {p} (IsPlace.next {name = name} {out = out} h) = IsPlace.next {name = name} {out = to out} (latch {name = name} h)
  place {p} (IsPlace.from {out = out} h) = IsPlace.from {out = to out} (c.equation (Port out p) h)

  -- the values of a run, and its marks
  holds : (v : Q → Bool) (e : Equation P) → Holds v (moved to e) → Holds (λ p. v (to p)) e
  holds v (Gate out fanins cover) h = h ∙ ap (cover_value cover) (map-map v to fanins)
  holds v (Latch name out next) h = tt
  holds v (Port out from) h = h

  carries : (now later : Q → Bool) (e : Equation P) → Carries now later (moved to e) → Carries (λ p. now (to p)) (λ p. later (to p)) e
  carries now later (Gate out fanins cover) h = tt
  carries now later (Latch name out next) h = h
  carries now later (Port out from) h = tt

  pub run_back : (n : ℕ) (run : ℕ → Q → Bool) → IsRun b n run → IsRun a n (λ t p. run t (to p))
  run_back n run is = record {
    meets = λ t h. All-from_each (Holds (λ p. run t (to p))) a.equations (λ e k. holds (run t) e (All-contains (Holds (run t)) b.equations (moved to e) (is.meets t h) (c.equation e k)));
    carries = λ t h. All-from_each (Carries (λ p. run t (to p)) (λ p. run (t + 1) (to p))) a.equations (λ e k.
        carries (run t) (run (t + 1)) e (All-contains (Carries (run t) (run (t + 1))) b.equations (moved to e) (is.carries t h) (c.equation e k)));
  }

  pub mark : (left : ℕ → P → Bool) (right : ℕ → Q → Bool) {t : ℕ} {p : P} → Marked a NoneEnabled left t p → Marked b NoneEnabled right t (to p)
  mark left right (Marked.input {p = p} i) = Marked.input (i.0, c.input i.0 p i.1)
  mark left right (Marked.gate {t = t} {out = out} {fanins = fanins} {cover = cover} h each) = Marked.gate {fanins = map to fanins} {cover = cover} (c.equation (Gate out fanins cover) h) (by (λ p k. mark left right (each p k)))
    where
      by : ((p : P) → Contains fanins p → Marked b NoneEnabled right t (to p)) → (q : Q) → Contains (map to fanins) q → Marked b NoneEnabled right t q
      by of q k = let found = Contains-map_from to fanins q k in subst (λ (x : Q). Marked b NoneEnabled right t x) found.2 (of found.0 found.1)
  mark left right (Marked.port {out = out} {from = from} h rest) = Marked.port (c.equation (Port out from) h) (mark left right rest)
  mark left right (Marked.plain {name = name} {out = out} {next = next} h free rest) = Marked.plain {name = name} (latch {name = name} h) (λ e. e) (mark left right rest)
  mark left right (Marked.loads h on others loads) = absurd on
  mark left right (Marked.keeps h on others kept) = absurd on

-- what is visited from a place is a place
pub visited : {P : Type 0} (c : Circuit P) {p : P} {k : ℕ} {q : P} {j : ℕ} → IsPlace c p → Visits c p k q j → IsPlace c q
visited c at Visits.itself = at
visited c at (Visits.reads v (Reads.by_gate {fanins = fanins} {cover = cover} h k)) = IsPlace.fanin {fanins = fanins} {cover = cover} h k
visited c at (Visits.reads v (Reads.by_port {out = out} h)) = IsPlace.from {out = out} h
visited c at (Visits.back {q = q} {name = name} v l) = IsPlace.next {name = name} {out = q} l

module _ {P Q : Type 0} (a : Circuit P) (b : Circuit Q) (to : P → Q) (back : Q → P) (r : AreRenumbered a b to back) where
  pub forth : IsCarried a b to
  forth = record {
    input = λ name p h. subst (λ (is : List (Named Q)). Contains is (record { name = name; place = to p })) r.inputs (Contains-map (moved_name to) a.inputs (record { name = name; place = p }) h);
    output = λ name p h. subst (λ (is : List (Named Q)). Contains is (record { name = name; place = to p })) r.outputs (Contains-map (moved_name to) a.outputs (record { name = name; place = p }) h);
    equation = r.there;
  }

  -- each place of a list stays where it is
  fans : (out : P) (fanins : List P) (cover : Cover) → Contains a.equations (Gate out fanins cover) → map back (map to fanins) ≡ fanins
  fans out fanins cover h = map-map back to fanins ∙ map_fixed (λ p. back (to p)) fanins (λ p k. r.there_and_back p (IsPlace.fanin {out = out} {fanins = fanins} {cover = cover} h k))

  pub equation_back : (e : Equation P) → Contains a.equations e → moved back (moved to e) ≡ e
  equation_back (Gate out fanins cover) h = ap₂ (λ (p : P) (ps : List P). Gate p ps cover) (r.there_and_back out (IsPlace.driven h refl)) (fans out fanins cover h)
  equation_back (Latch name out next) h = ap₂ (λ (p q : P). Latch name p q) (r.there_and_back out (IsPlace.driven h refl)) (r.there_and_back next (IsPlace.next {name = name} {out = out} h))
  equation_back (Port out from) h = ap₂ (λ (p q : P). Port p q) (r.there_and_back out (IsPlace.driven h refl)) (r.there_and_back from (IsPlace.from {out = out} h))

  -- the other way round
  pub turned : AreRenumbered b a back to
  turned = record {
    inputs = ap (map (moved_name back)) (sym r.inputs) ∙ map-map (moved_name back) (moved_name to) a.inputs
        ∙ map_fixed (λ (i : Named P). moved_name back (moved_name to i)) a.inputs (λ i h. ap (λ (p : P). record { name = i.name; place = p }) (r.there_and_back i.place (IsPlace.input (i.name, h))));
    outputs = ap (map (moved_name back)) (sym r.outputs) ∙ map-map (moved_name back) (moved_name to) a.outputs
        ∙ map_fixed (λ (i : Named P). moved_name back (moved_name to i)) a.outputs (λ i h. ap (λ (p : P). record { name = i.name; place = p }) (r.there_and_back i.place (IsPlace.output {name = i.name} h)));
    latches = ap (map (moved back)) (sym r.latches) ∙ map-map (moved back) (moved to) (latch_rows a.equations)
        ∙ map_fixed (λ (e : Equation P). moved back (moved to e)) (latch_rows a.equations) (λ e h. equation_back e (latch_row_from a.equations e h));
    starts = r.starts_from;
    starts_from = r.starts;
    there = r.from;
    from = r.there;
    there_and_back = r.back_and_there;
    back_and_there = r.there_and_back;
  }

  -- a chain from where a place goes is one from the place
  chain_at : (IsCarried b a back) → (p : P) → IsPlace a p → (n : ℕ) → ChainFrom b NoneEnabled (to p) n → ChainFrom a NoneEnabled p n
  chain_at c p at n h = subst (λ (q : P). ChainFrom a NoneEnabled q n) (r.there_and_back p at) (chain_from b a back c h)

  pub depth_there : (IsCarried b a back) → (p : P) → IsPlace a p → (d : ℕ) → IsDepth a NoneEnabled p d → IsDepth b NoneEnabled (to p) d
  depth_there c p at d h = record { reached = chain_from a b to forth h.reached; greatest = λ n k. h.greatest n (chain_at c p at n k) }

  pub depth_here : (IsCarried b a back) → (p : P) → IsPlace a p → (d : ℕ) → IsDepth b NoneEnabled (to p) d → IsDepth a NoneEnabled p d
  depth_here c p at d h = record { reached = chain_at c p at d h.reached; greatest = λ n k. h.greatest n (chain_from a b to forth k) }

  abbrev put : Weighed P → Weighed Q
  put x = record { place = to x.place; shift = x.shift; weight = x.weight }

  module _ (outputs : List P) (at : (p : P) → Contains outputs p → IsPlace a p) where
    met_place : (q : P) (j : ℕ) → ((p : P) × Contains outputs p × Visits a p 0 q j) → IsPlace a q
    met_place q j h = visited a (at h.0 h.1) h.2

    pub over_there : (cap : ℕ) → IsOver a outputs cap → IsOver b (map to outputs) cap
    over_there cap o = record {
      places = map put o.places;
      distinct = pairs_map put (λ x y. (x.place ≡ y.place) → (x.shift ≡ y.shift) → ⊥) (λ x y. (x.place ≡ y.place) → (x.shift ≡ y.shift) → ⊥) o.places
          (λ x y hx hy apart same shift. apart (sym (r.there_and_back x.place (met_place x.place x.shift (o.met x hx))) ∙ ap back same ∙ r.there_and_back y.place (met_place y.place y.shift (o.met y hy))) shift) o.distinct;
      weighed = λ y h. (let f = Contains-map_from put o.places y h in subst (λ (z : Weighed Q). WeighsAt b z.place z.weight) f.2 (weighs a b to forth (o.weighed f.0 f.1)));
      met = λ y h. (let f = Contains-map_from put o.places y h in let m = o.met f.0 f.1 in
          subst (λ (z : Weighed Q). (p : Q) × Contains (map to outputs) p × Visits b p 0 z.place z.shift) f.2 (to m.0, Contains-map to outputs m.0 m.1, visits a b to forth m.2));
      total = subst (λ (n : ℕ). cap < n) (sym (sum_map put (λ (x : Weighed P). x.weight) (λ (x : Weighed Q). x.weight) o.places (λ x. refl))) o.total;
    }

    pub weight_there : (IsCarried b a back) → (w : ℕ) → IsWeight a outputs w → IsWeight b (map to outputs) w
    weight_there c w o = record {
      places = map put o.places;
      distinct = pairs_map put (λ x y. (x.place ≡ y.place) → (x.shift ≡ y.shift) → ⊥) (λ x y. (x.place ≡ y.place) → (x.shift ≡ y.shift) → ⊥) o.places
          (λ x y hx hy apart same shift. apart (sym (own x hx) ∙ ap back same ∙ own y hy) shift) o.distinct;
      weighed = λ y h. (let f = Contains-map_from put o.places y h in subst (λ (z : Weighed Q). WeighsAt b z.place z.weight) f.2 (weighs a b to forth (o.weighed f.0 f.1)));
      met = λ q j. (met_forth q j, met_back q j);
      total = sum_map put (λ (x : Weighed P). x.weight) (λ (x : Weighed Q). x.weight) o.places (λ x. refl) ∙ o.total;
    }
      where
        own : (x : Weighed P) → Contains o.places x → back (to x.place) ≡ x.place
        own x h = r.there_and_back x.place (met_place x.place x.shift ((o.met x.place x.shift).0 (x.weight, h)))

        met_forth : (q : Q) (j : ℕ) → ((v : ℕ) × Contains (map put o.places) (record { place = q; shift = j; weight = v })) → (p : Q) × Contains (map to outputs) p × Visits b p 0 q j
        met_forth q j h =
            let f = Contains-map_from put o.places (record { place = q; shift = j; weight = h.0 }) h.1 in
            let m = (o.met f.0.place f.0.shift).0 (f.0.weight, f.1) in
            subst (λ (z : Weighed Q). (p : Q) × Contains (map to outputs) p × Visits b p 0 z.place z.shift) f.2 (to m.0, Contains-map to outputs m.0 m.1, visits a b to forth m.2)

        met_back : (q : Q) (j : ℕ) → ((p : Q) × Contains (map to outputs) p × Visits b p 0 q j) → (v : ℕ) × Contains (map put o.places) (record { place = q; shift = j; weight = v })
        met_back q j h =
            let f = Contains-map_from to outputs h.0 h.1 in
            let start : back h.0 ≡ f.0 = ap back (sym f.2) ∙ r.there_and_back f.0 (at f.0 f.1) in
            let here : Visits a f.0 0 (back q) j = subst (λ (p : P). Visits a p 0 (back q) j) start (visits b a back c h.2) in
            let found = (o.met (back q) j).1 (f.0, f.1, here) in
            let q_there : IsPlace b q = visited b (subst (IsPlace b) f.2 (place a b to forth (at f.0 f.1))) h.2 in
            (found.0, subst (λ (x : Q). Contains (map put o.places) (record { place = x; shift = j; weight = found.0 })) (r.back_and_there q q_there) (Contains-map put o.places (record { place = back q; shift = j; weight = found.0 }) found.1))

  -- the outputs, there and back
  pub outputs_back : (outputs : List P) → ((p : P) → Contains outputs p → IsPlace a p) → map back (map to outputs) ≡ outputs
  outputs_back outputs at = map-map back to outputs ∙ map_fixed (λ p. back (to p)) outputs (λ p h. r.there_and_back p (at p h))

  pub outputs_there : (outputs : List P) → ((p : P) → Contains outputs p → IsPlace a p) → (q : Q) → Contains (map to outputs) q → IsPlace b q
  outputs_there outputs at q h = let f = Contains-map_from to outputs q h in subst (IsPlace b) f.2 (place a b to forth (at f.0 f.1))

module _ {P Q : Type 0} (a : Circuit P) (b : Circuit Q) (to : P → Q) (back : Q → P) (r : AreRenumbered a b to back) where
  abbrev there : IsCarried a b to
  there = forth a b to back r

  abbrev here : IsCarried b a back
  here = forth b a back to (turned a b to back r)

  pub weight_carried : (outputs : List P) → ((p : P) → Contains outputs p → IsPlace a p) → (w : ℕ) → IsWeight a outputs w ↔ IsWeight b (map to outputs) w
  weight_carried outputs at w = (
    weight_there a b to back r outputs at here w,
    λ h. subst (λ (os : List P). IsWeight a os w) (outputs_back a b to back r outputs at)
        (weight_there b a back to (turned a b to back r) (map to outputs) (outputs_there a b to back r outputs at) there w h),
  )

  pub over_carried : (outputs : List P) → ((p : P) → Contains outputs p → IsPlace a p) → (cap : ℕ) → IsOver a outputs cap ↔ IsOver b (map to outputs) cap
  over_carried outputs at cap = (
    over_there a b to back r outputs at cap,
    λ h. subst (λ (os : List P). IsOver a os cap) (outputs_back a b to back r outputs at)
        (over_there b a back to (turned a b to back r) (map to outputs) (outputs_there a b to back r outputs at) cap h),
  )

  pub depth_carried : (p : P) → IsPlace a p → (d : ℕ) → IsDepth a NoneEnabled p d ↔ IsDepth b NoneEnabled (to p) d
  depth_carried p at d = (depth_there a b to back r here p at d, depth_here a b to back r here p at d)

  pub no_depth_carried : (p : P) → IsPlace a p → HasNoDepth a NoneEnabled p ↔ HasNoDepth b NoneEnabled (to p)
  no_depth_carried p at = ((λ h n. chain_from a b to there (h n)), (λ h n. subst (λ (q : P). ChainFrom a NoneEnabled q n) (r.there_and_back p at) (chain_from b a back here (h n))))

  pub edge_carried : (removed : List (List ℕ)) (u v : P) → IsPlace a u → IsPlace a v → LatchReads a NoneEnabled removed u v ↔ LatchReads b NoneEnabled removed (to u) (to v)
  edge_carried removed u v at_u at_v = (
    edge a b to there removed,
    λ h. subst (λ (x : P). LatchReads a NoneEnabled removed x v) (r.there_and_back u at_u) (subst (λ (y : P). LatchReads a NoneEnabled removed (back (to u)) y) (r.there_and_back v at_v) (edge b a back here removed h)),
  )

  pub cycle_carried : (removed : List (List ℕ)) → HasCycle a NoneEnabled removed ↔ HasCycle b NoneEnabled removed
  cycle_carried removed = (cycle a b to there removed, cycle b a back here removed)

  pub read_carried : (p : P) → IsPlace a p → IsReadBy a p ↔ IsReadBy b (to p)
  read_carried p at = (read_by a b to there, λ h. subst (IsReadBy a) (r.there_and_back p at) (read_by b a back here h))

  pub run_carried : (n : ℕ) (run : ℕ → Q → Bool) → IsRun b n run → IsRun a n (λ t p. run t (to p))
  run_carried n run is = run_back a b to there n run is

  pub mark_carried : (run : ℕ → Q → Bool) (t : ℕ) (p : P) → IsPlace a p → Marked a NoneEnabled (λ t p. run t (to p)) t p ↔ Marked b NoneEnabled run t (to p)
  mark_carried run t p at = (
    mark a b to there (λ t p. run t (to p)) run,
    λ h. subst (λ (q : P). Marked a NoneEnabled (λ t p. run t (to p)) t q) (r.there_and_back p at) (mark b a back here run (λ t p. run t (to p)) h),
  )

pub weight_is_carried : WeightIsCarried
weight_is_carried a b to back r outputs at w cap = (weight_carried a b to back r outputs at w, over_carried a b to back r outputs at cap)

pub depth_is_carried : DepthIsCarried
depth_is_carried a b to back r p at = (depth_carried a b to back r p at, no_depth_carried a b to back r p at)

pub edges_are_carried : EdgesAreCarried
edges_are_carried a b to back r removed = (edge_carried a b to back r removed, cycle_carried a b to back r removed)

pub reads_are_carried : ReadsAreCarried
reads_are_carried a b to back r = read_carried a b to back r

pub runs_are_carried : RunsAreCarried
runs_are_carried a b to back r n run is = (run_carried a b to back r n run is, mark_carried a b to back r run)
