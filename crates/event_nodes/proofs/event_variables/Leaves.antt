-- The leaves of event trees are the inputs that an unfolding visits.
use Rattle.std.proofs.Common.{◌≡◌, ◌∙◌, ℕ, Bool, false, List, [], ◌∷◌, Option, Some, None, refl, sym, ap, subst, arith, inl, inr}
use Rattle.std.specs.Prelude.{◌⊎◌}
use Rattle.std.specs.List.{Contains}
use Rattle.circuit_theory.specs.Circuit.{Equation, Gate, Latch, Port, IsInput, IsLatch, IsSingleDriven, Reads, out_of}
use Rattle.circuit_theory.specs.Query.{Variable, HasLeaf, HasLeafIn}
use Rattle.circuit_theory.specs.Tree.{Tree, Trees, Leaf, Fixed, Branch, Cons, IsInputNumber}
use Rattle.circuit_theory.proofs.Inputs.{beside_is_input}
use Rattle.circuit_theory.proofs.Lists.{Contains-head, Contains-tail, Contains-cases}
use Rattle.circuit_theory.specs.Frame.{EventSide, NotPut, EventUnfolds, EventUnfoldsAll}
use Rattle.circuit_theory.specs.EventSizes.{Start, IsOther, EventVisits}

-- the latch that is put
abbrev pub put_latch : {P : Type 0} → Option (P × Bool) → Option P
put_latch None = None
put_latch (Some x) = Some x.0

module _ {P : Type 0} (side : EventSide P) (on : P → Type 0) (starts : List (Start P)) where
  -- the leaf is an input that is visited
  pub record IsVisitedLeaf (y : Variable (List ℕ)) : Type 0 where
    pub out : Option P
    pub place : P
    pub visit : EventVisits side on starts out place y.at
    pub input : IsInputNumber side.circuit side.order place y.input

  put_other : (put : Option (P × Bool)) (q : P) → NotPut put q → IsOther (put_latch put) q
  put_other None q h = tt
  put_other (Some x) q h = h

  mutual
    -- the leaves of a place's tree are visited where the place is
    pub leaf_visited : {put : Option (P × Bool)} {p : P} {node : List ℕ} {tree : Tree (List ℕ)} → EventUnfolds side on put p node tree → EventVisits side on starts (put_latch put) p node → (y : Variable (List ℕ)) → HasLeaf y tree → IsVisitedLeaf y
    leaf_visited (EventUnfolds.input {put = put} {p = p} h) visit y HasLeaf.leaf = record { out = put_latch put; place = p; visit = visit; input = h }
    leaf_visited (EventUnfolds.gate {fanins = fanins} stands all) visit y (HasLeaf.inside h) = leaves_visited all (λ q k. EventVisits.reads visit (Reads.by_gate stands k)) y h
    leaf_visited (EventUnfolds.port stands rest) visit y h = leaf_visited rest (EventVisits.reads visit (Reads.by_port stands)) y h
    leaf_visited (EventUnfolds.plain {put = put} {u = u} latch free off rest) visit y h = leaf_visited rest (EventVisits.plain visit (put_other put u free) latch off) y h
    leaf_visited (EventUnfolds.held {put = put} {u = u} latch free enabled rest) visit y h = leaf_visited rest (EventVisits.held visit (put_other put u free) latch enabled) y h
    leaf_visited (EventUnfolds.fixed {u = u} {bit = bit} {node = node}) visit y h = elim h [ ]

    leaves_visited : {put : Option (P × Bool)} {ps : List P} {node : List ℕ} {trees : Trees (List ℕ)} → EventUnfoldsAll side on put ps node trees → ((q : P) → Contains ps q → EventVisits side on starts (put_latch put) q node) → (y : Variable (List ℕ)) → HasLeafIn y trees → IsVisitedLeaf y
    leaves_visited EventUnfoldsAll.none each y h = elim h [ ]
    leaves_visited (EventUnfoldsAll.more {p = p} {ps = ps} first rest) each y (HasLeafIn.first h) = leaf_visited first (each p (Contains-head p ps)) y h
    leaves_visited (EventUnfoldsAll.more {p = p} {ps = ps} first rest) each y (HasLeafIn.later h) = leaves_visited rest (λ q k. each q (Contains-tail p q ps k)) y h

module _ {P : Type 0} (side : EventSide P) (on : P → Type 0) (single : IsSingleDriven side.circuit) (one_number : (p : P) (i j : ℕ) → IsInputNumber side.circuit side.order p i → IsInputNumber side.circuit side.order p j → i ≡ j) where
  -- what an unfolding says of the equation that drives the place; the put latch is its bit
  abbrev Says : Option (P × Bool) → P → List ℕ → Tree (List ℕ) → Equation P → Type 0
  Says put p node tree (Gate out fanins cover) = ((trees : Trees (List ℕ)) × EventUnfoldsAll side on put fanins node trees × (tree ≡ Branch cover trees))
  Says put p node tree (Latch name out next) =
      (NotPut put p × (on p → ⊥) × EventUnfolds side on None next (side.class p ∷ node) tree)
      ⊎ ((NotPut put p × on p × EventUnfolds side on (Some (p, false)) next (side.class p ∷ node) tree) ⊎ (put_latch put ≡ Some p))
  Says put p node tree (Port out from) = EventUnfolds side on put from node tree

  -- the put place is a latch
  abbrev pub PutIsLatch : Option (P × Bool) → Type 0
  PutIsLatch None = Unit {0}
  PutIsLatch (Some x) = (name : List ℕ) × (next : P) × IsLatch side.circuit name x.0 next

  says : {put : Option (P × Bool)} {p : P} {node : List ℕ} {tree : Tree (List ℕ)} → PutIsLatch put → EventUnfolds side on put p node tree → (e : Equation P) → Contains side.circuit.equations e → out_of e ≡ p → Says put p node tree e
  says at (EventUnfolds.input {p = p} {i = i} h) e k q = absurd (single.no_input e k (subst (IsInput side.circuit) (sym q) (beside_is_input side.circuit.inputs side.order p i h)))
  says at (EventUnfolds.gate {put = put} {out = out} {fanins = fanins} {cover = cover} {node = node} {trees = trees} eq each) e k q =
      subst (Says put out node (Branch cover trees)) (single.one (Gate out fanins cover) e eq k (sym q)) (trees, each, refl)
  says at (EventUnfolds.port {put = put} {out = out} {from = from} {node = node} {tree = tree} eq rest) e k q = subst (Says put out node tree) (single.one (Port out from) e eq k (sym q)) rest
  says at (EventUnfolds.plain {put = put} {name = name} {u = u} {next = next} {node = node} {tree = tree} latch free off rest) e k q =
      subst (Says put u node tree) (single.one (Latch name u next) e latch k (sym q)) (inl (free, off, rest))
  says at (EventUnfolds.held {put = put} {name = name} {u = u} {next = next} {node = node} {tree = tree} latch free enabled rest) e k q =
      subst (Says put u node tree) (single.one (Latch name u next) e latch k (sym q)) (inr (inl (free, enabled, rest)))
  says at (EventUnfolds.fixed {u = u} {bit = bit} {node = node}) e k q =
      subst (Says (Some (u, bit)) u node (Fixed bit)) (single.one (Latch at.0 u at.1) e at.2 k (sym q)) (inr (inr refl))

  at_input : {put : Option (P × Bool)} {p : P} {node : List ℕ} {r : Tree (List ℕ)} → PutIsLatch put → (i : ℕ) → IsInputNumber side.circuit side.order p i → EventUnfolds side on put p node r → Leaf i node ≡ r
  at_input at i h (EventUnfolds.input {p = p} {node = node} {i = j} g) = ap (λ m. Leaf m node) (one_number p i j h g)
  at_input at i h (EventUnfolds.gate {out = p} {fanins = fanins} {cover = cover} eq each) = absurd (single.no_input (Gate p fanins cover) eq (beside_is_input side.circuit.inputs side.order p i h))
  at_input at i h (EventUnfolds.port {out = p} {from = from} eq rest) = absurd (single.no_input (Port p from) eq (beside_is_input side.circuit.inputs side.order p i h))
  at_input at i h (EventUnfolds.plain {name = name} {u = p} {next = next} latch free off rest) = absurd (single.no_input (Latch name p next) latch (beside_is_input side.circuit.inputs side.order p i h))
  at_input at i h (EventUnfolds.held {name = name} {u = p} {next = next} latch free enabled rest) = absurd (single.no_input (Latch name p next) latch (beside_is_input side.circuit.inputs side.order p i h))
  at_input at i h (EventUnfolds.fixed {u = p}) = absurd (single.no_input (Latch at.0 p at.1) at.2 (beside_is_input side.circuit.inputs side.order p i h))

  -- a place whose tree there has no other leaves than the whole
  pub record IsPart (whole : Tree (List ℕ)) (out : Option P) (q : P) (node : List ℕ) : Type 0 where
    pub put : Option (P × Bool)
    pub fits : put_latch put ≡ out
    pub latch : PutIsLatch put
    pub tree : Tree (List ℕ)
    pub unfolds : EventUnfolds side on put q node tree
    pub leaves : (y : Variable (List ℕ)) → HasLeaf y tree → HasLeaf y whole

  record IsTreeIn (put : Option (P × Bool)) (q : P) (node : List ℕ) (trees : Trees (List ℕ)) : Type 0 where
    pub tree : Tree (List ℕ)
    pub unfolds : EventUnfolds side on put q node tree
    pub leaves : (y : Variable (List ℕ)) → HasLeaf y tree → HasLeafIn y trees

  tree_in : {put : Option (P × Bool)} {ps : List P} {node : List ℕ} {trees : Trees (List ℕ)} → EventUnfoldsAll side on put ps node trees → (q : P) → Contains ps q → IsTreeIn put q node trees
  tree_in EventUnfoldsAll.none q h = absurd (nothing q h)
    where
      nothing : (q : P) → Contains [] q → ⊥
      nothing q h = omega (arith, h.1)
  tree_in {put} {ps} {node} {trees} (EventUnfoldsAll.more {p = p} {ps = rest_of} {tree = tree} {trees = others} first rest) q h = go (Contains-cases p q rest_of h) (λ k. tree_in rest q k)
    where
      go : (p ≡ q) ⊎ Contains rest_of q → (Contains rest_of q → IsTreeIn put q node others) → IsTreeIn put q node (Cons tree others)
      go (inl same) later = subst (λ (r : P). IsTreeIn put r node (Cons tree others)) same (record { tree = tree; unfolds = first; leaves = λ y l. HasLeafIn.first l })
      go (inr k) later = let t = later k in record { tree = t.tree; unfolds = t.unfolds; leaves = λ y l. HasLeafIn.later (t.leaves y l) }

  some_same : (a b : P) → ◌≡◌ {A = Option P} (Some a) (Some b) → a ≡ b
  some_same a b e = cc

  -- what is visited from a start has no other leaves than the start's own tree
  pub visited_part : (x : Start P) (whole : Tree (List ℕ)) → IsPart whole x.left_out x.place [] → {out : Option P} {q : P} {node : List ℕ} → EventVisits side on (x ∷ []) out q node → IsPart whole out q node
  visited_part x whole own (EventVisits.start {s = s} h) = go (Contains-cases x s [] h)
    where
      go : (x ≡ s) ⊎ Contains [] s → IsPart whole s.left_out s.place []
      go (inl same) = subst (λ (z : Start P). IsPart whole z.left_out z.place []) same own
      go (inr none) = absurd (nothing none)
        where
          nothing : Contains [] s → ⊥
          nothing k = omega (arith, k.1)
  visited_part x whole own (EventVisits.reads {out = out} {q = q} {r = r} {node = node} visit read) = go (visited_part x whole own visit) read
    where
      go : IsPart whole out q node → Reads side.circuit q r → IsPart whole out r node
      go k (Reads.by_gate {fanins = fanins} {cover = cover} eq member) =
          let s = says k.latch k.unfolds (Gate q fanins cover) eq refl in
          let t = tree_in s.1 r member in
          record { put = k.put; fits = k.fits; latch = k.latch; tree = t.tree; unfolds = t.unfolds; leaves = λ y l. k.leaves y (subst (HasLeaf y) (sym s.2) (HasLeaf.inside (t.leaves y l))) }
      go k (Reads.by_port {from = from} eq) = record { put = k.put; fits = k.fits; latch = k.latch; tree = k.tree; unfolds = says k.latch k.unfolds (Port q from) eq refl; leaves = k.leaves }
  visited_part x whole own (EventVisits.plain {out = out} {q = q} {next = next} {node = node} {name = name} visit other latch off) = go (visited_part x whole own visit)
    where
      go : IsPart whole out q node → IsPart whole None next (side.class q ∷ node)
      go k = pick (says k.latch k.unfolds (Latch name q next) latch refl)
        where
          pick : Says k.put q node k.tree (Latch name q next) → IsPart whole None next (side.class q ∷ node)
          pick (inl s) = record { put = None; fits = refl; latch = tt; tree = k.tree; unfolds = s.2; leaves = k.leaves }
          pick (inr (inl s)) = absurd (off s.1)
          pick (inr (inr s)) = absurd (subst (λ (o : Option P). IsOther o q) (sym k.fits ∙ s) other refl)
  visited_part x whole own (EventVisits.held {out = out} {q = q} {next = next} {node = node} {name = name} visit other latch enabled) = go (visited_part x whole own visit)
    where
      go : IsPart whole out q node → IsPart whole (Some q) next (side.class q ∷ node)
      go k = pick (says k.latch k.unfolds (Latch name q next) latch refl)
        where
          pick : Says k.put q node k.tree (Latch name q next) → IsPart whole (Some q) next (side.class q ∷ node)
          pick (inl s) = absurd (s.1 enabled)
          pick (inr (inl s)) = record { put = Some (q, false); fits = refl; latch = (name, next, latch); tree = k.tree; unfolds = s.2; leaves = k.leaves }
          pick (inr (inr s)) = absurd (subst (λ (o : Option P). IsOther o q) (sym k.fits ∙ s) other refl)

  -- so an input that is visited is a leaf of it
  pub part_leaf : (whole : Tree (List ℕ)) (out : Option P) (q : P) (node : List ℕ) → IsPart whole out q node → (i : ℕ) → IsInputNumber side.circuit side.order q i → HasLeaf (record { input = i; at = node }) whole
  part_leaf whole out q node k i h = k.leaves (record { input = i; at = node }) (subst (HasLeaf (record { input = i; at = node })) (at_input k.latch i h k.unfolds) HasLeaf.leaf)
