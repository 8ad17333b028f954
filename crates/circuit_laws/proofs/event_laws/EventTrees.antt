-- Event trees: a place has one at a node, and there is one where latches have a rank that falls from each to what it reads.
use Rattle.std.proofs.Common.{◌≡◌, ◌≢◌, ℕ, zero, suc, ◌<◌, Bool, true, false, List, [], ◌∷◌, length, refl, sym, ◌∙◌, ap, subst, arith, inl, inr, Option, Some, None}
use Rattle.std.specs.Prelude.{◌⊎◌, ◌||◌, not}
use Rattle.std.specs.List.{Contains}
use Rattle.circuit_theory.specs.Circuit.{Equation, Gate, Latch, Port, IsInput, IsLatch, IsSingleDriven, Reads, Reaches, out_of}
use Rattle.circuit_theory.specs.Run.{IsDetermined}
use Rattle.circuit_theory.specs.Tree.{Tree, Trees, Leaf, Fixed, Branch, Nil, Cons, IsInputNumber, tree_value}
use Rattle.circuit_theory.specs.Frame.{EventSide, NotPut, EventUnfolds, EventUnfoldsAll, ConeLatches, ConeOthers, IsEnable}
use Rattle.circuit_theory.proofs.Lists.{Contains-head, Contains-tail}
use Rattle.circuit_theory.proofs.Inputs.{beside_is_input}
use Rattle.circuit_laws.proofs.NetTrees.{has_number}

-- with the put latch or without it
pub put_or_not : {P : Type 0} → ((p q : P) → (p ≡ q) ⊎ (p ≢ q)) → (put : Option (P × Bool)) (p : P) → NotPut put p ⊎ ((bit : Bool) × ◌≡◌ {A = Option (P × Bool)} put (Some (p, bit)))
put_or_not same None p = inl tt
put_or_not {P} same (Some x) p = go (same p x.0)
  where
    go : (p ≡ x.0) ⊎ (p ≢ x.0) → NotPut (Some x) p ⊎ ((bit : Bool) × ◌≡◌ {A = Option (P × Bool)} (Some x) (Some (p, bit)))
    go (inl e) = inr (x.1, ap Some (λ i. (sym e i, x.1)))
    go (inr n) = inl n

module _ {P : Type 0} (side : EventSide P) (enabled : P → Type 0) (same : (p q : P) → (p ≡ q) ⊎ (p ≢ q)) (kind : (v : P) → enabled v ⊎ (enabled v → ⊥))
    (numbered : length side.order ≡ length side.circuit.inputs)
    (det : (name : List ℕ) (u next : P) → IsLatch side.circuit name u next → IsDetermined side.circuit next)
    (rank : P → ℕ) (falls : (u w : P) → ConeOthers side.circuit enabled u w → rank w < rank u) where
  abbrev HasTree : Option (P × Bool) → P → List ℕ → Type 0
  HasTree put p node = (tree : Tree (List ℕ)) × EventUnfolds side enabled put p node tree

  abbrev Low : ℕ → Option (P × Bool) → P → Type 0
  Low R put p = (v : P) → ConeLatches side.circuit p v → NotPut put v → rank v < R

  have_trees : (put : Option (P × Bool)) (ps : List P) (node : List ℕ) → ((p : P) → Contains ps p → HasTree put p node) → (trees : Trees (List ℕ)) × EventUnfoldsAll side enabled put ps node trees
  have_trees put [] node each = (Nil, EventUnfoldsAll.none)
  have_trees put (p ∷ ps) node each =
      let first = each p (Contains-head p ps) in
      let rest = have_trees put ps node (λ q h. each q (Contains-tail p q ps h)) in
      (Cons first.0 rest.0, EventUnfoldsAll.more first.1 rest.1)

  at_latch : (R : ℕ) → ((p : P) (put : Option (P × Bool)) (node : List ℕ) → IsDetermined side.circuit p → Low R put p → HasTree put p node) →
      (name : List ℕ) (u next : P) (put : Option (P × Bool)) (node : List ℕ) → IsLatch side.circuit name u next → Low (suc R) put u → HasTree put u node
  at_latch R lower name u next put node latch low = go (put_or_not same put u)
    where
      plain : NotPut put u → (enabled u → ⊥) → HasTree put u node
      plain free off =
          let rest = lower next None (side.class u ∷ node) (det name u next latch)
          (λ v cone k. let down = falls u v (name, next, latch, cone, λ en. absurd (off en)) in let top = low u (name, next, latch, Reaches.here) free in omega arith) in
          (rest.0, EventUnfolds.plain latch free off rest.1)

      held : NotPut put u → enabled u → HasTree put u node
      held free on =
          let rest = lower next (Some (u, false)) (side.class u ∷ node) (det name u next latch)
          (λ v cone k. let down = falls u v (name, next, latch, cone, λ en. k) in let top = low u (name, next, latch, Reaches.here) free in omega arith) in
          (rest.0, EventUnfolds.held latch free on rest.1)

      go : NotPut put u ⊎ ((bit : Bool) × ◌≡◌ {A = Option (P × Bool)} put (Some (u, bit))) → HasTree put u node
      go (inr x) = (Fixed x.0, subst (λ (o : Option (P × Bool)). EventUnfolds side enabled o u node (Fixed x.0)) (sym x.1) EventUnfolds.fixed)
      go (inl free) = elim (kind u) [ inl on ↦ held free on | inr off ↦ plain free off ]

  no_latch : (p : P) (put : Option (P × Bool)) → Low 0 put p → (name : List ℕ) (next : P) → IsLatch side.circuit name p next → NotPut put p → ⊥
  no_latch p put low name next latch free = let l = low p (name, next, latch, Reaches.here) free in omega arith

  by_rank : (R : ℕ) → ((name : List ℕ) (u next : P) (put : Option (P × Bool)) (node : List ℕ) → IsLatch side.circuit name u next → Low R put u → HasTree put u node) →
      {p : P} (put : Option (P × Bool)) (node : List ℕ) → IsDetermined side.circuit p → Low R put p → HasTree put p node
  by_rank R latches {p} put node (IsDetermined.source (inl i)) low =
      let number = has_number side.circuit.inputs side.order numbered (record { name = i.0; place = p }) i.1 in
      (Leaf number.0 node, EventUnfolds.input number.1)
  by_rank R latches {p} put node (IsDetermined.source (inr l)) low = latches l.0 p l.1 put node l.2 low
  by_rank R latches {p} put node (IsDetermined.gate {fanins = fanins} {cover = cover} eq each) low =
      let trees = have_trees put fanins node
      (λ q h. by_rank R latches put node (each q h) (λ v cone k. low v (cone.0, cone.1, cone.2, Reaches.there (Reads.by_gate eq h) cone.3) k)) in
      (Branch cover trees.0, EventUnfolds.gate eq trees.1)
  by_rank R latches {p} put node (IsDetermined.port {from = from} eq rest) low =
      let tree = by_rank R latches put node rest (λ v cone k. low v (cone.0, cone.1, cone.2, Reaches.there (Reads.by_port eq) cone.3) k) in
      (tree.0, EventUnfolds.port eq tree.1)

  -- there is a tree at each node, with a latch put or not
  pub event_tree : (R : ℕ) (p : P) (put : Option (P × Bool)) (node : List ℕ) → IsDetermined side.circuit p → ((v : P) → ConeLatches side.circuit p v → NotPut put v → rank v < R) →
      (tree : Tree (List ℕ)) × EventUnfolds side enabled put p node tree
  event_tree zero p put node d low = by_rank 0 bottom put node d low
    where
      bottom : (name : List ℕ) (u next : P) (put : Option (P × Bool)) (node : List ℕ) → IsLatch side.circuit name u next → Low 0 put u → HasTree put u node
      bottom name u next put node latch low = go (put_or_not same put u)
        where
          go : NotPut put u ⊎ ((bit : Bool) × ◌≡◌ {A = Option (P × Bool)} put (Some (u, bit))) → HasTree put u node
          go (inl free) = absurd (no_latch u put low name next latch free)
          go (inr x) = (Fixed x.0, subst (λ (o : Option (P × Bool)). EventUnfolds side enabled o u node (Fixed x.0)) (sym x.1) EventUnfolds.fixed)
  event_tree (suc R) p put node d low =
      by_rank (suc R) (λ name u next put node latch l. at_latch R (λ q put node e k. event_tree R q put node e k) name u next put node latch l) put node d low

module _ {P : Type 0} (side : EventSide P) (enabled : P → Type 0) (single : IsSingleDriven side.circuit)
    (one_number : (p : P) (i j : ℕ) → IsInputNumber side.circuit side.order p i → IsInputNumber side.circuit side.order p j → i ≡ j) where
  -- what an unfolding says of the equation that drives the place; the put latch is its bit
  abbrev Says : Option (P × Bool) → P → List ℕ → Tree (List ℕ) → Equation P → Type 0
  Says put p node tree (Gate out fanins cover) = ((trees : Trees (List ℕ)) × EventUnfoldsAll side enabled put fanins node trees × (tree ≡ Branch cover trees))
  Says put p node tree (Latch name out next) =
      (NotPut put p × (enabled p → ⊥) × EventUnfolds side enabled None next (side.class p ∷ node) tree)
      ⊎ ((NotPut put p × enabled p × EventUnfolds side enabled (Some (p, false)) next (side.class p ∷ node) tree) ⊎ ((bit : Bool) × ◌≡◌ {A = Option (P × Bool)} put (Some (p, bit)) × (tree ≡ Fixed bit)))
  Says put p node tree (Port out from) = EventUnfolds side enabled put from node tree

  -- the put place is a latch
  abbrev PutIsLatch : Option (P × Bool) → Type 0
  PutIsLatch None = Unit {0}
  PutIsLatch (Some x) = (name : List ℕ) × (next : P) × IsLatch side.circuit name x.0 next

  says : {put : Option (P × Bool)} {p : P} {node : List ℕ} {tree : Tree (List ℕ)} → PutIsLatch put → EventUnfolds side enabled put p node tree → (e : Equation P) → Contains side.circuit.equations e → out_of e ≡ p → Says put p node tree e
  says at (EventUnfolds.input {p = p} {i = i} h) e k q = absurd (single.no_input e k (subst (IsInput side.circuit) (sym q) (beside_is_input side.circuit.inputs side.order p i h)))
  says at (EventUnfolds.gate {put = put} {out = out} {fanins = fanins} {cover = cover} {node = node} {trees = trees} eq each) e k q =
      subst (Says put out node (Branch cover trees)) (single.one (Gate out fanins cover) e eq k (sym q)) (trees, each, refl)
  says at (EventUnfolds.port {put = put} {out = out} {from = from} {node = node} {tree = tree} eq rest) e k q = subst (Says put out node tree) (single.one (Port out from) e eq k (sym q)) rest
  says at (EventUnfolds.plain {put = put} {name = name} {u = u} {next = next} {node = node} {tree = tree} latch free off rest) e k q =
      subst (Says put u node tree) (single.one (Latch name u next) e latch k (sym q)) (inl (free, off, rest))
  says at (EventUnfolds.held {put = put} {name = name} {u = u} {next = next} {node = node} {tree = tree} latch free on rest) e k q =
      subst (Says put u node tree) (single.one (Latch name u next) e latch k (sym q)) (inr (inl (free, on, rest)))
  says at (EventUnfolds.fixed {u = u} {bit = bit} {node = node}) e k q =
      subst (Says (Some (u, bit)) u node (Fixed bit)) (single.one (Latch at.0 u at.1) e at.2 k (sym q)) (inr (inr (bit, refl, refl)))

  not_put : {put : Option (P × Bool)} (u : P) (bit : Bool) → NotPut put u → ◌≡◌ {A = Option (P × Bool)} put (Some (u, bit)) → ⊥
  not_put {put} u bit free e = free_of (subst (λ (o : Option (P × Bool)). NotPut o u) e free)
    where
      free_of : u ≢ u → ⊥
      free_of n = n refl

  bit_is : (u : P) (b d : Bool) → ◌≡◌ {A = Option (P × Bool)} (Some (u, b)) (Some (u, d)) → b ≡ d
  bit_is u b d e = ap (λ (x : P × Bool). x.1) (unwrap (u, b) (u, d) e)
    where
      unwrap : (y z : P × Bool) → Some y ≡ Some z → y ≡ z
      unwrap y z q = cc

  at_input : {put : Option (P × Bool)} {p : P} {node : List ℕ} {r : Tree (List ℕ)} → PutIsLatch put → (i : ℕ) → IsInputNumber side.circuit side.order p i → EventUnfolds side enabled put p node r → Leaf i node ≡ r
  at_input at i h (EventUnfolds.input {p = p} {node = node} {i = j} g) = ap (λ m. Leaf m node) (one_number p i j h g)
  at_input at i h (EventUnfolds.gate {out = p} {fanins = fanins} {cover = cover} eq each) = absurd (single.no_input (Gate p fanins cover) eq (beside_is_input side.circuit.inputs side.order p i h))
  at_input at i h (EventUnfolds.port {out = p} {from = from} eq rest) = absurd (single.no_input (Port p from) eq (beside_is_input side.circuit.inputs side.order p i h))
  at_input at i h (EventUnfolds.plain {name = name} {u = p} {next = next} latch free off rest) = absurd (single.no_input (Latch name p next) latch (beside_is_input side.circuit.inputs side.order p i h))
  at_input at i h (EventUnfolds.held {name = name} {u = p} {next = next} latch free on rest) = absurd (single.no_input (Latch name p next) latch (beside_is_input side.circuit.inputs side.order p i h))
  at_input at i h (EventUnfolds.fixed {u = p}) = absurd (single.no_input (Latch at.0 p at.1) at.2 (beside_is_input side.circuit.inputs side.order p i h))

  mutual
    pub one_event_tree : {put : Option (P × Bool)} {p : P} {node : List ℕ} {l r : Tree (List ℕ)} → PutIsLatch put → EventUnfolds side enabled put p node l → EventUnfolds side enabled put p node r → l ≡ r
    one_event_tree at (EventUnfolds.input {i = i} h) other = at_input at i h other
    one_event_tree at (EventUnfolds.gate {out = out} {fanins = fanins} {cover = cover} eq each) other =
        let s = says at other (Gate out fanins cover) eq refl in
        ap (Branch cover) (one_event_trees at each s.1) ∙ sym s.2
    one_event_tree at (EventUnfolds.port {out = out} {from = from} eq rest) other = one_event_tree at rest (says at other (Port out from) eq refl)
    one_event_tree at (EventUnfolds.plain {put = put} {name = name} {u = u} {next = next} {node = node} {tree = l} latch free off rest) other =
        go (λ x. one_event_tree tt rest x) (says at other (Latch name u next) latch refl)
      where
        go : {r : Tree (List ℕ)} → (EventUnfolds side enabled None next (side.class u ∷ node) r → l ≡ r) → Says put u node r (Latch name u next) → l ≡ r
        go same (inl x) = same x.2
        go same (inr (inl x)) = absurd (off x.1)
        go same (inr (inr x)) = absurd (not_put u x.0 free x.1)
    one_event_tree at (EventUnfolds.held {put = put} {name = name} {u = u} {next = next} {node = node} {tree = l} latch free on rest) other =
        go (λ x. one_event_tree (name, next, latch) rest x) (says at other (Latch name u next) latch refl)
      where
        go : {r : Tree (List ℕ)} → (EventUnfolds side enabled (Some (u, false)) next (side.class u ∷ node) r → l ≡ r) → Says put u node r (Latch name u next) → l ≡ r
        go same (inl x) = absurd (x.1 on)
        go same (inr (inl x)) = same x.2
        go same (inr (inr x)) = absurd (not_put u x.0 free x.1)
    one_event_tree at (EventUnfolds.fixed {u = u} {bit = bit} {node = node}) other = go (says at other (Latch at.0 u at.1) at.2 refl)
      where
        go : {r : Tree (List ℕ)} → Says (Some (u, bit)) u node r (Latch at.0 u at.1) → Fixed bit ≡ r
        go (inl x) = absurd (x.0 refl)
        go (inr (inl x)) = absurd (x.0 refl)
        go (inr (inr x)) = ap Fixed (bit_is u bit x.0 x.1) ∙ sym x.2

    pub one_event_trees : {put : Option (P × Bool)} {ps : List P} {node : List ℕ} {ls rs : Trees (List ℕ)} → PutIsLatch put → EventUnfoldsAll side enabled put ps node ls → EventUnfoldsAll side enabled put ps node rs → ls ≡ rs
    one_event_trees at EventUnfoldsAll.none EventUnfoldsAll.none = refl
    one_event_trees at (EventUnfoldsAll.more one rest) (EventUnfoldsAll.more other others) =
        let head = one_event_tree at one other in
        let tail = one_event_trees at rest others in
        λ i. Cons (head i) (tail i)

  -- an enable has one value at a node of a frame
  pub one_enable : (bits : ℕ → List ℕ → Bool) (u : P) (node : List ℕ) (x y : Bool) → IsEnable side enabled bits u node x → IsEnable side enabled bits u node y → x ≡ y
  one_enable bits u node x y (IsEnable.always off e) (IsEnable.always off' e') = e ∙ sym e'
  one_enable bits u node x y (IsEnable.always off e) (IsEnable.own on latch low high e') = absurd (off on)
  one_enable bits u node x y (IsEnable.own on latch low high e) (IsEnable.always off e') = absurd (off on)
  one_enable bits u node x y (IsEnable.own {name = name} {next = next} {low = l} {high = h} on latch low high e) (IsEnable.own {name = name'} {next = next'} {low = l'} {high = h'} on' latch' low' high' e') =
      sym e ∙ (value ∙ e')
    where
      next_of : Equation P → P
      next_of (Gate out fanins cover) = out
      next_of (Latch m out to) = to
      next_of (Port out from) = from

      same : next' ≡ next
      same = ap next_of (single.one (Latch name' u next') (Latch name u next) latch' latch refl)

      lows : l ≡ l'
      lows = one_event_tree (name, next, latch) low (subst (λ (z : P). EventUnfolds side enabled (Some (u, false)) z node l') same low')

      highs : h ≡ h'
      highs = one_event_tree (name, next, latch) high (subst (λ (z : P). EventUnfolds side enabled (Some (u, true)) z node h') same high')

      value : (tree_value bits l || not (tree_value bits h)) ≡ (tree_value bits l' || not (tree_value bits h'))
      value = λ i. tree_value bits (lows i) || not (tree_value bits (highs i))
