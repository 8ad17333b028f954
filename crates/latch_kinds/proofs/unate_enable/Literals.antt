-- Literals that are put one after the other.
use Rattle.std.proofs.Common.{◌≡◌, ◌∙◌, ◌+◌, ◌*◌, ◌<◌, ◌≤◌, ◌⊎◌, inl, inr, max, ℕ, Bool, true, false, not, List, [], ◌∷◌, ◌++◌, length, map, take, get_or, slice_get, Option, Some, None, if◌then◌else◌, refl, sym, ap, subst, arith}
use Rattle.std.specs.Prelude.{◌≢◌, Contains}
use Rattle.std.specs.List.{All, AllZip}
use Rattle.std.specs.List.Sorted.{IsStrictlyIncreasing}
use Rattle.std.proofs.lemmas.Option.{none-some, same_Some, slice_get_within, get_or_from_slice_get}
use Rattle.std.proofs.lemmas.List.Elements.{All-contains, All-nil, All-cons}
use Rattle.std.proofs.lemmas.List.{take_more}
use Rattle.std.proofs.lemmas.List.Kept.{AllPairs-from_increasing}
use Rattle.circuit_theory.specs.Cover.{Cover, cover_value}
use Rattle.circuit_theory.specs.Circuit.{Circuit, Gate as gate_equation, Holds}
use Rattle.circuit_theory.proofs.Lists.{map-map, zip_push, at_of, Contains-cases, Contains-map_from}
use Rattle.circuit_theory.proofs.Sums.{same_or_not}
use Rattle.flat_net.specs.declared.signals.Signal.{Signal}
use Rattle.flat_net.specs.declared.parts.Gate.{Gate}
use Rattle.flat_net.specs.declared.parts.Driver.TheVariants as driver
use Rattle.flat_net.specs.View.{NetView, circuit_of, cover_of}
use Rattle.flat_net.specs.Sound.{IsSound}
use Rattle.aig.specs.declared.node.Lit.{Lit}
use Rattle.aig.specs.declared.node.Node.{Node}
use Rattle.aig.specs.declared.node.Node.TheVariants.{Constant, Input}
use Rattle.aig.specs.Graph.{IsGraph, Grows, flip}
use Rattle.aig.specs.Values.{value}
use Rattle.aig.specs.Rules.{IsCoverOf, cover_room}
use Rattle.aig.specs.Builds.{HasTreeLit}
use Rattle.aig.proofs.Growth.{Grows-refl, Grows-trans, Grows-length, IsLitOf-grows, HasTreeLit-grows}
use Rattle.aig.proofs.Meaning.{value-grows, value-flip, value-node}
use Rattle.std.proofs.Math.Nat.{mul-le-mul_right}
use Rattle.flat_net.specs.Weights.{gate_weight}
use Rattle.latch_kinds.specs.unate_enable.Building.{IsPut, IsKnown, AreWithin, HasTree, HaveTrees, HasValue, HaveValues, Learns, HasGrown, IsGateLit}
use Rattle.latch_kinds.specs.unate_enable.Recovery.{IsLeafLit}
use Rattle.flat_net.proofs.Drivers.{gate_equation_stands}

flip_zero : flip 0 ≡ 1
unfolding flip
flip_zero = refl

-- a graph that stays
pub grown_none : (g : List Node) (more top : ℕ) → HasGrown g g more top
grown_none g more top = record { grows = Grows-refl g; nodes = omega arith; vars = omega arith }

pub grown_trans : (g h k : List Node) (a b c s t u : ℕ) → HasGrown g h a s → HasGrown h k b t → a + b ≤ c → s ≤ u → t ≤ u → HasGrown g k c u
grown_trans g h k a b c s t u one two sum first second =
    record { grows = Grows-trans g h k one.grows two.grows; nodes = omega (arith, one.nodes, two.nodes, sum); vars = omega (arith, one.vars, two.vars, first, second) }

-- variables first, and then gates
pub grown_then : (g h k : List Node) (a b s : ℕ) → HasGrown g h a s → HasGrown h k b 0 → HasGrown g k (a + b) s
grown_then g h k a b s one two = grown_trans g h k a b (a + b) s 0 s one two (omega arith) (omega arith) (omega arith)

-- a tree's literal stays
pub tree_grows : (c : Circuit ℕ) (u : ℕ) (bit : Bool) (places : List ℕ) (g h : List Node) → Grows g h → (s x : ℕ) → HasTree c u bit places g s x → HasTree c u bit places h s x
tree_grows c u bit places g h grows = HasTreeLit-grows c g h grows (IsLeafLit u bit places g) (IsLeafLit u bit places h) leaf
  where
    leaf : (s x : ℕ) → IsLeafLit u bit places g s x → IsLeafLit u bit places h s x
    leaf s x (inl own) = inl own
    leaf s x (inr (k, at, lit)) = inr (k, at, IsLitOf-grows g h grows (Input k) x lit)

module _ (c : Circuit ℕ) (u : ℕ) (bit : Bool) (places : List ℕ) where
  pub learns_none : (g : List Node) (known : ℕ → Option Lit) → AreWithin g known → Learns c u bit places g g known known
  learns_none g known within = record { within = within; trees = λ h. h; values = λ h. h; stays = λ s h. h }

  pub learns_trans : (g h k : List Node) (old mid new : ℕ → Option Lit) → Learns c u bit places g h old mid → Learns c u bit places h k mid new → Learns c u bit places g k old new
  learns_trans g h k old mid new one two = record { within = two.within; trees = λ t. two.trees (one.trees t); values = λ v. two.values (one.values v); stays = λ s h. two.stays s (one.stays s h) }

  -- one literal more
  pub learns_put : (g h : List Node) (old new : ℕ → Option Lit) (s : ℕ) (x : Lit) → Grows g h → AreWithin g old → IsPut old s x new → x.0 < 2 * length h → (HaveTrees c u bit places g old → HasTree c u bit places h s x.0) → (HaveValues c u bit places g old → HasValue c u bit places h s x.0) →
      Learns c u bit places g h old new
  learns_put g h old new s x grows within put small built holds = record {
    within = λ q y e. within_of q y e (same_or_not q s);
    trees = λ trees q y e. tree_of trees q y e (same_or_not q s);
    values = λ values q y e. value_of values q y e (same_or_not q s);
    stays = λ q k. stay q k (same_or_not q s);
  }
    where
      within_of : (q : ℕ) (y : Lit) → new q ≡ Some y → (q ≡ s) ⊎ (q ≢ s) → y.0 < 2 * length h
      within_of q y e (inl same) = let one : x ≡ y = same_Some x y (sym put.here ∙ ap new (sym same) ∙ e) in subst (λ (z : Lit). z.0 < 2 * length h) one small
      within_of q y e (inr other) = let before = within q y (sym (put.others q other) ∙ e) in omega (arith, before, Grows-length g h grows)

      value_of : HaveValues c u bit places g old → (q : ℕ) (y : Lit) → new q ≡ Some y → (q ≡ s) ⊎ (q ≢ s) → HasValue c u bit places h q y.0
      value_of values q y e (inl same) =
          let one : x ≡ y = same_Some x y (sym put.here ∙ ap new (sym same) ∙ e) in
          subst (λ (z : Lit). HasValue c u bit places h q z.0) one (subst (λ p. HasValue c u bit places h p x.0) (sym same) (holds values))
      value_of values q y e (inr other) = λ a v case.
          let before : old q ≡ Some y = sym (put.others q other) ∙ e in
          values q y before a v case ∙ sym (value-grows g h grows a y.0 (within q y before))

      tree_of : HaveTrees c u bit places g old → (q : ℕ) (y : Lit) → new q ≡ Some y → (q ≡ s) ⊎ (q ≢ s) → HasTree c u bit places h q y.0
      tree_of trees q y e (inl same) =
          let one : x ≡ y = same_Some x y (sym put.here ∙ ap new (sym same) ∙ e) in
          subst (λ (z : Lit). HasTree c u bit places h q z.0) one (subst (λ p. HasTree c u bit places h p x.0) (sym same) (built trees))
      tree_of trees q y e (inr other) = tree_grows c u bit places g h grows q y.0 (trees q y (sym (put.others q other) ∙ e))

      stay : (q : ℕ) → IsKnown old q → (q ≡ s) ⊎ (q ≢ s) → IsKnown new q
      stay q k (inl same) = (x, ap new same ∙ put.here)
      stay q k (inr other) = (k.0, put.others q other ∙ k.1)

  -- the first literal is that of the bit
  pub learns_first : (g : List Node) (old new : ℕ → Option Lit) (x : Lit) → IsGraph g → ((q : ℕ) → old q ≡ None) → IsPut old u x new → x.0 ≡ (if bit then 1 else 0) → AreWithin g new × HaveValues c u bit places g new × HaveTrees c u bit places g new
  learns_first g old new x graph empty put is = (λ q y e. l.within q y e, λ q y e. l.values none q y e, λ q y e. l.trees (λ q y e. absent q y e) q y e)
    where
      some : 0 < length g
      some = slice_get_within g 0 Constant graph.constant

      absent : {X : Type 0} (q : ℕ) (y : Lit) → old q ≡ Some y → X
      absent q y e = let k : None ≡ Some y = sym (empty q) ∙ e in cc

      none : HaveValues c u bit places g old
      none q y e = absent q y e

      zero_is : (a : ℕ → Bool) → value g a 0 ≡ false
      zero_is a = value-node g graph.ordered 0 Constant a graph.constant

      of_bit : (b : Bool) (a : ℕ → Bool) → b ≡ value g a (if b then 1 else 0)
      of_bit false a = sym (zero_is a)
      of_bit true a = sym (ap (value g a) (sym flip_zero) ∙ value-flip g a 0 ∙ ap not (zero_is a))

      small_of : (b : Bool) → (if b then 1 else 0) < 2 * length g
      small_of false = omega (arith, some)
      small_of true = omega (arith, some)

      l : Learns c u bit places g g old new
      l = learns_put g g old new u x (Grows-refl g) (λ q y e. absent q y e) put (subst (λ k. k < 2 * length g) (sym is) (small_of bit)) (λ trees. HasTreeLit.at_leaf u x.0 (inl (refl, is))) (λ values a v case. case.put ∙ of_bit bit a ∙ ap (value g a) (sym is))

-- lists that a relation ties have equal images
zip_maps : {X Y Z : Type 0} (R : X → Y → Type 0) (f : X → Z) (k : Y → Z) → ((x : X) (y : Y) → R x y → f x ≡ k y) → (xs : List X) (ys : List Y) → AllZip R xs ys → map f xs ≡ map k ys
zip_maps R f k same [] [] h = refl
zip_maps R f k same [] (y ∷ ys) h = absurd h
zip_maps R f k same (x ∷ xs) [] h = absurd h
zip_maps R f k same (x ∷ xs) (y ∷ ys) h = let one = same x y h.0 in let rest = zip_maps R f k same xs ys h.1 in λ i. one i ∷ rest i

-- a pair of lists with one element more each
pub zip_more_left : {X Y : Type 0} (R : X → Y → Type 0) (xs : List X) (ys : List Y) (i : ℕ) (d : X) (y : Y) → i < length xs → AllZip R (take i xs) ys → R (get_or xs i d) y → AllZip R (take (i + 1) xs) (ys ++ y ∷ [])
zip_more_left R xs ys i d y inside zip here = subst (λ l. AllZip R l (ys ++ y ∷ [])) (sym (take_more xs i d inside)) (zip_push R (take i xs) ys (get_or xs i d) y zip here)

-- what follows for each element on the right
pub zip_all : {X Y : Type 0} (R : X → Y → Type 0) (P : Y → Type 0) → ((x : X) (y : Y) → R x y → P y) → (xs : List X) (ys : List Y) → AllZip R xs ys → All P ys
zip_all R P f [] [] h = All-nil P
zip_all R P f [] (y ∷ ys) h = absurd h
zip_all R P f (x ∷ xs) [] h = absurd h
zip_all R P f (x ∷ xs) (y ∷ ys) h = All-cons P y ys (f x y h.0) (zip_all R P f xs ys h.1)

zip_each : (known : ℕ → Option Lit) (fs : List Signal) (ys : List Lit) → AllZip (λ f y. known f.0 ≡ Some y) fs ys → (f : Signal) → Contains fs f → (y : Lit) × (known f.0 ≡ Some y)
zip_each known [] ys each f h = let at = at_of [] f h in absurd (none-some f at.1)
zip_each known (k ∷ fs) [] each f h = absurd each
zip_each known (k ∷ fs) (y ∷ ys) each f h =
    elim (Contains-cases k f fs h) [ inl e ↦ (y, subst (λ (q : Signal). known q.0 ≡ Some y) e each.0) | inr m ↦ zip_each known fs ys each.1 f m ]

-- a gate's literal has its signal's value
pub gate_value : (n : NetView) → IsSound n → (u : ℕ) (bit : Bool) (places : List ℕ) (known : ℕ → Option Lit) (g h : List Node) (s j x : ℕ) → slice_get n.drivers s ≡ Some (driver.Gate j) → IsGateLit n j known g h x →
    HaveValues (circuit_of n) u bit places g known → HasValue (circuit_of n) u bit places h s x
gate_value n sound u bit places known g h s j x drives lit values a v case =
    let holds : v s ≡ cover_value (cover_of n.covers lit.gate) (map v (map (λ (f : Signal). f.0) lit.gate.fanins)) =
    All-contains (Holds v) (circuit_of n).equations (gate_equation s (map (λ f. f.0) lit.gate.fanins) (cover_of n.covers lit.gate)) case.meets (gate_equation_stands n sound s j drives lit.gate lit.at) in
    let fanins : map v (map (λ (f : Signal). f.0) lit.gate.fanins) ≡ map (λ (y : Lit). value g a y.0) lit.lits =
    map-map v (λ (f : Signal). f.0) lit.gate.fanins ∙ zip_maps (λ (f : Signal) (y : Lit). known f.0 ≡ Some y) (λ (f : Signal). v f.0) (λ (y : Lit). value g a y.0) (λ f y e. values f.0 y e a v case) lit.gate.fanins lit.lits lit.each in
    holds ∙ ap (cover_value (cover_of n.covers lit.gate)) fanins ∙ sym (lit.value a)

-- the literal that is known of a signal, or 0
lit_in : Option Lit → ℕ
lit_in None = 0
lit_in (Some y) = y.0

known_lits : (known : ℕ → Option Lit) (fs : List Signal) (ys : List Lit) → AllZip (λ f y. known f.0 ≡ Some y) fs ys → map (λ (y : Lit). y.0) ys ≡ map (λ (f : Signal). lit_in (known f.0)) fs
unfolding lit_in
known_lits known fs ys each = sym (zip_maps (λ (f : Signal) (y : Lit). known f.0 ≡ Some y) (λ (f : Signal). lit_in (known f.0)) (λ (y : Lit). y.0) (λ f y e. ap lit_in e) fs ys each)

-- a gate's literal is that of its signal's tree
pub gate_tree : (n : NetView) → IsSound n → (u : ℕ) (bit : Bool) (places : List ℕ) (known : ℕ → Option Lit) (g h : List Node) → Grows g h → (s j x : ℕ) → slice_get n.drivers s ≡ Some (driver.Gate j) → IsGateLit n j known g h x →
    HaveTrees (circuit_of n) u bit places g known → HasTree (circuit_of n) u bit places h s x
unfolding lit_in
gate_tree n sound u bit places known g h grows s j x drives lit trees =
    let fanins = map (λ (f : Signal). f.0) lit.gate.fanins in
    let lits : ℕ → ℕ = λ f. lit_in (known f) in
    HasTreeLit.at_gate s x fanins (cover_of n.covers lit.gate) lits (gate_equation_stands n sound s j drives lit.gate lit.at)
    (λ f member.
    let k = Contains-map_from (λ (f : Signal). f.0) lit.gate.fanins f member in
    let y = zip_known k.0 k.1 in
    let here : HasTree (circuit_of n) u bit places h k.0.0 y.0.0 = tree_grows (circuit_of n) u bit places g h grows k.0.0 y.0.0 (trees k.0.0 y.0 y.1) in
    subst (λ p. HasTree (circuit_of n) u bit places h p (lits p)) k.2 (subst (λ z. HasTree (circuit_of n) u bit places h k.0.0 z) (ap lit_in (sym y.1)) here))
    (subst (λ (xs : List ℕ). IsCoverOf h (cover_of n.covers lit.gate) xs x) (known_lits known lit.gate.fanins lit.lits lit.each ∙ sym (map-map lits (λ (f : Signal). f.0) lit.gate.fanins)) lit.is)
  where
    zip_known : (f : Signal) → Contains lit.gate.fanins f → (y : Lit) × (known f.0 ≡ Some y)
    zip_known = zip_each known lit.gate.fanins lit.lits lit.each

-- a gate's room is within what it counts
pub cover_within_weight : (covers : List Cover) (g : Gate) (cover : Cover) → cover_of covers g ≡ cover → cover.width ≡ length g.fanins → cover_room cover + 1 ≤ gate_weight covers (Some g)
cover_within_weight covers g cover is width =
    let weight : gate_weight covers (Some g) ≡ 1 + max 1 (length cover.rows) * (length g.fanins + 1) = ap (λ (k : Cover). 1 + max 1 (length k.rows) * (length g.fanins + 1)) is in
    let room : cover_room cover ≡ length cover.rows * (length g.fanins + 1) = ap (λ w. length cover.rows * (w + 1)) width in
    let less : length cover.rows * (length g.fanins + 1) ≤ max 1 (length cover.rows) * (length g.fanins + 1) = mul-le-mul_right (length g.fanins + 1) (let k : length cover.rows ≤ max 1 (length cover.rows) = omega arith in k) in
    omega (arith, weight, room, less)

-- what stands below the signal at a place stands before it
pub stands_before : (signals : List ℕ) → IsStrictlyIncreasing signals → (i k s f : ℕ) → slice_get signals i ≡ Some s → slice_get signals k ≡ Some f → f < s → k < i
stands_before signals increasing i k s f at other below = by (order i k)
  where
    order : (i k : ℕ) → (k < i) ⊎ ((i ≡ k) ⊎ (i < k))
    order i k = grind arith

    by : (k < i) ⊎ ((i ≡ k) ⊎ (i < k)) → k < i
    by (inl less) = less
    by (inr (inl e)) = let same : s ≡ f = same_Some s f (sym at ∙ ap (slice_get signals) e ∙ other) in absurd (omega arith)
    by (inr (inr more)) =
        let inside = slice_get_within signals k f other in
        let here = get_or_from_slice_get signals i s 0 at in
        let there = get_or_from_slice_get signals k f 0 other in
        let above = AllPairs-from_increasing signals increasing i k 0 more inside in
        absurd (omega (arith, here, there, above))

-- the same from what the calls gave
pub gate_lit_from : (n : NetView) (j : ℕ) (known : ℕ → Option Lit) (g h : List Node) (gate : Gate) (lits : List Lit) (x : ℕ) → slice_get n.gates j ≡ Some gate → (fanins : List Signal) → fanins ≡ gate.fanins →
    AllZip (λ f y. known f.0 ≡ Some y) fanins lits → (cover : Cover) → cover_of n.covers gate ≡ cover → (read : List Lit) → read ≡ lits → IsCoverOf h cover (map (λ y. y.0) read) x → ((a : ℕ → Bool) → value h a x ≡ cover_value cover (map (λ y. value g a y.0) read)) → x < 2 * length h →
    IsGateLit n j known g h x
gate_lit_from n j known g h gate lits x at fanins same each cover is read alike here holds within = record {
  gate = gate;
  at = at;
  lits = lits;
  each = subst (λ (l : List Signal). AllZip (λ f y. known f.0 ≡ Some y) l lits) same each;
  is = subst (λ (k : Cover). IsCoverOf h k (map (λ (y : Lit). y.0) lits) x) (sym is) (subst (λ (l : List Lit). IsCoverOf h cover (map (λ (y : Lit). y.0) l) x) alike here);
  value = λ a. holds a ∙ ap (λ (k : Cover). cover_value k (map (λ (y : Lit). value g a y.0) read)) (sym is) ∙ ap (λ (l : List Lit). cover_value (cover_of n.covers gate) (map (λ (y : Lit). value g a y.0) l)) alike;
  within = within;
}

-- one signal more is known
pub known_more : (signals : List ℕ) (i : ℕ) (old new : ℕ → Option Lit) (s : ℕ) → slice_get signals i ≡ Some s → ((k p : ℕ) → k < i → slice_get signals k ≡ Some p → IsKnown old p) → ((p : ℕ) → IsKnown old p → IsKnown new p) → IsKnown new s →
    (k p : ℕ) → k < i + 1 → slice_get signals k ≡ Some p → IsKnown new p
known_more signals i old new s at before stays here k p below other = by (cases k i below)
  where
    cases : (k i : ℕ) → k < i + 1 → (k < i) ⊎ (k ≡ i)
    cases k i h = grind arith

    by : (k < i) ⊎ (k ≡ i) → IsKnown new p
    by (inl less) = stays p (before k p less other)
    by (inr e) = subst (IsKnown new) (same_Some s p (sym at ∙ ap (slice_get signals) (sym e) ∙ other)) here

-- what was known before another literal is put
pub put_stays : (old new : ℕ → Option Lit) (s : ℕ) (x : Lit) → IsPut old s x new → (q : ℕ) → IsKnown old q → IsKnown new q
put_stays old new s x put q k = by (same_or_not q s)
  where
    by : (q ≡ s) ⊎ (q ≢ s) → IsKnown new q
    by (inl same) = (x, ap new same ∙ put.here)
    by (inr other) = (k.0, put.others q other ∙ k.1)
