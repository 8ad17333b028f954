-- Equal functions up to the depth of a pair mean agreement in every cycle of reset runs: also where the functions are equal only under
-- a care that holds along the runs.
use Rattle.std.proofs.Common.{◌≡◌, ℕ, zero, suc, ◌+◌, ◌-◌, ◌<◌, ◌≤◌, Bool, true, false, cond, List, [], ◌∷◌, refl, sym, ◌∙◌, ap, subst, arith, inl, inr, Option, Some, None, slice_get, nat_lt}
use Rattle.std.specs.Prelude.{◌⊎◌, ◌==◌}
use Rattle.std.specs.List.{All, Contains, filter_map}
use Rattle.std.proofs.lemmas.List.Elements.{All-contains}
use Rattle.std.proofs.lemmas.Option.{slice_get_within}
use Rattle.circuit_theory.specs.Circuit.{Circuit, Started, Equation, Gate, Latch, Port, IsInput, IsLatch, Carries, out_of}
use Rattle.circuit_theory.specs.Cone.{latches_of, latch_place}
use Rattle.circuit_theory.specs.Run.{IsRun, EqualInputs, IsResetRun, IsDetermined, Marked, NoneEnabled}
use Rattle.circuit_theory.specs.Net.{IsNet, IsWithin, IsAbove}
use Rattle.circuit_theory.specs.Depth.{IsDepth}
use Rattle.circuit_theory.specs.Tree.{Tree, IsInputNumber, AreNumbered, tree_value}
use Rattle.circuit_theory.specs.Fits.{IsPairDepth}
use Rattle.circuit_theory.proofs.Inputs.{test_same, test_refl, beside_is_input}
use Rattle.circuit_theory.proofs.Lists.{Contains-head, Contains-tail, Contains-cases}
use Rattle.circuit_laws.proofs.Agreement.{value_of_number, value_found, value_from, first_value}
use Rattle.circuit_theory.proofs.Sums.{same_or_not}
use Rattle.circuit_laws.proofs.SameMarks.{settled_same}
use Rattle.circuit_laws.proofs.LawProofs.{next_within, settled_from_depth}
use Rattle.circuit_laws.proofs.NetLaws.{net_can_put, net_determined, net_run, net_run-runs, net_run-inputs, net_run-power}
use Rattle.circuit_laws.specs.reset_laws.Reset.{ResetUnfolds, HasStarts, AreBased, AreAlikeFromReset, start_at, power_of}
use Rattle.circuit_laws.specs.reset_laws.Laws.{EqualResetsAgree}
use Rattle.circuit_laws.proofs.reset_laws.ResetTrees.{reset_tree_is_run}

-- the care holds of each row of inputs that the run has
abbrev pub HoldsAlong : {P : Type 0} → ((ℕ → Bool) → Type 0) → Circuit P → List ℕ → ℕ → (ℕ → P → Bool) → Type 0
HoldsAlong {P} care c order n run = (t : ℕ) → t < n → (row : ℕ → Bool) → ((p : P) (i : ℕ) → IsInputNumber c order p i → row i ≡ run t p) → care row

pub lt_true : (i j : ℕ) → i < j → nat_lt i j ≡ true
lt_true i j h = grind arith

pub lt_false : (i j : ℕ) → j ≤ i → nat_lt i j ≡ false
lt_false i j h = grind arith

abbrev pub value_at : {P : Type 0} → (P → Bool) → Option P → Bool
value_at v None = false
value_at v (Some p) = v p

-- the row of inputs of both runs in a cycle
module _ {P Q : Type 0} (a : Circuit P) (b : Circuit Q) (left right : List ℕ) (numbered : AreNumbered a b left right) (l : ℕ → P → Bool) (r : ℕ → Q → Bool) (n : ℕ) (equal : EqualInputs a b n l r) where
  abbrev pub input_row : ℕ → ℕ → Bool
  input_row t i = first_value (value_of_number (l t) a.inputs left i) (value_of_number (r t) b.inputs right i)

  pub row_left : (t : ℕ) (p : P) (i : ℕ) → IsInputNumber a left p i → input_row t i ≡ l t p
  row_left t p i h =
      let f = value_found (l t) a.inputs left p i h in
      ap (λ o. first_value o (value_of_number (r t) b.inputs right i)) f.2 ∙ ap (l t) (numbered.left_once f.0 p i f.1 h)

  pub row_right : (t : ℕ) → t < n → (q : Q) (i : ℕ) → IsInputNumber b right q i → input_row t i ≡ r t q
  row_right t in_run q i h = go (value_of_number (l t) a.inputs left i) refl
    where
      go : (o : Option Bool) → value_of_number (l t) a.inputs left i ≡ o → input_row t i ≡ r t q
      go None e =
          let f = value_found (r t) b.inputs right q i h in
          ap (λ o. first_value o (value_of_number (r t) b.inputs right i)) e ∙ (ap (λ o. first_value None o) f.2 ∙ ap (r t) (numbered.right_once f.0 q i f.1 h))
      go (Some x) e =
          let f = value_from (l t) a.inputs left i x e in
          let name = numbered.shared f.0 q i f.1 h in
          let same : l t f.0 ≡ r t q = equal name.0 f.0 q name.1 name.2 t in_run in
          ap (λ o. first_value o (value_of_number (r t) b.inputs right i)) e ∙ (f.2 ∙ same)

-- One assignment for both reset runs: their inputs in each cycle up to the last, then the last one's, and the power-up of their latches.
module _ {P Q : Type 0} (a : Circuit P) (b : Circuit Q) (left right : List ℕ) (left_base right_base : ℕ) (numbered : AreNumbered a b left right)
    (based : AreBased a b left right left_base right_base) (l : ℕ → P → Bool) (r : ℕ → Q → Bool) (n : ℕ) (alike : AreAlikeFromReset a b n l r) where
  abbrev pub reset_bits : ℕ → ℕ → ℕ → Bool
  reset_bits last i k =
      cond (nat_lt i left_base) (input_row a b left right numbered l r n alike.equal_inputs (last - (last - k)) i)
      (cond (nat_lt i right_base) (value_at (l 0) (slice_get (latches_of a) (i - left_base))) (value_at (r 0) (slice_get (latches_of b) (i - right_base))))

  low_bits : (last i k : ℕ) → i < left_base → reset_bits last i k ≡ input_row a b left right numbered l r n alike.equal_inputs (last - (last - k)) i
  low_bits last i k h =
      ap (λ t. cond t (input_row a b left right numbered l r n alike.equal_inputs (last - (last - k)) i)
      (cond (nat_lt i right_base) (value_at (l 0) (slice_get (latches_of a) (i - left_base))) (value_at (r 0) (slice_get (latches_of b) (i - right_base))))) (lt_true i left_base h)

  high_bits : (last i k : ℕ) → left_base ≤ i → reset_bits last i k ≡ cond (nat_lt i right_base) (value_at (l 0) (slice_get (latches_of a) (i - left_base))) (value_at (r 0) (slice_get (latches_of b) (i - right_base)))
  high_bits last i k h =
      ap (λ t. cond t (input_row a b left right numbered l r n alike.equal_inputs (last - (last - k)) i)
      (cond (nat_lt i right_base) (value_at (l 0) (slice_get (latches_of a) (i - left_base))) (value_at (r 0) (slice_get (latches_of b) (i - right_base))))) (lt_false i left_base h)

  left_inputs : (last : ℕ) (p : P) (i k : ℕ) → IsInputNumber a left p i → reset_bits last i k ≡ l (last - (last - k)) p
  left_inputs last p i k h = low_bits last i k (based.left_inputs p i h) ∙ row_left a b left right numbered l r n alike.equal_inputs (last - (last - k)) p i h

  right_inputs : (last : ℕ) → last < n → (q : Q) (i k : ℕ) → IsInputNumber b right q i → reset_bits last i k ≡ r (last - (last - k)) q
  right_inputs last h q i k number =
      low_bits last i k (based.right_inputs q i number) ∙ row_right a b left right numbered l r n alike.equal_inputs (last - (last - k)) (omega arith) q i number

  left_power : (last j : ℕ) (u : P) → slice_get (latches_of a) j ≡ Some u → reset_bits last (left_base + j) 0 ≡ l 0 u
  left_power last j u at =
      let low = slice_get_within (latches_of a) j u at in
      let limit = based.latches in
      high_bits last (left_base + j) 0 (omega arith)
      ∙ (ap (λ t. cond t (value_at (l 0) (slice_get (latches_of a) (left_base + j - left_base))) (value_at (r 0) (slice_get (latches_of b) (left_base + j - right_base)))) (lt_true (left_base + j) right_base (omega arith))
      ∙ ap (value_at (l 0)) (ap (slice_get (latches_of a)) (let e : left_base + j - left_base ≡ j = omega arith in e) ∙ at))

  right_power : (last j : ℕ) (u : Q) → slice_get (latches_of b) j ≡ Some u → reset_bits last (right_base + j) 0 ≡ r 0 u
  right_power last j u at =
      let limit = based.latches in
      high_bits last (right_base + j) 0 (omega arith)
      ∙ (ap (λ t. cond t (value_at (l 0) (slice_get (latches_of a) (right_base + j - left_base))) (value_at (r 0) (slice_get (latches_of b) (right_base + j - right_base)))) (lt_false (right_base + j) right_base (omega arith))
      ∙ ap (value_at (r 0)) (ap (slice_get (latches_of b)) (let e : right_base + j - right_base ≡ j = omega arith in e) ∙ at))

  -- where both functions agree under all assignments of which each row is cared for, values are one
  pub reset_same_at : (care : (ℕ → Bool) → Type 0) → HoldsAlong care a left n l → (p : P) (q : Q) (t : ℕ) (left_tree right_tree : Tree ℕ) → t < n →
      ResetUnfolds a left left_base p t left_tree → ResetUnfolds b right right_base q t right_tree →
      ((x : ℕ → ℕ → Bool) → ((k : ℕ) → care (λ i. x i k)) → tree_value x left_tree ≡ tree_value x right_tree) → l t p ≡ r t q
  reset_same_at care along p q t left_tree right_tree h ul ur same =
      let x = reset_bits t in
      let lv : tree_value x left_tree ≡ l t p = reset_tree_is_run a left left_base n l alike.left_run x t h (λ p i k m le. left_inputs t p i k m ∙ ap (λ s. l s p) (let e : t - (t - k) ≡ k = omega arith in e))
      (λ j u at none. left_power t j u at) ul (omega arith) in
      let rv : tree_value x right_tree ≡ r t q = reset_tree_is_run b right right_base n r alike.right_run x t h (λ q i k m le. right_inputs t h q i k m ∙ ap (λ s. r s q) (let e : t - (t - k) ≡ k = omega arith in e))
      (λ j u at none. right_power t j u at) ur (omega arith) in
      sym lv ∙ (same x (λ k. along (t - (t - k)) (omega arith) (λ i. x i k) (λ p i m. left_inputs t p i k m)) ∙ rv)

-- the first initial value of a place is each that it has
pub start_is : (starts : List (Started ℕ)) (u : ℕ) (bit : Bool) → Contains starts (record { place = u; bit = bit }) → (x : Bool) × (start_at starts u ≡ Some x) × Contains starts (record { place = u; bit = x })
start_is [] u bit h = absurd (omega (arith, h.1))
start_is (s ∷ starts) u bit h = go (s.place == u) refl (Contains-cases s (record { place = u; bit = bit }) starts h) (λ k. start_is starts u bit k)
  where
    Found : List (Started ℕ) → Type 0
    Found ss = (x : Bool) × (start_at ss u ≡ Some x) × Contains ss (record { place = u; bit = x })

    go : (t : Bool) → (s.place == u) ≡ t → (s ≡ record { place = u; bit = bit }) ⊎ Contains starts (record { place = u; bit = bit }) → (Contains starts (record { place = u; bit = bit }) → Found starts) → Found (s ∷ starts)
    go true e k later = (
      s.bit,
      ap (λ t. cond t (Some s.bit) (start_at starts u)) e,
      subst (λ (p : ℕ). Contains (s ∷ starts) (record { place = p; bit = s.bit })) (test_same s.place u e) (Contains-head s starts),
    )
    go false e (inl q) later = absurd (let z : (s.place == u) ≡ true = subst (λ (y : Started ℕ). (y.place == u) ≡ true) (sym q) (test_refl u) in cc)
    go false e (inr k) later = let f = later k in (f.0, ap (λ t. cond t (Some s.bit) (start_at starts u)) e ∙ f.1, Contains-tail s _ starts f.2)

pub power_is : (c : Circuit ℕ) → HasStarts c → (u : ℕ) (bit other : Bool) → Contains c.starts (record { place = u; bit = bit }) → power_of (start_at c.starts u) other ≡ bit
power_is c starts u bit other h =
    let f = start_is c.starts u bit h in
    ap (λ o. power_of o other) f.1 ∙ starts.once u f.0 bit f.2 h

-- what stands among the latches is one
pub latch_from : (es : List (Equation ℕ)) (j u : ℕ) → slice_get (filter_map latch_place es) j ≡ Some u → (name : List ℕ) × (next : ℕ) × Contains es (Latch name u next)
latch_from [] j u h = absurd (let k = slice_get_within [] j u h in omega arith)
latch_from (Gate out fanins cover ∷ es) j u h = let l = latch_from es j u h in (l.0, l.1, Contains-tail _ _ es l.2)
latch_from (Port out from ∷ es) j u h = let l = latch_from es j u h in (l.0, l.1, Contains-tail _ _ es l.2)
latch_from (Latch name out next ∷ es) zero u h = (name, next, subst (λ (v : ℕ). Contains (Latch name out next ∷ es) (Latch name v next)) (unwrap h) (Contains-head _ es))
  where
    unwrap : Some out ≡ Some u → out ≡ u
    unwrap q = cc
latch_from (Latch name out next ∷ es) (suc j) u h = let l = latch_from es j u h in (l.0, l.1, Contains-tail _ _ es l.2)

-- and each latch stands there
pub latch_listed : (es : List (Equation ℕ)) (name : List ℕ) (u next : ℕ) → Contains es (Latch name u next) → (j : ℕ) × (slice_get (filter_map latch_place es) j ≡ Some u)
latch_listed [] name u next h = absurd (omega (arith, h.1))
latch_listed (Gate out fanins cover ∷ es) name u next h = go (Contains-cases (Gate out fanins cover) (Latch name u next) es h) (λ k. latch_listed es name u next k)
  where
    go : (Gate out fanins cover ≡ Latch name u next) ⊎ Contains es (Latch name u next) → (Contains es (Latch name u next) → (j : ℕ) × (slice_get (filter_map latch_place es) j ≡ Some u)) →
        (j : ℕ) × (slice_get (filter_map latch_place es) j ≡ Some u)
    go (inl e) later = cc
    go (inr k) later = later k
latch_listed (Port out from ∷ es) name u next h = go (Contains-cases (Port out from) (Latch name u next) es h) (λ k. latch_listed es name u next k)
  where
    go : (Port out from ≡ Latch name u next) ⊎ Contains es (Latch name u next) → (Contains es (Latch name u next) → (j : ℕ) × (slice_get (filter_map latch_place es) j ≡ Some u)) →
        (j : ℕ) × (slice_get (filter_map latch_place es) j ≡ Some u)
    go (inl e) later = cc
    go (inr k) later = later k
latch_listed (Latch own out to ∷ es) name u next h = go (Contains-cases (Latch own out to) (Latch name u next) es h) (λ k. latch_listed es name u next k)
  where
    go : (Latch own out to ≡ Latch name u next) ⊎ Contains es (Latch name u next) → (Contains es (Latch name u next) → (j : ℕ) × (slice_get (filter_map latch_place es) j ≡ Some u)) →
        (j : ℕ) × (slice_get (out ∷ filter_map latch_place es) j ≡ Some u)
    go (inl e) later = (0, ap Some (ap out_of e))
    go (inr k) later = let l = later k in (suc l.0, l.1)

-- The reset run of a net over the inputs of a run from a cycle on, and what is settled after as many cycles as it is deep.
module _ (c : Circuit ℕ) (size : ℕ) (net : IsNet c size) (starts : HasStarts c) where
  abbrev pub fresh : (ℕ → ℕ → Bool) → ℕ → ℕ → ℕ → Bool
  fresh run from = net_run c (λ u. power_of (start_at c.starts u) false) (λ s p. run (s + from) p)

  pub fresh_input : (run : ℕ → ℕ → Bool) (from s p : ℕ) → IsInput c p → fresh run from s p ≡ run (s + from) p
  fresh_input run from s p i = net_run-inputs c size net (λ u. power_of (start_at c.starts u) false) (λ s p. run (s + from) p) s p i

  pub fresh_run : (run : ℕ → ℕ → Bool) (from n : ℕ) → IsResetRun c n (fresh run from)
  fresh_run run from n = record {
    is_run = net_run-runs c size net (λ u. power_of (start_at c.starts u) false) (λ s p. run (s + from) p) n;
    starts = λ u bit h.
        let l = starts.of_latches u bit h in
        net_run-power c size net (λ u. power_of (start_at c.starts u) false) (λ s p. run (s + from) p) l.0 u l.1 l.2 ∙ power_is c starts u bit false h;
  }

  moved_run : (run : ℕ → ℕ → Bool) (from n d : ℕ) → d + from ≤ n → IsRun c n run → IsRun c d (λ s. run (s + from))
  moved_run run from n d le is_run = record {
    meets = λ t h. is_run.meets (t + from) (omega arith);
    carries = λ t h. subst (λ (s : ℕ). All (Carries (run (t + from)) (run s)) c.equations) (let e : t + from + 1 ≡ t + 1 + from = omega arith in e) (is_run.carries (t + from) (omega arith));
  }

  -- a place with an unfolding is an input or a signal of the net
  within_or : {order : List ℕ} {base p t : ℕ} {tree : Tree ℕ} → ResetUnfolds c order base p t tree → IsInput c p ⊎ (p < size)
  within_or {order} {base} {p} (ResetUnfolds.input {i = i} h) = inl (beside_is_input c.inputs order p i h)
  within_or (ResetUnfolds.gate eq each) = inr (All-contains (IsWithin size) c.equations _ net.within eq)
  within_or (ResetUnfolds.port eq rest) = absurd (All-contains IsAbove c.equations _ net.above eq)
  within_or (ResetUnfolds.later eq rest) = inr ((All-contains (IsWithin size) c.equations _ net.within eq).0)
  within_or (ResetUnfolds.started eq start) = inr ((All-contains (IsWithin size) c.equations _ net.within eq).0)
  within_or (ResetUnfolds.free {out = out} j at none) = let l = latch_from c.equations j out at in inr ((All-contains (IsWithin size) c.equations _ net.within l.2).0)

  pub fresh_same : (run : ℕ → ℕ → Bool) (from n D p d : ℕ) → D + from < n → IsRun c n run → IsDepth c NoneEnabled p d → d ≤ D → IsInput c p ⊎ (p < size) → run (D + from) p ≡ fresh run from D p
  fresh_same run from n D p d h is_run depth le place =
      (settled_same c same_or_not (net_can_put c size net) det NoneEnabled (D + 1) (λ s. run (s + from)) (fresh run from) (moved_run run from n (D + 1) (omega arith) is_run) (fresh_run run from (D + 1)).is_run
      (λ s q k i. sym (fresh_input run from s q i)) (mark place) (omega arith)).1
    where
      det : (name : List ℕ) (u next : ℕ) → IsLatch c name u next → IsDetermined c next
      det name u next latch = net_determined c size net next (next_within c size net name u next latch)

      mark : IsInput c p ⊎ (p < size) → Marked c NoneEnabled (λ s. run (s + from)) D p
      mark (inl i) = Marked.input i
      mark (inr low) = (settled_from_depth c size p d net low depth (λ s. run (s + from)) D).1 le

-- the functions of a pair in a cycle agree under the care
pub record EqualUnder {P Q : Type 0} (care : (ℕ → Bool) → Type 0) (a : Circuit P) (b : Circuit Q) (left right : List ℕ) (left_base right_base : ℕ) (p : P) (q : Q) (t : ℕ) : Type 0 where
  pub left_tree : Tree ℕ
  pub right_tree : Tree ℕ
  pub left_unfolds : ResetUnfolds a left left_base p t left_tree
  pub right_unfolds : ResetUnfolds b right right_base q t right_tree
  pub same : (x : ℕ → ℕ → Bool) → ((k : ℕ) → care (λ i. x i k)) → tree_value x left_tree ≡ tree_value x right_tree

-- A pair whose functions agree up to its depth agrees in every cycle: a later one is the depth's, in the reset runs over the inputs
-- that lie so many cycles before.
pub reset_pair_agrees : (care : (ℕ → Bool) → Type 0) (a b : Circuit ℕ) (m n : ℕ) (left right : List ℕ) (left_base right_base : ℕ) → IsNet a m → IsNet b n → HasStarts a → HasStarts b →
    AreNumbered a b left right → AreBased a b left right left_base right_base → (size : ℕ) (l r : ℕ → ℕ → Bool) → AreAlikeFromReset a b size l r → HoldsAlong care a left size l →
    (p q D : ℕ) → IsPairDepth a b p q D → ((t : ℕ) → t ≤ D → EqualUnder care a b left right left_base right_base p q t) → (t : ℕ) → t < size → l t p ≡ r t q
reset_pair_agrees care a b m n left right left_base right_base na nb sa sb numbered based size l r alike along p q D depth equal t h = go (which t D)
  where
    which : (i j : ℕ) → (i ≤ j) ⊎ (j < i)
    which i j = grind arith

    go : (t ≤ D) ⊎ (D < t) → l t p ≡ r t q
    go (inl early) =
        let e = equal t early in
        reset_same_at a b left right left_base right_base numbered based l r size alike care along p q t e.left_tree e.right_tree h e.left_unfolds e.right_unfolds e.same
    go (inr late) =
        ap (λ s. l s p) now
        ∙ (fresh_same a m na sa l from size D p depth.left (omega arith) alike.left_run.is_run depth.left_is (omega (arith, depth.greater)) (within_or a m na sa e.left_unfolds)
        ∙ (reset_same_at a b left right left_base right_base numbered based fl fr (D + 1) moved care held p q D e.left_tree e.right_tree (omega arith) e.left_unfolds e.right_unfolds e.same
        ∙ (sym (fresh_same b n nb sb r from size D q depth.right (omega arith) alike.right_run.is_run depth.right_is (omega (arith, depth.greater)) (within_or b n nb sb e.right_unfolds))
        ∙ ap (λ s. r s q) (sym now))))
      where
        from : ℕ
        from = t - D

        now : t ≡ D + (t - D)
        now = omega arith

        e : EqualUnder care a b left right left_base right_base p q D
        e = equal D (omega arith)

        fl : ℕ → ℕ → Bool
        fl = fresh a m na sa l (t - D)

        fr : ℕ → ℕ → Bool
        fr = fresh b n nb sb r (t - D)

        moved : AreAlikeFromReset a b (D + 1) (fresh a m na sa l (t - D)) (fresh b n nb sb r (t - D))
        moved = record {
          left_run = fresh_run a m na sa l (t - D) (D + 1);
          right_run = fresh_run b n nb sb r (t - D) (D + 1);
          equal_inputs = λ name x y hx hy s k.
              fresh_input a m na sa l (t - D) s x (name, hx) ∙ (alike.equal_inputs name x y hx hy (s + (t - D)) (omega arith) ∙ sym (fresh_input b n nb sb r (t - D) s y (name, hy)));
        }

        held : HoldsAlong care a left (D + 1) (fresh a m na sa l (t - D))
        held s k row are = along (s + (t - D)) (omega arith) row (λ x i number. are x i number ∙ fresh_input a m na sa l (t - D) s x (beside_is_input a.inputs left x i number))

pub equal_resets_agree : EqualResetsAgree
equal_resets_agree a b m n left right left_base right_base na nb sa sb numbered based equal size l r alike t p q h pair =
    let e = equal p q pair in
    reset_pair_agrees (λ row. Unit {0}) a b m n left right left_base right_base na nb sa sb numbered based size l r alike (λ s k row are. tt) p q e.depth e.is_depth
    (λ s le. let x = e.each s le in record { left_tree = x.left_tree; right_tree = x.right_tree; left_unfolds = x.left_unfolds; right_unfolds = x.right_unfolds; same = λ y c. x.same y tt }) t h
