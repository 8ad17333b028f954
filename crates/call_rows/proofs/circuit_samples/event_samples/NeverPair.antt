-- A latch that never loads is of a class of its own, and no frame has care for it.
use Rattle.std.proofs.Common.{◌≡◌, ℕ, zero, suc, ◌<◌, ◌≤◌, Bool, true, false, List, [], ◌∷◌, refl, sym, ◌∙◌, ap, subst, arith, inl, inr}
use Rattle.std.specs.Prelude.{codes}
use Rattle.std.specs.List.{Contains}
use Rattle.circuit_theory.specs.declared.Mode.TheVariants.{Event}
use Rattle.circuit_theory.specs.Cover.{cover_value}
use Rattle.circuit_theory.specs.Circuit.{Circuit, IsLatch, IsSingleDriven, InCone, Named, Reaches}
use Rattle.circuit_theory.specs.Run.{IsEnabled, NoneEnabled}
use Rattle.circuit_theory.specs.Net.{IsNet, HasDistinctNames}
use Rattle.circuit_theory.specs.Depth.{LatchChain, ChainFrom, IsDepth, LatchPath, LatchReads, LatchesHaveDepths, HasCycle}
use Rattle.circuit_theory.specs.Tree.{Fixed, Branch, Nil, AreNumbered, IsInputNumber, StandsBeside, tree_value}
use Rattle.circuit_theory.specs.Joined.{Either, Left, Right}
use Rattle.circuit_theory.specs.Agree.{cut, EnabledIn}
use Rattle.circuit_theory.specs.Fits.{IsPairDepth}
use Rattle.circuit_theory.specs.Frame.{EventUnfolds, EventUnfoldsAll, ConeLatches, ConeOthers, IsEnable, HasCare}
use Rattle.circuit_theory.specs.Classes.{DiffersFromMember, EnableCare, IsInFirstClass, HasClasses}
use Rattle.circuit_theory.specs.EventQueries.{IsEventPairQuery}
use Rattle.circuit_theory.proofs.Inputs.{beside_is_input}
use Rattle.circuit_theory.proofs.Lists.{only}
use Rattle.circuit_theory.proofs.Numbers.{one_place}
use Rattle.circuit_laws.proofs.JoinedParts.{joined_single, joined_number_once}
use Rattle.circuit_laws.proofs.event_laws.EventTrees.{one_enable}
use Rattle.assume_laws.specs.Assume.{ReadsInputs}
use Rattle.assume_laws.specs.settle_laws.Settles.{HaveNoCare, HaveNoCareUnder}
use Rattle.call_rows.proofs.circuit_samples.NetTest.{net_test-sound, numbers_distinct-sound}
use Rattle.call_rows.proofs.circuit_samples.Each.{each_latch, each_split}
use Rattle.call_rows.specs.circuit_samples.event_samples.Always.{nothing, nothing_cover, one_always}
use Rattle.call_rows.specs.circuit_samples.event_samples.Never.{never_loads, never_both, one_class, never_side, never_query}
use Rattle.call_rows.specs.circuit_samples.event_samples.Premises.{AreEventSides, AreExposedSides}

left_net : IsNet never_loads 2
left_net = net_test-sound never_loads 2 refl

pub right_net : IsNet nothing 2
right_net = net_test-sound nothing 2 refl

abbrev one_number : List ℕ
one_number = 0 ∷ []

once : (p q i : ℕ) → StandsBeside never_loads.inputs one_number p i → StandsBeside never_loads.inputs one_number q i → p ≡ q
once p q i h k = one_place never_loads.inputs one_number (numbers_distinct-sound one_number refl) p q i h k

numbered : AreNumbered never_loads nothing one_number one_number
numbered = record {
  left_once = λ p q i h k. once p q i h k;
  right_once = λ p q i h k. once p q i h k;
  shared = λ p q i h k. let n = beside_is_input never_loads.inputs one_number p i h in (n.0, n.1, subst (λ z. Contains nothing.inputs (record { name = n.0; place = z })) (once p q i h k) n.1);
}

abbrev On : Either ℕ ℕ → Type 0
On = IsEnabled never_both

single : IsSingleDriven never_both
single = joined_single never_loads nothing 2 2 left_net right_net

number_once : (p : Either ℕ ℕ) (i j : ℕ) → IsInputNumber never_both never_side.order p i → IsInputNumber never_both never_side.order p j → i ≡ j
number_once p i j h k = joined_number_once never_loads nothing 2 2 left_net right_net one_number one_number refl p i j h k

q_latch : IsLatch never_both (codes "q") (Left 1) (Left 1)
q_latch = (0, omega arith, refl)

-- q is the one latch
latch_is : (name : List ℕ) (u next : Either ℕ ℕ) → IsLatch never_both name u next → (Left 1 ≡ u) × (Left 1 ≡ next)
latch_is name u next latch = each_latch (λ m v to. (Left 1 ≡ v) × (Left 1 ≡ to)) never_both.equations ((refl, refl), tt) name u next latch

pub q_enabled : IsEnabled never_both (Left 1)
q_enabled = record {
  name = codes "q";
  next = Left 1;
  latch = q_latch;
  self_edge = (inr (codes "q", Left 1, q_latch), Reaches.here);
  rises = λ x low high l h e. h.put;
}

no_others : (u w : Either ℕ ℕ) → ConeOthers never_both On u w → ⊥
no_others u w others =
    let l = latch_is others.0 u others.1 others.2 in
    let r = latch_is others.3.0 w others.3.1 others.3.2 in
    others.4 (subst On l.0 q_enabled) (sym r.0 ∙ l.0)

short : {u : Either ℕ ℕ} {n : ℕ} → LatchChain never_both On u n → n ≤ 1
short (LatchChain.last latch) = omega arith
short (LatchChain.more {u = u} {v = v} e rest) = absurd (no_others u v (e.name, e.next, e.latch, (e.other_name, e.other_next, e.other, e.cone.1), λ en q. e.no_self_edge en (sym q)))

depth_of : (u : Either ℕ ℕ) → InCone never_both u u → Left 1 ≡ u → IsDepth never_both On u 1
depth_of u cone e = record { reached = inr (u, cone, subst (λ v. LatchChain never_both On v 1) e (LatchChain.last {next = Left 1} {name = codes "q"} q_latch)); greatest = greatest }
  where
    greatest : (k : ℕ) → ChainFrom never_both On u k → k ≤ 1
    greatest k (inl h) = omega arith
    greatest k (inr x) = short x.2

depths : LatchesHaveDepths never_both On
depths name u next latch = (1, depth_of u (inr (name, next, latch), Reaches.here) (latch_is name u next latch).0)

-- its enable is 0 everywhere
q_enable : (bits : ℕ → List ℕ → Bool) (node : List ℕ) → IsEnable never_side On bits (Left 1) node false
unfolding tree_value
q_enable bits node = IsEnable.own {name = codes "q"} {next = Left 1} {low = Fixed false} {high = Fixed true} q_enabled q_latch EventUnfolds.fixed EventUnfolds.fixed refl

q_enable_is : (bits : ℕ → List ℕ → Bool) (node : List ℕ) (x : Bool) → IsEnable never_side On bits (Left 1) node x → x ≡ false
q_enable_is bits node x h = one_enable never_side On single number_once bits (Left 1) node x false h (q_enable bits node)

enable_care : (bits : ℕ → List ℕ → Bool) → EnableCare never_side bits (Left 1)
enable_care bits [] v h = absurd (no_others (Left 1) v h)
enable_care bits (k ∷ node) v h = absurd (no_others h.0 v h.3)

true_not_false : true ≡ false → ⊥
true_not_false e = cc

-- so no frame has care for it
no_frame : (bits : ℕ → List ℕ → Bool) → HasCare never_side On (ConeLatches never_both (Left 1)) bits → ⊥
no_frame bits care = true_not_false (q_enable_is bits (1 ∷ []) true (care [] (Left 1) (codes "q", Left 1, q_latch, Reaches.here)))

classes : HasClasses never_side
classes = record {
  numbered = refl;
  order = Left 1 ∷ [];
  is_order = record {
    all = λ u en. subst (Contains (Left 1 ∷ [])) (latch_is en.name u en.next en.latch).0 (0, omega arith, refl);
    enabled = λ u h. subst On (only (Left 1) u h) q_enabled;
    in_order = λ i j d l h. absurd (omega arith);
  };
  is_map = record { plain = λ name u next latch off. absurd (off (subst On (latch_is name u next latch).0 q_enabled)); each = λ front after v e. each_split (IsInFirstClass never_side) (Left 1 ∷ []) (first, tt) front after v e };
}
  where
    first : IsInFirstClass never_side [] (Left 1)
    first = record { not_past_next = omega arith; joins = λ l. absurd (omega (arith, l)); not_earlier = earlier }
      where
        earlier : (k : ℕ) → k < 1 → DiffersFromMember never_side [] k (Left 1)
        earlier zero h = record { bits = λ i node. false; care = enable_care (λ i node. false); off = q_enable (λ i node. false) [] }
        earlier (suc k) h = absurd (omega (arith, h))

pub never_sides : AreEventSides never_loads nothing 2 2 (0 ∷ []) (0 ∷ []) one_class
never_sides = record { left_net = left_net; right_net = right_net; numbered = numbered; left_long = refl; right_long = refl; classes = classes; depths = depths }

pub pair_without_care : HaveNoCare never_side (Left 1) (Right 1)
pair_without_care bits l r = no_frame bits l

pub side_without_care : HaveNoCare never_side (Left 1) (Left 1)
side_without_care bits l r = no_frame bits l

pub pair_without_care_under : HaveNoCareUnder one_always never_side (Left 1) (Right 1)
pair_without_care_under bits h = no_frame bits h.0.0

left_value : (bits : ℕ → List ℕ → Bool) → false ≡ tree_value bits (Fixed false)
unfolding tree_value
left_value bits = refl

no_bit : cover_value nothing_cover [] ≡ false
unfolding cover_value
no_bit = refl

right_value : (bits : ℕ → List ℕ → Bool) → false ≡ tree_value bits (Branch nothing_cover Nil)
unfolding tree_value
right_value bits = sym no_bit

-- the query of the pair
pub never_asks : IsEventPairQuery never_side (Left 1) (Right 1) never_query
never_asks = record {
  left_tree = Fixed false;
  right_tree = Branch nothing_cover Nil;
  left_unfolds = EventUnfolds.held {name = codes "q"} {next = Left 1} q_latch tt q_enabled EventUnfolds.fixed;
  right_unfolds = EventUnfolds.gate {fanins = []} (1, omega arith, refl) EventUnfoldsAll.none;
  left = left_value;
  right = right_value;
  care = λ bits. (λ e. absurd (true_not_false (sym e)), λ h. absurd (no_frame bits h.0));
}

-- no latch is exposed
left_latch : (name : List ℕ) (u next : ℕ) → IsLatch never_loads name u next → (codes "q" ≡ name) × (1 ≡ u) × (1 ≡ next)
left_latch name u next latch = each_latch (λ m v to. (codes "q" ≡ m) × (1 ≡ v) × (1 ≡ to)) never_loads.equations ((refl, refl, refl), tt) name u next latch

right_latch : (name : List ℕ) (u next : ℕ) → IsLatch nothing name u next → ⊥
right_latch name u next latch = each_latch (λ m v to. ⊥) nothing.equations tt name u next latch

place_is : (name : List ℕ) (p : ℕ) → Contains never_loads.inputs (record { name = name; place = p }) → 0 ≡ p
place_is name p h = ap (λ (n : Named ℕ). n.place) (only (record { name = codes "a"; place = 0 }) (record { name = name; place = p }) h)

name_is : (name : List ℕ) (p : ℕ) → Contains never_loads.inputs (record { name = name; place = p }) → codes "a" ≡ name
name_is name p h = ap (λ (n : Named ℕ). n.name) (only (record { name = codes "a"; place = 0 }) (record { name = name; place = p }) h)

letter : codes "a" ≡ codes "q" → ⊥
letter e = let k = one_letter 97 113 e in omega (arith, k)
  where
    one_letter : (x y : ℕ) → x ∷ [] ≡ y ∷ [] → x ≡ y
    one_letter x y q = cc

left_names : HasDistinctNames never_loads
left_names = record {
  inputs = λ name p q h k. sym (place_is name p h) ∙ place_is name q k;
  latches = λ name u next v next' l r. sym (left_latch name u next l).1 ∙ (left_latch name v next' r).1;
  apart = λ name p u next h l. letter (name_is name p h ∙ sym (left_latch name u next l).0);
}

right_names : HasDistinctNames nothing
right_names = record {
  inputs = λ name p q h k. sym (place_is name p h) ∙ place_is name q k;
  latches = λ name u next v next' l r. absurd (right_latch name u next l);
  apart = λ name p u next h l. right_latch name u next l;
}

left_enabled : IsEnabled never_loads 1
left_enabled = record {
  name = codes "q";
  next = 1;
  latch = (0, omega arith, refl);
  self_edge = (inr (codes "q", 1, (0, omega arith, refl)), Reaches.here);
  rises = λ x low high l h e. h.put;
}

left_free : HasCycle never_loads (EnabledIn Event never_loads) [] → ⊥
left_free (u, path) = go path
  where
    none : {u v : ℕ} → LatchReads never_loads (IsEnabled never_loads) [] u v → ⊥
    none {u} {v} e =
        let l = left_latch e.name u e.next e.latch in
        let r = left_latch e.other_name v e.other_next e.other in
        e.no_self_edge (subst (IsEnabled never_loads) l.1 left_enabled) (sym l.1 ∙ r.1)

    go : {u v : ℕ} → LatchPath never_loads (IsEnabled never_loads) [] u v → ⊥
    go (LatchPath.edge e) = none e
    go (LatchPath.step e rest) = none e

right_free : HasCycle nothing (EnabledIn Event nothing) [] → ⊥
right_free (u, path) = go path
  where
    none : {u v : ℕ} → LatchReads nothing (IsEnabled nothing) [] u v → ⊥
    none {u} e = right_latch e.name u e.next e.latch

    go : {u v : ℕ} → LatchPath nothing (IsEnabled nothing) [] u v → ⊥
    go (LatchPath.edge e) = none e
    go (LatchPath.step e rest) = none e

left_cut : cut [] never_loads ≡ never_loads
unfolding cut
left_cut = refl

right_cut : cut [] nothing ≡ nothing
unfolding cut
right_cut = refl

pub never_exposed_sides : AreExposedSides never_loads nothing 2 2 [] (0 ∷ []) (0 ∷ []) one_class
never_exposed_sides = record {
  left_net = left_net;
  right_net = right_net;
  left_names = left_names;
  right_names = right_names;
  minimal = record { common = λ name h. absurd (omega (arith, h.1)); left_free = left_free; right_free = right_free; needed = λ i h. absurd (omega (arith, h)) };
  sides = subst (λ (a : Circuit ℕ). AreEventSides a (cut [] nothing) 2 2 (0 ∷ []) (0 ∷ []) one_class) (sym left_cut) (subst (λ (b : Circuit ℕ). AreEventSides never_loads b 2 2 (0 ∷ []) (0 ∷ []) one_class) (sym right_cut) never_sides);
}

pub never_reads : ReadsInputs one_always never_loads (0 ∷ [])
never_reads = record {
  each = refl;
  found = λ p i h. (codes "a", 0, own p i h, (0, omega arith, refl), same p i h);
  numbered = λ name p i q own other mine. inl (place_is name q other, (at_zero p i mine).1);
}
  where
    at_zero : (p i : ℕ) → StandsBeside one_always.circuit.inputs (0 ∷ []) p i → (0 ≡ p) × (0 ≡ i)
    at_zero p i (inl h) = h
    at_zero p i (inr h) = absurd h

    own : (p i : ℕ) → StandsBeside one_always.circuit.inputs (0 ∷ []) p i → Contains one_always.circuit.inputs (record { name = codes "a"; place = p })
    own p i h = subst (λ z. Contains one_always.circuit.inputs (record { name = codes "a"; place = z })) (at_zero p i h).0 (0, omega arith, refl)

    same : (p i : ℕ) → StandsBeside one_always.circuit.inputs (0 ∷ []) p i → StandsBeside never_loads.inputs (0 ∷ []) 0 i
    same p i h = inl (refl, (at_zero p i h).1)

-- the constant against itself is settled from the beginning
pub constant_depth : IsPairDepth nothing nothing 1 1 0
constant_depth = record { left = 0; right = 0; left_is = at_depth; right_is = at_depth; greater = refl }
  where
    none : (k : ℕ) → ChainFrom nothing NoneEnabled 1 k → k ≤ 0
    none k (inl h) = omega (arith, h)
    none k (inr x) = absurd (of x.2)
      where
        of : {u : ℕ} {n : ℕ} → LatchChain nothing NoneEnabled u n → ⊥
        of (LatchChain.last {u = u} {next = next} {name = name} latch) = right_latch name u next latch
        of (LatchChain.more {u = u} e rest) = right_latch e.name u e.next e.latch

    at_depth : IsDepth nothing NoneEnabled 1 0
    at_depth = record { reached = inl refl; greatest = none }
