-- The pairs' signals of one circuit in cycles: what is unfolded, and a refusal because of it.
use Rattle.std.proofs.Common.{◌≡◌, ◌∙◌, ℕ, ◌+◌, ◌<◌, List, [], length, slice_get, Some, Err, refl, sym, ap, subst, arith, inl, inr}
use Rattle.std.specs.Prelude.{◌⊎◌}
use Rattle.std.specs.List.{All, Contains}
use Rattle.circuit_theory.proofs.Lists.{All-from_each}
use Rattle.circuit_theory.specs.declared.Side.{Side}
use Rattle.circuit_theory.specs.declared.Side.TheVariants.{A, B}
use Rattle.circuit_laws.specs.reset_laws.Weight.{IsResetOver}
use Rattle.flat_net.specs.View.{NetView, circuit_of}
use Rattle.aig.specs.declared.node.Node.{Node}
use Rattle.cbf_unfold.specs.declared.unfold_places.signal_function.Unfolded.{Unfolded}
use Rattle.sec_setup.specs.declared.ports.pairs.SignalPair.{SignalPair}
use Rattle.sec_setup.specs.declared.setup.Setup.{Setup}
use Rattle.sec_setup.specs.ports.Pairs.{outputs_of}
use Rattle.reset_form.specs.declared.reset_functions.bases.Bases.{Bases}
use Rattle.reset_form.specs.declared.reset_functions.error.ResetError.{ResetError}
use Rattle.reset_form.specs.declared.reset_functions.error.ResetError.TheVariants as refused
use Rattle.reset_form.specs.reset_unfold.Places.{starts_of}
use Rattle.reset_form.specs.reset_functions.Pairs.{IsRefusalOf, IsTooLarge}
use Rattle.reset_form.specs.declared.reset_functions.functions.Functions.{Functions}
use Rattle.reset_form.specs.reset_unfold.View.{ResetView}
use Rattle.reset_form.specs.reset_unfold.Unfolded.{FitsReset}
use Rattle.cycle_search.specs.declared.apart.CycleFunctions.{CycleFunctions}
use Rattle.cycle_search.specs.Apart.{AreApart, AreTwo}
use Rattle.cycle_search.specs.Cycles.{Compared, AreFunctionsIn}
use Rattle.cycle_search.specs.Outputs.{side_of, IsApart, IsSideOf, IsDoneOrIn, HasDoneIn, HasDoneBefore, IsOutputUpTo, IsOneTooLarge}
use Rattle.cycle_search.specs.Settings.{IsSetting}
use Rattle.cycle_search.proofs.PairsIn.{own_pairs}

-- each pair's signal is unfolded
pub done_of : (side : Side) (cycle : ℕ) (pairs : List SignalPair) (old new : List (ℕ × ℕ)) → HasDoneIn side pairs cycle old new → All (λ (x : SignalPair). Contains new (cycle, side_of side x)) pairs
done_of side cycle pairs old new done = All-from_each (λ (x : SignalPair). Contains new (cycle, side_of side x)) pairs (λ x there. (done (cycle, side_of side x)).1 (inr (refl, (x, there, refl))))

-- functions of a net are those of the same net with the same numbers
apart_as : (n m : NetView) → m ≡ n → (order numbers : List ℕ) → numbers ≡ order → (base first : ℕ) → first ≡ base → (g : List Node) (places : List (ℕ × ℕ)) (s cycle other : ℕ) (u : Unfolded) → IsApart m numbers first g places s cycle other u → IsApart n order base g places s cycle other u
apart_as n m net order numbers order_is base first base_is g places s cycle other u is =
    subst (λ (k : ℕ). IsApart n order k g places s cycle other u) base_is (subst (λ (l : List ℕ). IsApart n l first g places s cycle other u) order_is (subst (λ (k : NetView). IsApart k numbers first g places s cycle other u) net is))

-- an unfolder fits the same graph and table
pub fits_as : (u : ResetView) (g h : List Node) (places more : List (ℕ × ℕ)) → h ≡ g → more ≡ places → FitsReset u g places → FitsReset u h more
fits_as u g h places more aig table fits = subst (λ (k : List Node). FitsReset u k more) (sym aig) (subst (λ (m : List (ℕ × ℕ)). FitsReset u g m) (sym table) fits)

-- the functions of the pairs are those of the setup's
pub functions_of : (s : Setup) (b : Bases) (f : Functions) (cycle : ℕ) (u v : ResetView) (g : List Node) (places : List (ℕ × ℕ)) (pairs : List SignalPair) (found : CycleFunctions) (left right : List Unfolded) → AreApart u v g places cycle pairs found →
    u.net ≡ s.left.now → u.order ≡ s.orders.left → u.base ≡ b.left → v.net ≡ s.right.now → v.order ≡ s.orders.right → v.base ≡ b.right → f.aig ≡ g → f.places ≡ places → pairs ≡ s.pairs → left ≡ found.left.items → right ≡ found.right.items →
    AreFunctionsIn s b f cycle left right
functions_of s b f cycle u v g places pairs found left right is left_net left_order left_base right_net right_order right_base aig table own left_same right_same = record {
  left_each = ap length left_same ∙ (is.left_each ∙ ap length own);
  right_each = ap length right_same ∙ (is.right_each ∙ ap length own);
  left_are = λ i x l r hx hl hr. apart_as s.left.now u.net left_net s.orders.left u.order left_order b.left u.base left_base f.aig f.places x.left.0 cycle r.lit.0 l (moved u x.left.0 r.lit.0 l (two i x l r hx hl hr).left);
  right_are = λ i x l r hx hl hr. apart_as s.right.now v.net right_net s.orders.right v.order right_order b.right v.base right_base f.aig f.places x.right.0 cycle l.lit.0 r (moved v x.right.0 l.lit.0 r (two i x l r hx hl hr).right);
}
  where
    two : (i : ℕ) (x : SignalPair) (l r : Unfolded) → slice_get s.pairs i ≡ Some x → slice_get left i ≡ Some l → slice_get right i ≡ Some r → AreTwo u v g places cycle x l r
    two i x l r hx hl hr = is.are i x l r (ap (λ (ps : List SignalPair). slice_get ps i) own ∙ hx) (ap (λ (us : List Unfolded). slice_get us i) (sym left_same) ∙ hl) (ap (λ (us : List Unfolded). slice_get us i) (sym right_same) ∙ hr)

    moved : (w : ResetView) (t other : ℕ) (y : Unfolded) → IsApart w.net w.order w.base g places t cycle other y → IsApart w.net w.order w.base f.aig f.places t cycle other y
    moved w t other y a = subst (λ (h : List Node). IsApart w.net w.order w.base h f.places t cycle other y) (sym aig) (subst (λ (m : List (ℕ × ℕ)). IsApart w.net w.order w.base g m t cycle other y) (sym table) a)

-- all cycles up to this one
pub done_all : (side : Side) (cycle : ℕ) (pairs items : List SignalPair) → items ≡ pairs → (old new : List (ℕ × ℕ)) → HasDoneBefore side pairs cycle old → HasDoneIn side items cycle old new → HasDoneBefore side pairs (cycle + 1) new
done_all side cycle pairs items same old new before here p = (λ h. forth ((here p).0 h), λ h. (here p).1 (back h.0 h.1 (order p.0 cycle h.0)))
  where
    order : (i j : ℕ) → i < j + 1 → (i < j) ⊎ (i ≡ j)
    order i j h = grind arith

    as_pair : (s : ℕ) → IsSideOf side items s → IsSideOf side pairs s
    as_pair s h = subst (λ (ps : List SignalPair). IsSideOf side ps s) same h

    as_item : (s : ℕ) → IsSideOf side pairs s → IsSideOf side items s
    as_item s h = subst (λ (ps : List SignalPair). IsSideOf side ps s) (sym same) h

    forth : IsDoneOrIn side items cycle old p → (p.0 < cycle + 1) × IsSideOf side pairs p.1
    forth (inl h) = let b = (before p).0 h in (omega (arith, b.0), b.1)
    forth (inr e) = (omega (arith, e.0), as_pair p.1 e.1)

    back : p.0 < cycle + 1 → IsSideOf side pairs p.1 → (p.0 < cycle) ⊎ (p.0 ≡ cycle) → IsDoneOrIn side items cycle old p
    back h own (inl l) = inl ((before p).1 (l, own))
    back h own (inr e) = inr (e, as_item p.1 own)

-- what is unfolded up to a cycle are outputs
outputs_up_to : (side : Side) (n : NetView) (cycle : ℕ) (pairs items : List SignalPair) → items ≡ pairs → ((x : SignalPair) → Contains pairs x → Contains (outputs_of n) (side_of side x)) → (done : List (ℕ × ℕ)) → HasDoneBefore side pairs cycle done →
    (p : ℕ × ℕ) → IsDoneOrIn side items cycle done p → IsOutputUpTo n cycle p
outputs_up_to side n cycle pairs items same own done before p h = go h
  where
    shown : IsSideOf side pairs p.1 → Contains (outputs_of n) p.1
    shown k = subst (Contains (outputs_of n)) (sym k.2) (own k.0 k.1)

    go : IsDoneOrIn side items cycle done p → IsOutputUpTo n cycle p
    go (inl k) = let b = (before p).0 k in (omega (arith, b.0), shown b.1)
    go (inr e) = (omega (arith, e.0), shown (subst (λ (ps : List SignalPair). IsSideOf side ps p.1) same e.1))

large_as : (n m : NetView) → m ≡ n → (P Q : ℕ × ℕ → Type 0) → ((p : ℕ × ℕ) → P p → Q p) → IsTooLarge m P → IsTooLarge n Q
large_as n m net P Q wider h = (h.0, λ p k. wider p (h.1 p k), subst (λ (k : NetView). IsResetOver (circuit_of k) (starts_of h.0) 2000000) net h.2)

module _ (s : Setup) (setting : IsSetting s) (b : Bases) (cycle conflicts : ℕ) where
  pub left_refused : (m : NetView) → m ≡ s.left.now → (items : List SignalPair) → items ≡ s.pairs → (done : List (ℕ × ℕ)) → HasDoneBefore A s.pairs cycle done → (e : ResetError) → IsRefusalOf A m (IsDoneOrIn A items cycle done) e → Compared s b cycle conflicts (Err e)
  left_refused m net items same done before (refused.TooLarge other) h =
      subst (λ (x : Side). IsOneTooLarge s.left.now s.right.now cycle x) (sym h.0)
      (large_as s.left.now m net (IsDoneOrIn A items cycle done) (IsOutputUpTo s.left.now cycle) (outputs_up_to A s.left.now cycle s.pairs items same (own_pairs s setting).left done before) h.1)
  left_refused m net items same done before refused.NoMemory h = tt

  pub right_refused : (m : NetView) → m ≡ s.right.now → (items : List SignalPair) → items ≡ s.pairs → (done : List (ℕ × ℕ)) → HasDoneBefore B s.pairs cycle done → (e : ResetError) → IsRefusalOf B m (IsDoneOrIn B items cycle done) e → Compared s b cycle conflicts (Err e)
  right_refused m net items same done before (refused.TooLarge other) h =
      subst (λ (x : Side). IsOneTooLarge s.left.now s.right.now cycle x) (sym h.0)
      (large_as s.right.now m net (IsDoneOrIn B items cycle done) (IsOutputUpTo s.right.now cycle) (outputs_up_to B s.right.now cycle s.pairs items same (own_pairs s setting).right done before) h.1)
  right_refused m net items same done before refused.NoMemory h = tt

-- before the first cycle nothing is unfolded
pub none_before : (side : Side) (pairs : List SignalPair) (done : List (ℕ × ℕ)) → done ≡ [] → HasDoneBefore side pairs 0 done
none_before side pairs done e p = (λ h. absurd (nothing (subst (λ (l : List (ℕ × ℕ)). Contains l p) e h)), λ h. absurd (omega (arith, h.0)))
  where
    nothing : Contains [] p → ⊥
    nothing h = omega (arith, h.1)
