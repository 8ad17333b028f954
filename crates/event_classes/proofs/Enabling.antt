-- The enable of the next latch.
use Rattle.std.proofs.Common.{◌≡◌, ◌<◌, ◌≤◌, ℕ, false, List, [], ◌∷◌, ◌++◌, length, slice_get, Some, refl, inl, inr, arith}
use Rattle.circuit_theory.specs.Tree.{Tree}
use Rattle.circuit_theory.specs.EventFrames.{AreNodeVariables, IsClassTree}
use Rattle.event_nodes.specs.View.{side_of, Enabled, EventCircuitView, IsEventCircuit}
use Rattle.event_nodes.specs.event_variables.Variables.{variables_of}
use Rattle.event_nodes.specs.event_variables.Laws.{IsEnableCareTree}
use Rattle.event_nodes.proofs.event_variables.Meaning.{enable_variables}
use Rattle.circuit_laws.proofs.reset_laws.class_extension.Sides.{sides_have_variables_in_nets}
use Rattle.edbf_unfold.proofs.class_queries.Meaning.{numbered, lits_are_functions}
use Rattle.circuit_theory.specs.declared.Side.{Side}
use Rattle.circuit_theory.specs.declared.Side.TheVariants.{A, B}
use Rattle.circuit_theory.specs.Run.{IsEnabled}
use Rattle.circuit_laws.proofs.event_laws.SideParts.{sides_are_parts_in_nets}
use Rattle.flat_net.specs.declared.parts.LatchAt.{LatchAt}
use Rattle.flat_net.specs.Cut.{latch_at}
use Rattle.flat_net.specs.Sound.{IsSound}
use Rattle.flat_net.specs.View.{circuit_of}
use Rattle.flat_net.proofs.Nets.{sound_is_net}
use Rattle.event_nodes.specs.Nodes.{EventGraphView, IsEventGraph}
use Rattle.edbf_unfold.specs.event_literals.event_walk.Walk.{IsCounting, HasCountedStart, enable_start}
use Rattle.event_nodes.specs.Visited.{CounterView}
use Rattle.std.proofs.lemmas.Option.{slice_get_within}
use Rattle.circuit_theory.specs.Joined.{Either, Left, Right}
use Rattle.event_classes.specs.event_functions.class_totals.Totals.{HaveCounted}
use Rattle.event_classes.proofs.event_functions.class_totals.Going.{totals_go_on}
use Rattle.class_search.specs.event_order.Order.{IsTagOf, place_of}
use Rattle.event_classes.specs.event_functions.class_totals.EnableFunctions.{IsEnableFunctionOf}
use Rattle.event_classes.proofs.event_functions.Covering.{two_roots, care_supports}
use Rattle.event_classes.proofs.event_functions.class_totals.EnableCovering.{own_enable_supports}
use Rattle.class_search.specs.declared.compare.Enable.{Enable}
use Rattle.class_search.specs.Comparing.{IsReadyEnable}
use Rattle.edbf_unfold.specs.class_queries.Enables.{both_of, class_map, IsEnableFunction}
use Rattle.edbf_unfold.specs.class_queries.Laws.{AreKept}
use Rattle.event_classes.specs.declared.map.ClassMap.{ClassMap}
use Rattle.event_classes.specs.Map.{IsEnableOf, IsEnableOn, HasEnableLit}
use Rattle.event_classes.proofs.EnableLits.{left_lit, right_lit}
use Rattle.event_classes.proofs.Setting.{latch_there}

-- an enable function can be asked about
pub ready_enable : (e : EventCircuitView) (w : EventGraphView) (l : LatchAt) (x : Enable) → IsSound e.net → IsEventCircuit e → IsEventGraph w → IsEnableFunctionOf e w l (record { value = x.value; care = x.care; vars = x.vars }) → IsReadyEnable w x
ready_enable e w l x sound kept is function = record {
  value_within = function.value.within;
  care_within = function.care.within;
  in_order = function.vars.in_order;
  covers = two_roots w is x.vars x.value.0 x.care.0 (own_enable_supports e w (enable_start l) x.vars sound kept is function.vars l x.value.0 refl function.value) (care_supports e w (enable_start l) x.vars sound kept is function.vars x.care.0 function.care);
}

-- the variables of an enable function are those of the enable and of its care
pub own_variables : (e : EventCircuitView) (w : EventGraphView) (j : ℕ) (l : LatchAt) (x : Enable) → IsSound e.net → IsEventCircuit e → slice_get e.net.latches j ≡ Some l → Enabled e l.out.0 → IsEnableFunctionOf e w l (record { value = x.value; care = x.care; vars = x.vars }) →
    AreNodeVariables (IsClassTree (side_of e) l.out.0 l.out.0) (variables_of w x.vars)
own_variables e w j l x sound kept at on function =
    let are = enable_variables e w j l false x.vars function.value.low.tree sound kept at on function.value.low.unfolds function.vars in
    record {
      in_order = are.in_order;
      exactly = λ y. (λ h. let t = (are.exactly y).0 h in (t.0, to t.0 t.1, t.2), λ t. (are.exactly y).1 (t.0, from t.0 t.1, t.2));
    }
  where
    to : (t : Tree (List ℕ)) → IsEnableCareTree (side_of e) l.out.0 t → IsClassTree (side_of e) l.out.0 l.out.0 t
    to t (inl k) = inl (inl k)
    to t (inr k) = inr (inl k)

    from : (t : Tree (List ℕ)) → IsClassTree (side_of e) l.out.0 l.out.0 t → IsEnableCareTree (side_of e) l.out.0 t
    from t (inl (inl k)) = inl k
    from t (inl (inr k)) = inl k
    from t (inr (inl k)) = inr k
    from t (inr (inr k)) = inr k

abbrev pub EnableSide : Side → EventCircuitView → EventCircuitView → EventGraphView → ℕ → Enable → Type 0
EnableSide A a b w j x = IsEnableOf a w j x
EnableSide B a b w j x = IsEnableOf b w j x

-- the enable of a latch of one circuit is its enable of both side by side
pub enable_on : (side : Side) (a b : EventCircuitView) (w : EventGraphView) (j : ℕ) (x : Enable) → AreKept a b w → IsTagOf a.net b.net (record { side = side; latch = j }) → EnableSide side a b w j x →
    IsEnabled (both_of a b).circuit (place_of a.net b.net (record { side = side; latch = j })) → IsEnableFunction (both_of a b) w (place_of a.net b.net (record { side = side; latch = j })) x.value.0 x.care.0
enable_on A a b w j x kept within own on =
    let parts = sides_are_parts_in_nets (circuit_of a.net) (circuit_of b.net) (length a.net.drivers) (length b.net.drivers) (sound_is_net a.net kept.left_sound) (sound_is_net b.net kept.right_sound) in
    let at = latch_there a.net j within in
    let is = own (latch_at a.net j) at in
    (lits_are_functions a b w kept).0 j (latch_at a.net j) x.value.0 x.care.0 at ((parts.0 (latch_at a.net j).out.0).1 on) is.value is.care
enable_on B a b w j x kept within own on =
    let parts = sides_are_parts_in_nets (circuit_of a.net) (circuit_of b.net) (length a.net.drivers) (length b.net.drivers) (sound_is_net a.net kept.left_sound) (sound_is_net b.net kept.right_sound) in
    let at = latch_there b.net j within in
    let is = own (latch_at b.net j) at in
    (lits_are_functions a b w kept).1 j (latch_at b.net j) x.value.0 x.care.0 at ((parts.1 (latch_at b.net j).out.0).1 on) is.value is.care

-- and so are they of both circuits side by side
pub own_on : (side : Side) (a b : EventCircuitView) (w : EventGraphView) (j : ℕ) (x : Enable) → AreKept a b w → IsTagOf a.net b.net (record { side = side; latch = j }) → EnableSide side a b w j x → IsEnabled (both_of a b).circuit (place_of a.net b.net (record { side = side; latch = j })) →
    AreNodeVariables (IsClassTree (both_of a b) (place_of a.net b.net (record { side = side; latch = j })) (place_of a.net b.net (record { side = side; latch = j }))) (variables_of w x.vars) × HasEnableLit (both_of a b) w (place_of a.net b.net (record { side = side; latch = j })) x.value.0
own_on A a b w j x kept within own on =
    let na = sound_is_net a.net kept.left_sound in
    let nb = sound_is_net b.net kept.right_sound in
    let parts = sides_are_parts_in_nets (circuit_of a.net) (circuit_of b.net) (length a.net.drivers) (length b.net.drivers) na nb in
    let at = latch_there a.net j within in (
      (sides_have_variables_in_nets (circuit_of a.net) (circuit_of b.net) (length a.net.drivers) (length b.net.drivers) a.order b.order (class_map a b) na nb (numbered a kept.left) (latch_at a.net j).out.0 (variables_of w x.vars)).0
          (own_variables a w j (latch_at a.net j) x kept.left_sound kept.left at ((parts.0 (latch_at a.net j).out.0).1 on) (own (latch_at a.net j) at)),
      left_lit a b w kept j (latch_at a.net j) x.value.0 at (own (latch_at a.net j) at).value,
    )
own_on B a b w j x kept within own on =
    let na = sound_is_net a.net kept.left_sound in
    let nb = sound_is_net b.net kept.right_sound in
    let parts = sides_are_parts_in_nets (circuit_of a.net) (circuit_of b.net) (length a.net.drivers) (length b.net.drivers) na nb in
    let at = latch_there b.net j within in (
      (sides_have_variables_in_nets (circuit_of a.net) (circuit_of b.net) (length a.net.drivers) (length b.net.drivers) a.order b.order (class_map a b) na nb (numbered a kept.left) (latch_at b.net j).out.0 (variables_of w x.vars)).1
          (own_variables b w j (latch_at b.net j) x kept.right_sound kept.right at ((parts.1 (latch_at b.net j).out.0).1 on) (own (latch_at b.net j) at)),
      right_lit a b w kept j (latch_at b.net j) x.value.0 at (own (latch_at b.net j) at).value,
    )

pub side_of_two : (side : Side) (m : ClassMap) (j : ℕ) (x : Enable) → IsEnableOn side m j x → EnableSide side m.left m.right m.events j x
side_of_two A m j x own = own
side_of_two B m j x own = own

-- the enable of the latch with this position is counted
pub parents_of : (w : EventGraphView) → IsEventGraph w → (k n class : ℕ) → slice_get w.children k ≡ Some (n, class) → n ≤ length w.children
parents_of w is k n class at = let below = is.is_tree k n class at in let inside = slice_get_within w.children k (n, class) at in omega (arith, below, inside)

pub left_counts : (a b : EventCircuitView) (w : EventGraphView) (new : List (ℕ × ℕ)) (taken : List (Either ℕ ℕ)) (j : ℕ) (left right more : CounterView) → IsSound a.net → IsSound b.net → IsEventGraph w → j < length a.net.latches → ((l : LatchAt) → slice_get a.net.latches j ≡ Some l → IsCounting a (enable_start l) w.children new left more) →
    ((l : LatchAt) → slice_get a.net.latches j ≡ Some l → HasCountedStart a (enable_start l) new left more) → HaveCounted a b w.children taken left right → HaveCounted a b new (taken ++ Left (latch_at a.net j).out.0 ∷ []) more right
left_counts a b w new taken j left right more sound_a sound_b is within counting start h =
    let at = latch_there a.net j within in
    (totals_go_on a b w.children new taken j (latch_at a.net j) left right more sound_a sound_b (parents_of w is) h).0 at (counting (latch_at a.net j) at) (start (latch_at a.net j) at)

pub right_counts : (a b : EventCircuitView) (w : EventGraphView) (new : List (ℕ × ℕ)) (taken : List (Either ℕ ℕ)) (j : ℕ) (left right more : CounterView) → IsSound a.net → IsSound b.net → IsEventGraph w → j < length b.net.latches → ((l : LatchAt) → slice_get b.net.latches j ≡ Some l → IsCounting b (enable_start l) w.children new right more) →
    ((l : LatchAt) → slice_get b.net.latches j ≡ Some l → HasCountedStart b (enable_start l) new right more) → HaveCounted a b w.children taken left right → HaveCounted a b new (taken ++ Right (latch_at b.net j).out.0 ∷ []) left more
right_counts a b w new taken j left right more sound_a sound_b is within counting start h =
    let at = latch_there b.net j within in
    (totals_go_on a b w.children new taken j (latch_at b.net j) left right more sound_a sound_b (parents_of w is) h).1 at (counting (latch_at b.net j) at) (start (latch_at b.net j) at)
