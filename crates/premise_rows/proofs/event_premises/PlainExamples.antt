-- Designs of plain latches, and one whose latch is to be cut open.
use Rattle.std.proofs.Common.{◌≡◌, ℕ, Bool, true, false, List, [], ◌∷◌, None, filter, refl, sym, ap₂, subst, arith}
use Rattle.std.specs.Prelude.{codes, if◌then◌else◌}
use Rattle.circuit_theory.specs.Depth.{HasCycle}
use Rattle.circuit_theory.specs.Names.{is_among}
use Rattle.circuit_theory.specs.Run.{NoneEnabled}
use Rattle.blif_read.specs.Design.{Place, top, walk, circuit_of_design}
use Rattle.flat_net.specs.View.{NetView, circuit_of}
use Rattle.sec_setup.specs.cut_points.Common.{common_names}
use Rattle.sec_setup.specs.Cycles.{AreBroken}
use Rattle.event_setup.specs.Choosing.{HaveNoCycles}
use Rattle.job_base.specs.sec_files.Loading.{Loads}
use Rattle.pair_texts.specs.design_rows.Designs as design
use Rattle.pair_texts.specs.design_rows.Small.{small_late, small_early, small_toggle, IsSmall}
use Rattle.pair_texts.specs.design_rows.Texts.{late, early, toggle}
use Rattle.pair_texts.proofs.design_rows.Places.{is_one_place}
use Rattle.pair_texts.proofs.design_rows.Spelling.{accepted, match, net_is_small}
use Rattle.pair_texts.proofs.design_rows.SpelledTexts.{late_spells, early_spells, toggle_spells}
use Rattle.premise_rows.specs.event_premises.Premises.{RetimedAreComparable, TogglesAreComparable}
use Rattle.premise_rows.proofs.event_premises.Comparing.{broken_events, comparable_events}
use Rattle.premise_rows.proofs.event_premises.Flat.{PassesShallow}
use Rattle.premise_rows.proofs.event_premises.Nets.{flat_of, PassesCounts, shallow_net}
use Rattle.premise_rows.proofs.event_premises.Within.{IsShallowNet}

-- which latches each place reads
abbrev late_cone : Place → List Place
late_cone p = if is_among (codes "y" ∷ []) p.name then top (codes "y") ∷ [] else []

abbrev early_cone : Place → List Place
early_cone p =
    if is_among (codes "p" ∷ []) p.name then top (codes "p") ∷ []
    else if is_among (codes "q" ∷ []) p.name then top (codes "q") ∷ []
    else if is_among (codes "y" ∷ []) p.name then top (codes "p") ∷ top (codes "q") ∷ []
    else []

abbrev toggle_cone : Place → List Place
toggle_cone p = top (codes "q") ∷ []

late_passes : PassesShallow is_one_place late_cone (circuit_of_design design.late None) 10
unfolding circuit_of_design walk
late_passes = record { alone = refl; light = refl; positive = omega arith }

late_counts : PassesCounts design.late 4
unfolding circuit_of_design walk
late_counts = record { no_clock = refl; counted = refl }

early_passes : PassesShallow is_one_place early_cone (circuit_of_design design.early None) 10
unfolding circuit_of_design walk
early_passes = record { alone = refl; light = refl; positive = omega arith }

early_counts : PassesCounts design.early 5
unfolding circuit_of_design walk
early_counts = record { no_clock = refl; counted = refl }

toggle_passes : PassesShallow is_one_place toggle_cone (circuit_of_design design.toggle None) 10
unfolding circuit_of_design walk
toggle_passes = record { alone = refl; light = refl; positive = omega arith }

toggle_counts : PassesCounts design.toggle 3
unfolding circuit_of_design walk
toggle_counts = record { no_clock = refl; counted = refl }

late_shallow : (net : NetView) → Loads late net → IsShallowNet net
late_shallow net l = shallow_net design.late late_cone 10 4 late_passes late_counts (omega arith) (omega arith) net (flat_of late design.late late_spells.format late_spells.models_are net l)

early_shallow : (net : NetView) → Loads early net → IsShallowNet net
early_shallow net l = shallow_net design.early early_cone 10 5 early_passes early_counts (omega arith) (omega arith) net (flat_of early design.early early_spells.format early_spells.models_are net l)

toggle_shallow : (net : NetView) → Loads toggle net → IsShallowNet net
toggle_shallow net l = shallow_net design.toggle toggle_cone 10 3 toggle_passes toggle_counts (omega arith) (omega arith) net (flat_of toggle design.toggle toggle_spells.format toggle_spells.models_are net l)

late_small : (net : NetView) → Loads late net → IsSmall small_late net
late_small net l = net_is_small late design.late small_late late_spells net l

early_small : (net : NetView) → Loads early net → IsSmall small_early net
early_small net l = net_is_small early design.early small_early early_spells net l

toggle_small : (net : NetView) → Loads toggle net → IsSmall small_toggle net
toggle_small net l = net_is_small toggle design.toggle small_toggle toggle_spells net l

-- no latch of either circuit lies on a cycle
module _ (a b : NetView) (left : IsSmall small_late a) (right : IsSmall small_early b) where
  retimed_broken : (expose : Bool) → AreBroken a b expose
  retimed_broken false = (left.acyclic [], right.acyclic [])
  retimed_broken true = (left.acyclic (common_names (circuit_of a) (circuit_of b)), right.acyclic (common_names (circuit_of a) (circuit_of b)))

pub retimed_are_comparable : RetimedAreComparable
retimed_are_comparable s =
    comparable_events late early s (accepted late design.late small_late late_spells) (accepted early design.early small_early early_spells) late_shallow early_shallow
    (λ a b la lb. match small_late small_early a b (late_small a la) (early_small b lb) (λ own others. refl))
    (λ a b la lb. broken_events a b s.expose (retimed_broken a b (late_small a la) (early_small b lb) s.expose))

-- the latch that toggles has one name in both nets, and without it there is no cycle
module _ (a b : NetView) (left : IsSmall small_toggle a) (right : IsSmall small_toggle b) where
  common_is : common_names (circuit_of a) (circuit_of b) ≡ codes "q" ∷ []
  common_is = ap₂ (λ (own others : List (List ℕ)). filter (is_among others) own) left.latches right.latches

  toggles_broken : AreBroken a b true
  toggles_broken =
      subst (λ (names : List (List ℕ)). (HasCycle (circuit_of a) NoneEnabled names → ⊥) × (HasCycle (circuit_of b) NoneEnabled names → ⊥)) (sym common_is) (left.acyclic [], right.acyclic [])

pub toggles_are_comparable : TogglesAreComparable
toggles_are_comparable s open_latches =
    comparable_events toggle toggle s (accepted toggle design.toggle small_toggle toggle_spells) (accepted toggle design.toggle small_toggle toggle_spells) toggle_shallow toggle_shallow
    (λ a b la lb. match small_toggle small_toggle a b (toggle_small a la) (toggle_small b lb) (λ own others. refl))
    (λ a b la lb. subst (λ (e : Bool). HaveNoCycles a b e) (sym open_latches) (broken_events a b true (toggles_broken a b (toggle_small a la) (toggle_small b lb))))
