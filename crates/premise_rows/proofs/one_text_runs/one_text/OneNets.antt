-- What is said of one net that a text loads as is said of all of them.
use Rattle.std.proofs.Common.{◌≡◌, ◌∙◌, ℕ, ◌<◌, zero, suc, Bool, true, false, List, [], ◌∷◌, map, length, filter, get_or, slice_get, Some, refl, sym, ap, ap₂, subst}
use Rattle.std.specs.Prelude.{◌≢◌, All}
use Rattle.std.specs.List.{AllZip, Contains}
use Rattle.std.proofs.lemmas.List.{length-map}
use Rattle.std.proofs.lemmas.Option.{none-some, same_Some}
use Rattle.circuit_theory.specs.declared.Side.{Side}
use Rattle.circuit_theory.specs.Agree.{cut}
use Rattle.circuit_theory.specs.Circuit.{Equation, Gate, Latch, Port, Named, IsLatch}
use Rattle.circuit_theory.specs.Joined.{moved, moved_name}
use Rattle.circuit_theory.specs.Depth.{LatchReads, HasCycle, after_in_round}
use Rattle.circuit_theory.specs.Flattened.{latch_names}
use Rattle.circuit_theory.specs.Interface.{first_mismatch}
use Rattle.circuit_theory.specs.Names.{is_among}
use Rattle.circuit_theory.specs.Places.{IsPlace}
use Rattle.circuit_theory.specs.declared.Mode.TheVariants.{Plain}
use Rattle.circuit_theory.specs.Run.{NoneEnabled}
use Rattle.circuit_theory.specs.Sizes.{IsWeight, IsOver}
use Rattle.circuit_theory.proofs.Lists.{Contains-map_from, map-map, at_of, of_at}
use Rattle.flat_net.specs.declared.parts.LatchAt.{LatchAt}
use Rattle.flat_net.specs.Cut.{no_latch, exposed_names}
use Rattle.flat_net.specs.View.{NetView, circuit_of}
use Rattle.net_assembly.specs.net_alike.Renumbered.{latch_rows, AreRenumbered}
use Rattle.circuit_laws.proofs.Counting.{pairs_map}
use Rattle.net_assembly.proofs.net_alike.Carrying.{edge, forth, turned, cycle_carried, over_carried, weight_carried}
use Rattle.net_assembly.proofs.net_alike.Cutting.{cut_carried, minimal_cuts_are_carried}
use Rattle.swept_queries.proofs.Listed.{zip_left}
use Rattle.sec_setup.specs.cut_points.Common.{common_names}
use Rattle.sec_setup.specs.cut_points.Exposed.{IsToldCycle}
use Rattle.job_base.proofs.design_laws.KeptNames.{latch_names_are}
use Rattle.sec_setup.specs.Cycles.{AreBroken}
use Rattle.plain_check.specs.under_base.compare_base.Compared.{AreTooLarge}
use Rattle.sec_setup.specs.Cuts.{IsChoice, StandInOrder}
use Rattle.outcome_fits.specs.Fitting.{cut_outputs, IsCutOver, IsCutLight}
use Rattle.premise_rows.specs.one_text_runs.one_text.TextNets.{OneNetIsEnough, ToldCyclesAreOne}

names_of_rows : {P : Type 0} (es : List (Equation P)) → latch_names es ≡ latch_names (latch_rows es)
names_of_rows [] = refl
names_of_rows (Gate out fanins cover ∷ es) = names_of_rows es
names_of_rows (Latch name out next ∷ es) = ap (λ (ns : List (List ℕ)). name ∷ ns) (names_of_rows es)
names_of_rows (Port out from ∷ es) = names_of_rows es

names_moved : {P Q : Type 0} (f : P → Q) (es : List (Equation P)) → latch_names (map (moved f) es) ≡ latch_names es
names_moved f [] = refl
names_moved f (Gate out fanins cover ∷ es) = names_moved f es
names_moved f (Latch name out next ∷ es) = ap (λ (ns : List (List ℕ)). name ∷ ns) (names_moved f es)
names_moved f (Port out from ∷ es) = names_moved f es

named_at : (latches : List LatchAt) (j : ℕ) → (get_or latches j no_latch).name ≡ get_or (map (λ (l : LatchAt). l.name) latches) j []
named_at [] j = refl
named_at (l ∷ latches) zero = refl
named_at (l ∷ latches) (suc j) = named_at latches j

exposed_are : (net : NetView) (positions : List ℕ) → exposed_names net positions ≡ map (λ j. get_or (map (λ (l : LatchAt). l.name) net.latches) j []) positions
exposed_are net [] = refl
exposed_are net (j ∷ positions) = ap₂ (λ (n : List ℕ) (ns : List (List ℕ)). n ∷ ns) (named_at net.latches j) (exposed_are net positions)

-- what stands in a mapped list
mapped_at : {X Y : Type 0} (f : X → Y) (xs : List X) (i : ℕ) (y : Y) → slice_get (map f xs) i ≡ Some y → (x : X) × (slice_get xs i ≡ Some x) × (f x ≡ y)
mapped_at f [] i y at = absurd (none-some y at)
mapped_at f (x ∷ xs) zero y at = (x, refl, same_Some (f x) y at)
mapped_at f (x ∷ xs) (suc i) y at = mapped_at f xs i y at

zip_there : {X Y Z : Type 0} (f : Y → Z) (R : X → Y → Type 0) (S : X → Z → Type 0) → ((x : X) (y : Y) → R x y → S x (f y)) → (xs : List X) (ys : List Y) → AllZip R xs ys → AllZip S xs (map f ys)
zip_there f R S step [] [] h = h
zip_there f R S step [] (y ∷ ys) h = absurd h
zip_there f R S step (x ∷ xs) [] h = absurd h
zip_there f R S step (x ∷ xs) (y ∷ ys) h = (step x y h.0, zip_there f R S step xs ys h.1)

module _ (a m : NetView) (to back : ℕ → ℕ) (r : AreRenumbered (circuit_of a) (circuit_of m) to back) where
  -- a cycle that is told
  module _ (without names : List (List ℕ)) (t : IsToldCycle Plain a without names) where
    latch_at : (u : ℕ) → Contains t.latches u → back (to u) ≡ u
    latch_at u h =
        let at = at_of t.latches u h in
        let x = zip_left (λ name u. (next : ℕ) × IsLatch (circuit_of a) name u next) names t.latches t.named at.0 u at.1 in
        r.there_and_back u (IsPlace.driven {e = Latch x.0 u x.2.0} x.2.1 refl)

    latch_here : (name : List ℕ) (u v next : ℕ) → Contains t.latches u → to u ≡ v → IsLatch (circuit_of m) name v next → IsLatch (circuit_of a) name u (back next)
    latch_here name u v next h same l =
        subst (λ (w : ℕ). IsLatch (circuit_of a) name w (back next)) (ap back (sym same) ∙ latch_at u h) (r.from (Latch name v next) l)

    told_there : IsToldCycle Plain m without names
    told_there = record {
      latches = map to t.latches;
      cycle = record {
        some = subst (λ (n : ℕ). 0 < n) (sym (length-map t.latches to)) t.cycle.some;
        distinct = pairs_map to (λ u v. u ≢ v) (λ u v. u ≢ v) t.latches (λ u v hu hv apart same. apart (sym (latch_at u hu) ∙ ap back same ∙ latch_at v hv)) t.cycle.distinct;
        edges = λ i u v hu hv.
            (let x = mapped_at to t.latches i u hu in
            let z = mapped_at to t.latches (after_in_round (length t.latches) i) v (subst (λ (n : ℕ). slice_get (map to t.latches) (after_in_round n i) ≡ Some v) (length-map t.latches to) hv) in
            subst (λ (p : ℕ). LatchReads (circuit_of m) NoneEnabled without p u) z.2
            (subst (λ (q : ℕ). LatchReads (circuit_of m) NoneEnabled without (to z.0) q) x.2
            (edge (circuit_of a) (circuit_of m) to (forth (circuit_of a) (circuit_of m) to back r) without (t.cycle.edges i x.0 z.0 x.1 z.1))));
      };
      least = λ name other u next v after hu hv l k before.
          (let x = mapped_at to t.latches 0 u hu in
          let z = Contains-map_from to t.latches v hv in
          t.least name other x.0 (back next) z.0 (back after) x.1 z.1 (latch_here name x.0 u next (of_at t.latches 0 x.0 x.1) x.2 l) (latch_here other z.0 v after z.1 z.2 k) before);
      named = zip_there to (λ name u. (next : ℕ) × IsLatch (circuit_of a) name u next) (λ name u. (next : ℕ) × IsLatch (circuit_of m) name u next) (λ name u h. (to h.0, r.there (Latch name u h.0) h.1)) names t.latches t.named;
    }

  same_names : latch_names (circuit_of a).equations ≡ latch_names (circuit_of m).equations
  same_names = names_of_rows (circuit_of a).equations ∙ sym (names_moved to (latch_rows (circuit_of a).equations)) ∙ ap latch_names r.latches ∙ sym (names_of_rows (circuit_of m).equations)

  same_latches : map (λ (l : LatchAt). l.name) a.latches ≡ map (λ (l : LatchAt). l.name) m.latches
  same_latches = latch_names_are a ∙ same_names ∙ sym (latch_names_are m)

  same_count : length a.latches ≡ length m.latches
  same_count = sym (length-map a.latches (λ (l : LatchAt). l.name)) ∙ ap length same_latches ∙ length-map m.latches (λ (l : LatchAt). l.name)

  order_there : (names : List (List ℕ)) → StandInOrder a names → StandInOrder m names
  order_there names o = record {
    positions = o.positions;
    in_order = o.in_order;
    within = subst (λ (n : ℕ). All (λ j. j < n) o.positions) same_count o.within;
    named = exposed_are m o.positions ∙ ap (λ (ns : List (List ℕ)). map (λ j. get_or ns j []) o.positions) (sym same_latches) ∙ sym (exposed_are a o.positions) ∙ o.named;
  }

  module _ (names : List (List ℕ)) where
    at_output : (p : ℕ) → Contains (cut_outputs names (circuit_of a)) p → IsPlace (cut names (circuit_of a)) p
    at_output p h =
        let x = Contains-map_from (λ (o : Named ℕ). o.place) (cut names (circuit_of a)).outputs p h in
        subst (IsPlace (cut names (circuit_of a))) x.2 (IsPlace.output {name = x.0.name} x.1)

    outputs_are : map to (cut_outputs names (circuit_of a)) ≡ cut_outputs names (circuit_of m)
    outputs_are =
        let c : AreRenumbered (cut names (circuit_of a)) (cut names (circuit_of m)) to back = cut_carried (circuit_of a) (circuit_of m) to back r names in
        map-map to (λ (o : Named ℕ). o.place) (cut names (circuit_of a)).outputs ∙ sym (map-map (λ (o : Named ℕ). o.place) (moved_name to) (cut names (circuit_of a)).outputs) ∙ ap (map (λ (o : Named ℕ). o.place)) c.outputs

    over_there : IsCutOver names (circuit_of a) → IsCutOver names (circuit_of m)
    over_there o =
        subst (λ (os : List ℕ). IsOver (cut names (circuit_of m)) os 2000000) outputs_are
        ((over_carried (cut names (circuit_of a)) (cut names (circuit_of m)) to back (cut_carried (circuit_of a) (circuit_of m) to back r names) (cut_outputs names (circuit_of a)) at_output 2000000).0 o)

    light_there : IsCutLight names (circuit_of a) → IsCutLight names (circuit_of m)
    light_there o = (
      o.0,
      subst (λ (os : List ℕ). IsWeight (cut names (circuit_of m)) os o.0) outputs_are
          ((weight_carried (cut names (circuit_of a)) (cut names (circuit_of m)) to back (cut_carried (circuit_of a) (circuit_of m) to back r names) (cut_outputs names (circuit_of a)) at_output o.0).0 o.1),
      o.2,
    )

module _ (a b m k : NetView) (to back go come : ℕ → ℕ) (r : AreRenumbered (circuit_of a) (circuit_of m) to back) (s : AreRenumbered (circuit_of b) (circuit_of k) go come) where
  choice_there : (expose : Bool) (names : List (List ℕ)) → IsChoice a b expose names → IsChoice m k expose names
  choice_there expose names c = record {
    minimal = (minimal_cuts_are_carried (circuit_of a) (circuit_of b) (circuit_of m) (circuit_of k) to back go come r s names).0 c.minimal;
    closed = c.closed;
  }

  same_common : common_names (circuit_of a) (circuit_of b) ≡ common_names (circuit_of m) (circuit_of k)
  same_common = ap₂ (λ (own others : List (List ℕ)). filter (is_among others) own) (same_names a m to back r) (same_names b k go come s)

  free_there : (names : List (List ℕ)) → (HasCycle (circuit_of a) NoneEnabled names → ⊥) → HasCycle (circuit_of m) NoneEnabled names → ⊥
  free_there names h c = h ((cycle_carried (circuit_of a) (circuit_of m) to back r names).1 c)

  other_there : (names : List (List ℕ)) → (HasCycle (circuit_of b) NoneEnabled names → ⊥) → HasCycle (circuit_of k) NoneEnabled names → ⊥
  other_there names h c = h ((cycle_carried (circuit_of b) (circuit_of k) go come s names).1 c)

  broken_there : (expose : Bool) → AreBroken a b expose → AreBroken m k expose
  broken_there false h = (free_there [] h.0, other_there [] h.1)
  broken_there true h =
      subst (λ (names : List (List ℕ)). (HasCycle (circuit_of m) NoneEnabled names → ⊥) × (HasCycle (circuit_of k) NoneEnabled names → ⊥)) same_common
      (free_there (common_names (circuit_of a) (circuit_of b)) h.0, other_there (common_names (circuit_of a) (circuit_of b)) h.1)

  large_there : (expose : Bool) (side : Side) → AreTooLarge a b expose side → AreTooLarge m k expose side
  large_there expose side (AreTooLarge.left {names = names} choice order over) = AreTooLarge.left (choice_there expose names choice) (order_there a m to back r names order) (over_there a m to back r names over)
  large_there expose side (AreTooLarge.right {names = names} choice order light over) =
      AreTooLarge.right (choice_there expose names choice) (order_there a m to back r names order) (light_there a m to back r names light) (over_there b k go come s names over)

pub told_cycles_are_one : ToldCyclesAreOne
told_cycles_are_one a m one without names = (
  told_there a m one.to one.back one.circuits without names,
  told_there m a one.back one.to (turned (circuit_of a) (circuit_of m) one.to one.back one.circuits) without names,
)

pub one_net_is_enough : OneNetIsEnough
one_net_is_enough a b m k left right =
    let back_left = turned (circuit_of a) (circuit_of m) left.to left.back left.circuits in
    let back_right = turned (circuit_of b) (circuit_of k) right.to right.back right.circuits in (
      (λ h. ap₂ first_mismatch (sym left.ports) (sym right.ports) ∙ h, λ h. ap₂ first_mismatch left.ports right.ports ∙ h),
      λ expose. (broken_there a b m k left.to left.back right.to right.back left.circuits right.circuits expose, broken_there m k a b left.back left.to right.back right.to back_left back_right expose),
      λ expose side. (large_there a b m k left.to left.back right.to right.back left.circuits right.circuits expose side, large_there m k a b left.back left.to right.back right.to back_left back_right expose side),
    )
