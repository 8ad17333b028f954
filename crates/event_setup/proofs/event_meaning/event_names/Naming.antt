-- What is found can be told by names.
use Rattle.std.proofs.Common.{◌≡◌, ◌<◌, ℕ, List, [], ◌∷◌, length, Option, Some, None, refl, sym, ap, subst, ◌∙◌}
use Rattle.std.specs.List.{All, AllZip, Contains}
use Rattle.std.proofs.lemmas.List.Elements.{All-cons, All-nil, All-weaker}
use Rattle.circuit_theory.specs.declared.Side.{Side}
use Rattle.circuit_theory.specs.declared.Side.TheVariants.{A, B}
use Rattle.circuit_theory.specs.Joined.{Either}
use Rattle.circuit_theory.specs.Query.{Variable}
use Rattle.circuit_theory.proofs.Lists.{Contains-head, Contains-map, Contains-map_from, Contains-tail, length-map, of_at}
use Rattle.flat_net.specs.declared.parts.LatchAt.{LatchAt}
use Rattle.flat_net.specs.declared.parts.Port.{Port}
use Rattle.flat_net.specs.Sound.{IsSound}
use Rattle.flat_net.specs.View.{NetView, named, circuit_of}
use Rattle.sec_setup.specs.declared.ports.pairs.SignalPair.{SignalPair}
use Rattle.sec_setup.specs.ports.Pairs.{ArePairsOf, outputs_of}
use Rattle.sec_base.specs.declared.basics.Tag.{Tag}
use Rattle.sec_setup.specs.Setup.{AreColumns}
use Rattle.obligations.specs.declared.outcome.verdict.PairResult.{PairResult}
use Rattle.event_setup.specs.event_meaning.event_names.event_fits.FrameBit.{FrameBit}
use Rattle.event_nodes.specs.View.{EventCircuitView}
use Rattle.class_search.specs.event_order.Order.{IsTagOf, net_at}
use Rattle.event_setup.specs.event_meaning.event_names.event_fits.Separations.{Separates, SeparatesBy}
use Rattle.event_setup.specs.event_meaning.event_names.event_fits.Told.{TellsVariable}
use Rattle.event_setup.specs.event_meaning.event_names.event_fits.ToldSeparation.{ToldSeparation}
use Rattle.event_setup.specs.event_meaning.event_names.event_fits.Findings.{IsFirstUnshown, VerdictFits}
use Rattle.event_setup.specs.event_meaning.event_names.event_fits.EventPairs.{EventPairs}
use Rattle.event_setup.specs.event_meaning.event_names.event_fits.EventVerdict.{EventVerdict}
use Rattle.event_setup.specs.event_meaning.event_names.event_fits.EventVerdict.TheVariants as found
use Rattle.event_setup.specs.event_meaning.event_names.event_fits.UnshownPair.{UnshownPair}
use Rattle.event_setup.specs.event_meaning.event_names.event_fits.Named.{latch_names, names_at}
use Rattle.event_setup.proofs.read_inputs.Places.{IsShown}
use Rattle.event_setup.specs.declared.event_meaning.event_names.names.Names.{Names}
use Rattle.event_setup.specs.event_meaning.event_names.Nameable.{CanBeNamed, IsBitIn, IsLatchIn, IsOtherIn, IsSeparationIn, IsUnshownIn}
use Rattle.event_setup.proofs.read_inputs.Leaves.{class_below, pair_below}

-- a latch has a name
module _ (a b : NetView) (n : Names) (left : n.left ≡ latch_names a) (right : n.right ≡ latch_names b) where
  many : (names : List (List ℕ)) (net : NetView) → names ≡ latch_names net → length net.latches ≡ length names
  many names net e = sym (ap length e ∙ length-map (λ (l : LatchAt). l.name) net.latches)

  pub tag_named : (t : Tag) → IsTagOf a b t → IsLatchIn n t
  tag_named t h = go t.side h
    where
      go : (side : Side) → t.latch < length (net_at side a b).latches → t.latch < length (names_at side n.left n.right)
      go A k = subst (λ m. t.latch < m) (many n.left a left) k
      go B k = subst (λ m. t.latch < m) (many n.right b right) k

  pub other_named : (o : Option Tag) → ((t : Tag) → o ≡ Some t → IsTagOf a b t) → IsOtherIn n o
  other_named None h = tt
  other_named (Some t) h = tag_named t (h t refl)

-- each bit of a frame is that of an input that has a name
pub each_named : (n : Names) (variables : List (Variable (List ℕ))) (frame : List FrameBit) → ((x : Variable (List ℕ)) → Contains variables x → x.input < length n.columns) → AllZip TellsVariable variables frame → All (IsBitIn n) frame
each_named n [] [] low told = All-nil (IsBitIn n)
each_named n [] (x ∷ frame) low told = absurd told
each_named n (v ∷ variables) [] low told = absurd told
each_named n (v ∷ variables) (x ∷ frame) low told =
    All-cons (IsBitIn n) x frame (subst (λ i. i < length n.columns) (sym told.0.input) (low v (Contains-head v variables))) (each_named n variables frame (λ y h. low y (Contains-tail v y variables h)) told.1)

-- an output of a net is shown by its circuit
pub output_shown : (n : NetView) (s : ℕ) → Contains (outputs_of n) s → IsShown (circuit_of n) s
output_shown n s h =
    let port = Contains-map_from (λ (p : Port). p.signal.0) n.outputs s h in
    (port.0.name, subst (λ p. Contains (circuit_of n).outputs (record { name = port.0.name; place = p })) port.2 (Contains-map named n.outputs port.0 port.1))

module _ (a b : EventCircuitView) (n : Names) (left_sound : IsSound a.net) (right_sound : IsSound b.net) (long : length a.order ≡ length (circuit_of a.net).inputs)
    (left_columns : AreColumns a.net n.columns a.order b.order) (right_columns : AreColumns b.net n.columns b.order a.order) (left : n.left ≡ latch_names a.net) (right : n.right ≡ latch_names b.net) where
  pub separation_named : (order : List (Either ℕ ℕ)) (x : ToldSeparation) → Separates a b order x → IsSeparationIn n x
  separation_named order x k = go x.low_latch refl k.separates
    where
      go : (o : Option Tag) → x.low_latch ≡ o → SeparatesBy a b order x o k.variables k.bits → IsSeparationIn n x
      go None e h = record {
        low = subst (IsOtherIn n) (sym e) tt;
        high = tag_named a.net b.net n left right x.high_latch k.founder;
        frame = each_named n k.variables x.frame.items (class_below a b left_sound right_sound long n.columns left_columns right_columns _ _ k.variables h.3.are_variables) k.frame.told;
      }
      go (Some t) e h = record {
        low = subst (IsOtherIn n) (sym e) (tag_named a.net b.net n left right t h.1);
        high = tag_named a.net b.net n left right x.high_latch k.founder;
        frame = each_named n k.variables x.frame.items (class_below a b left_sound right_sound long n.columns left_columns right_columns _ _ k.variables h.2.are_variables) k.frame.told;
      }

  unshown_named : (c : EventPairs) (results : List PairResult) (x : UnshownPair) → ArePairsOf a.net b.net c.pairs.now → IsFirstUnshown a b c results x → IsUnshownIn n x
  unshown_named c results x pairs k =
      let here : Contains c.pairs.now k.place = of_at c.pairs.now k.index k.place k.first.pair_at in
      let at_left = output_shown a.net k.place.left.0 (subst (λ (ss : List ℕ). Contains ss k.place.left.0) pairs.left (Contains-map (λ (p : SignalPair). p.left.0) c.pairs.now k.place here)) in
      let at_right = output_shown b.net k.place.right.0 ((pairs.right k.place.right.0).0 (Contains-map (λ (p : SignalPair). p.right.0) c.pairs.now k.place here)) in
      record {
        frame = each_named n k.frame.variables x.frame.frame.items (pair_below a b left_sound right_sound long n.columns left_columns right_columns k.place.left.0 k.place.right.0 at_left at_right k.frame.variables k.frame.shown.are_variables) k.frame.told.told;
        apart = All-weaker (Separates a b k.apart.classes.order) (IsSeparationIn n) (separation_named k.apart.classes.order) x.apart k.apart.separations.each;
      }

  -- the verdict can be told by names
  pub verdict_named : (c : EventPairs) (results : List PairResult) (v : EventVerdict) → ArePairsOf a.net b.net c.pairs.now → VerdictFits a b c results v → CanBeNamed n v
  verdict_named c results found.Equal pairs h = tt
  verdict_named c results (found.Different w) pairs h = tt
  verdict_named c results (found.Limit name) pairs h = tt
  verdict_named c results (found.Cut w) pairs h = tt
  verdict_named c results (found.Events x) pairs h = unshown_named c results x pairs h.2
