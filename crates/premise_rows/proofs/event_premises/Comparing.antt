-- Texts whose nets are such can be compared in the event mode.
use Rattle.std.proofs.Common.{ℕ, suc, ◌*◌, ◌<◌, ◌≤◌, Bool, true, false, List, [], length, arith, inl, inr, Err}
use Rattle.circuit_theory.specs.declared.Side.{Side}
use Rattle.circuit_theory.specs.declared.Side.TheVariants.{A, B}
use Rattle.circuit_theory.specs.Depth.{LatchReads, LatchPath, HasCycle}
use Rattle.circuit_theory.specs.Run.{IsEnabled, NoneEnabled}
use Rattle.sec_base.specs.declared.settings.Settings.{Settings}
use Rattle.flat_net.specs.View.{NetView, circuit_of}
use Rattle.sec_setup.specs.cut_points.Common.{common_names}
use Rattle.sec_setup.specs.Cycles.{AreBroken}
use Rattle.sec_setup.specs.Matching.{InterfacesMatch}
use Rattle.latch_kinds.specs.Found.{HasTooLarge}
use Rattle.latch_kinds.specs.unate_enable.Cones.{data_of_latch}
use Rattle.event_nodes.specs.View.{EventCircuitView}
use Rattle.event_setup.specs.Choosing.{HaveNoCycles}
use Rattle.event_setup.specs.Recovered.{RecoversBoth}
use Rattle.event_setup.specs.declared.error.RecoveryError.TheVariants as unknown
use Rattle.job_check.specs.check_meaning.event_texts.event_fits.Circuits.{AreReached}
use Rattle.job_check.specs.check_meaning.event_texts.Compared.{AreTooLargeInEvents, HaveTooManyEvents}
use Rattle.job_base.specs.sec_files.Loading.{IsAccepted, Loads}
use Rattle.job_check.specs.check_meaning.event_texts.Texts.{AreEventComparable}
use Rattle.circuit_laws.proofs.Shallow.{light_cone}
use Rattle.premise_rows.proofs.event_premises.Sides.{cut_shallow, cut_light}
use Rattle.premise_rows.proofs.event_premises.Within.{IsShallowNet, IsShallowEvents, no_map_many, no_map_heavy, no_pairs_many, no_pairs_heavy}

-- a cycle in the event mode is one in the plain mode
edge_plain : (n : NetView) (names : List (List ℕ)) {u v : ℕ} → LatchReads (circuit_of n) (IsEnabled (circuit_of n)) names u v → LatchReads (circuit_of n) NoneEnabled names u v
edge_plain n names r = record {
  name = r.name;
  next = r.next;
  latch = r.latch;
  kept = r.kept;
  other_name = r.other_name;
  other_next = r.other_next;
  other = r.other;
  other_kept = r.other_kept;
  cone = r.cone;
  no_self_edge = λ on. absurd on;
}

path_plain : (n : NetView) (names : List (List ℕ)) {u v : ℕ} → LatchPath (circuit_of n) (IsEnabled (circuit_of n)) names u v → LatchPath (circuit_of n) NoneEnabled names u v
path_plain n names (LatchPath.edge r) = LatchPath.edge (edge_plain n names r)
path_plain n names (LatchPath.step r rest) = LatchPath.step (edge_plain n names r) (path_plain n names rest)

free : (n : NetView) (names : List (List ℕ)) → (HasCycle (circuit_of n) NoneEnabled names → ⊥) → HasCycle (circuit_of n) (IsEnabled (circuit_of n)) names → ⊥
free n names apart h = apart (h.0, path_plain n names h.1)

-- so is what breaks them
pub broken_events : (a b : NetView) (expose : Bool) → AreBroken a b expose → HaveNoCycles a b expose
broken_events a b false h = (free a [] h.0, free b [] h.1)
broken_events a b true h = (free a (common_names (circuit_of a) (circuit_of b)) h.0, free b (common_names (circuit_of a) (circuit_of b)) h.1)

light_cones : (n : NetView) → IsShallowNet n → HasTooLarge n → ⊥
light_cones n shallow h =
    let over : 2000000 < shallow.most * length shallow.places = light_cone (circuit_of n) shallow.places shallow.most shallow.light (data_of_latch n h.latch) 2000000 h.large.1 in
    let small = shallow.small in
    let more : shallow.most * length shallow.places ≤ shallow.most * (length shallow.places * suc (length shallow.latches)) = grows shallow.most (length shallow.places) (length shallow.latches) in
    omega (arith, over, small, more)
  where
    grows : (m p l : ℕ) → m * p ≤ m * (p * suc l)
    grows m p l = grind arith

module _ (a b : NetView) (left : IsShallowNet a) (right : IsShallowNet b) (s : Settings) where
  module _ (names : List (List ℕ)) (m k : EventCircuitView) (reached : AreReached a b s.expose names m k) where
    pub left_events : IsShallowEvents m.net
    left_events = record {
      net = record {
        latches = left.latches;
        places = left.places;
        most = left.most;
        shallow = cut_shallow names (circuit_of a) (circuit_of m.net) reached.circuits.are_cut.left_circuit left.latches left.shallow;
        light = cut_light names (circuit_of a) (circuit_of m.net) reached.circuits.are_cut.left_circuit left.places left.most left.light;
        few = left.few;
        small = left.small;
      };
      sound = reached.circuits.left_ready.sound;
      depths = reached.circuits.left_ready.depths;
    }

    pub right_events : IsShallowEvents k.net
    right_events = record {
      net = record {
        latches = right.latches;
        places = right.places;
        most = right.most;
        shallow = cut_shallow names (circuit_of b) (circuit_of k.net) reached.circuits.are_cut.right_circuit right.latches right.shallow;
        light = cut_light names (circuit_of b) (circuit_of k.net) reached.circuits.are_cut.right_circuit right.places right.most right.light;
        few = right.few;
        small = right.small;
      };
      sound = reached.circuits.right_ready.sound;
      depths = reached.circuits.right_ready.depths;
    }

  unrecovered : (side : Side) → RecoversBoth a b s.conflicts (Err (unknown.TooLarge side)) → ⊥
  unrecovered A h = light_cones a left h
  unrecovered B h = light_cones b right h.1

  not_large : (side : Side) → AreTooLargeInEvents a b s side → ⊥
  not_large side (inl h) = unrecovered side h
  not_large side (inr (inl h)) = no_map_heavy h.1 h.2 (left_events h.0 h.1 h.2 h.3) (right_events h.0 h.1 h.2 h.3) side h.4
  not_large side (inr (inr h)) = no_pairs_heavy h.left h.right (left_events h.names h.left h.right h.reached) (right_events h.names h.left h.right h.reached) side h.made h.pairs h.stops

  not_many : HaveTooManyEvents a b s → ⊥
  not_many (inl h) = no_map_many h.1 h.2 (left_events h.0 h.1 h.2 h.3) (right_events h.0 h.1 h.2 h.3) h.4
  not_many (inr h) = no_pairs_many h.left h.right (left_events h.names h.left h.right h.reached) (right_events h.names h.left h.right h.reached) h.made h.pairs h.stops

pub comparable_events : (x y : List ℕ) (s : Settings) → IsAccepted x → IsAccepted y → ((a : NetView) → Loads x a → IsShallowNet a) → ((b : NetView) → Loads y b → IsShallowNet b) →
    ((a b : NetView) → Loads x a → Loads y b → InterfacesMatch a b) → ((a b : NetView) → Loads x a → Loads y b → HaveNoCycles a b s.expose) → AreEventComparable x y s
comparable_events x y s left_accepted right_accepted left right match broken = record {
  left = left_accepted;
  right = right_accepted;
  match = match;
  broken = broken;
  light = λ a b la lb. not_large a b (left a la) (right b lb) s;
  few = λ a b la lb. not_many a b (left a la) (right b lb) s;
}
