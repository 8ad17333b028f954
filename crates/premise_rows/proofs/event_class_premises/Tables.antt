-- The table of enables, and the query that says the same.
use Rattle.std.proofs.Common.{◌≡◌, ◌∙◌, ℕ, suc, Bool, true, false, not, [], ◌∷◌, slice_get, Some, refl, sym, subst, arith}
use Rattle.std.specs.Prelude.{◌&&◌, ◌==◌, if◌then◌else◌, codes}
use Rattle.std.specs.List.{Contains}
use Rattle.circuit_theory.specs.Joined.{Either, Left, Right}
use Rattle.circuit_theory.proofs.Lists.{Contains-head, only}
use Rattle.event_nodes.specs.aig.Graph.{IsAbove}
use Rattle.event_nodes.specs.aig.Node.{Node}
use Rattle.event_nodes.specs.aig.Node.TheVariants.{Constant, Input, And}
use Rattle.event_nodes.specs.aig.Rules.{IsAndOf, simple_and}
use Rattle.event_nodes.specs.aig.Values.{value, lit_bit, node_bits, bits_from}
use Rattle.event_nodes.specs.Nodes.{IsEventGraph, GrowsEvents}
use Rattle.edbf_unfold.specs.class_queries.Enables.{IsEnableFunction, IsSame}
use Rattle.edbf_unfold.specs.class_queries.Laws.{AreKept}
use Rattle.class_search.specs.class_fits.class_joining.Joining.{AreKnownEnables, AreMembers}
use Rattle.class_search.proofs.class_fits.class_joining.Tables.{found_fits, goes_on as table_goes_on, grows_on}
use Rattle.class_search.proofs.class_fits.class_joining.Members.{members_equal}
use Rattle.premise_rows.specs.event_pair_premises.Differing.{at_root}
use Rattle.premise_rows.specs.event_class_premises.ClassMap.{a_of, b_of, so_far}
use Rattle.premise_rows.specs.event_class_premises.Tables.{at_enables, e_of_one, left_member, TablesMeetPremises}
use Rattle.premise_rows.proofs.block_premises.TurningNets.{each}
use Rattle.premise_rows.proofs.event_pair_premises.Differing.{root_kept}
use Rattle.premise_rows.proofs.event_pair_premises.HeldPair.{kept, single, number_once, left_latch}
use Rattle.premise_rows.proofs.event_class_premises.ClassMap.{left_circuit, right_circuit, right_latch, left_hold, right_hold, all_hold, order, goes_on, joined}
use Rattle.premise_rows.proofs.event_class_premises.Pairs as pair

-- the place of each node
abbrev node_number : Node → ℕ
node_number Constant = 0
node_number (Input v) = suc v
node_number (And l r) = if l.0 == 7 then 5 else if r.0 == 4 then 3 else 4

pub enables_kept : IsEventGraph at_enables
enables_kept = record {
  is_graph = record {
    constant = refl;
    ordered = each IsAbove at_enables.graph (tt, (tt, (tt, ((omega arith, omega arith), ((omega arith, omega arith), ((omega arith, omega arith), tt))))));
    once = λ n m node h k. sym (place n node h) ∙ place m node k;
    few = omega arith;
  };
  is_tree = root_kept.is_tree;
  once = root_kept.once;
  placed = root_kept.placed;
  place_once = root_kept.place_once;
}
  where
    place : (n : ℕ) (node : Node) → slice_get at_enables.graph n ≡ Some node → node_number node ≡ n
    place = each (λ n (node : Node). node_number node ≡ n) at_enables.graph (refl, (refl, (refl, (refl, (refl, (refl, tt))))))

pub grows : GrowsEvents at_root at_enables
grows = record { graph = (_, refl); children = ([], refl); places = ([], refl) }

pub kept_at : AreKept (a_of 1) (b_of 0) at_enables
kept_at = record { left_sound = kept.left_sound; right_sound = kept.right_sound; left = left_circuit 1; right = right_circuit 0; events = enables_kept }

-- e as a literal of the first graph, and of the second
pub left_at_root : IsEnableFunction (so_far 1 0) at_root (Left 2) 2 1
unfolding value node_bits bits_from lit_bit
left_at_root = pair.function (so_far 1 0) single number_once (left_hold 1 0) (right_hold 1 0) left_latch right_latch (all_hold 1 0) (order 1 0) at_root (codes "q") (Left 2) (Left 3) left_latch (left_hold 1 0) 2 0 refl (λ a. refl) (λ a. refl) (omega arith) (omega arith)

pub right_at_root : IsEnableFunction (so_far 1 0) at_root (Right 2) 2 1
unfolding value node_bits bits_from lit_bit
right_at_root = pair.function (so_far 1 0) single number_once (left_hold 1 0) (right_hold 1 0) left_latch right_latch (all_hold 1 0) (order 1 0) at_root (codes "q") (Right 2) (Right 3) right_latch (right_hold 1 0) 2 0 refl (λ a. refl) (λ a. refl) (omega arith) (omega arith)

left_later : IsEnableFunction (so_far 1 0) at_enables (Left 2) 2 1
unfolding value node_bits bits_from lit_bit
left_later = pair.function (so_far 1 0) single number_once (left_hold 1 0) (right_hold 1 0) left_latch right_latch (all_hold 1 0) (order 1 0) at_enables (codes "q") (Left 2) (Left 3) left_latch (left_hold 1 0) 2 0 refl (λ a. refl) (λ a. refl) (omega arith) (omega arith)

right_later : IsEnableFunction (so_far 1 0) at_enables (Right 2) 2 1
unfolding value node_bits bits_from lit_bit
right_later = pair.function (so_far 1 0) single number_once (left_hold 1 0) (right_hold 1 0) left_latch right_latch (all_hold 1 0) (order 1 0) at_enables (codes "q") (Right 2) (Right 3) right_latch (right_hold 1 0) 2 0 refl (λ a. refl) (λ a. refl) (omega arith) (omega arith)

-- e with a, or e without a
or_bits : (b c : Bool) → not (not (b && c) && not (b && not (b && c))) ≡ b
or_bits true true = refl
or_bits true false = refl
or_bits false c = refl

other_enable : IsEnableFunction (so_far 1 0) at_enables (Right 2) 11 1
unfolding value node_bits bits_from lit_bit
other_enable =
    pair.function (so_far 1 0) single number_once (left_hold 1 0) (right_hold 1 0) left_latch right_latch (all_hold 1 0) (order 1 0) at_enables (codes "q") (Right 2) (Right 3) right_latch (right_hold 1 0) 11 0 refl (λ a. or_bits (a 0) (a 1)) (λ a. refl) (omega arith) (omega arith)

known : AreKnownEnables (so_far 1 0) at_root (Left 2 ∷ []) (e_of_one ∷ [])
known p class h = subst (λ (x : (ℕ × ℕ) × ℕ). (u : Either ℕ ℕ) × Contains (Left 2 ∷ []) u × ((so_far 1 0).class u ≡ x.1) × IsEnableFunction (so_far 1 0) at_root u x.0.0 x.0.1) (only e_of_one (p, class) h) (Left 2, Contains-head (Left 2) [], refl, left_at_root)

known_later : AreKnownEnables (so_far 1 0) at_enables (Left 2 ∷ []) (e_of_one ∷ [])
known_later = grows_on (so_far 1 0) at_root at_enables (Left 2 ∷ []) (e_of_one ∷ []) root_kept grows known

members : AreMembers (so_far 1 0) at_enables (Left 2 ∷ []) 1 (left_member ∷ [])
members = record {
  each = λ m h. subst (λ (x : Either ℕ ℕ × (ℕ × ℕ)). Contains (Left 2 ∷ []) x.0 × ((so_far 1 0).class x.0 ≡ 1) × IsEnableFunction (so_far 1 0) at_enables x.0 x.1.0 x.1.1) (only left_member m h) (Contains-head (Left 2) [], refl, left_later);
  all = λ u h k. (left_member, Contains-head left_member [], subst (λ (v : Either ℕ ℕ). IsEnableFunction (so_far 1 0) at_enables v 2 1) (only (Left 2) u h) left_later);
}

same : IsSame at_enables 2 11 1
unfolding value node_bits bits_from lit_bit
same a h = sym (or_bits (a 0) (a 1))

one_and_one : IsAndOf at_enables.graph 1 1 1
unfolding simple_and
one_and_one = refl

each_same : (m : Either ℕ ℕ × (ℕ × ℕ)) → Contains (left_member ∷ []) m → (both : ℕ) × IsAndOf at_enables.graph m.1.1 1 both × IsSame at_enables m.1.0 11 both
each_same m h = subst (λ (x : Either ℕ ℕ × (ℕ × ℕ)). (both : ℕ) × IsAndOf at_enables.graph x.1.1 1 both × IsSame at_enables x.1.0 11 both) (only left_member m h) (1, one_and_one, same)

pub tables_meet_premises : TablesMeetPremises
tables_meet_premises = record {
  kept = kept_at;
  map = goes_on;
  events = root_kept;
  grows = grows;
  known = known;
  known_later = known_later;
  enable = right_later;
  found = Contains-head e_of_one [];
  fits = found_fits (a_of 1) (b_of 0) at_enables (Left 2 ∷ []) (Right 2 ∷ []) (Right 2) 2 1 1 (e_of_one ∷ []) kept_at goes_on known_later right_later (Contains-head e_of_one []);
  joined = joined;
  known_next = (table_goes_on (a_of 1) (b_of 0) (a_of 1) (b_of 1) at_enables (Left 2 ∷ []) [] (Right 2) 2 1 1 (e_of_one ∷ []) joined known_later).1 right_later;
  members = members;
  other_enable = other_enable;
  each_same = each_same;
  equals = members_equal (a_of 1) (b_of 0) at_enables (Left 2 ∷ []) 0 (left_member ∷ []) (Right 2) 11 1 kept_at members other_enable each_same;
}
