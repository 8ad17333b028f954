-- The limit is met where no conflicts are allowed.
use Rattle.std.proofs.Common.{◌≡◌, ◌∙◌, ℕ, suc, ◌<◌, ◌≤◌, true, false, List, [], ◌∷◌, slice_get, Some, refl, sym, ap, subst, arith, inl, inr, replicate}
use Rattle.std.specs.Prelude.{◌⊎◌, slice_index_or, codes}
use Rattle.std.specs.List.{All, AllPairs, Contains}
use Rattle.std.proofs.lemmas.List.Elements.{All-nil}
use Rattle.std.proofs.lemmas.Option.{none-some, same_Some, slice_get-get_or}
use Rattle.circuit_theory.specs.EventTotals.{IsAsked}
use Rattle.circuit_theory.specs.Joined.{Either, Left, Right}
use Rattle.circuit_theory.specs.Query.{Variable}
use Rattle.circuit_theory.specs.Frame.{NodeBefore}
use Rattle.circuit_theory.proofs.Lists.{Contains-head, Contains-tail, only}
use Rattle.event_nodes.specs.aig.Cone.{IsPlacedNode, IsReached, Reads}
use Rattle.event_nodes.specs.aig.Graph.{IsAbove}
use Rattle.event_nodes.specs.aig.Node.{Node}
use Rattle.event_nodes.specs.aig.Node.TheVariants.{Constant, Input, And}
use Rattle.event_nodes.specs.aig.Rules.{simple_and}
use Rattle.event_nodes.specs.aig.Values.{value, lit_bit, node_bits, bits_from}
use Rattle.event_nodes.specs.Nodes.{IsEventGraph, GrowsEvents, named_places}
use Rattle.event_nodes.specs.event_variables.Variables.{GoesBefore, IsMergeOf, variable_of}
use Rattle.pair_decide.specs.declared.query.Query.{Query}
use Rattle.pair_decide.specs.Answers.{IsAtLimit, IsDifference}
use Rattle.pair_decide.specs.Queries.{IsTrivial}
use Rattle.pair_decide.specs.cnf_encode.Encoding.{IsEncoding}
use Rattle.edbf_unfold.specs.class_queries.Enables.{IsEnableFunction}
use Rattle.class_search.specs.declared.class.Class.{Class}
use Rattle.class_search.specs.declared.compare.Enable.{Enable}
use Rattle.class_search.specs.declared.search.Unfit.TheVariants as unfit
use Rattle.class_search.specs.declared.told.Difference.{Difference}
use Rattle.class_search.specs.Search.{IsUnfit}
use Rattle.class_search.specs.Told.{IsAlwaysTold}
use Rattle.class_search.specs.class_fits.Members.{HasMembers}
use Rattle.premise_rows.specs.event_class_premises.ClassMap.{a_tag, at_tag}
use Rattle.premise_rows.specs.event_class_premises.Members.{HasOne}
use Rattle.premise_rows.specs.event_class_premises.TwoEnables.{two_of}
use Rattle.premise_rows.specs.event_class_premises.AtLimit.{many_inputs, all_seventeen, wide_e, wide_a, e_is_off, e_is_not_a, LimitsAreMet, LimitsMeetPremises}
use Rattle.premise_rows.proofs.block_premises.TurningNets.{each}
use Rattle.premise_rows.proofs.event_class_premises.Encodings.{one_literal, two_literals, turned_literals, cone_of, two_rise, three_rise}
use Rattle.premise_rows.proofs.event_class_premises.Members.{one_member, have_one}
use Rattle.premise_rows.proofs.event_class_premises.TwoEnables.{two_kept}
use Rattle.premise_rows.proofs.event_class_premises.TwoNets.{two_single, two_once, two_left, two_right, left_hold, right_hold, two_hold, two_order}
use Rattle.premise_rows.proofs.event_class_premises.Pairs as pair

-- the place of each node
abbrev node_number : Node → ℕ
node_number Constant = 0
node_number (Input v) = suc v
node_number (And l r) = 18

pub many_kept : IsEventGraph many_inputs
many_kept = record {
  is_graph = record {
    constant = refl;
    ordered = each IsAbove many_inputs.graph (tt, (tt, (tt, (tt, (tt, (tt, (tt, (tt, (tt, (tt, (tt, (tt, (tt, (tt, (tt, (tt, (tt, (tt, tt))))))))))))))))));
    once = λ n m node h k. sym (node_place n node h) ∙ node_place m node k;
    few = omega arith;
  };
  is_tree = λ k n class h. absurd (none-some (n, class) h);
  once = λ i j x h k. absurd (none-some x h);
  placed = at_root;
  place_once = λ i j p h k. sym (place i p h) ∙ place j p k;
}
  where
    node_place : (n : ℕ) (node : Node) → slice_get many_inputs.graph n ≡ Some node → node_number node ≡ n
    node_place = each (λ n (node : Node). node_number node ≡ n) many_inputs.graph
        (refl, (refl, (refl, (refl, (refl, (refl, (refl, (refl, (refl, (refl, (refl, (refl, (refl, (refl, (refl, (refl, (refl, (refl, tt))))))))))))))))))

    place : (i : ℕ) (p : ℕ × ℕ) → slice_get many_inputs.places i ≡ Some p → p.0 ≡ i
    place = each (λ i (p : ℕ × ℕ). p.0 ≡ i) many_inputs.places
        (refl, (refl, (refl, (refl, (refl, (refl, (refl, (refl, (refl, (refl, (refl, (refl, (refl, (refl, (refl, (refl, (refl, tt)))))))))))))))))

    at_root : All (λ (p : ℕ × ℕ). p.1 ≤ 0) many_inputs.places
    at_root i d l = let p = slice_get-get_or many_inputs.places i d l in let none = root i (slice_index_or many_inputs.places i d) p in omega (arith, none)
      where
        root : (k : ℕ) (p : ℕ × ℕ) → slice_get many_inputs.places k ≡ Some p → p.1 ≡ 0
        root = each (λ k (p : ℕ × ℕ). p.1 ≡ 0) many_inputs.places
            (refl, (refl, (refl, (refl, (refl, (refl, (refl, (refl, (refl, (refl, (refl, (refl, (refl, (refl, (refl, (refl, (refl, tt)))))))))))))))))

-- no node is an and
abbrev IsLeaf : Node → Type 0
IsLeaf Constant = Unit {0}
IsLeaf (Input v) = Unit {0}
IsLeaf (And l r) = ⊥

bare : (n x : ℕ) (node : Node) → slice_get many_inputs.graph n ≡ Some node → Reads node x → ⊥
bare n x node at = no_operand node (leaf n node at)
  where
    leaf : (k : ℕ) (y : Node) → slice_get many_inputs.graph k ≡ Some y → IsLeaf y
    leaf = each (λ k y. IsLeaf y) many_inputs.graph (tt, (tt, (tt, (tt, (tt, (tt, (tt, (tt, (tt, (tt, (tt, (tt, (tt, (tt, (tt, (tt, (tt, (tt, tt))))))))))))))))))

    no_operand : (y : Node) → IsLeaf y → Reads y x → ⊥
    no_operand Constant l r = r
    no_operand (Input v) l r = r
    no_operand (And a b) l r = l

-- e against 1
abbrev pub off_query : Query
off_query = record { left = record { 0 = 2 }; right = record { 0 = 1 }; care = record { 0 = 1 }; vars = all_seventeen }

module _ (nodes : List ℕ) (part : List Node) (k n : ℕ) where
  abbrev IsPlaced : Node → Type 0
  IsPlaced node = (p : Node) × (slice_get part k ≡ Some p) × IsPlacedNode nodes node p

  placed : (own : Node) → slice_get many_inputs.graph n ≡ Some own → IsPlaced own → (node : Node) → slice_get many_inputs.graph n ≡ Some node → IsPlaced node
  placed own at is node h = subst IsPlaced (same_Some own node (sym at ∙ h)) is

off_encoding : IsEncoding many_inputs.graph 2 1 1 e_is_off.cnf
off_encoding = record {
  nodes_are = cone_of many_inputs.graph bare (2 ∷ 1 ∷ 1 ∷ []) (0 ∷ 1 ∷ []) two_rise (Contains-tail 0 1 (1 ∷ []) (Contains-head 1 []), (Contains-head 0 (1 ∷ []), (Contains-head 0 (1 ∷ []), tt)))
      (IsReached.root 1 (Contains-tail 2 1 (1 ∷ 1 ∷ []) (Contains-head 1 (1 ∷ []))), (IsReached.root 2 (Contains-head 2 (1 ∷ 1 ∷ [])), tt));
  variables_are = refl;
  part = Constant ∷ Input 0 ∷ [];
  part_is = record {
    each = refl;
    placed = λ k n node h at. each (λ i m. (y : Node) → slice_get many_inputs.graph m ≡ Some y → IsPlaced (0 ∷ 1 ∷ []) (Constant ∷ Input 0 ∷ []) i m y) (0 ∷ 1 ∷ []) (
      placed (0 ∷ 1 ∷ []) (Constant ∷ Input 0 ∷ []) 0 0 Constant refl (Constant, refl, refl),
      (placed (0 ∷ 1 ∷ []) (Constant ∷ Input 0 ∷ []) 1 1 (Input 0) refl (Input 0, refl, refl), tt),
    ) k n h node at;
  };
  left_at = 2;
  right_at = 1;
  care_at = 1;
  left_is = (refl, refl);
  right_is = (refl, refl);
  care_is = (refl, refl);
  clauses_are = inr (_, _, one_literal _, inr (_, _, one_literal _, inr (_, _, turned_literals _ _ (omega arith), inr (_, _, turned_literals _ _ (omega arith), refl, refl), refl), refl), refl);
}

off_apart : IsTrivial off_query → ⊥
off_apart (inl e) = omega (arith, e)
off_apart (inr e) = omega (arith, e)

pub off_limit : IsAtLimit many_inputs.graph off_query 0 e_is_off
off_limit = record {
  wide = record { apart = off_apart; many = omega arith };
  encoding = off_encoding;
  fruitless = record { count = refl; derived = []; derives = refl; new = tt; no_empty = All-nil _ };
}

-- e against a
abbrev two_query : Query
two_query = record { left = record { 0 = 2 }; right = record { 0 = 4 }; care = record { 0 = 1 }; vars = all_seventeen }

two_encoding : IsEncoding many_inputs.graph 2 4 1 e_is_not_a.cnf
two_encoding = record {
  nodes_are = cone_of many_inputs.graph bare (2 ∷ 4 ∷ 1 ∷ []) (0 ∷ 1 ∷ 2 ∷ []) three_rise
      (Contains-tail 0 1 (1 ∷ 2 ∷ []) (Contains-head 1 (2 ∷ [])), (Contains-tail 0 2 (1 ∷ 2 ∷ []) (Contains-tail 1 2 (2 ∷ []) (Contains-head 2 [])), (Contains-head 0 (1 ∷ 2 ∷ []), tt)))
      (IsReached.root 1 (Contains-tail 2 1 (4 ∷ 1 ∷ []) (Contains-tail 4 1 (1 ∷ []) (Contains-head 1 []))), (IsReached.root 2 (Contains-head 2 (4 ∷ 1 ∷ [])), (IsReached.root 4 (Contains-tail 2 4 (4 ∷ 1 ∷ []) (Contains-head 4 (1 ∷ []))), tt)));
  variables_are = refl;
  part = Constant ∷ Input 0 ∷ Input 1 ∷ [];
  part_is = record {
    each = refl;
    placed = λ k n node h at. each (λ i m. (y : Node) → slice_get many_inputs.graph m ≡ Some y → IsPlaced (0 ∷ 1 ∷ 2 ∷ []) (Constant ∷ Input 0 ∷ Input 1 ∷ []) i m y) (0 ∷ 1 ∷ 2 ∷ []) (
      placed (0 ∷ 1 ∷ 2 ∷ []) (Constant ∷ Input 0 ∷ Input 1 ∷ []) 0 0 Constant refl (Constant, refl, refl),
      (placed (0 ∷ 1 ∷ 2 ∷ []) (Constant ∷ Input 0 ∷ Input 1 ∷ []) 1 1 (Input 0) refl (Input 0, refl, refl), (placed (0 ∷ 1 ∷ 2 ∷ []) (Constant ∷ Input 0 ∷ Input 1 ∷ []) 2 2 (Input 1) refl (Input 1, refl, refl), tt)),
    ) k n h node at;
  };
  left_at = 2;
  right_at = 4;
  care_at = 1;
  left_is = (refl, refl);
  right_is = (refl, refl);
  care_is = (refl, refl);
  clauses_are = inr (_, _, one_literal _, inr (_, _, one_literal _, inr (_, _, two_literals _ _ (omega arith), inr (_, _, two_literals _ _ (omega arith), refl, refl), refl), refl), refl);
}

two_apart : IsTrivial two_query → ⊥
two_apart (inl e) = omega (arith, e)
two_apart (inr e) = omega (arith, e)

two_limit : IsAtLimit many_inputs.graph two_query 0 e_is_not_a
two_limit = record {
  wide = record { apart = two_apart; many = omega arith };
  encoding = two_encoding;
  fruitless = record { count = refl; derived = []; derives = refl; new = tt; no_empty = All-nil _ };
}

-- a against 1, where all is 0
abbrev a_query : Query
a_query = record { left = record { 0 = 4 }; right = record { 0 = 1 }; care = record { 0 = 1 }; vars = all_seventeen }

a_apart : IsTrivial a_query → ⊥
a_apart (inl e) = omega (arith, e)
a_apart (inr e) = omega (arith, e)

differ : false ≡ true → ⊥
differ e = cc

a_difference : IsDifference many_inputs.graph a_query (replicate 17 false)
unfolding value node_bits bits_from lit_bit
a_difference = record { apart = a_apart; each = refl; distinguishes = record { care = refl; differ = differ }; least = λ few. absurd (omega (arith, few)) }

abbrev none_set : Difference
none_set = record { vars = all_seventeen; bits = replicate 17 false }

a_told : IsAlwaysTold many_inputs wide_a 0 none_set
a_told = record { query = a_query; left = refl; right = refl; care = refl; vars = refl; own = refl; decided = a_difference }

-- the variables stand in their order
own_place : (i x : ℕ) → slice_get all_seventeen i ≡ Some x → x ≡ i
own_place = each (λ i (x : ℕ). x ≡ i) all_seventeen (refl, (refl, (refl, (refl, (refl, (refl, (refl, (refl, (refl, (refl, (refl, (refl, (refl, (refl, (refl, (refl, (refl, tt)))))))))))))))))

own_name : (i : ℕ) (p : ℕ × List ℕ) → slice_get (named_places many_inputs) i ≡ Some p → p ≡ (i, [])
own_name = each (λ i (p : ℕ × List ℕ). p ≡ (i, [])) (named_places many_inputs) (refl, (refl, (refl, (refl, (refl, (refl, (refl, (refl, (refl, (refl, (refl, (refl, (refl, (refl, (refl, (refl, (refl, tt)))))))))))))))))

variable_is : (v : ℕ) → v < 17 → variable_of many_inputs v ≡ record { input = v; at = [] }
variable_is v l =
    ap (λ (p : ℕ × List ℕ). record { input = p.0; at = p.1 }) (own_name v (slice_index_or (named_places many_inputs) v (0, [])) (slice_get-get_or (named_places many_inputs) v (0, []) l))

in_order : AllPairs (GoesBefore many_inputs) all_seventeen
in_order i j d less inside =
    let first : slice_index_or all_seventeen i d ≡ i = own_place i (slice_index_or all_seventeen i d) (slice_get-get_or all_seventeen i d (omega (arith, less, inside))) in
    let second : slice_index_or all_seventeen j d ≡ j = own_place j (slice_index_or all_seventeen j d) (slice_get-get_or all_seventeen j d inside) in
    subst (λ (k : ℕ). GoesBefore many_inputs k (slice_index_or all_seventeen j d)) (sym first)
    (subst (λ (k : ℕ). GoesBefore many_inputs i k) (sym second)
    (subst (λ (x : Variable (List ℕ)). NodeBefore x (variable_of many_inputs j)) (sym (variable_is i (omega (arith, less, inside))))
    (subst (λ (y : Variable (List ℕ)). NodeBefore (record { input = i; at = [] }) y) (sym (variable_is j inside)) (inr (refl, inr (refl, less))))))

merge : IsMergeOf many_inputs all_seventeen all_seventeen all_seventeen
merge = record { ordered = in_order; exactly = λ v. (λ h. inl h, λ h. either v h) }
  where
    either : (v : ℕ) → Contains all_seventeen v ⊎ Contains all_seventeen v → Contains all_seventeen v
    either v (inl h) = h
    either v (inr h) = h

-- the enables over the many inputs
left_function : IsEnableFunction (two_of 1 0) many_inputs (Left 2) 2 1
unfolding value node_bits bits_from lit_bit
left_function = pair.function (two_of 1 0) two_single two_once (left_hold 1 0) (right_hold 1 0) two_left two_right (two_hold 1 0) (two_order 1 0) many_inputs (codes "q") (Left 2) (Left 3) two_left (left_hold 1 0) 2 0 refl (λ a. refl) (λ a. refl) (omega arith) (omega arith)

right_function : IsEnableFunction (two_of 1 0) many_inputs (Right 2) 4 1
unfolding value node_bits bits_from lit_bit
right_function = pair.function (two_of 1 0) two_single two_once (left_hold 1 0) (right_hold 1 0) two_left two_right (two_hold 1 0) (two_order 1 0) many_inputs (codes "q") (Right 2) (Right 3) two_right (right_hold 1 0) 4 1 refl (λ a. refl) (λ a. refl) (omega arith) (omega arith)

stays : GrowsEvents many_inputs many_inputs
stays = record { graph = ([], refl); children = ([], refl); places = ([], refl) }

always_unfit : IsUnfit many_inputs many_inputs [] wide_e 0 (unfit.Always e_is_off)
always_unfit = (all_seventeen, record { query = off_query; left = refl; right = refl; care = refl; vars = refl; own = refl; decided = off_limit })

module _ (c : Class) (one : HasOne c a_tag wide_e) where
  members : HasMembers (two_of 1 0) many_inputs at_tag (Left 2 ∷ []) 1 c
  members = one_member (two_of 1 0) many_inputs at_tag 1 c a_tag wide_e one refl left_function [] (λ u h k. subst (λ (v : Either ℕ ℕ). IsEnableFunction (two_of 1 0) many_inputs v 2 1) (only (Left 2) u h) left_function)

  member_unfit : IsUnfit many_inputs many_inputs (c ∷ []) wide_a 0 (unfit.Member 0 0 e_is_not_a)
  unfolding simple_and
  member_unfit = (
    (none_set, a_told),
    (
      [],
      λ i t h. absurd (none-some t h),
      refl,
      (
        c,
        refl,
        (
          all_seventeen,
          record {
            at = many_inputs;
            since = stays;
            until = stays;
            kept = many_kept;
            enable = wide_e;
            is = ap (λ (ys : List Enable). slice_get ys 0) one.enables;
            before = λ i x l. absurd (omega (arith, l));
            compared = record { query = two_query; left = refl; right = refl; both = refl; within = omega arith; vars = refl; merged = merge; decided = two_limit };
          },
        ),
      ),
    ),
  )

  asked : IsAsked (two_of 1 0) (Left 2 ∷ []) (Right 2) (Some (Left 2))
  asked = ([], [], refl, pair.not_always (two_of 1 0) two_single two_once (left_hold 1 0) (right_hold 1 0) two_left two_right (two_hold 1 0) (two_order 1 0) (Left 2 ∷ []) (codes "q") (Right 2) (Right 3) two_right, λ w h. absurd (omega (arith, h.1)), omega arith)

  pub limits : LimitsAreMet c
  limits = record {
    kept = record { left_sound = two_kept.left_sound; right_sound = two_kept.right_sound; left = two_kept.left; right = two_kept.right; events = many_kept };
    left_enable = left_function;
    always = always_unfit;
    members = have_one (two_of 1 0) many_inputs at_tag 1 c a_tag wide_e one refl left_function [] refl members;
    right_enable = right_function;
    member = member_unfit;
    asked = asked;
  }

pub limits_meet_premises : LimitsMeetPremises
limits_meet_premises c one = limits c one
