-- The two circuits whose latches load under different inputs, where no conflicts are allowed and the lists of variables are long.
use Rattle.std.specs.Prelude.{ℕ, true, false, List, [], ◌∷◌, Some}
use Rattle.circuit_theory.specs.Joined.{Right, Left}
use Rattle.circuit_theory.specs.EventTotals.{IsAsked}
use Rattle.event_nodes.specs.aig.Node.TheVariants.{Constant, Input}
use Rattle.event_nodes.specs.Nodes.{EventGraphView}
use Rattle.pair_decide.specs.declared.query.Proof.{Proof}
use Rattle.edbf_unfold.specs.class_queries.Enables.{IsEnableFunction}
use Rattle.edbf_unfold.specs.class_queries.Laws.{AreKept}
use Rattle.class_search.specs.declared.class.Class.{Class}
use Rattle.class_search.specs.declared.compare.Enable.{Enable}
use Rattle.class_search.specs.declared.search.Unfit.TheVariants as unfit
use Rattle.class_search.specs.Search.{IsUnfit}
use Rattle.class_search.specs.class_fits.Members.{HaveMembers}
use Rattle.premise_rows.specs.event_class_premises.ClassMap.{a_of, a_tag, at_tag}
use Rattle.premise_rows.specs.event_class_premises.Members.{HasOne}
use Rattle.premise_rows.specs.event_class_premises.TwoEnables.{e_of, two_of}

-- e, a and fifteen inputs more, at the root
abbrev pub many_inputs : EventGraphView
many_inputs = record {
  graph =
      Constant ∷ Input 0 ∷ Input 1 ∷ Input 2 ∷ Input 3 ∷ Input 4 ∷ Input 5 ∷ Input 6 ∷ Input 7 ∷ Input 8 ∷ Input 9 ∷ Input 10 ∷ Input 11 ∷ Input 12 ∷ Input 13 ∷ Input 14 ∷ Input 15 ∷ Input 16 ∷ [];
  children = [];
  places =
      (0, 0) ∷ (1, 0) ∷ (2, 0) ∷ (3, 0) ∷ (4, 0) ∷ (5, 0) ∷ (6, 0) ∷ (7, 0) ∷ (8, 0) ∷ (9, 0) ∷ (10, 0) ∷ (11, 0) ∷ (12, 0) ∷ (13, 0) ∷ (14, 0) ∷ (15, 0) ∷ (16, 0) ∷ [];
}

abbrev pub all_seventeen : List ℕ
all_seventeen = 0 ∷ 1 ∷ 2 ∷ 3 ∷ 4 ∷ 5 ∷ 6 ∷ 7 ∷ 8 ∷ 9 ∷ 10 ∷ 11 ∷ 12 ∷ 13 ∷ 14 ∷ 15 ∷ 16 ∷ []

-- e and a, over all variables: a list may have more than what is read
abbrev pub wide_e : Enable
wide_e = record { value = record { 0 = 2 }; care = record { 0 = 1 }; vars = all_seventeen }

abbrev pub wide_a : Enable
wide_a = record { value = record { 0 = 4 }; care = record { 0 = 1 }; vars = all_seventeen }

-- the clauses that say that e is 0: variable 1 stands for the constant, and 2 for e
abbrev pub e_is_off : Proof
e_is_off = record {
  cnf = record {
    clauses =
        (record { variable = 1; positive = false } ∷ []) ∷ (record { variable = 1; positive = false } ∷ [])
        ∷ (record { variable = 1; positive = false } ∷ record { variable = 2; positive = true } ∷ [])
        ∷ (record { variable = 1; positive = true } ∷ record { variable = 2; positive = false } ∷ [])
        ∷ [];
    variables = 2;
    nodes = 0 ∷ 1 ∷ [];
  };
  log = [];
}

-- those that say that e and a differ, which are 2 and 3
abbrev pub e_is_not_a : Proof
e_is_not_a = record {
  cnf = record {
    clauses =
        (record { variable = 1; positive = false } ∷ []) ∷ (record { variable = 1; positive = false } ∷ [])
        ∷ (record { variable = 2; positive = true } ∷ record { variable = 3; positive = true } ∷ [])
        ∷ (record { variable = 2; positive = false } ∷ record { variable = 3; positive = false } ∷ [])
        ∷ [];
    variables = 3;
    nodes = 0 ∷ 1 ∷ 2 ∷ [];
  };
  log = [];
}

-- With 17 variables and no conflicts allowed, A's latch meets the limit with `always`; and the other circuit's, where it was told from `always`,
-- with the member of class 1.
pub record LimitsAreMet (c : Class) : Type 0 where
  pub kept : AreKept (a_of 1) (e_of 0) many_inputs
  pub left_enable : IsEnableFunction (two_of 1 0) many_inputs (Left 2) 2 1
  pub always : IsUnfit many_inputs many_inputs [] wide_e 0 (unfit.Always e_is_off)
  pub members : HaveMembers (two_of 1 0) many_inputs at_tag (Left 2 ∷ []) (c ∷ [])
  pub right_enable : IsEnableFunction (two_of 1 0) many_inputs (Right 2) 4 1
  pub member : IsUnfit many_inputs many_inputs (c ∷ []) wide_a 0 (unfit.Member 0 0 e_is_not_a)
  pub asked : IsAsked (two_of 1 0) (Left 2 ∷ []) (Right 2) (Some (Left 2))

-- so it is of each class with that member
abbrev pub LimitsMeetPremises : Type 0
LimitsMeetPremises = (c : Class) → HasOne c a_tag wide_e → LimitsAreMet c
