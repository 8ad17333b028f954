-- The next latch is given its class.
use Rattle.std.proofs.Common.{◌≡◌, ◌≢◌, ℕ, ◌<◌, ◌≤◌, Bool, List, [], ◌∷◌, ◌++◌, Some, refl, sym, ap, subst, arith, inl, inr}
use Rattle.std.specs.Prelude.{◌⊎◌}
use Rattle.std.specs.List.{Contains}
use Rattle.std.proofs.lemmas.List.Elements.{Contains-append_cases, Contains-append_left, Contains-append_right}
use Rattle.circuit_theory.specs.Circuit.{Circuit, IsLatch, IsSingleDriven}
use Rattle.circuit_theory.specs.Depth.{LatchesHaveDepths}
use Rattle.circuit_theory.specs.Query.{Variable}
use Rattle.circuit_theory.specs.EventFits.{side_by_side}
use Rattle.circuit_theory.specs.Joined.{Either, joined}
use Rattle.circuit_theory.specs.Run.{IsEnabled}
use Rattle.circuit_theory.specs.Tree.{Tree}
use Rattle.circuit_theory.proofs.Lists.{Contains-head, only}
use Rattle.circuit_laws.proofs.JoinedParts.{joined_same, joined_single}
use Rattle.circuit_theory.specs.Classes.{IsFounder}
use Rattle.circuit_theory.specs.EventFrames.{IsClassTree, AreNodeVariables, IsSeparation, IsSeparationFromAlways}
use Rattle.circuit_theory.specs.EventTotals.{IsMapSoFar}
use Rattle.circuit_theory.specs.Frame.{EventSide, EventUnfolds}
use Rattle.circuit_laws.proofs.event_laws.ClassSteps.{pairs_ahead}
use Rattle.circuit_laws.proofs.event_laws.OneClassMap.{side, rank_of, Agrees, Before, place_of, depth_of}
use Rattle.circuit_laws.specs.reset_laws.class_extension.Telling.{TellsApart, TellsFromAlways}
use Rattle.circuit_laws.specs.reset_laws.class_extension.Laws.{IsNextGiven, VariablesStay, SeparationsStay, SeparationsBegin}
use Rattle.circuit_laws.proofs.reset_laws.class_extension.Trees.{held_to, variables_to, founder_to, apart_to, always_to}

-- a separation is what tells the founder of the higher class from the member
parts_of : {P : Type 0} (s : EventSide P) (order : List P) (low high : ℕ) (u w : P) (variables : List (Variable (List ℕ))) (bits : List Bool) (l r : Bool) → IsSeparation s order low high u w variables bits l r → TellsApart s order low u w variables bits l r
parts_of s order low high u w variables bits l r t = record {
  before = t.before;
  after = t.after;
  split = t.split;
  class_is = t.class_is;
  earlier = t.earlier;
  are_variables = t.are_variables;
  each = t.each;
  left_care = t.left_care;
  right_care = t.right_care;
  left_is = t.left_is;
  right_is = t.right_is;
  differ = t.differ;
}

whole_of : {P : Type 0} (s : EventSide P) (order : List P) (low high : ℕ) (u w : P) (variables : List (Variable (List ℕ))) (bits : List Bool) (l r : Bool) → low < high → IsFounder s order high w → TellsApart s order low u w variables bits l r →
    IsSeparation s order low high u w variables bits l r
whole_of s order low high u w variables bits l r lower founder t = record {
  lower = lower;
  founder_is = founder;
  before = t.before;
  after = t.after;
  split = t.split;
  class_is = t.class_is;
  earlier = t.earlier;
  are_variables = t.are_variables;
  each = t.each;
  left_care = t.left_care;
  right_care = t.right_care;
  left_is = t.left_is;
  right_is = t.right_is;
  differ = t.differ;
}

module _ {P : Type 0} (c : Circuit P) (single : IsSingleDriven c) (same : (p q : P) → (p ≡ q) ⊎ (p ≢ q)) (depths : LatchesHaveDepths c (IsEnabled c)) (o : List ℕ) (f g : P → ℕ) (taken rest : List P) (v : P)
    (map : IsMapSoFar (side c single same depths o f) taken (v ∷ rest)) (others : (u : P) → u ≢ v → f u ≡ g u) where
  abbrev Rank : P → ℕ
  Rank = rank_of c single same depths o

  abbrev S : (P → ℕ) → EventSide P
  S = side c single same depths o

  -- the classes of latches of a lower rank than the next latch's stay
  agree : Agrees c single same depths o (Rank v) f g
  agree name u next latch below = others u (λ e. let q : Rank u ≡ Rank v = ap Rank e in omega (arith, q, below))

  on_next : IsEnabled c v
  on_next = map.is_order.enabled v (Contains-append_right taken (v ∷ rest) v (Contains-head v rest))

  before_next : (u : P) → Contains taken u → Before c single same depths o u v
  before_next u h = pairs_ahead (Before c single same depths o) taken v rest map.is_order.in_order u h

  kept : (u : P) → Contains taken u → f u ≡ g u
  kept u h = others u (λ e. clash (subst (λ z. Before c single same depths o z v) e (before_next u h)))
    where
      clash : Before c single same depths o v v → ⊥
      clash before =
          let i = place_of c single same depths o v on_next in
          let d = depth_of c single same depths o v on_next in
          no (before (Rank v) (Rank v) i.0 i.0 d d i.1 i.1)
        where
          no : {d i : ℕ} → (d < d) ⊎ ((d ≡ d) × (i < i)) → ⊥
          no (inl a) = omega arith
          no (inr a) = omega (arith, a.1)

  -- a latch that was taken is no deeper than the next one
  low_taken : (u : P) → Contains taken u → Rank u ≤ Rank v
  low_taken u h =
      let on = map.is_order.enabled u (Contains-append_left taken (v ∷ rest) u h) in
      let i = place_of c single same depths o u on in
      let j = place_of c single same depths o v on_next in
      low (before_next u h (Rank u) (Rank v) i.0 j.0 (depth_of c single same depths o u on) (depth_of c single same depths o v on_next) i.1 j.1)
    where
      low : {i j : ℕ} → (Rank u < Rank v) ⊎ ((Rank u ≡ Rank v) × (i < j)) → Rank u ≤ Rank v
      low (inl a) = omega arith
      low (inr a) = omega (arith, a.0)

  pub low_of : (u : P) → Contains (taken ++ v ∷ []) u → Rank u ≤ Rank v
  low_of u h = go (Contains-append_cases taken (v ∷ []) u h)
    where
      go : Contains taken u ⊎ Contains (v ∷ []) u → Rank u ≤ Rank v
      go (inl k) = low_taken u k
      go (inr k) = let q : Rank v ≡ Rank u = ap Rank (only v u k) in omega (arith, q)

  pub variables_kept : (u w : P) (variables : List (Variable (List ℕ))) → Contains (taken ++ v ∷ []) u → Contains (taken ++ v ∷ []) w → AreNodeVariables (IsClassTree (S f) u w) variables → AreNodeVariables (IsClassTree (S g) u w) variables
  variables_kept u w variables hu hw are = variables_to c single same depths o (Rank v) f g agree u w variables (low_of u hu) (low_of w hw) are

  -- what a latch takes over, with the latch at a bit
  pub held_kept : (name : List ℕ) (u next : P) (bit : Bool) (tree : Tree (List ℕ)) → Contains (taken ++ v ∷ []) u → IsLatch c name u next → EventUnfolds (S f) (IsEnabled c) (Some (u, bit)) next [] tree → EventUnfolds (S g) (IsEnabled c) (Some (u, bit)) next [] tree
  held_kept name u next bit tree h latch unfolds = held_to c single same depths o (Rank v) f g agree name u next bit [] tree latch (low_of u h) unfolds

  in_founder : (class : ℕ) (w : P) → IsFounder (S f) taken class w → Contains taken w
  in_founder class w is = subst (λ zs. Contains zs w) (sym is.split) (Contains-append_right is.before (w ∷ is.after) w (Contains-head w is.after))

  pub separation_kept : (low high : ℕ) (u w : P) (variables : List (Variable (List ℕ))) (bits : List Bool) (l r : Bool) → IsSeparation (S f) taken low high u w variables bits l r → IsSeparation (S g) (taken ++ v ∷ []) low high u w variables bits l r
  separation_kept low high u w variables bits l r t =
      whole_of (S g) (taken ++ v ∷ []) low high u w variables bits l r t.lower (founder_to c single same depths o (Rank v) f g agree taken (v ∷ []) kept high w t.founder_is)
      (apart_to c single same depths o (Rank v) f g agree taken (v ∷ []) kept low_taken w (low_taken w (in_founder high w t.founder_is)) variables bits low u l r (parts_of (S f) taken low high u w variables bits l r t))

  pub always_kept : (high : ℕ) (w : P) (variables : List (Variable (List ℕ))) (bits : List Bool) → IsSeparationFromAlways (S f) taken high w variables bits → IsSeparationFromAlways (S g) (taken ++ v ∷ []) high w variables bits
  always_kept high w variables bits t =
      let a = always_to c single same depths o (Rank v) f g agree taken (v ∷ []) kept low_taken w (low_taken w (in_founder high w t.founder_is)) variables bits (record { are_variables = t.are_variables; each = t.each; care = t.care; off = t.off }) in
      record {
        lower = t.lower;
        founder_is = founder_to c single same depths o (Rank v) f g agree taken (v ∷ []) kept high w t.founder_is;
        are_variables = a.are_variables;
        each = a.each;
        care = a.care;
        off = a.off;
      }

  -- the next latch founds its class
  module _ (above : (u : P) → Contains taken u → f u < g v) where
    founds : IsFounder (S g) (taken ++ v ∷ []) (g v) v
    founds = record {
      before = taken;
      after = [];
      split = refl;
      class_is = refl;
      first = λ u h e. let k = kept u h in omega (arith, above u h, k, e);
    }

    pub separation_begins : (low : ℕ) (u : P) (variables : List (Variable (List ℕ))) (bits : List Bool) (l r : Bool) → TellsApart (S f) taken low u v variables bits l r → IsSeparation (S g) (taken ++ v ∷ []) low (g v) u v variables bits l r
    separation_begins low u variables bits l r t =
        let inside = subst (λ zs. Contains zs u) (sym t.split) (Contains-append_right t.before (u ∷ t.after) u (Contains-head u t.after)) in
        whole_of (S g) (taken ++ v ∷ []) low (g v) u v variables bits l r (omega (arith, above u inside, t.class_is)) founds
        (apart_to c single same depths o (Rank v) f g agree taken (v ∷ []) kept low_taken v (omega arith) variables bits low u l r t)

    pub always_begins : 0 < g v → (variables : List (Variable (List ℕ))) (bits : List Bool) → TellsFromAlways (S f) v variables bits → IsSeparationFromAlways (S g) (taken ++ v ∷ []) (g v) v variables bits
    always_begins lower variables bits t =
        let a = always_to c single same depths o (Rank v) f g agree taken (v ∷ []) kept low_taken v (omega arith) variables bits t in
        record { lower = lower; founder_is = founds; are_variables = a.are_variables; each = a.each; care = a.care; off = a.off }

pub variables_stay_in_nets : VariablesStay
variables_stay_in_nets a b m n left right f g taken rest v next u w variables hu hw are =
    variables_kept (joined a b) (joined_single a b m n next.left_net next.right_net) joined_same next.depths (left ++ right) f g taken rest v next.map next.others u w variables hu hw are

-- what a latch that was taken takes over, or the next one, unfolds to the same tree
pub held_trees_stay : (a b : Circuit ℕ) (m n : ℕ) (left right : List ℕ) (f g : Either ℕ ℕ → ℕ) (taken rest : List (Either ℕ ℕ)) (v : Either ℕ ℕ) → IsNextGiven a b m n left right f g taken rest v →
    (name : List ℕ) (u next : Either ℕ ℕ) (bit : Bool) (tree : Tree (List ℕ)) → Contains (taken ++ v ∷ []) u → IsLatch (joined a b) name u next →
    EventUnfolds (side_by_side a b left right f) (IsEnabled (joined a b)) (Some (u, bit)) next [] tree → EventUnfolds (side_by_side a b left right g) (IsEnabled (joined a b)) (Some (u, bit)) next [] tree
held_trees_stay a b m n left right f g taken rest v next_given name u next bit tree h latch unfolds =
    held_kept (joined a b) (joined_single a b m n next_given.left_net next_given.right_net) joined_same next_given.depths (left ++ right) f g taken rest v next_given.map next_given.others name u next bit tree h latch unfolds

pub separations_stay_in_nets : SeparationsStay
separations_stay_in_nets a b m n left right f g taken rest v next variables bits = (
  λ low high u w l r t. separation_kept (joined a b) (joined_single a b m n next.left_net next.right_net) joined_same next.depths (left ++ right) f g taken rest v next.map next.others low high u w variables bits l r t,
  λ high w t. always_kept (joined a b) (joined_single a b m n next.left_net next.right_net) joined_same next.depths (left ++ right) f g taken rest v next.map next.others high w variables bits t,
)

pub separations_begin_in_nets : SeparationsBegin
separations_begin_in_nets a b m n left right f g taken rest v next above variables bits = (
  λ low u l r t. separation_begins (joined a b) (joined_single a b m n next.left_net next.right_net) joined_same next.depths (left ++ right) f g taken rest v next.map next.others above low u variables bits l r t,
  λ lower t. always_begins (joined a b) (joined_single a b m n next.left_net next.right_net) joined_same next.depths (left ++ right) f g taken rest v next.map next.others above lower variables bits t,
)
