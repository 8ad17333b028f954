-- The premises on what an enable visits are met.
use Rattle.std.proofs.Common.{◌≡◌, ◌∙◌, ℕ, ◌+◌, ◌<◌, ◌≤◌, false, List, [], ◌∷◌, slice_get, Option, Some, refl, sym, subst, arith, inl, inr}
use Rattle.std.specs.Prelude.{◌-◌, ◌==◌, if◌then◌else◌, codes}
use Rattle.std.specs.List.{All, Contains}
use Rattle.std.proofs.lemmas.List.Elements.{All-from_recursion}
use Rattle.circuit_theory.specs.Circuit.{Circuit, Equation, Gate, Latch, Port as port_equation, Reads}
use Rattle.circuit_theory.specs.EventSizes.{EventVisits, IsOther, Start}
use Rattle.circuit_theory.specs.Frame.{EventSide}
use Rattle.circuit_theory.specs.Tree.{IsInputNumber}
use Rattle.circuit_theory.proofs.Lists.{Contains-head, only}
use Rattle.base_tables.specs.Table.{AreDistinct}
use Rattle.flat_net.specs.View.{circuit_of}
use Rattle.event_nodes.specs.Reach.{IsListedAt}
use Rattle.event_nodes.specs.View.{Enabled, side_of}
use Rattle.event_nodes.specs.Visited.{HasCounted, HoldsVisits, IsVisitedPair, places_weight}
use Rattle.event_nodes.specs.event_variables.Inputs.{AreInputsOf, AreVisitedInputs, IsVariableAt}
use Rattle.event_nodes.specs.event_variables.Variables.{GoesBefore}
use Rattle.event_nodes.proofs.Totals.{counted_weight, passed_over}
use Rattle.event_nodes.proofs.event_variables.Meaning.{visited_inputs, enable_variables}
use Rattle.call_rows.proofs.circuit_samples.Each.{each_at, each_pair}
use Rattle.premise_rows.specs.event_literal_premises.Chained.{where_a, at_chain, p_enable, latch_p}
use Rattle.premise_rows.specs.event_literal_premises.Visits.{visited, p_vars, VisitsMeetPremises}
use Rattle.premise_rows.proofs.block_premises.TurningNets.{each}
use Rattle.premise_rows.proofs.event_outcome_samples.Nets.{nothing}
use Rattle.premise_rows.proofs.event_literal_premises.ChainLits.{chain_kept}
use Rattle.premise_rows.proofs.event_literal_premises.ChainSide as chain
use Rattle.premise_rows.proofs.event_literal_premises.Chains.{of_a}

abbrev c : Circuit ℕ
c = circuit_of where_a.net

abbrev s : EventSide ℕ
s = side_of where_a

abbrev On : ℕ → Type 0
On = Enabled where_a

abbrev Visits : Option ℕ → ℕ → List ℕ → Type 0
Visits put q node = EventVisits s On (p_enable ∷ []) put q node

q_enabled : On 2
q_enabled = chain.q_enabled of_a

p_enabled : On 3
p_enabled = chain.p_enabled of_a

-- what each place reads
abbrev reads_of : ℕ → List ℕ
reads_of p = if p == 4 then 0 ∷ 1 ∷ 2 ∷ [] else if p == 5 then 2 ∷ [] else if p == 6 then 5 ∷ 1 ∷ 3 ∷ [] else []

abbrev ReadsOf : Equation ℕ → Type 0
ReadsOf (Gate out fanins cover) = (q : ℕ) → Contains fanins q → Contains (reads_of out) q
ReadsOf (Latch name out next) = Unit {0}
ReadsOf (port_equation out from) = ⊥

reading : {p q : ℕ} → Reads c p q → Contains (reads_of p) q
reading (Reads.by_gate {out = o} {q = q} {fanins = fanins} {cover = cover} h k) = each_at ReadsOf c.equations ((λ r m. m), ((λ r m. m), ((λ r m. m), (tt, (tt, tt))))) (Gate o fanins cover) h q k
reading (Reads.by_port {out = o} {from = from} h) = absurd (each_at ReadsOf c.equations ((λ r m. m), ((λ r m. m), ((λ r m. m), (tt, (tt, tt))))) (port_equation o from) h)

-- the places at the root and at the child
abbrev roots : List ℕ
roots = 1 ∷ 2 ∷ 3 ∷ 5 ∷ 6 ∷ []

abbrev loaded : List ℕ
loaded = 0 ∷ 1 ∷ 2 ∷ 4 ∷ []

-- a place that is visited, at its node, with the latch that is read as a constant there
data IsMet : Option ℕ → ℕ → List ℕ → Type 0 where
  at_root : {p : ℕ} → Contains roots p → IsMet (Some 3) p []
  at_load : {p : ℕ} → Contains loaded p → IsMet (Some 2) p (1 ∷ [])

-- each set holds what its places read
none : (F : ℕ → Type 0) (r : ℕ) → Contains [] r → F r
none F r h = absurd (nothing r h)

roots_read : (q : ℕ) → Contains roots q → (r : ℕ) → Contains (reads_of q) r → Contains roots r
roots_read q m r h =
    each_at (λ z. (t : ℕ) → Contains (reads_of z) t → Contains roots t) roots (
      none (Contains roots),
      (
        none (Contains roots),
        (
          none (Contains roots),
          (
            (λ t k. each_at (Contains roots) (2 ∷ []) ((1, omega arith, refl), tt) t k),
            ((λ t k. each_at (Contains roots) (5 ∷ 1 ∷ 3 ∷ []) ((3, omega arith, refl), ((0, omega arith, refl), ((2, omega arith, refl), tt))) t k), tt),
          ),
        ),
      ),
    ) q m r h

loaded_read : (q : ℕ) → Contains loaded q → (r : ℕ) → Contains (reads_of q) r → Contains loaded r
loaded_read q m r h =
    each_at (λ z. (t : ℕ) → Contains (reads_of z) t → Contains loaded t) loaded (
      none (Contains loaded),
      (
        none (Contains loaded),
        (
          none (Contains loaded),
          ((λ t k. each_at (Contains loaded) (0 ∷ 1 ∷ 2 ∷ []) ((0, omega arith, refl), ((1, omega arith, refl), ((2, omega arith, refl), tt))) t k), tt),
        ),
      ),
    ) q m r h

onward : {put : Option ℕ} {q r : ℕ} {node : List ℕ} → IsMet put q node → Contains (reads_of q) r → IsMet put r node
onward (IsMet.at_root {p = p} m) h = IsMet.at_root (roots_read p m _ h)
onward (IsMet.at_load {p = p} m) h = IsMet.at_load (loaded_read p m _ h)

-- through q on to the child, and through p nowhere: it is read as a constant
taken : {put : Option ℕ} {q : ℕ} {node : List ℕ} → IsMet put q node → 2 ≡ q → IsOther put q → IsMet (Some 2) 4 (1 ∷ node)
taken (IsMet.at_root m) same other = IsMet.at_load (3, omega arith, refl)
taken (IsMet.at_load m) same other = absurd (other (sym same))

never : {put : Option ℕ} {q : ℕ} {node : List ℕ} → IsMet put q node → 3 ≡ q → IsOther put q → ⊥
never (IsMet.at_root m) same other = other (sym same)
never (IsMet.at_load {p = p} m) same other = each_at (λ z. 3 ≡ z → ⊥) loaded ((λ d. omega (arith, d)), ((λ d. omega (arith, d)), ((λ d. omega (arith, d)), ((λ d. omega (arith, d)), tt)))) p m same

started : (z : Start ℕ) → p_enable ≡ z → IsMet z.left_out z.place []
started z same = subst (λ (y : Start ℕ). IsMet y.left_out y.place []) same (IsMet.at_root (4, omega arith, refl))

both_enabled : (q next : ℕ) → chain.IsOne of_a q next → (On q → ⊥) → ⊥
both_enabled q next (inl d) off = off (subst On d.0 q_enabled)
both_enabled q next (inr d) off = off (subst On d.0 p_enabled)

through : {put : Option ℕ} {node : List ℕ} (q next : ℕ) → chain.IsOne of_a q next → IsMet put q node → IsOther put q → IsMet (Some q) next (s.class q ∷ node)
through {node = node} q next (inl d) seen other = subst (λ z. IsMet (Some z) next (s.class z ∷ node)) d.0 (subst (λ z. IsMet (Some 2) z (1 ∷ node)) d.1 (taken seen d.0 other))
through q next (inr d) seen other = absurd (never seen d.0 other)

met : {put : Option ℕ} {q : ℕ} {node : List ℕ} → Visits put q node → IsMet put q node
met (EventVisits.start {s = z} h) = started z (only p_enable z h)
met (EventVisits.reads seen reads) = onward (met seen) (reading reads)
met (EventVisits.plain {q = q} {next = next} {name = name} seen other is off) = absurd (both_enabled q next (chain.latch_is of_a name q next is) off)
met (EventVisits.held {q = q} {next = next} {name = name} seen other is on) = through q next (chain.latch_is of_a name q next is) (met seen) other

-- all of these are listed
abbrev ListedRoot : ℕ → Type 0
ListedRoot q = let p : ℕ × ℕ = (0, q) in Contains visited p

abbrev ListedLoad : ℕ → Type 0
ListedLoad q = let p : ℕ × ℕ = (1, q) in Contains visited p

listed : {put : Option ℕ} {q : ℕ} {node : List ℕ} → IsMet put q node → IsListedAt at_chain.children visited node q
listed (IsMet.at_root {p = p} m) = record {
  node = 0;
  made = omega arith;
  path_is = refl;
  listed = each_at ListedRoot roots ((0, omega arith, refl), ((1, omega arith, refl), ((2, omega arith, refl), ((3, omega arith, refl), ((4, omega arith, refl), tt))))) p m;
}
listed (IsMet.at_load {p = p} m) = record {
  node = 1;
  made = omega arith;
  path_is = refl;
  listed = each_at ListedLoad loaded ((5, omega arith, refl), ((6, omega arith, refl), ((7, omega arith, refl), ((8, omega arith, refl), tt)))) p m;
}

holds : HoldsVisits where_a at_chain.children p_enable visited
holds put q path seen = listed (met seen)

-- and all that are listed are visited
visits_m : Visits (Some 3) 6 []
visits_m = EventVisits.start (Contains-head p_enable [])

visits_g : Visits (Some 3) 5 []
visits_g = EventVisits.reads visits_m (Reads.by_gate {fanins = 5 ∷ 1 ∷ 3 ∷ []} (2, omega arith, refl) (0, omega arith, refl))

visits_a : Visits (Some 3) 1 []
visits_a = EventVisits.reads visits_m (Reads.by_gate {fanins = 5 ∷ 1 ∷ 3 ∷ []} (2, omega arith, refl) (1, omega arith, refl))

visits_p : Visits (Some 3) 3 []
visits_p = EventVisits.reads visits_m (Reads.by_gate {fanins = 5 ∷ 1 ∷ 3 ∷ []} (2, omega arith, refl) (2, omega arith, refl))

visits_q : Visits (Some 3) 2 []
visits_q = EventVisits.reads visits_g (Reads.by_gate {fanins = 2 ∷ []} (1, omega arith, refl) (0, omega arith, refl))

visits_n : Visits (Some 2) 4 (1 ∷ [])
visits_n = EventVisits.held {name = codes "q"} visits_q (λ d. omega (arith, d)) (chain.q_is of_a) q_enabled

visits_before : (q : ℕ) → Contains (0 ∷ 1 ∷ 2 ∷ []) q → Visits (Some 2) q (1 ∷ [])
visits_before q m = EventVisits.reads visits_n (Reads.by_gate {fanins = 0 ∷ 1 ∷ 2 ∷ []} (0, omega arith, refl) m)

each_visited : All (IsVisitedPair where_a at_chain.children (p_enable ∷ [])) visited
each_visited = All-from_recursion (IsVisitedPair where_a at_chain.children (p_enable ∷ [])) visited (
  record { node = omega arith; within = omega arith; out = Some 3; visit = visits_a },
  (
    record { node = omega arith; within = omega arith; out = Some 3; visit = visits_q },
    (
      record { node = omega arith; within = omega arith; out = Some 3; visit = visits_p },
      (
        record { node = omega arith; within = omega arith; out = Some 3; visit = visits_g },
        (
          record { node = omega arith; within = omega arith; out = Some 3; visit = visits_m },
          (
            record { node = omega arith; within = omega arith; out = Some 2; visit = visits_before 0 (0, omega arith, refl) },
            (
              record { node = omega arith; within = omega arith; out = Some 2; visit = visits_before 1 (1, omega arith, refl) },
              (record { node = omega arith; within = omega arith; out = Some 2; visit = visits_before 2 (2, omega arith, refl) }, (record { node = omega arith; within = omega arith; out = Some 2; visit = visits_n }, tt)),
            ),
          ),
        ),
      ),
    ),
  ),
)

-- each is listed once
abbrev number : ℕ × ℕ → ℕ
number p = if p.0 == 0 then (if p.1 == 5 then 3 else if p.1 == 6 then 4 else p.1 - 1) else (if p.1 == 4 then 8 else 5 + p.1)

distinct : AreDistinct visited
distinct i j x h k = sym (place i x h) ∙ place j x k
  where
    place : (i : ℕ) (p : ℕ × ℕ) → slice_get visited i ≡ Some p → number p ≡ i
    place = each (λ i (p : ℕ × ℕ). number p ≡ i) visited (refl, (refl, (refl, (refl, (refl, (refl, (refl, (refl, (refl, tt)))))))))

weight : places_weight where_a.net visited ≡ 27
weight = refl

counted : HasCounted where_a at_chain.children (p_enable ∷ []) (record { places = visited; weight = 27 })
counted = record {
  weighed = record { sum = weight; small = omega arith; few = omega arith };
  only = each_visited;
  all = λ x h. subst (λ z. HoldsVisits where_a at_chain.children z visited) (only p_enable x h) holds;
}

passed : 26 < places_weight where_a.net visited
passed = omega (arith, weight)

-- the inputs among them
abbrev VariableAt : ℕ → Type 0
VariableAt v = (p : ℕ × ℕ) × Contains visited p × IsVariableAt where_a at_chain p v

abbrev VariableOf : ℕ × ℕ → Type 0
VariableOf p = (n : ℕ) → IsInputNumber c where_a.order p.1 n → (v : ℕ) × Contains p_vars v × IsVariableAt where_a at_chain p v

no_input : (p : ℕ × ℕ) → 2 ≤ p.1 → VariableOf p
no_input p l n h = absurd (let o = chain.own_number of_a p.1 n h in omega (arith, l, o.0, o.1))

inputs : AreInputsOf where_a at_chain visited p_vars
inputs = record {
  in_order = record {
    within = All-from_recursion (λ v. v < 4) p_vars (omega arith, (omega arith, (omega arith, tt)));
    ordered = each_pair (GoesBefore at_chain) p_vars ((inr (refl, inr (refl, omega arith)), (inl (omega arith), tt)), ((inl (omega arith), tt), (tt, tt)));
  };
  each = λ v h. each_at VariableAt p_vars (
    ((1, 0), (5, omega arith, refl), record { number = 0; numbered = inl (refl, refl); at = refl }),
    (((1, 1), (6, omega arith, refl), record { number = 1; numbered = inr (inl (refl, refl)); at = refl }), (((0, 1), (0, omega arith, refl), record { number = 1; numbered = inr (inl (refl, refl)); at = refl }), tt)),
  ) v h;
  all = λ p n h k. each_at VariableOf visited (
    (λ m g. (1, (2, omega arith, refl), record { number = 1; numbered = inr (inl (refl, refl)); at = refl })),
    (
      no_input (0, 2) (omega arith),
      (
        no_input (0, 3) (omega arith),
        (
          no_input (0, 5) (omega arith),
          (
            no_input (0, 6) (omega arith),
            (
              (λ m g. (2, (0, omega arith, refl), record { number = 0; numbered = inl (refl, refl); at = refl })),
              ((λ m g. (3, (1, omega arith, refl), record { number = 1; numbered = inr (inl (refl, refl)); at = refl })), (no_input (1, 2) (omega arith), (no_input (1, 4) (omega arith), tt))),
            ),
          ),
        ),
      ),
    ),
  ) p h n k;
}

pub visits_meet_premises : VisitsMeetPremises
visits_meet_premises =
    let sound = chain.is_sound of_a in
    let circuit = chain.is_circuit of_a in
    let unfolds = chain.p_next of_a false in
    let are : AreVisitedInputs where_a at_chain p_enable p_vars = visited_inputs where_a at_chain p_enable visited p_vars sound chain_kept each_visited holds inputs in
    record {
      sound = sound;
      circuit = circuit;
      graph = chain_kept;
      distinct = distinct;
      each = each_visited;
      holds = holds;
      counted = counted;
      weighs = counted_weight where_a at_chain (p_enable ∷ []) (record { places = visited; weight = 27 }) sound chain_kept distinct counted;
      passed = passed;
      over = passed_over where_a at_chain (p_enable ∷ []) visited 26 sound chain_kept distinct each_visited passed;
      inputs = inputs;
      visited_inputs = are;
      at = refl;
      enabled = p_enabled;
      unfolds = (_, unfolds);
      variables = enable_variables where_a at_chain 1 latch_p false p_vars _ sound circuit refl p_enabled unfolds are;
    }
