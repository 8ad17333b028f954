-- The design whose latch on a cycle lies inside of an instance.
use Rattle.std.proofs.Common.{◌≡◌, ◌∙◌, ◌<◌, ℕ, zero, suc, ◌+◌, Bool, true, false, not, List, [], ◌∷◌, length, Option, Some, None, slice_get, refl, sym, ap, subst, arith, inl, inr}
use Rattle.std.specs.Fmt.{digits}
use Rattle.std.specs.Prelude.{codes, ◌⊎◌, if◌then◌else◌, unwrap_or}
use Rattle.std.specs.List.{All, Contains}
use Rattle.circuit_theory.specs.declared.Mode.TheVariants.{Plain}
use Rattle.circuit_theory.specs.Agree.{cut, IsPair, IsMinimalCut}
use Rattle.circuit_theory.specs.Circuit.{Circuit, Equation, Gate, Latch, Port, Named, IsLatch, Holds, Carries, Meets, Reads, Reaches}
use Rattle.circuit_theory.specs.Cover.{cover_value}
use Rattle.circuit_theory.specs.Depth.{LatchReads, LatchPath, HasCycle, without}
use Rattle.circuit_theory.specs.Names.{same_name, is_among}
use Rattle.circuit_theory.specs.Run.{IsRun, Marked, NoneEnabled}
use Rattle.circuit_theory.specs.Sizes.{Weighed}
use Rattle.circuit_theory.proofs.Lists.{Contains-cases, All-from_each, of_at}
use Rattle.blif_read.specs.Design.{Inside, Place, place_at, top, walk, circuit_of_design}
use Rattle.witness_report.specs.declared.stimulus.Stimulus.{Stimulus}
use Rattle.witness_report.specs.Shown.{Obeys}
use Rattle.pair_texts.specs.design_rows.NoFault.{has_no_fault}
use Rattle.pair_texts.specs.design_rows.Ranked.{is_ranked}
use Rattle.pair_texts.proofs.design_rows.NoFaults.{tested_is_sound}
use Rattle.pair_texts.proofs.design_rows.Ranking.{is_ranked-sound, no_cycle}
use Rattle.premise_rows.specs.job_rows.nested_rows.Cutting.{MeetsOnward, IsObeyed, turning, NestedIsCut, NestedMeetsOnward, NestedIsObeyed}
use Rattle.pair_texts.specs.design_rows.Designs.{same_cover, xor_cover, nested}
use Rattle.pair_texts.specs.design_rows.Small.{small_nested, NestedIsSmall}
use Rattle.pair_texts.proofs.design_rows.Examples.{at_top, rank_of}
use Rattle.pair_texts.proofs.design_rows.Tested.{PassesTests, tested_is_small}

abbrev inner : List Inside
inner = record { model = codes "cell"; instance = 0 } ∷ []

-- the latch behind the instance now, what it takes over a cycle ago; and what the latch inside takes over now
abbrev spots : List (Weighed Place)
spots =
    at_top (codes "y") 0 1 ∷ at_top (codes "m") 1 0 ∷ record { place = place_at inner (codes "o"); shift = 1; weight = 3 } ∷ record { place = place_at inner (codes "q"); shift = 1; weight = 1 }
    ∷ record { place = place_at inner (codes "n"); shift = 0; weight = 7 } ∷ record { place = place_at inner (codes "i"); shift = 0; weight = 0 } ∷ record { place = place_at inner (codes "q"); shift = 0; weight = 1 }
    ∷ at_top (codes "a") 0 1 ∷ []

passes : PassesTests nested small_nested (rank_of (codes "y" ∷ [])) spots
unfolding circuit_of_design walk cut digits
passes = record { no_clock = refl; inputs = refl; outputs = refl; latches = refl; ranked = refl; closed = refl; weight = refl }

abbrev order : List (List ℕ)
order = codes "cell#0#i" ∷ codes "cell#0#n" ∷ codes "cell#0#o" ∷ codes "m" ∷ []

no_fault : has_no_fault order nested ≡ true
unfolding walk digits
no_fault = refl

pub nested_is_small : NestedIsSmall
nested_is_small = (tested_is_sound order nested no_fault, tested_is_small nested small_nested (rank_of (codes "y" ∷ [])) spots passes)

-- the design, written out
abbrev I : Place
I = place_at inner (codes "i")

abbrev O : Place
O = place_at inner (codes "o")

abbrev N : Place
N = place_at inner (codes "n")

abbrev Q : Place
Q = place_at inner (codes "q")

abbrev A : Place
A = top (codes "a")

abbrev M : Place
M = top (codes "m")

abbrev Y : Place
Y = top (codes "y")

abbrev entering : Equation Place
entering = Port I A

abbrev leaving : Equation Place
leaving = Port M O

abbrev turns : Equation Place
turns = Gate N (I ∷ Q ∷ []) xor_cover

abbrev holding : Equation Place
holding = Latch (codes "cell#0#q") Q N

abbrev showing : Equation Place
showing = Gate O (Q ∷ []) same_cover

abbrev following : Equation Place
following = Latch (codes "y") Y M

abbrev d : Circuit Place
d = record {
  inputs = record { name = codes "a"; place = A } ∷ [];
  outputs = record { name = codes "y"; place = Y } ∷ [];
  equations = entering ∷ leaving ∷ turns ∷ holding ∷ showing ∷ following ∷ [];
  starts = [];
}

circuit_is : circuit_of_design nested None ≡ d
unfolding circuit_of_design walk digits
circuit_is = refl

-- with the latch inside cut out
abbrev c : Circuit Place
c = record {
  inputs = record { name = codes "a"; place = A } ∷ record { name = codes "cell#0#q"; place = Q } ∷ [];
  outputs = record { name = codes "y"; place = Y } ∷ record { name = codes "cell#0#q"; place = N } ∷ [];
  equations = entering ∷ leaving ∷ turns ∷ showing ∷ following ∷ [];
  starts = [];
}

cut_is : cut turning d ≡ c
unfolding cut
cut_is = refl

nothing : {X : Type 0} {x : X} → Contains [] x → ⊥
nothing h = let l = h.1 in omega (arith, l)

-- F holds of each element, one by one
abbrev Each : {X : Type 0} → (X → Type 0) → List X → Type 0
Each F [] = Unit {0}
Each F (x ∷ xs) = F x × Each F xs

each_at : {X : Type 0} (F : X → Type 0) (xs : List X) → Each F xs → (x : X) → Contains xs x → F x
each_at F [] all x h = absurd (nothing h)
each_at {X} F (y ∷ xs) all x h = by (Contains-cases y x xs h) (λ k. each_at F xs all.1 x k)
  where
    by : (y ≡ x) ⊎ Contains xs x → (Contains xs x → F x) → F x
    by (inl e) later = subst F e all.0
    by (inr k) later = later k

all_of : {X : Type 0} (F : X → Type 0) (xs : List X) → Each F xs → All F xs
all_of F xs all = All-from_each F xs (λ x h. each_at F xs all x h)

-- what a latch is asked for
abbrev OfLatch : (List ℕ → Place → Place → Type 0) → Equation Place → Type 0
OfLatch F (Gate out fanins cover) = Unit {0}
OfLatch F (Latch name out next) = F name out next
OfLatch F (Port out from) = Unit {0}

-- the two latches
abbrev IsOne : List ℕ → Place → Place → Type 0
IsOne name u next = ((name ≡ codes "cell#0#q") × (u ≡ Q) × (next ≡ N)) ⊎ ((name ≡ codes "y") × (u ≡ Y) × (next ≡ M))

one_of : (name : List ℕ) (u next : Place) → IsLatch d name u next → IsOne name u next
one_of name u next h = each_at (OfLatch IsOne) d.equations (tt, (tt, (tt, (inl (refl, refl, refl), (tt, (inr (refl, refl, refl), tt)))))) (Latch name u next) h

-- the latch of the exposed name
exposed_one : (name : List ℕ) (u next : Place) → Contains turning name → IsLatch d name u next → (u ≡ Q) × (next ≡ N)
exposed_one name u next h l = by (one_of name u next l) (Contains-cases (codes "cell#0#q") name [] h)
  where
    no : codes "cell#0#q" ≡ codes "y" → ⊥
    no e = let n = ap length e in omega (arith, n)

    by : IsOne name u next → (codes "cell#0#q" ≡ name) ⊎ Contains [] name → (u ≡ Q) × (next ≡ N)
    by (inl own) same = (own.1, own.2)
    by (inr other) (inl same) = absurd (no (same ∙ other.0))
    by (inr other) (inr none) = absurd (nothing none)

holding_there : IsLatch d (codes "cell#0#q") Q N
holding_there = of_at d.equations 3 holding refl

-- the latch inside reads itself
reads_itself : LatchReads d NoneEnabled [] Q Q
reads_itself = record {
  name = codes "cell#0#q";
  next = N;
  latch = holding_there;
  kept = λ h. nothing h;
  other_name = codes "cell#0#q";
  other_next = N;
  other = holding_there;
  other_kept = λ h. nothing h;
  cone = (
    inr (codes "cell#0#q", N, holding_there),
    Reaches.there (Reads.by_gate {fanins = I ∷ Q ∷ []} {cover = xor_cover} (of_at d.equations 2 turns refl) (of_at (I ∷ Q ∷ []) 1 Q refl)) Reaches.here,
  );
  no_self_edge = λ e. absurd e;
}

-- a cycle without any latches cut out, and none without that one
minimal : IsMinimalCut Plain d d turning
minimal = record {
  common = λ name h. (Q, N, Q, N, named name h, named name h);
  left_free = λ h. free h;
  right_free = λ h. free h;
  needed = λ i h. needed i h;
}
  where
    named : (name : List ℕ) → Contains turning name → IsLatch d name Q N
    named name h = each_at (λ (m : List ℕ). IsLatch d m Q N) turning (holding_there, tt) name h

    free : HasCycle d NoneEnabled turning → ⊥
    free = no_cycle d turning (rank_of (codes "y" ∷ []))
        (is_ranked-sound d turning (rank_of (codes "y" ∷ [])) (subst (λ (k : Circuit Place). is_ranked k turning (rank_of (codes "y" ∷ [])) ≡ true) circuit_is passes.ranked))

    needed : (i : ℕ) → i < length turning → HasCycle d NoneEnabled (without turning i) ⊎ HasCycle d NoneEnabled (without turning i)
    needed zero h = inl (Q, LatchPath.edge reads_itself)
    needed (suc i) h = absurd (omega (arith, h))

pub nested_is_cut : NestedIsCut
nested_is_cut = subst (λ (k : Circuit Place). IsMinimalCut Plain k k turning) (sym circuit_is) minimal

-- the values of a cycle, by those of the input and the latches
abbrev value : Bool → Bool → Bool → Place → Bool
value a q y p =
    if is_among (codes "a" ∷ codes "i" ∷ []) p.name then a else if same_name p.name (codes "n") then (if a then not q else q) else if same_name p.name (codes "y") then y else q

meets_d : (a q y : Bool) → Meets d (value a q y)
unfolding cover_value
meets_d true true y = all_of (Holds (value true true y)) d.equations (refl, (refl, (refl, (tt, (refl, (tt, tt))))))
meets_d true false y = all_of (Holds (value true false y)) d.equations (refl, (refl, (refl, (tt, (refl, (tt, tt))))))
meets_d false true y = all_of (Holds (value false true y)) d.equations (refl, (refl, (refl, (tt, (refl, (tt, tt))))))
meets_d false false y = all_of (Holds (value false false y)) d.equations (refl, (refl, (refl, (tt, (refl, (tt, tt))))))

meets_c : (a q y : Bool) → Meets c (value a q y)
unfolding cover_value
meets_c true true y = all_of (Holds (value true true y)) c.equations (refl, (refl, (refl, (refl, (tt, tt)))))
meets_c true false y = all_of (Holds (value true false y)) c.equations (refl, (refl, (refl, (refl, (tt, tt)))))
meets_c false true y = all_of (Holds (value false true y)) c.equations (refl, (refl, (refl, (refl, (tt, tt)))))
meets_c false false y = all_of (Holds (value false false y)) c.equations (refl, (refl, (refl, (refl, (tt, tt)))))

carries_d : (q y : Bool) → All (Carries (value true q y) (value true (not q) q)) d.equations
carries_d q y = all_of (Carries (value true q y) (value true (not q) q)) d.equations (tt, (tt, (tt, (refl, (tt, (refl, tt))))))

carries_c : (a q y b r : Bool) → All (Carries (value a q y) (value b r q)) c.equations
carries_c a q y b r = all_of (Carries (value a q y) (value b r q)) c.equations (tt, (tt, (tt, (tt, (refl, tt)))))

-- the latch inside turns in each cycle, and the other follows it; what that powers up with is free
abbrev q_at : ℕ → Bool
q_at zero = false
q_at (suc t) = not (q_at t)

abbrev y_at : Bool → ℕ → Bool
y_at y zero = y
y_at y (suc t) = q_at t

abbrev run : Bool → ℕ → Place → Bool
run y t = value true (q_at t) (y_at y t)

is_run : (y : Bool) (n : ℕ) → IsRun d n (run y)
is_run y n = record {
  meets = λ t h. meets_d true (q_at t) (y_at y t);
  carries = λ t h. (let next : suc t ≡ t + 1 = omega arith in subst (λ (k : ℕ). All (Carries (run y t) (run y k)) d.equations) next (carries_d (q_at t) (y_at y t)));
}

-- the input's place
only_a : (name : List ℕ) (p : Place) → Contains d.inputs (record { name = name; place = p }) → p ≡ A
only_a name p h = each_at (λ (n : Named Place). n.place ≡ A) d.inputs (refl, tt) (record { name = name; place = p }) h

only_y : (name : List ℕ) (p : Place) → Contains d.outputs (record { name = name; place = p }) → p ≡ Y
only_y name p h = each_at (λ (n : Named Place). n.place ≡ Y) d.outputs (refl, tt) (record { name = name; place = p }) h

module _ (values : ℕ → Place → Bool) where
  settled_i : (t : ℕ) → Marked c NoneEnabled values t I
  settled_i t = Marked.port {out = I} {from = A} (of_at c.equations 0 entering refl) (Marked.input (codes "a", of_at c.inputs 0 (record { name = codes "a"; place = A }) refl))

  settled_q : (t : ℕ) → Marked c NoneEnabled values t Q
  settled_q t = Marked.input (codes "cell#0#q", of_at c.inputs 1 (record { name = codes "cell#0#q"; place = Q }) refl)

  settled_n : (t : ℕ) → Marked c NoneEnabled values t N
  settled_n t = Marked.gate {fanins = I ∷ Q ∷ []} {cover = xor_cover} (of_at c.equations 2 turns refl)
      (λ p k. each_at (λ (p : Place). Marked c NoneEnabled values t p) (I ∷ Q ∷ []) (settled_i t, (settled_q t, tt)) p k)

  settled_o : (t : ℕ) → Marked c NoneEnabled values t O
  settled_o t = Marked.gate {fanins = Q ∷ []} {cover = same_cover} (of_at c.equations 3 showing refl)
      (λ p k. each_at (λ (p : Place). Marked c NoneEnabled values t p) (Q ∷ []) (settled_q t, tt) p k)

  settled_y : (t : ℕ) → Marked c NoneEnabled values (suc t) Y
  settled_y t = Marked.plain {name = codes "y"} {out = Y} {next = M}
      (of_at c.equations 4 following refl)
      (λ e. e) (Marked.port {out = M} {from = O} (of_at c.equations 1 leaving refl) (settled_o t))

  -- both sorts of pairs are settled from cycle 1 on
  settled_y_or_n : (p : Place) → (p ≡ Y) ⊎ (p ≡ N) → Marked (cut turning d) NoneEnabled values 1 p
  settled_y_or_n p (inl e) = subst (λ (k : Circuit Place). Marked k NoneEnabled values 1 p) (sym cut_is) (subst (λ (x : Place). Marked c NoneEnabled values 1 x) (sym e) (settled_y 0))
  settled_y_or_n p (inr e) = subst (λ (k : Circuit Place). Marked k NoneEnabled values 1 p) (sym cut_is) (subst (λ (x : Place). Marked c NoneEnabled values 1 x) (sym e) (settled_n 1))

pair_at : (p q : Place) → IsPair turning d d p q → ((p ≡ Y) ⊎ (p ≡ N)) × ((q ≡ Y) ⊎ (q ≡ N))
pair_at p q (IsPair.outputs {name = name} l r) = (inl (only_y name p l), inl (only_y name q r))
pair_at p q (IsPair.nexts {name = name} {u = u} {v = v} known l r) = (inr (exposed_one name u p known l).1, inr (exposed_one name v q known r).1)

meets : MeetsOnward turning d d
meets = record {
  steps = 3;
  left = run false;
  right = run true;
  alike = record {
    left_run = is_run false 3;
    right_run = is_run true 3;
    equal_inputs = λ name p q h k t le. ap (run false t) (only_a name p h) ∙ sym (ap (run true t) (only_a name q k));
  };
  cycle = 1;
  below = omega arith;
  settled = λ p q h. (let at = pair_at p q h in (settled_y_or_n (run false) p at.0, settled_y_or_n (run true) q at.1));
  equal = λ name u p v q t known l r early. ap (run false t) (exposed_one name u p known l).0 ∙ sym (ap (run true t) (exposed_one name v q known r).0);
  earlier = 0;
  before = omega arith;
  p = Y;
  q = Y;
  is_pair = IsPair.outputs {name = codes "y"} (of_at d.outputs 0 (record { name = codes "y"; place = Y }) refl) (of_at d.outputs 0 (record { name = codes "y"; place = Y }) refl);
  differ = λ e. cc;
}

pub nested_meets_onward : NestedMeetsOnward
nested_meets_onward = subst (λ (k : Circuit Place). MeetsOnward turning k k) (sym circuit_is) meets

-- the bit of a row, and of a cycle
abbrev of_row : ℕ → Option (List Bool) → Bool
of_row i None = false
of_row i (Some row) = unwrap_or (slice_get row i) false

abbrev bit : List (List Bool) → ℕ → ℕ → Bool
bit rows t i = of_row i (slice_get rows t)

-- the latch behind the instance powers up with 0
abbrev follower : List (List Bool) → ℕ → Bool
follower rows zero = false
follower rows (suc t) = bit rows t 1

abbrev given : List (List Bool) → ℕ → Place → Bool
given rows t = value (bit rows t 0) (bit rows t 1) (follower rows t)

given_is_run : (rows : List (List Bool)) (n : ℕ) → IsRun c n (given rows)
given_is_run rows n = record {
  meets = λ t h. meets_c (bit rows t 0) (bit rows t 1) (follower rows t);
  carries = λ t h.
      (let next : suc t ≡ t + 1 = omega arith in
      subst (λ (k : ℕ). All (Carries (given rows t) (given rows k)) c.equations) next (carries_c (bit rows t 0) (bit rows t 1) (follower rows t) (bit rows (suc t) 0) (bit rows (suc t) 1)));
}

bit_is : (rows : List (List Bool)) (t i : ℕ) (row : List Bool) (b : Bool) → slice_get rows t ≡ Some row → slice_get row i ≡ Some b → bit rows t i ≡ b
bit_is rows t i row b row_is b_is = ap (of_row i) row_is ∙ ap (λ (o : Option Bool). unwrap_or o false) b_is

-- the inputs of the cut circuit
abbrev IsColumn : Named Place → Type 0
IsColumn n = ((n.name ≡ codes "a") × (n.place ≡ A)) ⊎ ((n.name ≡ codes "cell#0#q") × (n.place ≡ Q))

column_of : (name : List ℕ) (p : Place) → Contains c.inputs (record { name = name; place = p }) → IsColumn (record { name = name; place = p })
column_of name p h = each_at IsColumn c.inputs (inl (refl, refl), (inr (refl, refl), tt)) (record { name = name; place = p }) h

given_obeys : (stimulus : Stimulus) → stimulus.names ≡ codes "a" ∷ turning → (n : ℕ) → Obeys c stimulus n (given stimulus.rows)
given_obeys stimulus names n t i row name b p h row_at b_at name_at input =
    by i (subst (λ (ns : List (List ℕ)). slice_get ns i ≡ Some name) names name_at) (column_of name p input) (bit_is stimulus.rows t i row b row_at b_at)
  where
    some : {x y : List ℕ} → Some x ≡ Some y → x ≡ y
    some e = cc

    apart : codes "a" ≡ codes "cell#0#q" → ⊥
    apart e = let l = ap length e in omega (arith, l)

    by : (i : ℕ) → slice_get (codes "a" ∷ turning) i ≡ Some name → IsColumn (record { name = name; place = p }) → bit stimulus.rows t i ≡ b → given stimulus.rows t p ≡ b
    by zero at (inl own) is = ap (given stimulus.rows t) own.1 ∙ is
    by zero at (inr other) is = absurd (apart (some at ∙ other.0))
    by (suc zero) at (inl other) is = absurd (apart (sym other.0 ∙ sym (some at)))
    by (suc zero) at (inr own) is = ap (given stimulus.rows t) own.1 ∙ is
    by (suc (suc i)) at which is = absurd (cc)

pub nested_is_obeyed : NestedIsObeyed
nested_is_obeyed =
    subst (λ (k : Circuit Place). IsObeyed turning k (codes "a" ∷ turning)) (sym circuit_is)
    (λ stimulus names n.
    subst (λ (k : Circuit Place). (values : ℕ → Place → Bool) × IsRun k n values × Obeys k stimulus n values) (sym cut_is)
    (given stimulus.rows, given_is_run stimulus.rows n, given_obeys stimulus names n))
