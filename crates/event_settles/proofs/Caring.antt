-- What is decided of the care of a pair's query says which frames have care for the pair.
use Rattle.std.proofs.Common.{◌≡◌, ◌∙◌, ◌<◌, ℕ, suc, Bool, true, false, List, [], ◌∷◌, length, get_or, slice_get, Option, Some, None, refl, sym, ap, subst, arith, inl, Result, Ok, Err}
use Rattle.std.specs.Prelude.{◌↔◌, IfOk}
use Rattle.std.specs.List.{All, AllZip, Contains}
use Rattle.std.proofs.lemmas.List.Elements.{All-nil, All-cons, All-contains, All-head, All-tail}
use Rattle.std.proofs.lemmas.Option.{slice_get-get_or, slice_get_within}
use Rattle.flat_net.proofs.Nets.{some_at}
use Rattle.circuit_theory.specs.Joined.{Either, Left, Right}
use Rattle.circuit_theory.specs.Query.{Variable}
use Rattle.circuit_theory.specs.Tree.{Tree}
use Rattle.circuit_theory.proofs.Lists.{All-from_each, Contains-map, at_of, length-map}
use Rattle.circuit_theory.specs.EventFrames.{AreNodeVariables, IsPairTree, frame_of}
use Rattle.circuit_theory.specs.Frame.{EventSide}
use Rattle.base_tables.specs.Table.{AreDistinct}
use Rattle.aig.specs.declared.node.Node.{Node}
use Rattle.aig.specs.Builds.{TakesBits, ReadOnly}
use Rattle.aig.specs.Graph.{IsGraph}
use Rattle.aig.specs.Values.{value}
use Rattle.obligations.specs.outcome.Proof.{Proof}
use Rattle.obligations.specs.outcome.Query.{Query}
use Rattle.obligations.specs.outcome.Queries.{IsQuery, roots_of, assigned_to}
use Rattle.obligations.specs.outcome.Answers.{IsAtLimit}
use Rattle.obligations.specs.declared.obligation.Obligation.{Obligation}
use Rattle.event_nodes.specs.Nodes.{EventGraphView, IsEventGraph, named_places, path_of}
use Rattle.class_search.specs.event_variables.Variables.{variable_of, variables_of}
use Rattle.class_search.proofs.event_variables.Named.{named_distinct}
use Rattle.sec_setup.specs.declared.ports.pairs.SignalPair.{SignalPair}
use Rattle.event_form.specs.Asked.{IsAskedOf, AreAsked}
use Rattle.event_form.proofs.event_agreement.FrameBits.{bits_take_frame}
use Rattle.event_form.proofs.event_agreement.PairQueries.{is_query, within, are_variables, care_value}
use Rattle.assume_laws.specs.Assume.{Assumption}
use Rattle.assume_laws.specs.Sequences.{IsPairTreeUnder}
use Rattle.event_under.specs.Asked.{variable_in, variables_in, AreAskedUnder, IsAskedUnder}
use Rattle.event_under.proofs.Bits.{bits_take, assignment_in, takes_assignment}
use Rattle.event_settles.proofs.Decisions.{reached_among}
use Rattle.event_settles.specs.declared.cares.Care.{Care}
use Rattle.event_settles.specs.declared.cares.Care.TheVariants as care
use Rattle.event_settles.specs.declared.cares.PairCare.{PairCare}
use Rattle.event_settles.specs.Cares.{HasBothCares, HasBothCaresUnder, CareIs, CareFits, CareFitsUnder}
use Rattle.event_settles.specs.Idle.{IdleIs, IsNotNever, IsToldWith, ToldWith, with_idle}
use Rattle.event_settles.specs.Undecided.{IsCareUndecided}
use Rattle.event_settles.specs.declared.cares.IdleLatch.{IdleLatch}
use Rattle.event_settles.specs.Deciding.{CareDecides, IsCareDecided, HasOneQuery, care_query}

true_not_false : true ≡ false → ⊥
true_not_false e = cc

-- A query over a graph whose variables stand for inputs at event nodes, and whose care is 1 in exactly these frames.
pub record AsksCare (Cared : (ℕ → List ℕ → Bool) → Type 0) (IsTree : Tree (List ℕ) → Type 0) (g : List Node) (places : List (ℕ × List ℕ)) (query : Query) : Type 0 where
  pub graph : IsGraph g
  pub asked : IsQuery g query
  pub distinct : AreDistinct places
  pub variables : List (Variable (List ℕ))
  pub are_variables : AreNodeVariables IsTree variables
  pub each : length variables ≡ length query.vars
  pub named : (v : ℕ) → Contains query.vars v → (p : ℕ × List ℕ) × (slice_get places v ≡ Some p) × Contains variables (record { input = p.0; at = p.1 })
  pub care_is : (bits : ℕ → List ℕ → Bool) (a : ℕ → Bool) → TakesBits places bits a → (value g a query.care.0 ≡ true) ↔ Cared bits
  pub takes : (bits : List Bool) → TakesBits places (frame_of variables bits) (assigned_to query.vars bits)

module _ (Cared : (ℕ → List ℕ → Bool) → Type 0) (IsTree : Tree (List ℕ) → Type 0) (g : List Node) (places : List (ℕ × List ℕ)) (query : Query) (k : AsksCare Cared IsTree g places query) where
  -- the care's cone reads the query's variables
  own : ReadOnly g places (query.care.0 ∷ []) k.variables
  own n v reached at = k.named v (k.asked.covers n v (reached_among g query.care.0 (roots_of query) (2, omega arith, refl) reached) at)

  undecided : (conflicts : ℕ) (proof : Proof) → IsAtLimit g (care_query query) conflicts proof → IsCareUndecided Cared IsTree conflicts proof
  undecided conflicts proof limit = record {
    variables = k.variables;
    are_variables = k.are_variables;
    many = (let each = k.each in omega (arith, each, limit.wide.many));
    graph = g;
    places = places;
    distinct = k.distinct;
    care_lit = query.care.0;
    is_graph = k.graph;
    within = k.asked.care;
    own = own;
    care_value = k.care_is;
    open_care = λ e. limit.wide.apart (inl e);
    clauses = limit.encoding;
    log = limit.fruitless;
  }

  pub care_fits : (conflicts : ℕ) (c : Care) → CareDecides g query conflicts c → CareIs Cared IsTree conflicts c
  care_fits conflicts care.Met d = (frame_of k.variables d.0, (k.care_is (frame_of k.variables d.0) (assigned_to query.vars d.0) (k.takes d.0)).0 d.1)
  care_fits conflicts (care.Never idle) d = λ bits h.
      true_not_false (sym ((k.care_is bits (assignment_in places bits) (takes_assignment places bits)).1 h) ∙ d (assignment_in places bits))
  care_fits conflicts (care.Limit proof) d = undecided conflicts proof d

-- what is found of a pair's care, whatever is known of classes
abbrev pub CareFound : EventSide (Either ℕ ℕ) → ℕ → SignalPair → PairCare → Type 0
CareFound s conflicts p c = (c.name ≡ p.name) × CareIs (HasBothCares s p) (IsPairTree s (Left p.left.0) (Right p.right.0)) conflicts c.care

abbrev pub CareFoundUnder : Assumption → EventSide (Either ℕ ℕ) → ℕ → SignalPair → PairCare → Type 0
CareFoundUnder a s conflicts p c = (c.name ≡ p.name) × CareIs (HasBothCaresUnder a s p) (IsPairTreeUnder a s (Left p.left.0) (Right p.right.0)) conflicts c.care

-- the query of a pair
module _ (s : EventSide (Either ℕ ℕ)) (w : EventGraphView) (cut : Bool) (p : SignalPair) (o : Obligation) (is : IsEventGraph w) (k : IsAskedOf s w cut p o) where
  pub one_query : HasOneQuery w.graph o
  one_query = record { query = k.query; only = k.only; asked = is_query s w (Left p.left.0) (Right p.right.0) k.query is k.asks }

  asks : AsksCare (HasBothCares s p) (IsPairTree s (Left p.left.0) (Right p.right.0)) w.graph (named_places w) k.query
  asks = record {
    graph = is.is_graph;
    asked = is_query s w (Left p.left.0) (Right p.right.0) k.query is k.asks;
    distinct = named_distinct w is;
    variables = variables_of w k.query.vars;
    are_variables = are_variables s w (Left p.left.0) (Right p.right.0) k.query is k.asks;
    each = length-map (variable_of w) k.query.vars;
    named = λ v here. (
        let below : v < length w.places = All-contains (λ u. u < length w.places) k.query.vars v (within s w (Left p.left.0) (Right p.right.0) k.query is k.asks) here in
        let many = length-map {Y = ℕ × List ℕ} (λ (z : ℕ × ℕ). (z.0, path_of w.children z.1)) w.places in
        (get_or (named_places w) v (0, []), slice_get-get_or (named_places w) v (0, []) (omega (arith, below, many)), Contains-map (variable_of w) k.query.vars v here)
        );
    care_is = care_value s w (Left p.left.0) (Right p.right.0) k.query is k.asks;
    takes = λ bits. bits_take_frame w is k.query.vars bits (within s w (Left p.left.0) (Right p.right.0) k.query is k.asks);
  }

  pub pair_fits : (conflicts : ℕ) (c : PairCare) → IsCareDecided w.graph conflicts o c → CareFound s conflicts p c
  pair_fits conflicts c d = (
    d.name_is ∙ k.name_is,
    care_fits (HasBothCares s p) (IsPairTree s (Left p.left.0) (Right p.right.0)) w.graph (named_places w) k.query asks conflicts c.care (subst (λ (q : Query). CareDecides w.graph q conflicts c.care) (one_of d.query k.query (sym d.only ∙ k.only)) d.care_is),
  )
    where
      one_of : (q r : Query) → q ∷ [] ≡ r ∷ [] → q ≡ r
      one_of q r e = cc

-- the query of a pair under an assumption
module _ (a : Assumption) (s : EventSide (Either ℕ ℕ)) (w : EventGraphView) (g : List Node) (places : List (ℕ × List ℕ)) (cut : Bool) (p : SignalPair) (o u : Obligation) (graph : IsGraph g) (distinct : AreDistinct places) (k : IsAskedUnder a s w g places cut p o u) where
  asks_under : AsksCare (HasBothCaresUnder a s p) (IsPairTreeUnder a s (Left p.left.0) (Right p.right.0)) g places k.query
  asks_under = record {
    graph = graph;
    asked = k.asks.asked;
    distinct = distinct;
    variables = variables_in places k.query.vars;
    are_variables = k.asks.are_variables;
    each = length-map (variable_in places) k.query.vars;
    named = λ v here. (
        let below : v < length places = All-contains (λ z. z < length places) k.query.vars v k.asks.within here in
        (get_or places v (0, []), slice_get-get_or places v (0, []) below, Contains-map (variable_in places) k.query.vars v here)
        );
    care_is = k.asks.care_value;
    takes = λ bits. bits_take places distinct k.query.vars bits k.asks.within;
  }

  pub pair_fits_under : (conflicts : ℕ) (c : PairCare) → IsCareDecided g conflicts u c → CareFoundUnder a s conflicts p c
  pair_fits_under conflicts c d = (
    d.name_is ∙ (k.name_is ∙ k.plain.name_is),
    care_fits (HasBothCaresUnder a s p) (IsPairTreeUnder a s (Left p.left.0) (Right p.right.0)) g places k.query asks_under conflicts c.care (subst (λ (q : Query). CareDecides g q conflicts c.care) (one_of d.query k.query (sym d.only ∙ k.only)) d.care_is),
  )
    where
      one_of : (q r : Query) → q ∷ [] ≡ r ∷ [] → q ≡ r
      one_of q r e = cc

-- all pairs
pub one_queries : (s : EventSide (Either ℕ ℕ)) (w : EventGraphView) (cut : Bool) → IsEventGraph w → (pairs : List SignalPair) (asked : List Obligation) → AreAsked s w cut pairs asked → All (HasOneQuery w.graph) asked
one_queries s w cut is [] [] are = All-nil (HasOneQuery w.graph)
one_queries s w cut is [] (o ∷ asked) are = absurd are
one_queries s w cut is (p ∷ pairs) [] are = absurd are
one_queries s w cut is (p ∷ pairs) (o ∷ asked) are = All-cons (HasOneQuery w.graph) o asked (one_query s w cut p o is are.0) (one_queries s w cut is pairs asked are.1)

pub pairs_fit : (s : EventSide (Either ℕ ℕ)) (w : EventGraphView) (cut : Bool) (conflicts : ℕ) → IsEventGraph w → (pairs : List SignalPair) (asked : List Obligation) (cares : List PairCare) → AreAsked s w cut pairs asked → AllZip (IsCareDecided w.graph conflicts) asked cares → AllZip (CareFound s conflicts) pairs cares
pairs_fit s w cut conflicts is [] [] [] are d = tt
pairs_fit s w cut conflicts is [] [] (c ∷ cares) are d = absurd d
pairs_fit s w cut conflicts is [] (o ∷ asked) cares are d = absurd are
pairs_fit s w cut conflicts is (p ∷ pairs) [] cares are d = absurd are
pairs_fit s w cut conflicts is (p ∷ pairs) (o ∷ asked) [] are d = absurd d
pairs_fit s w cut conflicts is (p ∷ pairs) (o ∷ asked) (c ∷ cares) are d = (pair_fits s w cut p o is are.0 conflicts c d.0, pairs_fit s w cut conflicts is pairs asked cares are.1 d.1)

-- of several pairs under an assumption
module _ (a : Assumption) (s : EventSide (Either ℕ ℕ)) (w : EventGraphView) (g : List Node) (places : List (ℕ × List ℕ)) (cut : Bool) (conflicts : ℕ) (graph : IsGraph g) (distinct : AreDistinct places) where
  abbrev IsAskedAt : List SignalPair → List Obligation → List Obligation → Type 0
  IsAskedAt pairs asked under = (i : ℕ) (p : SignalPair) (o u : Obligation) → slice_get pairs i ≡ Some p → slice_get asked i ≡ Some o → slice_get under i ≡ Some u → IsAskedUnder a s w g places cut p o u

  zip_under : (pairs : List SignalPair) (asked under : List Obligation) (cares : List PairCare) → length asked ≡ length pairs → length under ≡ length pairs → IsAskedAt pairs asked under → AllZip (IsCareDecided g conflicts) under cares → AllZip (CareFoundUnder a s conflicts) pairs cares
  zip_under [] asked [] [] many each are d = tt
  zip_under [] asked [] (c ∷ cares) many each are d = absurd d
  zip_under [] asked (u ∷ under) cares many each are d = absurd (omega (arith, each))
  zip_under (p ∷ pairs) [] under cares many each are d = absurd (omega (arith, many))
  zip_under (p ∷ pairs) (o ∷ asked) [] cares many each are d = absurd (omega (arith, each))
  zip_under (p ∷ pairs) (o ∷ asked) (u ∷ under) [] many each are d = absurd d
  zip_under (p ∷ pairs) (o ∷ asked) (u ∷ under) (c ∷ cares) many each are d = (
    pair_fits_under a s w g places cut p o u graph distinct (are 0 p o u refl refl refl) conflicts c d.0,
    zip_under pairs asked under cares (omega (arith, many)) (omega (arith, each)) (λ i q x y at_q at_x at_y. are (suc i) q x y at_q at_x at_y) d.1,
  )

  pub pairs_fit_under : (pairs : List SignalPair) (asked under : List Obligation) (cares : List PairCare) → AreAskedUnder a s w g places cut pairs asked under → AllZip (IsCareDecided g conflicts) under cares → AllZip (CareFoundUnder a s conflicts) pairs cares
  pairs_fit_under pairs asked under cares are d = zip_under pairs asked under cares are.each_asked are.each_under are.are d

  pub one_queries_under : (pairs : List SignalPair) (asked under : List Obligation) → AreAskedUnder a s w g places cut pairs asked under → All (HasOneQuery g) under
  one_queries_under pairs asked under are = All-from_each (HasOneQuery g) under (λ u h. (let i = at_of under u h in one u i.0 i.1))
    where
      one : (u : Obligation) (i : ℕ) → slice_get under i ≡ Some u → HasOneQuery g u
      one u i here =
          let inside = slice_get_within under i u here in
          let each = are.each_under in
          let many = are.each_asked in
          let p = some_at pairs i (omega (arith, inside, each)) in
          let o = some_at asked i (omega (arith, inside, each, many)) in
          let k = are.are i p.0 o.0 u p.1 o.1 here in
          record { query = k.query; only = k.only; asked = k.asks.asked }

-- the care is the same with another latch beside it
told_care : (Cared : (ℕ → List ℕ → Bool) → Type 0) (IsTree : Tree (List ℕ) → Type 0) (conflicts : ℕ) (idle : Option IdleLatch) (c : Care) → CareIs Cared IsTree conflicts c → CareIs Cared IsTree conflicts (with_idle idle c)
told_care Cared IsTree conflicts idle care.Met h = h
told_care Cared IsTree conflicts idle (care.Never other) h = h
told_care Cared IsTree conflicts idle (care.Limit proof) h = h

-- the latch that stands there is right
idle_of : (s : EventSide (Either ℕ ℕ)) (conflicts : ℕ) (c d : PairCare) → IsToldWith s conflicts c d → (idle : Option IdleLatch) → d.care ≡ care.Never idle → IdleIs s conflicts idle
idle_of s conflicts c d t idle e = go c.care refl (sym (ap (λ (x : PairCare). x.care) t.told) ∙ e)
  where
    go : (x : Care) → c.care ≡ x → with_idle t.idle c.care ≡ care.Never idle → IdleIs s conflicts idle
    go care.Met here same = absurd (no (sym (ap (with_idle t.idle) here) ∙ same))
      where
        no : care.Met ≡ care.Never idle → ⊥
        no q = cc
    go (care.Never other) here same = subst (IdleIs s conflicts) (one (sym (ap (with_idle t.idle) here) ∙ same)) (t.right (λ h. subst (λ (y : Care). IsNotNever (record { name = c.name; care = y })) here h))
      where
        one : care.Never t.idle ≡ care.Never idle → t.idle ≡ idle
        one q = cc
    go (care.Limit proof) here same = absurd (no (sym (ap (with_idle t.idle) here) ∙ same))
      where
        no : care.Limit proof ≡ care.Never idle → ⊥
        no q = cc

-- a pair that has care, or of which it isn't known, isn't one without
pub not_never : (c : PairCare) → ((idle : Option IdleLatch) → c.care ≡ care.Never idle → ⊥) → IsNotNever c
not_never c other = go c.care refl
  where
    go : (x : Care) → c.care ≡ x → IsNotNever c
    go care.Met e = subst (λ (y : Care). IsNotNever (record { name = c.name; care = y })) (sym e) tt
    go (care.Never idle) e = absurd (other idle e)
    go (care.Limit proof) e = subst (λ (y : Care). IsNotNever (record { name = c.name; care = y })) (sym e) tt

module _ (s : EventSide (Either ℕ ℕ)) (conflicts : ℕ) where
  -- where no pair is without care, nothing is told with them
  told_none : (c : PairCare) → IsNotNever c → IsToldWith s conflicts c c
  told_none c h = record { idle = None; told = ap (λ (y : Care). record { name = c.name; care = y }) (go c.care h); right = λ no. absurd (no h) }
    where
      go : (x : Care) → IsNotNever (record { name = c.name; care = x }) → x ≡ with_idle None x
      go care.Met k = refl
      go (care.Never idle) k = absurd k
      go (care.Limit proof) k = refl

  pub all_none : (cares : List PairCare) → All IsNotNever cares → AllZip (IsToldWith s conflicts) cares cares
  all_none [] h = tt
  all_none (c ∷ cares) h = (told_none c (All-head IsNotNever c cares h), all_none cares (All-tail IsNotNever c cares h))

  -- and else the same latch
  pub all_with : (idle : Option IdleLatch) → IdleIs s conflicts idle → (cares told : List PairCare) → AllZip (ToldWith idle) cares told → AllZip (IsToldWith s conflicts) cares told
  all_with idle right [] [] h = tt
  all_with idle right [] (d ∷ told) h = absurd h
  all_with idle right (c ∷ cares) [] h = absurd h
  all_with idle right (c ∷ cares) (d ∷ told) h = (record { idle = idle; told = h.0; right = λ no. right }, all_with idle right cares told h.1)

  told_fits : (p : SignalPair) (c d : PairCare) → CareFound s conflicts p c → IsToldWith s conflicts c d → CareFits s conflicts p d
  told_fits p c d f t = record {
    name_is = ap (λ (x : PairCare). x.name) t.told ∙ f.0;
    care_is = subst (λ (x : PairCare). CareIs (HasBothCares s p) (IsPairTree s (Left p.left.0) (Right p.right.0)) conflicts x.care) (sym t.told) (told_care (HasBothCares s p) (IsPairTree s (Left p.left.0) (Right p.right.0)) conflicts t.idle c.care f.1);
    idle_is = idle_of s conflicts c d t;
  }

  told_fits_under : (a : Assumption) (p : SignalPair) (c d : PairCare) → CareFoundUnder a s conflicts p c → IsToldWith s conflicts c d → CareFitsUnder a s conflicts p d
  told_fits_under a p c d f t = record {
    name_is = ap (λ (x : PairCare). x.name) t.told ∙ f.0;
    care_is = subst (λ (x : PairCare). CareIs (HasBothCaresUnder a s p) (IsPairTreeUnder a s (Left p.left.0) (Right p.right.0)) conflicts x.care) (sym t.told) (told_care (HasBothCaresUnder a s p) (IsPairTreeUnder a s (Left p.left.0) (Right p.right.0)) conflicts t.idle c.care f.1);
    idle_is = idle_of s conflicts c d t;
  }

  zip_told : (Found Fits : SignalPair → PairCare → Type 0) → ((p : SignalPair) (c d : PairCare) → Found p c → IsToldWith s conflicts c d → Fits p d) → (pairs : List SignalPair) (cares told : List PairCare) → AllZip Found pairs cares → AllZip (IsToldWith s conflicts) cares told → AllZip Fits pairs told
  zip_told Found Fits f [] [] [] h t = tt
  zip_told Found Fits f [] [] (d ∷ told) h t = absurd t
  zip_told Found Fits f [] (c ∷ cares) told h t = absurd h
  zip_told Found Fits f (p ∷ pairs) [] told h t = absurd h
  zip_told Found Fits f (p ∷ pairs) (c ∷ cares) [] h t = absurd t
  zip_told Found Fits f (p ∷ pairs) (c ∷ cares) (d ∷ told) h t = (f p c d h.0 t.0, zip_told Found Fits f pairs cares told h.1 t.1)

  -- with the latch what is told of the pairs is right
  pub all_told : (pairs : List SignalPair) (cares told : List PairCare) → AllZip (CareFound s conflicts) pairs cares → AllZip (IsToldWith s conflicts) cares told → AllZip (CareFits s conflicts) pairs told
  all_told = zip_told (CareFound s conflicts) (CareFits s conflicts) told_fits

  pub all_told_under : (a : Assumption) (pairs : List SignalPair) (cares told : List PairCare) → AllZip (CareFoundUnder a s conflicts) pairs cares → AllZip (IsToldWith s conflicts) cares told → AllZip (CareFitsUnder a s conflicts) pairs told
  all_told_under a = zip_told (CareFoundUnder a s conflicts) (CareFitsUnder a s conflicts) (told_fits_under a)

-- what follows where a call succeeds
pub if_ok : {X E : Type 0} {P Q : X → Type 0} (r : Result X E) → ((x : X) → P x → Q x) → IfOk r P → IfOk r Q
if_ok (Ok x) f h = f x h
if_ok (Err e) f h = tt
