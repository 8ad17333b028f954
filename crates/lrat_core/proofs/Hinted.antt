-- The hints of a chain show the clause that it derives.
use Rattle.std.proofs.Common.{◌≡◌, ℕ, zero, suc, ◌+◌, Bool, true, false, cond, List, [], ◌∷◌, ◌++◌, length, map, reverse, refl, sym, ◌∙◌, ap, subst, arith, inl, inr, Option, Some, None, append_assoc}
use Rattle.std.specs.Prelude.{◌⊎◌, ◌||◌, nat_eq, slice_get}
use Rattle.std.specs.List.{All, Contains}
use Rattle.std.proofs.lemmas.Bool.{cases_eq, eq-eqb, ne_eqb}
use Rattle.std.proofs.lemmas.List.{append-nil, reverse-append, length-append}
use Rattle.std.proofs.lemmas.List.Elements.{All-push, Contains-append_left, Contains-append_right, Contains-append_cases}
use Rattle.std.proofs.lemmas.Option.{get_or_from_slice_get}
use Rattle.proof_check.specs.Literals.{Literal, negation}
use Rattle.proof_check.specs.Clauses.{IsClause}
use Rattle.proof_check.specs.Resolution.{IsResolvent}
use Rattle.proof_check.specs.Chains.{StepsDerive, ChainDerives, LogDerives, EndsEmpty}
use Rattle.proof_check.specs.declared.derivation.Step.{Step}
use Rattle.proof_check.specs.declared.derivation.Chain.{Chain}
use Rattle.proof_check.proofs.Members.{one_of_variable, not_same_sign, Contains-head, Contains-later, Contains-cases, Contains-none}
use Rattle.proof_check.proofs.Sound.{at_number}
use Rattle.lrat_core.specs.States.{Live, State, with_clause, numbered, start}
use Rattle.lrat_core.specs.Hints.{IsFalsified, HintsGive}
use Rattle.lrat_core.specs.Logs.{is_in, is_met, first_open, hints_after, hints_of, numbered_clause, clauses_back, lines_of, LogsAreAccepted}
use Rattle.lrat_core.specs.Sequences.{AdditionGives, LinesGive, Accepted}
use Rattle.lrat_core.specs.declared.hints.Hint.TheVariants.{Clause}
use Rattle.lrat_core.proofs.Marking.{any_contains, contains_any}
use Rattle.lrat_core.proofs.Checking.{last_here, last_other}

-- the live clauses have these under the numbers from 1
abbrev Numbers : Live → List (List Literal) → Type 0
Numbers live known = (k : ℕ) (c : List Literal) → slice_get known k ≡ Some c → live (suc k) ≡ Some c

-- no literal stands there with its negation
abbrev IsConsistent : List Literal → Type 0
IsConsistent literals = (l : Literal) → Contains literals l → Contains literals (negation l) → ⊥

-- where these are false, the hints show all
abbrev Shown : Live → List Literal → List (ℕ × List Literal) → Type 0
Shown live falsified entries = HintsGive live falsified (hints_of falsified entries) None

negation_twice : (l : Literal) → negation (negation l) ≡ l
negation_twice l = go l.variable l.positive
  where
    go : (v : ℕ) (b : Bool) → ◌≡◌ {A = Literal} (negation (negation (record { variable = v; positive = b }))) (record { variable = v; positive = b })
    go v true = refl
    go v false = refl

not_itself : (l : Literal) → l ≡ negation l → ⊥
not_itself l e = not_same_sign l.positive (ap (λ (m : Literal). m.positive) e)

first_open-none : (falsified c : List Literal) → first_open falsified c ≡ None → IsFalsified falsified c
first_open-none falsified [] h l k = absurd (Contains-none l k)
first_open-none falsified (x ∷ c) h l k = go (λ q. first_open-none falsified c q) (is_in falsified x) refl h (Contains-cases x c l k)
  where
    go : (first_open falsified c ≡ None → IsFalsified falsified c) → (b : Bool) → is_in falsified x ≡ b → cond b (first_open falsified c) (Some x) ≡ None → (x ≡ l) ⊎ Contains c l → Contains falsified l
    go later true e q (inl same) = subst (Contains falsified) same (any_contains falsified x e)
    go later true e q (inr there) = later q l there
    go later false e q w = absurd (let z : Some x ≡ None = q in cc)

first_open-some : (falsified c : List Literal) (x : Literal) → first_open falsified c ≡ Some x → Contains c x × (Contains falsified x → ⊥)
first_open-some falsified [] x h = absurd (let z : None ≡ Some x = h in cc)
first_open-some falsified (y ∷ c) x h = go (λ q. first_open-some falsified c x q) (is_in falsified y) refl h
  where
    go : (first_open falsified c ≡ Some x → Contains c x × (Contains falsified x → ⊥)) → (b : Bool) → is_in falsified y ≡ b → cond b (first_open falsified c) (Some y) ≡ Some x → Contains (y ∷ c) x × (Contains falsified x → ⊥)
    go later true e q = let w = later q in (Contains-later y c x w.0, w.1)
    go later false e q =
        let same : y ≡ x = cc in
        (subst (Contains (y ∷ c)) same (Contains-head y c), λ k. let z : true ≡ false = sym (contains_any falsified y (subst (Contains falsified) (sym same) k)) ∙ e in cc)

met_by : (falsified c : List Literal) → is_met falsified c ≡ true → (x : Literal) × Contains c x × Contains falsified (negation x)
met_by falsified [] h = absurd (let z : false ≡ true = h in cc)
met_by falsified (y ∷ c) h = go (λ q. met_by falsified c q) (is_in falsified (negation y)) refl h
  where
    go : (is_met falsified c ≡ true → (x : Literal) × Contains c x × Contains falsified (negation x)) → (b : Bool) → is_in falsified (negation y) ≡ b → (b || is_met falsified c) ≡ true → (x : Literal) × Contains (y ∷ c) x × Contains falsified (negation x)
    go later true e q = (y, Contains-head y c, any_contains falsified (negation y) e)
    go later false e q = let w = later q in (w.0, Contains-later y c w.0 w.1, w.2)

-- one more literal, whose negation isn't there
still_consistent : (falsified : List Literal) (x : Literal) → IsConsistent falsified → (Contains falsified x → ⊥) → IsConsistent (falsified ++ negation x ∷ [])
still_consistent falsified x consistent free l h k = go (which l h) (which (negation l) k)
  where
    which : (m : Literal) → Contains (falsified ++ negation x ∷ []) m → Contains falsified m ⊎ (negation x ≡ m)
    which m j = pick (Contains-append_cases falsified (negation x ∷ []) m j)
      where
        last : (negation x ≡ m) ⊎ Contains [] m → Contains falsified m ⊎ (negation x ≡ m)
        last (inl e) = inr e
        last (inr z) = absurd (Contains-none m z)

        pick : Contains falsified m ⊎ Contains (negation x ∷ []) m → Contains falsified m ⊎ (negation x ≡ m)
        pick (inl i) = inl i
        pick (inr i) = last (Contains-cases (negation x) [] m i)

    go : Contains falsified l ⊎ (negation x ≡ l) → Contains falsified (negation l) ⊎ (negation x ≡ negation l) → ⊥
    go (inl i) (inl j) = consistent l i j
    go (inl i) (inr e) = free (subst (Contains falsified) (sym (negation_twice l) ∙ (ap negation (sym e) ∙ negation_twice x)) i)
    go (inr e) (inl j) = free (subst (Contains falsified) (ap negation (sym e) ∙ negation_twice x) j)
    go (inr e) (inr f) = not_itself l (sym e ∙ f)

module _ (live : Live) (current b r : List Literal) (pivot number : ℕ) (entries : List (ℕ × List Literal)) (at : live number ≡ Some b) (is : IsResolvent current b pivot r)
    (later : (falsified : List Literal) → IsConsistent falsified → IsFalsified falsified current → Shown live falsified entries) where
  -- the pivot's literal and the resolvent's make the first clause false
  current_false : (falsified : List Literal) → IsFalsified falsified r → Contains falsified is.opposite.0 → IsFalsified falsified current
  current_false falsified all l m k = go (cases_eq m.variable pivot)
    where
      go : (m.variable ≡ pivot) ⊎ (m.variable ≡ pivot → ⊥) → Contains falsified m
      go (inl e) = subst (Contains falsified) (one_of_variable current is.opposite.0 m is.left is.opposite.2 k (is.opposite.1 ∙ sym e)) l
      go (inr n) = all m ((is.members m).1 (n, inl k))

  -- a literal of the second clause that isn't false is the negation of the pivot's literal
  open_is : (falsified : List Literal) → IsFalsified falsified r → (m : Literal) → Contains b m → (Contains falsified m → ⊥) → m ≡ negation is.opposite.0
  open_is falsified all m k free = go (cases_eq m.variable pivot)
    where
      go : (m.variable ≡ pivot) ⊎ (m.variable ≡ pivot → ⊥) → m ≡ negation is.opposite.0
      go (inl e) = one_of_variable b m (negation is.opposite.0) is.right k is.opposite.3 (e ∙ sym is.opposite.1)
      go (inr n) = absurd (free (all m ((is.members m).1 (n, inr k))))

  step_shown : (falsified : List Literal) → IsConsistent falsified → IsFalsified falsified r → Shown live falsified ((number, b) ∷ entries)
  step_shown falsified consistent all = go (is_met falsified b) refl
    where
      pick : (o : Option Literal) → first_open falsified b ≡ o → HintsGive live falsified (Clause number ∷ hints_after o (λ l. hints_of (falsified ++ negation l ∷ []) entries)) None
      pick None q = HintsGive.conflict at (first_open-none falsified b q)
      pick (Some x) q =
          let w = first_open-some falsified b x q in
          let same : x ≡ negation is.opposite.0 = open_is falsified all x w.0 w.1 in
          let more = falsified ++ negation x ∷ [] in
          let pivot_there : Contains more is.opposite.0 =
          subst (Contains more) (ap negation same ∙ negation_twice is.opposite.0) (Contains-append_right falsified (negation x ∷ []) (negation x) (Contains-head (negation x) [])) in
          let all_more : IsFalsified more r = λ m k. Contains-append_left falsified (negation x ∷ []) m (all m k) in
          HintsGive.unit at (record { there = w.0; outside = w.1; only = λ m k free. open_is falsified all m k free ∙ sym same })
          (later more (still_consistent falsified x consistent w.1) (current_false more all_more pivot_there))

      by_met : (w : (x : Literal) × Contains b x × Contains falsified (negation x)) → Contains falsified is.opposite.0
      by_met w =
          let same : w.0 ≡ negation is.opposite.0 = open_is falsified all w.0 w.1 (λ k. consistent w.0 k w.2) in
          subst (Contains falsified) (ap negation same ∙ negation_twice is.opposite.0) w.2

      go : (t : Bool) → is_met falsified b ≡ t → HintsGive live falsified (cond t (hints_of falsified entries) (Clause number ∷ hints_after (first_open falsified b) (λ l. hints_of (falsified ++ negation l ∷ []) entries))) None
      go true e = later falsified consistent (current_false falsified all (by_met (met_by falsified b e)))
      go false e = pick (first_open falsified b) refl

-- a false clause ends the hints
start_shown : (live : Live) (s : List Literal) (number : ℕ) → live number ≡ Some s → (falsified : List Literal) → IsConsistent falsified → IsFalsified falsified s → Shown live falsified ((number, s) ∷ [])
start_shown live s number at falsified consistent all = go (is_met falsified s) refl
  where
    pick : (o : Option Literal) → first_open falsified s ≡ o → HintsGive live falsified (Clause number ∷ hints_after o (λ l. hints_of (falsified ++ negation l ∷ []) [])) None
    pick None q = HintsGive.conflict at all
    pick (Some x) q = let w = first_open-some falsified s x q in absurd (w.1 (all x w.0))

    go : (t : Bool) → is_met falsified s ≡ t → HintsGive live falsified (cond t [] (Clause number ∷ hints_after (first_open falsified s) (λ l. hints_of (falsified ++ negation l ∷ []) []))) None
    go true e = let w = met_by falsified s e in absurd (consistent w.0 (all w.0 w.1) w.2)
    go false e = pick (first_open falsified s) refl

map-append : {X Y : Type 0} (f : X → Y) (xs ys : List X) → map f (xs ++ ys) ≡ map f xs ++ map f ys
map-append f [] ys = refl
map-append f (x ∷ xs) ys = ap (λ zs. f x ∷ zs) (map-append f xs ys)

back_more : (known : List (List Literal)) (k : ℕ) (xs : List ℕ) (entries : List (ℕ × List Literal)) → map (numbered_clause known) (reverse (k ∷ xs)) ++ entries ≡ map (numbered_clause known) (reverse xs) ++ (numbered_clause known k ∷ entries)
back_more known k xs entries =
    ap (λ ys. map (numbered_clause known) ys ++ entries) (reverse-append (k ∷ []) xs)
    ∙ (ap (λ ys. ys ++ entries) (map-append (numbered_clause known) (reverse xs) (k ∷ [])) ∙ append_assoc (map (numbered_clause known) (reverse xs)) (numbered_clause known k ∷ []) entries)

entry_is : (known : List (List Literal)) (k : ℕ) (b : List Literal) → slice_get known k ≡ Some b → ◌≡◌ {A = ℕ × List Literal} (numbered_clause known k) (suc k, b)
entry_is known k b e = let same = get_or_from_slice_get known k b [] e in λ i. (suc k, same i)

steps_shown : (live : Live) (known : List (List Literal)) (current : List Literal) (steps : List Step) (c : List Literal) (entries : List (ℕ × List Literal)) → Numbers live known → StepsDerive known current steps c →
    ((falsified : List Literal) → IsConsistent falsified → IsFalsified falsified current → Shown live falsified entries) →
    (falsified : List Literal) → IsConsistent falsified → IsFalsified falsified c → Shown live falsified (map (numbered_clause known) (reverse (map (λ (s : Step). s.clause) steps)) ++ entries)
steps_shown live known current [] c entries numbers d later falsified consistent all = later falsified consistent (subst (IsFalsified falsified) (sym d) all)
steps_shown live known current (step ∷ steps) c entries numbers d later falsified consistent all =
    let s = d.1 in
    let at = numbers step.clause s.0 s.1 in
    let ih = steps_shown live known d.0 steps c (numbered_clause known step.clause ∷ entries) numbers d.2
    (λ f cons false. subst (λ (e : ℕ × List Literal). Shown live f (e ∷ entries)) (sym (entry_is known step.clause s.0 s.1)) (step_shown live current s.0 d.0 step.pivot (suc step.clause) entries at s.2 later f cons false))
    falsified consistent all in
    subst (Shown live falsified) (sym (back_more known step.clause (map (λ (q : Step). q.clause) steps) entries)) ih

steps_clause : (known : List (List Literal)) (current : List Literal) (steps : List Step) (c : List Literal) → IsClause current → StepsDerive known current steps c → IsClause c
steps_clause known current [] c h d = subst IsClause d h
steps_clause known current (step ∷ steps) c h d = steps_clause known d.0 steps c d.1.2.ordered d.2

clause_consistent : (c : List Literal) → IsClause c → IsConsistent c
clause_consistent c h l i j = not_itself l (one_of_variable c l (negation l) h i j refl)

pub chain_clause : (known : List (List Literal)) (chain : Chain) (c : List Literal) → All IsClause known → ChainDerives known chain c → IsClause c
chain_clause known chain c all d = steps_clause known d.0 chain.steps c (at_number IsClause known chain.start d.0 all d.1) d.2

pub chain_shown : (live : Live) (known : List (List Literal)) (chain : Chain) (c : List Literal) → Numbers live known → All IsClause known → ChainDerives known chain c → Shown live c (clauses_back known chain)
chain_shown live known chain c numbers all d =
    let begins = entry_is known chain.start d.0 d.1 in
    let shown = steps_shown live known d.0 chain.steps c (numbered_clause known chain.start ∷ []) numbers d.2
    (λ f cons false. subst (λ (e : ℕ × List Literal). Shown live f (e ∷ [])) (sym begins) (start_shown live d.0 (suc chain.start) (numbers chain.start d.0 d.1) f cons false))
    c (clause_consistent c (chain_clause known chain c all d)) (λ l h. h) in
    subst (Shown live c) (sym (sym (append-nil (clauses_back known chain)) ∙ back_more known chain.start (map (λ (s : Step). s.clause) chain.steps) [])) shown

-- the next clause becomes live under the next number
next_state : (known : List (List Literal)) (c : List Literal) → ◌≡◌ {A = State} (record { live = with_clause (numbered known) (length known + 1) c; greatest = length known + 1 }) (start (known ++ c ∷ []))
next_state known c = λ i. record { live = λ q. at q i; greatest = len i }
  where
    len : length known + 1 ≡ length (known ++ c ∷ [])
    len = sym (length-append known (c ∷ []))

    at : (q : ℕ) → with_clause (numbered known) (length known + 1) c q ≡ numbered (known ++ c ∷ []) q
    at zero = ap (λ b. cond b (Some c) None) (ne_eqb (length known + 1) zero (λ h. let z : ⊥ = omega arith in z))
    at (suc j) = go (cases_eq (length known + 1) (suc j))
      where
        go : (length known + 1 ≡ suc j) ⊎ (length known + 1 ≡ suc j → ⊥) → cond (nat_eq (length known + 1) (suc j)) (Some c) (slice_get known j) ≡ slice_get (known ++ c ∷ []) j
        go (inl same) =
            let here : length known ≡ j = omega arith in
            ap (λ b. cond b (Some c) (slice_get known j)) (eq-eqb (length known + 1) (suc j) same) ∙ (sym (last_here known c) ∙ ap (slice_get (known ++ c ∷ [])) here)
        go (inr apart) = ap (λ b. cond b (Some c) (slice_get known j)) (ne_eqb (length known + 1) (suc j) apart) ∙ sym (last_other known c j (λ h. apart (omega arith)))

lines_accepted : (known : List (List Literal)) (log : List Chain) (derived : List (List Literal)) (number : ℕ) → All IsClause known → LogDerives known log derived → EndsEmpty derived →
    (last : ℕ) × LinesGive (start known) number (lines_of known log derived) (Accepted last)
lines_accepted known [] derived number all d ends = absurd (none ends.0 (sym d ∙ ends.1))
  where
    none : (front : List (List Literal)) → [] ≡ front ++ [] ∷ [] → ⊥
    none [] e = cc
    none (x ∷ front) e = cc
lines_accepted known (chain ∷ log) [] number all d ends = absurd (let z : [] ≡ d.0 ∷ d.1 = d.4 in cc)
lines_accepted known (chain ∷ log) (c ∷ derived) number all d ends =
    go (λ cs a e f. lines_accepted (known ++ c ∷ []) log derived (suc number) a e f) c refl
  where
    heads : d.0 ≡ c
    heads = let z : c ∷ derived ≡ d.0 ∷ d.1 = d.4 in cc

    tails : d.1 ≡ derived
    tails = let z : c ∷ derived ≡ d.0 ∷ d.1 = d.4 in cc

    derives : ChainDerives known chain c
    derives = subst (ChainDerives known chain) heads d.2

    own : AdditionGives (start known) (record { id = length known + 1; literals = c; hints = hints_of c (clauses_back known chain) }) None
    own = AdditionGives.above (omega arith) (chain_shown (numbered known) known chain c (λ k e q. q) all derives)

    rest : LogDerives (known ++ c ∷ []) log derived
    rest = subst (LogDerives (known ++ c ∷ []) log) tails (subst (λ (x : List Literal). LogDerives (known ++ x ∷ []) log d.1) heads d.3)

    end_of : (front : List (List Literal)) → c ∷ derived ≡ front ++ [] ∷ [] → (c ≡ [] → ⊥) → EndsEmpty derived
    end_of [] e n = absurd (n (let z : c ∷ derived ≡ [] ∷ [] = e in cc))
    end_of (x ∷ front) e n = (front, let z : c ∷ derived ≡ x ∷ (front ++ [] ∷ []) = e in cc)

    go : ((cs : List Literal) → All IsClause (known ++ c ∷ []) → LogDerives (known ++ c ∷ []) log derived → EndsEmpty derived → (last : ℕ) × LinesGive (start (known ++ c ∷ [])) (suc number) (lines_of (known ++ c ∷ []) log derived) (Accepted last)) →
        (x : List Literal) → c ≡ x → (last : ℕ) × LinesGive (start known) number (lines_of known (chain ∷ log) (c ∷ derived)) (Accepted last)
    go later [] e = (number, LinesGive.last own e)
    go later (y ∷ ys) e =
        let full : c ≡ [] → ⊥ = λ q. let z : [] ≡ y ∷ ys = sym q ∙ e in cc in
        let w = later c (All-push IsClause known c all (chain_clause known chain c all derives)) rest (end_of ends.0 ends.1 full) in
        (w.0, LinesGive.next own full (subst (λ (s : State). LinesGive s (suc number) (lines_of (known ++ c ∷ []) log derived) (Accepted w.0)) (sym (next_state known c)) w.1))

pub logs_are_accepted : LogsAreAccepted
logs_are_accepted known log derived all d ends = lines_accepted known log derived 1 all d ends
