-- The variables of derived clauses, and the numbers in the lines of a log.
use Rattle.std.proofs.Common.{◌≡◌, ℕ, suc, ◌+◌, ◌<◌, ◌≤◌, ◌^◌, Bool, true, false, cond, List, [], ◌∷◌, ◌++◌, length, map, reverse, sym, ◌∙◌, ap, subst, arith, inl, inr, Option, Some, None}
use Rattle.std.specs.Prelude.{◌⊎◌}
use Rattle.std.specs.List.{All, Contains}
use Rattle.std.proofs.lemmas.List.{length-append, reverse-append}
use Rattle.std.proofs.lemmas.List.Elements.{All-nil, All-cons, All-append, All-push, All-map, All-contains}
use Rattle.std.proofs.lemmas.Option.{slice_get_within}
use Rattle.proof_check.specs.Literals.{Literal, negation}
use Rattle.proof_check.specs.Resolution.{IsResolvent}
use Rattle.proof_check.specs.Chains.{StepsDerive, ChainDerives, LogDerives}
use Rattle.proof_check.specs.declared.derivation.Step.{Step}
use Rattle.proof_check.specs.declared.derivation.Chain.{Chain}
use Rattle.proof_check.proofs.Marking.{all_members}
use Rattle.proof_check.proofs.Sound.{at_number}
use Rattle.text_numbers.specs.declared.numbers.TheConstants.{MAX_SIZE}
use Rattle.lrat_core.specs.Lines.{Line, Adds, Deletes}
use Rattle.lrat_core.specs.Logs.{is_met, first_open, hints_after, hints_of, numbered_clause, clauses_back, lines_of}
use Rattle.lrat_core.specs.declared.hints.Hint.{Hint}
use Rattle.lrat_core.specs.declared.hints.Hint.TheVariants.{Clause, Negative}
use Rattle.lrat_core.specs.certificate_writer.Hinting.{IsWithin, AreWithin}

-- a clause that is derived has no other variables
resolvent_within : (v : ℕ) (a b c : List Literal) (pivot : ℕ) → IsWithin v a → IsWithin v b → IsResolvent a b pivot c → IsWithin v c
resolvent_within v a b c pivot left right is = all_members (λ (l : Literal). (0 < l.variable) × (l.variable ≤ v)) c (λ l h. go l ((is.members l).0 h).1)
  where
    go : (l : Literal) → Contains a l ⊎ Contains b l → (0 < l.variable) × (l.variable ≤ v)
    go l (inl h) = All-contains (λ (m : Literal). (0 < m.variable) × (m.variable ≤ v)) a l left h
    go l (inr h) = All-contains (λ (m : Literal). (0 < m.variable) × (m.variable ≤ v)) b l right h

steps_within : (v : ℕ) (known : List (List Literal)) (current : List Literal) (steps : List Step) (c : List Literal) → AreWithin v known → IsWithin v current → StepsDerive known current steps c → IsWithin v c
steps_within v known current [] c all h d = subst (IsWithin v) d h
steps_within v known current (step ∷ steps) c all h d =
    let s = d.1 in
    steps_within v known d.0 steps c all (resolvent_within v current s.0 d.0 step.pivot h (at_number (IsWithin v) known step.clause s.0 all s.1) s.2) d.2

chain_within : (v : ℕ) (known : List (List Literal)) (chain : Chain) (c : List Literal) → AreWithin v known → ChainDerives known chain c → IsWithin v c
chain_within v known chain c all d = steps_within v known d.0 chain.steps c all (at_number (IsWithin v) known chain.start d.0 all d.1) d.2

pub log_within : (v : ℕ) (known : List (List Literal)) (log : List Chain) (derived : List (List Literal)) → AreWithin v known → LogDerives known log derived → AreWithin v derived
log_within v known [] derived all d = subst (AreWithin v) (sym d) (All-nil (IsWithin v))
log_within v known (chain ∷ log) derived all d =
    let own = chain_within v known chain d.0 all d.2 in
    subst (AreWithin v) (sym d.4) (All-cons (IsWithin v) d.0 d.1 own (log_within v (known ++ d.0 ∷ []) log d.1 (All-push (IsWithin v) known d.0 all own) d.3))

pub as_many : (known : List (List Literal)) (log : List Chain) (derived : List (List Literal)) → LogDerives known log derived → length derived ≡ length log
as_many known [] derived d = ap length d
as_many known (chain ∷ log) derived d = ap length d.4 ∙ ap suc (as_many (known ++ d.0 ∷ []) log d.1 d.3)

-- the numbers of a chain are those of known clauses
steps_known : (known : List (List Literal)) (current : List Literal) (steps : List Step) (c : List Literal) → StepsDerive known current steps c → All (λ k. k < length known) (map (λ (s : Step). s.clause) steps)
steps_known known current [] c d = All-nil (λ k. k < length known)
steps_known known current (step ∷ steps) c d =
    All-cons (λ k. k < length known) step.clause (map (λ (s : Step). s.clause) steps) (slice_get_within known step.clause d.1.0 d.1.1) (steps_known known d.0 steps c d.2)

reversed : {X : Type 0} (P : X → Type 0) (xs : List X) → All P xs → All P (reverse xs)
reversed P [] h = All-nil P
reversed P (x ∷ xs) h = subst (All P) (sym (reverse-append (x ∷ []) xs)) (All-append P (reverse xs) (x ∷ []) (reversed P xs (λ k d lt. h (suc k) d (omega arith))) (All-cons P x [] (h 0 x (omega arith)) (All-nil P)))

-- the hint names a clause, and its number isn't above this
abbrev pub IsNumbered : ℕ → Hint → Type 0
IsNumbered n (Clause id) = (0 < id) × (id ≤ n)
IsNumbered n (Negative size) = ⊥

abbrev InRange : ℕ → ℕ × List Literal → Type 0
InRange n e = (0 < e.0) × (e.0 ≤ n)

entries_in : (known : List (List Literal)) (chain : Chain) (c : List Literal) → ChainDerives known chain c → All (InRange (length known)) (clauses_back known chain)
entries_in known chain c d =
    All-map (InRange (length known)) (numbered_clause known) (reverse (chain.start ∷ map (λ (s : Step). s.clause) chain.steps))
    (λ k x lt. let r = all k x lt in (omega arith, omega (arith, r)))
  where
    all : All (λ k. k < length known) (reverse (chain.start ∷ map (λ (s : Step). s.clause) chain.steps))
    all =
        reversed (λ k. k < length known) (chain.start ∷ map (λ (s : Step). s.clause) chain.steps)
        (All-cons (λ k. k < length known) chain.start (map (λ (s : Step). s.clause) chain.steps) (slice_get_within known chain.start d.0 d.1) (steps_known known d.0 chain.steps c d.2))

hints_in : (n : ℕ) (entries : List (ℕ × List Literal)) (falsified : List Literal) → All (InRange n) entries → All (IsNumbered n) (hints_of falsified entries)
hints_in n [] falsified h = All-nil (IsNumbered n)
hints_in n (e ∷ rest) falsified h = go (λ f. hints_in n rest f (λ k d lt. h (suc k) d (omega arith))) (is_met falsified e.1) (first_open falsified e.1)
  where
    go : ((f : List Literal) → All (IsNumbered n) (hints_of f rest)) → (b : Bool) (o : Option Literal) →
        All (IsNumbered n) (cond b (hints_of falsified rest) (Clause e.0 ∷ hints_after o (λ l. hints_of (falsified ++ negation l ∷ []) rest)))
    go later true o = later falsified
    go later false None = All-cons (IsNumbered n) (Clause e.0) [] (h 0 e (omega arith)) (All-nil (IsNumbered n))
    go later false (Some l) = All-cons (IsNumbered n) (Clause e.0) (hints_of (falsified ++ negation l ∷ []) rest) (h 0 e (omega arith)) (later (falsified ++ negation l ∷ []))

-- a line that the writer writes: an addition of variables up to this, with numbers that are numbers of a text
abbrev pub IsWritable : ℕ → Line → Type 0
IsWritable v (Adds a) = (a.id ≤ MAX_SIZE) × IsWithin v a.literals × All (IsNumbered MAX_SIZE) a.hints
IsWritable v (Deletes ids) = ⊥

less_numbered : (n m : ℕ) → n ≤ m → (h : Hint) → IsNumbered n h → IsNumbered m h
less_numbered n m le (Clause id) h = (h.0, let r = h.1 in omega (arith, r, le))
less_numbered n m le (Negative size) h = h

pub lines_writable : (v : ℕ) (known : List (List Literal)) (log : List Chain) (derived : List (List Literal)) → AreWithin v known → LogDerives known log derived → length known + length log < 2 ^ 32 →
    All (IsWritable v) (lines_of known log derived)
lines_writable v known [] derived all d few = All-nil (IsWritable v)
lines_writable v known (chain ∷ log) [] all d few = All-nil (IsWritable v)
lines_writable v known (chain ∷ log) (c ∷ derived) all d few =
    All-cons (IsWritable v) (Adds (record { id = length known + 1; literals = c; hints = hints_of c (clauses_back known chain) })) (lines_of (known ++ c ∷ []) log derived)
    (omega arith, own, λ k x lt. less_numbered (length known) MAX_SIZE (omega arith) _ (hints_in (length known) (clauses_back known chain) c (entries_in known chain c derives) k x lt))
    (lines_writable v (known ++ c ∷ []) log derived (All-push (IsWithin v) known c all own) rest (omega (arith, length-append known (c ∷ []))))
  where
    heads : d.0 ≡ c
    heads = let z : c ∷ derived ≡ d.0 ∷ d.1 = d.4 in cc

    tails : d.1 ≡ derived
    tails = let z : c ∷ derived ≡ d.0 ∷ d.1 = d.4 in cc

    derives : ChainDerives known chain c
    derives = subst (ChainDerives known chain) heads d.2

    own : IsWithin v c
    own = chain_within v known chain c all derives

    rest : LogDerives (known ++ c ∷ []) log derived
    rest = subst (LogDerives (known ++ c ∷ []) log) tails (subst (λ (x : List Literal). LogDerives (known ++ x ∷ []) log d.1) heads d.3)
