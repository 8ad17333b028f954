-- The hints of a chain, one by one, and the lines of a log.
use Rattle.std.proofs.Common.{◌≡◌, ℕ, suc, ◌+◌, ◌<◌, ◌≤◌, Bool, true, false, cond, List, [], ◌∷◌, ◌++◌, length, map, reverse, take, get_or, sym, ◌∙◌, ap, subst, arith, append_assoc, Option, Some, None}
use Rattle.std.specs.Prelude.{slice_index_or}
use Rattle.std.specs.Fmt.{decimal}
use Rattle.std.specs.List.{flat_map}
use Rattle.std.proofs.lemmas.List.{append-nil, map-append, reverse-append, take_more, take_all}
use Rattle.proof_check.specs.Literals.{Literal, negation}
use Rattle.proof_check.specs.declared.derivation.Step.{Step}
use Rattle.proof_check.specs.declared.derivation.Chain.{Chain}
use Rattle.lrat_core.specs.Logs.{is_met, first_open, hints_after, hints_of, numbered_clause, clauses_back}
use Rattle.lrat_core.specs.declared.hints.Hint.{Hint}
use Rattle.lrat_core.specs.declared.hints.Hint.TheVariants.{Clause}
use Rattle.lrat_core.specs.certificate_writer.Texts.{hint_piece}
use Rattle.lrat_core.specs.certificate_writer.Hinting.{hints_text, IsConsistent, IsHinted}

-- what the hints of clauses are where the first of them is met, false or open
module _ (known : List (List Literal)) (n : ℕ) (f c : List Literal) (is : c ≡ slice_index_or known n []) where
  abbrev choice : List (ℕ × List Literal) → Bool → Option Literal → List Hint
  choice rest b o = cond b (hints_of f rest) (Clause (suc n) ∷ hints_after o (λ l. hints_of (f ++ negation l ∷ []) rest))

  chosen : (rest : List (ℕ × List Literal)) → hints_of f (numbered_clause known n ∷ rest) ≡ choice rest (is_met f c) (first_open f c)
  chosen rest = ap (λ (x : List Literal). choice rest (is_met f x) (first_open f x)) (sym is)

  -- a clause that is met is left out
  pub met_hinted : (text : List ℕ) → is_met f c ≡ true → IsConsistent f → IsHinted known n text f true text f
  met_hinted text e consistent =
      (consistent, λ rest. ap (λ hs. text ++ flat_map hint_piece hs) (sym (chosen rest ∙ ap (λ b. choice rest b (first_open f c)) e)))

  put : (text middle new : List ℕ) (number : ℕ) → number ≡ n + 1 → middle ≡ text ++ decimal number → new ≡ middle ++ 32 ∷ [] → (hs : List Hint) → new ++ flat_map hint_piece hs ≡ text ++ flat_map hint_piece (Clause (suc n) ∷ hs)
  put text middle new number q e g hs =
      let same : number ≡ suc n = omega arith in
      ap (λ xs. xs ++ flat_map hint_piece hs) (g ∙ ap (λ xs. xs ++ 32 ∷ []) (e ∙ ap (λ k. text ++ decimal k) same))
      ∙ simp append_assoc

  -- a false one ends the hints
  pub false_hinted : (text middle new : List ℕ) (number : ℕ) (g : List Literal) → number ≡ n + 1 → middle ≡ text ++ decimal number → new ≡ middle ++ 32 ∷ [] → is_met f c ≡ false → first_open f c ≡ None → IsHinted known n text f false new g
  false_hinted text middle new number g q e h unmet none rest =
      sym (append-nil new)
      ∙ (put text middle new number q e h []
      ∙ ap (λ hs. text ++ flat_map hint_piece hs) (sym (chosen rest ∙ (ap (λ b. choice rest b (first_open f c)) unmet ∙ ap (choice rest false) none))))

  -- one with an open literal makes this one true
  pub open_hinted : (text middle new : List ℕ) (number : ℕ) (l : Literal) (g : List Literal) → number ≡ n + 1 → middle ≡ text ++ decimal number → new ≡ middle ++ 32 ∷ [] → is_met f c ≡ false → first_open f c ≡ Some l →
      g ≡ f ++ negation l ∷ [] → IsConsistent (f ++ negation l ∷ []) → IsHinted known n text f true new g
  open_hinted text middle new number l g q e h unmet is_open more consistent = (
    subst IsConsistent (sym more) consistent,
    λ rest.
        ap (λ (x : List Literal). new ++ hints_text x rest) more
        ∙ (put text middle new number q e h (hints_of (f ++ negation l ∷ []) rest)
        ∙ ap (λ hs. text ++ flat_map hint_piece hs) (sym (chosen rest ∙ (ap (λ b. choice rest b (first_open f c)) unmet ∙ ap (choice rest false) is_open)))),
  )

-- the clauses of a chain from one of its steps back
abbrev pub clauses_left : List (List Literal) → Chain → ℕ → List (ℕ × List Literal)
clauses_left known chain n = map (numbered_clause known) (reverse (chain.start ∷ map (λ (s : Step). s.clause) (take n chain.steps)))

pub all_left : (known : List (List Literal)) (chain : Chain) (n : ℕ) → n ≡ length chain.steps → clauses_left known chain n ≡ clauses_back known chain
all_left known chain n e = ap (λ (steps : List Step). map (numbered_clause known) (reverse (chain.start ∷ map (λ (s : Step). s.clause) steps))) (take_all n chain.steps (omega arith))

pub one_left : (known : List (List Literal)) (chain : Chain) (n : ℕ) (s : Step) → n < length chain.steps → s ≡ get_or chain.steps n s → clauses_left known chain (n + 1) ≡ numbered_clause known s.clause ∷ clauses_left known chain n
one_left known chain n s lt is =
    let ks : List ℕ = map (λ (x : Step). x.clause) (take n chain.steps) in
    ap (λ (steps : List Step). map (numbered_clause known) (reverse (chain.start ∷ map (λ (x : Step). x.clause) steps))) (take_more chain.steps n s lt ∙ ap (λ (x : Step). take n chain.steps ++ x ∷ []) (sym is))
    ∙ (ap (λ (xs : List ℕ). map (numbered_clause known) (reverse (chain.start ∷ xs))) (map-append (λ (x : Step). x.clause) (take n chain.steps) (s ∷ []))
    ∙ ap (map (numbered_clause known)) (reverse-append (chain.start ∷ ks) (s.clause ∷ [])))

-- after a hint, where others follow and where none does
pub after_false : (known : List (List Literal)) (n : ℕ) (text : List ℕ) (f : List Literal) (b : Bool) (new : List ℕ) (g : List Literal) (rest : List (ℕ × List Literal)) → b ≡ false → IsHinted known n text f b new g →
    new ≡ text ++ hints_text f (numbered_clause known n ∷ rest)
after_false known n text f false new g rest e h = h rest
after_false known n text f true new g rest e h = absurd (let z : true ≡ false = e in cc)

pub after_true : (known : List (List Literal)) (n : ℕ) (text : List ℕ) (f : List Literal) (b : Bool) (new : List ℕ) (g : List Literal) (rest : List (ℕ × List Literal)) → b ≡ true → IsHinted known n text f b new g →
    IsConsistent g × (new ++ hints_text g rest ≡ text ++ hints_text f (numbered_clause known n ∷ rest))
after_true known n text f true new g rest e h = (h.0, h.1 rest)
after_true known n text f false new g rest e h = absurd (let z : false ≡ true = e in cc)

pub after_last : (known : List (List Literal)) (n : ℕ) (text : List ℕ) (f : List Literal) (b : Bool) (new : List ℕ) (g : List Literal) → IsHinted known n text f b new g → new ≡ text ++ hints_text f (numbered_clause known n ∷ [])
after_last known n text f true new g h = sym (append-nil new) ∙ h.1 []
after_last known n text f false new g h = h []

-- a step's hint in the whole of the hints
module _ (known : List (List Literal)) (chain : Chain) (before left : ℕ) (s : Step) (text whole : List ℕ) (f : List Literal) (b : Bool) (new : List ℕ) (g : List Literal) (less : before ≡ left + 1) (within : before ≤ length chain.steps)
    (is : s ≡ get_or chain.steps left s) (so : text ++ hints_text f (clauses_left known chain before) ≡ whole) (hinted : IsHinted known s.clause text f b new g) where
  step : text ++ hints_text f (numbered_clause known s.clause ∷ clauses_left known chain left) ≡ whole
  step = ap (λ es. text ++ hints_text f es) (sym (ap (clauses_left known chain) less ∙ one_left known chain left s (omega (arith, less, within)) is)) ∙ so

  pub stops : b ≡ false → new ≡ whole
  stops e = after_false known s.clause text f b new g (clauses_left known chain left) e hinted ∙ step

  pub goes_on : b ≡ true → IsConsistent g × (new ++ hints_text g (clauses_left known chain left) ≡ whole)
  goes_on e = let w = after_true known s.clause text f b new g (clauses_left known chain left) e hinted in (w.0, w.1 ∙ step)

-- the hint of the start is the last
pub ends : (known : List (List Literal)) (chain : Chain) (left : ℕ) (text whole : List ℕ) (f : List Literal) (b : Bool) (new : List ℕ) (g : List Literal) → left ≡ 0 → text ++ hints_text f (clauses_left known chain left) ≡ whole → IsHinted known chain.start text f b new g → new ≡ whole
ends known chain left text whole f b new g none so hinted = after_last known chain.start text f b new g hinted ∙ (ap (λ n. text ++ hints_text f (clauses_left known chain n)) (sym none) ∙ so)
