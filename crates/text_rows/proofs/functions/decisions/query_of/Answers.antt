-- The query's variables are those of the graph, each once.
use Rattle.std.proofs.Common.{◌≡◌, ◌≢◌, ℕ, ◌+◌, ◌<◌, ◌⊎◌, inl, inr, List, [], ◌∷◌, ◌++◌, length, get_or, slice_get, Some, Contains, refl, sym, ap, subst, ◌∙◌, arith}
use Rattle.std.specs.List.{AllPairs}
use Rattle.std.proofs.lemmas.List.{length-append}
use Rattle.std.proofs.lemmas.Option.{get_or_from_slice_get}
use Rattle.circuit_theory.proofs.Lists.{of_at}
use Rattle.aig.specs.declared.node.Node.{Node}
use Rattle.aig.specs.declared.node.Node.TheVariants.{Input}
use Rattle.aig.specs.Graph.{vars_of}
use Rattle.aig.proofs.Insert.{vars_of-member}
use Rattle.aig.proofs.Growth.{slice_get-append}
use Rattle.text_rows.proofs.functions.decisions.query_of.Goals as goal

last : (xs : List ℕ) (x : ℕ) → slice_get (xs ++ x ∷ []) (length xs) ≡ Some x
last [] x = refl
last (y ∷ xs) x = last xs x

one-more : (vars new : List ℕ) (n : ℕ) → length vars ≡ n → ((k : ℕ) → k < n → slice_get vars k ≡ Some k) → new ≡ vars ++ n ∷ [] → (k : ℕ) → k < n + 1 → slice_get new k ≡ Some k
one-more vars new n count each e k below = subst (λ (us : List ℕ). slice_get us k ≡ Some k) (sym e) (by (cases k n below))
  where
    cases : (k n : ℕ) → k < n + 1 → (k < n) ⊎ (k ≡ n)
    cases k n h = grind arith

    by : (k < n) ⊎ (k ≡ n) → slice_get (vars ++ n ∷ []) k ≡ Some k
    by (inl less) = slice_get-append vars (n ∷ []) k k (each k less)
    by (inr same) = ap (slice_get (vars ++ n ∷ [])) (same ∙ sym count) ∙ last vars n ∙ ap Some (sym same)

pub loop-variable-preserved : goal.loop-variable-preserved
loop-variable-preserved c = record {
  count = omega (arith, ap length c.in_ok-push.ensures.ok, length-append c.loop-variable.vars (c.loop-variable.variable ∷ []), c.loop-variable.invariant.count);
  each = one-more c.loop-variable.vars c.push.new.self c.loop-variable.variable c.loop-variable.invariant.count c.loop-variable.invariant.each c.in_ok-push.ensures.ok;
}

apart : (vars : List ℕ) (n : ℕ) → length vars ≡ n → ((k : ℕ) → k < n → slice_get vars k ≡ Some k) → AllPairs (λ u v. u ≢ v) vars
apart vars n count each i j d below inside same =
    let first : get_or vars i d ≡ i = get_or_from_slice_get vars i i d (each i (omega (arith, count))) in
    let second : get_or vars j d ≡ j = get_or_from_slice_get vars j j d (each j (omega (arith, count))) in
    omega (arith, first, second, same)

held : (g : List Node) (vars : List ℕ) (n : ℕ) → n ≡ vars_of g → ((k : ℕ) → k < n → slice_get vars k ≡ Some k) → (m v : ℕ) → slice_get g m ≡ Some (Input v) → Contains vars v
held g vars n all each m v at = of_at vars v v (each v (omega (arith, all, vars_of-member g m (Input v) at)))

pub returns : goal.returns
returns c =
    record {
      left = c.requires.left;
      right = c.requires.right;
      care = c.requires.care;
      distinct = apart c.loop-variable.vars c.loop-variable.variable c.loop-variable.invariant.count c.loop-variable.invariant.each;
      covers = λ m v reach at. held c.args.graph.now c.loop-variable.vars c.loop-variable.variable (omega (arith, c.vars-variable-end.ensures, c.loop-variable-test.false, c.loop-variable.auto.variable-end)) c.loop-variable.invariant.each m v at;
    }
