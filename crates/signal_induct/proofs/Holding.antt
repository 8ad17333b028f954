-- An inductive invariant under an assumption holds in every cycle of two reset runs with equal inputs that meet it.
use Rattle.std.proofs.Common.{◌≡◌, ◌∙◌, ℕ, zero, suc, ◌+◌, ◌<◌, ◌⊎◌, Bool, List, ◌++◌, length, map, sym, ap, subst, arith, add-one, inl, inr}
use Rattle.std.specs.List.{All, Contains}
use Rattle.std.proofs.lemmas.List.Elements.{Contains-append_cases}
use Rattle.circuit_theory.specs.Circuit.{Circuit, Started, Carries}
use Rattle.circuit_theory.specs.Tree.{AreNumbered}
use Rattle.circuit_theory.specs.Joined.{Either, Left, Right, moved_start, joined, beside}
use Rattle.circuit_theory.proofs.Lists.{Contains-map_from}
use Rattle.circuit_laws.proofs.Joined.{run_joined}
use Rattle.circuit_laws.proofs.signal_laws.Holding.{holds_in}
use Rattle.circuit_laws.specs.reset_laws.Reset.{AreAlikeFromReset}
use Rattle.circuit_laws.specs.signal_laws.Invariants.{IsCycle}
use Rattle.signal_refine.specs.Assuming.{IsInductiveUnder}
use Rattle.signal_induct.specs.Tied.{MeetsThroughout}

module _ (a b : Circuit ℕ) (left right : List ℕ) (numbered : AreNumbered a b left right) (left_long : length left ≡ length a.inputs) (n : ℕ) (l r : ℕ → ℕ → Bool) (alike : AreAlikeFromReset a b n l r) where
  abbrev whole : Circuit (Either ℕ ℕ)
  whole = joined a b

  abbrev run : ℕ → Either ℕ ℕ → Bool
  run t = beside (l t) (r t)

  -- the values of a cycle are those of one
  cycle_in : (t : ℕ) → t < n → IsCycle whole (left ++ right) (run t)
  cycle_in = holds_in a b left right numbered left_long n l r alike.left_run alike.right_run alike.equal_inputs (IsCycle whole (left ++ right)) (record { begins = λ x first. first.cycle; steps = λ x y successive is. successive.next })

  -- a latch with an initial value has it in cycle 0
  starts_with : (u : Either ℕ ℕ) (bit : Bool) → Contains whole.starts (record { place = u; bit = bit }) → run 0 u ≡ bit
  starts_with u bit h = go (Contains-append_cases _ _ _ h)
    where
      there : {P : Type 0} (put : P → Either ℕ ℕ) (starts : List (Started P)) → ((x : Started P) → Contains starts x → run 0 (put x.place) ≡ x.bit) → Contains (map (moved_start put) starts) (record { place = u; bit = bit }) → run 0 u ≡ bit
      there {P} put starts each k =
          let s = Contains-map_from (moved_start put) starts _ k in
          ap (run 0) (sym (ap (λ (z : Started (Either ℕ ℕ)). z.place) s.2)) ∙ (each s.0 s.1 ∙ ap (λ (z : Started (Either ℕ ℕ)). z.bit) s.2)

      go : Contains (map (moved_start Left) a.starts) (record { place = u; bit = bit }) ⊎ Contains (map (moved_start Right) b.starts) (record { place = u; bit = bit }) → run 0 u ≡ bit
      go (inl k) = there Left a.starts (λ x there. alike.left_run.starts x.place x.bit there) k
      go (inr k) = there Right b.starts (λ x there. alike.right_run.starts x.place x.bit there) k

  pub holds_where : (met good : (Either ℕ ℕ → Bool) → Type 0) → IsInductiveUnder whole (left ++ right) met good → MeetsThroughout met n l r → (t : ℕ) → t < n → good (run t)
  holds_where met good inductive meets zero h = inductive.begins (run 0) (record { cycle = cycle_in 0 h; starts = starts_with }) (meets 0 h)
  holds_where met good inductive meets (suc t) h =
      inductive.steps (run t) (run (suc t))
      (record {
        now = cycle_in t (omega arith);
        next = cycle_in (suc t) h;
        carries = subst (λ (s : ℕ). All (Carries (run t) (run s)) whole.equations) (add-one t) ((run_joined a b n l r alike.left_run.is_run alike.right_run.is_run).carries t (omega arith));
      })
      (meets t (omega arith)) (meets (suc t) h) (holds_where met good inductive meets t (omega arith))
