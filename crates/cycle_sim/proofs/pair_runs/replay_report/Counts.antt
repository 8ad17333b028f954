-- How many pairs are settled among the first of a list, with one more.
use Rattle.std.specs.List.{filter_map}
use Rattle.std.proofs.Common.{◌≡◌, ◌∙◌, ℕ, ◌+◌, ◌<◌, Bool, true, false, List, [], ◌∷◌, ◌++◌, length, take, get_or, Option, Some, None, is_some, refl, sym, ap, arith, length-append}
use Rattle.std.proofs.lemmas.List.{take_more}
use Rattle.std.proofs.lemmas.List.Elements.{filter_map-append}
use Rattle.cycle_sim.specs.declared.pair_runs.differences.Settling.{Settling}
use Rattle.cycle_sim.specs.pair_runs.replay_report.Report.{settled_count}

abbrev own : Settling → Option ℕ
own s = s.first

of_one : (s : Settling) (b : Bool) (k : ℕ) → is_some s.first ≡ b → ((b ≡ true) → k ≡ 1) → ((b ≡ false) → k ≡ 0) → length (filter_map own (s ∷ [])) ≡ k
of_one s b k e one none = go s.first refl
  where
    go : (first : Option ℕ) → s.first ≡ first → length (filter_map own (s ∷ [])) ≡ k
    go None q = rw q (sym (none (sym e ∙ ap is_some q)))
    go (Some t) q = rw q (sym (one (sym e ∙ ap is_some q)))

more : (settlings : List Settling) (i : ℕ) (s : Settling) → i < length settlings → s ≡ get_or settlings i s → settled_count (take (i + 1) settlings) ≡ settled_count (take i settlings) + length (filter_map own (s ∷ []))
more settlings i s within is =
    let taken : take (i + 1) settlings ≡ take i settlings ++ s ∷ [] = take_more settlings i s within ∙ ap (λ z. take i settlings ++ z ∷ []) (sym is) in
    ap settled_count taken ∙ (ap length (filter_map-append own (take i settlings) (s ∷ [])) ∙ length-append (filter_map own (take i settlings)) (filter_map own (s ∷ [])))

-- it is settled
pub one_more : (settlings : List Settling) (i count : ℕ) (s : Settling) → i < length settlings → s ≡ get_or settlings i s → is_some s.first ≡ true → count ≡ settled_count (take i settlings) → count + 1 ≡ settled_count (take (i + 1) settlings)
one_more settlings i count s within is e before =
    let m = more settlings i s within is in
    let o = of_one s true 1 e (λ q. refl) (λ q. cc) in
    omega (arith, before, m, o)

-- it isn't
pub none_more : (settlings : List Settling) (i count : ℕ) (s : Settling) → i < length settlings → s ≡ get_or settlings i s → is_some s.first ≡ false → count ≡ settled_count (take i settlings) → count ≡ settled_count (take (i + 1) settlings)
none_more settlings i count s within is e before =
    let m = more settlings i s within is in
    let o = of_one s false 0 e (λ q. cc) (λ q. refl) in
    omega (arith, before, m, o)
