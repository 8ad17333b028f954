-- There is one run over a stimulus that fits, and one report of it.
use Rattle.std.proofs.Common.{◌≡◌, ◌∙◌, ◌<◌, ℕ, zero, suc, Bool, true, false, List, [], ◌∷◌, map, length, slice_get, Option, Some, None, refl, sym, ap, subst, arith}
use Rattle.std.specs.Prelude.{All, ◌↔◌}
use Rattle.std.proofs.lemmas.List.{length-map}
use Rattle.std.proofs.lemmas.List.Elements.{All-map}
use Rattle.std.proofs.lemmas.Option.{slice_get_within}
use Rattle.base_tables.specs.Table.{AreDistinct}
use Rattle.flat_net.specs.declared.parts.Port.{Port}
use Rattle.circuit_theory.specs.declared.Mode.{Mode}
use Rattle.circuit_theory.specs.Agree.{EnabledIn}
use Rattle.circuit_theory.specs.Run.{IsResetRun}
use Rattle.flat_net.specs.View.{NetView, circuit_of}
use Rattle.flat_net.specs.Sound.{IsSound}
use Rattle.flat_net.proofs.Nets.{some_at}
use Rattle.cycle_sim.proofs.Runs.{run_exists, one_run}
use Rattle.cycle_sim.proofs.Starts.{from_initial_values}
use Rattle.circuit_report.specs.sim_report.Checks.{word_bits, power_of, first_misfit}
use Rattle.circuit_report.specs.sim_report.Report.{Shown, IsShown, sim_text, IsSimulated, IsSimReport}
use Rattle.circuit_report.specs.sim_report.Cycles.{reordered}
use Rattle.circuit_report.proofs.sim_report.Runs.{fed, simulated, no_misfit, length-word, length-power, has_columns}

-- lists with one element at each place are one
same_places : {X : Type 0} (xs ys : List X) → length xs ≡ length ys → ((i : ℕ) (x y : X) → slice_get xs i ≡ Some x → slice_get ys i ≡ Some y → x ≡ y) → xs ≡ ys
same_places [] [] e h = refl
same_places [] (y ∷ ys) e h = absurd (omega (arith, e))
same_places (x ∷ xs) [] e h = absurd (omega (arith, e))
same_places (x ∷ xs) (y ∷ ys) e h =
    let head : x ≡ y = h zero x y refl refl in
    let tail : xs ≡ ys = same_places xs ys (omega (arith, e)) (λ i a b p q. h (suc i) a b p q) in
    cc

-- bits that are 1 in one case are one
same_bits : {P : Type 0} (a b : Bool) → (a ≡ true) ↔ P → (b ≡ true) ↔ P → a ≡ b
same_bits true true l r = refl
same_bits false false l r = refl
same_bits true false l r = sym (r.1 (l.0 refl))
same_bits false true l r = l.1 (r.0 refl)

-- what is right of one cycle is one
same_shown : (n : NetView) (enabled : ℕ → Type 0) (t : ℕ) (run : ℕ → ℕ → Bool) (a b : Shown) → IsShown n enabled t run a → IsShown n enabled t run b → a ≡ b
same_shown n enabled t run a b l r =
    let values : a.values ≡ b.values = l.values ∙ sym r.values in
    let marks : a.marks ≡ b.marks =
    same_places a.marks b.marks (l.each ∙ sym r.each)
    (λ i x y at_x at_y. let w = slice_get_within a.marks i x at_x in let port = some_at n.outputs i (omega (arith, w, l.each)) in same_bits x y (l.marks i port.0 x port.1 at_x) (r.marks i port.0 y port.1 at_y)) in
    λ i. record { values = values i; marks = marks i }

module _ (n : NetView) (sound : IsSound n) (names : List (List ℕ)) (rows : List (List Bool)) (distinct : AreDistinct names) (wide : All (λ row. length row ≡ length names) rows) (power : Option (List ℕ)) (reset : Bool)
    (fits : first_misfit n names power ≡ None) where
  pub simulation_exists : (run : ℕ → ℕ → Bool) × IsSimulated n names rows (power_of n power reset) run
  simulation_exists =
      let fitting = no_misfit n names power fits in
      let columns = has_columns n names fitting.complete in
      let width : All (λ row. length row ≡ length n.inputs) (map (reordered columns.0) rows) =
      All-map (λ (row : List Bool). length row ≡ length n.inputs) (reordered columns.0) rows (λ k d below. length-map columns.0 _ ∙ columns.1.each) in
      let made = run_exists n sound (power_of n power reset) (map (reordered columns.0) rows) (length-power n power reset fitting.power_fits) width in
      (made.0, simulated n names rows columns.0 columns.1 wide distinct (power_of n power reset) made.0 made.1)

  pub one_simulation : (run other : ℕ → ℕ → Bool) → IsSimulated n names rows (power_of n power reset) run → IsSimulated n names rows (power_of n power reset) other →
      (t p : ℕ) → t < length rows → p < length n.drivers → other t p ≡ run t p
  one_simulation run other first second t p early within =
      let columns = has_columns n names (no_misfit n names power fits).complete in
      one_run n sound (power_of n power reset) (map (reordered columns.0) rows) run other (fed n names rows columns.0 columns.1 wide (power_of n power reset) run first) (fed n names rows columns.0 columns.1 wide (power_of n power reset) other second)
      t p (subst (λ k. t < k) (sym (length-map rows (reordered columns.0))) early) within

  pub one_report : (mode : Mode) (text other : List ℕ) → IsSimReport mode n names rows power reset text → IsSimReport mode n names rows power reset other → text ≡ other
  one_report mode text other first second =
      let run = simulation_exists in
      let cycles : first.cycles ≡ second.cycles =
      same_places first.cycles second.cycles (first.each ∙ sym second.each) (λ t a b at_a at_b. same_shown n (EnabledIn mode (circuit_of n)) t run.0 a b (first.shown run.0 run.1 t a at_a) (second.shown run.0 run.1 t b at_b)) in
      first.text_is ∙ (ap (sim_text (map (λ (p : Port). p.name) n.outputs)) cycles ∙ sym second.text_is)

-- with `reset` it is a run from the initial values
pub simulated_resets : (n : NetView) (names : List (List ℕ)) (rows : List (List Bool)) → All (λ row. length row ≡ length names) rows → (power : Option (List ℕ)) → first_misfit n names power ≡ None →
    (run : ℕ → ℕ → Bool) → IsSimulated n names rows (power_of n power true) run → IsResetRun (circuit_of n) (length rows) run
simulated_resets n names rows wide power fits run s =
    let fitting = no_misfit n names power fits in
    let columns = has_columns n names fitting.complete in
    subst (λ (k : ℕ). IsResetRun (circuit_of n) k run) (length-map rows (reordered columns.0))
    (from_initial_values n (map (reordered columns.0) rows) run (word_bits n power) (length-word n power fitting.power_fits) (fed n names rows columns.0 columns.1 wide (power_of n power true) run s))
