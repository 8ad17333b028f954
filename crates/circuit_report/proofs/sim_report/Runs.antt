-- Runs over a stimulus, and runs by rows in the order of the inputs.
use Rattle.std.proofs.Common.{◌≡◌, ◌∙◌, ◌<◌, ℕ, zero, suc, Bool, true, false, List, [], ◌∷◌, ◌++◌, map, length, get_or, slice_get, Option, Some, None, refl, sym, ap, subst, arith}
use Rattle.std.specs.Prelude.{All, Contains, codes, ◌==◌, ◌&&◌, if◌then◌else◌}
use Rattle.std.proofs.lemmas.Bool.{eqb-true}
use Rattle.std.proofs.lemmas.List.{length-map, length-replicate}
use Rattle.std.proofs.lemmas.Option.{slice_get_within, slice_get-get_or, get_or_from_slice_get, same_Some}
use Rattle.circuit_theory.specs.Run.{IsRun}
use Rattle.circuit_theory.specs.Interface.{first_missing, ◌or_else◌}
use Rattle.circuit_theory.proofs.Lists.{at_of, of_at, Contains-map, Contains-tail, Contains-head}
use Rattle.base_tables.specs.Table.{AreDistinct}
use Rattle.base_tables.proofs.TableLemmas.{key_at}
use Rattle.flat_net.specs.declared.parts.Port.{Port}
use Rattle.flat_net.specs.View.{NetView, circuit_of}
use Rattle.flat_net.proofs.Nets.{some_at}
use Rattle.flat_net.proofs.Places.{All-at}
use Rattle.witness_report.specs.Text.{names_text}
use Rattle.cycle_sim.specs.Runs.{IsRunFrom}
use Rattle.cycle_sim.proofs.Lists.{map_at, map_is}
use Rattle.cycle_sim.proofs.Starts.{length-reset_bits}
use Rattle.circuit_report.specs.declared.sim_report.refusal.Misfit.{Misfit}
use Rattle.circuit_report.specs.declared.sim_report.refusal.Misfit.TheVariants as misfit
use Rattle.circuit_report.specs.sim_report.Checks.{is_power, word_bits, power_of, named_misfit, first_misfit}
use Rattle.sec_setup.specs.ports.name_tables.Names.{input_names}
use Rattle.circuit_report.specs.sim_report.Report.{cycle_lines, IsSimulated, IsSimReport}
use Rattle.circuit_report.specs.sim_report.Cycles.{AreColumns, PutsCycles, reordered}
use Rattle.signal_graph.specs.inner_cone.latch_cone.Cones.{MarksEnabled}
use Rattle.circuit_theory.specs.declared.Mode.{Mode}
use Rattle.circuit_report.proofs.sim_report.Lines.{shown_in_mode}
use Rattle.sec_setup.proofs.ports.name_tables.Names.{missing_none}

-- the columns of a stimulus whose rows have one bit for each name
module _ (n : NetView) (names : List (List ℕ)) (rows : List (List Bool)) (columns : List ℕ) (are : AreColumns n names columns) (wide : All (λ row. length row ≡ length names) rows) where
  -- the column of an input is within each row
  column_within : (t : ℕ) (row : List Bool) (k c : ℕ) → slice_get rows t ≡ Some row → slice_get columns k ≡ Some c → c < length row
  column_within t row k c at at_column =
      let below : k < length n.inputs = let w = slice_get_within columns k c at_column in omega (arith, w, are.each) in
      let port = some_at n.inputs k below in
      let w = slice_get_within names c port.0.name (are.named k c port.0 port.1 at_column) in
      let size : length row ≡ length names = All-at (λ (r : List Bool). length r ≡ length names) rows t row at wide in
      omega (arith, w, size)

  -- a run over the stimulus is one by the rows in the order of the inputs
  pub fed : (power : List Bool) (run : ℕ → ℕ → Bool) → IsSimulated n names rows power run → IsRunFrom n power (map (reordered columns) rows) run
  fed power run s = record {
    is_run = subst (λ k. IsRun (circuit_of n) k run) (sym (length-map rows (reordered columns))) s.is_run;
    powers_up = s.powers_up;
    takes = λ t row at.
        let of = key_at (reordered columns) rows t row at in
        sym (map_is (λ (port : Port). run t port.signal.0) n.inputs (reordered columns of.0) (length-map columns (λ k. get_or of.0 k false) ∙ are.each) (taken t of.0 of.1)) ∙ of.2;
  }
    where
      taken : (t : ℕ) (row : List Bool) → slice_get rows t ≡ Some row → (k : ℕ) (port : Port) → slice_get n.inputs k ≡ Some port → slice_get (reordered columns row) k ≡ Some (run t port.signal.0)
      taken t row at k port at_port =
          let below : k < length columns = let w = slice_get_within n.inputs k port at_port in omega (arith, w, are.each) in
          let column = some_at columns k below in
          let bit = slice_get-get_or row column.0 false (column_within t row k column.0 at column.1) in
          map_at (λ c. get_or row c false) columns k column.0 column.1
          ∙ ap Some (sym (s.takes t column.0 row (get_or row column.0 false) port at bit (of_at n.inputs k port at_port) (are.named k column.0 port at_port column.1)))

  -- and such a run is one over the stimulus
  pub simulated : AreDistinct names → (power : List Bool) (run : ℕ → ℕ → Bool) → IsRunFrom n power (map (reordered columns) rows) run → IsSimulated n names rows power run
  simulated distinct power run r = record {
    is_run = subst (λ k. IsRun (circuit_of n) k run) (length-map rows (reordered columns)) r.is_run;
    powers_up = r.powers_up;
    takes = λ t k row bit port at at_bit stands named.
        let place = at_of n.inputs port stands in
        let below : place.0 < length columns = let w = slice_get_within n.inputs place.0 port place.1 in omega (arith, w, are.each) in
        let column = some_at columns place.0 below in
        let same : column.0 ≡ k = distinct column.0 k port.name (are.named place.0 column.0 port place.1 column.1) named in
        let inputs = r.takes t (reordered columns row) (map_at (reordered columns) rows t row at) in
        let value : run t port.signal.0 ≡ get_or row column.0 false =
        same_Some _ _ (sym (map_at (λ (q : Port). run t q.signal.0) n.inputs place.0 port place.1)
        ∙ (ap (λ (bits : List Bool). slice_get bits place.0) inputs ∙ map_at (λ c. get_or row c false) columns place.0 column.0 column.1)) in
        value ∙ (ap (λ c. get_or row c false) same ∙ get_or_from_slice_get row k bit false at_bit);
  }

  -- each column is within each row
  pub columns_within : All (λ row. All (λ k. k < length row) columns) rows
  columns_within t row below = λ k c here. column_within t (get_or rows t row) k (get_or columns k c) (slice_get-get_or rows t row below) (slice_get-get_or columns k c here)

  -- the lines behind the outputs' names are the report
  pub report_is : (mode : Mode) (enabled : List Bool) → MarksEnabled mode n enabled → (power : Option (List ℕ)) (reset : Bool) (head text : List ℕ) → head ≡ codes "outputs" ++ names_text (map (λ (p : Port). p.name) n.outputs) ++ 10 ∷ [] →
      PutsCycles n enabled (power_of n power reset) (map (reordered columns) rows) head text → (run : ℕ → ℕ → Bool) × IsSimulated n names rows (power_of n power reset) run → IsSimReport mode n names rows power reset text
  report_is mode enabled marks power reset head text begins put runs = record {
    run = runs.0;
    runs = runs.1;
    cycles = put.cycles;
    each = put.each ∙ length-map rows (reordered columns);
    text_is = put.text_is ∙ ap (λ (x : List ℕ). x ++ cycle_lines 0 put.cycles) begins;
    shown = λ run s t shown at. shown_in_mode n mode enabled marks t run shown (put.shown run (fed (power_of n power reset) run s) t shown at);
  }

-- neither is there
or_else-none : {X : Type 0} (x y : Option X) → (x or_else y) ≡ None → (x ≡ None) × (y ≡ None)
or_else-none None y e = (refl, e)
or_else-none (Some x) y e = absurd (no e)
  where
    no : Some x ≡ None → ⊥
    no q = cc

no_name : (kind : List ℕ → Misfit) (o : Option (List ℕ)) → named_misfit kind o ≡ None → o ≡ None
no_name kind None e = refl
no_name kind (Some name) e = absurd (no e)
  where
    no : Some (kind name) ≡ None → ⊥
    no q = cc

no_power : (b : Bool) → ◌≡◌ {A = Option Misfit} (if b then None else Some misfit.Power) None → b ≡ true
no_power true e = refl
no_power false e = absurd (no e)
  where
    no : Some misfit.Power ≡ None → ⊥
    no q = cc

-- what it says that nothing is a misfit
pub record AreFitting (n : NetView) (names : List (List ℕ)) (power : Option (List ℕ)) : Type 0 where
  pub known : first_missing names (input_names n) ≡ None
  pub complete : first_missing (input_names n) names ≡ None
  pub power_fits : is_power n power ≡ true

pub no_misfit : (n : NetView) (names : List (List ℕ)) (power : Option (List ℕ)) → first_misfit n names power ≡ None → AreFitting n names power
no_misfit n names power e =
    let last = or_else-none _ (if is_power n power then None else Some misfit.Power) e in
    let first = or_else-none (named_misfit misfit.Unknown (first_missing names (input_names n))) (named_misfit misfit.Missing (first_missing (input_names n) names)) last.0 in
    record { known = no_name misfit.Unknown _ first.0; complete = no_name misfit.Missing _ first.1; power_fits = no_power (is_power n power) last.1 }

-- there is one bit for each latch
pub length-word : (n : NetView) (power : Option (List ℕ)) → is_power n power ≡ true → length (word_bits n power) ≡ length n.latches
length-word n None e = length-replicate (length n.latches) false
length-word n (Some word) e = length-map word (λ digit. digit == 49) ∙ eqb-true (length word) (length n.latches) (left _ _ e)
  where
    left : (a b : Bool) → (a && b) ≡ true → a ≡ true
    left true b h = refl
    left false b h = h

pub length-power : (n : NetView) (power : Option (List ℕ)) (reset : Bool) → is_power n power ≡ true → length (power_of n power reset) ≡ length n.latches
length-power n power true e = length-reset_bits n.latches (word_bits n power) (length-word n power e)
length-power n power false e = length-word n power e

-- the columns of these inputs
columns_of : (names : List (List ℕ)) (ports : List Port) → ((port : Port) → Contains ports port → Contains names port.name) →
    (columns : List ℕ) × (length columns ≡ length ports) × ((i k : ℕ) (port : Port) → slice_get ports i ≡ Some port → slice_get columns i ≡ Some k → slice_get names k ≡ Some port.name)
columns_of names [] there = ([], refl, λ i k port at here. absurd (let w = slice_get_within [] i port at in omega arith))
columns_of names (p ∷ ports) there =
    let rest = columns_of names ports (λ port h. there port (Contains-tail p port ports h)) in
    let first = at_of names p.name (there p (Contains-head p ports)) in
    (first.0 ∷ rest.0, omega (arith, rest.1), λ i k port at here. named first.0 first.1 rest.0 rest.2 i k port at here)
  where
    named : (c : ℕ) → slice_get names c ≡ Some p.name → (columns : List ℕ) → ((i k : ℕ) (port : Port) → slice_get ports i ≡ Some port → slice_get columns i ≡ Some k → slice_get names k ≡ Some port.name) →
        (i k : ℕ) (port : Port) → slice_get (p ∷ ports) i ≡ Some port → slice_get (c ∷ columns) i ≡ Some k → slice_get names k ≡ Some port.name
    named c at columns rest zero k port here column =
        ap (slice_get names) (sym (same_Some c k column)) ∙ (at ∙ ap (λ (q : Port). Some q.name) (same_Some p port here))
    named c at columns rest (suc i) k port here column = rest i k port here column

-- where no input is missing in the header, each has its column
pub has_columns : (n : NetView) (names : List (List ℕ)) → first_missing (input_names n) names ≡ None → (columns : List ℕ) × AreColumns n names columns
has_columns n names none =
    let made = columns_of names n.inputs (λ port h. missing_none (input_names n) names none port.name (Contains-map (λ (p : Port). p.name) n.inputs port h)) in
    (made.0, record { each = made.1; named = made.2 })
