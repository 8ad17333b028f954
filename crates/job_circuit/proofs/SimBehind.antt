-- From what is known behind the rows of a stimulus a run goes on as one from initial values; so a report of the latter tells of it.
use Rattle.std.proofs.Common.{◌≡◌, ◌∙◌, ℕ, zero, suc, ◌+◌, ◌<◌, ◌≤◌, Bool, true, false, List, [], ◌∷◌, ◌++◌, length, map, slice_get, refl, sym, ap, subst, arith, inl, inr, ◌⊎◌, Option, Some, None, Result, Ok, Err, codes}
use Rattle.std.specs.Prelude.{◌==◌, ◌&&◌, ◌||◌, if◌then◌else◌, IsErrAnd}
use Rattle.std.specs.List.{All, list_all}
use Rattle.std.proofs.lemmas.Option.{slice_get_within, same_Some}
use Rattle.circuit_theory.specs.declared.Mode.TheVariants.{Plain}
use Rattle.circuit_theory.specs.Circuit.{Circuit}
use Rattle.circuit_theory.specs.Interface.{first_missing, ◌or_else◌}
use Rattle.circuit_theory.specs.Run.{IsRun}
use Rattle.circuit_laws.specs.start_laws.Known.{BeginsWith}
use Rattle.circuit_laws.proofs.start_laws.Knowing.{known_is_run, rest_run}
use Rattle.flat_net.specs.declared.parts.LatchAt.{LatchAt}
use Rattle.flat_net.specs.View.{NetView, circuit_of}
use Rattle.sec_setup.specs.ports.name_tables.Names.{input_names}
use Rattle.cycle_sim.specs.Runs.{initial_or, reset_bits}
use Rattle.restart.specs.Behind.{init_of, begun, begun_latches, IsBegun}
use Rattle.restart.specs.Report.{after_line, unknown_line}
use Rattle.restart.proofs.Begun.{begun_circuit, begun_starts, begins_with}
use Rattle.restart.proofs.Starting.{begun_long}
use Rattle.circuit_report.specs.declared.sim_report.refusal.Misfit.{Misfit}
use Rattle.circuit_report.specs.declared.sim_report.refusal.Misfit.TheVariants as misfit
use Rattle.circuit_report.specs.declared.graph_report.runs.SimulateError.{SimulateError}
use Rattle.circuit_report.specs.declared.graph_report.runs.SimulateError.TheVariants as refused
use Rattle.circuit_report.specs.graph_report.Jobs.{Simulates}
use Rattle.circuit_report.specs.sim_report.Checks.{named_misfit, first_misfit, word_bits, power_of}
use Rattle.circuit_report.specs.sim_report.Report.{Shown, IsShown, IsSimulated}
use Rattle.circuit_report.proofs.sim_report.Runs.{no_misfit, length-word}
use Rattle.job_circuit.specs.SimBehind.{RunsOver, IsReportBehind, IsMisfitBehind, RunsBehind}

cons : {X : Type 0} {x y : X} {xs ys : List X} → x ≡ y → xs ≡ ys → x ∷ xs ≡ y ∷ ys
cons {X} {x} {y} {xs} {ys} e f = ap (λ (z : X). z ∷ xs) e ∙ ap (λ (zs : List X). y ∷ zs) f

-- the bit with which a latch begins of which this is known
begins_at : (k : Option Bool) (b x : Bool) → ((bit : Bool) → k ≡ Some bit → x ≡ bit) → (k ≡ None → x ≡ b) → x ≡ initial_or (init_of k) b
begins_at None b x given free = free refl
begins_at (Some true) b x given free = given true refl
begins_at (Some false) b x given free = given false refl

-- values that known latches have, and else these bits, are those with which the net begins
powers : (ls : List LatchAt) (known : List (Option Bool)) (bits : List Bool) (v : ℕ → Bool) → length known ≡ length ls → length bits ≡ length ls →
    ((j : ℕ) (l : LatchAt) (bit : Bool) → slice_get ls j ≡ Some l → slice_get known j ≡ Some (Some bit) → v l.out.0 ≡ bit) →
    ((j : ℕ) (l : LatchAt) (bit : Bool) → slice_get ls j ≡ Some l → slice_get known j ≡ Some None → slice_get bits j ≡ Some bit → v l.out.0 ≡ bit) →
    map (λ (l : LatchAt). v l.out.0) (begun_latches ls known) ≡ reset_bits (begun_latches ls known) bits
powers [] known bits v size long given free = refl
powers (l ∷ ls) [] bits v size long given free = absurd (omega (arith, size))
powers (l ∷ ls) (k ∷ known) [] v size long given free = absurd (omega (arith, long))
powers (l ∷ ls) (k ∷ known) (b ∷ bits) v size long given free =
    cons (begins_at k b (v l.out.0) (λ bit e. given 0 l bit refl (ap Some e)) (λ e. free 0 l b refl (ap Some e) refl))
    (powers ls known bits v (omega (arith, size)) (omega (arith, long)) (λ j m bit. given (suc j) m bit) (λ j m bit. free (suc j) m bit))

-- the net that begins has the net's inputs and as many latches
pub misfit_same : (n : NetView) (known : List (Option Bool)) (names : List (List ℕ)) (power : Option (List ℕ)) → first_misfit (begun n known) names power ≡ first_misfit n names power
misfit_same n known names None = refl
misfit_same n known names (Some word) =
    ap (λ (k : ℕ). named_misfit misfit.Unknown (first_missing names (input_names n)) or_else named_misfit misfit.Missing (first_missing (input_names n) names)
    or_else (if (length word == k) && list_all (λ digit. (digit == 48) || (digit == 49)) word then None else Some misfit.Power)) (begun_long n.latches known)

word_same : (n : NetView) (known : List (Option Bool)) (power : Option (List ℕ)) → word_bits (begun n known) power ≡ word_bits n power
word_same n known None = rw (begun_long n.latches known) refl
word_same n known (Some word) = refl

module _ (n : NetView) (first : List (List ℕ)) (before : List (List Bool)) (wide : All (λ (row : List Bool). length row ≡ length first) before) (names : List (List ℕ)) (rows : List (List Bool)) (power : Option (List ℕ))
    (fits : first_misfit n names power ≡ None) where
  module _ (known : List (Option Bool)) (start : NetView) (is : IsBegun n first before known start) (run : ℕ → ℕ → Bool) (over : RunsOver n first before names rows known (word_bits n power) run) (some : 0 < length rows) where
    abbrev tail : ℕ → ℕ → Bool
    tail s = run (s + length before)

    begins : BeginsWith (circuit_of n) is.are_known.columns before run
    begins = begins_with first before wide n is.are_known.columns is.are_known.are_columns run (λ t i row name bit p low. over.begins t i row name bit p)

    here : (p : ℕ) → tail 0 p ≡ run (length before) p
    here p = ap (λ s. run s p) (let e : 0 + length before ≡ length before = omega arith in e)

    given : (j : ℕ) (l : LatchAt) (bit : Bool) → slice_get n.latches j ≡ Some l → slice_get known j ≡ Some (Some bit) → tail 0 l.out.0 ≡ bit
    given j l bit at k =
        here l.out.0 ∙ known_is_run (circuit_of n) is.are_known.columns before (length rows + length before) run over.is_run begins (is.are_known.each j l bit at k) (omega (arith, some))

    pub simulated : IsSimulated (begun n known) names rows (power_of (begun n known) power true) tail
    simulated = record {
      is_run = subst (λ (c : Circuit ℕ). IsRun c (length rows) tail) (sym (begun_circuit n known)) (rest_run (circuit_of n) (begun_starts n known) (length rows + length before) (length rows) (length before) run over.is_run (omega arith));
      powers_up = powers n.latches known (word_bits n power) (tail 0) is.each (length-word n power (no_misfit n names power fits).power_fits) given (λ j l bit at k b. here l.out.0 ∙ over.free j l bit at k b)
          ∙ ap (λ (bits : List Bool). reset_bits (begun n known).latches bits) (sym (word_same n known power));
      takes = λ t k row bit port at b stands name. over.takes t k row bit port at b stands name;
    }

  -- so the report from initial values tells of it
  pub reported : (known : List (Option Bool)) (start : NetView) (told report : List ℕ) → first_misfit n first None ≡ None → IsBegun n first before known start → Simulates Plain start names rows power true (Ok told) →
      report ≡ after_line (length before) ++ unknown_line (codes "unknown A ") start known ++ told → IsReportBehind n first before names rows power report
  reported known start told report fits_first is simulates written = record {
    fits_first = fits_first;
    fits = fits;
    known = known;
    start = start;
    begun = is;
    told = told;
    is_report = simulates.1.0;
    report_is = written;
    behind = λ run over t shown at.
        let within = slice_get_within simulates.1.0.cycles t shown at in
        simulates.1.0.shown (tail known start is run over (omega (arith, within, simulates.1.0.each)))
        (subst (λ (m : NetView). IsSimulated m names rows (power_of m power true) (tail known start is run over (omega (arith, within, simulates.1.0.each)))) (sym is.is) (simulated known start is run over (omega (arith, within, simulates.1.0.each)))) t shown at;
  }

-- where it fits the net that begins, it fits the net
pub fits_net : (n start : NetView) (first : List (List ℕ)) (before : List (List Bool)) (known : List (Option Bool)) (names : List (List ℕ)) (power : Option (List ℕ)) (o : Option Misfit) → IsBegun n first before known start → first_misfit start names power ≡ o → first_misfit n names power ≡ o
fits_net n start first before known names power o is e = sym (misfit_same n known names power) ∙ (ap (λ (m : NetView). first_misfit m names power) (sym is.is) ∙ e)

-- why there is no report
pub unreported : (n start : NetView) (first : List (List ℕ)) (before : List (List Bool)) (known : List (Option Bool)) (names : List (List ℕ)) (rows : List (List Bool)) (power : Option (List ℕ)) (e : SimulateError) →
    first_misfit n first None ≡ None → IsBegun n first before known start → Simulates Plain start names rows power true (Err e) → RunsBehind n first before names rows power (Err e)
unreported n start first before known names rows power (refused.Misfit m) fits is h = inr (fits, fits_net n start first before known names power (Some m) is h)
unreported n start first before known names rows power refused.TooLarge fits is h = absurd h.1
unreported n start first before known names rows power (refused.Limit name proof) fits is h = absurd h.1
unreported n start first before known names rows power refused.NoMemory fits is h = tt

-- the refusal as it is handed on
pub refused_run : (n : NetView) (first : List (List ℕ)) (before : List (List Bool)) (names : List (List ℕ)) (rows : List (List Bool)) (power : Option (List ℕ)) (r : Result (List ℕ) SimulateError) (e : SimulateError) → IsErrAnd r (λ f. f ≡ e) →
    RunsBehind n first before names rows power (Err e) → RunsBehind n first before names rows power r
refused_run n first before names rows power (Ok report) e is h = absurd is
refused_run n first before names rows power (Err f) e is h = subst (λ (g : SimulateError). RunsBehind n first before names rows power (Err g)) (sym is) h

pub none_of : (o : Option Misfit) → ((m : Misfit) → o ≡ Some m → ⊥) → o ≡ None
none_of None h = refl
none_of (Some m) h = absurd (h m refl)

-- there is a value for each latch of the net that begins
pub long : (n start : NetView) (first : List (List ℕ)) (before : List (List Bool)) (known : List (Option Bool)) → IsBegun n first before known start → length known ≡ length start.latches
long n start first before known is = is.each ∙ sym (ap (λ (m : NetView). length m.latches) is.is ∙ begun_long n.latches known)
