-- Three latches with initial values, from their text.
use Rattle.std.proofs.Common.{◌≡◌, ◌∙◌, ◌≤◌, ℕ, Bool, true, false, List, [], ◌∷◌, map, length, replicate, Some, None, refl, sym, ap, subst, arith}
use Rattle.std.specs.Prelude.{codes}
use Rattle.std.proofs.lemmas.List.{length-map}
use Rattle.sec_base.specs.declared.basics.Init.{Init}
use Rattle.sec_base.specs.declared.basics.Init.TheVariants as init
use Rattle.blif_read.specs.blif_lines.Lines.{cut_line, going_on}
use Rattle.blif_read.specs.Fault.{fault_of}
use Rattle.blif_read.specs.Heads.{head_of}
use Rattle.blif_read.specs.Reading.{first_fault, spelled}
use Rattle.blif_read.specs.Design.{walk}
use Rattle.blif_read.specs.declared.design.BlifModel.{BlifModel}
use Rattle.blif_read.specs.declared.design.Statement.TheVariants.{Latch}
use Rattle.flat_net.specs.declared.parts.LatchAt.{LatchAt}
use Rattle.flat_net.specs.View.{NetView}
use Rattle.flatten.specs.DesignFaults.{IsSoundDesign, inits_of}
use Rattle.pair_texts.specs.design_rows.NoFault.{has_no_fault}
use Rattle.pair_texts.proofs.design_rows.NoFaults.{tested_is_sound}
use Rattle.pair_texts.specs.design_rows.Designs.{one_model}
use Rattle.cycle_sim.specs.Runs.{initial_or, reset_bits}
use Rattle.circuit_report.specs.sim_report.Checks.{power_of}
use Rattle.job_base.specs.sec_files.Formats.{Blif}
use Rattle.job_base.specs.sec_files.Loading.{Loads}
use Rattle.job_base.proofs.sec_files.Texts.{text_net}
use Rattle.premise_rows.specs.job_rows.Started.{StartedPowersUp}
use Rattle.pair_texts.specs.design_rows.Texts.{started}

abbrev started_design : List BlifModel
started_design =
    one_model (codes "a" ∷ []) (codes "p" ∷ codes "q" ∷ codes "r" ∷ [])
    (Latch 4 (codes "a") (codes "p") None None init.One ∷ Latch 5 (codes "a") (codes "q") None None init.Zero ∷ Latch 6 (codes "a") (codes "r") None None init.DontCare ∷ [])

short : length started ≤ 16777216
short = omega arith

faultless : first_fault started ≡ None
unfolding fault_of head_of cut_line going_on
faultless = refl

spells : spelled started ≡ started_design
unfolding fault_of head_of cut_line going_on
spells = refl

sound : has_no_fault [] started_design ≡ true
unfolding walk
sound = refl

initial_values : inits_of started_design ≡ init.One ∷ init.Zero ∷ init.DontCare ∷ []
unfolding walk
initial_values = refl

-- the bits by the initial values alone
bits_by : List Init → List Bool → List Bool
bits_by (i ∷ inits) (bit ∷ bits) = initial_or i bit ∷ bits_by inits bits
bits_by inits bits = []

reset_by : (latches : List LatchAt) (bits : List Bool) → reset_bits latches bits ≡ bits_by (map (λ l. l.init) latches) bits
unfolding bits_by
reset_by [] bits = refl
reset_by (l ∷ latches) [] = refl
reset_by (l ∷ latches) (bit ∷ bits) = ap (λ (bs : List Bool). initial_or l.init bit ∷ bs) (reset_by latches bits)

module _ (net : NetView) (loads : Loads started net) where
  inits : map (λ (l : LatchAt). l.init) net.latches ≡ init.One ∷ init.Zero ∷ init.DontCare ∷ []
  inits = (text_net started net loads Blif refl).inits ∙ (ap inits_of spells ∙ initial_values)

  count : length net.latches ≡ 3
  count = sym (length-map net.latches (λ (l : LatchAt). l.init)) ∙ ap length inits

  without : power_of net None true ≡ true ∷ false ∷ false ∷ []
  unfolding bits_by
  without =
      reset_by net.latches (replicate (length net.latches) false)
      ∙ (ap (λ (k : ℕ). bits_by (map (λ (l : LatchAt). l.init) net.latches) (replicate k false)) count ∙ ap (λ (is : List Init). bits_by is (false ∷ false ∷ false ∷ [])) inits)

  with_word : power_of net (Some (codes "011")) true ≡ true ∷ false ∷ true ∷ []
  unfolding bits_by
  with_word = reset_by net.latches (false ∷ true ∷ true ∷ []) ∙ ap (λ (is : List Init). bits_by is (false ∷ true ∷ true ∷ [])) inits

pub started_powers_up : StartedPowersUp
started_powers_up = record {
  accepted = record { short = short; faultless = faultless; sound = subst IsSoundDesign (sym spells) (tested_is_sound [] started_design sound) };
  without_word = without;
  with_word = with_word;
}
