-- The text whose latch on a cycle lies inside of an instance.
use Rattle.std.proofs.Common.{◌≡◌, ◌∙◌, ℕ, List, [], ◌∷◌, length, Option, Some, None, refl, sym, ap, ap₂, subst, arith}
use Rattle.std.specs.Prelude.{codes}
use Rattle.circuit_theory.specs.declared.Mode.TheVariants.{Plain}
use Rattle.circuit_theory.specs.Agree.{IsMinimalCut}
use Rattle.circuit_theory.specs.Circuit.{Circuit}
use Rattle.blif_read.specs.blif_lines.Lines.{cut_line, going_on}
use Rattle.blif_read.specs.declared.design.BlifModel.{BlifModel}
use Rattle.blif_read.specs.Design.{Place, clock_places, walk, circuit_of_design, IsClock}
use Rattle.blif_read.specs.Fault.{fault_of}
use Rattle.blif_read.specs.Heads.{head_of}
use Rattle.job_base.specs.sec_files.Loading.{SpellsCircuit}
use Rattle.premise_rows.specs.job_rows.nested_rows.Cutting.{MeetsOnward, IsObeyed, turning, nested_circuit}
use Rattle.pair_texts.specs.design_rows.Designs as design
use Rattle.pair_texts.specs.design_rows.Small.{small_nested}
use Rattle.premise_rows.proofs.job_rows.nested_rows.Nested.{nested_is_small, nested_is_cut, nested_meets_onward, nested_is_obeyed}
use Rattle.premise_rows.specs.job_rows.nested_rows.CutOpen.{NestedIsCutOpen}
use Rattle.pair_texts.specs.design_rows.Texts.{nested}
use Rattle.pair_texts.proofs.design_rows.Spelling.{Spells, accepted}

spells : Spells nested design.nested small_nested
unfolding fault_of head_of cut_line going_on
spells = record { short = omega arith; format = refl; faultless = refl; models_are = refl; small = nested_is_small }

no_places : clock_places design.nested ≡ []
unfolding walk
no_places = refl

-- where no place is clocked there is no clock
no_clock : (models : List BlifModel) (clock : Option (List ℕ)) → IsClock models clock → clock_places models ≡ [] → clock ≡ None
no_clock models None is none = refl
no_clock models (Some k) is none = absurd (let l = is.0 in let e = ap length none in omega (arith, l, e))

circuit_is : (clock : Option (List ℕ)) (d : Circuit Place) → SpellsCircuit nested clock d → nested_circuit ≡ d
circuit_is clock d s =
    let none = no_clock design.nested clock (subst (λ (ms : List BlifModel). IsClock ms clock) spells.models_are s.is_clock) no_places in
    sym (s.is_circuit ∙ ap₂ circuit_of_design spells.models_are none)

pub nested_is_cut_open : NestedIsCutOpen
nested_is_cut_open = (
  accepted nested design.nested small_nested spells,
  λ clock d s. (
    subst (λ (k : Circuit Place). IsMinimalCut Plain k k turning) (circuit_is clock d s) nested_is_cut,
    subst (λ (k : Circuit Place). MeetsOnward turning k k) (circuit_is clock d s) nested_meets_onward,
    subst (λ (k : Circuit Place). IsObeyed turning k (codes "a" ∷ turning)) (circuit_is clock d s) nested_is_obeyed,
  ),
)
