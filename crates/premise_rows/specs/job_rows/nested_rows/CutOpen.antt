-- What meets the premises of what is said of two texts where latches are cut open.
use Rattle.std.specs.Prelude.{ℕ, List, ◌∷◌, Option, codes}
use Rattle.circuit_theory.specs.declared.Mode.TheVariants.{Plain}
use Rattle.circuit_theory.specs.Agree.{IsMinimalCut}
use Rattle.circuit_theory.specs.Circuit.{Circuit}
use Rattle.blif_read.specs.Design.{Place}
use Rattle.job_base.specs.sec_files.Loading.{IsAccepted, SpellsCircuit}
use Rattle.premise_rows.specs.job_rows.nested_rows.Cutting.{MeetsOnward, IsObeyed, turning}
use Rattle.pair_texts.specs.design_rows.Texts.{nested}

-- The text is accepted, and the latch inside of the instance is a minimal cut of what it spells and itself. Two runs of that meet what
-- agreement onward over this latch asks for. With it cut out each sequence over it and the input is obeyed.
abbrev pub NestedIsCutOpen : Type 0
NestedIsCutOpen = IsAccepted nested × ((clock : Option (List ℕ)) (d : Circuit Place) → SpellsCircuit nested clock d →
    IsMinimalCut Plain d d turning × MeetsOnward turning d d × IsObeyed turning d (codes "a" ∷ turning))
