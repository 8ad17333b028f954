-- Two latches with load enables of their own, as two texts spell them.
use Rattle.std.specs.Prelude.{ℕ, true, false, List, [], ◌∷◌, None, codes}
use Rattle.circuit_theory.specs.Cover.{Cover}
use Rattle.sec_base.specs.declared.basics.Init.TheVariants as init
use Rattle.blif_read.specs.declared.design.BlifModel.{BlifModel}
use Rattle.blif_read.specs.declared.design.Statement.TheVariants.{Names, Latch}
use Rattle.pair_texts.specs.design_rows.Designs.{one_model}

-- the second input where the first is 1, and else the third: by the rows where that is 1, and by those where it is 0
abbrev pub on_load : Cover
on_load = record { width = 3; rows = codes "11-" ∷ codes "0-1" ∷ []; on = true }

abbrev pub off_load : Cover
off_load = record { width = 3; rows = codes "10-" ∷ codes "0-0" ∷ []; on = false }

-- an and by the rows where it is 0
abbrev pub off_and_cover : Cover
off_and_cover = record { width = 2; rows = codes "0-" ∷ codes "-0" ∷ []; on = false }

-- One input is loaded into a latch where a second one is 1, and into another latch where a third one is; the output is the and of both.
abbrev pub loading : Cover → Cover → List BlifModel
loading load both = one_model (codes "e" ∷ codes "f" ∷ codes "x" ∷ []) (codes "y" ∷ [])
    (Names 4 (codes "e" ∷ codes "x" ∷ codes "q" ∷ []) (codes "n") load ∷ Latch 7 (codes "n") (codes "q") None None init.Unknown
    ∷ Names 8 (codes "f" ∷ codes "x" ∷ codes "r" ∷ []) (codes "k") load ∷ Latch 11 (codes "k") (codes "r") None None init.Unknown
    ∷ Names 12 (codes "q" ∷ codes "r" ∷ []) (codes "y") both ∷ [])

abbrev pub on_loads : List ℕ
on_loads = codes ".model m\n.inputs e f x\n.outputs y\n.names e x q n\n11- 1\n0-1 1\n.latch n q\n.names f x r k\n11- 1\n0-1 1\n.latch k r\n.names q r y\n11 1\n.end\n"

abbrev pub off_loads : List ℕ
off_loads = codes ".model m\n.inputs e f x\n.outputs y\n.names e x q n\n10- 0\n0-0 0\n.latch n q\n.names f x r k\n10- 0\n0-0 0\n.latch k r\n.names q r y\n0- 0\n-0 0\n.end\n"
