-- Small designs, as the texts that are worked in the documents spell them.
use Rattle.std.specs.Prelude.{ℕ, true, false, List, [], ◌∷◌, None, codes}
use Rattle.circuit_theory.specs.Cover.{Cover}
use Rattle.sec_base.specs.declared.basics.Init.TheVariants as init
use Rattle.blif_read.specs.declared.design.BlifModel.{BlifModel}
use Rattle.blif_read.specs.declared.design.Statement.{Statement}
use Rattle.blif_read.specs.declared.design.Statement.TheVariants.{Names, Latch, Subckt}

-- the design of one model
abbrev pub one_model : List (List ℕ) → List (List ℕ) → List Statement → List BlifModel
one_model inputs outputs statements = record { name = codes "m"; inputs = inputs; outputs = outputs; clocks = []; statements = statements } ∷ []

-- an and by its one row
abbrev pub and_cover : Cover
and_cover = record { width = 2; rows = codes "11" ∷ []; on = true }

-- one input as it is, and turned
abbrev pub same_cover : Cover
same_cover = record { width = 1; rows = codes "1" ∷ []; on = true }

abbrev pub not_cover : Cover
not_cover = record { width = 1; rows = codes "0" ∷ []; on = true }

-- an and by the row where it is 1
abbrev pub on_and : List BlifModel
on_and = one_model (codes "a" ∷ codes "b" ∷ []) (codes "y" ∷ []) (Names 4 (codes "a" ∷ codes "b" ∷ []) (codes "y") and_cover ∷ [])

-- an and by the rows where it is 0
abbrev pub off_and : List BlifModel
off_and = one_model (codes "a" ∷ codes "b" ∷ []) (codes "y" ∷ []) (Names 4 (codes "a" ∷ codes "b" ∷ []) (codes "y") (record { width = 2; rows = codes "0-" ∷ codes "-0" ∷ []; on = false }) ∷ [])

-- an and, and a latch behind it
abbrev pub late : List BlifModel
late = one_model (codes "a" ∷ codes "b" ∷ []) (codes "y" ∷ [])
    (Names 4 (codes "a" ∷ codes "b" ∷ []) (codes "n") and_cover ∷ Latch 6 (codes "n") (codes "y") None None init.Unknown ∷ [])

-- the same retimed: a latch at each input, and the and behind them
abbrev pub early : List BlifModel
early = one_model (codes "a" ∷ codes "b" ∷ []) (codes "y" ∷ [])
    (Latch 4 (codes "a") (codes "p") None None init.Unknown ∷ Latch 5 (codes "b") (codes "q") None None init.Unknown
    ∷ Names 6 (codes "p" ∷ codes "q" ∷ []) (codes "y") and_cover ∷ [])

-- a latch that takes over its own value, turned
abbrev pub toggle : List BlifModel
toggle = one_model [] (codes "y" ∷ [])
    (Names 3 (codes "q" ∷ []) (codes "n") not_cover ∷ Latch 5 (codes "n") (codes "q") None None init.Unknown ∷ Names 6 (codes "q" ∷ []) (codes "y") same_cover ∷ [])

-- two latches in a row
abbrev pub two : List BlifModel
two = one_model (codes "a" ∷ []) (codes "y" ∷ []) (Latch 4 (codes "a") (codes "p") None None init.Unknown ∷ Latch 5 (codes "p") (codes "y") None None init.Unknown ∷ [])

-- a latch that feeds no output, beside an output that is an input
abbrev pub idle : List BlifModel
idle = one_model (codes "a" ∷ []) (codes "y" ∷ []) (Latch 4 (codes "a") (codes "q") None None init.Unknown ∷ Names 5 (codes "a" ∷ []) (codes "y") same_cover ∷ [])

-- two latches that take over each other
abbrev pub ring : List BlifModel
ring = one_model [] (codes "y" ∷ [])
    (Latch 3 (codes "q") (codes "p") None None init.Unknown ∷ Latch 4 (codes "p") (codes "q") None None init.Unknown ∷ Names 5 (codes "p" ∷ []) (codes "y") same_cover ∷ [])

-- an and inside of an instance, and a latch behind it
abbrev pub hier : List BlifModel
hier = record {
  name = codes "top";
  inputs = codes "a" ∷ codes "b" ∷ [];
  outputs = codes "y" ∷ [];
  clocks = [];
  statements = Subckt 4 (codes "g") (record { formal = codes "u"; actual = codes "a" } ∷ record { formal = codes "v"; actual = codes "b" } ∷ record { formal = codes "w"; actual = codes "n" } ∷ [])
      ∷ Latch 5 (codes "n") (codes "y") None None init.Unknown ∷ [];
} ∷ record {
  name = codes "g";
  inputs = codes "u" ∷ codes "v" ∷ [];
  outputs = codes "w" ∷ [];
  clocks = [];
  statements = Names 10 (codes "u" ∷ codes "v" ∷ []) (codes "w") and_cover ∷ [];
} ∷ []

-- one of two inputs, but not both
abbrev pub xor_cover : Cover
xor_cover = record { width = 2; rows = codes "10" ∷ codes "01" ∷ []; on = true }

-- a latch inside of an instance, which turns where the input is 1, and a latch behind the instance
abbrev pub nested : List BlifModel
nested = record {
  name = codes "top";
  inputs = codes "a" ∷ [];
  outputs = codes "y" ∷ [];
  clocks = [];
  statements = Subckt 4 (codes "cell") (record { formal = codes "i"; actual = codes "a" } ∷ record { formal = codes "o"; actual = codes "m" } ∷ []) ∷ Latch 5 (codes "m") (codes "y") None None init.Unknown ∷ [];
} ∷ record {
  name = codes "cell";
  inputs = codes "i" ∷ [];
  outputs = codes "o" ∷ [];
  clocks = [];
  statements =
      Names 10 (codes "i" ∷ codes "q" ∷ []) (codes "n") xor_cover ∷ Latch 13 (codes "n") (codes "q") None None init.Unknown ∷ Names 14 (codes "q" ∷ []) (codes "o") same_cover ∷ [];
} ∷ []
