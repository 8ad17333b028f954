-- What a walk over a design gives.
use Rattle.std.specs.Prelude.{◌≡◌, List, All, None}
use Rattle.blif_read.specs.declared.design.BlifModel.{BlifModel}
use Rattle.elaborate.specs.declared.flat.Flat.{Flat}
use Rattle.elaborate.specs.Flat.{IsShaped, name_at, named, view_of, flat_design_of}
use Rattle.elaborate.specs.Walking.{design_walk_fault}

-- the walk meets no fault, and the numbered statements are the design's
pub record IsWalked (models : List BlifModel) (flat : Flat) : Type 0 where
  pub faultless : design_walk_fault models ≡ None
  pub same : named (name_at flat.names) (view_of models flat) ≡ flat_design_of models
  pub shaped : All IsShaped (view_of models flat).statements
