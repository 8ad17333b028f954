-- What is said of the texts that a job fetches, and of the nets that they load as. A text is given where it is told, and each that is told
-- counts, also where another isn't.
use Rattle.std.specs.Prelude.{ℕ, List, Option, IfSome}
use Rattle.flat_net.specs.View.{NetView}
use Rattle.job_base.specs.declared.finding.File.{File}
use Rattle.job_base.specs.declared.finding.File.TheVariants as file
use Rattle.job_base.specs.sec_files.Loading.{Loads}
use Rattle.job_base.specs.sec_files.job_files.Reading.{IsLoaded}

-- both texts load, and this is said of them
pub record OfTexts (left right : Option (List ℕ)) (P : List ℕ → List ℕ → Type 0) : Type 0 where
  pub left_loads : IsLoaded left
  pub right_loads : IsLoaded right
  pub said : IfSome left (λ x. IfSome right (λ y. P x y))

-- so of three
pub record OfThreeTexts (left right assumed : Option (List ℕ)) (P : List ℕ → List ℕ → List ℕ → Type 0) : Type 0 where
  pub left_loads : IsLoaded left
  pub right_loads : IsLoaded right
  pub assumed_loads : IsLoaded assumed
  pub said : IfSome left (λ x. IfSome right (λ y. IfSome assumed (λ z. P x y z)))

-- what is said of the nets that two texts load as
pub record OfNets (left right : Option (List ℕ)) (P : NetView → NetView → Type 0) : Type 0 where
  pub a : NetView
  pub b : NetView
  pub left_loads : IfSome left (λ x. Loads x a)
  pub right_loads : IfSome right (λ y. Loads y b)
  pub said : P a b

-- and of those of three
pub record OfThreeNets (left right assumed : Option (List ℕ)) (P : NetView → NetView → NetView → Type 0) : Type 0 where
  pub a : NetView
  pub b : NetView
  pub c : NetView
  pub left_loads : IfSome left (λ x. Loads x a)
  pub right_loads : IfSome right (λ y. Loads y b)
  pub assumed_loads : IfSome assumed (λ z. Loads z c)
  pub said : P a b c

-- what is said of a circuit's text; B is looked at only where A loads, and there is no assumption and no stimulus
abbrev pub OfCircuit : Option (List ℕ) → Option (List ℕ) → File → (List ℕ → Type 0) → Type 0
OfCircuit left right file.A P = IfSome left P
OfCircuit left right file.B P = IsLoaded left × IfSome right P
OfCircuit left right file.C P = ⊥
OfCircuit left right file.S P = ⊥
