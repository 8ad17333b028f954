-- The text of a frame.
use Rattle.std.specs.Prelude.{◌≡◌, ℕ, true, List, [], ◌∷◌, ◌++◌, codes, refl}
use Rattle.std.specs.Fmt.{decimal}
use Rattle.std.specs.List.{flat_map}
use Rattle.sec_base.specs.Texts.{digit_of}
use Rattle.witness_report.specs.declared.frame_report.frame.Frame.{Frame}
use Rattle.witness_report.specs.declared.frame_report.frame.Spot.{Spot}

-- a step to an event node, by its class
abbrev pub step_text : ℕ → List ℕ
step_text class = 47 ∷ decimal class

-- an event node, by the steps to it from the root
abbrev pub path_text : List ℕ → List ℕ
path_text [] = codes "/"
path_text (class ∷ classes) = flat_map step_text (class ∷ classes)

-- the value of an input at an event node
abbrev pub spot_line : Spot → List ℕ
spot_line s = codes "at " ++ path_text s.path ++ 32 ∷ [] ++ s.input ++ 32 ∷ [] ++ digit_of s.bit ∷ [] ++ 10 ∷ []

-- a line for each variable, in order
unfoldable pub frame_text : Frame → List ℕ
frame_text f = flat_map spot_line f.spots

-- an input at the root
example : frame_text (record { spots = record { path = []; input = codes "e"; bit = true } ∷ [] }) ≡ codes "at / e 1\n"
unfolding frame_text
example = refl
