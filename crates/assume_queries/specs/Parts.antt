-- Some of several functions, by their numbers.
use Rattle.std.specs.Prelude.{ℕ, List, [], ◌∷◌, ◌++◌, map, slice_index_or}
use Rattle.aig.specs.declared.node.Lit.{Lit}
use Rattle.cbf_unfold.specs.declared.unfold_places.signal_function.Unfolded.{Unfolded}

-- the function with the number, and the constant 0 where there is none
abbrev pub function_at : List Unfolded → ℕ → Unfolded
function_at functions n = slice_index_or functions n (record { lit = record { 0 = 0 }; vars = [] })

abbrev pub literals_at : List Unfolded → List ℕ → List Lit
literals_at functions own = map (λ n. (function_at functions n).lit) own

-- their variables, one function's behind the other's
abbrev pub variables_at : List Unfolded → List ℕ → List ℕ
variables_at functions [] = []
variables_at functions (n ∷ own) = (function_at functions n).vars ++ variables_at functions own
