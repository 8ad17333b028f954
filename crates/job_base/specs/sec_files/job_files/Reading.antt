-- What is held at paths, and what is true where a read of one failed.
use Rattle.std.specs.Prelude.{ℕ, List, Option, IfSome}
use Rattle.flat_net.specs.View.{NetView}
use Rattle.job_base.specs.sec_files.Loading.{Loads}
use Rattle.job_base.specs.Reading.{ReadFailedAfter}

-- the bytes that are held at a path, where they are told
abbrev pub Held : Type 0
Held = List ℕ → Option (List ℕ)

-- the circuit's text loads
abbrev pub IsLoaded : Option (List ℕ) → Type 0
IsLoaded circuit = IfSome circuit (λ x. (net : NetView) × Loads x net)

-- A read of one of these paths failed, and the circuits that are fetched before it load.
abbrev pub ReadFailed : Held → (List ℕ → ℕ) → (List ℕ → ℕ) → List (List ℕ) → Type 0
ReadFailed held before now paths = ReadFailedAfter IsLoaded held before now paths
