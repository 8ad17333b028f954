-- Reads that failed, and what is held.
use Rattle.std.specs.Prelude.{IfSome, IsSomeAnd}
use Rattle.std.proofs.Common.{◌≡◌, ℕ, ◌≤◌, List, ◌∷◌, refl, subst, arith, Option, Some, None}
use Rattle.base_shelves.specs.Outside.{Rose}
use Rattle.flat_net.specs.View.{NetView}
use Rattle.job_base.specs.sec_files.Loading.{Loads}
use Rattle.job_base.proofs.Reading.{first_read_failed, second_read_failed}
use Rattle.job_base.specs.sec_files.job_files.Reading.{IsLoaded, Held, ReadFailed}

-- the first read failed
pub first_failed : (held : Held) (before now : List ℕ → ℕ) (path : List ℕ) (paths : List (List ℕ)) → Rose (before path) (now path) → ReadFailed held before now (path ∷ paths)
first_failed held before now path paths rose = first_read_failed IsLoaded held before now path paths rose

-- the first circuit is loaded, and the read behind it failed
pub second_failed : (held : Held) (before now : List ℕ → ℕ) (first path : List ℕ) (paths : List (List ℕ)) → IsLoaded (held first) → Rose (before path) (now path) → ReadFailed held before now (first ∷ path ∷ paths)
second_failed held before now first path paths loaded rose = second_read_failed IsLoaded held before now first path paths loaded rose

pub is_loaded : (circuit : Option (List ℕ)) (net : NetView) → IfSome circuit (λ x. Loads x net) → IsLoaded circuit
is_loaded None net l = tt
is_loaded (Some x) net l = (net, l)

-- a count that rose from a later value rose from an earlier one
pub rose_before : (a b c : ℕ) → a ≤ b → Rose b c → Rose a c
rose_before a b c h r = omega arith

pub some_and : {X : Type 0} (o : Option X) (P : X → Type 0) → IsSomeAnd o P → (x : X) × (o ≡ Some x) × P x
some_and None P h = absurd h
some_and (Some x) P h = (x, refl, h)

pub if_told : {X : Type 0} (o : Option X) (P : X → Type 0) (x : X) → o ≡ Some x → IfSome o P → P x
if_told {X} o P x e h = let Q : Option X → Type 0 = λ p. IfSome p P in subst Q e h
