-- A call that is counted changes nothing else of a shelf in memory.
use Rattle.std.proofs.Common.{◌≡◌, ◌≢◌, ◌∙◌, ◌<◌, ℕ, List, [], Option, Some, None, Contains, length, get_or, refl, sym, ap, subst, arith}
use Rattle.std.specs.Prelude.{IsSome, IfSome, option_map, String, string_bytes, string_cmp}
use Rattle.std.specs.BTreeMap.{BTreeMap, get_by, get_by_text, is_at}
use Rattle.std.specs.Cmp.Lexicographic.{slice_cmp}
use Rattle.std.specs.Map.{lookup}
use Rattle.std.specs.Ordering.{nat_cmp}
use Rattle.std.proofs.lemmas.Option.{slice_get-get_or, get_or_from_slice_get}
use Rattle.base_shelves.specs.declared.mem_shelf.HeldFile.{HeldFile}
use Rattle.base_shelves.specs.declared.mem_shelf.MemShelf.{MemShelf}
use Rattle.base_shelves.specs.Outside.{Gives}
use Rattle.base_shelves.specs.MemShelf.{held_by, faults_of, next_call}

module _ (before now : MemShelf) (same : now ≡ record before { calls = next_call before }) where
  pub holds : (path : List ℕ) → held_by now path ≡ held_by before path
  holds path = ap (λ (s : MemShelf). held_by s path) same

  pub counts : (path : List ℕ) → faults_of now path ≡ faults_of before path
  counts path = ap (λ (s : MemShelf). faults_of s path) same

  pub fails_same : now.fails ≡ before.fails
  fails_same = ap (λ (s : MemShelf). s.fails) same

  pub more_same : now.more ≡ before.more
  more_same = ap (λ (s : MemShelf). s.more) same

  pub calls_are : now.calls ≡ next_call before
  calls_are = ap (λ (s : MemShelf). s.calls) same

  module _ (path : List ℕ) where
    held_file : (file : HeldFile) → Some file ≡ get_by_text now.files path → Some file.bytes ≡ held_by before path
    held_file file found = ap (option_map (λ (f : HeldFile). f.bytes)) found ∙ holds path

    pub is_held : (file : HeldFile) → Some file ≡ get_by_text now.files path → IsSome (held_by before path)
    is_held file found = subst (λ (o : Option (List ℕ)). IsSome o) (held_file file found) refl

    pub not_held : None ≡ get_by_text now.files path → IsSome (held_by before path) → ⊥
    not_held none some =
        let wrong : IsSome (option_map (λ (f : HeldFile). f.bytes) None) = subst (λ (o : Option (List ℕ)). IsSome o) (sym (ap (option_map (λ (f : HeldFile). f.bytes)) none ∙ holds path)) some in
        cc

    -- what is read of the file is read of what is held
    pub gives_here : (file : HeldFile) (bytes : List ℕ) (from count : ℕ) (room : List ℕ) → Some file ≡ get_by_text now.files path → bytes ≡ file.bytes → Gives bytes from count room → IfSome (held_by before path) (λ held. Gives held from count room)
    gives_here file bytes from count room found is gives =
        subst (λ (o : Option (List ℕ)). IfSome o (λ held. Gives held from count room)) (held_file file found) (subst (λ (held : List ℕ). Gives held from count room) is gives)

-- where no call is told, none fails
pub none_told : (fails : List ℕ) (number : ℕ) → fails ≡ [] → Contains fails number → ⊥
none_told fails number none told = let has = subst (λ (fs : List ℕ). Contains fs number) none told in omega (arith, has.1)

-- a number that stands at a place is among the numbers
pub at_call : (calls : List ℕ) (number k : ℕ) → k < length calls → get_or calls k 0 ≡ number → Contains calls number
at_call calls number k inside here = (k, inside, get_or_from_slice_get calls k number number (slice_get-get_or calls k 0 inside ∙ ap Some here))

-- one that stands at no place isn't
pub no_call : (calls : List ℕ) (number : ℕ) → ((k : ℕ) → k < length calls → get_or calls k 0 ≢ number) → Contains calls number → ⊥
no_call calls number other (k, inside, here) = other k inside (get_or_from_slice_get calls k number 0 (slice_get-get_or calls k number inside ∙ ap Some here))

module _ {Y : Type 0} where
  -- entries that stay give each path what they gave
  pub same_entries : {X : Type 0} (before now : BTreeMap (String Y) X) → now.entries ≡ before.entries → (path : List ℕ) → get_by_text now path ≡ get_by_text before path
  same_entries {X} before now same path = ap (λ (es : List (String Y × X)). lookup (is_at (λ (k : String Y). slice_cmp nat_cmp path (string_bytes k))) es) same

  -- what was put at a path is held there
  pub put_here : (files : BTreeMap (String Y) HeldFile) (key : String Y) (path bytes : List ℕ) (file : HeldFile) → get_by (string_cmp key) files ≡ Some file → string_bytes key ≡ path → file.bytes ≡ bytes → option_map (λ f. f.bytes) (get_by_text files path) ≡ Some bytes
  put_here files key path bytes file here is same = ap (option_map (λ (f : HeldFile). f.bytes)) (ap (get_by_text files) (sym is) ∙ here) ∙ ap Some same
