-- A flattening of a design with its places numbered is one of the design.
use Rattle.std.proofs.Common.{◌≡◌, ℕ, ◌<◌, List, map, sym, ◌∙◌, ap, subst, Some, slice_get}
use Rattle.std.specs.List.{Contains}
use Rattle.std.proofs.lemmas.List.Elements.{All-contains}
use Rattle.circuit_theory.specs.Circuit.{Circuit, Equation, Port, Named}
use Rattle.circuit_theory.specs.Joined.{moved, moved_name}
use Rattle.circuit_theory.specs.Flattened.{IsFlattened, Follows}
use Rattle.circuit_theory.specs.Places.{IsPlace}
use Rattle.circuit_theory.proofs.Lists.{map-map, Contains-map, of_at}
use Rattle.base_tables.proofs.TableLemmas.{key_at}
use Rattle.elaborate.specs.Renaming.{IsRenaming}
use Rattle.elaborate.proofs.Renamed.{marks_down, renamed_is_flattened, renamed_places}

-- what leads to a number leads to its place
pub follows_moved : {P : Type 0} (d : Circuit P) (mid : Circuit ℕ) (size : ℕ) (origin : ℕ → P) (number : P → ℕ) → IsRenaming d mid size origin number → {p q : ℕ} → Follows mid p q → Follows d (origin p) (origin q)
follows_moved {P} d mid size origin number r Follows.here = Follows.here
follows_moved {P} d mid size origin number r (Follows.there {p = p} {from = from} at rest) =
    Follows.there (subst (λ (es : List (Equation P)). Contains es (Port (origin p) (origin from))) r.equations (Contains-map (moved origin) mid.equations (Port p from) at)) (follows_moved d mid size origin number r rest)

-- A flattening `source` of the numbered circuit is one of the design, each signal driven at the place of its number.
pub composed : {P : Type 0} (d : Circuit P) (mid net : Circuit ℕ) (mid_size size : ℕ) (origin : ℕ → P) (number : P → ℕ) (source : ℕ → ℕ) (clocked : P → Type 0) (clocked_number : ℕ → Type 0) →
    IsRenaming d mid mid_size origin number → IsFlattened mid net size clocked_number (IsPlace mid) source → ((s : ℕ) → s < size → source s < mid_size) → ((q : ℕ) → q < mid_size → clocked_number q → clocked (origin q)) →
    IsFlattened d net size clocked (IsPlace d) (λ s. origin (source s))
composed {P} d mid net mid_size size origin number source clocked clocked_number r f within clocks = record {
  inputs = sym (map-map (moved_name origin) (λ (i : Named ℕ). record { name = i.name; place = source i.place }) net.inputs) ∙ ap (map (moved_name origin)) f.inputs ∙ r.inputs;
  outputs = f.outputs ∙ renamed.outputs;
  output_is = λ i o s ho hs. let m = at_mid i o ho in subst (λ (p : P). Follows d p (origin (source s.place))) (ap (λ (n : Named P). n.place) m.2) (follows_moved d mid mid_size origin number r (f.output_is i m.0 s m.1 hs));
  latches = f.latches ∙ renamed.latches;
  down = λ n run is. f.down n (λ t s. run t (origin s)) (renamed.down n run is);
  up = λ n run is.
      let m = f.up n run is in
      let whole = renamed.up n m.0 m.1 in
      (whole.0, whole.1, λ t s ht hs. whole.2 t (source s) ht (within s hs) ∙ m.2 t s ht hs);
  settled = λ n run is t i o s ht ho hs mark.
      let m = at_mid i o ho in
      f.settled n (λ t s. run t (origin s)) (renamed.down n run is) t i m.0 s ht m.1 hs
      (marks_down d mid mid_size origin number r run mark m.0.place (All-contains (λ (o : Named ℕ). o.place < mid_size) mid.outputs m.0 r.outputs_below (of_at mid.outputs i m.0 m.1)) (ap (λ (n : Named P). n.place) m.2));
  one = λ n u v is_u is_v same t p ht free at_place.
      let found = renamed_places d mid mid_size origin number r p at_place in
      ap (u t) (sym found.2)
      ∙ f.one n (λ t s. u t (origin s)) (λ t s. v t (origin s)) (renamed.down n u is_u) (renamed.down n v is_v) same t found.0 ht (λ c. free (subst clocked found.2 (clocks found.0 found.1 c))) found.3
      ∙ ap (v t) found.2;
}
  where
    renamed : IsFlattened d mid mid_size (λ p. ⊥) (λ p. ⊥) origin
    renamed = renamed_is_flattened d mid mid_size origin number (λ p. ⊥) (λ p. ⊥) r (λ p free h. absurd h)

    at_mid : (i : ℕ) (o : Named P) → slice_get d.outputs i ≡ Some o → (m : Named ℕ) × (slice_get mid.outputs i ≡ Some m) × (moved_name origin m ≡ o)
    at_mid i o h = key_at (moved_name origin) mid.outputs i o (subst (λ (os : List (Named P)). slice_get os i ≡ Some o) (sym r.outputs) h)
