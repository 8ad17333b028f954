-- The interfaces of a pair match.
use Rattle.std.proofs.Common.{◌≡◌, ◌<◌, ◌∙◌, ℕ, Bool, true, cond, List, [], ◌∷◌, map, refl, sym, ap, subst, arith, Option, Some, None}
use Rattle.std.specs.Prelude.{not, ◌&&◌}
use Rattle.std.specs.List.{Contains, filter}
use Rattle.std.proofs.lemmas.Option.{slice_get_within, same_Some}
use Rattle.circuit_theory.specs.declared.Side.{Side}
use Rattle.circuit_theory.specs.declared.Side.TheVariants.{A, B}
use Rattle.circuit_theory.specs.Interface.{Ports, is_clock, inputs_beside, first_missing, ◌or_else◌}
use Rattle.circuit_theory.specs.Names.{is_among}
use Rattle.circuit_theory.proofs.Lists.{Contains-head, Contains-tail, Contains-map, Contains-map_from, at_of, of_at}
use Rattle.circuit_theory.proofs.Numbers.{is_among-complete}
use Rattle.flat_net.specs.declared.parts.Port.{Port}
use Rattle.flat_net.specs.View.{NetView, ports_of}
use Rattle.job_gen.specs.pair_gen.Twins.{IsTwin}
use Rattle.sec_setup.specs.Matching.{InterfacesMatch}

filter_all : {X : Type 0} (p : X → Bool) (xs : List X) → ((x : X) → p x ≡ true) → filter p xs ≡ xs
filter_all p [] h = refl
filter_all p (x ∷ xs) h = ap (λ (b : Bool). cond b (x ∷ filter p xs) (filter p xs)) (h x) ∙ ap (λ ys. x ∷ ys) (filter_all p xs h)

-- where the other circuit has no clock, all inputs stay
all_beside : (own other : Ports) → other.clock ≡ None → inputs_beside own other ≡ own.inputs
all_beside own other none = filter_all (λ name. not (is_clock other name && not (is_among own.read name))) own.inputs each
  where
    each : (name : List ℕ) → not (is_clock other name && not (is_among own.read name)) ≡ true
    each name = ap (λ (clock : Option (List ℕ)). let ports : Ports = record other { clock = clock } in not (is_clock ports name && not (is_among own.read name))) none

-- nothing is missing where each name is among the others
none_missing : (names others : List (List ℕ)) → ((name : List ℕ) → Contains names name → Contains others name) → first_missing names others ≡ None
none_missing [] others h = refl
none_missing (name ∷ names) others h =
    ap (λ (b : Bool). cond (not b) (Some name) (first_missing names others)) (is_among-complete others name (h name (Contains-head name names)))
    ∙ none_missing names others (λ n k. h n (Contains-tail name n names k))

abbrev name_in : Port → List ℕ
name_in p = p.name

module _ (x y : Side) (r s : Bool) (ws vs : List ℕ) (a b : NetView) (left : IsTwin x r ws a) (right : IsTwin y s vs b) where
  pub inputs_there : (name : List ℕ) → Contains (map name_in a.inputs) name → Contains (map name_in b.inputs) name
  inputs_there name h =
      let p = Contains-map_from name_in a.inputs name h in
      let at = at_of a.inputs p.0 p.1 in
      let low = slice_get_within a.inputs at.0 p.0 at.1 in
      let within : at.0 < 40 = let count = left.input_count in omega (arith, low, count) in
      let here = left.inputs at.0 within in
      let there = right.inputs at.0 within in
      let same : name_in there.port ≡ name = there.name ∙ sym here.name ∙ ap name_in (same_Some here.port p.0 (sym here.at ∙ at.1)) ∙ p.2 in
      subst (Contains (map name_in b.inputs)) same (Contains-map name_in b.inputs there.port (of_at b.inputs at.0 there.port there.at))

  pub outputs_there : (name : List ℕ) → Contains (map name_in a.outputs) name → Contains (map name_in b.outputs) name
  outputs_there name h =
      let p = Contains-map_from name_in a.outputs name h in
      let at = at_of a.outputs p.0 p.1 in
      let low = slice_get_within a.outputs at.0 p.0 at.1 in
      let within : at.0 < 40 = let count = left.output_count in omega (arith, low, count) in
      let here = left.outputs at.0 within in
      let there = right.outputs at.0 within in
      let same : name_in there.port ≡ name = there.name ∙ sym here.name ∙ ap name_in (same_Some here.port p.0 (sym here.at ∙ at.1)) ∙ p.2 in
      subst (Contains (map name_in b.outputs)) same (Contains-map name_in b.outputs there.port (of_at b.outputs at.0 there.port there.at))

-- no name is missing on either side
pub twins_match : (r s : Bool) (ws : List ℕ) (a b : NetView) → IsTwin A r ws a → IsTwin B s ws b → InterfacesMatch a b
twins_match r s ws a b left right =
    let own = all_beside (ports_of a) (ports_of b) right.clock in
    let other = all_beside (ports_of b) (ports_of a) left.clock in
    let first : first_missing (inputs_beside (ports_of a) (ports_of b)) (inputs_beside (ports_of b) (ports_of a)) ≡ None =
    ap (λ (ns : List (List ℕ)). first_missing ns (inputs_beside (ports_of b) (ports_of a))) own ∙ ap (first_missing (ports_of a).inputs) other
    ∙ none_missing (ports_of a).inputs (ports_of b).inputs (inputs_there A B r s ws ws a b left right) in
    let second : first_missing (inputs_beside (ports_of b) (ports_of a)) (inputs_beside (ports_of a) (ports_of b)) ≡ None =
    ap (λ (ns : List (List ℕ)). first_missing ns (inputs_beside (ports_of a) (ports_of b))) other ∙ ap (first_missing (ports_of b).inputs) own
    ∙ none_missing (ports_of b).inputs (ports_of a).inputs (inputs_there B A s r ws ws b a right left) in
    let third = none_missing (ports_of a).outputs (ports_of b).outputs (outputs_there A B r s ws ws a b left right) in
    let fourth = none_missing (ports_of b).outputs (ports_of a).outputs (outputs_there B A s r ws ws b a right left) in
    four _ _ _ _ first second third fourth
  where
    four : (o p q t : Option (List ℕ)) → o ≡ None → p ≡ None → q ≡ None → t ≡ None → (o or_else p or_else q or_else t) ≡ None
    four o p q t e f g h =
        ap (λ (z : Option (List ℕ)). z or_else p or_else q or_else t) e ∙ ap (λ (z : Option (List ℕ)). None or_else z or_else q or_else t) f
        ∙ ap (λ (z : Option (List ℕ)). None or_else None or_else z or_else t) g ∙ ap (λ (z : Option (List ℕ)). None or_else None or_else None or_else z) h
