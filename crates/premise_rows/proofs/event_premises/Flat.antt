-- The nets of a small design in which no latch reads another one.
use Rattle.std.proofs.Common.{◌≡◌, ◌∙◌, ℕ, ◌+◌, ◌*◌, ◌≤◌, max, Bool, true, List, ◌++◌, length, map, refl, sym, ap, subst, arith, length-append}
use Rattle.std.specs.Prelude.{◌&&◌, nat_le}
use Rattle.std.specs.List.{Contains, list_all, list_any}
use Rattle.std.proofs.lemmas.Bool.{and_parts}
use Rattle.std.proofs.lemmas.Bool.Decides.{nat_tests}
use Rattle.std.proofs.lemmas.List.Elements.{Contains-append_left, Contains-append_right}
use Rattle.std.proofs.lemmas.List.Folds.{Any-from_list_any}
use Rattle.circuit_theory.specs.Circuit.{Circuit, Equation, Gate, Latch, Port, Named, IsLatch, Reads, Reaches, out_of}
use Rattle.circuit_theory.specs.Joined.{moved, moved_name}
use Rattle.circuit_theory.specs.Sizes.{WeighsAt}
use Rattle.circuit_theory.proofs.Lists.{Contains-map, Contains-map_from, length-map}
use Rattle.circuit_theory.specs.Frame.{ConeLatches}
use Rattle.net_assembly.proofs.net_alike.Testing.{all_in}
use Rattle.job_base.proofs.design_laws.FlatCycles.{reaches_along, reaches_up}
use Rattle.job_base.proofs.design_laws.FlatParts.{FlatDesign, latch_up}
use Rattle.circuit_laws.proofs.Shallow.{IsShallow, IsLightCircuit}

-- what an equation counts
abbrev pub weight_of : {P : Type 0} → Equation P → ℕ
weight_of (Gate out fanins cover) = 1 + max 1 (length cover.rows) * (length fanins + 1)
weight_of (Latch name out next) = 1
weight_of (Port out from) = 1

-- the places that are driven, and those of latches
abbrev pub driven_places : {P : Type 0} → Circuit P → List P
driven_places d = map (λ (i : Named _). i.place) d.inputs ++ map out_of d.equations

-- of each place the latches that are read from it
abbrev pub reads_alone : {P : Type 0} → (P → P → Bool) → (P → List P) → Equation P → Bool
reads_alone same cone (Gate out fanins cover) = list_all (λ q. list_all (λ v. list_any (same v) (cone out)) (cone q)) fanins
reads_alone same cone (Latch name out next) = list_any (same out) (cone out) && list_all (λ v. same v out) (cone next)
reads_alone same cone (Port out from) = list_all (λ v. list_any (same v) (cone out)) (cone from)

-- what is computed of a design: each latch reads itself alone, and no equation counts more than this
pub record PassesShallow {P : Type 0} (same : P → P → Bool) (cone : P → List P) (d : Circuit P) (most : ℕ) : Type 0 where
  pub alone : list_all (reads_alone same cone) d.equations ≡ true
  pub light : list_all (λ e. nat_le (weight_of e) most) d.equations ≡ true
  pub positive : 1 ≤ most

module _ {P : Type 0} (same : P → P → Bool) (sound : (p q : P) → same p q ≡ true → p ≡ q) (cone : P → List P) (d : Circuit P) (most : ℕ) (passes : PassesShallow same cone d most) where
  stands : (v : P) (xs : List P) → list_any (same v) xs ≡ true → Contains xs v
  stands v xs h = let a = Any-from_list_any (same v) xs h in subst (Contains xs) (sym (sound v a.1 a.4)) (a.0, a.2, a.3)

  reads_more : {p q v : P} → Reads d p q → Contains (cone q) v → Contains (cone p) v
  reads_more {v = v} (Reads.by_gate {out = out} {q = q} {fanins = fanins} {cover = cover} h k) c =
      stands v (cone out) (all_in (λ (w : P). list_any (same w) (cone out)) (cone q) v
      (all_in (λ (r : P). list_all (λ (w : P). list_any (same w) (cone out)) (cone r)) fanins q (all_in (reads_alone same cone) d.equations (Gate out fanins cover) passes.alone h) k) c)
  reads_more {v = v} (Reads.by_port {out = out} {from = from} h) c =
      stands v (cone out) (all_in (λ (w : P). list_any (same w) (cone out)) (cone from) v (all_in (reads_alone same cone) d.equations (Port out from) passes.alone h) c)

  reaches_more : {p v : P} → Reaches d p v → Contains (cone v) v → Contains (cone p) v
  reaches_more Reaches.here own = own
  reaches_more (Reaches.there r rest) own = reads_more r (reaches_more rest own)

  design_alone : (name : List ℕ) (u next v : P) → IsLatch d name u next → ConeLatches d next v → v ≡ u
  design_alone name u next v latch c =
      let mine = and_parts (list_any (same u) (cone u)) (list_all (λ (w : P). same w u) (cone next)) (all_in (reads_alone same cone) d.equations (Latch name u next) passes.alone latch) in
      let theirs = and_parts (list_any (same v) (cone v)) (list_all (λ (w : P). same w v) (cone c.1)) (all_in (reads_alone same cone) d.equations (Latch c.0 v c.1) passes.alone c.2) in
      sound v u (all_in (λ (w : P). same w u) (cone next) v mine.1 (reaches_more c.3 (stands v (cone v) theirs.0)))

  light_at : (e : Equation P) → Contains d.equations e → weight_of e ≤ most
  light_at e h = let one = all_in (λ (x : Equation P). nat_le (weight_of x) most) d.equations e passes.light h in grind (arith, nat_tests, one)

  module _ {net : Circuit ℕ} {clocked : P → Type 0} (f : FlatDesign d net clocked) where
    out_moved : (e : Equation P) → out_of (moved f.signal e) ≡ f.signal (out_of e)
    out_moved (Gate out fanins cover) = refl
    out_moved (Latch name out next) = refl
    out_moved (Port out from) = refl

    weight_moved : (e : Equation P) → weight_of (moved f.signal e) ≡ weight_of e
    weight_moved (Gate out fanins cover) = ap (λ (n : ℕ). 1 + max 1 (length cover.rows) * (n + 1)) (length-map f.signal fanins)
    weight_moved (Latch name out next) = refl
    weight_moved (Port out from) = refl

    -- where the net's places are driven
    abbrev pub net_places : List ℕ
    net_places = map f.signal (driven_places d)

    at_equation : (e : Equation ℕ) → Contains net.equations e → Contains net_places (out_of e) × (weight_of e ≤ most)
    at_equation e h =
        let x = f.circuit.only e h in
        let out_is : f.signal (out_of x.0) ≡ out_of e = sym (out_moved x.0) ∙ ap out_of x.2 in
        let weight_is : weight_of x.0 ≡ weight_of e = sym (weight_moved x.0) ∙ ap weight_of x.2 in (
          subst (Contains net_places) out_is
              (Contains-map f.signal (driven_places d) (out_of x.0) (Contains-append_right (map (λ (i : Named P). i.place) d.inputs) (map out_of d.equations) (out_of x.0) (Contains-map out_of d.equations x.0 x.1))),
          subst (λ (w : ℕ). w ≤ most) weight_is (light_at x.0 x.1),
        )

    at_input : (name : List ℕ) (i : ℕ) → Contains net.inputs (record { name = name; place = i }) → Contains net_places i
    at_input name i h =
        let x = Contains-map_from (moved_name f.signal) d.inputs (record { name = name; place = i }) (subst (λ (is : List (Named ℕ)). Contains is (record { name = name; place = i })) f.circuit.inputs h) in
        let place_is : f.signal x.0.place ≡ i = ap (λ (n : Named ℕ). n.place) x.2 in
        subst (Contains net_places) place_is
        (Contains-map f.signal (driven_places d) x.0.place (Contains-append_left (map (λ (n : Named P). n.place) d.inputs) (map out_of d.equations) x.0.place (Contains-map (λ (n : Named P). n.place) d.inputs x.0 x.1)))

    weighs : (p w : ℕ) → WeighsAt net p w → Contains net_places p × (w ≤ most)
    weighs p w (WeighsAt.input i) = (at_input i.0 p i.1, passes.positive)
    weighs p w (WeighsAt.latch {next = next} {name = name} h) = at_equation (Latch name p next) h
    weighs p w (WeighsAt.gate {fanins = fanins} {cover = cover} h) = at_equation (Gate p fanins cover) h

    pub net_light : IsLightCircuit net net_places most
    net_light = record { driven = λ p w h. (weighs p w h).0; light = λ p w h. (weighs p w h).1 }

    pub net_shallow : IsShallow net net_places
    net_shallow = record {
      listed = λ name u next h. (at_equation (Latch name u next) h).0;
      alone = λ name u next v h c.
          (let x = latch_up f name u next h in
          let y = latch_up f c.0 v c.1 c.2 in
          let one = design_alone name (f.origin u) x.takes (f.origin v) x.latch (c.0, y.takes, y.latch, reaches_along f x.follows (reaches_up f c.3)) in
          sym y.signal ∙ ap f.signal one ∙ x.signal);
    }

    pub net_places_length : length net_places ≡ length d.inputs + length d.equations
    net_places_length =
        let whole : length (driven_places d) ≡ length (map (λ (i : Named P). i.place) d.inputs) + length (map out_of d.equations) = length-append (map (λ (i : Named P). i.place) d.inputs) (map out_of d.equations) in
        omega (arith, whole, length-map f.signal (driven_places d), length-map (λ (i : Named P). i.place) d.inputs, length-map out_of d.equations)
