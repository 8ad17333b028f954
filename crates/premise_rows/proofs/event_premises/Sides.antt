-- Circuits side by side, and circuits with latches cut out, in which no latch reads another one.
use Rattle.std.proofs.Common.{◌≡◌, ◌∙◌, ℕ, ◌+◌, Bool, List, ◌++◌, length, map, sym, ap, subst, arith, inl, inr, length-append}
use Rattle.std.specs.Prelude.{◌⊎◌}
use Rattle.std.specs.List.{Contains}
use Rattle.std.proofs.lemmas.List.Elements.{Contains-append_left, Contains-append_right}
use Rattle.circuit_theory.specs.Circuit.{Circuit, Equation, Gate, Latch, Port, Named, IsLatch, Reads, Reaches}
use Rattle.circuit_theory.specs.Joined.{Either, Left, Right, joined}
use Rattle.circuit_theory.specs.Sizes.{WeighsAt}
use Rattle.circuit_theory.proofs.Lists.{Contains-map, length-map}
use Rattle.circuit_laws.proofs.JoinedParts.{left_part, right_part, replace_left, replace_right}
use Rattle.circuit_laws.proofs.Onward.{cut_input}
use Rattle.circuit_laws.proofs.Parted.{kept_equation}
use Rattle.circuit_laws.proofs.Parts.{IsPart, latch_from, reaches_from}
use Rattle.circuit_theory.specs.Frame.{ConeLatches}
use Rattle.flat_net.specs.Cut.{IsCutCircuit}
use Rattle.circuit_laws.proofs.Shallow.{IsShallow, IsLightCircuit}

-- a latch of a part reads none but itself there
part_alone : {P R : Type 0} (c : Circuit P) (j : Circuit R) (f : P → R) (replace : (R → Bool) → (P → Bool) → R → Bool) → IsPart c j f replace → (latches : List P) → IsShallow c latches → (name : List ℕ) (u : P) (next v : R) → IsLatch j name (f u) next → ConeLatches j next v → v ≡ f u
part_alone c j f replace part latches shallow name u next v latch cone =
    let own = latch_from c j f replace part name u next latch in
    let q = reaches_from c j f replace part cone.3 own.0 own.2 in
    let other = latch_from c j f replace part cone.0 q.0 cone.1 (subst (λ z. IsLatch j cone.0 z cone.1) (sym q.1) cone.2) in
    sym q.1 ∙ ap f (shallow.alone name u own.0 q.0 own.1 (cone.0, other.0, other.1, q.2))

part_listed : {P R : Type 0} (c : Circuit P) (j : Circuit R) (f : P → R) (replace : (R → Bool) → (P → Bool) → R → Bool) → IsPart c j f replace → (latches : List P) → IsShallow c latches → (name : List ℕ) (u : P) (next : R) → IsLatch j name (f u) next → Contains (map f latches) (f u)
part_listed c j f replace part latches shallow name u next latch =
    let own = latch_from c j f replace part name u next latch in
    Contains-map f latches u (shallow.listed name u own.0 own.1)

module _ (a b : Circuit ℕ) (ls rs : List ℕ) (left : IsShallow a ls) (right : IsShallow b rs) where
  abbrev pub both_latches : List (Either ℕ ℕ)
  both_latches = map Left ls ++ map Right rs

  listed : (name : List ℕ) (u next : Either ℕ ℕ) → IsLatch (joined a b) name u next → Contains both_latches u
  listed name (Left p) next latch = Contains-append_left (map Left ls) (map Right rs) (Left p) (part_listed a (joined a b) Left (replace_left a b) (left_part a b) ls left name p next latch)
  listed name (Right q) next latch = Contains-append_right (map Left ls) (map Right rs) (Right q) (part_listed b (joined a b) Right (replace_right a b) (right_part a b) rs right name q next latch)

  alone : (name : List ℕ) (u next v : Either ℕ ℕ) → IsLatch (joined a b) name u next → ConeLatches (joined a b) next v → v ≡ u
  alone name (Left p) next v latch cone = part_alone a (joined a b) Left (replace_left a b) (left_part a b) ls left name p next v latch cone
  alone name (Right q) next v latch cone = part_alone b (joined a b) Right (replace_right a b) (right_part a b) rs right name q next v latch cone

  pub both_shallow : IsShallow (joined a b) both_latches
  both_shallow = record { listed = listed; alone = alone }

  pub both_length : length both_latches ≡ length ls + length rs
  both_length =
      let f : ℕ → Either ℕ ℕ = Left in
      let g : ℕ → Either ℕ ℕ = Right in
      let whole : length both_latches ≡ length (map f ls) + length (map g rs) = length-append (map f ls) (map g rs) in
      omega (arith, whole, length-map f ls, length-map g rs)

-- with latches cut out
module _ (names : List (List ℕ)) (c d : Circuit ℕ) (is : IsCutCircuit names c d) where
  equation_up : (e : Equation ℕ) → Contains d.equations e → Contains c.equations e
  equation_up e h = kept_equation names c e (subst (λ (es : List (Equation ℕ)). Contains es e) is.equations h)

  reads_up : {p q : ℕ} → Reads d p q → Reads c p q
  reads_up (Reads.by_gate {out = out} {fanins = fanins} {cover = cover} h k) = Reads.by_gate {fanins = fanins} {cover = cover} (equation_up (Gate out fanins cover) h) k
  reads_up (Reads.by_port {out = out} {from = from} h) = Reads.by_port (equation_up (Port out from) h)

  reaches_up : {p q : ℕ} → Reaches d p q → Reaches c p q
  reaches_up Reaches.here = Reaches.here
  reaches_up (Reaches.there r rest) = Reaches.there (reads_up r) (reaches_up rest)

  pub cut_shallow : (latches : List ℕ) → IsShallow c latches → IsShallow d latches
  cut_shallow latches shallow = record {
    listed = λ name u next h. shallow.listed name u next (equation_up (Latch name u next) h);
    alone = λ name u next v h cone. shallow.alone name u next v (equation_up (Latch name u next) h) (cone.0, cone.1, equation_up (Latch cone.0 v cone.1) cone.2, reaches_up cone.3);
  }

  weighs_up : {p w : ℕ} → WeighsAt d p w → WeighsAt c p w
  weighs_up (WeighsAt.input {p = p} i) = by (cut_input names c i.0 p (subst (λ (is : List (Named ℕ)). Contains is (record { name = i.0; place = p })) is.inputs i.1))
    where
      by : Contains c.inputs (record { name = i.0; place = p }) ⊎ (Contains names i.0 × ((next : ℕ) × IsLatch c i.0 p next)) → WeighsAt c p 1
      by (inl h) = WeighsAt.input (i.0, h)
      by (inr h) = WeighsAt.latch {name = i.0} h.1.1
  weighs_up (WeighsAt.latch {p = p} {next = next} {name = name} h) = WeighsAt.latch {name = name} (equation_up (Latch name p next) h)
  weighs_up (WeighsAt.gate {p = p} {fanins = fanins} {cover = cover} h) = WeighsAt.gate (equation_up (Gate p fanins cover) h)

  pub cut_light : (places : List ℕ) (most : ℕ) → IsLightCircuit c places most → IsLightCircuit d places most
  cut_light places most light = record { driven = λ p w h. light.driven p w (weighs_up h); light = λ p w h. light.light p w (weighs_up h) }
