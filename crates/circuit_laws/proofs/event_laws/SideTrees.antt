-- What a circuit unfolds to, reaches and cares for is the same where it stands beside another.
use Rattle.std.proofs.Common.{◌≡◌, ℕ, Bool, true, false, List, [], ◌∷◌, ◌++◌, length, map, refl, sym, arith, ◌∙◌, ap, subst, inl, inr, Option, Some, None}
use Rattle.std.specs.Prelude.{◌⊎◌, ◌↔◌}
use Rattle.std.specs.List.{Contains}
use Rattle.circuit_theory.specs.Cover.{Cover}
use Rattle.circuit_theory.specs.Circuit.{Circuit, Equation, Gate, Latch, Port, Named, IsLatch, Meets}
use Rattle.circuit_theory.specs.Run.{IsEnabled}
use Rattle.circuit_theory.specs.Tree.{Tree, Trees, Fixed, StandsBeside, IsInputNumber}
use Rattle.circuit_theory.specs.Joined.{Either, Left, Right, moved, moved_name, joined, beside}
use Rattle.circuit_theory.specs.Frame.{EventSide, NotPut, EventUnfolds, EventUnfoldsAll, ConeLatches, ReachedAt, IsEnable, HasCare}
use Rattle.circuit_laws.specs.event_laws.Laws.{SidesUnfoldAsParts}
use Rattle.circuit_laws.specs.event_laws.Sides.{moved_put}
use Rattle.circuit_laws.proofs.NetLaws.{net_value, net_value-extends}
use Rattle.circuit_laws.proofs.Parts.{IsPart, latch_up, latch_from, reaches_up, reaches_from, enabled_up, enabled_from}
use Rattle.circuit_laws.proofs.JoinedParts.{joined_number, left_part, right_part, replace_left, replace_right, meets_both, left_one, right_one, left_is_not_right}

-- numbers of the first circuit's inputs among those of both
number_left : (inputs : List (Named ℕ)) (order : List ℕ) (others : List (Named (Either ℕ ℕ))) (more : List ℕ) (p i : ℕ) → StandsBeside inputs order p i → StandsBeside (map (moved_name Left) inputs ++ others) (order ++ more) (Left p) i
number_left [] order others more p i h = absurd h
number_left (m ∷ inputs) [] others more p i h = absurd h
number_left (m ∷ inputs) (j ∷ order) others more p i (inl h) = inl (ap Left h.0, h.1)
number_left (m ∷ inputs) (j ∷ order) others more p i (inr h) = inr (number_left inputs order others more p i h)

-- and of the second one's
number_right : (inputs : List (Named ℕ)) (order : List ℕ) (others : List (Named ℕ)) (more : List ℕ) (q i : ℕ) → length order ≡ length inputs → StandsBeside others more q i →
    StandsBeside (map (moved_name {P = ℕ} {Q = Either ℕ ℕ} Left) inputs ++ map (moved_name Right) others) (order ++ more) (Right q) i
number_right [] [] others more q i e h = alone others more h
  where
    alone : (ns : List (Named ℕ)) (js : List ℕ) → StandsBeside ns js q i → StandsBeside (map (moved_name {P = ℕ} {Q = Either ℕ ℕ} Right) ns) js (Right q) i
    alone [] js k = absurd k
    alone (n ∷ ns) [] k = absurd k
    alone (n ∷ ns) (j ∷ js) (inl k) = inl (ap Right k.0, k.1)
    alone (n ∷ ns) (j ∷ js) (inr k) = inr (alone ns js k)
number_right [] (j ∷ order) others more q i e h = absurd (omega (arith, e))
number_right (m ∷ inputs) [] others more q i e h = absurd (omega (arith, e))
number_right (m ∷ inputs) (j ∷ order) others more q i e h = inr (number_right inputs order others more q i (omega (arith, e)) h)

module _ {P R : Type 0} (c : Circuit P) (j : Circuit R) (f : P → R) (replace : (R → Bool) → (P → Bool) → R → Bool) (part : IsPart c j f replace) (some : R → Bool) (meets : Meets j some) (order orders : List ℕ) (class : R → ℕ)
    (up : (p : P) (i : ℕ) → IsInputNumber c order p i → IsInputNumber j orders (f p) i) (down : (p : P) (i : ℕ) → IsInputNumber j orders (f p) i → IsInputNumber c order p i) where
  abbrev own : EventSide P
  own = record { circuit = c; order = order; class = λ p. class (f p) }

  abbrev whole : EventSide R
  whole = record { circuit = j; order = orders; class = class }

  abbrev On : P → Type 0
  On = IsEnabled c

  abbrev All : R → Type 0
  All = IsEnabled j

  on_up : (u : P) → On u → All (f u)
  on_up u = enabled_up c j f replace part u

  on_from : (u : P) → All (f u) → On u
  on_from u = enabled_from c j f replace part some meets u

  free_up : (put : Option (P × Bool)) (u : P) → NotPut put u → NotPut (moved_put f put) (f u)
  free_up None u free = tt
  free_up (Some x) u free = λ e. free (part.one u x.0 e)

  free_from : (put : Option (P × Bool)) (u : P) → NotPut (moved_put f put) (f u) → NotPut put u
  free_from None u free = tt
  free_from (Some x) u free = λ e. free (ap f e)

  mutual
    unfolds_up : {put : Option (P × Bool)} {p : P} {node : List ℕ} {tree : Tree (List ℕ)} → EventUnfolds own On put p node tree → EventUnfolds whole All (moved_put f put) (f p) node tree
    unfolds_up (EventUnfolds.input {p = p} {i = i} h) = EventUnfolds.input (up p i h)
    unfolds_up (EventUnfolds.gate {out = out} {fanins = fanins} {cover = cover} eq each) = EventUnfolds.gate {fanins = map f fanins} {cover = cover} (part.equation (Gate out fanins cover) eq) (all_up each)
    unfolds_up (EventUnfolds.port {out = out} {from = from} eq rest) = EventUnfolds.port (part.equation (Port out from) eq) (unfolds_up rest)
    unfolds_up (EventUnfolds.plain {put = put} {name = name} {u = u} {next = next} latch free off rest) =
        EventUnfolds.plain {name = name} {next = f next} (latch_up c j f replace part name u next latch) (free_up put u free) (λ en. off (on_from u en)) (unfolds_up rest)
    unfolds_up (EventUnfolds.held {put = put} {name = name} {u = u} {next = next} latch free on rest) =
        EventUnfolds.held {name = name} {next = f next} (latch_up c j f replace part name u next latch) (free_up put u free) (on_up u on) (unfolds_up rest)
    unfolds_up EventUnfolds.fixed = EventUnfolds.fixed

    all_up : {put : Option (P × Bool)} {ps : List P} {node : List ℕ} {trees : Trees (List ℕ)} → EventUnfoldsAll own On put ps node trees → EventUnfoldsAll whole All (moved_put f put) (map f ps) node trees
    all_up EventUnfoldsAll.none = EventUnfoldsAll.none
    all_up (EventUnfoldsAll.more one rest) = EventUnfoldsAll.more (unfolds_up one) (all_up rest)

  -- a gate or port of the whole that drives a place of the part is one of the part
  gate_from : (p out : P) (fanins : List R) (cover : Cover) (q : R) (y : Equation P) → f p ≡ q → Contains c.equations y → moved f y ≡ Gate q fanins cover → (fs : List P) × Contains c.equations (Gate p fs cover) × (map f fs ≡ fanins)
  gate_from p out fanins cover q (Gate o fs cv) at h e =
      let outs : f o ≡ q = cc in
      let covers : cv ≡ cover = cc in
      let ins : map f fs ≡ fanins = cc in
      (fs, subst (λ (k : Cover). Contains c.equations (Gate p fs k)) covers (subst (λ (k : P). Contains c.equations (Gate k fs cv)) (part.one o p (outs ∙ sym at)) h), ins)
  gate_from p out fanins cover q (Latch m o to) at h e = cc
  gate_from p out fanins cover q (Port o from) at h e = cc

  port_from : (p : P) (q from : R) (y : Equation P) → f p ≡ q → Contains c.equations y → moved f y ≡ Port q from → (s : P) × Contains c.equations (Port p s) × (f s ≡ from)
  port_from p q from (Gate o fs cv) at h e = cc
  port_from p q from (Latch m o to) at h e = cc
  port_from p q from (Port o s) at h e =
      let outs : f o ≡ q = cc in
      let froms : f s ≡ from = cc in
      (s, subst (λ (k : P). Contains c.equations (Port k s)) (part.one o p (outs ∙ sym at)) h, froms)

  fixed_from : (put : Option (P × Bool)) (p : P) (bit : Bool) (node : List ℕ) → ◌≡◌ {A = Option (R × Bool)} (Some (f p, bit)) (moved_put f put) → EventUnfolds own On put p node (Fixed bit)
  fixed_from None p bit node e = cc
  fixed_from (Some x) p bit node e =
      let pair : ◌≡◌ {A = R × Bool} (f p, bit) (f x.0, x.1) = cc in
      let place : f p ≡ f x.0 = ap (λ (y : R × Bool). y.0) pair in
      let same : bit ≡ x.1 = ap (λ (y : R × Bool). y.1) pair in
      let whole_is : (p, bit) ≡ x = λ i. (part.one p x.0 place i, same i) in
      subst (λ (y : P × Bool). EventUnfolds own On (Some y) p node (Fixed bit)) whole_is EventUnfolds.fixed

  mutual
    unfolds_from : {put' : Option (R × Bool)} {r : R} {node : List ℕ} {tree : Tree (List ℕ)} → EventUnfolds whole All put' r node tree → (put : Option (P × Bool)) → put' ≡ moved_put f put → (p : P) → f p ≡ r → EventUnfolds own On put p node tree
    unfolds_from (EventUnfolds.input {p = r} {i = i} h) put e p q = EventUnfolds.input (down p i (subst (λ (s : R). IsInputNumber j orders s i) (sym q) h))
    unfolds_from (EventUnfolds.gate {out = out} {fanins = fanins} {cover = cover} eq each) put e p q =
        let x = part.equation_from (Gate out fanins cover) eq p (sym q) in
        let g = gate_from p p fanins cover out x.0 q x.1 x.2 in
        EventUnfolds.gate {fanins = g.0} {cover = cover} g.1 (all_from each put e g.0 g.2)
    unfolds_from (EventUnfolds.port {out = out} {from = from} eq rest) put e p q =
        let x = part.equation_from (Port out from) eq p (sym q) in
        let g = port_from p out from x.0 q x.1 x.2 in
        EventUnfolds.port g.1 (unfolds_from rest put e g.0 g.2)
    unfolds_from (EventUnfolds.plain {put = put'} {name = name} {u = u} {next = next} {node = node} {tree = tree} latch free off rest) put e p q =
        let l = latch_from c j f replace part name p next (subst (λ (s : R). IsLatch j name s next) (sym q) latch) in
        EventUnfolds.plain {name = name} {next = l.0} l.1 (free_from put p (subst (λ (o : Option (R × Bool)). NotPut o (f p)) e (subst (NotPut put') (sym q) free))) (λ en. off (subst All q (on_up p en)))
        (subst (λ (s : R). EventUnfolds own On None l.0 (class s ∷ node) tree) (sym q) (unfolds_from rest None refl l.0 l.2))
    unfolds_from (EventUnfolds.held {put = put'} {name = name} {u = u} {next = next} {node = node} {tree = tree} latch free on rest) put e p q =
        let l = latch_from c j f replace part name p next (subst (λ (s : R). IsLatch j name s next) (sym q) latch) in
        EventUnfolds.held {name = name} {next = l.0} l.1 (free_from put p (subst (λ (o : Option (R × Bool)). NotPut o (f p)) e (subst (NotPut put') (sym q) free))) (on_from p (subst All (sym q) on))
        (subst (λ (s : R). EventUnfolds own On (Some (p, false)) l.0 (class s ∷ node) tree) (sym q) (unfolds_from rest (Some (p, false)) (ap (λ (s : R). Some (s, false)) (sym q)) l.0 l.2))
    unfolds_from (EventUnfolds.fixed {u = u} {bit = bit} {node = node}) put e p q = fixed_from put p bit node (ap (λ (s : R). Some (s, bit)) q ∙ e)

    all_from : {put' : Option (R × Bool)} {rs : List R} {node : List ℕ} {trees : Trees (List ℕ)} → EventUnfoldsAll whole All put' rs node trees → (put : Option (P × Bool)) → put' ≡ moved_put f put → (ps : List P) → map f ps ≡ rs → EventUnfoldsAll own On put ps node trees
    all_from EventUnfoldsAll.none put e [] q = EventUnfoldsAll.none
    all_from EventUnfoldsAll.none put e (p ∷ ps) q = cc
    all_from (EventUnfoldsAll.more one rest) put e [] q = cc
    all_from (EventUnfoldsAll.more {p = r} {ps = rs} one rest) put e (p ∷ ps) q =
        let head : f p ≡ r = cc in
        let tail : map f ps ≡ rs = cc in
        EventUnfoldsAll.more (unfolds_from one put e p head) (all_from rest put e ps tail)

  cone_from : (p : P) (r : R) → ConeLatches j (f p) r → (v : P) × (f v ≡ r) × ConeLatches c p v
  cone_from p r cone =
      let v = reaches_from c j f replace part cone.3 p refl in
      let l = latch_from c j f replace part cone.0 v.0 cone.1 (subst (λ (s : R). IsLatch j cone.0 s cone.1) (sym v.1) cone.2) in
      (v.0, v.1, (cone.0, l.0, l.1, v.2))

  cone_up : (p v : P) → ConeLatches c p v → ConeLatches j (f p) (f v)
  cone_up p v cone = (cone.0, f cone.1, latch_up c j f replace part cone.0 v cone.1 cone.2, reaches_up c j f replace part cone.3)

  reached_from : (p : P) (node : List ℕ) (r : R) → ReachedAt whole All (ConeLatches j (f p)) node r → (v : P) × (f v ≡ r) × ReachedAt own On (ConeLatches c p) node v
  reached_from p [] r h = cone_from p r h
  reached_from p (k ∷ node) r h =
      let u = reached_from p node h.0 h.1 in
      let others = h.3 in
      let l = latch_from c j f replace part others.0 u.0 others.1 (subst (λ (s : R). IsLatch j others.0 s others.1) (sym u.1) others.2) in
      let v = cone_from l.0 r (subst (λ (s : R). ConeLatches j s r) (sym l.2) others.3) in
      (v.0, v.1, (u.0, u.2, ap class u.1 ∙ h.2, (others.0, l.0, l.1, v.2, λ on e. others.4 (subst All u.1 (on_up u.0 on)) (sym v.1 ∙ (ap f e ∙ u.1)))))

  reached_up : (p : P) (node : List ℕ) (v : P) → ReachedAt own On (ConeLatches c p) node v → ReachedAt whole All (ConeLatches j (f p)) node (f v)
  reached_up p [] v h = cone_up p v h
  reached_up p (k ∷ node) v h =
      let others = h.3 in
      (f h.0, reached_up p node h.0 h.1, h.2, (others.0, f others.1, latch_up c j f replace part others.0 h.0 others.1 others.2, cone_up others.1 v others.3, λ on e. others.4 (on_from h.0 on) (part.one v h.0 e)))

  enable_up : (bits : ℕ → List ℕ → Bool) (u : P) (node : List ℕ) (bit : Bool) → IsEnable own On bits u node bit → IsEnable whole All bits (f u) node bit
  enable_up bits u node bit (IsEnable.always off e) = IsEnable.always (λ on. off (on_from u on)) e
  enable_up bits u node bit (IsEnable.own {name = name} {next = next} on latch low high e) = IsEnable.own (on_up u on) (latch_up c j f replace part name u next latch) (unfolds_up low) (unfolds_up high) e

  enable_from : (bits : ℕ → List ℕ → Bool) (u : P) (node : List ℕ) (bit : Bool) → IsEnable whole All bits (f u) node bit → IsEnable own On bits u node bit
  enable_from bits u node bit (IsEnable.always off e) = IsEnable.always (λ on. off (on_up u on)) e
  enable_from bits u node bit (IsEnable.own {name = name} {next = next} on latch low high e) =
      let l = latch_from c j f replace part name u next latch in
      IsEnable.own (on_from u on) l.1 (unfolds_from low (Some (u, false)) refl l.0 l.2) (unfolds_from high (Some (u, true)) refl l.0 l.2) e

  pub care_same : (p : P) (bits : ℕ → List ℕ → Bool) → HasCare own On (ConeLatches c p) bits ↔ HasCare whole All (ConeLatches j (f p)) bits
  care_same p bits = (
    λ care node r h. let v = reached_from p node r h in subst (λ (s : R). IsEnable whole All bits s (class s ∷ node) true) v.1 (enable_up bits v.0 (class (f v.0) ∷ node) true (care node v.0 v.2)),
    λ care node v h. enable_from bits v (class (f v) ∷ node) true (care node (f v) (reached_up p node v h)),
  )

  pub tree_same : (put : Option (P × Bool)) (p : P) (node : List ℕ) (tree : Tree (List ℕ)) → EventUnfolds own On put p node tree ↔ EventUnfolds whole All (moved_put f put) (f p) node tree
  tree_same put p node tree = (λ h. unfolds_up h, λ h. unfolds_from h put refl p refl)

  pub enable_same : (bits : ℕ → List ℕ → Bool) (u : P) (node : List ℕ) (bit : Bool) → IsEnable own On bits u node bit ↔ IsEnable whole All bits (f u) node bit
  enable_same bits u node bit = (enable_up bits u node bit, enable_from bits u node bit)

pub sides_unfold_in_nets : SidesUnfoldAsParts
sides_unfold_in_nets a b m n left right class na nb left_long = (
  record {
    trees = tree_same a (joined a b) Left (replace_left a b) (left_part a b) some meets left (left ++ right) class left_up left_down;
    enables = enable_same a (joined a b) Left (replace_left a b) (left_part a b) some meets left (left ++ right) class left_up left_down;
    cares = care_same a (joined a b) Left (replace_left a b) (left_part a b) some meets left (left ++ right) class left_up left_down;
  },
  record {
    trees = tree_same b (joined a b) Right (replace_right a b) (right_part a b) some meets right (left ++ right) class right_up right_down;
    enables = enable_same b (joined a b) Right (replace_right a b) (right_part a b) some meets right (left ++ right) class right_up right_down;
    cares = care_same b (joined a b) Right (replace_right a b) (right_part a b) some meets right (left ++ right) class right_up right_down;
  },
)
  where
    some : Either ℕ ℕ → Bool
    some = beside (net_value a (λ p. false)) (net_value b (λ q. false))

    meets : Meets (joined a b) some
    meets = meets_both a b (net_value a (λ p. false)) (net_value b (λ q. false)) (net_value-extends a m na (λ p. false)).meets (net_value-extends b n nb (λ q. false)).meets

    left_up : (p i : ℕ) → IsInputNumber a left p i → IsInputNumber (joined a b) (left ++ right) (Left p) i
    left_up p i h = number_left a.inputs left (map (moved_name Right) b.inputs) right p i h

    right_up : (q i : ℕ) → IsInputNumber b right q i → IsInputNumber (joined a b) (left ++ right) (Right q) i
    right_up q i h = number_right a.inputs left b.inputs right q i left_long h

    Number : Either ℕ ℕ → ℕ → Type 0
    Number r i = ((p : ℕ) × (Left p ≡ r) × IsInputNumber a left p i) ⊎ ((q : ℕ) × (Right q ≡ r) × IsInputNumber b right q i)

    left_down : (p i : ℕ) → IsInputNumber (joined a b) (left ++ right) (Left p) i → IsInputNumber a left p i
    left_down p i h = go (joined_number a b left right left_long (Left p) i h)
      where
        go : Number (Left p) i → IsInputNumber a left p i
        go (inl x) = subst (λ (q : ℕ). IsInputNumber a left q i) (left_one x.0 p x.1) x.2
        go (inr y) = absurd (left_is_not_right p y.0 (sym y.1))

    right_down : (q i : ℕ) → IsInputNumber (joined a b) (left ++ right) (Right q) i → IsInputNumber b right q i
    right_down q i h = go (joined_number a b left right left_long (Right q) i h)
      where
        go : Number (Right q) i → IsInputNumber b right q i
        go (inl x) = absurd (left_is_not_right x.0 q x.1)
        go (inr y) = subst (λ (p : ℕ). IsInputNumber b right p i) (right_one y.0 q y.1) y.2
