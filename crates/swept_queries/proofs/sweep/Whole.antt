-- The new graph is built node by node, and its literals have the roots' values.
use Rattle.std.proofs.Common.{◌≡◌, ℕ, zero, suc, ◌+◌, ◌*◌, ◌/◌, ◌%◌, ◌<◌, ◌≤◌, ◌==◌, max, if◌then◌else◌, Bool, List, [], ◌∷◌, ◌++◌, length, take, get_or, slice_get, Some, refl, sym, ◌∙◌, ap, subst, arith, inl, inr}
use Rattle.std.specs.Prelude.{◌⊎◌}
use Rattle.std.proofs.lemmas.Option.{none-some, same_Some, slice_get-get_or, slice_get_within}
use Rattle.std.proofs.lemmas.List.{take_more, length-append}
use Rattle.aig.specs.declared.node.Lit.{Lit}
use Rattle.aig.specs.declared.node.Node.{Node}
use Rattle.aig.specs.declared.node.Node.TheVariants.{Constant}
use Rattle.aig.specs.Graph.{IsGraph, flip, vars_of}
use Rattle.aig.specs.Values.{value, KeepsValues}
use Rattle.aig.proofs.CoverMeaning.{value-zero}
use Rattle.aig.proofs.Growth.{vars_of-append}
use Rattle.aig.proofs.Literals.{parity}
use Rattle.swept_queries.specs.node_agreement.Standing.{StandsFor, AreStandIns, plainly, literal_in}
use Rattle.swept_queries.specs.node_agreement.Agreeing.{Agree}
use Rattle.swept_queries.specs.sweep.Swept.{AreLiteralsFor, HasNoOtherInputs, IsSwept}
use Rattle.swept_queries.specs.node_agreement.Leads.{HasFewInputs, AreLeads}
use Rattle.swept_queries.proofs.node_agreement.Stood.{stands-even, stands-odd, stands-trans, AreStandIns-grows, AreStandIns-push}

-- one node more
pub stand-step : (g f h k : List Node) (map : List Lit) (n : ℕ) (x y : Lit) → AreStandIns g f map → length map ≡ n → KeepsValues f h → length f ≤ length h → StandsFor plainly g h (2 * n) x.0
    → k ≡ h → StandsFor plainly k k x.0 y.0 → (more : List Lit) → more ≡ map ++ y ∷ [] → AreStandIns g k more
stand-step g f h k map n x y stand each keeps grows made e kept more is =
    let old : AreStandIns g k map = subst (λ (w : List Node). AreStandIns g w map) (sym e) (AreStandIns-grows g f h keeps grows map stand) in
    let here : StandsFor plainly g k (2 * n) y.0 = stands-trans g k k (2 * n) x.0 y.0 (subst (λ (w : List Node). StandsFor plainly g w (2 * n) x.0) (sym e) made) kept in
    subst (AreStandIns g k) (sym is) (AreStandIns-push g k map n y (sym each) old here)

pub each-step : (map more : List Lit) (n : ℕ) (y : Lit) → length map ≡ n → more ≡ map ++ y ∷ [] → length more ≡ n + 1
each-step map more n y each is = ap length is ∙ length-append map (y ∷ []) ∙ ap (λ (m : ℕ). m + 1) each

pub vars-step : (g f h k : List Node) (n : ℕ) → n < length g → vars_of f ≡ vars_of (take n g) → ((node : Node) → slice_get g n ≡ Some node → vars_of h ≡ max (vars_of (node ∷ [])) (vars_of f)) → k ≡ h → vars_of k ≡ vars_of (take (n + 1) g)
vars-step g f h k n inside same step e =
    let one : vars_of h ≡ max (vars_of (get_or g n Constant ∷ [])) (vars_of f) = step (get_or g n Constant) (slice_get-get_or g n Constant inside) in
    let both : vars_of (take (n + 1) g) ≡ max (vars_of (take n g)) (vars_of (get_or g n Constant ∷ [])) =
    ap vars_of (take_more g n Constant inside) ∙ vars_of-append (take n g) (get_or g n Constant ∷ []) in
    let front : vars_of k ≡ vars_of h = ap vars_of e in
    let swapped : max (vars_of (get_or g n Constant ∷ [])) (vars_of f) ≡ max (vars_of (take n g)) (vars_of (get_or g n Constant ∷ [])) =
    greater (vars_of (get_or g n Constant ∷ [])) (vars_of f) (vars_of (take n g)) same in
    front ∙ one ∙ swapped ∙ sym both
  where
    greater : (a b c : ℕ) → b ≡ c → max a b ≡ max c a
    greater a b c e = omega arith

-- the constant stands for itself
pub begun-stand : (g h : List Node) → IsGraph g → IsGraph h → (map : List Lit) → map ≡ record { 0 = 0 } ∷ [] → AreStandIns g h map
begun-stand g h graph made map e n y at = by n (ap (λ (lits : List Lit). slice_get lits n) (sym e) ∙ at)
  where
    some : 0 < length h
    some = slice_get_within h 0 Constant made.constant

    by : (n : ℕ) → slice_get (record { 0 = 0 } ∷ []) n ≡ Some y → StandsFor plainly g h (2 * n) y.0
    by zero at =
        let same : record { 0 = 0 } ≡ y = same_Some (record { 0 = 0 }) y at in
        subst (λ (w : Lit). StandsFor plainly g h (2 * 0) w.0) same
        (record { within = omega (arith, some); same = λ a. value-zero h made a ∙ sym (value-zero g graph a) })
    by (suc n) at = absurd (none-some y at)

pub begun-vars : (g : List Node) → IsGraph g → 0 ≡ vars_of (take 1 g)
begun-vars g graph = by g graph.constant
  where
    by : (g : List Node) → slice_get g 0 ≡ Some Constant → 0 ≡ vars_of (take 1 g)
    by [] at = absurd (none-some Constant at)
    by (x ∷ xs) at = let e : x ≡ Constant = same_Some x Constant at in sym (ap (λ (node : Node). vars_of (node ∷ [])) e)

take-whole : {X : Type 0} (xs : List X) → take (length xs) xs ≡ xs
take-whole [] = refl
take-whole (x ∷ xs) = ap (λ ys. x ∷ ys) (take-whole xs)

vars-whole : (g h : List Node) → vars_of h ≡ vars_of (take (length g) g) → vars_of h ≡ vars_of g
vars-whole g h e = e ∙ ap vars_of (take-whole g)

-- the literal for one of the old graph
literal-stands : (g h : List Node) (map : List Lit) → AreStandIns g h map → (x : ℕ) → x < 2 * length map → StandsFor plainly g h x (literal_in map x)
literal-stands g h map stand x within = by (parity x)
  where
    inside : x / 2 < length map
    inside = omega (arith, within)

    it : Lit
    it = get_or map (x / 2) (record { 0 = 0 })

    stands : StandsFor plainly g h (2 * (x / 2)) (get_or map (x / 2) (record { 0 = 0 })).0
    stands = stand (x / 2) (get_or map (x / 2) (record { 0 = 0 })) (slice_get-get_or map (x / 2) (record { 0 = 0 }) inside)

    by : (x % 2 ≡ 0) ⊎ (x % 2 ≡ 1) → StandsFor plainly g h x (literal_in map x)
    by (inl even) =
        let e : literal_in map x ≡ (get_or map (x / 2) (record { 0 = 0 })).0 =
        ap (λ (r : ℕ). if r == 0 then (get_or map (x / 2) (record { 0 = 0 })).0 else flip (get_or map (x / 2) (record { 0 = 0 })).0) even in
        subst (StandsFor plainly g h x) (sym e) (stands-even plainly g h x (get_or map (x / 2) (record { 0 = 0 })).0 even stands)
    by (inr odd) =
        let e : literal_in map x ≡ flip (get_or map (x / 2) (record { 0 = 0 })).0 =
        ap (λ (r : ℕ). if r == 0 then (get_or map (x / 2) (record { 0 = 0 })).0 else flip (get_or map (x / 2) (record { 0 = 0 })).0) odd in
        stands-odd plainly g h x (get_or map (x / 2) (record { 0 = 0 })).0 (literal_in map x) odd e stands

module _ (g h : List Node) (roots leads lits map : List Lit) (are : AreLeads g roots leads) (made : AreLiteralsFor map leads lits) (stand : AreStandIns g h map) (all : length map ≡ length g) where
  lead-at : (i : ℕ) (y : Lit) → slice_get lits i ≡ Some y → slice_get leads i ≡ Some (get_or leads i y)
  lead-at i y at = slice_get-get_or leads i y (omega (arith, slice_get_within lits i y at, made.each))

  literal-at : (i : ℕ) (y : Lit) → slice_get lits i ≡ Some y → StandsFor plainly g h (get_or leads i y).0 y.0
  literal-at i y at =
      let small : (get_or leads i y).0 < 2 * length map = omega (arith, are.within i (get_or leads i y) (lead-at i y at), all) in
      subst (StandsFor plainly g h (get_or leads i y).0) (sym (made.is i (get_or leads i y) y (lead-at i y at) at)) (literal-stands g h map stand (get_or leads i y).0 small)

  swept-each : length lits ≡ length roots
  swept-each = made.each ∙ are.each

  swept-within : (i : ℕ) (y : Lit) → slice_get lits i ≡ Some y → y.0 < 2 * length h
  swept-within i y at = (literal-at i y at).within

  swept-values : (i : ℕ) (x y : Lit) → slice_get roots i ≡ Some x → slice_get lits i ≡ Some y → (a : ℕ → Bool) → value h a y.0 ≡ value g a x.0
  swept-values i x y there at a = (literal-at i y at).same a ∙ are.values i x (get_or leads i y) there (lead-at i y at) a

  one-literal : (i j : ℕ) (y z : Lit) → slice_get lits i ≡ Some y → slice_get lits j ≡ Some z → get_or leads i y ≡ get_or leads j z → y ≡ z
  one-literal i j y z at there e =
      let same : y.0 ≡ z.0 = made.is i (get_or leads i y) y (lead-at i y at) at ∙ ap (λ (l : Lit). literal_in map l.0) e ∙ sym (made.is j (get_or leads j z) z (lead-at j z there) there) in
      let wrap : ℕ → Lit = λ n. record { 0 = n } in
      ap wrap same

  swept-equal : (i j : ℕ) (x y z : Lit) → slice_get roots i ≡ Some x → slice_get roots j ≡ Some x → slice_get lits i ≡ Some y → slice_get lits j ≡ Some z → y ≡ z
  swept-equal i j x y z one other at there = one-literal i j y z at there (are.equal i j x (get_or leads i y) (get_or leads j z) one other (lead-at i y at) (lead-at j z there))

  swept-narrow : HasFewInputs g → (i j : ℕ) (x w y z : Lit) → slice_get roots i ≡ Some x → slice_get roots j ≡ Some w → Agree g x.0 w.0 → slice_get lits i ≡ Some y → slice_get lits j ≡ Some z → y ≡ z
  swept-narrow few i j x w y z one other agree at there =
      one-literal i j y z at there (are.narrow few i j x w (get_or leads i y) (get_or leads j z) one other agree (lead-at i y at) (lead-at j z there))

  -- the graph that was grown from all of the other, with these literals
  pub is_swept : vars_of h ≡ vars_of (take (length g) g) → HasNoOtherInputs g h → IsSwept g roots (record { aig = h; lits = lits })
  is_swept vars inputs = record { each = swept-each; within = swept-within; values = swept-values; equal = swept-equal; narrow = swept-narrow; vars = vars-whole g h vars; inputs = inputs }
