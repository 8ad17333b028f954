-- A care that says what is known holds under each assignment of the graph.
use Rattle.std.proofs.Common.{◌≡◌, ℕ, ◌*◌, ◌<◌, ◌≤◌, Bool, true, false, not, ◌&&◌, List, length, refl, sym, ◌∙◌, ap, arith}
use Rattle.aig.specs.declared.node.Lit.{Lit}
use Rattle.aig.specs.declared.node.Node.{Node}
use Rattle.aig.specs.Graph.{IsGraph}
use Rattle.aig.specs.Values.{value, KeepsValues}
use Rattle.aig.proofs.CoverMeaning.{value-one}
use Rattle.aig.proofs.Insert.{graph-some}
use Rattle.swept_queries.specs.node_agreement.Standing.{StandsFor, AreLocal, by_nodes}
use Rattle.swept_queries.proofs.node_agreement.Stood.{stands-grows}

always : (b : Bool) → true && not (b && not b) ≡ true
always true = refl
always false = refl

module _ (g : List Node) where
  pub local-grows : (h k : List Node) → KeepsValues h k → length h ≤ length k → (numbers : List ℕ) (lits : List Lit) → AreLocal g numbers h lits → AreLocal g numbers k lits
  local-grows h k keeps more numbers lits are p n y at there = stands-grows (by_nodes g) g h k keeps more (2 * n) y.0 (are p n y at there)

  -- the constant 1 holds
  pub one-holds : IsGraph g → (h : List Node) → IsGraph h → StandsFor (by_nodes g) g h 1 1
  one-holds graph h part =
      let some : 0 < length h = graph-some h part in
      record { within = omega (arith, some); same = λ a. value-one h part (by_nodes g a) ∙ sym (value-one g graph a) }

  -- so does a care that holds, with an implication between two literals of one value
  pub implied-holds : IsGraph g → (h k : List Node) (care y z x w v : ℕ) → StandsFor (by_nodes g) g h 1 care → StandsFor (by_nodes g) g h w y → StandsFor (by_nodes g) g h v z → ((a : ℕ → Bool) → value g a w ≡ value g a v)
      → x < 2 * length k → ((b : ℕ → Bool) → value k b x ≡ value h b care && not (value h b y && not (value h b z))) → StandsFor (by_nodes g) g k 1 x
  implied-holds graph h k care y z x w v cared left right one within made = record {
    within = within;
    same = λ a.
        made (by_nodes g a) ∙ ap (λ (c : Bool). c && not (value h (by_nodes g a) y && not (value h (by_nodes g a) z))) (cared.same a ∙ value-one g graph a)
        ∙ ap (λ (b : Bool). true && not (b && not (value h (by_nodes g a) z))) (left.same a ∙ one a) ∙ ap (λ (b : Bool). true && not (value g a v && not b)) (right.same a)
        ∙ always (value g a v) ∙ sym (value-one g graph a);
  }
