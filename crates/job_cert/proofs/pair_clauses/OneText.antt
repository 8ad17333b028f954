-- Two texts have one list of clauses of a name, whichever nets they are loaded as.
use Rattle.std.proofs.Common.{◌≡◌, ℕ, List, sym, ap₂, subst}
use Rattle.std.specs.List.{Contains}
use Rattle.circuit_theory.specs.Interface.{AreNumbersOf, shared_inputs}
use Rattle.circuit_theory.specs.Tree.{Tree, Unfolds}
use Rattle.flat_net.specs.View.{NetView, circuit_of, ports_of}
use Rattle.flat_net.proofs.Nets.{sound_is_net}
use Rattle.design_trees.specs.OneTree.{AreNamedNumbers}
use Rattle.design_trees.proofs.OneTree.{output_tree}
use Rattle.sec_setup.proofs.ports.Columns.{read_stays}
use Rattle.sec_setup.proofs.ports.Shared.{are_matched}
use Rattle.plain_check.proofs.under_base.compare_base.CutPairs.{one_output}
use Rattle.pair_decide.specs.declared.cnf_encode.cnf.Cnf.{Cnf}
use Rattle.job_base.specs.sec_files.Loading.{Loads}
use Rattle.job_base.proofs.sec_files.Texts.{text_sound, text_comparable, one_text_net}
use Rattle.job_cert.specs.pair_clauses.Clauses.{ArePairClauses, IsOutput, TextsHaveOneEncoding}
use Rattle.job_cert.proofs.pair_clauses.OneEncoding.{AreOneCnf, trees_one_encoding}

-- an output has one tree in all nets of a text
module _ (text name : List ℕ) (a m : NetView) (la : Loads text a) (lm : Loads text m) (shared : List (List ℕ)) (left right : List ℕ) (l : AreNamedNumbers a shared left) (r : AreNamedNumbers m shared right)
    (p q : ℕ) (here : IsOutput (circuit_of a) name p) (there : IsOutput (circuit_of m) name q) where
  text_tree : (d e : ℕ) (s t : Tree ℕ) → Unfolds (circuit_of a) left p 0 d s → Unfolds (circuit_of m) right q 0 e t → s ≡ t
  text_tree d e s t u v =
      output_tree a m (one_text_net text a m la lm) (sound_is_net m (text_sound text m lm)) name (one_output m (text_comparable text m lm).distinct name) shared left right l r p q d e s t here there u v

module _ (x y name : List ℕ) (a b m k : NetView) (c d : Cnf) (la : Loads x a) (lb : Loads y b) (lm : Loads x m) (lk : Loads y k) (p : ArePairClauses a b name c) (q : ArePairClauses m k name d) where
  abbrev shared : List (List ℕ)
  shared = shared_inputs (ports_of a) (ports_of b)

  same_shared : shared_inputs (ports_of m) (ports_of k) ≡ shared
  same_shared = ap₂ shared_inputs (sym (one_text_net x a m la lm).ports) (sym (one_text_net y b k lb lk).ports)

  -- the inputs that are read are shared
  left_named : AreNamedNumbers a shared p.left
  left_named = record { others = p.right; numbers_are = p.left_numbers; read = read_stays a b }

  right_named : AreNamedNumbers b shared p.right
  right_named = record {
    others = p.left;
    numbers_are = p.right_numbers;
    read = λ n h. (are_matched (ports_of a) (ports_of b) p.unfolded.matches).inputs_back n (read_stays b a n h);
  }

  left_named_too : AreNamedNumbers m shared q.left
  left_named_too = record {
    others = q.right;
    numbers_are = subst (λ (s : List (List ℕ)). AreNumbersOf (ports_of m).inputs s q.left q.right) same_shared q.left_numbers;
    read = λ n h. subst (λ (s : List (List ℕ)). Contains s n) same_shared (read_stays m k n h);
  }

  right_named_too : AreNamedNumbers k shared q.right
  right_named_too = record {
    others = q.left;
    numbers_are = subst (λ (s : List (List ℕ)). AreNumbersOf (ports_of k).inputs s q.right q.left) same_shared q.right_numbers;
    read = λ n h. subst (λ (s : List (List ℕ)). Contains s n) same_shared ((are_matched (ports_of m) (ports_of k) q.unfolded.matches).inputs_back n (read_stays k m n h));
  }

  pub text_one_encoding : AreOneCnf c d
  text_one_encoding =
      let u = p.encoded in
      let v = q.encoded in
      trees_one_encoding c d u v
      (text_tree x name a m la lm shared p.left q.left left_named left_named_too p.left_place q.left_place p.left_output q.left_output u.left_depth v.left_depth u.left_tree v.left_tree u.left_unfolds v.left_unfolds)
      (text_tree y name b k lb lk shared p.right q.right right_named right_named_too p.right_place q.right_place p.right_output q.right_output u.right_depth v.right_depth u.right_tree v.right_tree u.right_unfolds v.right_unfolds)

pub have_one_text_encoding : TextsHaveOneEncoding
have_one_text_encoding x y name a b m k c d la lb lm lk p q =
    let same = text_one_encoding x y name a b m k c d la lb lm lk p q in
    (same.variables, same.clauses)
