-- The literals are those of the grown graph for the leads.
use Rattle.std.proofs.Common.{◌≡◌, List, sym, subst}
use Rattle.aig.specs.declared.node.Lit.{Lit}
use Rattle.swept_queries.specs.sweep.Swept.{AreLiteralsFor}
use Rattle.swept_queries.specs.node_agreement.Leads.{AreLeads}
use Rattle.swept_queries.proofs.sweep.Whole.{is_swept}
use Rattle.swept_queries.proofs.sweep.graph.sweep_across.Goals as goal

-- the same of lists that are the same
lists_are : (m m₂ l l₂ x x₂ : List Lit) → m ≡ m₂ → l ≡ l₂ → x₂ ≡ x → AreLiteralsFor m l x → AreLiteralsFor m₂ l₂ x₂
lists_are m m₂ l l₂ x x₂ p q r h = subst (λ (ms : List Lit). AreLiteralsFor ms l₂ x₂) p (subst (λ (ls : List Lit). AreLiteralsFor m ls x₂) q (subst (AreLiteralsFor m l) (sym r) h))

pub returns : goal.returns
returns c =
    is_swept c.args.aig.now c.in_ok-growth.growth.graph c.args.roots.now c.in_ok-leads.leads.items c.from_vec.result c.in_ok-growth.growth.map.items
    (subst (λ (rs : List Lit). AreLeads c.args.aig.now rs c.in_ok-leads.leads.items) c.as_slice.ensures c.in_ok-leads.ensures)
    (lists_are c.as_slice-3.result.now c.in_ok-growth.growth.map.items c.as_slice-4.result.now c.in_ok-leads.leads.items c.in_ok-lits.lits.items c.from_vec.result c.as_slice-3.ensures.value c.as_slice-4.ensures.value c.from_vec.ensures c.in_ok-lits.ensures)
    c.in_ok-growth.ensures.stand c.in_ok-growth.ensures.each c.in_ok-growth.ensures.vars c.in_ok-growth.ensures.inputs
