-- What is read of a file that is an object, and of one that is a table.
use Rattle.std.proofs.Common.{◌≡◌, List, ℕ, true, false, cond, Some, None, Ok, Option, Result, sym, refl, ap, ◌∙◌}
use Rattle.fault.specs.declared.Fault.{Fault}
use Rattle.fault.specs.Refusal.{ok_unless}
use Rattle.layout.specs.Reading.{fault_of, graph_of}
use Rattle.table.specs.Meaning.{text_after}
use Rattle.rules.specs.Verdict.{verdict}
use Rattle.object.specs.Meaning.{meaning}
use Rattle.object.specs.Reader.{after}
use Rattle.buffers.specs.Outcome.{is_object, refusal_of_file, graph_of_file}

accepted_none : (r : Option Fault) → ◌≡◌ {A = Result (Unit {0}) Fault} (Ok tt) (ok_unless r tt) → r ≡ None
accepted_none None h = refl
accepted_none (Some f) h = cc

-- the refusal and the graph of each kind

pub object_refusal : (b : List ℕ) → is_object b ≡ true → refusal_of_file b ≡ verdict b
unfolding refusal_of_file
object_refusal b e = ap (λ x. cond x (verdict b) (fault_of b)) e

pub table_refusal : (b : List ℕ) → is_object b ≡ false → refusal_of_file b ≡ fault_of b
unfolding refusal_of_file
table_refusal b e = ap (λ x. cond x (verdict b) (fault_of b)) e

object_graph : (b : List ℕ) → is_object b ≡ true → graph_of_file b ≡ meaning b
unfolding graph_of_file
object_graph b e = ap (λ x. cond x (meaning b) (graph_of b)) e

table_graph : (b : List ℕ) → is_object b ≡ false → graph_of_file b ≡ graph_of b
unfolding graph_of_file
table_graph b e = ap (λ x. cond x (meaning b) (graph_of b)) e

-- what a reader holds that accepted a file

pub object_read :
    (b old new : List ℕ) →
    is_object b ≡ true →
    ◌≡◌ {A = Result (Unit {0}) Fault} (Ok tt) (ok_unless (verdict b) tt) →
    new ≡ after (verdict b) b old →
    (refusal_of_file b ≡ None) × (meaning new ≡ graph_of_file b)
object_read b old new kind h e =
    let none : verdict b ≡ None = accepted_none (verdict b) h in
    let same : new ≡ b = e ∙ ap (λ v. after v b old) none in
    (object_refusal b kind ∙ none, ap meaning same ∙ sym (object_graph b kind))

pub table_read :
    (b old new : List ℕ) →
    is_object b ≡ false →
    ◌≡◌ {A = Result (Unit {0}) Fault} (Ok tt) (ok_unless (fault_of b) tt) →
    new ≡ text_after (fault_of b) b old →
    (refusal_of_file b ≡ None) × (graph_of new ≡ graph_of_file b)
table_read b old new kind h e =
    let none : fault_of b ≡ None = accepted_none (fault_of b) h in
    let same : new ≡ b = e ∙ ap (λ v. text_after v b old) none in
    (table_refusal b kind ∙ none, ap graph_of same ∙ sym (table_graph b kind))
