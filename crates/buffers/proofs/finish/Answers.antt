use Rattle.std.proofs.Common.{◌≡◌, length, ◌∙◌, subst}
use Rattle.calls.specs.declared.Call.TheVariants.{Fold}
use Rattle.calls.specs.declared.Answer.TheVariants.{Merged}
use Rattle.layout.specs.Layout.{text_of}
use Rattle.foldmap.specs.Map.{map_text}
use Rattle.runs.specs.State.{step, answer}
use Rattle.ledger.specs.Told.{told}
use Rattle.buffers.proofs.Counting.{counted}
use Rattle.buffers.proofs.finish.Goals as goal

pub returns-clause-done : goal.returns-clause-done
returns-clause-done g c =
    let graph = g.G.SectionGraph.graph in
    let once = c.sweep-dropped in
    let twice = c.fold-present in
    let b = c.args.pile.now.below in
    let s = told (graph b) in
    let over = once.ensures.over in
    let overs = twice.ensures.over ∙ over in
    let does = twice.ensures.does in
    counted
    (s c.args.pile.now.table)
    (s once.new.self.table)
    (s twice.new.self.table)
    once.result.0
    once.result.1
    twice.result.0
    twice.result.1
    twice.result.2
    c.table_length.result
    c.map_length.result
    once.ensures.does.state
    once.ensures.does.answer
    (subst (λ z. told (graph z) twice.new.self.table ≡ step (told (graph z) once.new.self.table) Fold) over does.state)
    (subst (λ z. Merged twice.result.0 twice.result.1 twice.result.2 ≡ answer (told (graph z) once.new.self.table) Fold) over does.answer)
    (subst (λ z. c.table_length.result ≡ length (text_of (told (graph z) twice.new.self.table).graph)) overs c.table_length.ensures)
    (subst (λ z. c.map_length.result ≡ length (map_text (told (graph z) twice.new.self.table))) overs c.map_length.ensures)
