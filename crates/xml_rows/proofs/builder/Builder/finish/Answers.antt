use Rattle.std.proofs.Common.{◌≡◌, ap, ◌∙◌, rules}
use Rattle.xml_rows.specs.Work.{finished}
use Rattle.xml_rows.specs.declared.parts.Parts.{Parts}
use Rattle.xml_rows.proofs.Rowing.{finished_by}
use Rattle.xml_rows.proofs.builder.Builder.finish.Goals as goal

pub returns-clause-lines : goal.returns-clause-lines
returns-clause-lines c =
    let heap : c.into_heap.result ≡ c.self.inside.parts.value.values.settled = search rules in
    let names : c.into_pool.result ≡ c.self.inside.parts.value.elements.names.names = search rules in
    let rows = ap (λ (p : Parts). p.elements.rows.rows) c.into_inner-elements.ensures in
    finished_by _ _ _ _ _ _ c.into_rows.result.items names heap rows (c.into_rows.ensures.lines c.into_pool.result c.into_heap.result) ∙ ap finished c.self.view_is

pub returns-clause-placed : goal.returns-clause-placed
returns-clause-placed c =
    let heap : c.into_heap.result ≡ c.self.inside.parts.value.values.settled = search rules in
    let names : c.into_pool.result ≡ c.self.inside.parts.value.elements.names.names = search rules in
    let rows = ap (λ (p : Parts). p.elements.rows.rows) c.into_inner-elements.ensures in
    c.into_rows.ensures.placed c.into_pool.result c.into_heap.result (rw (names, heap, rows) c.self.invariant.placed)
