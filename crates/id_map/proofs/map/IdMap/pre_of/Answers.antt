use Rattle.std.proofs.Common.{◌≡◌, ℕ, ◌-◌, ◌<◌, List, None, ap, ◌∙◌, subst, arith}
use Rattle.std.proofs.lemmas.List.Elements.{recursion_from_All}
use Rattle.id_map.specs.Ids.{pre_with}
use Rattle.id_map.specs.Changes.{IsIdPlace}
use Rattle.id_map.specs.Spans.{ids_of, IsMap}
use Rattle.id_map.specs.declared.span.Span.{Span}
use Rattle.id_map.proofs.Searching.{last_is}
use Rattle.id_map.proofs.Finding.{found, found_fits, not_found, not_begun}
use Rattle.id_map.proofs.map.IdMap.pre_of.Goals as goal
use Rattle.id_map.proofs.map.IdMap.pre_of.Goals.{then-steps-run, else-steps-run}

-- the place in the slice is that in the runs
placed : (slice runs : List Span) (id place : ℕ) → slice ≡ runs → IsIdPlace slice id place → IsIdPlace runs id place
placed slice runs id place e h = subst (λ l. IsIdPlace l id place) e h

none_yet : (by_pre by_id : List Span) (id place : ℕ) → IsMap by_pre by_id → IsIdPlace by_id id place → place ≡ 0 → None ≡ pre_with id (ids_of by_pre)
none_yet by_pre by_id id place h at zero =
    let all = subst (λ k. IsIdPlace by_id id k) zero at in not_begun id by_pre by_id h (recursion_from_All (λ (s : Span). id < s.first_id) by_id all.behind)

pub returns-then-behind-eq0-clause-pre : goal.returns-then-behind-eq0-clause-pre
returns-then-behind-eq0-clause-pre c =
    let at = placed c.as_slice.result.now c.self.inside.by_id.items c.args.id c.runs_up_to-behind.result c.as_slice.ensures.value c.runs_up_to-behind.ensures in
    none_yet c.self.inside.by_pre.items c.self.inside.by_id.items c.args.id c.runs_up_to-behind.result c.self.invariant at c.if-behind-eq0.true ∙ ap (pre_with c.args.id) c.self.view_is

pub overflow_sub-steps : goal.overflow_sub-steps
overflow_sub-steps c =
    let at = placed c.as_slice.result.now c.self.inside.by_id.items c.args.id c.runs_up_to-behind.result c.as_slice.ensures.value c.runs_up_to-behind.ensures in
    (last_is c.runs_up_to-behind.result c.args.id c.self.inside.by_id.items c.index-run.result.now c.if-behind-eq0.false at c.index-run.ensures).first

pub overflow_add-result : goal.overflow_add-result
overflow_add-result c =
    let at = placed c.as_slice.result.now c.self.inside.by_id.items c.args.id c.runs_up_to-behind.result c.as_slice.ensures.value c.runs_up_to-behind.ensures in
    let last = last_is c.runs_up_to-behind.result c.args.id c.self.inside.by_id.items c.index-run.result.now c.if-behind-eq0.false at c.index-run.ensures in
    omega (arith, found_fits c.args.id (c.runs_up_to-behind.result - 1) c.self.inside.by_pre.items c.self.inside.by_id.items c.index-run.result.now c.self.invariant last)

pub returns-clause-pre : goal.returns-clause-pre
returns-clause-pre c =
    let at = placed c.as_slice.result.now c.self.inside.by_id.items c.args.id c.runs_up_to-behind.result c.as_slice.ensures.value c.runs_up_to-behind.ensures in
    let last = last_is c.runs_up_to-behind.result c.args.id c.self.inside.by_id.items c.index-run.result.now c.if-behind-eq0.false at c.index-run.ensures in
    elim c.if-steps-run.branch [
      | then-steps-run w ↦ w.result-is ∙ found c.args.id (c.runs_up_to-behind.result - 1) c.self.inside.by_pre.items c.self.inside.by_id.items c.index-run.result.now c.self.invariant last w.if-steps-run.true
      | else-steps-run w ↦ w.result-is ∙ not_found c.args.id (c.runs_up_to-behind.result - 1) c.self.inside.by_pre.items c.self.inside.by_id.items c.index-run.result.now c.self.invariant last w.if-steps-run.false
    ] ∙ ap (pre_with c.args.id) c.self.view_is
