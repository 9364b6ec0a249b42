use Rattle.std.proofs.Common.{◌+◌, ◌++◌, take, drop, sym, ap, ◌∙◌, subst}
use Rattle.std.specs.List.{All}
use Rattle.id_map.specs.Ids.{ids_from}
use Rattle.id_map.specs.Changes.{Fits, changed_by_pre}
use Rattle.id_map.specs.Spans.{ids_of}
use Rattle.id_map.proofs.Changing.{change_is, fits_by_pre, fits_by_id, map_made, ids-changed}
use Rattle.id_map.proofs.map.IdMap.replace.Goals as goal

pub by_id_changed-requires-clause-fit : goal.by_id_changed-requires-clause-fit
by_id_changed-requires-clause-fit c =
    let from = c.args.run.pre + c.args.removed in
    let change = change_is c.self.inside.by_pre.items c.self.inside.by_id.items c.args.self.now c.args.run c.args.removed c.self.invariant c.self.view_is c.requires.within c.requires.small c.requires.unused c.requires.few in
    subst (λ l. All (Fits from (c.args.run.pre + c.args.run.n)) l) (sym c.as_slice-runs.ensures.value) (fits_by_id c.self.inside.by_pre.items c.self.inside.by_id.items c.args.run from c.self.invariant change)

pub by_pre_changed-requires-clause-fit : goal.by_pre_changed-requires-clause-fit
by_pre_changed-requires-clause-fit c =
    let from = c.args.run.pre + c.args.removed in
    let change = change_is c.self.inside.by_pre.items c.self.inside.by_id.items c.args.self.now c.args.run c.args.removed c.self.invariant c.self.view_is c.requires.within c.requires.small c.requires.unused c.requires.few in
    subst (λ l. All (Fits from (c.args.run.pre + c.args.run.n)) l) (sym c.as_slice.ensures.value) (fits_by_pre c.self.inside.by_pre.items c.self.inside.by_id.items c.args.run from c.self.invariant change)

pub invariant_of-self : goal.invariant_of-self
invariant_of-self c =
    let from = c.args.run.pre + c.args.removed in
    let change = change_is c.self.inside.by_pre.items c.self.inside.by_id.items c.args.self.now c.args.run c.args.removed c.self.invariant c.self.view_is c.requires.within c.requires.small c.requires.unused c.requires.few in
    map_made c.self.inside.by_pre.items c.self.inside.by_id.items c.as_slice-runs.result.now c.in_ok-by_pre.by_pre.items c.in_ok-by_id.by_id.items c.runs_up_to-place.result c.args.run from
    c.as_slice-runs.ensures.value c.self.invariant change c.runs_up_to-place.ensures (c.in_ok-by_pre.ensures ∙ ap (changed_by_pre c.args.run from) c.as_slice.ensures.value) c.in_ok-by_id.ensures

pub returns-clause-ok : goal.returns-clause-ok
returns-clause-ok c =
    let run = c.args.run in
    let from = run.pre + c.args.removed in
    ap ids_of (c.in_ok-by_pre.ensures ∙ ap (changed_by_pre run from) c.as_slice.ensures.value) ∙ ids-changed run from _ c.self.inside.by_pre.items c.self.invariant.laid
    ∙ ap (λ l. take run.pre l ++ (ids_from run.first_id run.n ++ drop from l)) c.self.view_is
