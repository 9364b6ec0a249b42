use Rattle.std.proofs.Common.{rules, ◌<◌, length, ◌≡◌, ◌++◌, ◌∷◌, sym, ap, ◌∙◌}
use Rattle.tree_model.specs.XmlMeaning.{line_ends}
use Rattle.xml_rows.proofs.Lines.{lines_step_by, lines_last_by, lines_none, pending_step, pending_last, pending_none}
use Rattle.xml_rows.proofs.values.Values.add_lines.Goals as goal

pub returns-then-is_empty-clause-pending : goal.returns-then-is_empty-clause-pending
returns-then-is_empty-clause-pending c =
    let none : length c.split_at.result.1.now ≡ 0 = search rules in
    let last = lines_last_by c.loop-rest.rest.now _ _ _ c.line_len.ensures.len c.split_at.ensures.front c.split_at.ensures.back none in
    pending_last _ _ _ _ _ c.loop-rest.invariant.pending last c.in_ok-add.ensures.pending

pub loop-rest-preserved : goal.loop-rest-preserved
loop-rest-preserved c =
    let some : 0 < length c.split_at.result.1.now = search rules in
    let step = lines_step_by c.loop-rest.rest.now _ _ _ c.line_len.ensures.len c.split_at.ensures.front c.split_at.ensures.back some in
    record {
      settled = search rules;
      pending = pending_step c.loop-rest.self.pending _ _ c.split_at.result.0.now _ _ _ _ c.loop-rest.invariant.pending
          (step ∙ ap (λ l. c.split_at.result.0.now ++ 10 ∷ line_ends l) (sym c.behind_break-rest.ensures.rest)) c.in_ok-add.ensures.pending c.in_ok-add-2.ensures.pending;
    }

pub returns-clause-pending : goal.returns-clause-pending
returns-clause-pending c =
    let none : length c.loop-rest.rest.now ≡ 0 = search rules in
    pending_none _ _ _ c.loop-rest.invariant.pending (lines_none _ none)
