use Rattle.static_rules.proofs.Checking.{is_checked, checks}
use Rattle.static_rules.proofs.verdict.check.Goals as goal

pub invariant_of-result : goal.invariant_of-result
invariant_of-result c =
    is_checked c.args.query _ _ _ _ _ _ c.tree.ensures.value c.in-Ok.ensures c.in_default.ensures c.into_tree.ensures.value
    c.in-Ok-resolved.ensures c.is_updating-is_updating.ensures c.get.ensures c.into_tree.ensures.read

pub returns-in-Ok-resolved : goal.returns-in-Ok-resolved
returns-in-Ok-resolved c =
    checks c.args.query _ _ _ _ _ _ c.tree.ensures.value c.in-Ok.ensures c.in_default.ensures c.into_tree.ensures.value
    c.in-Ok-resolved.ensures c.is_updating-is_updating.ensures c.get.ensures
