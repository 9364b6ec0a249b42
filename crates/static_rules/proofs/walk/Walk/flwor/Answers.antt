use Rattle.std.proofs.Common.{arith, ◌∙◌}
use Rattle.std.proofs.lemmas.Grind.{common_steps}
use Rattle.query_terms.specs.Static.{flwor, within}
use Rattle.static_rules.proofs.Kept.{variables_kept}
use Rattle.static_rules.proofs.walk.Walk.flwor.Goals as goal

pub returns : goal.returns
unfolding flwor within
returns g c = (grind (arith, common_steps), variables_kept c.args.clauses.now _ _ _ _ c.variable_count-count.ensures (c.in_ok-behind_clauses.ensures.1 ∙ c.in_ok-clauses.ensures.1) c.keep_variables.ensures)
