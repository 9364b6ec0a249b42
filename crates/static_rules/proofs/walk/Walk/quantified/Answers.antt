use Rattle.std.proofs.Common.{arith, ◌∙◌}
use Rattle.std.proofs.lemmas.Grind.{common_steps}
use Rattle.query_terms.specs.Static.{within}
use Rattle.static_rules.proofs.Kept.{variables_kept}
use Rattle.static_rules.proofs.walk.Walk.quantified.Goals as goal

pub returns : goal.returns
unfolding within
returns g c = (grind (arith, common_steps), variables_kept c.args.clauses.now _ _ _ _ c.variable_count-count.ensures (c.in_ok-part.ensures.1 ∙ c.in_ok-clauses.ensures.1) c.keep_variables.ensures)
