use Rattle.static_rules.proofs.walk.+find.Given as goal

abbrev pub decreases-find : goal.decreases-find
decreases-find l = l.depth
