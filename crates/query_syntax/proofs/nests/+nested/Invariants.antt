use Rattle.query_syntax.proofs.nests.+nested.Given as goal

abbrev pub decreases-nested : goal.decreases-nested
decreases-nested l = l.source.room
