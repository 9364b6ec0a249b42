use Rattle.xml_rows.proofs.Valued.{copied}
use Rattle.xml_rows.proofs.values.Values.add_copy.Goals as goal

pub returns-clause-pending : goal.returns-clause-pending
returns-clause-pending c = copied c.self.inside.heap c.append_copy.new.self c.self.inside.from c.args.val c.args.self.now c.self.invariant c.self.view_is c.requires.within c.in_ok-append_copy.ensures.grown
