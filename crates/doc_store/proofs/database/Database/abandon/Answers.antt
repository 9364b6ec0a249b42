use Rattle.std.proofs.Common.{false}
use Rattle.doc_store.specs.Stored.{Stored, stored}
use Rattle.doc_store.proofs.Branches.{GivenUp, given_up}
use Rattle.doc_store.proofs.database.Database.abandon.Goals as goal

up : (c : goal.After-drop-b-inside) → GivenUp c.args.self.now (stored c.self.inside.name c.self.inside.next c.self.inside.table c.give_up.new._pool c.self.inside.ids c.back_to.new.self c.back_to-2.new.self false) c.args.b
up c = given_up c.args.self.now _ c.args.b _ c.give_up.new._pool c.back_to.new.self c.back_to-2.new.self c.self.view_is c.b.view_is c.requires.out c.self.invariant c.give_up.ensures.others c.back_to.ensures c.back_to-2.ensures

pub invariant_of-self : goal.invariant_of-self
invariant_of-self c = (up c).kept

pub returns : goal.returns
returns c = (up c).is
