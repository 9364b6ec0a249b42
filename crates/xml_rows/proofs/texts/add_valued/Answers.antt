use Rattle.std.proofs.Common.{◌≡◌, ◌++◌, rules}
use Rattle.tree_model.specs.XmlMeaning.{line_ends}
use Rattle.xml_rows.proofs.Valued.{valued_lines, valued_placed, value_within}
use Rattle.xml_rows.proofs.texts.add_valued.Goals as goal

pub returns-clause-lines : goal.returns-clause-lines
returns-clause-lines c = λ names placed.
    let value : c.add_lines.new.self.pending ≡ line_ends c.args.bytes.now = search rules in
    let grown : c.settle-val.new.self.settled ≡ c.args.values.now.settled ++ line_ends c.args.bytes.now = search rules in
    valued_lines names c.args.values.now.settled (line_ends c.args.bytes.now) c.settle-val.new.self.settled c.args.rows.now.rows c.add_leaf.new.self.rows c.args.kind c.args.name c.settle-val.result c.args.rows.now.open_at
    grown (search rules) (search rules) placed (c.in_ok-add_leaf.ensures.lines names c.settle-val.new.self.settled)

pub returns-clause-placed : goal.returns-clause-placed
returns-clause-placed c = λ names lt placed.
    let grown : c.settle-val.new.self.settled ≡ c.args.values.now.settled ++ line_ends c.args.bytes.now = search rules in
    c.in_ok-add_leaf.ensures.placed names c.settle-val.new.self.settled (valued_placed names c.args.values.now.settled _ _ _ grown placed) lt (value_within c.args.values.now.settled (line_ends c.args.bytes.now) _ _ grown (search rules) (search rules))
