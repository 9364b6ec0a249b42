use Rattle.std.proofs.Common.{◌≡◌, rules, true}
use Rattle.tree_model.specs.XmlMeaning.{is_kept_text}
use Rattle.tree_model.specs.declared.row.Kind.TheVariants.{Text}
use Rattle.xml_rows.proofs.Valued.{valued_lines, valued_placed, value_within, text_flushed}
use Rattle.xml_rows.proofs.texts.flush.Goals as goal

pub returns-clause-lines : goal.returns-clause-lines
returns-clause-lines c = λ names unnamed placed.
    let kept : is_kept_text c.args.strip c.args.values.now.pending ≡ true = search rules in
    text_flushed names c.args.unnamed c.args.strip c.args.values.now.pending _ _ c.args.rows.now.open_at kept unnamed
    (valued_lines names c.args.values.now.settled c.args.values.now.pending c.settle-val.new.self.settled c.args.rows.now.rows c.add_leaf.new.self.rows Text c.args.unnamed c.settle-val.result c.args.rows.now.open_at
    c.settle-val.ensures.settled c.settle-val.ensures.at c.settle-val.ensures.len placed (c.in_ok-add_leaf.ensures.lines names c.settle-val.new.self.settled))

pub returns-clause-placed : goal.returns-clause-placed
returns-clause-placed c = λ names lt placed.
    c.in_ok-add_leaf.ensures.placed names c.settle-val.new.self.settled (valued_placed names c.args.values.now.settled _ _ _ c.settle-val.ensures.settled placed) lt
    (value_within c.args.values.now.settled c.args.values.now.pending _ _ c.settle-val.ensures.settled c.settle-val.ensures.at c.settle-val.ensures.len)
