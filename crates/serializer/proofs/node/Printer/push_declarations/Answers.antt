use Rattle.std.proofs.Common.{[], ◌∷◌, map}
use Rattle.tree_model.specs.Rows.{name_at, label_of}
use Rattle.serializer.proofs.Declaring.{prefixed, declares_more, text_more, declares_all, text_all}
use Rattle.serializer.proofs.node.Printer.push_declarations.Goals as goal

pub returns-clause-text : goal.returns-clause-text
returns-clause-text c =
    let t = c.args.self.now in
    let name = name_at t.names.now c.args.row.now.name in
    let own = rw c.get.ensures at c.in_ok-declare_own.ensures.declares in
    let first = rw c.name.ensures at c.in_ok-declare_name.ensures.declares in
    text_all c.args.place (label_of t.names.now t.heap.now c.args.row.now) (map (label_of t.names.now t.heap.now) c.args.attrs.now) c.args.bindings.now c.declare_own.new.bindings _ _ _ own (rw c.get.ensures at c.in_ok-declare_own.ensures.text)
    (text_more c.args.place (name ∷ []) (prefixed t.names.now t.heap.now c.args.attrs.now) c.declare_own.new.bindings c.declare_name.new.bindings _ _ _ first (rw c.name.ensures at c.in_ok-declare_name.ensures.text) c.in_ok-declare_prefixes.ensures.text)

pub returns-clause-declares : goal.returns-clause-declares
returns-clause-declares c =
    let t = c.args.self.now in
    let name = name_at t.names.now c.args.row.now.name in
    let own = rw c.get.ensures at c.in_ok-declare_own.ensures.declares in
    let first = rw c.name.ensures at c.in_ok-declare_name.ensures.declares in
    declares_all c.args.place (label_of t.names.now t.heap.now c.args.row.now) (map (label_of t.names.now t.heap.now) c.args.attrs.now) c.args.bindings.now c.declare_own.new.bindings _ own
    (declares_more c.args.place (name ∷ []) (prefixed t.names.now t.heap.now c.args.attrs.now) c.declare_own.new.bindings c.declare_name.new.bindings _ first c.in_ok-declare_prefixes.ensures.declares)
