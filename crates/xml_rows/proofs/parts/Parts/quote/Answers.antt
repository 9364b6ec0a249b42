use Rattle.std.proofs.Common.{ap, ◌∙◌, refl}
use Rattle.tree_model.specs.Rows.{lines_of}
use Rattle.tree_model.proofs.Tables.{lines_valued}
use Rattle.xml_rows.specs.BuilderView.{tag_of}
use Rattle.xml_rows.specs.Work.{in_tag}
use Rattle.xml_rows.specs.declared.tag.Pair.{Pair}
use Rattle.xml_rows.proofs.Parted.{same_work}
use Rattle.xml_rows.proofs.Valued.{valued_placed}
use Rattle.xml_rows.proofs.Quoted.{value_ready, tag_quoted, pairs_quoted}
use Rattle.xml_rows.proofs.parts.Parts.quote.Goals as goal

pub returns-clause-work : goal.returns-clause-work
returns-clause-work c =
    let pair : Pair = record { name = c.args.self.now.tag.key; val = c.settle-val.result } in
    let values = c.args.self.now.values in
    let kept = value_ready _ _ values c.args.self.now.tag c.args.self.now.mode c.requires.mode c.requires.tidy.ready in
    same_work _ _
    (ap (λ l. lines_of c.args.self.now.elements.names.names l c.args.self.now.elements.rows.rows) c.settle-val.ensures.settled ∙ lines_valued _ values.settled values.pending _ c.requires.tidy.placed) refl (rw c.requires.mode refl) refl refl refl refl
    (ap (λ l. in_tag (record (tag_of values.settled c.args.self.now.tag) { pairs = l }))
    (pairs_quoted values.settled values.pending c.settle-val.new.self.settled c.args.self.now.tag.pairs.items c.push.new.self.items pair c.settle-val.ensures.settled c.in_ok-push.ensures.items c.settle-val.ensures.at c.settle-val.ensures.len
    kept.kept.pairs))

pub returns-clause-tidy : goal.returns-clause-tidy
returns-clause-tidy c =
    let pair : Pair = record { name = c.args.self.now.tag.key; val = c.settle-val.result } in
    let values = c.args.self.now.values in
    let kept = value_ready _ _ values c.args.self.now.tag c.args.self.now.mode c.requires.mode c.requires.tidy.ready in
    record {
      placed = valued_placed _ values.settled values.pending _ _ c.settle-val.ensures.settled c.requires.tidy.placed;
      uris = c.requires.tidy.uris;
      outer = c.requires.tidy.outer;
      ready = (tag_quoted _ _ values c.settle-val.new.self c.args.self.now.tag _ pair c.settle-val.ensures.settled refl c.in_ok-push.ensures.items refl c.settle-val.ensures.at c.settle-val.ensures.len kept, c.settle-val.ensures.pending);
    }
