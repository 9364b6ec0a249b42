use Rattle.std.proofs.Common.{rules, sym, subst, ◌∙◌, ◌-◌, length}
use Rattle.std.specs.Str.{IsUtf8}
use Rattle.std.proofs.lemmas.Bool.{false≢true}
use Rattle.tree_model.specs.XmlGood.{AreChars}
use Rattle.doc_import.specs.Stopping.{IsStopped}
use Rattle.doc_import.proofs.Documents.{body_shorter, body_utf8, not_whole_answer, bad_chars_whole, whole_found, subset_front, stopped_answer, subset_whole, subset_bad}
use Rattle.doc_import.proofs.whole_text.document.Goals as goal

pub overflow_sub-at : goal.overflow_sub-at
overflow_sub-at c = body_shorter _ _ _ c.requires.head.1

pub read-requires-clause-few : goal.read-requires-clause-few
read-requires-clause-few c =
    let shorter = body_shorter c.args.text.now c.args.body.now c.requires.head.0 c.requires.head.1 in
    let few = c.requires.text.0 in
    search rules

pub read-requires-clause-text : goal.read-requires-clause-text
read-requires-clause-text c = body_utf8 _ _ _ c.requires.head.1 c.requires.text.1

pub returns-then-not-is_whole : goal.returns-then-not-is_whole
returns-then-not-is_whole c = not_whole_answer _ c.args.text.now c.args.body.now _ c.requires.text c.requires.encoding c.requires.head.1 _ _ c.in-Ok.ensures.led (λ same. let is = c.is_whole.ensures.1 same in absurd (search rules))

pub returns-then-not-are_chars : goal.returns-then-not-are_chars
returns-then-not-are_chars c = bad_chars_whole _ c.args.text.now c.args.body.now _ c.requires.text c.requires.encoding c.requires.head.1 _ _ c.in-Ok.ensures.led (λ chars. absurd (search rules))

pub whole-requires-clause-few : goal.whole-requires-clause-few
whole-requires-clause-few c =
    let shorter = body_shorter c.args.text.now c.args.body.now c.requires.head.0 c.requires.head.1 in
    let few = c.requires.text.0 in
    let at = c.in-Ok.ensures.at in
    search rules

pub whole-requires-clause-found : goal.whole-requires-clause-found
whole-requires-clause-found c = whole_found _ c.args.text.now c.args.body.now _ c.requires.text c.requires.encoding c.requires.head.1 _ _ c.in-Ok.ensures.led (c.is_whole.ensures.0 (search rules)) (search rules)

pub split_at-requires : goal.split_at-requires
split_at-requires c =
    let stop = subst (IsStopped c.args.strip (length c.args.text.now - length c.args.body.now) c.args.body.now) c.in-Err-InternalSubset.field-0-is c.in-Err-InternalSubset.ensures.fault in
    (subset_front c.args.text.now c.args.body.now c.requires.head.0 stop.0 c.in-Err-InternalSubset.at c.requires.head.1 c.requires.text.1 stop.1 stop.2).within

pub are_chars-requires-in-Err-InternalSubset : goal.are_chars-requires-in-Err-InternalSubset
are_chars-requires-in-Err-InternalSubset c =
    let stop = subst (IsStopped c.args.strip (length c.args.text.now - length c.args.body.now) c.args.body.now) c.in-Err-InternalSubset.field-0-is c.in-Err-InternalSubset.ensures.fault in
    subst IsUtf8 (sym c.split_at.ensures.front)
    (subset_front c.args.text.now c.args.body.now c.requires.head.0 stop.0 c.in-Err-InternalSubset.at c.requires.head.1 c.requires.text.1 stop.1 stop.2).utf8

pub returns-then-are_chars : goal.returns-then-are_chars
returns-then-are_chars c =
    let stop = subst (IsStopped c.args.strip (length c.args.text.now - length c.args.body.now) c.args.body.now) c.in-Err-InternalSubset.field-0-is c.in-Err-InternalSubset.ensures.fault in
    subset_whole c.args.strip c.args.text.now c.args.body.now c.requires.head.0 stop.0 _ c.requires.text c.requires.encoding c.requires.head.1 stop.1 stop.2 (subst AreChars c.split_at.ensures.front (sym c.if-are_chars.ensures))

pub returns-else-are_chars : goal.returns-else-are_chars
returns-else-are_chars c =
    let stop = subst (IsStopped c.args.strip (length c.args.text.now - length c.args.body.now) c.args.body.now) c.in-Err-InternalSubset.field-0-is c.in-Err-InternalSubset.ensures.fault in
    subset_bad c.args.strip c.args.text.now c.args.body.now c.requires.head.0 stop.0 _ c.requires.text c.requires.encoding c.requires.head.1 stop.1 stop.2
    (λ chars. false≢true (c.if-are_chars.ensures ∙ subst AreChars (sym c.split_at.ensures.front) chars))

pub returns-in-Err-Malformed : goal.returns-in-Err-Malformed
returns-in-Err-Malformed c = stopped_answer _ c.args.text.now c.args.body.now c.requires.head.0 c.requires.text c.requires.encoding c.requires.head.1
    (subst (IsStopped c.args.strip (length c.args.text.now - length c.args.body.now) c.args.body.now) c.in-Err-Malformed.field-0-is c.in-Err-Malformed.ensures.fault)
