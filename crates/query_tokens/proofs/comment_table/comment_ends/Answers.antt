use Rattle.std.proofs.Common.{ap, sym, ◌∙◌, subst, length, ◌+◌, List, ℕ}
use Rattle.std.proofs.lemmas.Result.{IfOk-weaker}
use Rattle.query_tokens.specs.CommentEnds.{comment_ends_below}
use Rattle.query_tokens.specs.Reads.{AreCommentEnds}
use Rattle.query_tokens.proofs.Table.{filled_right, none_right}
use Rattle.query_tokens.proofs.comment_table.comment_ends.Goals as goal

pub returns-then-contains : goal.returns-then-contains
returns-then-contains c =
    let same = ap (λ (t : List ℕ). comment_ends_below t (length t + 1)) c.as_bytes.ensures.value in
    IfOk-weaker c.filled.result _ _ (λ v e. subst (AreCommentEnds c.args.query.now) (sym (e ∙ same)) (filled_right c.args.query.now)) c.filled.ensures

pub returns-else-contains : goal.returns-else-contains
returns-else-contains c = subst (AreCommentEnds c.args.query.now) (sym c.new.ensures.items) (none_right c.args.query.now c.if-contains.ensures.cases)
