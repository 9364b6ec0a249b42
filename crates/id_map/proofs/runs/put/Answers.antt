use Rattle.std.proofs.Common.{◌≡◌, ◌+◌, ◌-◌, ◌<◌, true, length, ◌∙◌, sym, subst, arith}
use Rattle.id_map.specs.Changes.{joins}
use Rattle.id_map.proofs.Putting.{put_joined, put_apart, put_first, put_some, same_read}
use Rattle.id_map.proofs.runs.put.Goals as goal
use Rattle.id_map.proofs.runs.put.Goals.{else-len-gt0-via-then-len-gt0+else-goes_on, else-len-gt0-via-else-len-gt0}

pub returns-then-goes_on : goal.returns-then-goes_on
returns-then-goes_on c =
    let runs = c.args.runs.now.items in
    let k = c.len-len.result - 1 in
    let last : k + 1 ≡ length runs = omega arith in
    let lt : k < length runs = omega arith in
    let same : c.index.result.now ≡ c.index_mut.result.now = same_read runs k _ _ lt c.index.ensures c.index_mut.ensures.value in
    let on : joins c.index_mut.result.now c.args.run ≡ true = subst (λ x. joins x c.args.run ≡ true) same (sym c.goes_on.ensures ∙ c.if-goes_on.true) in
    put_joined runs k _ c.args.run last c.index_mut.ensures.value on ∙ put_some runs c.args.run c.if-run-eq0.false

pub returns : goal.returns
returns c =
    let runs = c.args.runs.now.items in
    c.in_ok-push.ensures.items ∙ elim c.else-len-gt0.branch [
      | else-len-gt0-via-then-len-gt0+else-goes_on w ↦ put_apart runs (c.len-len.result - 1) _ c.args.run (omega arith) w.index.ensures (sym w.goes_on.ensures ∙ w.if-goes_on.false)
      | else-len-gt0-via-else-len-gt0 w ↦ put_first runs c.args.run (omega arith)
    ] ∙ put_some runs c.args.run c.if-run-eq0.false
