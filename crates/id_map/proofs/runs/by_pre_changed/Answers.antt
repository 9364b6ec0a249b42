use Rattle.std.proofs.Common.{◌≡◌, ℕ, ◌+◌, ◌-◌, [], take, drop, length, ap, ap₂, ◌∙◌, arith}
use Rattle.std.proofs.lemmas.List.{take_rest}
use Rattle.id_map.specs.Changes.{put_run, fronts_put, backs_put}
use Rattle.id_map.specs.Spans.{ids_of}
use Rattle.id_map.proofs.Changing.{changed_by_pre_within}
use Rattle.id_map.proofs.runs.by_pre_changed.Goals as goal

pub returns : goal.returns
returns c =
    let runs = c.args.runs.now in
    let run = c.args.run in
    let from = c.args.from in
    let end = c.runs_before-end.result in
    let to : ℕ = run.pre + run.n in
    let fronts : c.put_fronts.new.out.items ≡ fronts_put run.pre [] (take end runs) =
    c.in_ok-put_fronts.ensures ∙ ap₂ (λ o k. fronts_put run.pre o (take k runs)) c.in_ok-made.ensures.items (omega arith) in
    let middle : c.put.new.runs.items ≡ put_run (fronts_put run.pre [] (take end runs)) run = c.in_ok-put.ensures ∙ ap (λ o. put_run o run) fronts in
    let backs : c.put_backs.new.out.items ≡ backs_put from to c.put.new.runs.items (drop (end - 1) runs) =
    c.in_ok-put_backs.ensures ∙ ap (backs_put from to c.put.new.runs.items) (take_rest runs c.saturating_sub.result ∙ ap (λ k. drop k runs) c.saturating_sub.ensures) in
    backs ∙ ap (λ o. backs_put from to o (drop (end - 1) runs)) middle ∙ changed_by_pre_within runs run from end (length (ids_of runs)) c.requires.laid c.requires.order c.runs_before-end.ensures
