use Rattle.std.proofs.Common.{length, ltb, rules}
use Rattle.std.proofs.lemmas.List.Sorted.{IsPartitionPoint-from_clause, IsPartitionedBy-ltb}
use Rattle.id_map.specs.Spans.{ids_of}
use Rattle.id_map.specs.declared.span.Span.{Span}
use Rattle.id_map.proofs.Searching.{pre_place, pres_rise}
use Rattle.id_map.proofs.places.runs_before.Goals as goal

pub returns : goal.returns
returns c =
    let parted = IsPartitionedBy-ltb (λ (s : Span). s.pre) _ c.args.pre (pres_rise 0 (length (ids_of c.args.runs.now)) c.args.runs.now c.requires) in
    let point = IsPartitionPoint-from_clause (λ (s : Span). ltb s.pre c.args.pre) c.args.runs.now c.partition_point.result c.partition_point.ensures.partitioned parted (λ a r q k. search rules) in
    pre_place c.partition_point.result c.args.pre c.args.runs.now c.partition_point.ensures.bound point
