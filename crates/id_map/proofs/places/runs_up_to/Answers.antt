use Rattle.std.proofs.Common.{◌-◌, ◌^◌, leb, rules}
use Rattle.std.proofs.lemmas.List.Sorted.{IsPartitionPoint-from_clause, IsPartitionedBy-leb}
use Rattle.id_map.specs.declared.span.Span.{Span}
use Rattle.id_map.proofs.Searching.{id_place, ids_rise}
use Rattle.id_map.proofs.places.runs_up_to.Goals as goal

pub returns : goal.returns
returns c =
    let parted = IsPartitionedBy-leb (λ (s : Span). s.first_id) _ c.args.id (ids_rise 0 (2 ^ 32 - 1) c.args.runs.now c.requires) in
    let point = IsPartitionPoint-from_clause (λ (s : Span). leb s.first_id c.args.id) c.args.runs.now c.partition_point.result c.partition_point.ensures.partitioned parted (λ a r q k. search rules) in
    id_place c.partition_point.result c.args.id c.args.runs.now c.partition_point.ensures.bound point
