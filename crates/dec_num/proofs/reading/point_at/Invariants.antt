use Rattle.std.proofs.Common.{◌≡◌, ◌+◌, drop}
use Rattle.std.specs.List.{prefix_len}
use Rattle.tree_model.specs.Numbers.{is_no_point}
use Rattle.dec_num.proofs.reading.point_at.Given as goal

abbrev pub invariant-loop-at : goal.invariant-loop-at
invariant-loop-at l = l.at + prefix_len is_no_point (drop l.at l.text) ≡ prefix_len is_no_point l.text
