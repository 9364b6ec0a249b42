use Rattle.std.proofs.Common.{arith, refl, ap, ◌++◌, List, ℕ}
use Rattle.axis_steps.specs.Steps.{rows_of}
use Rattle.axis_steps.proofs.Standing.{list_of_axis}
use Rattle.axis_steps.proofs.walk.push_axis.Goals as goal

pub loop-next-init : goal.loop-next-init
loop-next-init c =
    record {
      list = ap (λ (l : List ℕ). c.args.found.now.items ++ l)
          (list_of_axis c.args.trees.now.names.now (rows_of c.args.trees.now) c.args.step.now c.args.place c.new-cursor.result c.requires.trees c.requires.within c.new-cursor.ensures);
      meter = record { rows = omega arith; frames = refl };
    }
