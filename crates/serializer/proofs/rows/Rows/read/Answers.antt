use Rattle.std.proofs.Common.{◌≡◌, List, ◌∷◌, [], ◌++◌, get_or, ◌∙◌, ap, sym, refl, arith}
use Rattle.std.specs.Prelude.{slice_range}
use Rattle.tree_model.specs.declared.row.Row.{Row}
use Rattle.serializer.proofs.Parts.{no_range, range_last}
use Rattle.serializer.proofs.rows.Rows.read.Goals as goal

pub loop-pre-init : goal.loop-pre-init
loop-pre-init c = record { rows = refl; read = c.clear.ensures.items ∙ sym (no_range c.args.self.now c.args.from c.args.from (omega arith)) }

pub loop-pre-preserved : goal.loop-pre-preserved
loop-pre-preserved c =
    let is = c.row.ensures.row ∙ ap (λ (rows : List Row). get_or rows c.loop-pre.pre c.row.result) c.loop-pre.invariant.rows in
    record {
      rows = c.row.ensures.rows ∙ c.loop-pre.invariant.rows;
      read = c.in_ok-push.ensures.items ∙ ap (λ (rows : List Row). rows ++ c.row.result ∷ []) c.loop-pre.invariant.read
          ∙ ap (λ (row : Row). slice_range c.args.self.now c.args.from c.loop-pre.pre ++ row ∷ []) is
          ∙ sym (range_last c.args.self.now c.args.from c.loop-pre.pre c.row.result (omega arith) (omega arith));
    }

pub returns-clause-read : goal.returns-clause-read
returns-clause-read c = let all : c.loop-pre.pre ≡ c.args.to = omega arith in c.loop-pre.invariant.read ∙ ap (slice_range c.args.self.now c.args.from) all
