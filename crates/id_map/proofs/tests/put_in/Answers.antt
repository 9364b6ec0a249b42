use Rattle.std.proofs.Common.{◌≡◌, ℕ, ◌+◌, ◌<◌, ◌≤◌, false, List, length, Option, Some, None, refl, ap, sym, ◌∙◌, arith, below_more}
use Rattle.std.specs.Option.{is_some}
use Rattle.id_map.specs.Ids.{times, pre_with}
use Rattle.id_map.proofs.IdLists.{times-without_pre, length-with_ids}
use Rattle.id_map.proofs.tests.put_in.Goals as goal

none_of : (o : Option ℕ) → is_some o ≡ false → o ≡ None
none_of None e = refl
none_of (Some n) e = absurd cc

-- one id more that has no pre
one_more : (ids : List ℕ) (first id : ℕ) (o : Option ℕ) → ((k : ℕ) → first ≤ k → k < id → times k ids ≡ 0) → o ≡ pre_with id ids → is_some o ≡ false → (k : ℕ) → first ≤ k → k < id + 1 → times k ids ≡ 0
one_more ids first id o h is none k lo hi =
    below_more (λ k. first ≤ k → times k ids ≡ 0) id h' (λ le. times-without_pre id ids (sym is ∙ none_of o none)) k hi lo
  where
    h' : (k : ℕ) → k < id → first ≤ k → times k ids ≡ 0
    h' k hi lo = h k lo hi

pub loop-id-preserved : goal.loop-id-preserved
loop-id-preserved g c = one_more c.args.map.now c.args.run.first_id c.loop-id.id c.pre_of.result c.loop-id.invariant c.pre_of.ensures.pre (cc)

pub inserted-requires-clause-unused : goal.inserted-requires-clause-unused
inserted-requires-clause-unused g c = λ id lo hi. c.loop-id.invariant id lo (omega arith)

pub returns : goal.returns
returns g c = ap (λ (l : List ℕ). length l) c.in_ok-inserted.ensures.ok ∙ length-with_ids c.args.run.pre c.args.run.first_id c.args.run.n c.args.map.now ∙ ap (λ n. n + c.args.run.n) c.requires
