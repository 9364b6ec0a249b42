use Rattle.std.proofs.Common.{◌≡◌, ℕ, ◌+◌, ◌-◌, ◌≤◌, ◌++◌, arith, ap, ap₂, sym, ◌∙◌, List, length, take, drop, map, append_assoc}
use Rattle.std.proofs.lemmas.List.{take_at, drop_at, drop_all, take_all, append-nil, length-append, length-take}
use Rattle.paged_seq.proofs.replace.replace_part.Goals as goal

lent : (items new : List ℕ) (len : ℕ) → length new ≡ length items → len ≡ length items → take len (new ++ drop (length new) items) ≡ new
lent items new len same long =
    ap (take len) (ap (λ l. new ++ l) (drop_all (length new) items (omega (arith, same))) ∙ append-nil new) ∙ take_all len new (omega (arith, same, long))

moved : (f : ℕ → ℕ) (whole old places : List ℕ) (from to : ℕ) → whole ≡ take from old ++ (places ++ drop to old) → from ≤ length old
    → take (from + length places) whole ++ map f (drop (from + length places) whole) ≡ take from old ++ (places ++ map f (drop to old))
moved f whole old places from to e le =
    let split : whole ≡ (take from old ++ places) ++ drop to old = e ∙ sym (append_assoc (take from old) places (drop to old)) in
    let long : length (take from old ++ places) ≡ from + length places = omega (arith, length-append (take from old) places, length-take from old) in
    ap₂ (λ x y. x ++ map f y) (ap (take (from + length places)) split ∙ take_at (take from old ++ places) (drop to old) (from + length places) long)
    (ap (drop (from + length places)) split ∙ drop_at (take from old ++ places) (drop to old) (from + length places) long)
    ∙ append_assoc (take from old) places (map f (drop to old))

pub returns-clause-firsts : goal.returns-clause-firsts
returns-clause-firsts c =
    lent _ _ _ (omega (arith, c.move_from.auto.places)) (omega arith) ∙ c.move_from.ensures ∙ moved (λ x. x - c.args.less + c.args.more) c.as_mut_slice.result.now c.args.firsts.now.items c.args.places.now c.args.part.from c.args.part.to (c.as_mut_slice.ensures.value ∙ c.replace-2.ensures) (omega arith)
