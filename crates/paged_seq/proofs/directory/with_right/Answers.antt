use Rattle.std.proofs.Common.{◌≡◌, ℕ, ◌+◌, ◌<◌, ◌≤◌, ◌⊎◌, inl, inr, arith, List, length, get_or}
use Rattle.std.proofs.lemmas.Bool.{cases_lt}
use Rattle.std.proofs.lemmas.List.{get_or_past}
use Rattle.paged_seq.specs.Directories.{IsDirectory, place_of}
use Rattle.paged_seq.proofs.Amounts.{amount_split}
use Rattle.paged_seq.proofs.Places.{many_places, size_at_place, place_amount}
use Rattle.paged_seq.proofs.Widening.{right_none, right_stays, right_widens}
use Rattle.paged_seq.proofs.directory.with_right.Goals as goal

-- a frame that is smaller than 256 is there
there : (firsts : List ℕ) (len to right : ℕ) (w : IsDirectory firsts len) → right ≡ get_or w.sizes to 256 → right < 256 → to < length firsts
there firsts len to right w is less = by (cases_lt to (length firsts))
  where
    by : (to < length firsts) ⊎ (length firsts ≤ to) → to < length firsts
    by (inl lt) = lt
    by (inr le) = let e = get_or_past w.sizes to 256 (omega (arith, many_places firsts len w)) in absurd (omega (arith, e, is))

pub returns-then-part-eq0 : goal.returns-then-part-eq0
returns-then-part-eq0 c w = right_none w.sizes c.args.part (omega (arith, many_places _ _ w, c.requires.within)) (c.requires.joins w) c.if-part-eq0.true

pub returns-then-last_size-right-gt256 : goal.returns-then-last_size-right-gt256
returns-then-last_size-right-gt256 c w =
    right_stays w.sizes c.args.part c.right_size-right.result c.last_size.result w.packed (omega (arith, many_places _ _ w, c.requires.within)) (c.requires.joins w) (c.right_size-right.ensures.size w) c.last_size.ensures.size (omega arith)

-- the sum of what is there and a frame behind
room : (firsts : List ℕ) (len to right : ℕ) (w : IsDirectory firsts len) → right ≡ get_or w.sizes to 256 → to < length firsts → place_of firsts len to + right ≤ len
room firsts len to right w is lt =
    omega (arith, size_at_place firsts len to w lt, is, place_amount firsts len (to + 1) w, amount_split w.sizes (to + 1), w.len_is)

pub overflow_add-result-2 : goal.overflow_add-result-2
overflow_add-result-2 c =
    let w = c.requires.directory in
    let is = c.right_size-right.ensures.size w in
    let lt = there _ _ c.args.part.to c.right_size-right.result w is (omega (arith, c.last_size.ensures.some (omega (arith, c.if-part-eq0.false)))) in
    omega (arith, room _ _ c.args.part.to c.right_size-right.result w is lt, c.requires.room)

pub returns : goal.returns
returns c w =
    let is = c.right_size-right.ensures.size w in
    let lt = there _ _ c.args.part.to c.right_size-right.result w is (omega (arith, c.last_size.ensures.some (omega (arith, c.if-part-eq0.false)))) in
    right_widens w.sizes c.args.part c.right_size-right.result c.last_size.result w.fit w.packed (omega (arith, many_places _ _ w, lt)) (c.requires.joins w) is c.last_size.ensures.size (omega (arith, c.if-part-eq0.false)) (omega arith)
