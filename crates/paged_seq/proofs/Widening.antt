-- More frames make room, where the rule on neighbours wants it.
use Rattle.std.proofs.Common.{◌≡◌, ℕ, ◌+◌, ◌-◌, ◌^◌, ◌<◌, ◌≤◌, ◌⊎◌, inl, inr, max, List, length, get_or, take, drop, sym, ap, ◌∙◌, arith}
use Rattle.std.proofs.lemmas.Bool.{cases_lt}
use Rattle.std.proofs.lemmas.List.{get_or_past}
use Rattle.paged_seq.specs.Sizes.{amount, AreSizes, ArePacked, last_or, first_chunk, last_chunk}
use Rattle.paged_seq.specs.Directories.{place_of, IsDirectory, Holds, IsPart, IsWider, JoinsLeft, WidensLeft, WidensRight, IsChange, IsFirstPart, HoldsEnd}
use Rattle.paged_seq.specs.declared.part.Part.{Part}
use Rattle.paged_seq.proofs.Amounts.{amount_more, amount_grows}
use Rattle.paged_seq.proofs.Chunks.{first_some, left_comes, left_few, right_comes, first_grows, no_more_chunks, few_chunks, Way, way, one, two, more}
use Rattle.paged_seq.proofs.Places.{many_places, place_amount, size_at_place, place_le}
use Rattle.paged_seq.proofs.Packing.{packed_drop, packed_more, packed_head, packed_first, packed_next, last_take, last_le, size_some, size_few}

pub wider_self : (sizes : List ℕ) (part : Part) → part.to ≤ length sizes → IsWider sizes part part
wider_self sizes part within = record { from = omega arith; to = omega arith; within = within; size = omega arith }

-- ---- on the left

pub left_zero : (sizes : List ℕ) (part : Part) → AreSizes sizes → ArePacked 256 sizes → part.to ≤ length sizes → part.from ≡ 0 → WidensLeft sizes part part
left_zero sizes part fit packed within none =
    let e : last_or 256 (take part.from sizes) ≡ 256 = ap (λ k. last_or 256 (take k sizes)) none in
    record {
      is = wider_self sizes part within;
      joins = record {
        left = λ some. omega (arith, e, first_some part.size some);
        empty = λ _. packed_more (last_or 256 (take part.to sizes)) (last_or 256 (take part.from sizes)) (drop part.to sizes) (omega (arith, e, last_le 256 sizes part.to (omega arith) fit)) (packed_drop 256 sizes part.to packed);
      };
      few = omega arith;
    }

last_is : (sizes : List ℕ) (from left : ℕ) → 0 < from → from ≤ length sizes → left ≡ get_or sizes (from - 1) 256 → last_or 256 (take from sizes) ≡ left
last_is sizes from left some within is =
    let e : from ≡ from - 1 + 1 = omega arith in
    ap (λ k. last_or 256 (take k sizes)) e ∙ last_take 256 sizes (from - 1) 256 (omega arith) ∙ sym is

pub left_stays : (sizes : List ℕ) (part : Part) (left next : ℕ) → AreSizes sizes → ArePacked 256 sizes → part.from ≤ part.to → part.to ≤ length sizes → 0 < part.from → left ≡ get_or sizes (part.from - 1) 256
    → (0 < part.size → next ≡ first_chunk part.size) → (part.size ≡ 0 → next ≡ get_or sizes part.to 256) → 256 < left + next → WidensLeft sizes part part
left_stays sizes part left next fit packed order within some is chunk none much =
    let e = last_is sizes part.from left some (omega arith) is in
    record {
      is = wider_self sizes part within;
      joins = record {
        left = λ more_than. omega (arith, e, chunk more_than, much);
        empty = λ zero_size. packed_head (last_or 256 (take part.to sizes)) (last_or 256 (take part.from sizes)) sizes part.to (packed_drop 256 sizes part.to packed) (omega (arith, e, none zero_size, much));
      };
      few = omega arith;
    }

first_small : (m : ℕ) → m ≤ 256 → first_chunk m ≡ m
first_small m le = by (way m)
  where
    by : Way m → first_chunk m ≡ m
    by (one a f l) = f
    by (two a b f l) = absurd (omega arith)
    by (more a f l) = absurd (omega arith)

new_first : (m left next : ℕ) → left ≤ 256 → (0 < m → next ≡ first_chunk m) → left + next ≤ 256 → left ≤ first_chunk (m + left)
new_first m left next few chunk fits = by (cases_lt 0 m)
  where
    by : (0 < m) ⊎ (m ≤ 0) → left ≤ first_chunk (m + left)
    by (inl some) = left_comes m left some (omega (arith, chunk some, fits))
    by (inr le) = let e : m + left ≡ left = omega arith in omega (arith, ap first_chunk e, first_small left few)

new_few : (m left next : ℕ) → 0 < left → left ≤ 256 → (0 < m → next ≡ first_chunk m) → left + next ≤ 256 → m + left ≤ max m 512
new_few m left next some few chunk fits = by (cases_lt 0 m)
  where
    by : (0 < m) ⊎ (m ≤ 0) → m + left ≤ max m 512
    by (inl lt) = omega (arith, left_few m left lt some (omega (arith, chunk lt, fits)))
    by (inr le) = omega arith

pub left_widens : (sizes : List ℕ) (part : Part) (left next : ℕ) → AreSizes sizes → ArePacked 256 sizes → part.from ≤ part.to → part.to ≤ length sizes → 0 < part.from → left ≡ get_or sizes (part.from - 1) 256
    → (0 < part.size → next ≡ first_chunk part.size) → left + next ≤ 256 → WidensLeft sizes part (record { from = part.from - 1; to = part.to; size = part.size + left })
left_widens sizes part left next fit packed order within some is chunk fits =
    let e : part.from - 1 + 1 ≡ part.from = omega arith in
    let lt : part.from - 1 < length sizes = omega arith in
    let grows : amount (take part.from sizes) ≡ amount (take (part.from - 1) sizes) + left =
    ap (λ k. amount (take k sizes)) (sym e) ∙ amount_more sizes (part.from - 1) 256 lt ∙ ap (λ n. amount (take (part.from - 1) sizes) + n) (sym is) in
    let beside : 256 < last_or 256 (take (part.from - 1) sizes) + get_or sizes (part.from - 1) 256 = packed_first _ sizes (part.from - 1) 256 lt (packed_drop 256 sizes (part.from - 1) packed) in
    let pos : 0 < left = omega (arith, is, size_some sizes (part.from - 1) fit) in
    let most : left ≤ 256 = omega (arith, is, size_few sizes (part.from - 1) fit) in
    record {
      is = record { from = omega arith; to = omega arith; within = within; size = omega (arith, grows) };
      joins = record {
        left = λ _. omega (arith, beside, is, new_first part.size left next most chunk fits);
        empty = λ zero_size. absurd (omega (arith, zero_size, pos));
      };
      few = new_few part.size left next pos most chunk fits;
    }

-- ---- on the right

pub right_none : (sizes : List ℕ) (part : Part) → part.to ≤ length sizes → JoinsLeft sizes part → part.size ≡ 0 → WidensRight sizes part part
right_none sizes part within joins none = record {
  is = wider_self sizes part within;
  joins = record { left = joins.left; empty = joins.empty; right = λ some. absurd (omega (arith, some, none)) };
  few = omega arith;
}

pub right_stays : (sizes : List ℕ) (part : Part) (right last : ℕ) → ArePacked 256 sizes → part.to ≤ length sizes → JoinsLeft sizes part → right ≡ get_or sizes part.to 256 → last ≡ last_chunk part.size → 256 < last + right → WidensRight sizes part part
right_stays sizes part right last packed within joins is chunk much = record {
  is = wider_self sizes part within;
  joins = record {
    left = joins.left;
    empty = joins.empty;
    right = λ some. packed_head (last_or 256 (take part.to sizes)) (last_chunk part.size) sizes part.to (packed_drop 256 sizes part.to packed) (omega (arith, is, chunk, much));
  };
  few = omega arith;
}

pub right_widens : (sizes : List ℕ) (part : Part) (right last : ℕ) → AreSizes sizes → ArePacked 256 sizes → part.to < length sizes → JoinsLeft sizes part → right ≡ get_or sizes part.to 256 → last ≡ last_chunk part.size → 0 < part.size → last + right ≤ 256
    → WidensRight sizes part (record { from = part.from; to = part.to + 1; size = part.size + right })
right_widens sizes part right last fit packed within joins is chunk some fits =
    let grows : amount (take (part.to + 1) sizes) ≡ amount (take part.to sizes) + right = amount_more sizes part.to 256 within ∙ ap (λ n. amount (take part.to sizes) + n) (sym is) in
    let both : last_chunk part.size + right ≤ 256 = omega (arith, chunk, fits) in
    record {
      is = record { from = omega arith; to = omega arith; within = omega arith; size = omega (arith, grows) };
      joins = record {
        left = λ _. omega (arith, joins.left some, first_grows part.size right some both);
        empty = λ none. absurd (omega (arith, none, some));
        right = λ _. packed_more (get_or sizes part.to 256) (last_chunk (part.size + right)) (drop (part.to + 1) sizes) (omega (arith, is, right_comes part.size right some both)) (packed_next _ sizes part.to 256 within (packed_drop 256 sizes part.to packed));
      };
      few = no_more_chunks part.size right some both;
    }

-- ---- the whole

pub change_is : (sizes : List ℕ) (at end added : ℕ) (part left right : Part) → IsPart sizes at end added part → part.size ≤ added + 510 → WidensLeft sizes part left → WidensRight sizes left right → IsChange sizes at end added right
change_is sizes at end added part left right is small one_side other_side =
    let a = one_side.is in
    let b = other_side.is in
    let from1 = amount_grows sizes left.from part.from a.from in
    let from2 = amount_grows sizes right.from left.from b.from in
    let to1 = amount_grows sizes part.to left.to a.to in
    let to2 = amount_grows sizes left.to right.to b.to in
    record {
      is = record {
        order = omega (arith, a.from, a.to, b.from, b.to, is.order);
        within = b.within;
        from = omega (arith, from1, from2, is.from);
        to = omega (arith, to1, to2, is.to);
        size = omega (arith, a.size, b.size, is.size, from1, from2, to1, to2, is.from, is.to);
      };
      joins = other_side.joins;
      few = few_chunks right.size left.size part.size added other_side.few one_side.few small;
    }

-- ---- the first part

pub order_is : (sizes : List ℕ) (from to : ℕ) → AreSizes sizes → from ≤ length sizes → amount (take from sizes) ≤ amount (take to sizes) → from ≤ to
order_is sizes from to fit within le = by (cases_lt to from)
  where
    by : (to < from) ⊎ (from ≤ to) → from ≤ to
    by (inr ok) = ok
    by (inl lt) =
        absurd (omega (arith, le, amount_more sizes to 256 (omega arith), size_some sizes to fit, amount_grows sizes (to + 1) from (omega arith)))

pub first_part_is : (firsts : List ℕ) (len at end added : ℕ) (from to : ℕ) (w : IsDirectory firsts len) → at ≤ end → end ≤ len → Holds firsts len at from → HoldsEnd firsts len end to
    → IsFirstPart w.sizes at end added (record { from = from; to = to; size = (at - place_of firsts len from) + added + (place_of firsts len to - end) })
first_part_is firsts len at end added from to w order within a b =
    let many = many_places firsts len w in
    let p = place_amount firsts len from w in
    let q = place_amount firsts len to w in
    record {
      is = record {
        order = order_is w.sizes from to w.fit (omega (arith, a.within, many)) (omega (arith, a.from, b.to, p, q));
        within = omega (arith, b.within, many);
        from = omega (arith, a.from, p);
        to = omega (arith, b.to, q);
        size = omega (arith, p, q);
      };
      small = omega (arith, b.near, near (cases_lt from (length firsts)));
    }
  where
    near : (from < length firsts) ⊎ (length firsts ≤ from) → at - place_of firsts len from ≤ 255
    near (inl lt) = omega (arith, a.before lt, size_at_place firsts len from w lt, size_few w.sizes from w.fit)
    near (inr le) = let e : place_of firsts len from ≡ len = get_or_past firsts from len le in omega (arith, e)

pub end_near : (firsts : List ℕ) (len end k : ℕ) → IsDirectory firsts len → end ≤ len → Holds firsts len end k → (place_of firsts len k ≡ end → ⊥) → HoldsEnd firsts len end (k + 1)
end_near firsts len end k w within holds ne = by (cases_lt k (length firsts))
  where
    by : (k < length firsts) ⊎ (length firsts ≤ k) → HoldsEnd firsts len end (k + 1)
    by (inl lt) =
        let p = size_at_place firsts len k w lt in
        let less : place_of firsts len k < end = omega (arith, holds.from) in
        record { within = omega arith; to = omega (arith, holds.before lt); near = omega (arith, p, less, size_few w.sizes k w.fit) }
    by (inr le) = let e : place_of firsts len k ≡ len = get_or_past firsts k len le in absurd (ne (omega (arith, e, holds.from)))

pub part_room : (firsts : List ℕ) (len at end added : ℕ) (part : Part) (w : IsDirectory firsts len) → IsPart w.sizes at end added part → end ≤ len → at + added + (len - end) < 2 ^ 64
    → part.size + place_of firsts len part.from + (len - place_of firsts len part.to) < 2 ^ 64
part_room firsts len at end added part w is within room =
    omega (arith, is.size, is.from, is.to, place_amount firsts len part.from w, place_amount firsts len part.to w, place_le firsts len part.to w, room)

pub wider_order : (sizes : List ℕ) (part other : Part) → part.from ≤ part.to → IsWider sizes part other → other.from ≤ other.to
wider_order sizes part other order is = omega (arith, is.from, is.to, order)

pub wider_room : (firsts : List ℕ) (len : ℕ) (part other : Part) (w : IsDirectory firsts len) → IsWider w.sizes part other → part.size + place_of firsts len part.from + (len - place_of firsts len part.to) < 2 ^ 64
    → other.size + place_of firsts len other.from + (len - place_of firsts len other.to) < 2 ^ 64
wider_room firsts len part other w is room =
    omega (
      arith,
      is.size,
      place_amount firsts len part.from w,
      place_amount firsts len part.to w,
      place_amount firsts len other.from w,
      place_amount firsts len other.to w,
      place_le firsts len part.to w,
      place_le firsts len other.to w,
      room,
    )
