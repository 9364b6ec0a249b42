-- Where a test stops to hold.
use Rattle.std.proofs.Common.{◌≡◌, ℕ, ◌+◌, ◌-◌, ◌<◌, ◌≤◌, Bool, true, false, List, length, get_or, take, refl, sym, ap, ◌∙◌, arith}
use Rattle.std.proofs.lemmas.Bool.{false≢true}
use Rattle.std.proofs.lemmas.List.{get_or_default, take_all}
use Rattle.std.specs.List.{AllWithin}
use Rattle.std.specs.List.Sorted.{IsPartitionedBy, IsPartitionPoint}
use Rattle.frame_pool.specs.Frames.{Held, items_at}
use Rattle.paged_seq.specs.Sequences.{Paged, IsPaged, IsBracket, paged_items, items_of, sizes_of}
use Rattle.paged_seq.specs.Sizes.{amount}
use Rattle.paged_seq.proofs.Amounts.{amount_more, amount_split}
use Rattle.paged_seq.proofs.Items.{length_items, many_sizes, size_at, times_at, frame_lies}

pub length_paged : {A : Type 0} (pool : List (Held A)) (s : Paged) → IsPaged A pool s → length (paged_items pool s) ≡ s.total
length_paged pool s paged = length_items pool s.frames ∙ sym paged.total

-- the item at a place passes, so all up to it do
pub low_step : {A : Type 0} (p : A → Bool) (items : List A) (m : ℕ) (item : A) → m < length items → item ≡ get_or items m item → IsPartitionedBy p items → p item ≡ true → AllWithin (λ y. p y ≡ true) items 0 (m + 1)
low_step p items m item lt is parted yes_it k d from to = parted k m d (omega (arith, to)) lt (ap p (get_or_default items m d item lt ∙ sym is) ∙ yes_it)

-- it doesn't, so none behind it does
pub high_step : {A : Type 0} (p : A → Bool) (items : List A) (m : ℕ) (item : A) → m < length items → item ≡ get_or items m item → IsPartitionedBy p items → p item ≡ false → AllWithin (λ y. p y ≡ false) items m (length items)
high_step {A} p items m item lt is parted no_it k d from to = by (p (get_or items k d)) refl
  where
    by : (b : Bool) → p (get_or items k d) ≡ b → p (get_or items k d) ≡ false
    by false e = e
    by true e =
        let yes_too : p item ≡ true = ap p (is ∙ get_or_default items m item d lt) ∙ parted m k d from to e in
        absurd (false≢true (sym no_it ∙ yes_too))

pub bracket_low : {A : Type 0} (p : A → Bool) (items : List A) (low high m : ℕ) (item : A) → IsBracket A p items low high → m < length items → item ≡ get_or items m item → IsPartitionedBy p items → p item ≡ true → IsBracket A p items (m + 1) high
bracket_low p items low high m item b lt is parted passes = record { pass = low_step p items m item lt is parted passes; fail = b.fail }

pub bracket_high : {A : Type 0} (p : A → Bool) (items : List A) (low high m : ℕ) (item : A) → IsBracket A p items low high → m < length items → item ≡ get_or items m item → IsPartitionedBy p items → p item ≡ false → IsBracket A p items low m
bracket_high p items low high m item b lt is parted fails = record { pass = b.pass; fail = high_step p items m item lt is parted fails }

-- fewer items pass for sure
pub bracket_less : {A : Type 0} (p : A → Bool) (items : List A) (low high less : ℕ) → less ≤ low → IsBracket A p items low high → IsBracket A p items less high
bracket_less p items low high less le b = record { pass = λ k d from to. b.pass k d from (omega (arith, to, le)); fail = b.fail }

-- nothing is known at first
pub bracket_all : {A : Type 0} (p : A → Bool) (items : List A) (low high : ℕ) → low ≡ 0 → length items ≤ high → IsBracket A p items low high
bracket_all p items low high none all = record { pass = λ k d from to. absurd (omega (arith, to, none)); fail = λ k d from to. absurd (omega (arith, from, to, all)) }

-- where the places meet, the test stops to hold
pub bracket_parts : {A : Type 0} (p : A → Bool) (items : List A) (low high : ℕ) → high ≤ low → IsBracket A p items low high → IsPartitionPoint (λ y. p y ≡ true) (λ y. p y ≡ false) items low
bracket_parts p items low high le b = (b.pass, λ k d from to. b.fail k d (omega (arith, from, le)) to)

-- ---- by frames

-- the first item of a frame lies at the frame's place
pub record FirstItem (A : Type 0) (pool : List (Held A)) (frames : List ℕ) (k : ℕ) (item : A) : Type 0 where
  pub within : amount (take k (sizes_of pool frames)) < length (items_of pool frames)
  pub is : item ≡ get_or (items_of pool frames) (amount (take k (sizes_of pool frames))) item

pub first_item : {A : Type 0} (pool : List (Held A)) (s : Paged) (k f : ℕ) (item : A) → IsPaged A pool s → k < length s.frames → f ≡ get_or s.frames k f → item ≡ get_or (items_at pool f) 0 item → FirstItem A pool s.frames k item
first_item {A} pool s k f item paged lt is first =
    let some = (paged.held f (times_at s.frames k f lt is)).some in
    let none : amount (take k (sizes_of pool s.frames)) - amount (take k (sizes_of pool s.frames)) ≡ 0 = omega arith in
    record {
      within = omega (
        arith,
        some,
        length_items pool s.frames,
        amount_more (sizes_of pool s.frames) k 0 (omega (arith, many_sizes pool s.frames)),
        size_at pool s.frames k f 0 lt is,
        amount_split (sizes_of pool s.frames) (k + 1),
      );
      is = first ∙ sym (frame_lies pool s.frames k f (amount (take k (sizes_of pool s.frames))) lt is refl (amount (take k (sizes_of pool s.frames))) item (omega arith) (omega (arith, some)) ∙ ap (λ j. get_or (items_at pool f) j item) none);
    }

-- behind the last frame lie no items
pub all_items : {A : Type 0} (pool : List (Held A)) (frames : List ℕ) (n : ℕ) → n ≡ length frames → length (items_of pool frames) ≤ amount (take n (sizes_of pool frames))
all_items pool frames n e =
    omega (arith, length_items pool frames, ap amount (take_all n (sizes_of pool frames) (omega (arith, e, many_sizes pool frames))))

pub first_item_as : {A : Type 0} (pool : List (Held A)) (s : Paged) (k f : ℕ) (items : List A) (item : A) → IsPaged A pool s → k < length s.frames → f ≡ get_or s.frames k f → items ≡ items_at pool f → item ≡ get_or items 0 item → FirstItem A pool s.frames k item
first_item_as pool s k f items item paged lt is same first = first_item pool s k f item paged lt is (first ∙ ap (λ l. get_or l 0 item) same)
