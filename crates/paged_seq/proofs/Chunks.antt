-- How many items go into frames.
use Rattle.std.proofs.Common.{◌≡◌, ℕ, ◌+◌, ◌-◌, ◌/◌, ◌%◌, ◌<◌, ◌≤◌, ◌⊎◌, inl, inr, cond, true, false, leb, max, ap, ◌∙◌, arith}
use Rattle.std.proofs.lemmas.Bool.{cases_lt}
use Rattle.std.proofs.lemmas.Bool.Decides.{leb_tells}
use Rattle.paged_seq.specs.Sizes.{first_chunk, last_chunk, chunks}

leb_yes : (a b : ℕ) → a ≤ b → leb a b ≡ true
leb_yes a b le = by (leb_tells a b)
  where
    by : ((leb a b ≡ true) × (a ≤ b)) ⊎ ((leb a b ≡ false) × (b < a)) → leb a b ≡ true
    by (inl p) = p.0
    by (inr p) = absurd (omega (arith, p.1))

leb_no : (a b : ℕ) → b < a → leb a b ≡ false
leb_no a b lt = by (leb_tells a b)
  where
    by : ((leb a b ≡ true) × (a ≤ b)) ⊎ ((leb a b ≡ false) × (b < a)) → leb a b ≡ false
    by (inl p) = absurd (omega (arith, p.1))
    by (inr p) = p.0

-- the three ways that items are put into frames
pub data Way (m : ℕ) : Type 0 where
  one : m ≤ 256 → first_chunk m ≡ m → last_chunk m ≡ m → Way m
  two : 256 < m → m ≤ 512 → first_chunk m ≡ (m + 1) / 2 → last_chunk m ≡ m / 2 → Way m
  more : 512 < m → first_chunk m ≡ 256 → last_chunk m ≡ (m - 1) % 256 + 1 → Way m

pub way : (m : ℕ) → Way m
way m = by (cases_lt 256 m) (cases_lt 512 m)
  where
    by : (256 < m) ⊎ (m ≤ 256) → (512 < m) ⊎ (m ≤ 512) → Way m
    by (inr le) _ =
        one le (ap (λ b. cond b m (cond (leb m 512) ((m + 1) / 2) 256)) (leb_yes m 256 le)) (ap (λ b. cond b m (cond (leb m 512) (m / 2) ((m - 1) % 256 + 1))) (leb_yes m 256 le))
    by (inl lt) (inr le) =
        two lt le
        (ap (λ b. cond b m (cond (leb m 512) ((m + 1) / 2) 256)) (leb_no m 256 lt) ∙ ap (λ b. cond b ((m + 1) / 2) 256) (leb_yes m 512 le))
        (ap (λ b. cond b m (cond (leb m 512) (m / 2) ((m - 1) % 256 + 1))) (leb_no m 256 lt) ∙ ap (λ b. cond b (m / 2) ((m - 1) % 256 + 1)) (leb_yes m 512 le))
    by (inl lt) (inl big) =
        more big
        (ap (λ b. cond b m (cond (leb m 512) ((m + 1) / 2) 256)) (leb_no m 256 lt) ∙ ap (λ b. cond b ((m + 1) / 2) 256) (leb_no m 512 big))
        (ap (λ b. cond b m (cond (leb m 512) (m / 2) ((m - 1) % 256 + 1))) (leb_no m 256 lt) ∙ ap (λ b. cond b (m / 2) ((m - 1) % 256 + 1)) (leb_no m 512 big))

pub first_some : (m : ℕ) → 0 < m → 0 < first_chunk m
first_some m lt = by (way m)
  where
    by : Way m → 0 < first_chunk m
    by (one le f l) = omega (arith, f)
    by (two a b f l) = omega (arith, f)
    by (more a f l) = omega (arith, f)

-- ---- a frame before comes to them

pub left_comes : (m x : ℕ) → 0 < m → x + first_chunk m ≤ 256 → x ≤ first_chunk (m + x)
left_comes m x some fits = by (way m) (way (m + x))
  where
    by : Way m → Way (m + x) → x ≤ first_chunk (m + x)
    by (one le f l) (one le' f' l') = omega (arith, f')
    by (one le f l) (two a' b' f' l') = omega (arith, f, f')
    by (one le f l) (more a' f' l') = omega (arith, f, f')
    by (two a b f l) (one le' f' l') = omega (arith, f')
    by (two a b f l) (two a' b' f' l') = omega (arith, f, f')
    by (two a b f l) (more a' f' l') = omega (arith, f, f')
    by (more a f l) (one le' f' l') = omega (arith, f')
    by (more a f l) (two a' b' f' l') = omega (arith, f, f')
    by (more a f l) (more a' f' l') = omega (arith, f, f')

pub left_few : (m x : ℕ) → 0 < m → 0 < x → x + first_chunk m ≤ 256 → m + x ≤ 512
left_few m x some more_than fits = by (way m)
  where
    by : Way m → m + x ≤ 512
    by (one le f l) = omega (arith, f)
    by (two a b f l) = omega (arith, f)
    by (more a f l) = absurd (omega (arith, f))

-- ---- a frame behind comes to them

pub right_comes : (m y : ℕ) → 0 < m → last_chunk m + y ≤ 256 → y ≤ last_chunk (m + y)
right_comes m y some fits = by (way m) (way (m + y))
  where
    by : Way m → Way (m + y) → y ≤ last_chunk (m + y)
    by (one le f l) (one le' f' l') = omega (arith, l')
    by (one le f l) (two a' b' f' l') = absurd (omega (arith, l))
    by (one le f l) (more a' f' l') = absurd (omega (arith, l))
    by (two a b f l) (one le' f' l') = omega (arith, l')
    by (two a b f l) (two a' b' f' l') = omega (arith, l, l')
    by (two a b f l) (more a' f' l') = absurd (omega (arith, l))
    by (more a f l) (one le' f' l') = omega (arith, l')
    by (more a f l) (two a' b' f' l') = absurd (omega arith)
    by (more a f l) (more a' f' l') = omega (arith, l, l')

pub first_grows : (m y : ℕ) → 0 < m → last_chunk m + y ≤ 256 → first_chunk m ≤ first_chunk (m + y)
first_grows m y some fits = by (way m) (way (m + y))
  where
    by : Way m → Way (m + y) → first_chunk m ≤ first_chunk (m + y)
    by (one le f l) (one le' f' l') = omega (arith, f, f')
    by (one le f l) (two a' b' f' l') = absurd (omega (arith, l))
    by (one le f l) (more a' f' l') = absurd (omega (arith, l))
    by (two a b f l) (one le' f' l') = absurd (omega arith)
    by (two a b f l) (two a' b' f' l') = omega (arith, f, f')
    by (two a b f l) (more a' f' l') = absurd (omega (arith, l))
    by (more a f l) (one le' f' l') = absurd (omega arith)
    by (more a f l) (two a' b' f' l') = absurd (omega arith)
    by (more a f l) (more a' f' l') = omega (arith, f, f')

pub no_more_chunks : (m y : ℕ) → 0 < m → last_chunk m + y ≤ 256 → chunks (m + y) ≤ chunks m
no_more_chunks m y some fits = by (way m)
  where
    by : Way m → chunks (m + y) ≤ chunks m
    by (one le f l) = omega (arith, l)
    by (two a b f l) = omega (arith, l)
    by (more a f l) = omega (arith, l)

-- ---- the bound

pub few_chunks : (m k n added : ℕ) → chunks m ≤ chunks k → k ≤ max n 512 → n ≤ added + 510 → chunks m ≤ added / 128 + 3
few_chunks m k n added a b c = omega arith
