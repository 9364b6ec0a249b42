-- Lists that grow, and the numbers of names among others.
use Rattle.std.proofs.Common.{◌≡◌, ◌⊎◌, ℕ, ◌+◌, ◌<◌, ◌≤◌, Bool, true, false, cond, List, [], ◌∷◌, ◌++◌, length, take, get_or, refl, sym, ap, ◌∙◌, subst, arith, append_assoc, append-nil, length-append}
use Rattle.std.proofs.Math.Seq.{take-append-le}
use Rattle.std.proofs.lemmas.List.{get_or_append_left, get_or_push}
use Rattle.std.proofs.lemmas.Bool.{cases_lt}
use Rattle.std.proofs.Common.{inl, inr}
use Rattle.std.specs.List.{list_any}
use Rattle.tree_model.specs.Rows.{name_at}
use Rattle.tree_model.specs.declared.text.Name.{Name}
use Rattle.tree_model.proofs.Tables.{name_kept}
use Rattle.name_pool.specs.Names.{are_equal_names, with_name, HasNumber}
use Rattle.doc_store.specs.Moving.{HasMore}

-- ---- lists that grow

pub more_none : {A : Type 0} (xs : List A) → HasMore xs xs
more_none xs = record { more = []; is = sym (append-nil xs) }

pub more_by : {A : Type 0} (xs ys more : List A) → ys ≡ xs ++ more → HasMore xs ys
more_by xs ys more e = record { more = more; is = e }

pub more_more : {A : Type 0} {xs ys zs : List A} → HasMore xs ys → HasMore ys zs → HasMore xs zs
more_more {xs = xs} f g = record { more = f.more ++ g.more; is = g.is ∙ ap (λ l. l ++ g.more) f.is ∙ append_assoc xs f.more g.more }

pub more_length : {A : Type 0} {xs ys : List A} → HasMore xs ys → length xs ≤ length ys
more_length {xs = xs} {ys = ys} f = omega (arith, ap length f.is, length-append xs f.more)

pub more_take : {A : Type 0} {xs ys : List A} → HasMore xs ys → (n : ℕ) → n ≤ length xs → take n ys ≡ take n xs
more_take {xs = xs} f n le = ap (take n) f.is ∙ take-append-le n xs f.more le

pub more_name : {xs ys : List Name} → HasMore xs ys → (n : ℕ) → n < length xs → name_at ys n ≡ name_at xs n
more_name {xs = xs} f n lt = ap (λ l. name_at l n) f.is ∙ name_kept xs f.more n lt

-- ---- names

pub with_name_more : (names : List Name) (name : Name) → HasMore names (with_name names name)
unfolding with_name
with_name_more names name = by (list_any (are_equal_names name) names)
  where
    by : (b : Bool) → HasMore names (cond b names (names ++ name ∷ []))
    by true = more_none names
    by false = more_by names (names ++ name ∷ []) (name ∷ []) refl

-- the names as they grow by one name more
pub named_more : {names0 names names1 : List Name} (name : Name) → HasMore names0 names → names1 ≡ with_name names name → HasMore names0 names1
named_more {names = names} name f e = more_more f (subst (λ l. HasMore names l) (sym e) (with_name_more names name))

-- the numbers of the first n names
pub record AreFirst (names others : List Name) (numbers : List ℕ) (n : ℕ) : Type 0 where
  pub len : length numbers ≡ n
  pub within : (k : ℕ) → k < n → get_or numbers k 0 < length names
  pub same : (k : ℕ) → k < n → name_at names (get_or numbers k 0) ≡ name_at others k

more_first : {names names1 others : List Name} {numbers : List ℕ} {n : ℕ} (number : ℕ) → AreFirst names others numbers n → HasMore names names1 → HasNumber names1 (name_at others n) number
    → AreFirst names1 others (numbers ++ number ∷ []) (n + 1)
more_first {names = names} {names1 = names1} {others = others} {numbers = numbers} {n = n} number f g h =
    let at_end : get_or (numbers ++ number ∷ []) n 0 ≡ number = get_or_push numbers number 0 n f.len in
    let before : (k : ℕ) → k < n → get_or (numbers ++ number ∷ []) k 0 ≡ get_or numbers k 0 = λ k lt. get_or_append_left numbers (number ∷ []) 0 k (omega (arith, f.len)) in
    record {
      len = omega (arith, f.len, length-append numbers (number ∷ []));
      within = λ k lt. by_within at_end before k lt (cases_lt k n);
      same = λ k lt. by_same at_end before k lt (cases_lt k n);
    }
  where
    by_within : get_or (numbers ++ number ∷ []) n 0 ≡ number → ((k : ℕ) → k < n → get_or (numbers ++ number ∷ []) k 0 ≡ get_or numbers k 0)
        → (k : ℕ) → k < n + 1 → (k < n) ⊎ (n ≤ k) → get_or (numbers ++ number ∷ []) k 0 < length names1
    by_within at_end before k lt (inl here) = omega (arith, before k here, f.within k here, more_length g)
    by_within at_end before k lt (inr end) = let e : n ≡ k = omega arith in subst (λ j. get_or (numbers ++ number ∷ []) j 0 < length names1) e (omega (arith, at_end, h.0))

    by_same : get_or (numbers ++ number ∷ []) n 0 ≡ number → ((k : ℕ) → k < n → get_or (numbers ++ number ∷ []) k 0 ≡ get_or numbers k 0)
        → (k : ℕ) → k < n + 1 → (k < n) ⊎ (n ≤ k) → name_at names1 (get_or (numbers ++ number ∷ []) k 0) ≡ name_at others k
    by_same at_end before k lt (inl here) = ap (name_at names1) (before k here) ∙ more_name g (get_or numbers k 0) (f.within k here) ∙ f.same k here
    by_same at_end before k lt (inr end) =
        let e : n ≡ k = omega arith in
        subst (λ j. name_at names1 (get_or (numbers ++ number ∷ []) j 0) ≡ name_at others j) e (ap (name_at names1) at_end ∙ h.1)

pub first_more : {names names1 others : List Name} {numbers : List ℕ} {n : ℕ} (name : Name) (number : ℕ) → AreFirst names others numbers n → names1 ≡ with_name names name → HasNumber names1 name number
    → name ≡ name_at others n → AreFirst names1 others (numbers ++ number ∷ []) (n + 1)
first_more {names = names} {names1 = names1} {others = others} {numbers = numbers} {n = n} name number f e h is =
    let g : HasMore names names1 = named_more name (more_none names) e in
    more_first {names = names} number f g (h.0, h.1 ∙ is)
