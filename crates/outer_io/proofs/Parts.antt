-- The front of what is left, and the rest.
use Rattle.std.proofs.Common.{◌≡◌, ℕ, ◌+◌, List, ◌++◌, take, drop, sym, ap, ◌∙◌, take-append-drop}
use Rattle.std.proofs.lemmas.List.{drop-drop}

pub drop_splits : (i n : ℕ) (xs front : List ℕ) → front ≡ take n (drop i xs) → drop i xs ≡ front ++ drop (i + n) xs
drop_splits i n xs front is =
    sym (take-append-drop n (drop i xs)) ∙ ap (λ l. l ++ drop n (drop i xs)) (sym is) ∙ ap (λ l. front ++ l) (drop-drop n i xs)
