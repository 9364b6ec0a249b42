-- The declarations of the prolog, one after another.
use Rattle.std.proofs.Common.{◌≡◌, ℕ, ◌<◌, ◌≤◌, List, [], ◌∷◌, ◌++◌, length, take, drop, get_or, ap, sym, ◌∙◌, suc, Option}
use Rattle.std.proofs.Math.Seq.{take-suc, drop-cons}
use Rattle.std.proofs.Math.ListN.{drop_of_length-le}
use Rattle.std.proofs.lemmas.List.Sums.{fold-append}
use Rattle.query_terms.specs.declared.tree.Declaration.{Declaration}
use Rattle.query_terms.specs.Static.{Fault, declaration_faults, least_of, lesser, prolog_faults}

pub prolog_turn : (xs seen : List Declaration) (n m : ℕ) (d : Declaration) (found inner all : Option Fault) → suc n ≡ m → n < length xs → d ≡ get_or xs n d →
    seen ≡ take n xs → inner ≡ least_of found (declaration_faults seen d) → least_of found (prolog_faults (take n xs) (drop n xs)) ≡ all →
    least_of inner (prolog_faults (take m xs) (drop m xs)) ≡ all
unfolding prolog_faults
prolog_turn xs seen n m d found inner all m_is h d_is seen_is inner_is rest =
    let g : Declaration = get_or xs n d in
    let front : List Declaration = take n xs in
    let more : List Declaration = drop (suc n) xs in
    ap (λ k. least_of inner (prolog_faults (take k xs) (drop k xs))) (sym m_is)
    ∙ ap (λ e. least_of inner (prolog_faults e more)) (take-suc xs n d h)
    ∙ ap (λ o. least_of o (prolog_faults (front ++ g ∷ []) more))
    (inner_is ∙ ap (λ e. least_of found (declaration_faults seen e)) d_is ∙ ap (λ e. least_of found (declaration_faults e g)) seen_is)
    ∙ sym (fold-append lesser found (declaration_faults front g) (prolog_faults (front ++ g ∷ []) more))
    ∙ ap (λ e. least_of found (prolog_faults front e)) (sym (drop-cons xs n d h))
    ∙ rest

pub prolog_done : (xs : List Declaration) (n : ℕ) (found all : Option Fault) → length xs ≤ n → least_of found (prolog_faults (take n xs) (drop n xs)) ≡ all → found ≡ all
unfolding prolog_faults
prolog_done xs n found all h rest = ap (λ e. least_of found (prolog_faults (take n xs) e)) (sym (drop_of_length-le xs h)) ∙ rest
