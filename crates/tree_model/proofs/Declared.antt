-- Declarations are read from their text.
use Rattle.std.proofs.Common.{◌≡◌, ℕ, Bool, true, not, ◌==◌, List, [], ◌∷◌, ◌++◌, refl, sym, ap, ◌∙◌, append_assoc, append-nil}
use Rattle.std.specs.List.{list_all}
use Rattle.std.proofs.lemmas.Bool.{and_parts, not-true, cond-false}
use Rattle.tree_model.specs.Declarations.{Binding, texts_from, in_pairs, declarations_of, declarations_value}

-- no byte 0 stands in a text
abbrev pub has_no_zero : List ℕ → Bool
has_no_zero bytes = list_all (λ c. not (c == 0)) bytes

texts_behind : (gathered text rest : List ℕ) → has_no_zero text ≡ true → texts_from gathered (text ++ 0 ∷ rest) ≡ (gathered ++ text) ∷ texts_from [] rest
texts_behind gathered [] rest h = ap (λ (x : List ℕ). x ∷ texts_from [] rest) (sym (append-nil gathered))
texts_behind gathered (c ∷ text) rest h =
    let both = and_parts (not (c == 0)) (has_no_zero text) h in
    cond-false _ _ _ (not-true _ both.0) ∙ texts_behind (gathered ++ c ∷ []) text rest both.1
    ∙ ap (λ (x : List ℕ). x ∷ texts_from [] rest) (append_assoc gathered (c ∷ []) text)

-- the first declaration of a text
pub first_declaration : (prefix uri rest : List ℕ) → has_no_zero prefix ≡ true → has_no_zero uri ≡ true
    → declarations_of (prefix ++ (0 ∷ (uri ++ (0 ∷ rest)))) ≡ (prefix, uri) ∷ declarations_of rest
unfolding declarations_of
first_declaration prefix uri rest h k =
    ap in_pairs (texts_behind [] prefix (uri ++ (0 ∷ rest)) h ∙ ap (λ (x : List (List ℕ)). prefix ∷ x) (texts_behind [] uri rest k))

pub no_declaration : declarations_of [] ≡ []
unfolding declarations_of
no_declaration = refl

abbrev pub HaveNoZero : List Binding → Type 0
HaveNoZero [] = Unit {0}
HaveNoZero (d ∷ ds) = (has_no_zero d.0 ≡ true) × (has_no_zero d.1 ≡ true) × HaveNoZero ds

pub declarations_back : (ds : List Binding) → HaveNoZero ds → declarations_of (declarations_value ds) ≡ ds
declarations_back [] h = no_declaration
declarations_back (d ∷ ds) h = first_declaration d.0 d.1 (declarations_value ds) h.0 h.1 ∙ ap (λ (x : List Binding). d ∷ x) (declarations_back ds h.2)
