-- The declarations of an element, the last brought into force first.
use Rattle.std.proofs.Common.{◌≡◌, ℕ, ◌<◌, List, [], ◌∷◌, ◌++◌, map, length, take, get_or, ap, sym, ◌∙◌, append_assoc, append-nil, suc}
use Rattle.std.proofs.Math.Seq.{take-suc}
use Rattle.std.proofs.lemmas.List.{map-append}
use Rattle.query_terms.specs.declared.parts.Binding.{Binding}
use Rattle.query_terms.specs.declared.tree.Attribute.{Attribute}
use Rattle.query_terms.specs.Static.{Environment, declared_in, with_bindings}
use Rattle.name_scopes.specs.Declares.{declared_of}

declared_snoc : (xs : List (List Binding)) (x : List Binding) → declared_in (xs ++ x ∷ []) ≡ x ++ declared_in xs
unfolding declared_in
declared_snoc [] x = sym (append-nil x)
declared_snoc (y ∷ ys) x = ap (λ z. z ++ y) (declared_snoc ys x) ∙ append_assoc x (declared_in ys) y

-- one attribute more in front of the others that are declared
declared_turn : (xs : List Attribute) (n : ℕ) (d : Attribute) → n < length xs →
    declared_in (map declared_of (take (suc n) xs)) ≡ declared_of (get_or xs n d) ++ declared_in (map declared_of (take n xs))
declared_turn xs n d h =
    ap (λ z. declared_in (map declared_of z)) (take-suc xs n d h)
    ∙ ap declared_in (map-append declared_of (take n xs) (get_or xs n d ∷ []))
    ∙ declared_snoc (map declared_of (take n xs)) (declared_of (get_or xs n d))

pub declare_turn : (xs : List Attribute) (n m : ℕ) (a : Attribute) (env inner all : Environment) → suc n ≡ m → n < length xs → a ≡ get_or xs n a →
    inner ≡ with_bindings (declared_of a) env → with_bindings (declared_in (map declared_of (take m xs))) env ≡ all →
    with_bindings (declared_in (map declared_of (take n xs))) inner ≡ all
declare_turn xs n m a env inner all m_is h a_is inner_is rest =
    ap (with_bindings (declared_in (map declared_of (take n xs)))) inner_is
    ∙ ap (λ bs. record { bindings = bs; variables = env.variables }) (append_assoc env.bindings (declared_of a) (declared_in (map declared_of (take n xs))))
    ∙ ap (λ bs. with_bindings bs env)
    (ap (λ x. declared_of x ++ declared_in (map declared_of (take n xs))) a_is ∙ sym (declared_turn xs n a h) ∙ ap (λ k. declared_in (map declared_of (take k xs))) m_is)
    ∙ rest

pub declare_done : (xs : List Attribute) (n : ℕ) (env all : Environment) → n ≡ 0 → with_bindings (declared_in (map declared_of (take n xs))) env ≡ all → env ≡ all
unfolding declared_in
declare_done xs n env all n_is rest =
    ap (λ bs. record { bindings = bs; variables = env.variables }) (sym (append-nil env.bindings))
    ∙ ap (λ k. with_bindings (declared_in (map declared_of (take k xs))) env) (sym n_is)
    ∙ rest
