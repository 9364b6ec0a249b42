-- The scopes of the code, as prefixes are bound and elements end.
use Rattle.std.proofs.Common.{◌≡◌, ℕ, suc, ◌+◌, ◌-◌, ◌≤◌, List, [], ◌∷◌, ◌++◌, length, reverse, drop, refl, sym, ap, ◌∙◌, subst, arith, length-drop}
use Rattle.std.proofs.lemmas.List.{reverse-append, drop-drop}
use Rattle.prefix_scopes.specs.Scoping.{Numbering}
use Rattle.xml_rows.specs.Leaving.{inner_of, outer_less}
use Rattle.xml_rows.specs.Scoping.{outermost, outer_of, AreNested}

pub nested_more : (len more : ℕ) (lens : List ℕ) → len ≤ more → AreNested len lens → AreNested more lens
nested_more len more [] le nested = tt
nested_more len more (n ∷ lens) le nested = (omega (arith, nested.0), nested.1)

outer_same : (scope other : List Numbering) (len : ℕ) (lens : List ℕ) → AreNested len lens → ((n : ℕ) → n ≤ len → outermost n other ≡ outermost n scope) → outer_of other lens ≡ outer_of scope lens
outer_same scope other len [] nested same = refl
outer_same scope other len (n ∷ lens) nested same =
    ap (λ l. l ∷ outer_of other lens) (same n nested.0) ∙ ap (λ l. outermost n scope ∷ l) (outer_same scope other n lens nested.1 (λ k le. same k (omega (arith, le, nested.0))))

-- ---- a prefix is bound

outermost_more : (scope : List Numbering) (bound : Numbering) (n : ℕ) → n ≤ length scope → outermost n (bound ∷ scope) ≡ outermost n scope
outermost_more scope bound n le = let e : suc (length scope) - n ≡ suc (length scope - n) = omega arith in ap (λ k. drop k (bound ∷ scope)) e

pub nested_bound : (old scope : List Numbering) (bound : Numbering) (lens : List ℕ) → scope ≡ bound ∷ old → AreNested (length old) lens → AreNested (length scope) lens
nested_bound old scope bound lens is nested = nested_more (length old) (length scope) lens (omega (arith, ap length is)) nested

pub outer_bound : (old scope : List Numbering) (bound : Numbering) (lens : List ℕ) → scope ≡ bound ∷ old → AreNested (length old) lens → outer_of scope lens ≡ outer_of old lens
outer_bound old scope bound lens is nested = ap (λ l. outer_of l lens) is ∙ outer_same old (bound ∷ old) (length old) lens nested (outermost_more old bound)

-- ---- an element ends

outermost_twice : (scope : List Numbering) (m n : ℕ) → m ≤ length scope → n ≤ m → outermost n (outermost m scope) ≡ outermost n scope
outermost_twice scope m n m_le n_le =
    let cut : ℕ = length scope - m in
    let sum : cut + (length (drop cut scope) - n) ≡ length scope - n = omega (arith, m_le, n_le, length-drop cut scope) in
    drop-drop (length (drop cut scope) - n) cut scope ∙ ap (λ k. drop k scope) sum

module _ (old : List Numbering) (lens more : List ℕ) (len : ℕ) (is : lens ≡ more ++ len ∷ []) (nested : AreNested (length old) (reverse lens)) where
  turned : reverse lens ≡ len ∷ reverse more
  turned = ap reverse is ∙ reverse-append more (len ∷ [])

  both : AreNested (length old) (len ∷ reverse more)
  both = subst (λ l. AreNested (length old) l) turned nested

  pub len_within : len ≤ length old
  len_within = both.0

  pub scope_left : (scope : List Numbering) → scope ≡ outermost len old → scope ≡ inner_of old (outer_of old (reverse lens))
  scope_left scope is = is ∙ sym (ap (λ l. inner_of old (outer_of old l)) turned)

  pub outer_left : (scope : List Numbering) → scope ≡ outermost len old → outer_of scope (reverse more) ≡ outer_less (outer_of old (reverse lens))
  outer_left scope is =
      ap (λ l. outer_of l (reverse more)) is ∙ outer_same old (outermost len old) len (reverse more) both.1 (λ n le. outermost_twice old len n both.0 le)
      ∙ sym (ap (λ l. outer_less (outer_of old l)) turned)
