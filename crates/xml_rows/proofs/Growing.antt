-- Lists that grow at their end.
use Rattle.std.proofs.Common.{◌≡◌, ◌⊎◌, inl, inr, ℕ, ◌<◌, ◌≤◌, List, [], ◌∷◌, ◌++◌, length, drop, get_or, refl, sym, ap, ◌∙◌, subst, append_assoc, arith}
use Rattle.std.proofs.lemmas.List.{get_or-take, length-take, take-append-drop, take_at, take_all}
use Rattle.tree_model.specs.declared.text.Name.{Name}
use Rattle.name_pool.specs.Names.{with_name}
use Rattle.name_pool.proofs.Growing.{with_name_cases}
use Rattle.xml_rows.specs.Numbers.{Begins}

pub begins_self : {A : Type 0} (old : List A) → Begins old old
begins_self old = take_all (length old) old (omega arith)

pub begins_append : {A : Type 0} (old more : List A) → Begins old (old ++ more)
begins_append old more = take_at old more (length old) refl

pub begins_length : {A : Type 0} (old new : List A) → Begins old new → length old ≤ length new
begins_length old new begins = omega (arith, length-take (length old) new, ap length begins)

pub begins_at : {A : Type 0} (old new : List A) (k : ℕ) (d : A) → Begins old new → k < length old → get_or new k d ≡ get_or old k d
begins_at old new k d begins lt = sym (get_or-take (length old) new k d lt) ∙ ap (λ l. get_or l k d) begins

-- what stands behind
pub begins_more : {A : Type 0} (old new : List A) → Begins old new → new ≡ old ++ drop (length old) new
begins_more old new begins = sym (take-append-drop (length old) new) ∙ ap (λ l. l ++ drop (length old) new) begins

pub begins_twice : {A : Type 0} (old mid new : List A) → Begins old mid → Begins mid new → Begins old new
begins_twice old mid new first second =
    let e : new ≡ old ++ (drop (length old) mid ++ drop (length mid) new) = begins_more mid new second ∙ ap (λ l. l ++ drop (length mid) new) (begins_more old mid first) ∙ append_assoc old (drop (length old) mid) (drop (length mid) new) in
    subst (λ l. Begins old l) (sym e) (begins_append old (drop (length old) mid ++ drop (length mid) new))

pub begins_one : {A : Type 0} (old new : List A) (x : A) → (new ≡ old) ⊎ (new ≡ old ++ x ∷ []) → Begins old new
begins_one old new x (inl e) = subst (λ l. Begins old l) (sym e) (begins_self old)
begins_one old new x (inr e) = subst (λ l. Begins old l) (sym e) (begins_append old (x ∷ []))

pub begins_with_name : (old new : List Name) (name : Name) → new ≡ with_name old name → Begins old new
begins_with_name old new name is = begins_one old new name (by (with_name_cases old name))
  where
    by : (with_name old name ≡ old) ⊎ (with_name old name ≡ old ++ name ∷ []) → (new ≡ old) ⊎ (new ≡ old ++ name ∷ [])
    by (inl e) = inl (is ∙ e)
    by (inr e) = inr (is ∙ e)
