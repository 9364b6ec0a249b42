-- Values that are moved to another heap, one after the other.
use Rattle.std.proofs.Common.{◌≡◌, ℕ, suc, ◌+◌, ◌<◌, ◌≤◌, List, [], ◌∷◌, ◌++◌, length, map, take, get_or, refl, sym, ap, ◌∙◌, subst, arith, add-one, length-append}
use Rattle.std.specs.List.{All, flat_map}
use Rattle.std.proofs.lemmas.List.{map-append, take_all}
use Rattle.std.proofs.lemmas.List.Elements.{All-nil, All-push}
use Rattle.std.proofs.lemmas.Grind.{flat_map-append}
use Rattle.std.proofs.Common.{append-nil}
use Rattle.std.proofs.Math.Seq.{take-suc}
use Rattle.tree_model.specs.Rows.{value_at}
use Rattle.tree_model.specs.declared.row.ValueRef.{ValueRef}
use Rattle.tree_model.proofs.Tables.{value_kept, value_new}

-- the value lies among the bytes
abbrev pub Lies : List ℕ → ValueRef → Type 0
Lies values r = r.at + r.len ≤ length values

-- these values alone, and where they lie
pub record Moved (old : List ℕ) (refs : List ValueRef) (new : List ℕ) (places : List ValueRef) : Type 0 where
  pub bytes : new ≡ flat_map (value_at old) refs
  pub values : map (value_at new) places ≡ map (value_at old) refs
  pub inside : All (Lies new) places

pub moved_none : (old new : List ℕ) (places : List ValueRef) → new ≡ [] → places ≡ [] → Moved old [] new places
moved_none old new places e f = record {
  bytes = e;
  values = ap (map (value_at new)) f;
  inside = subst (All (Lies new)) (sym f) (All-nil _);
}

all_kept : (new more : List ℕ) (places : List ValueRef) → All (Lies new) places → (All (Lies (new ++ more)) places) × (map (value_at (new ++ more)) places ≡ map (value_at new) places)
all_kept new more places inside = (λ k d lt. omega (arith, inside k d lt, length-append new more), kept places inside)
  where
    kept : (places : List ValueRef) → All (Lies new) places → map (value_at (new ++ more)) places ≡ map (value_at new) places
    kept [] inside = refl
    kept (r ∷ places) inside =
        let first = value_kept new more r (inside 0 r (omega arith)) in
        let rest = kept places (λ k d lt. inside (suc k) d (omega arith)) in
        cc

pub moved_more : (old new value : List ℕ) (refs : List ValueRef) (places : List ValueRef) (r place : ValueRef) → Moved old refs new places → value ≡ value_at old r → place.at ≡ length new → place.len ≡ length value
    → Moved old (refs ++ r ∷ []) (new ++ value) (places ++ place ∷ [])
moved_more old new value refs places r place m is at len =
    let kept = all_kept new value places m.inside in
    record {
      bytes = ap (λ l. l ++ value) m.bytes ∙ ap (λ l. flat_map (value_at old) refs ++ l) (is ∙ sym (append-nil (value_at old r))) ∙ sym (flat_map-append (value_at old) refs (r ∷ []));
      values =
          map-append (value_at (new ++ value)) places (place ∷ []) ∙ ap (λ l. l ++ value_at (new ++ value) place ∷ []) (kept.1 ∙ m.values)
          ∙ ap (λ v. map (value_at old) refs ++ v ∷ []) (value_new new value place at len ∙ is) ∙ sym (map-append (value_at old) refs (r ∷ []));
      inside = All-push (Lies (new ++ value)) places place kept.0 (omega (arith, at, len, length-append new value));
    }

-- the values of so many refs, and of one more
pub moved_next : (old new value new' : List ℕ) (refs : List ValueRef) (places places' : List ValueRef) (i : ℕ) (z place : ValueRef) → i < length refs → Moved old (take i refs) new places
    → value ≡ value_at old (get_or refs i z) → new' ≡ new ++ value → places' ≡ places ++ place ∷ [] → place.at ≡ length new → place.len ≡ length value → Moved old (take (i + 1) refs) new' places'
moved_next old new value new' refs places places' i z place lt m is e f at len =
    let r : ValueRef = get_or refs i z in
    let front : take i refs ++ r ∷ [] ≡ take (i + 1) refs = sym (take-suc refs i z lt) ∙ ap (λ n. take n refs) (sym (add-one i)) in
    subst (λ l. Moved old l new' places') front
    (subst (λ l. Moved old (take i refs ++ r ∷ []) l places') (sym e)
    (subst (λ l. Moved old (take i refs ++ r ∷ []) (new ++ value) l) (sym f) (moved_more old new value (take i refs) places r place m is at len)))

pub moved_all : (old new : List ℕ) (refs places : List ValueRef) (i : ℕ) → length refs ≤ i → Moved old (take i refs) new places → Moved old refs new places
moved_all old new refs places i le m = subst (λ l. Moved old l new places) (take_all i refs le) m
