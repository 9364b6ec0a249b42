-- What rules read stays within a set of texts that has each text's rests, and rules read alike where their recursive rules do.
use Rattle.std.proofs.Common.{◌≡◌, ℕ, zero, suc, ◌-◌, [], ◌∷◌, length, drop, take, nat_eq, Bool, true, false, cond, refl, ap, ◌∙◌, subst, Ok, Err, ◌⊎◌, inl, inr}
use Rattle.std.specs.List.{starts_with}
use Rattle.std.specs.Str.{chars}
use Rattle.std.specs.Char.{len_utf8}
use Rattle.query_terms.specs.Rule.{Text, Value, nothing, absent, empty, more, code, Outcome, Recursion, Rule, word, any, char, seq, alt, many, opt, not, node, read, when, call, and_then, or_else, unless, join, word_at, any_at, first, first_before, passing, turn, turns, listed, fits}
use Rattle.query_terms.specs.declared.stop.Stop.TheVariants.{NoMemory, Refused, TooDeep}

abbrev pub HasRests : (Text → Type 0) → Type 0
HasRests P = (n : ℕ) (s : Text) → P s → P (drop n s)

abbrev pub Keeps : (Text → Type 0) → (Text → Outcome) → Type 0
Keeps P p = (s t : Text) (v : Value) → P s → p s ≡ Ok (v, t) → P t

abbrev pub rest_of : Text → Outcome → Text
rest_of t (Ok x) = x.1
rest_of t (Err stop) = t

pub same_rest : (v w : Value) (s t : Text) → ◌≡◌ {A = Outcome} (Ok (v, s)) (Ok (w, t)) → s ≡ t
same_rest v w s t e = ap (λ (o : Outcome). rest_of s o) e

pub then_ok : (o : Outcome) (f : Value × Text → Outcome) (y : Value × Text) → and_then o f ≡ Ok y → (x : Value × Text) × (o ≡ Ok x) × (f x ≡ Ok y)
then_ok (Ok x) f y e = (x, refl, e)
then_ok (Err stop) f y e = absurd (cc)

pub else_ok : (o q : Outcome) (y : Value × Text) → or_else o q ≡ Ok y → (o ≡ Ok y) ⊎ (q ≡ Ok y)
else_ok (Ok x) q y e = inl e
else_ok (Err Refused) q y e = inr e
else_ok (Err TooDeep) q y e = absurd (cc)
else_ok (Err NoMemory) q y e = absurd (cc)

module _ (P : Text → Type 0) (rests : HasRests P) where
  kept : (v w : Value) (s t : Text) → P s → ◌≡◌ {A = Outcome} (Ok (v, s)) (Ok (w, t)) → P t
  kept v w s t p e = subst P (same_rest v w s t e) p

  pub kept_if : (b : Bool) (v w : Value) (s t : Text) → P s → cond {A = Outcome} b (Ok (v, s)) (Err Refused) ≡ Ok (w, t) → P t
  kept_if true v w s t p e = kept v w s t p e
  kept_if false v w s t p e = absurd (cc)

  pub word_keeps : (w : Text) → Keeps P (word_at w)
  unfolding word_at
  word_keeps w s t v p e = kept_if (starts_with nat_eq s w) nothing v (drop (length w) s) t (rests (length w) s p) e

  any_keeps : Keeps P any_at
  unfolding any_at
  any_keeps [] t v p e = absurd (cc)
  any_keeps (c ∷ s) t v p e = kept nothing v s t (rests 1 (c ∷ s) p) e

  char_keeps : (q : ℕ → Bool) → Keeps P (λ s. passing q (first s))
  unfolding first
  char_keeps q s t v p e = by (chars s) e where
    by : (cs : Text) → passing q (first_before cs s) ≡ Ok (v, t) → P t
    by [] e = absurd (cc)
    by (c ∷ cs) e = kept_if (q c) (code c) v (drop (len_utf8 c) s) t (rests (len_utf8 c) s p) e

  turns_keep : (q : Text → Outcome) → Keeps P q → (n : ℕ) (v : Value) → Keeps P (turns n q v)
  unfolding turns
  turns_keep q keeps zero v s t w p e = kept v w s t p e
  turns_keep q keeps (suc n) v s t w p e = by (λ u x h. turns_keep q keeps n u x t w h) (q s) refl e where
    by : ((u : Value) (x : Text) → P x → turns n q u x ≡ Ok (w, t) → P t) → (o : Outcome) → q s ≡ o → turn (turns n q) v s o ≡ Ok (w, t) → P t
    by later (Ok x) is e = later (more v x.0) x.1 (keeps s x.1 x.0 p is) e
    by later (Err Refused) is e = kept v w s t p e
    by later (Err TooDeep) is e = absurd (cc)
    by later (Err NoMemory) is e = absurd (cc)

  unless_keeps : (o : Outcome) (s t : Text) (v : Value) → P s → unless o s ≡ Ok (v, t) → P t
  unless_keeps (Ok x) s t v p e = absurd (cc)
  unless_keeps (Err Refused) s t v p e = kept nothing v s t p e
  unless_keeps (Err TooDeep) s t v p e = absurd (cc)
  unless_keeps (Err NoMemory) s t v p e = absurd (cc)

  module _ (total : ℕ) (recursions : Recursion → Text → Outcome) (keeps : (k : Recursion) → Keeps P (recursions k)) where
    pub fits_keeps : (r : Rule) → Keeps P (fits total recursions r)
    fits_keeps (word w) s t v p e = word_keeps w s t v p e
    fits_keeps any s t v p e = any_keeps s t v p e
    fits_keeps (char q) s t v p e = char_keeps q s t v p e
    fits_keeps (seq a b) s t v p e =
        let x = then_ok (fits total recursions a s) _ _ e in
        let y = then_ok (fits total recursions b x.0.1) _ _ x.2 in
        kept _ _ y.0.1 t (fits_keeps b x.0.1 y.0.1 y.0.0 (fits_keeps a s x.0.1 x.0.0 p x.1) y.1) y.2
    fits_keeps (alt a b) s t v p e =
        elim (else_ok (fits total recursions a s) (fits total recursions b s) (v, t) e) [ inl h ↦ fits_keeps a s t v p h | inr h ↦ fits_keeps b s t v p h ]
    fits_keeps (many a) s t v p e =
        let x = then_ok (turns (suc (length s)) (fits total recursions a) empty s) _ _ e in
        kept _ _ x.0.1 t (turns_keep (fits total recursions a) (fits_keeps a) (suc (length s)) empty s x.0.1 x.0.0 p x.1) x.2
    fits_keeps (opt a) s t v p e =
        elim (else_ok (fits total recursions a s) (Ok (absent, s)) (v, t) e) [ inl h ↦ fits_keeps a s t v p h | inr h ↦ kept absent v s t p h ]
    fits_keeps (not a) s t v p e = unless_keeps (fits total recursions a s) s t v p e
    fits_keeps (node f a) s t v p e =
        let x = then_ok (fits total recursions a s) _ _ e in
        kept _ _ x.0.1 t (fits_keeps a s x.0.1 x.0.0 p x.1) x.2
    fits_keeps (read f a) s t v p e =
        let x = then_ok (fits total recursions a s) _ _ e in
        kept _ _ x.0.1 t (fits_keeps a s x.0.1 x.0.0 p x.1) x.2
    fits_keeps (when q a) s t v p e =
        let x = then_ok (fits total recursions a s) _ _ e in
        kept_if (q x.0.0) x.0.0 v x.0.1 t (fits_keeps a s x.0.1 x.0.0 p x.1) x.2
    fits_keeps (call k) s t v p e = keeps k s t v p e

then_same : (o q : Outcome) (f g : Value × Text → Outcome) → o ≡ q → ((x : Value × Text) → o ≡ Ok x → f x ≡ g x) → and_then o f ≡ and_then q g
then_same (Ok x) q f g e h = h x refl ∙ ap (λ (z : Outcome). and_then z g) e
then_same (Err stop) q f g e h = ap (λ (z : Outcome). and_then z g) e

module _ (P : Text → Type 0) (rests : HasRests P) (total : ℕ) (recursions others : Recursion → Text → Outcome) (keeps : (k : Recursion) → Keeps P (recursions k)) (same : (k : Recursion) (s : Text) → P s → recursions k s ≡ others k s) where
  turns_agree : (p q : Text → Outcome) → Keeps P p → ((s : Text) → P s → p s ≡ q s) → (n : ℕ) (v : Value) (s : Text) → P s → turns n p v s ≡ turns n q v s
  unfolding turns
  turns_agree p q stays agree zero v s h = refl
  turns_agree p q stays agree (suc n) v s h = by (λ u x k. turns_agree p q stays agree n u x k) (p s) refl ∙ ap (λ (o : Outcome). turn (turns n q) v s o) (agree s h) where
    by : ((u : Value) (x : Text) → P x → turns n p u x ≡ turns n q u x) → (o : Outcome) → p s ≡ o → turn (turns n p) v s o ≡ turn (turns n q) v s o
    by later (Ok x) is = later (more v x.0) x.1 (stays s x.1 x.0 h is)
    by later (Err Refused) is = refl
    by later (Err TooDeep) is = refl
    by later (Err NoMemory) is = refl

  pub fits_agree : (r : Rule) (s : Text) → P s → fits total recursions r s ≡ fits total others r s
  fits_agree (word w) s h = refl
  fits_agree any s h = refl
  fits_agree (char q) s h = refl
  fits_agree (seq a b) s h = then_same _ _ _ _ (fits_agree a s h)
      (λ x is. ap (λ (o : Outcome). and_then o (λ y. Ok (join x.0 y.0, y.1))) (fits_agree b x.1 (fits_keeps P rests total recursions keeps a s x.1 x.0 h is)))
  fits_agree (alt a b) s h = ap (λ (o : Outcome). or_else o (fits total recursions b s)) (fits_agree a s h) ∙ ap (λ (o : Outcome). or_else (fits total others a s) o) (fits_agree b s h)
  fits_agree (many a) s h = ap (λ (o : Outcome). and_then o listed)
      (turns_agree (fits total recursions a) (fits total others a) (fits_keeps P rests total recursions keeps a) (fits_agree a) (suc (length s)) empty s h)
  fits_agree (opt a) s h = ap (λ (o : Outcome). or_else o (Ok (absent, s))) (fits_agree a s h)
  fits_agree (not a) s h = ap (λ (o : Outcome). unless o s) (fits_agree a s h)
  fits_agree (node f a) s h = ap (λ (o : Outcome). and_then o (λ x. Ok (f (total - length s) (total - length x.1) x.0, x.1))) (fits_agree a s h)
  fits_agree (read f a) s h = ap (λ (o : Outcome). and_then o (λ x. Ok (f (take (length s - length x.1) s) x.0, x.1))) (fits_agree a s h)
  fits_agree (when q a) s h = ap (λ (o : Outcome). and_then o (λ x. cond (q x.0) (Ok x) (Err Refused))) (fits_agree a s h)
  fits_agree (call k) s h = same k s h
