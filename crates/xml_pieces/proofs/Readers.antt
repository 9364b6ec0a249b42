-- Exact readers, one by one and put together.
use Rattle.std.proofs.Common.{◌≡◌, ◌≢◌, ◌⊎◌, inl, inr, ℕ, Bool, true, false, not, ◌&&◌, cond, eqb, List, [], ◌∷◌, ◌++◌, length, length-append, drop, Option, Some, None, refl, sym, ap, ◌∙◌, subst, arith, append_assoc}
use Rattle.std.specs.Prelude.{⊤, ◌≤◌}
use Rattle.std.specs.List.{list_all}
use Rattle.std.specs.Option.{option_and_then}
use Rattle.std.proofs.Math.Seq.{drop-append_seam}
use Rattle.std.proofs.lemmas.Bool.{false≢true, eqb-true}
use Rattle.std.proofs.lemmas.Bool.Decides.{eqb_tells}
use Rattle.tree_model.specs.XmlChars.{first_is, begins_with, is_free}
use Rattle.tree_model.specs.XmlSource.{if_text}
use Rattle.tree_model.specs.XmlGood.{IfThere}
use Rattle.xml_pieces.specs.Readers.{Read, read, span, one, tested, cons_read, until, word_of, then_second, both, chain, kept, maybe, as_read, IsExact}
use Rattle.xml_pieces.proofs.Spans.{both_true, front, skip, front_all, skip_all, front_skip, front_passes, skip_stops}

pub same_read : {A : Type 0} (x y : A) (a b : List ℕ) → read x a ≡ read y b → (x ≡ y) × (a ≡ b)
same_read {A = A} x y a b e =
    let pair : ◌≡◌ {A = A × List ℕ} (x, a) (y, b) = cc in
    (ap (λ (p : A × List ℕ). p.0) pair, ap (λ (p : A × List ℕ). p.1) pair)

pub same_byte : (d : ℕ) → eqb d d ≡ true
same_byte d = by (eqb_tells d d)
  where
    by : ((eqb d d ≡ true) × (d ≡ d)) ⊎ ((eqb d d ≡ false) × (d ≢ d)) → eqb d d ≡ true
    by (inl e) = e.0
    by (inr e) = absurd (e.1 refl)

free_parts : (a b : Bool) → (not a && b) ≡ true → (a ≡ false) × (b ≡ true)
free_parts false b e = (refl, e)
free_parts true b e = absurd (false≢true e)

pub span_exact : (p : ℕ → Bool) → IsExact (List ℕ) (span p) (λ v. v) (λ v. list_all p v ≡ true) (λ v rest. first_is p rest ≡ false)
span_exact p = record {
  sound = λ bytes x rest e.
      let same = same_read (front p bytes) x (skip p bytes) rest e in
      (front_skip p bytes ∙ ap (λ l. l ++ skip p bytes) same.0 ∙ ap (λ l. x ++ l) same.1, ap (list_all p) (sym same.0) ∙ front_passes p bytes, ap (first_is p) (sym same.1) ∙ skip_stops p bytes);
  complete = λ x rest fits ends. ap (λ l. read l (skip p (x ++ rest))) (front_all p x rest fits ends) ∙ ap (read x) (skip_all p x rest fits ends);
}

pub one_exact : (p : ℕ → Bool) → IsExact ℕ (one p) (λ c. c ∷ []) (λ c. p c ≡ true) (λ c rest. ⊤)
one_exact p = record {
  sound = λ bytes x rest e. one_sound bytes x rest e;
  complete = λ x rest fits ends. ap (λ b. cond b (read x rest) None) fits;
}
  where
    one_sound : (bytes : List ℕ) (x : ℕ) (rest : List ℕ) → one p bytes ≡ Some (x, rest) → (bytes ≡ x ∷ rest) × (p x ≡ true) × ⊤
    one_sound [] x rest e = absurd cc
    one_sound (c ∷ bytes) x rest e = by (p c) refl e
      where
        by : (b : Bool) → p c ≡ b → cond b (read c bytes) None ≡ Some (x, rest) → (c ∷ bytes ≡ x ∷ rest) × (p x ≡ true) × ⊤
        by true is e = let same = same_read c x bytes rest e in (ap (λ l. l ∷ bytes) same.0 ∙ ap (λ l. x ∷ l) same.1, ap p (sym same.0) ∙ is, tt)
        by false is e = absurd cc

pub tested_exact : {A : Type 0} {r : List ℕ → Read A} {spell : A → List ℕ} {Fits : A → Type 0} {Ends : A → List ℕ → Type 0} (p : A → Bool)
    → IsExact A r spell Fits Ends → IsExact A (λ bytes. tested p (r bytes)) spell (λ x. Fits x × (p x ≡ true)) Ends
tested_exact {A = A} {r = r} {spell = spell} {Fits = Fits} {Ends = Ends} p is = record {
  sound = λ bytes x rest e. by bytes x rest (r bytes) refl e;
  complete = λ x rest fits ends. ap (tested p) (is.complete x rest fits.0 ends) ∙ ap (λ b. cond b (read x rest) None) fits.1;
}
  where
    chosen : (b : Bool) (y x : A) (after rest : List ℕ) → p y ≡ b → cond b (read y after) None ≡ read x rest → (read y after ≡ read x rest) × (p x ≡ true)
    chosen true y x after rest is e = (e, ap p (sym (same_read y x after rest e).0) ∙ is)
    chosen false y x after rest is e = absurd cc

    by : (bytes : List ℕ) (x : A) (rest : List ℕ) (y : Read A) → r bytes ≡ y → tested p y ≡ Some (x, rest) → (bytes ≡ spell x ++ rest) × (Fits x × (p x ≡ true)) × Ends x rest
    by bytes x rest None was e = absurd cc
    by bytes x rest (Some y) was e =
        let parts = chosen (p y.0) y.0 x y.1 rest refl e in
        let found = is.sound bytes x rest (was ∙ parts.0) in
        (found.0, (found.1, parts.1), found.2)

-- the same law in other words
pub exact_as : {A : Type 0} {r : List ℕ → Read A} {spell spell' : A → List ℕ} {Fits Fits' : A → Type 0} {Ends Ends' : A → List ℕ → Type 0}
    → ((x : A) → spell x ≡ spell' x) → ((x : A) → Fits x → Fits' x) → ((x : A) → Fits' x → Fits x)
    → ((x : A) (rest : List ℕ) → Ends x rest → Ends' x rest) → ((x : A) (rest : List ℕ) → Fits' x → Ends' x rest → Ends x rest)
    → IsExact A r spell Fits Ends → IsExact A r spell' Fits' Ends'
exact_as {r = r} same fits fits_back ends ends_back is = record {
  sound = λ bytes x rest e. let found = is.sound bytes x rest e in (found.0 ∙ ap (λ l. l ++ rest) (same x), fits x found.1, ends x rest found.2);
  complete = λ x rest f e. ap (λ l. r (l ++ rest)) (sym (same x)) ∙ is.complete x rest (fits_back x f) (ends_back x rest f e);
}

-- the second by what the first has read, where what follows must end each of them
pub chain_ends : {A B : Type 0} {r : List ℕ → Read A} {s : A → List ℕ → Read B} {spell : A → List ℕ} {spell' : A → B → List ℕ} {Fits : A → Type 0} {Fits' : A → B → Type 0} {Ends : A → List ℕ → Type 0} {Ends' : A → B → List ℕ → Type 0}
    → IsExact A r spell Fits Ends → ((x : A) → IsExact B (s x) (spell' x) (Fits' x) (Ends' x))
    → IsExact (A × B) (chain r s) (λ x. spell x.0 ++ spell' x.0 x.1) (λ x. Fits x.0 × Fits' x.0 x.1) (λ x rest. Ends x.0 (spell' x.0 x.1 ++ rest) × Ends' x.0 x.1 rest)
chain_ends {A = A} {B = B} {r = r} {s = s} {spell = spell} {spell' = spell'} {Fits = Fits} {Fits' = Fits'} {Ends = Ends} {Ends' = Ends'} first second = record {
  sound = λ bytes x rest e. by bytes x rest (r bytes) refl e;
  complete = λ x rest fits ends.
      ap (chain r s) (append_assoc (spell x.0) (spell' x.0 x.1) rest)
      ∙ ap (option_and_then (λ (y : A × List ℕ). then_second y.0 (s y.0 y.1))) (first.complete x.0 (spell' x.0 x.1 ++ rest) fits.0 ends.0)
      ∙ ap (then_second x.0) ((second x.0).complete x.1 rest fits.1 ends.1);
}
  where
    Is : List ℕ → A × B → List ℕ → Type 0
    Is bytes x rest = (bytes ≡ (spell x.0 ++ spell' x.0 x.1) ++ rest) × (Fits x.0 × Fits' x.0 x.1) × (Ends x.0 (spell' x.0 x.1 ++ rest) × Ends' x.0 x.1 rest)

    end : (bytes : List ℕ) (x : A × B) (rest : List ℕ) (a : A) (after : List ℕ) (z : Read B) → r bytes ≡ Some (a, after) → s a after ≡ z → then_second a z ≡ Some (x, rest) → Is bytes x rest
    end bytes x rest a after None was is e = absurd cc
    end bytes x rest a after (Some z) was is e =
        let same = same_read (a, z.0) x z.1 rest e in
        let here = first.sound bytes a after was in
        let behind = (second a).sound after z.0 z.1 is in
        let found : Is bytes (a, z.0) z.1 = (here.0 ∙ ap (λ l. spell a ++ l) behind.0 ∙ sym (append_assoc (spell a) (spell' a z.0) z.1), (here.1, behind.1), (subst (λ l. Ends a l) behind.0 here.2, behind.2)) in
        subst (λ l. Is bytes x l) same.1 (subst (λ p. Is bytes p z.1) same.0 found)

    by : (bytes : List ℕ) (x : A × B) (rest : List ℕ) (y : Read A) → r bytes ≡ y → option_and_then (λ (y : A × List ℕ). then_second y.0 (s y.0 y.1)) y ≡ Some (x, rest) → Is bytes x rest
    by bytes x rest None was e = absurd cc
    by bytes x rest (Some y) was e = end bytes x rest y.0 y.1 (s y.0 y.1) was refl e

pub both_ends : {A B : Type 0} {r : List ℕ → Read A} {s : List ℕ → Read B} {spell : A → List ℕ} {spell' : B → List ℕ} {Fits : A → Type 0} {Fits' : B → Type 0} {Ends : A → List ℕ → Type 0} {Ends' : B → List ℕ → Type 0}
    → IsExact A r spell Fits Ends → IsExact B s spell' Fits' Ends'
    → IsExact (A × B) (both r s) (λ x. spell x.0 ++ spell' x.1) (λ x. Fits x.0 × Fits' x.1) (λ x rest. Ends x.0 (spell' x.1 ++ rest) × Ends' x.1 rest)
both_ends first second = chain_ends first (λ x. second)

-- the same, where a link shows that the second ends the first
pub chain_exact : {A B : Type 0} {r : List ℕ → Read A} {s : A → List ℕ → Read B} {spell : A → List ℕ} {spell' : A → B → List ℕ} {Fits : A → Type 0} {Fits' : A → B → Type 0} {Ends : A → List ℕ → Type 0} {Ends' : A → B → List ℕ → Type 0}
    → IsExact A r spell Fits Ends → ((x : A) → IsExact B (s x) (spell' x) (Fits' x) (Ends' x)) → ((x : A) (y : B) (rest : List ℕ) → Fits x → Fits' x y → Ends' x y rest → Ends x (spell' x y ++ rest))
    → IsExact (A × B) (chain r s) (λ x. spell x.0 ++ spell' x.0 x.1) (λ x. Fits x.0 × Fits' x.0 x.1) (λ x rest. Ends' x.0 x.1 rest)
chain_exact first second link = exact_as (λ x. refl) (λ x f. f) (λ x f. f) (λ x rest e. e.1) (λ x rest f e. (link x.0 x.1 rest f.0 f.1 e, e)) (chain_ends first second)

pub both_exact : {A B : Type 0} {r : List ℕ → Read A} {s : List ℕ → Read B} {spell : A → List ℕ} {spell' : B → List ℕ} {Fits : A → Type 0} {Fits' : B → Type 0} {Ends : A → List ℕ → Type 0} {Ends' : B → List ℕ → Type 0}
    → IsExact A r spell Fits Ends → IsExact B s spell' Fits' Ends' → ((x : A) (y : B) (rest : List ℕ) → Fits x → Fits' y → Ends' y rest → Ends x (spell' y ++ rest))
    → IsExact (A × B) (both r s) (λ x. spell x.0 ++ spell' x.1) (λ x. Fits x.0 × Fits' x.1) (λ x rest. Ends' x.1 rest)
both_exact first second link = chain_exact first (λ x. second) link

-- a part that may be left out: it is, only where it can't be read
abbrev pub EndsIf : {A : Type 0} → (List ℕ → Read A) → (A → List ℕ → Type 0) → Option A → List ℕ → Type 0
EndsIf r Ends None rest = r rest ≡ None
EndsIf r Ends (Some x) rest = Ends x rest

pub maybe_exact : {A : Type 0} {r : List ℕ → Read A} {spell : A → List ℕ} {Fits : A → Type 0} {Ends : A → List ℕ → Type 0} → IsExact A r spell Fits Ends → IsExact (Option A) (maybe r) (if_text spell) (IfThere Fits) (EndsIf r Ends)
maybe_exact {A = A} {r = r} {spell = spell} {Fits = Fits} {Ends = Ends} is = record { sound = λ bytes x rest e. by bytes x rest (r bytes) refl e; complete = full }
  where
    by : (bytes : List ℕ) (x : Option A) (rest : List ℕ) (y : Read A) → r bytes ≡ y → kept bytes y ≡ Some (x, rest) → (bytes ≡ if_text spell x ++ rest) × IfThere Fits x × EndsIf r Ends x rest
    by bytes x rest None was e =
        let same = same_read None x bytes rest e in
        let found : (bytes ≡ bytes) × ⊤ × (r bytes ≡ None) = (refl, tt, was) in
        subst (λ l. (bytes ≡ if_text spell x ++ l) × IfThere Fits x × EndsIf r Ends x l) same.1 (subst (λ (y : Option A). (bytes ≡ if_text spell y ++ bytes) × IfThere Fits y × EndsIf r Ends y bytes) same.0 found)
    by bytes x rest (Some y) was e =
        let same = same_read (Some y.0) x y.1 rest e in
        let found = is.sound bytes y.0 y.1 was in
        subst (λ l. (bytes ≡ if_text spell x ++ l) × IfThere Fits x × EndsIf r Ends x l) same.1 (subst (λ (z : Option A). (bytes ≡ if_text spell z ++ y.1) × IfThere Fits z × EndsIf r Ends z y.1) same.0 found)

    full : (x : Option A) (rest : List ℕ) → IfThere Fits x → EndsIf r Ends x rest → maybe r (if_text spell x ++ rest) ≡ Some (x, rest)
    full None rest fits ends = ap (kept rest) ends
    full (Some x) rest fits ends = ap (kept (spell x ++ rest)) (is.complete x rest fits ends)

-- what was read, as something else that says as much
pub as_exact : {A B : Type 0} {r : List ℕ → Read A} {spell : A → List ℕ} {Fits : A → Type 0} {Ends : A → List ℕ → Type 0} (f : A → B) (back : B → A)
    → ((x : A) → back (f x) ≡ x) → ((y : B) → f (back y) ≡ y) → IsExact A r spell Fits Ends
    → IsExact B (λ bytes. as_read f (r bytes)) (λ y. spell (back y)) (λ y. Fits (back y)) (λ y rest. Ends (back y) rest)
as_exact {A = A} {B = B} {r = r} {spell = spell} {Fits = Fits} {Ends = Ends} f back there here is = record {
  sound = λ bytes y rest e. by bytes y rest (r bytes) refl e;
  complete = λ y rest fits ends. ap (as_read f) (is.complete (back y) rest fits ends) ∙ ap (λ z. read z rest) (here y);
}
  where
    by : (bytes : List ℕ) (y : B) (rest : List ℕ) (z : Read A) → r bytes ≡ z → as_read f z ≡ Some (y, rest) → (bytes ≡ spell (back y) ++ rest) × Fits (back y) × Ends (back y) rest
    by bytes y rest None was e = absurd cc
    by bytes y rest (Some x) was e =
        let same = same_read (f x.0) y x.1 rest e in
        let found = is.sound bytes x.0 x.1 was in
        let x_is : x.0 ≡ back y = sym (there x.0) ∙ ap back same.0 in
        subst (λ l. (bytes ≡ spell (back y) ++ l) × Fits (back y) × Ends (back y) l) same.1 (subst (λ (a : A). (bytes ≡ spell a ++ x.1) × Fits a × Ends a x.1) x_is found)

-- ---- words

pub begins_self : (word rest : List ℕ) → begins_with word (word ++ rest) ≡ true
begins_self [] rest = refl
begins_self (c ∷ word) rest = ap (λ b. b && begins_with word (word ++ rest)) (same_byte c) ∙ begins_self word rest

pub begins_split : (word bytes : List ℕ) → begins_with word bytes ≡ true → bytes ≡ word ++ drop (length word) bytes
begins_split [] bytes is = refl
begins_split (c ∷ word) [] is = absurd (false≢true is)
begins_split (c ∷ word) (b ∷ bytes) is =
    let parts = both_true (eqb b c) (begins_with word bytes) is in
    ap (λ x. x ∷ bytes) (eqb-true b c parts.0) ∙ ap (λ l. c ∷ l) (begins_split word bytes parts.1)

-- what follows a text that is long enough has no part in it
pub begins_longer : (word bytes rest : List ℕ) → length word ≤ length bytes → begins_with word (bytes ++ rest) ≡ begins_with word bytes
begins_longer [] bytes rest le = refl
begins_longer (c ∷ word) [] rest le = absurd (omega arith)
begins_longer (c ∷ word) (b ∷ bytes) rest le = ap (λ x. eqb b c && x) (begins_longer word bytes rest (omega arith))

pub word_exact : (word : List ℕ) → IsExact (Unit {0}) (word_of word) (λ u. word) (λ u. ⊤) (λ u rest. ⊤)
word_exact word = record {
  sound = λ bytes x rest e. by bytes x rest (begins_with word bytes) refl e;
  complete = λ x rest fits ends. ap (λ b. cond b (read x (drop (length word) (word ++ rest))) None) (begins_self word rest) ∙ ap (read x) (drop-append_seam word rest);
}
  where
    by : (bytes : List ℕ) (x : Unit {0}) (rest : List ℕ) (b : Bool) → begins_with word bytes ≡ b → cond b (read tt (drop (length word) bytes)) None ≡ Some (x, rest) → (bytes ≡ word ++ rest) × ⊤ × ⊤
    by bytes x rest true is e = (begins_split word bytes is ∙ ap (λ l. word ++ l) (same_read tt x (drop (length word) bytes) rest e).1, tt, tt)
    by bytes x rest false is e = absurd cc

module _ (w : ℕ) (ws : List ℕ) where
  abbrev word : List ℕ
  word = w ∷ ws

  longer : (c : ℕ) (v rest : List ℕ) → begins_with word (c ∷ ((v ++ word) ++ rest)) ≡ begins_with word (c ∷ (v ++ word))
  longer c v rest = begins_longer word (c ∷ (v ++ word)) rest (omega (arith, length-append v word))

  until_complete : (v rest : List ℕ) → is_free word v ≡ true → until word ((v ++ word) ++ rest) ≡ read v rest
  until_complete [] rest free = ap (λ b. cond b (read [] (drop (length word) (word ++ rest))) (cons_read w (until word (ws ++ rest)))) (begins_self word rest) ∙ ap (read []) (drop-append_seam word rest)
  until_complete (c ∷ v) rest free =
      let parts = free_parts (begins_with word (c ∷ (v ++ word))) (is_free word v) free in
      ap (λ b. cond b (read [] (drop (length word) (c ∷ ((v ++ word) ++ rest)))) (cons_read c (until word ((v ++ word) ++ rest)))) (longer c v rest ∙ parts.0) ∙ ap (cons_read c) (until_complete v rest parts.1)

  until_sound : (bytes x rest : List ℕ) → until word bytes ≡ Some (x, rest) → (bytes ≡ (x ++ word) ++ rest) × (is_free word x ≡ true) × ⊤
  until_sound [] x rest e = absurd cc
  until_sound (c ∷ bytes) x rest e = by (λ y rest e. until_sound bytes y rest e) (begins_with word (c ∷ bytes)) refl (until word bytes) refl e
    where
      by : ((y rest : List ℕ) → until word bytes ≡ Some (y, rest) → (bytes ≡ (y ++ word) ++ rest) × (is_free word y ≡ true) × ⊤)
          → (b : Bool) → begins_with word (c ∷ bytes) ≡ b → (r : Read (List ℕ)) → until word bytes ≡ r → cond b (read [] (drop (length word) (c ∷ bytes))) (cons_read c r) ≡ Some (x, rest)
          → (c ∷ bytes ≡ (x ++ word) ++ rest) × (is_free word x ≡ true) × ⊤
      by on true is r was e =
          let same = same_read [] x (drop (length word) (c ∷ bytes)) rest e in
          (begins_split word (c ∷ bytes) is ∙ ap (λ l. word ++ l) same.1 ∙ ap (λ l. (l ++ word) ++ rest) same.0, ap (is_free word) (sym same.0), tt)
      by on false is None was e = absurd cc
      by on false is (Some y) was e =
          let same = same_read (c ∷ y.0) x y.1 rest e in
          let found = on y.0 y.1 was in
          let apart : begins_with word (c ∷ (y.0 ++ word)) ≡ false = sym (longer c y.0 y.1) ∙ ap (λ l. begins_with word (c ∷ l)) (sym found.0) ∙ is in
          (ap (λ l. c ∷ l) found.0 ∙ ap (λ l. (l ++ word) ++ y.1) same.0 ∙ ap (λ l. (x ++ word) ++ l) same.1, ap (is_free word) (sym same.0) ∙ ap (λ b. not b && is_free word y.0) apart ∙ found.1, tt)

  pub until_exact : IsExact (List ℕ) (until word) (λ v. v ++ word) (λ v. is_free word v ≡ true) (λ v rest. ⊤)
  until_exact = record { sound = until_sound; complete = λ x rest fits ends. until_complete x rest fits }
