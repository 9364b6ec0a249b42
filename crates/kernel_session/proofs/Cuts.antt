-- There is one way to cut bytes into lines.
use Rattle.std.proofs.Common.{◌≡◌, ◌≢◌, ℕ, List, [], ◌∷◌, ◌++◌, refl, sym, ap, ◌∙◌, append_assoc}
use Rattle.std.proofs.lemmas.List.Elements.{All-head, All-tail}
use Rattle.kernel_session.specs.Lines.{IsOneLine}
use Rattle.kernel_session.specs.Sessions.{AreLines, joined}

-- a line has no newline in it
no_newline : (l k rest : List ℕ) → IsOneLine l → l ≡ k ++ 10 ∷ rest → ⊥
no_newline [] [] rest one is = cc
no_newline [] (c ∷ k) rest one is = cc
no_newline (d ∷ l) [] rest one is = let same : d ≡ 10 = cc in All-head (λ c. c ≢ 10) d l one same
no_newline (d ∷ l) (c ∷ k) rest one is = let same : l ≡ k ++ 10 ∷ rest = cc in no_newline l k rest (All-tail (λ c. c ≢ 10) d l one) same

-- two lines before their newlines
pub apart : (l k rest more : List ℕ) → IsOneLine l → IsOneLine k → l ++ 10 ∷ rest ≡ k ++ 10 ∷ more → (l ≡ k) × (rest ≡ more)
apart [] [] rest more one other is = let same : rest ≡ more = cc in (refl, same)
apart [] (c ∷ k) rest more one other is = let same : c ≡ 10 = cc in absurd (All-head (λ c. c ≢ 10) c k other same)
apart (d ∷ l) [] rest more one other is = let same : d ≡ 10 = cc in absurd (All-head (λ c. c ≢ 10) d l one same)
apart (d ∷ l) (c ∷ k) rest more one other is =
    let head : d ≡ c = cc in
    let tail : l ++ 10 ∷ rest ≡ k ++ 10 ∷ more = cc in
    let both = apart l k rest more (All-tail (λ c. c ≢ 10) d l one) (All-tail (λ c. c ≢ 10) c k other) tail in
    (ap (λ x. x ∷ l) head ∙ ap (λ x. c ∷ x) both.0, both.1)

pub whole : (l more rest : List ℕ) → ((l ++ 10 ∷ []) ++ more) ++ rest ≡ l ++ 10 ∷ (more ++ rest)
whole l more rest = append_assoc (l ++ 10 ∷ []) more rest ∙ append_assoc l (10 ∷ []) (more ++ rest)

pub one_cut : (ls ks : List (List ℕ)) (l k : List ℕ) → AreLines ls → AreLines ks → IsOneLine l → IsOneLine k → joined ls ++ l ≡ joined ks ++ k → (ls ≡ ks) × (l ≡ k)
one_cut [] [] l k a b one other is = (refl, is)
one_cut [] (n ∷ ks) l k a b one other is = absurd (no_newline l n (joined ks ++ k) one (is ∙ whole n (joined ks) k))
one_cut (m ∷ ls) [] l k a b one other is = absurd (no_newline k m (joined ls ++ l) other (sym is ∙ whole m (joined ls) l))
one_cut (m ∷ ls) (n ∷ ks) l k a b one other is =
    let first = apart m n (joined ls ++ l) (joined ks ++ k) a.0 b.0 (sym (whole m (joined ls) l) ∙ is ∙ whole n (joined ks) k) in
    let rest = one_cut ls ks l k a.1 b.1 one other first.1 in
    (ap (λ x. x ∷ ls) first.0 ∙ ap (λ x. n ∷ x) rest.0, rest.1)
