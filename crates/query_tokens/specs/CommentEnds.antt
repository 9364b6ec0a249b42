-- The table of where comments end, filled from the end of the text.
use Rattle.std.specs.Prelude.{ℕ, zero, suc, ◌-◌, ◌&&◌, ◌==◌, if◌then◌else◌, List, [], ◌∷◌, ◌++◌, length, drop, slice_index}
use Rattle.query_terms.specs.Rule.{Text}

-- a comment that stands where another is under way, by the entry of the text inside it: the other goes on behind it, or, where it has no end, behind its parenthesis
abbrev pub behind_inner : List ℕ → ℕ → Text → ℕ
behind_inner comment_ends zero s = slice_index comment_ends (length s)
behind_inner comment_ends (suc left) s = slice_index comment_ends left

-- the entry of c and s
abbrev pub comment_end_at : ℕ → Text → List ℕ → ℕ
comment_end_at c [] comment_ends = slice_index comment_ends 0
comment_end_at c (d ∷ s) comment_ends =
    if c == 58 && d == 41 then suc (length s)
    else (if c == 40 && d == 58 then behind_inner comment_ends (slice_index comment_ends (length s)) (d ∷ s) else slice_index comment_ends (length (d ∷ s)))

abbrev pub comment_end_before : Text → List ℕ → ℕ
comment_end_before [] comment_ends = 0
comment_end_before (c ∷ s) comment_ends = comment_end_at c s comment_ends

-- the entries of the shortest texts
abbrev pub comment_ends_below : Text → ℕ → List ℕ
comment_ends_below text zero = []
comment_ends_below text (suc n) = comment_ends_below text n ++ comment_end_before (drop (length text - n) text) (comment_ends_below text n) ∷ []
