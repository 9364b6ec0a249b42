-- The open elements stand in rows that are made, and each has its outer scope.
use Rattle.std.proofs.Common.{◌≡◌, ℕ, ◌<◌, ◌≤◌, Bool, true, false, cond, List, [], ◌∷◌, length, refl, arith}
use Rattle.tree_model.specs.Labels.{text_label}
use Rattle.tree_model.specs.XmlMeaning.{with_attrs, is_kept_text, tag_label, attr_labels, comm_label, pi_label}
use Rattle.xml_pieces.specs.Tokens.{Token, part_token, cdata_token, comm_token, pi_token, open_token, attr_token, quote_token, go_token, shut_token, close_token}
use Rattle.xml_rows.specs.Work.{Mode, in_content, in_tag, in_value, Work, top, with_leaf, ended, with_text, less, works_at, works, all_works, begin_work}
use Rattle.xml_rows.proofs.WorkingTrees.{length-with_tag}
use Rattle.xml_rows.proofs.Counting.{length-with_leaf, length-ended}

-- each place is below the number of rows, and there is a row
abbrev pub AreBelow : ℕ → List ℕ → Type 0
AreBelow n [] = 0 < n
AreBelow n (place ∷ up) = (place < n) × AreBelow n up

pub below_more : (n m : ℕ) (open_at : List ℕ) → n ≤ m → AreBelow n open_at → AreBelow m open_at
below_more n m [] h are = omega arith
below_more n m (place ∷ up) h are = (omega (arith, are.0), below_more n m up h are.1)

below_less : (n : ℕ) (open_at : List ℕ) → AreBelow n open_at → AreBelow n (less open_at)
below_less n [] are = are
below_less n (place ∷ up) are = are.1

pub top_below : (n : ℕ) (open_at : List ℕ) → AreBelow n open_at → top open_at < n
top_below n [] are = are
top_below n (place ∷ up) are = are.0

pub with_text_least : (strip : Bool) (w : Work) → length w.lines ≤ length (with_text strip w)
with_text_least strip w = by (is_kept_text strip w.gathered)
  where
    by : (b : Bool) → length w.lines ≤ length (cond b (with_leaf (text_label w.gathered) w.lines w.open_at) w.lines)
    by true = omega (arith, length-with_leaf (text_label w.gathered) w.lines w.open_at)
    by false = omega arith

-- what each piece keeps
pub record IsOpened (w : Work) : Type 0 where
  pub below : AreBelow (length w.lines) w.open_at
  pub scopes : length w.outer ≡ length w.open_at

length-less : {A B : Type 0} (xs : List A) (ys : List B) → length xs ≡ length ys → length (less xs) ≡ length (less ys)
length-less [] [] h = refl
length-less [] (y ∷ ys) h = absurd (omega (arith, h))
length-less (x ∷ xs) [] h = absurd (omega (arith, h))
length-less (x ∷ xs) (y ∷ ys) h = omega (arith, h)

pub begin_opened : (from : ℕ) → IsOpened (begin_work from)
begin_opened from = record { below = omega arith; scopes = refl }

step_opened : (strip : Bool) (mode : Mode) (w : Work) (t : Token) → IsOpened w → IsOpened (works_at strip mode w t)
step_opened strip in_content w (part_token p) is = record { below = is.below; scopes = is.scopes }
step_opened strip in_content w (cdata_token bytes) is = record { below = is.below; scopes = is.scopes }
step_opened strip in_content w (comm_token bytes) is =
    let e = length-with_leaf (comm_label bytes) (with_text strip w) w.open_at in
    record { below = below_more (length w.lines) (length (with_leaf (comm_label bytes) (with_text strip w) w.open_at)) w.open_at (omega (arith, with_text_least strip w, e)) is.below; scopes = is.scopes }
step_opened strip in_content w (pi_token target gap bytes) is =
    let e = length-with_leaf (pi_label target bytes) (with_text strip w) w.open_at in
    record { below = below_more (length w.lines) (length (with_leaf (pi_label target bytes) (with_text strip w) w.open_at)) w.open_at (omega (arith, with_text_least strip w, e)) is.below; scopes = is.scopes }
step_opened strip in_content w (open_token name) is =
    record { below = below_more (length w.lines) (length (with_text strip w)) w.open_at (with_text_least strip w) is.below; scopes = is.scopes }
step_opened strip in_content w (close_token name last) is =
    let e = length-ended w.open_at (with_text strip w) in
    record {
      below = below_less (length (ended w.open_at (with_text strip w))) w.open_at
          (below_more (length w.lines) (length (ended w.open_at (with_text strip w))) w.open_at (omega (arith, with_text_least strip w, e)) is.below);
      scopes = length-less w.outer w.open_at is.scopes;
    }
step_opened strip (in_tag tag) w (attr_token gap key before behind delim) is = record { below = is.below; scopes = is.scopes }
step_opened strip (in_tag tag) w (go_token gap) is =
    let inside = with_attrs tag.pairs w.scope in
    let e = length-with_tag (tag_label inside tag.name tag.pairs) (attr_labels inside tag.pairs) w.lines w.open_at in
    record {
      below = (omega (arith, e), below_more (length w.lines) (length (works_at strip (in_tag tag) w (go_token gap)).lines) w.open_at (omega (arith, e)) is.below);
      scopes = omega (arith, is.scopes);
    }
step_opened strip (in_tag tag) w (shut_token gap) is =
    let inside = with_attrs tag.pairs w.scope in
    let e = length-with_tag (tag_label inside tag.name tag.pairs) (attr_labels inside tag.pairs) w.lines w.open_at in
    record { below = below_more (length w.lines) (length (works_at strip (in_tag tag) w (shut_token gap)).lines) w.open_at (omega (arith, e)) is.below; scopes = is.scopes }
step_opened strip (in_value tag key value) w (part_token p) is = record { below = is.below; scopes = is.scopes }
step_opened strip (in_value tag key value) w (quote_token delim) is = record { below = is.below; scopes = is.scopes }
step_opened strip mode w t is = is

pub works_opened : (strip : Bool) (w : Work) (t : Token) → IsOpened w → IsOpened (works strip w t)
unfolding works
works_opened strip w t is = let now = step_opened strip w.mode w t is in record { below = now.below; scopes = now.scopes }

pub all_opened : (strip : Bool) (ts : List Token) (w : Work) → IsOpened w → IsOpened (all_works strip ts w)
all_opened strip [] w is = is
all_opened strip (t ∷ ts) w is = all_opened strip ts (works strip w t) (works_opened strip w t is)
