-- Opening a nest, by how many more may be opened.
use Rattle.std.proofs.Common.{◌≡◌, ℕ, suc, length, Err, ap}
use Rattle.query_terms.specs.declared.stop.Nest.{Nest}
use Rattle.query_terms.specs.declared.stop.Stop.TheVariants.{TooDeep}
use Rattle.query_terms.specs.Rule.{Text, call, nested}
use Rattle.query_terms.specs.Grammar.{rule_of}
use Rattle.query_terms.specs.Parse.{opened}
use Rattle.query_tokens.specs.Reads.{at, reading, looked_up}
use Rattle.query_tokens.specs.declared.source.QuerySource.{QuerySource}

-- the place inside, where one nest fewer may be opened
abbrev pub inside : QuerySource → ℕ → QuerySource
inside source room = record { query = source.query; comment_ends = source.comment_ends; room = room }

pub nest_refused : (source : QuerySource) (nest : Nest) (s : Text) → source.room ≡ 0 → at source (call (nested nest)) s ≡ Err TooDeep
unfolding reading opened
nest_refused source nest s none = ap (λ (n : ℕ). opened (length source.query.now) (looked_up source.comment_ends.now) n nest s) none

pub nest_opened : (source : QuerySource) (room : ℕ) (nest : Nest) (s : Text) → source.room ≡ suc room → at source (call (nested nest)) s ≡ at (inside source room) (rule_of nest) s
unfolding reading opened
nest_opened source room nest s some = ap (λ (n : ℕ). opened (length source.query.now) (looked_up source.comment_ends.now) n nest s) some
