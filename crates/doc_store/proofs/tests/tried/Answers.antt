use Rattle.std.proofs.Common.{refl}
use Rattle.std.specs.Str.{is_utf8, chars}
use lib.Utf8.{encode}
use Rattle.doc_store.proofs.tests.tried.Goals as goal

pub put_first-done-requires-clause-chars : goal.put_first-done-requires-clause-chars
unfolding is_utf8 chars encode
put_first-done-requires-clause-chars c = refl
