-- What is answered to the writing of a document.
use Rattle.std.specs.Prelude.{◌≡◌, ◌⊎◌, ℕ, List, [], codes}
use Rattle.outer_io.specs.Files.{FilesSeen}
use Rattle.kernel_session.specs.FileCodes.{XKFI0002, file_code_text}
use Rattle.kernel_session.specs.Replies.{Answer, accepted, refused}
use Rattle.kernel_session.specs.Steps.{AreAsBefore, IsExported, IsNotExported}

-- the file has the text; or the write failed, or memory was wanting
abbrev pub IsWrittenReply : List ℕ → List ℕ → FilesSeen → FilesSeen → Answer → Type 0
IsWrittenReply name text before now (accepted payload) = (payload ≡ []) × IsExported name text before now
IsWrittenReply name text before now (refused code) =
    ((code ≡ file_code_text XKFI0002) × IsNotExported name before now) ⊎ ((code ≡ codes "XKMEM") × AreAsBefore before now)
