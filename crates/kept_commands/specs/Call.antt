-- What a call is given: its words, its image and its campaign files.
use Rattle.std.specs.Prelude.{ℕ, List, Option}
use Rattle.command_line.specs.Line.{RequestData, Text, line}
use Rattle.kept_commands.specs.Files.{Files, files_of}

-- what the words say, if they are a line; the bytes of the image, and those of the campaign files
pub record CallData : Type 0 where
  pub said : Option RequestData
  pub image : List ℕ
  pub files : Files

-- a call of `fail_star` with these words, where the image, the campaign file and the other campaign file have these
-- bytes
abbrev pub call_of : List Text → List ℕ → List ℕ → List ℕ → CallData
call_of words image file other = record { said = line words; image = image; files = files_of file other }
