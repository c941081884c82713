-- What a call of `fail_window` is given: its words, its image and its campaign file.
use Rattle.std.specs.Prelude.{ℕ, List, [], Option, Some, None, unwrap_or}
use Rattle.command_line.specs.Commands.{Text}
use Rattle.command_line.specs.Window.{WindowLineData, window_line}

-- what the words say, if they are a line; the bytes of the image, and those of the campaign file
pub record WindowCall : Type 0 where
  pub said : Option WindowLineData
  pub image : List ℕ
  pub file : List ℕ

abbrev pub window_call : List Text → List ℕ → List ℕ → WindowCall
window_call words image file = record { said = window_line words; image = image; file = file }

-- the same of words that are this line
abbrev pub loaded_call : WindowLineData → List ℕ → List ℕ → WindowCall
loaded_call line image file = record { said = Some line; image = image; file = file }

-- the function that the words name; nothing if they name none
abbrev pub function_said : Option WindowLineData → Text
function_said None = []
function_said (Some settings) = unwrap_or settings.part.function []
