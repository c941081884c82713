-- What computing gives for the words of the commands.
use Rattle.std.proofs.Common.{refl}
use Rattle.command_line.specs.Commands.{WordsNameCommands, command_named}
use Rattle.command_line.specs.declared.commands.Command.TheVariants as command

-- the second line is checked for each command that is left
pub word_names_command : WordsNameCommands
unfolding command_named
word_names_command command.Run = refl
word_names_command _ = refl
