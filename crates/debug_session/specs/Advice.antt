-- What a person is told of the monitor commands.
use Rattle.std.specs.Prelude.{ℕ, List, codes}
use Rattle.debug_session.specs.declared.advice.TheConstants.{COMMANDS}
use Rattle.debug_session.specs.declared.commands.Advice.{Advice}
use Rattle.debug_session.specs.declared.commands.Advice.TheVariants as advice

abbrev pub advice_words : Advice → List ℕ
advice_words advice.Commands = COMMANDS.now
advice_words advice.NoCommand = codes "there is no such command: monitor help lists them\n"
advice_words advice.NoNumber = codes "monitor goto takes a number of instructions, such as monitor goto 20\n"
advice_words advice.NoRegister = codes "monitor last-write takes a register, x0 to x31, such as monitor last-write x11\n"
