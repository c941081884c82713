use Rattle.std.proofs.Common.{arith}
use Rattle.def_use.proofs.Words.{changed_fits, change_whole, written_here, written_others}
use Rattle.def_use.proofs.boards.written.Goals as goal

pub overflow_cast-result : goal.overflow_cast-result
overflow_cast-result c = let e = changed_fits c.args.number c.requires.number in record { fits = omega (arith, e) }

pub returns-clause-here : goal.returns-clause-here
returns-clause-here c = rw (change_whole c.args.word c.args.place c.args.number c.requires.number c.requires.blank c.requires.place) (written_here c.args.word c.args.place c.args.number c.requires.number c.requires.blank)

pub returns-clause-others : goal.returns-clause-others
returns-clause-others c = rw (change_whole c.args.word c.args.place c.args.number c.requires.number c.requires.blank c.requires.place) (written_others c.args.word c.args.place c.args.number c.requires.number c.requires.blank)
