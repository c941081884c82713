use Rattle.std.proofs.Common.{◌∙◌}
use Rattle.def_use.specs.Words.{bits_at}
use Rattle.def_use.proofs.BoardWords.{blank_place, written_place, other_place}
use Rattle.def_use.proofs.boards.write.Goals as goal

pub written-requires-clause-blank : goal.written-requires-clause-blank
unfolding bits_at
written-requires-clause-blank c = blank_place c.args.words.now c.args.place c.requires.blank

pub returns-clause-here : goal.returns-clause-here
returns-clause-here c = written_place c.args.words.now c.args.place c.written.result c.args.outcome c.requires.within (c.written.ensures.here ∙ c.number.ensures) c.written.ensures.others

pub returns-clause-others : goal.returns-clause-others
returns-clause-others c = other_place c.args.words.now c.args.place c.written.result c.args.outcome c.requires.within (c.written.ensures.here ∙ c.number.ensures) c.written.ensures.others
