use Rattle.std.proofs.Common.{◌≡◌, Err, ap, string_bytes}
use Rattle.command_line.specs.Options.{texts_of}
use Rattle.command_line.specs.declared.line.LineRefusal.TheVariants.{Usage}
use Rattle.command_line.proofs.LineLemmas.{all_given, nothing_given, passed}
use Rattle.command_line.proofs.words.read_given.Goals as goal

pub returns-in-Err-clause-usage : goal.returns-in-Err-clause-usage
returns-in-Err-clause-usage c told =
    let is_usage : c.in-Err.refusal ≡ Usage = cc in
    nothing_given c.args.set c.args.place c.args.n _ _ _
    (passed string_bytes c.args.place c.args.n c.args.words.now c.split_at.result.1.now c.in-Some.files.now c.requires.least c.in-Some.ensures c.split_at.ensures.back)
    (c.in-Err.ensures.usage (ap Err is_usage))

pub returns-in-Ok-clause-ok : goal.returns-in-Ok-clause-ok
returns-in-Ok-clause-ok c =
    all_given c.args.set c.args.place c.args.n _ _ _ (texts_of c.in-Ok.matches)
    (passed string_bytes c.args.place c.args.n c.args.words.now c.split_at.result.1.now c.in-Some.files.now c.requires.least c.in-Some.ensures c.split_at.ensures.back)
    c.in-Ok.ensures.takes c.in-Ok.ensures.texts
