use Rattle.std.proofs.Common.{◌≡◌, ◌∙◌, map, string_bytes}
use Rattle.clap.specs.Words.{app_of, found_of, rows_of, subcommand_of, subcommand_rows_of}
use Rattle.command_line.proofs.ParseLemmas.{refused, taken, texts_are}
use Rattle.command_line.specs.declared.line.LineRefusal.TheVariants.{Usage}
use Rattle.command_line.proofs.options.parsed.Goals as goal

pub returns-in-Ok-try_get_matches_from-clause-takes : goal.returns-in-Ok-try_get_matches_from-clause-takes
returns-in-Ok-try_get_matches_from-clause-takes c =
    taken c.args.set (app_of c.in-Ok.app) (map string_bytes c.args.words.now) c.in-Ok.ensures c.in-Ok-try_get_matches_from.ensures.kinds

pub returns-in-Ok-try_get_matches_from-clause-texts : goal.returns-in-Ok-try_get_matches_from-clause-texts
returns-in-Ok-try_get_matches_from-clause-texts c =
    let words = map string_bytes c.args.words.now in
    let m = c.in-Ok-try_get_matches_from.matches in
    texts_are c.args.set (app_of c.in-Ok.app) words (rows_of (found_of m))
    (λ a. subcommand_rows_of m ≡ subcommand_of a words) c.in-Ok.ensures c.in-Ok-try_get_matches_from.ensures.matches

pub returns-in-Err-clause-usage : goal.returns-in-Err-clause-usage
returns-in-Err-clause-usage c told =
    let is_usage : c.refusal_of.result ≡ Usage = cc in
    refused c.args.set (app_of c.in-Ok.app) (map string_bytes c.args.words.now) c.in-Err.e.kind c.in-Ok.ensures
    (λ memory. c.refusal_of.ensures.0 is_usage (c.kind.ensures ∙ memory)) c.in-Err.ensures.kinds
