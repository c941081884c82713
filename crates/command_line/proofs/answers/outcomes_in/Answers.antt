use Rattle.std.proofs.Common.{◌≡◌, arith, lit<, rules}
use Rattle.std.specs.Prelude.{None}
use Rattle.std.specs.List.{slice_split}
use Rattle.std.proofs.lemmas.Iterator.Consumers.{YieldsList-end, YieldsList-turn}
use Rattle.std.proofs.lemmas.Iterator.Splits.{YieldsList-from_str_split}
use Rattle.std.proofs.lemmas.List.{length_push}
use Rattle.command_line.specs.Chosen.{is_comma}
use Rattle.command_line.proofs.ChosenLemmas.{all_taken, refused_next, taken_next}
use Rattle.command_line.proofs.answers.outcomes_in.Goals as goal

pub returns-in_default-clause-usage : goal.returns-in_default-clause-usage
returns-in_default-clause-usage c told =
    let none : c.outcome_named.result ≡ None = search rules in
    let t = YieldsList-turn (YieldsList-from_str_split 44 c.args.text.now (lit< tt) (cc) (cc) (cc)) c.loop-word.yielded _ c.loop-word.yielded_by _ _ c.in-Some.word c.in-Some.is c.next.ensures.steps in
    refused_next (slice_split is_comma c.args.text.now) _ c.in-Some.word.now t _ c.loop-word.outcomes.items c.loop-word.invariant (cc (none, c.outcome_named.ensures))

pub loop-word-preserved : goal.loop-word-preserved
loop-word-preserved c =
    let t = YieldsList-turn (YieldsList-from_str_split 44 c.args.text.now (lit< tt) (cc) (cc) (cc)) c.loop-word.yielded _ c.loop-word.yielded_by _ _ c.in-Some.word c.in-Some.is c.next.ensures.steps in
    taken_next (slice_split is_comma c.args.text.now) _ c.in-Some.word.now t _ c.loop-word.outcomes.items c.push.new.self.items c.in-Some-outcome_named.outcome _ c.loop-word.invariant
    (cc (c.in-Some-outcome_named.ensures)) (search rules) (length_push c.loop-word.yielded c.in-Some.word)

pub returns-clause-ok : goal.returns-clause-ok
returns-clause-ok c =
    let t = YieldsList-end (YieldsList-from_str_split 44 c.args.text.now (lit< tt) (cc) (cc) (cc)) c.loop-word.yielded _ c.loop-word.yielded_by _ _ c.in-None.is c.next.ensures.steps in
    all_taken (slice_split is_comma c.args.text.now) _ _ c.loop-word.outcomes.items (omega (arith, t.1)) c.loop-word.invariant
