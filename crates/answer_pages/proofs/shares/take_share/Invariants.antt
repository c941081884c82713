use Rattle.std.proofs.Common.{◌≡◌, ◌+◌, ◌≤◌, ◌++◌, vec_len}
use Rattle.std.specs.Prelude.{All}
use Rattle.run_answers.specs.Reference.{IsJobIn}
use Rattle.answer_pages.specs.Ready.{lines_asked_behind}
use Rattle.answer_pages.specs.Workers.{share_text}
use Rattle.answer_pages.proofs.shares.take_share.Given as goal

abbrev pub invariant-loop-number : goal.invariant-loop-number
invariant-loop-number l = record {
  walk : l.walk ≡ l.fn.walk;
  few : vec_len l.claims + l.from ≤ l.number;
  jobs : All (λ claim. IsJobIn l.answers.case.now claim.job) l.claims.items;
  text : lines_asked_behind l.answers l.from ≡ share_text l.answers.case.now l.claims.items ++ lines_asked_behind l.answers l.number;
}
