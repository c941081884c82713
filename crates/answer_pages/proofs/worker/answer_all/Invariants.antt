use Rattle.std.proofs.Common.{◌≡◌, take}
use Rattle.answer_pages.specs.Workers.{share_text}
use Rattle.answer_pages.proofs.worker.answer_all.Given as goal

abbrev pub invariant-loop-claim : goal.invariant-loop-claim
invariant-loop-claim g l = record {
  case : l.runner ≡ l.fn.runner;
  text : l.text.items ≡ share_text l.reference (take l.claim-index l.claims);
}
