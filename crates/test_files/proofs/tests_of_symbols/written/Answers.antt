use Rattle.std.proofs.Common.{◌≡◌, ◌<◌, length, sym, ap, ◌∙◌, arith}
use Rattle.fs_model.specs.Run.{cycles_of}
use Rattle.test_files.proofs.tests_of_symbols.written.Goals as goal

-- a golden run has as many instructions as lists of touches
pub write_symbols-requires-clause-pcs : goal.write_symbols-requires-clause-pcs
unfolding cycles_of
write_symbols-requires-clause-pcs g c =
    let golden = c.requires.golden in
    let long = ap length c.pcs.ensures in
    record {
      as_many = long ∙ golden.as_many ∙ sym (ap cycles_of golden.ends);
      fetched = λ t low. rw c.pcs.ensures (golden.fetched t (omega (arith, long, golden.as_many)));
    }
