use Rattle.std.proofs.Common.{append_assoc}
use Rattle.std.specs.Prelude.{codes}
use Rattle.debug_session.specs.Words.{ram_count_words}
use Rattle.debug_session.proofs.words.put_rest.Goals as goal

pub returns : goal.returns
returns c =
    let told = c.put.ensures in
    rw (c.in_ok-put_ram_count.ensures, append_assoc c.args.text.now.items (ram_count_words c.args.rest) (codes " more bytes\n")) at told
