use Rattle.std.proofs.Common.{rules, ◌≡◌, length, min, Ok, sym, ◌∙◌}
use Rattle.fs_model.specs.Card.{card}
use Rattle.keep_format.specs.KeepFile.{header_of}
use Rattle.result_keeper.proofs.FileFronts.{front_header, front_differs}
use Rattle.result_keeper.proofs.Opened.{refused_head, refused_case}
use Rattle.result_keeper.proofs.accepting.judge.Goals as goal

pub returns-in-Err-clause-refused : goal.returns-in-Err-clause-refused
returns-in-Err-clause-refused c =
    λ file front some. refused_head file c.args.case.now some c.in-Err.fault
    (sym (front_header (card c.args.case.now) file c.args.front.now c.args.len front) ∙ sym c.in-Err.ensures)

pub returns-in-Some-clause-refused : goal.returns-in-Some-clause-refused
returns-in-Some-clause-refused c =
    λ file front some.
    let bytes = c.args.front.now in
    let len = c.args.len in
    let read : header_of file ≡ Ok c.in-Ok.header = sym (front_header (card c.args.case.now) file bytes len front) ∙ sym c.in-Ok.ensures in
    let end : c.min-end.result ≡ min (length bytes) c.in-Ok.header.gate = search rules in
    refused_case file c.args.case.now some c.in-Ok.header read c.in-Some.at
    (sym (front_differs (card c.args.case.now) file bytes len front c.in-Ok.header c.min-end.result read end) ∙ sym c.in-Some.ensures)

pub returns-in-None-clause-known : goal.returns-in-None-clause-known
returns-in-None-clause-known c =
    λ file front.
    let bytes = c.args.front.now in
    let len = c.args.len in
    let read : header_of file ≡ Ok c.in-Ok.header = sym (front_header (card c.args.case.now) file bytes len front) ∙ sym c.in-Ok.ensures in
    let end : c.min-end.result ≡ min (length bytes) c.in-Ok.header.gate = search rules in
    record {
      is = read;
      same =
          sym (front_differs (card c.args.case.now) file bytes len front c.in-Ok.header c.min-end.result read end)
          ∙ sym c.in-None.ensures;
    }
