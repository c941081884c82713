use Rattle.std.proofs.Common.{rules, ◌≡◌, ℕ, List, length, take, min, refl, ap, ◌∙◌, arith}
use Rattle.std.proofs.lemmas.List.{nil_from_length, take_min}
use Rattle.result_keeper.specs.Reading.{IsFront, front_len}
use Rattle.result_keeper.proofs.Settled.{blank_new, empty_gives}
use Rattle.result_keeper.proofs.bytes.board_of.Goals as goal

-- the front of bytes that are at hand
front_of : (file : List ℕ) (most end : ℕ) → end ≡ min (length file) most → IsFront most file (take end file) (length file)
front_of file most end is =
    let least : end ≡ min most (length file) = omega (arith, is) in
    record { same_len = refl; first = ap (λ (k : ℕ). take k file) least ∙ take_min most file }

pub returns-then-is_empty-clause-board : goal.returns-then-is_empty-clause-board
returns-then-is_empty-clause-board c =
    let none : length c.args.bytes.now ≡ 0 = search rules in
    empty_gives c.args.case.now c.args.list.now.list c.in-Ok.blank c.args.bytes.now c.requires (blank_new c.args.list.now.list c.in-Ok.blank c.len.result c.len.ensures c.in-Ok.ensures)
    (nil_from_length c.args.bytes.now none)

pub accept_behind-requires-clause-blank : goal.accept_behind-requires-clause-blank
accept_behind-requires-clause-blank c = blank_new c.args.list.now.list c.in-Ok.blank c.len.result c.len.ensures c.in-Ok.ensures

pub returns-in-Ok-accept_behind-clause-board : goal.returns-in-Ok-accept_behind-clause-board
returns-in-Ok-accept_behind-clause-board c =
    let end : c.min-end.result ≡ min (length c.args.bytes.now) (front_len c.args.case.now) = search rules in
    (c.in-Ok-accept_behind.ensures.accepted (c.in-Ok-judge.ensures.known c.args.bytes.now (front_of c.args.bytes.now (front_len c.args.case.now) c.min-end.result end))).accepted

pub returns-in-Err-accept_behind-clause-refused : goal.returns-in-Err-accept_behind-clause-refused
returns-in-Err-accept_behind-clause-refused c =
    let end : c.min-end.result ≡ min (length c.args.bytes.now) (front_len c.args.case.now) = search rules in
    c.in-Err-accept_behind.ensures.refused (c.in-Ok-judge.ensures.known c.args.bytes.now (front_of c.args.bytes.now (front_len c.args.case.now) c.min-end.result end))
