use Rattle.std.proofs.Common.{◌≡◌, Option, Some, None, sym, ap, subst, ◌∙◌}
use Rattle.std.specs.BTreeMap.{Updates}
use Rattle.keep_format.specs.declared.agreement.Marks.{Marks}
use Rattle.keep_format.specs.KeepFile.{byte_of}
use Rattle.keep_format.specs.Marks.{apart_in}
use Rattle.keep_format.proofs.Names.{name_cmp, name_of}
use Rattle.keep_format.proofs.Lists.{passes}
use Rattle.keep_format.proofs.Seen.{seen_in, told_more, all_kept, map_more}
use Rattle.keep_format.proofs.conflicts.find_in_map.Goals as goal

pub loop-row-preserved : goal.loop-row-preserved
loop-row-preserved c =
    let before = c.loop-row.yielded in
    let row = c.in-Some.row in
    let here : seen_in before (name_of row) ≡ c.copied-before.result = sym (c.loop-row.invariant.seen (name_of row)) ∙ sym c.get.ensures.value ∙ sym c.copied-before.ensures in
    let none : apart_in (seen_in before (name_of row)) (byte_of row.outcome) ≡ None = ap (λ (s : Option Marks). apart_in s (byte_of row.outcome)) here ∙ cc in
    record {
      can_next = tt;
      is_finite = tt;
      so_far = passes before c.next.new.self c.loop-row.row-iterator row _ c.in-Some.ensures.steps (c.loop-row.invariant.told row ∙ none) c.loop-row.invariant.so_far;
      seen = map_more before row c.loop-row.seen c.insert.new.self c.loop-row.invariant.seen
          (subst (λ (m : Marks). Updates name_cmp c.loop-row.seen c.insert.new.self (name_of row) (Some m)) (cc) c.in-Ok.ensures.updates);
      told = told_more before row c.loop-row.invariant.kept none c.loop-row.invariant.told;
      kept = all_kept before row c.loop-row.invariant.kept none;
    }
